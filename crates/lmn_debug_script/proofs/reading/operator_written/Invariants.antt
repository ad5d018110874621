use Rattle.std.proofs.Common.{◌≡◌, take}
use Rattle.std.specs.List.{AllByRecursion}
use Rattle.lmn_debug_script.specs.Scripts.{cmp_text}
use Rattle.lmn_debug_script.specs.declared.reading.TheConstants.{OPERATORS}
use Rattle.lmn_debug_script.proofs.reading.operator_written.Given as goal

abbrev pub invariant-loop-op : goal.invariant-loop-op
invariant-loop-op l = AllByRecursion (λ op. cmp_text op ≡ l.text → ⊥) (take l.op-index OPERATORS)
