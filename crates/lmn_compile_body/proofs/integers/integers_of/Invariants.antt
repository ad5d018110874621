use Rattle.std.proofs.Common.{◌≡◌, ◌≤◌, ◌+◌, ◌*◌, drop}
use Rattle.std.specs.Prelude.{sum_by}
use Rattle.lmn_base_walks.specs.RuleCodes.{condition_tokens}
use Rattle.lmn_compile_body.specs.Naming.{registers_by, guard_registers}
use Rattle.lmn_compile_body.proofs.integers.integers_of.Given as goal
use Rattle.lmn_compile_head.specs.Bindings.{part_numbers}

abbrev pub invariant-loop-condition : goal.invariant-loop-condition
invariant-loop-condition l = record {
  same : guard_registers (part_numbers l.items) (registers_by l.integers) l.next (drop l.condition-index l.guard) ≡ guard_registers (part_numbers l.items) (λ x. 0) 0 l.guard;
  room : l.next + 2 * sum_by condition_tokens (drop l.condition-index l.guard) ≤ 512;
}
