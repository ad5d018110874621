use Rattle.std.proofs.Common.{◌≡◌, ◌≤◌, ◌+◌, ◌*◌, ◌++◌, drop}
use Rattle.std.specs.Prelude.{sum_by}
use Rattle.lmn_base_walks.specs.RuleCodes.{condition_tokens}
use Rattle.lmn_instr_code.specs.HeadCode.{guard_code}
use Rattle.lmn_compile_head.specs.Bindings.{bound_of, part_numbers}
use Rattle.lmn_compile_head.proofs.conditions.add_guard.Given as goal

abbrev pub invariant-loop-condition : goal.invariant-loop-condition
invariant-loop-condition l = record {
  same :
      l.code ++ guard_code (part_numbers l.items) (bound_of l.bound) l.next (drop l.condition-index l.guard) ≡ l.fn.code ++ guard_code (part_numbers l.items) (λ x. 0) 0 l.guard;
  room : l.next + 2 * sum_by condition_tokens (drop l.condition-index l.guard) ≤ 512;
}
