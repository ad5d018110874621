use Rattle.std.proofs.Common.{◌≡◌, ◌++◌, ◌∷◌, sym, subst, ap, ◌∙◌}
use Rattle.lmn_instr_code.specs.HeadCode.{value_code, guard_code}
use Rattle.lmn_compile_head.specs.declared.conditions.Bound.{Bound}
use Rattle.lmn_compile_head.specs.Bindings.{bound_of, part_numbers}
use Rattle.lmn_compile_head.proofs.Bounds.{bound_more, bound_made}
use Rattle.lmn_compile_head.proofs.conditions.add_condition.Goals as goal

pub returns-in_ok-push-in-None-clause-code : goal.returns-in_ok-push-in-None-clause-code
returns-in_ok-push-in-None-clause-code c = λ cs.
    let P = part_numbers c.args.items.now in
    let B = bound_of c.args.bound.now in
    let value = subst (λ bs. (c.add_value-in-None.new.code ≡ c.args.code.now ++ (value_code P (bound_of bs) c.in-Equal.right c.args.next).code)
    × (c.in_ok-value-in-None.value.at ≡ (value_code P (bound_of bs) c.in-Equal.right c.args.next).at)
    × (c.in_ok-value-in-None.value.next ≡ (value_code P (bound_of bs) c.in-Equal.right c.args.next).next)) c.as_slice-in-None.ensures c.in_ok-value-in-None.ensures.code in
    let one : Bound = record { name = c.in-Equal.left.name; register = c.in_ok-value-in-None.value.at } in
    bound_made P B c.args.next c.in-Equal.left c.in-Equal.right c.in-Equal.pos cs c.args.code.now c.add_value-in-None.new.code (bound_of c.push-in-None.new.self) c.in_ok-value-in-None.value.at c.in_ok-value-in-None.value.next
    (sym c.part_named.ensures ∙ c.in-None.is) value.0 value.1 value.2 (ap bound_of c.in_ok-push-in-None.ensures.ok ∙ bound_more c.args.bound.now one)
    ∙ ap (λ k. c.args.code.now ++ guard_code P B c.args.next (k ∷ cs)) (sym c.in-Equal.is)
