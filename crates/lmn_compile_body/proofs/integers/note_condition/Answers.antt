use Rattle.std.proofs.Common.{◌∷◌, sym, ap, ◌∙◌}
use Rattle.lmn_compile_body.specs.Naming.{registers_by, guard_registers}
use Rattle.lmn_compile_body.proofs.Registers.{compared, bound}
use Rattle.lmn_compile_body.proofs.integers.note_condition.Goals as goal
use Rattle.lmn_compile_head.specs.Bindings.{part_numbers}

pub returns-in-Compare-clause-same : goal.returns-in-Compare-clause-same
returns-in-Compare-clause-same c = λ cs.
    let P = part_numbers c.args.items.now in
    compared P c.args.next c.in-Compare.op c.in-Compare.left c.in-Compare.right c.in-Compare.pos cs c.args.integers.now c.as_slice.result.now c.as_slice-in-Compare.result.now
    c.value_of-a.result.next c.value_of-b.result.next c.as_slice.ensures c.as_slice-in-Compare.ensures c.value_of-a.ensures.next c.value_of-b.ensures.next
    ∙ ap (λ k. guard_registers P (registers_by c.args.integers.now) c.args.next (k ∷ cs)) (sym c.in-Compare.is)

pub returns-in_ok-push-in-None-clause-same : goal.returns-in_ok-push-in-None-clause-same
returns-in_ok-push-in-None-clause-same c = λ cs.
    let P = part_numbers c.args.items.now in
    bound P c.args.next c.in-Equal.left c.in-Equal.right c.in-Equal.pos cs c.args.integers.now c.as_slice-in-None.result.now c.push.new.self c.value_of-value.result.at c.value_of-value.result.next
    (sym c.part_of.ensures ∙ c.in-None.is) c.as_slice-in-None.ensures c.value_of-value.ensures.at c.value_of-value.ensures.next c.in_ok-push-in-None.ensures.ok
    ∙ ap (λ k. guard_registers P (registers_by c.args.integers.now) c.args.next (k ∷ cs)) (sym c.in-Equal.is)
