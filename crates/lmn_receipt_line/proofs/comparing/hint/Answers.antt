use Rattle.std.proofs.Common.{ℕ, ◌<◌, arith}
use Rattle.lmn_base.proofs.Lists.{holds_of_item}
use Rattle.lmn_receipt_line.specs.Walking.{IsWithin, Steps, membrane_count}
use Rattle.lmn_receipt_line.proofs.FrontLemmas.{state}
use Rattle.lmn_receipt_line.proofs.LineLemmas.{count_is}
use Rattle.lmn_receipt_line.proofs.comparing.hint.Goals as goal

pub returns-then-is_err : goal.returns-then-is_err
returns-then-is_err c =
    let below = holds_of_item (λ k. (most : ℕ) → IsWithin most c.loop-walk.walk.open.items c.loop-walk.walk.entered → k < most) c.in_ok-number.field-0 c.in-Some.number c.in-Some.is c.in_ok-number.ensures.number in
    let l = below (membrane_count c.args.solid.now.root) c.loop-walk.invariant in
    let e = count_is c.args.names.now c.args.table.now c.args.solid.now in
    omega (arith, l, e)

pub loop-walk-preserved : goal.loop-walk-preserved
loop-walk-preserved c =
    let steps = holds_of_item (λ k. Steps c.args.names.now c.args.table.now c.loop-walk.walk.open.items c.step.new.self.open.items c.loop-walk.walk.entered c.step.new.self.entered (state c.loop-walk.buffer c.loop-walk.out) (state c.step.new.buffer c.step.new.out)) c.in_ok-number.field-0 c.in-Some.number c.in-Some.is c.in_ok-number.ensures.some in
    steps.within (membrane_count c.args.solid.now.root) c.loop-walk.invariant
