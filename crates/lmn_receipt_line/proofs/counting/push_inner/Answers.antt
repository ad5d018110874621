use Rattle.std.proofs.Common.{refl}
use Rattle.std.specs.Borrow.{Bor}
use Rattle.lmn_base.specs.declared.solid.Region.{Region}
use Rattle.lmn_receipt_line.proofs.CountLemmas.{waits_more, waits_all}
use Rattle.lmn_receipt_line.proofs.counting.push_inner.Goals as goal

pub loop-inner-preserved : goal.loop-inner-preserved
loop-inner-preserved c =
    waits_more (λ (r : Bor Region). r.now) c.args.waiting.now.items c.loop-inner.waiting.items c.push.new.self.items _ c.inner-item.result c.loop-inner.inner-index c.as_slice-inner-items.result.now c.in_ok-push.ensures.items c.loop-inner-test.true refl c.inner-item.is c.loop-inner.invariant

pub returns : goal.returns
returns c =
    waits_all (λ (r : Bor Region). r.now) c.args.waiting.now.items c.loop-inner.waiting.items c.loop-inner.inner-index c.as_slice-inner-items.result.now _ c.loop-inner-test.false c.as_slice-inner-items.ensures c.loop-inner.invariant
