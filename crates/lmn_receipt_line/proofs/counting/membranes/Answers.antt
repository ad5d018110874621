use Rattle.std.proofs.Common.{sym, ◌∙◌}
use Rattle.std.specs.Borrow.{Bor}
use Rattle.lmn_base.specs.declared.solid.Region.{Region}
use Rattle.lmn_receipt_line.proofs.CountLemmas.{count_all, count_round, count_smaller}
use Rattle.lmn_receipt_line.proofs.LineLemmas.{count_is}
use Rattle.lmn_receipt_line.specs.Walking.{membrane_count}
use Rattle.lmn_receipt_line.proofs.counting.membranes.Goals as goal

pub loop-region-preserved : goal.loop-region-preserved
loop-region-preserved c =
    count_round (λ (r : Bor Region). r.now) c.loop-region.waiting.items c.pop.new.self.items c.push_inner.new.waiting.items _ c.loop-region.count _ _ c.in-Some.ensures.items c.in_ok-push_inner.ensures c.in_ok-count.ensures c.loop-region.invariant

pub loop-region-smaller : goal.loop-region-smaller
loop-region-smaller c =
    count_smaller (λ (r : Bor Region). r.now) c.loop-region.waiting.items c.pop.new.self.items c.push_inner.new.waiting.items _ c.in-Some.ensures.items c.in_ok-push_inner.ensures

pub returns : goal.returns
returns c = λ names table.
    count_all (λ (r : Bor Region). r.now) c.loop-region.count (membrane_count c.args.solid.now.root) c.loop-region.waiting.items (sym c.loop-region.waiting.ok.0 ∙ c.in_default.ensures.cases.0) c.loop-region.invariant ∙ count_is names table c.args.solid.now
