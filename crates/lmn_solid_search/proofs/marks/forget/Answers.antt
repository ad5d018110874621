use Rattle.lmn_solid_search.proofs.MarkLemmas.{one_forgotten}
use Rattle.lmn_solid_search.proofs.marks.forget.Goals as goal

pub loop-place-preserved : goal.loop-place-preserved
loop-place-preserved c = one_forgotten c.loop-place.place c.args.marks.now c.loop-place.marks c.loop-place.invariant c.loop-place-test.true
