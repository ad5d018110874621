use Rattle.std.proofs.Common.{refl}
use Rattle.lmn_flatten.proofs.CopyLemmas.{counts_all, counts_link, counts_none}
use Rattle.lmn_flatten.proofs.kept.count_links.Goals as goal

pub loop-occ-init : goal.loop-occ-init
loop-occ-init c = counts_none c.args.counts.now

pub loop-occ-preserved : goal.loop-occ-preserved
loop-occ-preserved c = counts_link c.args.links.now c.loop-occ.occ-index _ _ c.args.counts.now c.loop-occ.counts c.count_link.new.counts c.loop-occ-test.true refl c.loop-occ.invariant c.count_link.ensures

pub returns : goal.returns
returns c = counts_all c.args.links.now c.loop-occ.occ-index c.args.counts.now c.loop-occ.counts c.loop-occ-test.false c.loop-occ.invariant
