use Rattle.lmn_solid_firing.proofs.Telling.{links_below}
use Rattle.lmn_solid_firing.proofs.matching.above_links.Goals as goal

pub returns : goal.returns
returns c = links_below c.args.flat.now c.link_count.result c.max.result c.link_count.ensures c.max.ensures
