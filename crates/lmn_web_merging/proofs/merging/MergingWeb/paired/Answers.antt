use Rattle.std.proofs.Common.{List, subst}
use Rattle.lmn_web_cells.specs.Rows.{Row}
use Rattle.lmn_web.specs.Webs.{web_by, IsPaired}
use Rattle.lmn_web_merging.specs.Keepers.{merged_by}
use Rattle.lmn_web_merging.proofs.Seen.{seen_paired}
use Rattle.lmn_web_merging.proofs.merging.MergingWeb.paired.Goals as goal

pub returns : goal.returns
returns c = subst (λ (z : List Row). IsPaired (merged_by z)) c.self.view_is (seen_paired (web_by c.self.inside.web) c.paired.ensures c.self.invariant)
