use Rattle.std.proofs.Common.{List, IsSome, sym, subst}
use Rattle.lmn_web_cells.specs.Rows.{Row}
use Rattle.lmn_web_cells.specs.CellIds.{cell_id}
use Rattle.lmn_web.specs.Webs.{web_by}
use Rattle.lmn_web_merging.specs.Keepers.{merged_by}
use Rattle.lmn_web_merging.proofs.Seen.{seen_there}
use Rattle.lmn_web_merging.proofs.merging.MergingWeb.same.Goals as goal

pub same-requires-clause-first : goal.same-requires-clause-first
same-requires-clause-first c = (seen_there (web_by c.self.inside.web) (cell_id c.args.a) (subst (λ (z : List Row). IsSome (merged_by z (cell_id c.args.a))) (sym c.self.view_is) c.requires.first)).0

pub same-requires-clause-second : goal.same-requires-clause-second
same-requires-clause-second c = (seen_there (web_by c.self.inside.web) (cell_id c.args.b) (subst (λ (z : List Row). IsSome (merged_by z (cell_id c.args.b))) (sym c.self.view_is) c.requires.second)).0
