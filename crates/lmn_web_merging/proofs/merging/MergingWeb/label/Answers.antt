use Rattle.std.proofs.Common.{◌≡◌, List, Some, IsSome, sym, subst, ◌∙◌}
use Rattle.lmn_web_cells.specs.Rows.{Row}
use Rattle.lmn_web_cells.specs.CellIds.{cell_id}
use Rattle.lmn_web.specs.Webs.{web_by, web_label}
use Rattle.lmn_web_merging.specs.Keepers.{merged_by}
use Rattle.lmn_web_merging.proofs.Seen.{seen_there, seen_label}
use Rattle.lmn_web_merging.proofs.merging.MergingWeb.label.Goals as goal

pub label-requires : goal.label-requires
label-requires c = (seen_there (web_by c.self.inside.web) (cell_id c.args.c) (subst (λ (z : List Row). IsSome (merged_by z (cell_id c.args.c))) (sym c.self.view_is) c.requires)).0

pub returns : goal.returns
returns c = subst (λ (z : List Row). web_label (merged_by z) (cell_id c.args.c) ≡ Some c.label.result) c.self.view_is (seen_label (web_by c.self.inside.web) (cell_id c.args.c) (seen_there (web_by c.self.inside.web) (cell_id c.args.c) (subst (λ (z : List Row). IsSome (merged_by z (cell_id c.args.c))) (sym c.self.view_is) c.requires)).1 ∙ c.label.ensures)
