use Rattle.std.proofs.Common.{◌≡◌, ℕ, List, Option, Some, IsSome, sym, subst, ◌∙◌}
use Rattle.lmn_web_cells.specs.Rows.{Row}
use Rattle.lmn_web_cells.specs.Cells.{cells_by}
use Rattle.lmn_web_cells.specs.CellIds.{cell_id}
use Rattle.lmn_web.specs.Webs.{web_by, home_at, list_in}
use Rattle.lmn_web.proofs.ListedLemmas.{home_same, some_home}
use Rattle.lmn_web.proofs.web.Web.home_of.Goals as goal

pub target-requires-clause-there : goal.target-requires-clause-there
target-requires-clause-there c =
    let f = cells_by c.self.inside.cells in let x = cell_id c.args.c in
    some_home f (list_in f) x (subst (λ (z : List Row). IsSome (home_at (web_by z) x)) (sym c.self.view_is) c.requires)

pub target-requires-clause-leads : goal.target-requires-clause-leads
target-requires-clause-leads c =
    let f = cells_by c.self.inside.cells in let x = cell_id c.args.c in
    subst (λ (o : Option ℕ). IsSome o) (home_same f (list_in f) x) (subst (λ (z : List Row). IsSome (home_at (web_by z) x)) (sym c.self.view_is) c.requires)

pub returns : goal.returns
returns c =
    let f = cells_by c.self.inside.cells in let x = cell_id c.args.c in
    subst (λ (z : List Row). home_at (web_by z) x ≡ Some (cell_id c.target.result)) c.self.view_is (home_same f (list_in f) x ∙ c.target.ensures)
