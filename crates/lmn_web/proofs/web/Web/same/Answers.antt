use Rattle.std.proofs.Common.{◌==◌, ℕ, List, IsSome, sym, subst, ◌∙◌}
use Rattle.lmn_web_cells.specs.Rows.{Row}
use Rattle.lmn_web_cells.specs.Cells.{cells_by}
use Rattle.lmn_web_cells.specs.CellIds.{cell_id}
use Rattle.lmn_web.specs.Webs.{web_by, list_in}
use Rattle.lmn_web.proofs.WebLemmas.{same_test, some_back}
use Rattle.lmn_web.proofs.web.Web.same.Goals as goal

pub returns : goal.returns
returns c =
    let f = cells_by c.self.inside.cells in
    let there : (b : ℕ) → IsSome (web_by c.args.self.now b) → IsSome (f b) = λ b t. some_back f (list_in f) b (subst (λ (z : List Row). IsSome (web_by z b)) (sym c.self.view_is) t) in
    (λ t. c.number.ensures t == c.number-2.ensures t) ∙ same_test f _ c.self.invariant.web (cell_id c.args.a) (cell_id c.args.b) (there _ c.requires.first) (there _ c.requires.second)
