use Rattle.std.proofs.Common.{◌≡◌, ℕ, List, Option, ap, ◌∙◌}
use Rattle.lmn_web_cells.specs.Rows.{Row}
use Rattle.lmn_web_cells.specs.Cells.{HeldCell, cells_by}
use Rattle.lmn_web_cells.specs.CellIds.{cell_id}
use Rattle.lmn_web.specs.Webs.{web_by, web_with, list_in, parted}
use Rattle.lmn_web.proofs.WebLemmas.{same_web, web_keeps, told_parted, told, parted_web}
use Rattle.lmn_web.proofs.Filing.{same_classed}
use Rattle.lmn_web.proofs.web.Web.split.Goals as goal

pub invariant_of-self : goal.invariant_of-self
invariant_of-self c =
    let w = c.self.invariant.web in let f = cells_by c.self.inside.cells in
    let same : (b : ℕ) → told (cells_by c.split.new.cells b) ≡ told (f b) = (λ b. ap (λ (g : ℕ → Option HeldCell). told (g b)) c.split.ensures.parted ∙ told_parted f (cell_id c.args.c) c.args.port b) in
    same_classed f (cells_by c.split.new.cells) _ c.self.invariant same (same_web f (cells_by c.split.new.cells) _ w same c.split.ensures.reaches (c.split.ensures.paired w.paired))

pub returns : goal.returns
returns c =
    let f = cells_by c.self.inside.cells in
    let same = web_keeps f (cells_by c.split.new.cells) _ c.self.invariant.web (λ b. ap (λ (g : ℕ → Option HeldCell). told (g b)) c.split.ensures.parted ∙ told_parted f (cell_id c.args.c) c.args.port b) in
    same ∙ ap (λ (g : ℕ → Option HeldCell). web_with g (list_in f)) c.split.ensures.parted ∙ parted_web f (list_in f) (cell_id c.args.c) c.args.port ∙ ap (λ (z : List Row). parted (web_by z) (cell_id c.args.c) c.args.port) c.self.view_is
