use Rattle.std.proofs.Common.{◌≡◌, ℕ, ◌<◌, List, Option, sym, ap, subst, ◌∙◌}
use Rattle.lmn_web_cells.specs.Rows.{Row}
use Rattle.lmn_web_cells.specs.Cells.{HeldCell, cells_by}
use Rattle.lmn_web_cells.specs.CellIds.{cell_id}
use Rattle.lmn_web.specs.Webs.{web_by, web_with, list_in, joined, arity_at}
use Rattle.lmn_web.proofs.WebLemmas.{same_web, web_keeps, told_joined, told, port_back, joined_web}
use Rattle.lmn_web.proofs.Filing.{same_classed}
use Rattle.lmn_web.proofs.web.Web.join.Goals as goal

pub invariant_of-self : goal.invariant_of-self
invariant_of-self c =
    let w = c.self.invariant.web in let f = cells_by c.self.inside.cells in
    let same : (b : ℕ) → told (cells_by c.join.new.cells b) ≡ told (f b) = (λ b. ap (λ (g : ℕ → Option HeldCell). told (g b)) c.join.ensures.joined ∙ told_joined f (cell_id c.args.a) c.args.i (cell_id c.args.b) c.args.j b) in
    same_classed f (cells_by c.join.new.cells) _ c.self.invariant same (same_web f (cells_by c.join.new.cells) _ w same c.join.ensures.reaches (c.join.ensures.paired w.paired))

pub returns : goal.returns
returns c =
    let f = cells_by c.self.inside.cells in
    let same = web_keeps f (cells_by c.join.new.cells) _ c.self.invariant.web (λ b. ap (λ (g : ℕ → Option HeldCell). told (g b)) c.join.ensures.joined ∙ told_joined f (cell_id c.args.a) c.args.i (cell_id c.args.b) c.args.j b) in
    let first = port_back f (list_in f) (cell_id c.args.a) c.args.i (subst (λ (z : List Row). c.args.i < arity_at (web_by z) (cell_id c.args.a)) (sym c.self.view_is) c.requires.a) in
    let second = port_back f (list_in f) (cell_id c.args.b) c.args.j (subst (λ (z : List Row). c.args.j < arity_at (web_by z) (cell_id c.args.b)) (sym c.self.view_is) c.requires.b) in
    same ∙ ap (λ (g : ℕ → Option HeldCell). web_with g (list_in f)) c.join.ensures.joined ∙ joined_web f (list_in f) (cell_id c.args.a) c.args.i (cell_id c.args.b) c.args.j first second
    ∙ ap (λ (z : List Row). joined (web_by z) (cell_id c.args.a) c.args.i (cell_id c.args.b) c.args.j) c.self.view_is
