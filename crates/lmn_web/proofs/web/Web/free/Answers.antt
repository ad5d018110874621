use Rattle.std.proofs.Common.{ℕ, List, Option, None, IsSome, sym, ap, subst, ◌∙◌}
use Rattle.lmn_store_heap.specs.Heap.{alter}
use Rattle.lmn_web_cells.specs.Rows.{Row}
use Rattle.lmn_web_cells.specs.Cells.{HeldCell, cells_by}
use Rattle.lmn_web_cells.specs.CellIds.{cell_id}
use Rattle.lmn_web.specs.Webs.{web_by, web_of, list_in, IsLoose}
use Rattle.lmn_web.specs.Indexes.{IsClassedWeb, most_cells}
use Rattle.lmn_web.proofs.FreeLemmas.{loose_back, freed_web, freed_classed, freed_is}
use Rattle.lmn_web.proofs.WebLemmas.{some_back}
use Rattle.lmn_web.proofs.web.Web.free.Goals as goal

pub free_cell-requires-clause-there : goal.free_cell-requires-clause-there
free_cell-requires-clause-there c = some_back (cells_by c.self.inside.cells) (list_in (cells_by c.self.inside.cells)) (cell_id c.args.c) (subst (λ (z : List Row). IsSome (web_by z (cell_id c.args.c))) (sym c.self.view_is) c.requires.there)

pub free_cell-requires-clause-arity : goal.free_cell-requires-clause-arity
free_cell-requires-clause-arity c =
    let f = cells_by c.self.inside.cells in let a = cell_id c.args.c in
    c.self.invariant.web.arity a (some_back f (list_in f) a (subst (λ (z : List Row). IsSome (web_by z a)) (sym c.self.view_is) c.requires.there))

pub free_cell-requires-clause-numbers : goal.free_cell-requires-clause-numbers
free_cell-requires-clause-numbers c =
    let f = cells_by c.self.inside.cells in let a = cell_id c.args.c in
    c.self.invariant.web.numbers a (some_back f (list_in f) a (subst (λ (z : List Row). IsSome (web_by z a)) (sym c.self.view_is) c.requires.there))

pub invariant_of-self : goal.invariant_of-self
invariant_of-self c =
    let f = cells_by c.self.inside.cells in let a = cell_id c.args.c in let w = c.self.invariant.web in let made = most_cells in
    let loose = loose_back f (list_in f) w.listed a (subst (λ (z : List Row). IsLoose (web_by z) a) (sym c.self.view_is) c.requires) in
    subst (λ (g : ℕ → Option HeldCell). IsClassedWeb g made) (sym c.free_cell.ensures) record {
      web = freed_web f made w a loose.1 loose.2 loose.3;
      classed = freed_classed f made w a loose.1 loose.2 loose.3 c.self.invariant.classed;
    }

pub returns : goal.returns
returns c =
    let f = cells_by c.self.inside.cells in let a = cell_id c.args.c in let w = c.self.invariant.web in
    let loose = loose_back f (list_in f) w.listed a (subst (λ (z : List Row). IsLoose (web_by z) a) (sym c.self.view_is) c.requires) in
    ap web_of c.free_cell.ensures ∙ freed_is f most_cells w a loose.1 loose.2 loose.3 ∙ ap (λ (z : List Row). alter (web_by z) a (λ _. None)) c.self.view_is
