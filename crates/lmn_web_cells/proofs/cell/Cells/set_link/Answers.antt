use Rattle.std.proofs.Common.{◌∙◌, List, IsSome, sym, subst, ap, arith}
use Rattle.std.specs.Option.{option_map}
use Rattle.lmn_web_cells.specs.Rows.{Row, link}
use Rattle.lmn_web_cells.specs.Cells.{cells_by, link_to, with_link}
use Rattle.lmn_store_heap.specs.Heap.{alter}
use Rattle.lmn_web_cells.specs.CellIds.{cell_id}
use Rattle.lmn_web_cells.proofs.CellRows.{link_changes, words_there, laid_after, cells_after}
use Rattle.lmn_web_cells.proofs.cell.Cells.set_link.Goals as goal

pub set_link-requires : goal.set_link-requires
set_link-requires c =
    let there : IsSome (cells_by c.self.inside.rows.rows (cell_id c.args.c)) = subst (λ (z : List Row). IsSome (cells_by z (cell_id c.args.c))) (sym c.self.view_is) c.requires.there in let low = c.requires.below in
    let some = words_there _ _ c.self.invariant there in (c.args.c.start, omega (arith, low), (λ e. absurd (omega (arith, e, low))), omega (arith, low, some))

pub invariant_of-self : goal.invariant_of-self
invariant_of-self c =
    let there : IsSome (cells_by c.self.inside.rows.rows (cell_id c.args.c)) = subst (λ (z : List Row). IsSome (cells_by z (cell_id c.args.c))) (sym c.self.view_is) c.requires.there in let low = c.requires.below in
    laid_after c.self.inside.rows.rows _ (cell_id c.args.c) c.args.k (link_to (option_map cell_id c.args.to)) (link c.pointer_of.result) (with_link c.args.k (option_map cell_id c.args.to)) (link_changes c.self.inside.rows.rows (cell_id c.args.c) c.args.k (option_map cell_id c.args.to) c.self.invariant there low) (ap link c.pointer_of.ensures) c.set_link.ensures

pub returns : goal.returns
returns c =
    let there : IsSome (cells_by c.self.inside.rows.rows (cell_id c.args.c)) = subst (λ (z : List Row). IsSome (cells_by z (cell_id c.args.c))) (sym c.self.view_is) c.requires.there in let low = c.requires.below in
    cells_after c.self.inside.rows.rows _ (cell_id c.args.c) c.args.k (link_to (option_map cell_id c.args.to)) (link c.pointer_of.result) (with_link c.args.k (option_map cell_id c.args.to)) (link_changes c.self.inside.rows.rows (cell_id c.args.c) c.args.k (option_map cell_id c.args.to) c.self.invariant there low) (ap link c.pointer_of.ensures) c.set_link.ensures
    ∙ ap (λ (z : List Row). alter (cells_by z) (cell_id c.args.c) (option_map (with_link c.args.k (option_map cell_id c.args.to)))) c.self.view_is
