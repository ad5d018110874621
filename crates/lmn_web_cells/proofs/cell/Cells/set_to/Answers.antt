use Rattle.std.proofs.Common.{◌<◌, ◌+◌, ◌*◌, ◌∙◌, List, IsSome, length, sym, subst, ap, arith}
use Rattle.std.specs.Option.{option_map}
use Rattle.lmn_web_cells.specs.Rows.{Row, link}
use Rattle.lmn_web_cells.specs.Cells.{cells_by, ports_of, link_to, with_to}
use Rattle.lmn_store_heap.specs.Heap.{alter}
use Rattle.lmn_web_cells.specs.CellIds.{cell_id}
use Rattle.lmn_web_cells.proofs.CellRows.{to_changes, low_port, port_words_there, laid_after, cells_after}
use Rattle.lmn_web_cells.proofs.cell.Cells.set_to.Goals as goal

pub overflow_mul-j : goal.overflow_mul-j
overflow_mul-j c =
    let there : IsSome (cells_by c.self.inside.rows.rows (cell_id c.args.c)) = subst (λ (z : List Row). IsSome (cells_by z (cell_id c.args.c))) (sym c.self.view_is) c.requires.there in let low : c.args.j < length (ports_of (cells_by c.self.inside.rows.rows (cell_id c.args.c))) = subst (λ (z : List Row). c.args.j < length (ports_of (cells_by z (cell_id c.args.c)))) (sym c.self.view_is) c.requires.below in
    let s = low_port _ _ _ c.self.invariant there low in record { fits = omega (arith, s) }

pub overflow_add-j : goal.overflow_add-j
overflow_add-j c =
    let there : IsSome (cells_by c.self.inside.rows.rows (cell_id c.args.c)) = subst (λ (z : List Row). IsSome (cells_by z (cell_id c.args.c))) (sym c.self.view_is) c.requires.there in let low : c.args.j < length (ports_of (cells_by c.self.inside.rows.rows (cell_id c.args.c))) = subst (λ (z : List Row). c.args.j < length (ports_of (cells_by z (cell_id c.args.c)))) (sym c.self.view_is) c.requires.below in
    let s = low_port _ _ _ c.self.invariant there low in record { fits = omega (arith, s) }

pub overflow_add-j-2 : goal.overflow_add-j-2
overflow_add-j-2 c =
    let there : IsSome (cells_by c.self.inside.rows.rows (cell_id c.args.c)) = subst (λ (z : List Row). IsSome (cells_by z (cell_id c.args.c))) (sym c.self.view_is) c.requires.there in let low : c.args.j < length (ports_of (cells_by c.self.inside.rows.rows (cell_id c.args.c))) = subst (λ (z : List Row). c.args.j < length (ports_of (cells_by z (cell_id c.args.c)))) (sym c.self.view_is) c.requires.below in
    let s = low_port _ _ _ c.self.invariant there low in record { fits = omega (arith, s) }

pub set_link-requires : goal.set_link-requires
set_link-requires c =
    let there : IsSome (cells_by c.self.inside.rows.rows (cell_id c.args.c)) = subst (λ (z : List Row). IsSome (cells_by z (cell_id c.args.c))) (sym c.self.view_is) c.requires.there in let low : c.args.j < length (ports_of (cells_by c.self.inside.rows.rows (cell_id c.args.c))) = subst (λ (z : List Row). c.args.j < length (ports_of (cells_by z (cell_id c.args.c)))) (sym c.self.view_is) c.requires.below in
    let s = low_port _ _ _ c.self.invariant there low in (c.args.c.start, omega (arith, s), (λ e. absurd (omega (arith, e))), port_words_there _ _ _ 0 c.self.invariant there low (omega arith))

pub invariant_of-self : goal.invariant_of-self
invariant_of-self c =
    let there : IsSome (cells_by c.self.inside.rows.rows (cell_id c.args.c)) = subst (λ (z : List Row). IsSome (cells_by z (cell_id c.args.c))) (sym c.self.view_is) c.requires.there in let low : c.args.j < length (ports_of (cells_by c.self.inside.rows.rows (cell_id c.args.c))) = subst (λ (z : List Row). c.args.j < length (ports_of (cells_by z (cell_id c.args.c)))) (sym c.self.view_is) c.requires.below in
    laid_after c.self.inside.rows.rows _ (cell_id c.args.c) (10 + (c.args.j * 2 + 0)) (link_to (option_map cell_id c.args.to)) (link c.pointer_of.result) (with_to c.args.j (option_map cell_id c.args.to)) (to_changes c.self.inside.rows.rows (cell_id c.args.c) c.args.j (option_map cell_id c.args.to) c.self.invariant there low) (ap link c.pointer_of.ensures) c.set_link.ensures

pub returns : goal.returns
returns c =
    let there : IsSome (cells_by c.self.inside.rows.rows (cell_id c.args.c)) = subst (λ (z : List Row). IsSome (cells_by z (cell_id c.args.c))) (sym c.self.view_is) c.requires.there in let low : c.args.j < length (ports_of (cells_by c.self.inside.rows.rows (cell_id c.args.c))) = subst (λ (z : List Row). c.args.j < length (ports_of (cells_by z (cell_id c.args.c)))) (sym c.self.view_is) c.requires.below in
    cells_after c.self.inside.rows.rows _ (cell_id c.args.c) (10 + (c.args.j * 2 + 0)) (link_to (option_map cell_id c.args.to)) (link c.pointer_of.result) (with_to c.args.j (option_map cell_id c.args.to)) (to_changes c.self.inside.rows.rows (cell_id c.args.c) c.args.j (option_map cell_id c.args.to) c.self.invariant there low) (ap link c.pointer_of.ensures) c.set_link.ensures
    ∙ ap (λ (z : List Row). alter (cells_by z) (cell_id c.args.c) (option_map (with_to c.args.j (option_map cell_id c.args.to)))) c.self.view_is
