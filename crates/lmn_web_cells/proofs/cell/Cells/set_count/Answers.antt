use Rattle.std.proofs.Common.{◌≡◌, ◌+◌, ◌-◌, ◌∙◌, List, IsSome, length, sym, subst, ap, arith, refl}
use Rattle.std.specs.Option.{option_map}
use Rattle.lmn_web_cells.specs.Rows.{Row, number}
use Rattle.lmn_web_cells.specs.Cells.{cells_by, numbers_of, with_number}
use Rattle.lmn_store_heap.specs.Heap.{alter}
use Rattle.lmn_web_cells.specs.CellIds.{cell_id}
use Rattle.lmn_web_cells.proofs.CellRows.{count_changes, laid_after, cells_after}
use Rattle.lmn_web_cells.proofs.MadeLemmas.{count_membrane}
use Rattle.lmn_web_cells.proofs.cell.Cells.set_count.Goals as goal

pub set_number-requires : goal.set_number-requires
set_number-requires c =
    let there : IsSome (cells_by c.self.inside.rows.rows (cell_id c.args.c)) = subst (λ (z : List Row). IsSome (cells_by z (cell_id c.args.c))) (sym c.self.view_is) c.requires.there in
    let eight : length (numbers_of (cells_by c.self.inside.rows.rows (cell_id c.args.c))) ≡ 8 = subst (λ (z : List Row). length (numbers_of (cells_by z (cell_id c.args.c))) ≡ 8) (sym c.self.view_is) c.requires.numbers in
    let below = c.requires.below in let behind = c.requires.behind in let all = count_membrane _ _ c.self.invariant there eight in (c.args.c.start, omega (arith, below), (λ e. absurd (omega (arith, e, behind))), omega (arith, below, all))

pub invariant_of-self : goal.invariant_of-self
invariant_of-self c =
    let there : IsSome (cells_by c.self.inside.rows.rows (cell_id c.args.c)) = subst (λ (z : List Row). IsSome (cells_by z (cell_id c.args.c))) (sym c.self.view_is) c.requires.there in
    let eight : length (numbers_of (cells_by c.self.inside.rows.rows (cell_id c.args.c))) ≡ 8 = subst (λ (z : List Row). length (numbers_of (cells_by z (cell_id c.args.c))) ≡ 8) (sym c.self.view_is) c.requires.numbers in
    laid_after c.self.inside.rows.rows _ (cell_id c.args.c) (12 + c.args.k - 6) (number c.args.n) (number c.args.n) (with_number c.args.k c.args.n) (count_changes c.self.inside.rows.rows (cell_id c.args.c) c.args.k c.args.n c.self.invariant there eight c.requires.behind c.requires.below) refl c.set_number.ensures

pub returns : goal.returns
returns c =
    let there : IsSome (cells_by c.self.inside.rows.rows (cell_id c.args.c)) = subst (λ (z : List Row). IsSome (cells_by z (cell_id c.args.c))) (sym c.self.view_is) c.requires.there in
    let eight : length (numbers_of (cells_by c.self.inside.rows.rows (cell_id c.args.c))) ≡ 8 = subst (λ (z : List Row). length (numbers_of (cells_by z (cell_id c.args.c))) ≡ 8) (sym c.self.view_is) c.requires.numbers in
    cells_after c.self.inside.rows.rows _ (cell_id c.args.c) (12 + c.args.k - 6) (number c.args.n) (number c.args.n) (with_number c.args.k c.args.n) (count_changes c.self.inside.rows.rows (cell_id c.args.c) c.args.k c.args.n c.self.invariant there eight c.requires.behind c.requires.below) refl c.set_number.ensures
    ∙ ap (λ (z : List Row). alter (cells_by z) (cell_id c.args.c) (option_map (with_number c.args.k c.args.n))) c.self.view_is
