use Rattle.std.proofs.Common.{◌+◌, ◌-◌, ◌*◌, ◌%◌, ◌∙◌, List, IsSome, sym, subst, ap, arith, refl}
use Rattle.std.specs.Option.{option_map}
use Rattle.lmn_web_cells.specs.Rows.{Row, number}
use Rattle.lmn_web_cells.specs.Cells.{cells_by, numbers_of, with_number}
use Rattle.lmn_store_heap.specs.Heap.{alter}
use Rattle.lmn_web_cells.specs.CellIds.{cell_id}
use Rattle.lmn_web_cells.proofs.CellWords.{half_with}
use Rattle.lmn_web_cells.proofs.CellRows.{small_is, half_read, part_written, class_written, small_changes, number_changes, words_there, halves_there, laid_after, cells_after, half_laid_after, half_cells_after}
use Rattle.lmn_web_cells.proofs.cell.Cells.set_number.Goals as goal

pub half-all-requires : goal.half-all-requires
half-all-requires c =
    let there : IsSome (cells_by c.self.inside.rows.rows (cell_id c.args.c)) = subst (λ (z : List Row). IsSome (cells_by z (cell_id c.args.c))) (sym c.self.view_is) c.requires.there in
    (c.args.c.start, omega arith, (_, small_is _ _ c.self.invariant there))

pub set_half-requires : goal.set_half-requires
set_half-requires c =
    let there : IsSome (cells_by c.self.inside.rows.rows (cell_id c.args.c)) = subst (λ (z : List Row). IsSome (cells_by z (cell_id c.args.c))) (sym c.self.view_is) c.requires.there in
    let some = words_there _ _ c.self.invariant there in (c.args.c.start, omega arith, (λ e. absurd (omega (arith, e))), omega (arith, some), halves_there _ _ c.self.invariant there)

pub invariant_of-self : goal.invariant_of-self
invariant_of-self c =
    let there : IsSome (cells_by c.self.inside.rows.rows (cell_id c.args.c)) = subst (λ (z : List Row). IsSome (cells_by z (cell_id c.args.c))) (sym c.self.view_is) c.requires.there in
    let low = c.if-k-lt-SMALL_NUMBERS.true in let n = c.args.n in
    let new = part_written c.self.inside.rows.rows (cell_id c.args.c) c.args.k n c.half-all.result c.with_part.result c.self.invariant there low (half_read _ _ _ (small_is _ _ c.self.invariant there) c.half-all.ensures) c.with_part.ensures in
    let changes = small_changes c.self.inside.rows.rows (cell_id c.args.c) c.args.k n c.self.invariant there (omega (arith, low)) (λ e. absurd (omega (arith, e, low))) c.requires.small c.requires.class in
    half_laid_after c.self.inside.rows.rows _ (cell_id c.args.c) 15 (half_with (numbers_of (cells_by c.self.inside.rows.rows (cell_id c.args.c))) c.args.k n) c.with_part.result (with_number c.args.k n) changes new c.set_half.ensures

pub returns-then-k-lt-SMALL_NUMBERS : goal.returns-then-k-lt-SMALL_NUMBERS
returns-then-k-lt-SMALL_NUMBERS c =
    let there : IsSome (cells_by c.self.inside.rows.rows (cell_id c.args.c)) = subst (λ (z : List Row). IsSome (cells_by z (cell_id c.args.c))) (sym c.self.view_is) c.requires.there in
    let low = c.if-k-lt-SMALL_NUMBERS.true in let n = c.args.n in
    let new = part_written c.self.inside.rows.rows (cell_id c.args.c) c.args.k n c.half-all.result c.with_part.result c.self.invariant there low (half_read _ _ _ (small_is _ _ c.self.invariant there) c.half-all.ensures) c.with_part.ensures in
    let changes = small_changes c.self.inside.rows.rows (cell_id c.args.c) c.args.k n c.self.invariant there (omega (arith, low)) (λ e. absurd (omega (arith, e, low))) c.requires.small c.requires.class in
    half_cells_after c.self.inside.rows.rows _ (cell_id c.args.c) 15 (half_with (numbers_of (cells_by c.self.inside.rows.rows (cell_id c.args.c))) c.args.k n) c.with_part.result (with_number c.args.k n) changes new c.set_half.ensures
    ∙ ap (λ (z : List Row). alter (cells_by z) (cell_id c.args.c) (option_map (with_number c.args.k n))) c.self.view_is

pub half-all-requires-then-k-eq-HIGH : goal.half-all-requires-then-k-eq-HIGH
half-all-requires-then-k-eq-HIGH c =
    let there : IsSome (cells_by c.self.inside.rows.rows (cell_id c.args.c)) = subst (λ (z : List Row). IsSome (cells_by z (cell_id c.args.c))) (sym c.self.view_is) c.requires.there in
    (c.args.c.start, omega arith, (_, small_is _ _ c.self.invariant there))

pub set_half-requires-then-k-eq-HIGH : goal.set_half-requires-then-k-eq-HIGH
set_half-requires-then-k-eq-HIGH c =
    let there : IsSome (cells_by c.self.inside.rows.rows (cell_id c.args.c)) = subst (λ (z : List Row). IsSome (cells_by z (cell_id c.args.c))) (sym c.self.view_is) c.requires.there in
    let some = words_there _ _ c.self.invariant there in (c.args.c.start, omega arith, (λ e. absurd (omega (arith, e))), omega (arith, some), halves_there _ _ c.self.invariant there)

pub invariant_of-self-then-k-eq-HIGH : goal.invariant_of-self-then-k-eq-HIGH
invariant_of-self-then-k-eq-HIGH c =
    let there : IsSome (cells_by c.self.inside.rows.rows (cell_id c.args.c)) = subst (λ (z : List Row). IsSome (cells_by z (cell_id c.args.c))) (sym c.self.view_is) c.requires.there in
    let n = c.args.n in let is = c.if-k-eq-HIGH.true in
    let new = class_written c.self.inside.rows.rows (cell_id c.args.c) n c.half-all-then-k-eq-HIGH.result c.self.invariant there (half_read _ _ _ (small_is _ _ c.self.invariant there) c.half-all-then-k-eq-HIGH.ensures) ∙ ap (λ k. half_with (numbers_of (cells_by c.self.inside.rows.rows (cell_id c.args.c))) k n) (sym is) in
    let changes = small_changes c.self.inside.rows.rows (cell_id c.args.c) c.args.k n c.self.invariant there (omega (arith, is)) (λ e. absurd (omega (arith, e, is))) c.requires.small c.requires.class in
    half_laid_after c.self.inside.rows.rows _ (cell_id c.args.c) 15 (half_with (numbers_of (cells_by c.self.inside.rows.rows (cell_id c.args.c))) c.args.k n) (n * 65536 + c.half-all-then-k-eq-HIGH.result % 65536) (with_number c.args.k n) changes new c.set_half-then-k-eq-HIGH.ensures

pub returns-then-k-eq-HIGH : goal.returns-then-k-eq-HIGH
returns-then-k-eq-HIGH c =
    let there : IsSome (cells_by c.self.inside.rows.rows (cell_id c.args.c)) = subst (λ (z : List Row). IsSome (cells_by z (cell_id c.args.c))) (sym c.self.view_is) c.requires.there in
    let n = c.args.n in let is = c.if-k-eq-HIGH.true in
    let new = class_written c.self.inside.rows.rows (cell_id c.args.c) n c.half-all-then-k-eq-HIGH.result c.self.invariant there (half_read _ _ _ (small_is _ _ c.self.invariant there) c.half-all-then-k-eq-HIGH.ensures) ∙ ap (λ k. half_with (numbers_of (cells_by c.self.inside.rows.rows (cell_id c.args.c))) k n) (sym is) in
    let changes = small_changes c.self.inside.rows.rows (cell_id c.args.c) c.args.k n c.self.invariant there (omega (arith, is)) (λ e. absurd (omega (arith, e, is))) c.requires.small c.requires.class in
    half_cells_after c.self.inside.rows.rows _ (cell_id c.args.c) 15 (half_with (numbers_of (cells_by c.self.inside.rows.rows (cell_id c.args.c))) c.args.k n) (n * 65536 + c.half-all-then-k-eq-HIGH.result % 65536) (with_number c.args.k n) changes new c.set_half-then-k-eq-HIGH.ensures
    ∙ ap (λ (z : List Row). alter (cells_by z) (cell_id c.args.c) (option_map (with_number c.args.k n))) c.self.view_is

pub set_number-requires : goal.set_number-requires
set_number-requires c =
    let there : IsSome (cells_by c.self.inside.rows.rows (cell_id c.args.c)) = subst (λ (z : List Row). IsSome (cells_by z (cell_id c.args.c))) (sym c.self.view_is) c.requires.there in
    let below = c.requires.below in let some = words_there _ _ c.self.invariant there in let high = c.if-k-lt-SMALL_NUMBERS.false in let other = c.requires.index in let class = c.if-k-eq-HIGH.false in
    (c.args.c.start, omega (arith, below), (λ e. class (omega (arith, high, other, e))), omega (arith, below, some))

pub invariant_of-self-2 : goal.invariant_of-self-2
invariant_of-self-2 c =
    let there : IsSome (cells_by c.self.inside.rows.rows (cell_id c.args.c)) = subst (λ (z : List Row). IsSome (cells_by z (cell_id c.args.c))) (sym c.self.view_is) c.requires.there in
    let high = c.if-k-lt-SMALL_NUMBERS.false in let other = c.requires.index in let class = c.if-k-eq-HIGH.false in
    laid_after c.self.inside.rows.rows _ (cell_id c.args.c) (7 + c.args.k - 3) (number c.args.n) (number c.args.n) (with_number c.args.k c.args.n) (number_changes c.self.inside.rows.rows (cell_id c.args.c) c.args.k c.args.n c.self.invariant there (omega (arith, high, other, class)) c.requires.below) refl c.set_number.ensures

pub returns : goal.returns
returns c =
    let there : IsSome (cells_by c.self.inside.rows.rows (cell_id c.args.c)) = subst (λ (z : List Row). IsSome (cells_by z (cell_id c.args.c))) (sym c.self.view_is) c.requires.there in
    let high = c.if-k-lt-SMALL_NUMBERS.false in let other = c.requires.index in let class = c.if-k-eq-HIGH.false in
    cells_after c.self.inside.rows.rows _ (cell_id c.args.c) (7 + c.args.k - 3) (number c.args.n) (number c.args.n) (with_number c.args.k c.args.n) (number_changes c.self.inside.rows.rows (cell_id c.args.c) c.args.k c.args.n c.self.invariant there (omega (arith, high, other, class)) c.requires.below) refl c.set_number.ensures
    ∙ ap (λ (z : List Row). alter (cells_by z) (cell_id c.args.c) (option_map (with_number c.args.k c.args.n))) c.self.view_is
