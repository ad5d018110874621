use Rattle.std.specs.Prelude.{slice_index_or}
use Rattle.std.proofs.Common.{◌≡◌, ◌/◌, List, IsSome, sym, subst, ap, ◌∙◌, arith}
use Rattle.lmn_web_cells.specs.Rows.{Row}
use Rattle.lmn_web_cells.specs.Cells.{cells_by, numbers_of}
use Rattle.lmn_web_cells.specs.CellIds.{cell_id}
use Rattle.lmn_web_cells.proofs.CellRows.{small_is, index_is, part_read, class_read, half_read, number_is, number_read}
use Rattle.lmn_web_cells.proofs.cell.Cells.number.Goals as goal

pub half-requires : goal.half-requires
half-requires c =
    let there : IsSome (cells_by c.self.inside.rows.rows (cell_id c.args.c)) = subst (λ (z : List Row). IsSome (cells_by z (cell_id c.args.c))) (sym c.self.view_is) c.requires.there in
    (c.args.c.start, omega arith, (_, small_is _ _ c.self.invariant there))

pub returns-then-k-lt-SMALL_NUMBERS : goal.returns-then-k-lt-SMALL_NUMBERS
returns-then-k-lt-SMALL_NUMBERS c =
    let there : IsSome (cells_by c.self.inside.rows.rows (cell_id c.args.c)) = subst (λ (z : List Row). IsSome (cells_by z (cell_id c.args.c))) (sym c.self.view_is) c.requires.there in
    subst (λ (z : List Row). c.part.result ≡ slice_index_or (numbers_of (cells_by z (cell_id c.args.c))) c.args.k 0) c.self.view_is
    (part_read _ _ c.args.k c.half.result c.part.result c.self.invariant there c.if-k-lt-SMALL_NUMBERS.true (half_read _ _ _ (small_is _ _ c.self.invariant there) c.half.ensures) c.part.ensures)

pub half-requires-then-k-eq-INDEX : goal.half-requires-then-k-eq-INDEX
half-requires-then-k-eq-INDEX c =
    let there : IsSome (cells_by c.self.inside.rows.rows (cell_id c.args.c)) = subst (λ (z : List Row). IsSome (cells_by z (cell_id c.args.c))) (sym c.self.view_is) c.requires.there in
    (c.args.c.start, omega arith, (_, index_is _ _ c.self.invariant there))

pub returns-then-k-eq-INDEX : goal.returns-then-k-eq-INDEX
returns-then-k-eq-INDEX c =
    let there : IsSome (cells_by c.self.inside.rows.rows (cell_id c.args.c)) = subst (λ (z : List Row). IsSome (cells_by z (cell_id c.args.c))) (sym c.self.view_is) c.requires.there in
    subst (λ (z : List Row). c.half-then-k-eq-INDEX.result ≡ slice_index_or (numbers_of (cells_by z (cell_id c.args.c))) c.args.k 0) c.self.view_is
    (half_read _ _ _ (index_is _ _ c.self.invariant there) c.half-then-k-eq-INDEX.ensures ∙ ap (λ k. slice_index_or (numbers_of (cells_by c.self.inside.rows.rows (cell_id c.args.c))) k 0) (sym c.if-k-eq-INDEX.true))

pub half-requires-then-k-eq-HIGH : goal.half-requires-then-k-eq-HIGH
half-requires-then-k-eq-HIGH c =
    let there : IsSome (cells_by c.self.inside.rows.rows (cell_id c.args.c)) = subst (λ (z : List Row). IsSome (cells_by z (cell_id c.args.c))) (sym c.self.view_is) c.requires.there in
    (c.args.c.start, omega arith, (_, small_is _ _ c.self.invariant there))

pub returns-then-k-eq-HIGH : goal.returns-then-k-eq-HIGH
returns-then-k-eq-HIGH c =
    let there : IsSome (cells_by c.self.inside.rows.rows (cell_id c.args.c)) = subst (λ (z : List Row). IsSome (cells_by z (cell_id c.args.c))) (sym c.self.view_is) c.requires.there in
    subst (λ (z : List Row). c.half-then-k-eq-HIGH.result / 65536 ≡ slice_index_or (numbers_of (cells_by z (cell_id c.args.c))) c.args.k 0) c.self.view_is
    (class_read _ _ c.half-then-k-eq-HIGH.result c.self.invariant there (half_read _ _ _ (small_is _ _ c.self.invariant there) c.half-then-k-eq-HIGH.ensures) ∙ ap (λ k. slice_index_or (numbers_of (cells_by c.self.inside.rows.rows (cell_id c.args.c))) k 0) (sym c.if-k-eq-HIGH.true))

pub number-requires : goal.number-requires
number-requires c =
    let there : IsSome (cells_by c.self.inside.rows.rows (cell_id c.args.c)) = subst (λ (z : List Row). IsSome (cells_by z (cell_id c.args.c))) (sym c.self.view_is) c.requires.there in
    let below = c.requires.below in let high = c.if-k-lt-SMALL_NUMBERS.false in let other = c.if-k-eq-INDEX.false in let class = c.if-k-eq-HIGH.false in (c.args.c.start, omega (arith, below), (_, number_is _ _ _ c.self.invariant there (omega (arith, high, other, class)) below))

pub returns : goal.returns
returns c =
    let there : IsSome (cells_by c.self.inside.rows.rows (cell_id c.args.c)) = subst (λ (z : List Row). IsSome (cells_by z (cell_id c.args.c))) (sym c.self.view_is) c.requires.there in
    let high = c.if-k-lt-SMALL_NUMBERS.false in let other = c.if-k-eq-INDEX.false in let class = c.if-k-eq-HIGH.false in
    subst (λ (z : List Row). c.number.result ≡ slice_index_or (numbers_of (cells_by z (cell_id c.args.c))) c.args.k 0) c.self.view_is (number_read _ _ _ (number_is _ _ _ c.self.invariant there (omega (arith, high, other, class)) c.requires.below) c.number.ensures)
