use Rattle.std.specs.Prelude.{slice_index_or}
use Rattle.std.proofs.Common.{◌≡◌, List, IsSome, length, sym, subst, arith}
use Rattle.lmn_web_cells.specs.Rows.{Row}
use Rattle.lmn_web_cells.specs.Cells.{cells_by, numbers_of}
use Rattle.lmn_web_cells.specs.CellIds.{cell_id}
use Rattle.lmn_web_cells.proofs.CellRows.{count_is, number_read}
use Rattle.lmn_web_cells.proofs.cell.Cells.count.Goals as goal

pub number-requires : goal.number-requires
number-requires c =
    let there : IsSome (cells_by c.self.inside.rows.rows (cell_id c.args.c)) = subst (λ (z : List Row). IsSome (cells_by z (cell_id c.args.c))) (sym c.self.view_is) c.requires.there in
    let eight : length (numbers_of (cells_by c.self.inside.rows.rows (cell_id c.args.c))) ≡ 8 = subst (λ (z : List Row). length (numbers_of (cells_by z (cell_id c.args.c))) ≡ 8) (sym c.self.view_is) c.requires.numbers in
    let below = c.requires.below in (c.args.c.start, omega (arith, below), (_, count_is _ _ _ c.self.invariant there eight c.requires.behind below))

pub returns : goal.returns
returns c =
    let there : IsSome (cells_by c.self.inside.rows.rows (cell_id c.args.c)) = subst (λ (z : List Row). IsSome (cells_by z (cell_id c.args.c))) (sym c.self.view_is) c.requires.there in
    let eight : length (numbers_of (cells_by c.self.inside.rows.rows (cell_id c.args.c))) ≡ 8 = subst (λ (z : List Row). length (numbers_of (cells_by z (cell_id c.args.c))) ≡ 8) (sym c.self.view_is) c.requires.numbers in
    subst (λ (z : List Row). c.number.result ≡ slice_index_or (numbers_of (cells_by z (cell_id c.args.c))) c.args.k 0) c.self.view_is (number_read _ _ _ (count_is _ _ _ c.self.invariant there eight c.requires.behind c.requires.below) c.number.ensures)
