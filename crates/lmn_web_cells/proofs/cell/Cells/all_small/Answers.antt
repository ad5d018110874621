use Rattle.std.specs.Prelude.{slice_index_or}
use Rattle.std.proofs.Common.{◌≡◌, ◌/◌, ◌%◌, List, IsSome, sym, subst, arith}
use Rattle.lmn_web_cells.specs.Rows.{Row}
use Rattle.lmn_web_cells.specs.Cells.{cells_by, numbers_of}
use Rattle.lmn_web_cells.specs.CellIds.{cell_id}
use Rattle.lmn_web_cells.proofs.CellRows.{small_is, small_read, half_read}
use Rattle.lmn_web_cells.proofs.cell.Cells.all_small.Goals as goal

pub half-requires : goal.half-requires
half-requires c =
    let there : IsSome (cells_by c.self.inside.rows.rows (cell_id c.args.c)) = subst (λ (z : List Row). IsSome (cells_by z (cell_id c.args.c))) (sym c.self.view_is) c.requires in
    (c.args.c.start, omega arith, (_, small_is _ _ c.self.invariant there))

pub returns-clause-class : goal.returns-clause-class
returns-clause-class c =
    let there : IsSome (cells_by c.self.inside.rows.rows (cell_id c.args.c)) = subst (λ (z : List Row). IsSome (cells_by z (cell_id c.args.c))) (sym c.self.view_is) c.requires in
    subst (λ (z : List Row). c.half.result / 65536 ≡ slice_index_or (numbers_of (cells_by z (cell_id c.args.c))) 3 0) c.self.view_is
    (small_read _ _ c.half.result c.self.invariant there (half_read _ _ _ (small_is _ _ c.self.invariant there) c.half.ensures)).0

pub returns-clause-arity : goal.returns-clause-arity
returns-clause-arity c =
    let there : IsSome (cells_by c.self.inside.rows.rows (cell_id c.args.c)) = subst (λ (z : List Row). IsSome (cells_by z (cell_id c.args.c))) (sym c.self.view_is) c.requires in
    subst (λ (z : List Row). c.half.result / 256 % 256 ≡ slice_index_or (numbers_of (cells_by z (cell_id c.args.c))) 0 0) c.self.view_is
    (small_read _ _ c.half.result c.self.invariant there (half_read _ _ _ (small_is _ _ c.self.invariant there) c.half.ensures)).1

pub returns-clause-kind : goal.returns-clause-kind
returns-clause-kind c =
    let there : IsSome (cells_by c.self.inside.rows.rows (cell_id c.args.c)) = subst (λ (z : List Row). IsSome (cells_by z (cell_id c.args.c))) (sym c.self.view_is) c.requires in
    subst (λ (z : List Row). c.half.result % 256 ≡ slice_index_or (numbers_of (cells_by z (cell_id c.args.c))) 1 0) c.self.view_is
    (small_read _ _ c.half.result c.self.invariant there (half_read _ _ _ (small_is _ _ c.self.invariant there) c.half.ensures)).2
