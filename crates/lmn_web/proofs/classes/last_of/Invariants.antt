use Rattle.std.proofs.Common.{ℕ, length}
use Rattle.std.specs.Option.{option_map}
use Rattle.lmn_web_cells.specs.Cells.{cells_by}
use Rattle.lmn_web_cells.specs.CellIds.{cell_id}
use Rattle.lmn_web.specs.Classes.{key_by}
use Rattle.lmn_web.proofs.ClassLemmas.{Left, bulk}
use Rattle.lmn_web.proofs.classes.last_of.Given as goal

abbrev pub invariant-loop-at : goal.invariant-loop-at
invariant-loop-at l = (holder : ℕ) × (link : ℕ) × Left (cells_by l.cells) (key_by l.key) (cell_id l.fn.m) (length l.cells) holder link l.rest (option_map cell_id l.at)

abbrev pub decreases-loop-at : goal.decreases-loop-at
decreases-loop-at l = bulk (cells_by l.cells) (length l.cells) (option_map cell_id l.at)
