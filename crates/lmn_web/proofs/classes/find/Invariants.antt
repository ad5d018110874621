use Rattle.std.proofs.Common.{◌≡◌, ◌⊎◌, ◌<◌, length}
use Rattle.std.specs.Option.{option_map}
use Rattle.lmn_web_cells.specs.Cells.{cells_by, link_of}
use Rattle.lmn_web_cells.specs.CellIds.{cell_id}
use Rattle.lmn_web.specs.Classes.{key_by}
use Rattle.lmn_web.proofs.ClassLemmas.{Left, bulk}
use Rattle.lmn_web.proofs.classes.find.Given as goal

abbrev pub invariant-loop-at : goal.invariant-loop-at
invariant-loop-at l = Left (cells_by l.cells) (key_by l.key) (cell_id l.fn.m) (length l.cells) (cell_id l.holder) (link_of l.word) l.rest (option_map cell_id l.at) × ((l.word < 7) ⊎ (l.word ≡ 14))

abbrev pub decreases-loop-at : goal.decreases-loop-at
decreases-loop-at l = bulk (cells_by l.cells) (length l.cells) (option_map cell_id l.at)
