use Rattle.std.proofs.Common.{length}
use Rattle.std.specs.Option.{option_map}
use Rattle.lmn_web_cells.specs.Cells.{cells_by}
use Rattle.lmn_web_cells.specs.CellIds.{cell_id}
use Rattle.lmn_web.proofs.ClassLemmas.{Down, bulk}
use Rattle.lmn_web.proofs.classes.lowest.Given as goal

abbrev pub invariant-loop-next : goal.invariant-loop-next
invariant-loop-next l =
    Down (cells_by l.cells) (cell_id l.fn.c) (length l.cells) (record { holder = cell_id l.place.holder; link = l.place.word; last = option_map cell_id l.place.last }) (record { holder = cell_id l.next.holder; link = l.next.word; last = option_map cell_id l.next.last })

abbrev pub decreases-loop-next : goal.decreases-loop-next
decreases-loop-next l = bulk (cells_by l.cells) (length l.cells) (option_map cell_id l.next.last)
