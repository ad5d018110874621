use Rattle.lmn_web_cells.specs.Cells.{cells_by}
use Rattle.lmn_web_cells.specs.CellIds.{cell_id}
use Rattle.lmn_web_cells.proofs.Pairing.{Parting}
use Rattle.lmn_web_cells.proofs.ports.split_all.Given as goal

abbrev pub invariant-loop-i : goal.invariant-loop-i
invariant-loop-i l = Parting (cells_by l.fn.cells) (cells_by l.cells) (cell_id l.c) l.count l.i
