use Rattle.std.proofs.Common.{length}
use Rattle.lmn_web_cells.specs.CellIds.{cell_id}
use Rattle.lmn_web.specs.Webs.{web_by, cells_in}
use Rattle.lmn_web_merging.specs.Moves.{SendsFirst}
use Rattle.lmn_web_merging.proofs.moving.send_all_first.Given as goal

abbrev pub invariant-loop-c : goal.invariant-loop-c
invariant-loop-c l = record { sent : SendsFirst (web_by l.initial.web) (web_by l.web) (cell_id l.source) (cell_id l.home) l.kind }

abbrev pub decreases-loop-c : goal.decreases-loop-c
decreases-loop-c l = length (cells_in (web_by l.web) (cell_id l.source) l.kind)
