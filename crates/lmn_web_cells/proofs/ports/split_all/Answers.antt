use Rattle.lmn_web_cells.specs.Cells.{cells_by}
use Rattle.lmn_web_cells.specs.CellIds.{cell_id}
use Rattle.lmn_web_cells.proofs.Pairing.{parting_begin, parting_step}
use Rattle.lmn_web_cells.proofs.ports.split_all.Goals as goal

pub loop-i-init : goal.loop-i-init
loop-i-init c = parting_begin (cells_by c.args.cells.now) (cell_id c.args.c) c.args.count c.requires.ports c.requires.reaches

pub split-requires-clause-port : goal.split-requires-clause-port
split-requires-clause-port c = c.loop-i.invariant.ports c.loop-i.i c.loop-i-test.true

pub split-requires-clause-reaches : goal.split-requires-clause-reaches
split-requires-clause-reaches c = c.loop-i.invariant.reaches

pub loop-i-preserved : goal.loop-i-preserved
loop-i-preserved c =
    parting_step (cells_by c.args.cells.now) (cells_by c.loop-i.cells) (cells_by c.split.new.cells) (cell_id c.args.c) c.args.count c.loop-i.i c.loop-i.invariant c.loop-i-test.true c.split.ensures.parted
