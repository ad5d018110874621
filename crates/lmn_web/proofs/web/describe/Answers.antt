use Rattle.lmn_web_cells.specs.Cells.{with_number}
use Rattle.lmn_web_cells.specs.CellIds.{cell_id}
use Rattle.lmn_web_cells.specs.Numbers.{ARITY, KIND, HIGH, LOW}
use Rattle.lmn_web.proofs.WebLemmas.{four_steps, still_some}
use Rattle.lmn_web.proofs.web.describe.Goals as goal

pub set_number-requires-2-clause-there : goal.set_number-requires-2-clause-there
set_number-requires-2-clause-there c = still_some _ _ (cell_id c.args.c) ARITY c.args.arity c.set_number.ensures c.requires.there

pub set_number-requires-3-clause-there : goal.set_number-requires-3-clause-there
set_number-requires-3-clause-there c = still_some _ _ (cell_id c.args.c) KIND c.args.kind c.set_number-2.ensures (still_some _ _ (cell_id c.args.c) ARITY c.args.arity c.set_number.ensures c.requires.there)

pub set_number-requires-4-clause-there : goal.set_number-requires-4-clause-there
set_number-requires-4-clause-there c = still_some _ _ (cell_id c.args.c) HIGH c.args.high c.set_number-3.ensures (still_some _ _ (cell_id c.args.c) KIND c.args.kind c.set_number-2.ensures (still_some _ _ (cell_id c.args.c) ARITY c.args.arity c.set_number.ensures c.requires.there))

pub returns : goal.returns
returns c = four_steps _ _ _ _ _ (cell_id c.args.c) (with_number ARITY c.args.arity) (with_number KIND c.args.kind) (with_number HIGH c.args.high) (with_number LOW c.args.low)
    c.set_number.ensures c.set_number-2.ensures c.set_number-3.ensures c.set_number-4.ensures
