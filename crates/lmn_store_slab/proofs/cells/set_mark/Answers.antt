use Rattle.std.proofs.Common.{arith, rules}
use Rattle.lmn_store_slab.proofs.CellLemmas.{mark_set, own_set, mark_past}
use Rattle.lmn_store_slab.proofs.cells.set_mark.Goals as goal

pub returns-then-slot-len : goal.returns-then-slot-len
returns-then-slot-len c = mark_set c.args.atoms.now.slots c.args.a c.args.slot c.in-Some.cell.now (search rules) c.args.v c.at-port.result.now c.set.new.self c.at-port.ensures c.set.ensures

pub returns-then-slot-len-2 : goal.returns-then-slot-len-2
returns-then-slot-len-2 c = own_set c.args.atoms.now.slots c.args.a c.args.slot c.in-Some.cell.now (search rules) c.args.v (omega arith)

pub returns-else-slot-len-2 : goal.returns-else-slot-len-2
returns-else-slot-len-2 c = mark_past c.args.atoms.now.slots c.args.a c.args.slot c.in-Some.cell.now (search rules) c.args.v (omega arith)
