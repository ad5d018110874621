use Rattle.std.proofs.Common.{arith, rules}
use Rattle.lmn_store_slab.proofs.CellLemmas.{link_set, link_past}
use Rattle.lmn_store_slab.proofs.cells.set_link.Goals as goal

pub returns-then-i-len : goal.returns-then-i-len
returns-then-i-len c = link_set c.args.atoms.now.slots c.args.a c.args.i c.in-Some.cell.now (search rules) c.args.partner c.at-port.result.now c.set.new.self c.at-port.ensures c.set.ensures

pub returns-else-i-len : goal.returns-else-i-len
returns-else-i-len c = link_past c.args.atoms.now.slots c.args.a c.args.i c.in-Some.cell.now (search rules) c.args.partner (omega arith)
