use Rattle.lmn_solid_firing.proofs.Telling.{port_past, port_read}
use Rattle.lmn_solid_firing.proofs.images.entry.Goals as goal

pub returns-then-number-ports : goal.returns-then-number-ports
returns-then-number-ports c = port_read c.args.ports.now c.args.number

pub returns-else-number-ports : goal.returns-else-number-ports
returns-else-number-ports c = port_past c.args.ports.now c.args.number c.if-number-ports.false
