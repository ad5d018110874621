use Rattle.std.proofs.Common.{arith, sym}
use Rattle.lmn_solid_firing.proofs.Telling.{link_past}
use Rattle.lmn_solid_firing.proofs.wires.link.Goals as goal

pub returns-else-port-arity : goal.returns-else-port-arity
returns-else-port-arity c = let l = c.if-port-arity.false in let e = c.arity.ensures in sym (link_past c.args.flat.now c.args.port.atom c.args.port.index (omega (arith, l, e)))
