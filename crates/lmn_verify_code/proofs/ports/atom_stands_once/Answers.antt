use Rattle.lmn_verify_code.proofs.VerifyingLemmas.{ports_fail, ports_more}
use Rattle.lmn_verify_code.proofs.ports.atom_stands_once.Goals as goal

pub loop-port-preserved : goal.loop-port-preserved
loop-port-preserved c = ports_more c.args.stands.now c.args.atom c.args.arity c.loop-port.port c.loop-port-test.true c.port_stands_once.result c.port_stands_once.ensures c.if-not-port_stands_once.false c.loop-port.invariant

pub returns-then-not-port_stands_once : goal.returns-then-not-port_stands_once
returns-then-not-port_stands_once c = ports_fail c.args.stands.now c.args.atom c.args.arity c.loop-port.port c.loop-port-test.true c.port_stands_once.result c.port_stands_once.ensures c.if-not-port_stands_once.true c.loop-port.invariant
