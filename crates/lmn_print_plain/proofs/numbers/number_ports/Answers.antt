use Rattle.std.proofs.Common.{arith}
use Rattle.lmn_print_plain.proofs.PortLemmas.{ports_none, ports_more}
use Rattle.lmn_print_plain.proofs.MarkLemmas.{arity_same, atom_same}
use Rattle.lmn_print_plain.proofs.numbers.number_ports.Goals as goal

pub loop-port-init : goal.loop-port-init
loop-port-init g c = record { ports = ports_none (g.S.LinkStore.heap c.args.store.now) (g.S.LinkStore.atom_id c.args.atom) c.args.count }

pub number_port-numbered-requires-clause-atom : goal.number_port-numbered-requires-clause-atom
number_port-numbered-requires-clause-atom g c =
    atom_same (g.S.LinkStore.heap c.args.store.now) (g.S.LinkStore.heap c.loop-port.store) c.loop-port.invariant.ports.marks (g.S.LinkStore.atom_id c.args.atom) c.requires.atom

pub number_port-numbered-requires-clause-port : goal.number_port-numbered-requires-clause-port
number_port-numbered-requires-clause-port g c =
    let a = g.S.LinkStore.atom_id c.args.atom in
    let same = arity_same (g.S.LinkStore.heap c.args.store.now) (g.S.LinkStore.heap c.loop-port.store) c.loop-port.invariant.ports.marks a in
    let arity = c.root-root.ensures.sound.shaped.ports a c.functor-arity.result c.functor-arity.ensures in
    let low = c.loop-port-test.true in
    omega (arith, same, arity, low)

pub number_port-numbered-requires-clause-count : goal.number_port-numbered-requires-clause-count
number_port-numbered-requires-clause-count g c =
    let few = c.loop-port.invariant.ports.few in
    let room = c.requires.count in
    let low = c.loop-port-test.true in
    omega (arith, few, room, low)

pub loop-port-preserved : goal.loop-port-preserved
loop-port-preserved g c = record {
  ports = ports_more (g.S.LinkStore.heap c.args.store.now) (g.S.LinkStore.heap c.loop-port.store) (g.S.LinkStore.heap c.number_port-numbered.new.store) (g.S.LinkStore.atom_id c.args.atom) c.args.count c.loop-port.numbered c.number_port-numbered.result c.loop-port.port
      c.loop-port.invariant.ports c.number_port-numbered.ensures.marks c.number_port-numbered.ensures.numbers c.number_port-numbered.ensures.few;
}
