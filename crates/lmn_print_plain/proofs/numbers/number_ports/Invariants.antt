use Rattle.lmn_print_plain.proofs.PortLemmas.{Ports}
use Rattle.lmn_print_plain.proofs.numbers.number_ports.Given as goal

abbrev pub invariant-loop-port : goal.invariant-loop-port
invariant-loop-port g l = record {
  ports : Ports (g.S.LinkStore.heap l.initial.store) (g.S.LinkStore.heap l.store) (g.S.LinkStore.atom_id l.fn.atom) l.fn.count l.numbered l.port;
}
