use Rattle.lmn_print_plain.proofs.MarkLemmas.{Cleared}
use Rattle.lmn_print_plain.proofs.numbers.clear_ports.Given as goal

abbrev pub invariant-loop-port : goal.invariant-loop-port
invariant-loop-port g l = record {
  cleared : Cleared (g.S.LinkStore.heap l.initial.store) (g.S.LinkStore.heap l.store) (g.S.LinkStore.atom_id l.fn.atom) l.port;
}
