use Rattle.std.proofs.Common.{◌-◌, false, map}
use Rattle.std.specs.Prelude.{codes}
use Rattle.lmn_store_heap.specs.Solid.{links_from}
use Rattle.lmn_io.specs.Gathering.{output}
use Rattle.lmn_flatten_plain.specs.Words.{link_name}
use Rattle.lmn_print_plain.specs.Rows.{in_row}
use Rattle.lmn_print_plain.specs.Stored.{number_by_mark}
use Rattle.lmn_print_plain.proofs.DueLemmas.{Due}
use Rattle.lmn_print_plain.proofs.stored.add_ports.Given as goal

abbrev pub invariant-loop-port : goal.invariant-loop-port
invariant-loop-port g l =
    let name = number_by_mark (g.S.LinkStore.heap l.store) in
    let a = g.S.LinkStore.atom_id l.atom in
    Due (in_row (codes ", ") false (map link_name (links_from name a 0 l.arity))) (in_row (codes ", ") l.any (map link_name (links_from name a l.port (l.arity - l.port))))
    (output l.initial.buffer (g.O.Sink.told l.initial.out) (g.O.Sink.faults l.initial.out)) (output l.buffer (g.O.Sink.told l.out) (g.O.Sink.faults l.out))
