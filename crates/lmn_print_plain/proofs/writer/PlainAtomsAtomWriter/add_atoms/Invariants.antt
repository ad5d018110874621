use Rattle.std.proofs.Common.{◌≡◌, Some, false, map, length}
use Rattle.std.specs.Prelude.{IfSome}
use Rattle.std.specs.Option.{option_map}
use Rattle.lmn_store_heap.specs.Heap.{atoms_in, home_of}
use Rattle.lmn_store_heap.specs.Lists.{from}
use Rattle.lmn_io.specs.Gathering.{output}
use Rattle.lmn_print_plain.specs.Rows.{in_row}
use Rattle.lmn_print_plain.specs.Stored.{atom_text, atom_texts}
use Rattle.lmn_print_plain.proofs.DueLemmas.{Due}
use Rattle.lmn_print_plain.proofs.writer.PlainAtomsAtomWriter.add_atoms.Given as goal

abbrev pub invariant-loop-next : goal.invariant-loop-next
invariant-loop-next g l =
    let h = g.S.LinkStore.heap l.store in
    let m = g.S.LinkStore.mem_id l.fn.mem in
    record {
      due : Due (in_row l.between false (atom_texts l.names h m)) (in_row l.between l.any (map (atom_text l.names h) (from (option_map g.S.LinkStore.atom_id l.next) (atoms_in h m))))
          (output l.initial.buffer (g.O.Sink.told l.initial.out) (g.O.Sink.faults l.initial.out)) (output l.buffer (g.O.Sink.told l.out) (g.O.Sink.faults l.out));
      there : IfSome l.next (λ a. home_of h (g.S.LinkStore.atom_id a) ≡ Some m);
    }

abbrev pub decreases-loop-next : goal.decreases-loop-next
decreases-loop-next g l = length (from (option_map g.S.LinkStore.atom_id l.next) (atoms_in (g.S.LinkStore.heap l.fn.store) (g.S.LinkStore.mem_id l.fn.mem)))
