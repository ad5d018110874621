use Rattle.std.proofs.Common.{◌-◌, ◌^◌, ◌*◌, ◌<◌, ◌≤◌}
use Rattle.lmn_store_heap.specs.Heap.{IsAtom}
use Rattle.lmn_io.specs.Gathering.{output}
use Rattle.lmn_print_plain.specs.Stored.{number_by_mark}
use Rattle.lmn_print_folding.proofs.WritingLemmas.{Left}
use Rattle.lmn_print_folding.proofs.terms.add_item.Given as goal

abbrev pub invariant-loop-at : goal.invariant-loop-at
invariant-loop-at g l =
    let h = g.S.LinkStore.heap l.store in
    let at = g.S.LinkStore.atom_id l.at.atom in
    record {
      atom : IsAtom h at;
      walk : Left l.names h (number_by_mark h) (g.S.LinkStore.atom_id l.fn.item) (output l.initial.buffer (g.O.Sink.told l.initial.out) (g.O.Sink.faults l.initial.out))
          (output l.buffer (g.O.Sink.told l.out) (g.O.Sink.faults l.out)) at l.at.port l.turns;
      few : l.turns ≤ 2 ^ 49;
      low : l.at.port < 256;
    }

abbrev pub decreases-loop-at : goal.decreases-loop-at
decreases-loop-at g l = (2 ^ 64 - l.turns) * 256 - l.at.port
