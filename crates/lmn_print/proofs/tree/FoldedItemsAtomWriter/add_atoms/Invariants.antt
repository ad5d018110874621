use Rattle.std.proofs.Common.{◌≡◌, Some, ℕ, List, true, false, length}
use Rattle.std.specs.Prelude.{IfSome}
use Rattle.std.specs.Option.{option_map}
use Rattle.lmn_print_folding.specs.Marks.{is_item}
use Rattle.lmn_store_heap.specs.Heap.{home_of}
use Rattle.lmn_store_heap.specs.Lists.{from}
use Rattle.lmn_io.specs.Gathering.{output}
use Rattle.lmn_print_folding.specs.Chosen.{items_in}
use Rattle.lmn_print_plain.specs.Rows.{in_row}
use Rattle.lmn_print.specs.Texts.{AreItemTexts}
use Rattle.lmn_print.proofs.ItemRows.{ItemsDue}
use Rattle.lmn_print.proofs.tree.FoldedItemsAtomWriter.add_atoms.Given as goal

abbrev pub invariant-loop-next : goal.invariant-loop-next
invariant-loop-next g l =
    let h = g.S.LinkStore.heap l.store in
    let m = g.S.LinkStore.mem_id l.fn.mem in
    record {
      due : (texts : List (List ℕ)) → AreItemTexts l.names h m texts → ItemsDue l.names h l.between l.any (from (option_map g.S.LinkStore.atom_id l.next) (items_in h m)) (in_row l.between false texts)
          (output l.initial.buffer (g.O.Sink.told l.initial.out) (g.O.Sink.faults l.initial.out)) (output l.buffer (g.O.Sink.told l.out) (g.O.Sink.faults l.out));
      there : IfSome l.next (λ a. home_of h (g.S.LinkStore.atom_id a) ≡ Some m);
      item : IfSome l.next (λ a. is_item h (g.S.LinkStore.atom_id a) ≡ true);
    }

abbrev pub decreases-loop-next : goal.decreases-loop-next
decreases-loop-next g l = length (from (option_map g.S.LinkStore.atom_id l.next) (items_in (g.S.LinkStore.heap l.fn.store) (g.S.LinkStore.mem_id l.fn.mem)))
