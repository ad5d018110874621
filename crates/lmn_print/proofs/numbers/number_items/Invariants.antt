use Rattle.std.proofs.Common.{◌≡◌, Some, IfSome, true, length}
use Rattle.std.specs.Option.{option_map}
use Rattle.lmn_print_folding.specs.Marks.{is_item}
use Rattle.lmn_store_heap.specs.Heap.{home_of}
use Rattle.lmn_store_heap.specs.Lists.{from}
use Rattle.lmn_print_folding.specs.Chosen.{items_in}
use Rattle.lmn_print_plain.specs.Numbers.{Remarks}
use Rattle.lmn_print.proofs.ItemsLeft.{ItemsLeft}
use Rattle.lmn_print.proofs.numbers.number_items.Given as goal

abbrev pub invariant-loop-next : goal.invariant-loop-next
invariant-loop-next g l =
    let s = g.S.LinkStore.heap l.fn.store in
    let t = g.S.LinkStore.heap l.store in
    let m = g.S.LinkStore.mem_id l.fn.mem in
    record {
      marks : Remarks s t;
      left : ItemsLeft s l.fn.count (items_in s m) t (from (option_map g.S.LinkStore.atom_id l.next) (items_in s m)) l.numbered;
      home : IfSome l.next (λ a. home_of s (g.S.LinkStore.atom_id a) ≡ Some m);
      item : IfSome l.next (λ a. is_item s (g.S.LinkStore.atom_id a) ≡ true);
    }

abbrev pub decreases-loop-next : goal.decreases-loop-next
decreases-loop-next g l =
    let s = g.S.LinkStore.heap l.fn.store in
    length (from (option_map g.S.LinkStore.atom_id l.next) (items_in s (g.S.LinkStore.mem_id l.fn.mem)))
