use Rattle.std.proofs.Common.{◌≡◌, Some, IfSome, ◌==◌, length}
use Rattle.std.specs.Prelude.{filter}
use Rattle.std.specs.Option.{option_map}
use Rattle.lmn_store_heap.specs.Heap.{atoms_in, home_of, own_mark}
use Rattle.lmn_store_heap.specs.Lists.{from}
use Rattle.lmn_print.proofs.items.with_mark.Given as goal

abbrev pub invariant-loop-next : goal.invariant-loop-next
invariant-loop-next g l =
    let s = g.S.LinkStore.heap l.store in
    let m = g.S.LinkStore.mem_id l.fn.mem in
    record {
      left : filter (λ a. own_mark s a == l.fn.mark) (from (option_map g.S.LinkStore.atom_id l.next) (atoms_in s m))
          ≡ filter (λ a. own_mark s a == l.fn.mark) (from (option_map g.S.LinkStore.atom_id l.fn.first) (atoms_in s m));
      home : IfSome l.next (λ a. home_of s (g.S.LinkStore.atom_id a) ≡ Some m);
    }

abbrev pub decreases-loop-next : goal.decreases-loop-next
decreases-loop-next g l = length (from (option_map g.S.LinkStore.atom_id l.next) (atoms_in (g.S.LinkStore.heap l.store) (g.S.LinkStore.mem_id l.fn.mem)))
