use Rattle.std.proofs.Common.{IfSome, length}
use Rattle.std.specs.Option.{option_map}
use Rattle.lmn_store_heap.specs.Heap.{IsInPlace}
use Rattle.lmn_store_heap.specs.Lists.{from}
use Rattle.lmn_store_heap.specs.Sound.{Forest, IsTree, flat}
use Rattle.lmn_store_heap.specs.Trees.{tree_of}
use Rattle.lmn_print_plain.specs.Numbers.{Remarks, printed_atoms}
use Rattle.lmn_print_plain.proofs.NumberingLemmas.{Numbering}
use Rattle.lmn_print_plain.proofs.numbers.number_links.Given as goal

abbrev pub invariant-loop-next : goal.invariant-loop-next
invariant-loop-next g l =
    let s = g.S.LinkStore.heap l.fn.store in
    let t = g.S.LinkStore.heap l.store in
    record {
      marks : Remarks s t;
      numbering : (f : Forest) → IsTree s f → Numbering s t l.count (option_map g.S.LinkStore.atom_id l.next) f;
      place : IfSome l.next (λ a. IsInPlace s (g.S.LinkStore.atom_id a));
    }

abbrev pub decreases-loop-next : goal.decreases-loop-next
decreases-loop-next g l =
    let s = g.S.LinkStore.heap l.fn.store in
    length (from (option_map g.S.LinkStore.atom_id l.next) (printed_atoms s (flat (tree_of s))))
