use Rattle.std.proofs.Common.{length}
use Rattle.std.specs.Prelude.{IfSome}
use Rattle.std.specs.Option.{option_map}
use Rattle.lmn_store_heap.specs.Heap.{IsInPlace}
use Rattle.lmn_store_heap.specs.Lists.{from}
use Rattle.lmn_store_heap.specs.Sound.{Forest, IsTree, flat}
use Rattle.lmn_store_heap.specs.Trees.{tree_of}
use Rattle.lmn_print_plain.specs.Numbers.{printed_atoms}
use Rattle.lmn_print_plain.proofs.ClearLemmas.{Clearing}
use Rattle.lmn_print_plain.proofs.numbers.clear_numbers.Given as goal

abbrev pub invariant-loop-next : goal.invariant-loop-next
invariant-loop-next g l =
    let s = g.S.LinkStore.heap l.fn.store in
    record {
      cleared : (f : Forest) → IsTree s f → Clearing s (g.S.LinkStore.heap l.store) f (option_map g.S.LinkStore.atom_id l.next);
      place : IfSome l.next (λ a. IsInPlace s (g.S.LinkStore.atom_id a));
    }

abbrev pub decreases-loop-next : goal.decreases-loop-next
decreases-loop-next g l =
    let s = g.S.LinkStore.heap l.fn.store in
    length (from (option_map g.S.LinkStore.atom_id l.next) (printed_atoms s (flat (tree_of s))))
