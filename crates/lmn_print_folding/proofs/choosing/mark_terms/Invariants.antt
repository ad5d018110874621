use Rattle.std.proofs.Common.{length}
use Rattle.std.specs.Option.{option_map}
use Rattle.std.specs.Prelude.{IfSome}
use Rattle.lmn_store_heap.specs.Heap.{IsAtom}
use Rattle.lmn_store_heap.specs.Lists.{from}
use Rattle.lmn_store_heap.specs.Sound.{Valid}
use Rattle.lmn_print_folding.proofs.PassEnds.{all_atoms, Showing}
use Rattle.lmn_print_folding.proofs.choosing.mark_terms.Given as goal

abbrev pub invariant-loop-next : goal.invariant-loop-next
invariant-loop-next g l =
    let s = g.S.LinkStore.heap l.fn.store in
    let t = g.S.LinkStore.heap l.store in
    record {
      valid : Valid t;
      place : IfSome l.next (λ a. IsAtom s (g.S.LinkStore.atom_id a));
      terms : Showing s t (option_map g.S.LinkStore.atom_id l.next);
    }

abbrev pub decreases-loop-next : goal.decreases-loop-next
decreases-loop-next g l =
    let s = g.S.LinkStore.heap l.fn.store in
    length (from (option_map g.S.LinkStore.atom_id l.next) (all_atoms s))
