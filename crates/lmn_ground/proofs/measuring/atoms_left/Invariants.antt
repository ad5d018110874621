use Rattle.std.proofs.Common.{◌≡◌, ◌+◌, ℕ, List, length, map}
use Rattle.std.specs.Prelude.{IfSome}
use Rattle.std.specs.Option.{option_map}
use Rattle.lmn_base.specs.Lists.{In}
use Rattle.lmn_store_heap.specs.Heap.{IsInPlace, from}
use Rattle.lmn_ground.specs.Rests.{IsLeft}
use Rattle.lmn_ground.proofs.ClosingLaws.{rest_atoms}
use Rattle.lmn_ground.proofs.measuring.atoms_left.Given as goal

abbrev pub invariant-loop-next : goal.invariant-loop-next
invariant-loop-next g l =
    let s = g.S.LinkStore.heap l.store in
    let m = g.S.LinkStore.mem_id l.mem in
    let out = map g.S.LinkStore.mem_id l.out in
    record {
      counted : (all membranes : List ℕ) → IsLeft s m out all membranes → l.count + length (from (option_map g.S.LinkStore.atom_id l.next) all) ≡ length all;
      at : IfSome l.next (λ a. (all membranes : List ℕ) → IsLeft s m out all membranes → In (g.S.LinkStore.atom_id a) all);
      place : IfSome l.next (λ a. IsInPlace s (g.S.LinkStore.atom_id a));
    }

abbrev pub decreases-loop-next : goal.decreases-loop-next
decreases-loop-next g l =
    length (from (option_map g.S.LinkStore.atom_id l.next) (rest_atoms (g.S.LinkStore.heap l.store) (g.S.LinkStore.mem_id l.mem) (map g.S.LinkStore.mem_id l.out)))
