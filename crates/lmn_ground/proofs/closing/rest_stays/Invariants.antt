use Rattle.std.proofs.Common.{◌≡◌, ◌≢◌, ◌⊎◌, ℕ, List, Some, IsSome, length, map}
use Rattle.std.specs.Prelude.{IfSome}
use Rattle.std.specs.Option.{option_map}
use Rattle.lmn_base.specs.Lists.{In}
use Rattle.lmn_store_heap.specs.Heap.{from, home_of, link_of}
use Rattle.lmn_ground.specs.Marks.{first_marks}
use Rattle.lmn_ground.specs.Rests.{IsLeft}
use Rattle.lmn_ground.proofs.ClosingLaws.{rest_atoms}
use Rattle.lmn_ground.proofs.closing.rest_stays.Given as goal

abbrev pub invariant-loop-next : goal.invariant-loop-next
invariant-loop-next g l =
    let s = g.S.LinkStore.heap l.store in
    let m = g.S.LinkStore.mem_id l.mem in
    let out = map g.S.LinkStore.mem_id l.out in
    record {
      stayed : (atoms membranes : List ℕ) → IsLeft s m out atoms membranes → (a : ℕ) → In a atoms →
          In a (from (option_map g.S.LinkStore.atom_id l.next) atoms) ⊎ ((i b j : ℕ) → link_of s a i ≡ Some (b, j) → first_marks s b ≢ 0);
      at : IfSome l.next (λ a. (atoms membranes : List ℕ) → IsLeft s m out atoms membranes → In (g.S.LinkStore.atom_id a) atoms);
      place : IfSome l.next (λ a. IsSome (home_of s (g.S.LinkStore.atom_id a)));
    }

abbrev pub decreases-loop-next : goal.decreases-loop-next
decreases-loop-next g l =
    length (from (option_map g.S.LinkStore.atom_id l.next) (rest_atoms (g.S.LinkStore.heap l.store) (g.S.LinkStore.mem_id l.mem) (map g.S.LinkStore.mem_id l.out)))
