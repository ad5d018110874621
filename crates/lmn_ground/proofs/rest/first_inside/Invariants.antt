use Rattle.std.proofs.Common.{◌≡◌, ℕ, List, length, map}
use Rattle.std.specs.Prelude.{IfSome}
use Rattle.std.specs.Option.{option_map}
use Rattle.lmn_base.specs.Lists.{In}
use Rattle.lmn_store_heap.specs.Heap.{IsMem, from}
use Rattle.lmn_ground_parts.specs.Rests.{atoms_of_all}
use Rattle.lmn_ground.specs.Rests.{IsLeft}
use Rattle.lmn_ground.proofs.RestLaws.{rest_found}
use Rattle.lmn_ground.proofs.rest.first_inside.Given as goal

abbrev pub invariant-loop-next : goal.invariant-loop-next
invariant-loop-next g l =
    let h = g.S.LinkStore.heap l.store in
    let m = g.S.LinkStore.mem_id l.mem in
    let out = map g.S.LinkStore.mem_id l.out in
    record {
      there : IfSome l.next (λ n. IsMem h (g.S.LinkStore.mem_id n));
      at : IfSome l.next (λ n. (atoms membranes : List ℕ) → IsLeft h m out atoms membranes → In (g.S.LinkStore.mem_id n) membranes);
      left : (atoms membranes : List ℕ) → IsLeft h m out atoms membranes →
          atoms_of_all h (from (option_map g.S.LinkStore.mem_id l.next) membranes) ≡ atoms_of_all h (from (option_map g.S.LinkStore.mem_id l.fn.start) membranes);
    }

abbrev pub decreases-loop-next : goal.decreases-loop-next
decreases-loop-next g l =
    length (from (option_map g.S.LinkStore.mem_id l.next) (rest_found (g.S.LinkStore.heap l.store) (g.S.LinkStore.mem_id l.mem) (map g.S.LinkStore.mem_id l.out)))
