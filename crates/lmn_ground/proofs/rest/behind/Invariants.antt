use Rattle.std.proofs.Common.{◌-◌, ℕ, List, length, map}
use Rattle.lmn_store_heap.specs.Heap.{IsMem, after}
use Rattle.lmn_store_heap.proofs.Trees.{Left}
use Rattle.lmn_ground.specs.Rests.{IsLeft}
use Rattle.lmn_ground.proofs.RestLaws.{rest_found}
use Rattle.lmn_ground.proofs.rest.behind.Given as goal

abbrev pub invariant-loop-round : goal.invariant-loop-round
invariant-loop-round g l =
    let h = g.S.LinkStore.heap l.store in
    record {
      walk : (atoms membranes : List ℕ) → (t : IsLeft h (g.S.LinkStore.mem_id l.mem) (map g.S.LinkStore.mem_id l.out) atoms membranes) → Left t.forest (g.S.LinkStore.mem_id l.fn.start) (g.S.LinkStore.mem_id l.at);
      there : IsMem h (g.S.LinkStore.mem_id l.at);
    }

abbrev pub decreases-loop-round : goal.decreases-loop-round
decreases-loop-round g l =
    let all = rest_found (g.S.LinkStore.heap l.store) (g.S.LinkStore.mem_id l.mem) (map g.S.LinkStore.mem_id l.out) in
    length all - length (after (g.S.LinkStore.mem_id l.at) all)
