use Rattle.std.proofs.Common.{ℕ, List, ◌∷◌, [], length}
use Rattle.lmn_store_heap.specs.Heap.{after}
use Rattle.lmn_ground_parts.specs.Rests.{CopyWaits}
use Rattle.lmn_ground.proofs.RestLaws.{rest_found}
use Rattle.lmn_ground.proofs.PlacingLaws.{Placing}
use Rattle.lmn_ground.proofs.cells.place_cells.Given as goal

abbrev pub invariant-loop-next : goal.invariant-loop-next
invariant-loop-next g l =
    let s = g.S.LinkStore.heap l.fn.store in
    let m = g.S.LinkStore.mem_id l.from in
    let n = g.S.LinkStore.mem_id l.fn.to in
    record {
      placing : (atoms membranes copies new_membranes : List ℕ) → CopyWaits s m n atoms membranes copies new_membranes
          → Placing s (g.S.LinkStore.heap l.store) m n atoms membranes copies new_membranes (g.S.LinkStore.mem_id l.at.mem) (g.S.LinkStore.mem_id l.at.copy);
    }

abbrev pub decreases-loop-next : goal.decreases-loop-next
decreases-loop-next g l =
    let m = g.S.LinkStore.mem_id l.from in
    length (after (g.S.LinkStore.mem_id l.at.mem) (m ∷ rest_found (g.S.LinkStore.heap l.fn.store) m []))
