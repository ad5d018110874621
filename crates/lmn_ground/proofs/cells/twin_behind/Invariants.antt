use Rattle.std.proofs.Common.{◌≡◌, ◌-◌, ℕ, List, ◌∷◌, [], length}
use Rattle.lmn_base.specs.Lists.{In}
use Rattle.lmn_store_heap.specs.Heap.{IsMem, after}
use Rattle.lmn_store_heap.specs.Sound.{Sound}
use Rattle.lmn_ground_parts.specs.Rests.{IsContent}
use Rattle.lmn_ground.specs.Rests.{AreTwins}
use Rattle.lmn_ground.proofs.RestLaws.{rest_found}
use Rattle.lmn_ground.proofs.TwinLaws.{Ahead}
use Rattle.lmn_ground.proofs.cells.twin_behind.Given as goal

abbrev pub invariant-loop-mem : goal.invariant-loop-mem
invariant-loop-mem g l =
    let s = g.S.LinkStore.heap l.store in
    let m = g.S.LinkStore.mem_id l.mem in
    let at = g.S.LinkStore.mem_id l.at.mem in
    let start = g.S.LinkStore.mem_id l.fn.start.mem in
    record {
      ahead : (sound : Sound s) (atoms membranes : List ℕ) (r : IsContent s m atoms membranes) → Ahead s sound m atoms membranes r start at;
      twin : (twin : ℕ → ℕ) (placed : List ℕ) → AreTwins s m twin placed → In start (m ∷ placed) → twin start ≡ g.S.LinkStore.mem_id l.fn.start.copy → In at (m ∷ placed) × (twin at ≡ g.S.LinkStore.mem_id l.at.copy);
      there : IsMem s (g.S.LinkStore.mem_id l.at.copy);
    }

abbrev pub decreases-loop-mem : goal.decreases-loop-mem
decreases-loop-mem g l =
    let m = g.S.LinkStore.mem_id l.mem in
    let all = m ∷ rest_found (g.S.LinkStore.heap l.store) m [] in
    length all - length (after (g.S.LinkStore.mem_id l.at.mem) all)
