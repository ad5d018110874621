use Rattle.std.proofs.Common.{ℕ, List}
use Rattle.lmn_ground_parts.specs.Rests.{IsContent}
use Rattle.lmn_ground.proofs.DroppingLaws.{Dropping, way_left}
use Rattle.lmn_ground.proofs.cells.drop_cells.Given as goal

abbrev pub invariant-loop-inner : goal.invariant-loop-inner
invariant-loop-inner g l =
    let s = g.S.LinkStore.heap l.fn.store in
    let m = g.S.LinkStore.mem_id l.mem in
    record {
      way : (atoms membranes : List ℕ) → IsContent s m atoms membranes → Dropping s (g.S.LinkStore.heap l.store) m atoms membranes (g.S.LinkStore.mem_id l.at);
    }

abbrev pub decreases-loop-inner : goal.decreases-loop-inner
decreases-loop-inner g l = way_left (g.S.LinkStore.heap l.fn.store) (g.S.LinkStore.heap l.store) (g.S.LinkStore.mem_id l.mem) (g.S.LinkStore.mem_id l.at)
