use Rattle.std.proofs.Common.{◌-◌, length}
use Rattle.lmn_store_heap.specs.Heap.{IsMem}
use Rattle.lmn_store_heap.specs.Lists.{after}
use Rattle.lmn_store_heap.specs.Sound.{Forest, IsTree, flat}
use Rattle.lmn_store_heap.specs.Trees.{tree_of}
use Rattle.lmn_store_heap.proofs.Trees.{Left}
use Rattle.lmn_print_plain.proofs.order.next_beside.Given as goal

abbrev pub invariant-loop-parent : goal.invariant-loop-parent
invariant-loop-parent g l =
    let h = g.S.LinkStore.heap l.store in
    record {
      walk : (f : Forest) → IsTree h f → Left f (g.S.LinkStore.mem_id l.fn.mem) (g.S.LinkStore.mem_id l.at);
      there : IsMem h (g.S.LinkStore.mem_id l.at);
    }

abbrev pub decreases-loop-parent : goal.decreases-loop-parent
decreases-loop-parent g l =
    let t = flat (tree_of (g.S.LinkStore.heap l.store)) in
    length t - length (after (g.S.LinkStore.mem_id l.at) t)
