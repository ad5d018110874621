use Rattle.std.proofs.Common.{◌≡◌, Some, length}
use Rattle.lmn_store_heap.specs.Heap.{IsMem}
use Rattle.lmn_store_heap.specs.Lists.{after, from}
use Rattle.lmn_store_heap.specs.Sound.{Forest, IsTree, flat}
use Rattle.lmn_store_heap.specs.Trees.{tree_of}
use Rattle.lmn_print_plain.specs.Numbers.{printed_atoms}
use Rattle.lmn_print_plain.proofs.order.first_from.Given as goal

abbrev pub invariant-loop-atom : goal.invariant-loop-atom
invariant-loop-atom g l =
    let h = g.S.LinkStore.heap l.store in
    record {
      left : (f : Forest) → IsTree h f → printed_atoms h (from (Some (g.S.LinkStore.mem_id l.at)) (flat f)) ≡ printed_atoms h (from (Some (g.S.LinkStore.mem_id l.fn.mem)) (flat f));
      there : IsMem h (g.S.LinkStore.mem_id l.at);
    }

abbrev pub decreases-loop-atom : goal.decreases-loop-atom
decreases-loop-atom g l = length (after (g.S.LinkStore.mem_id l.at) (flat (tree_of (g.S.LinkStore.heap l.store))))
