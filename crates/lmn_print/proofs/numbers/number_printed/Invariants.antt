use Rattle.std.proofs.Common.{IfSome, length}
use Rattle.std.specs.Option.{option_map}
use Rattle.lmn_store_heap.specs.Heap.{IsMem}
use Rattle.lmn_store_heap.specs.Lists.{from}
use Rattle.lmn_store_heap.specs.Sound.{Forest, IsTree, flat}
use Rattle.lmn_store_heap.specs.Trees.{tree_of}
use Rattle.lmn_print_plain.specs.Numbers.{Remarks}
use Rattle.lmn_print.specs.Walked.{printed_items}
use Rattle.lmn_print.proofs.ItemsLeft.{ItemsLeft}
use Rattle.lmn_print.proofs.numbers.number_printed.Given as goal

abbrev pub invariant-loop-next : goal.invariant-loop-next
invariant-loop-next g l =
    let s = g.S.LinkStore.heap l.fn.store in
    let t = g.S.LinkStore.heap l.store in
    record {
      marks : Remarks s t;
      left : (f : Forest) → IsTree s f → ItemsLeft s 0 (printed_items s (flat f)) t (printed_items s (from (option_map g.S.LinkStore.mem_id l.next) (flat f))) l.count;
      mem : IfSome l.next (λ m. IsMem s (g.S.LinkStore.mem_id m));
    }

abbrev pub decreases-loop-next : goal.decreases-loop-next
decreases-loop-next g l = length (from (option_map g.S.LinkStore.mem_id l.next) (flat (tree_of (g.S.LinkStore.heap l.fn.store))))
