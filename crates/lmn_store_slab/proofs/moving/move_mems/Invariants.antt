use Rattle.std.proofs.Common.{◌≡◌, ◌+◌, length}
use Rattle.lmn_store_heap.specs.Heap.{HeapMem, mem_sent}
use Rattle.lmn_store_slab.specs.Lines.{list_at}
use Rattle.lmn_store_slab.specs.Cells.{mems_in_cells}
use Rattle.lmn_store_slab.proofs.MovingLemmas.{Moving}
use Rattle.lmn_store_slab.proofs.moving.move_mems.Given as goal

abbrev pub invariant-loop-k : goal.invariant-loop-k
invariant-loop-k l = record {
  moving : Moving (λ (x : HeapMem). x.place) (mem_sent l.m l.n) l.m l.n (mems_in_cells l.initial.mems.slots) (list_at l.initial.lists) (mems_in_cells l.mems.slots) (list_at l.lists);
  lengths : length l.lists.lists ≡ length l.initial.lists.lists;
  size : l.lists.size ≡ l.initial.lists.size;
}

abbrev pub decreases-loop-k : goal.decreases-loop-k
decreases-loop-k l = length (list_at l.lists (l.m + 2))
