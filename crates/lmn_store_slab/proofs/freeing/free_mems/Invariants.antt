use Rattle.std.proofs.Common.{◌≡◌, ◌≤◌, length}
use Rattle.lmn_store_heap.specs.Heap.{HeapMem}
use Rattle.lmn_store_slab.specs.Lines.{list_at}
use Rattle.lmn_store_slab.specs.Cells.{mems_in_cells}
use Rattle.lmn_store_counts.specs.Census.{Census}
use Rattle.lmn_store_counts.specs.Counts.{with_rules}
use Rattle.lmn_store_slab.proofs.FreeingLemmas.{Freeing}
use Rattle.lmn_store_slab.proofs.freeing.free_mems.Given as goal

abbrev pub invariant-loop-m : goal.invariant-loop-m
invariant-loop-m l = record {
  freeing : Freeing (λ (x : HeapMem). x.place) (mems_in_cells l.initial.mems.slots) (list_at l.initial.lists) l.list (mems_in_cells l.mems.slots) (list_at l.lists);
  census : Census with_rules (mems_in_cells l.mems.slots) l.count;
  spares : Census (λ x. x.spare) (mems_in_cells l.mems.slots) l.spare;
  fewer : l.count ≤ l.initial.count;
  less_spare : l.spare ≤ l.initial.spare;
  lengths : length l.lists.lists ≡ length l.initial.lists.lists;
  size : l.lists.size ≡ l.initial.lists.size;
}

abbrev pub decreases-loop-m : goal.decreases-loop-m
decreases-loop-m l = length (list_at l.lists l.list)
