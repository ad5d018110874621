use Rattle.std.proofs.Common.{◌≡◌, ◌≤◌, length}
use Rattle.lmn_store_heap.specs.Heap.{HeapAtom}
use Rattle.lmn_store_slab.specs.Lines.{list_at}
use Rattle.lmn_store_slab.specs.Cells.{atoms_in_cells}
use Rattle.lmn_store_counts.specs.Census.{Census}
use Rattle.lmn_store_counts.specs.Counts.{one}
use Rattle.lmn_store_slab.proofs.FreeingLemmas.{Freeing}
use Rattle.lmn_store_slab.proofs.freeing.free_atoms.Given as goal

abbrev pub invariant-loop-a : goal.invariant-loop-a
invariant-loop-a l = record {
  freeing : Freeing (λ (x : HeapAtom). x.place) (atoms_in_cells l.initial.atoms.slots) (list_at l.initial.lists) l.list (atoms_in_cells l.atoms.slots) (list_at l.lists);
  census : Census one (atoms_in_cells l.atoms.slots) l.count;
  fewer : l.count ≤ l.initial.count;
  lengths : length l.lists.lists ≡ length l.initial.lists.lists;
  size : l.lists.size ≡ l.initial.lists.size;
}

abbrev pub decreases-loop-a : goal.decreases-loop-a
decreases-loop-a l = length (list_at l.lists l.list)
