use Rattle.std.proofs.Common.{◌≡◌, ◌+◌, length}
use Rattle.lmn_store_heap.specs.Heap.{HeapAtom, atom_sent}
use Rattle.lmn_store_slab.specs.Lines.{list_at}
use Rattle.lmn_store_slab.specs.Cells.{atoms_in_cells}
use Rattle.lmn_store_slab.proofs.MovingLemmas.{Moving}
use Rattle.lmn_store_slab.proofs.moving.move_atoms.Given as goal

abbrev pub invariant-loop-a : goal.invariant-loop-a
invariant-loop-a l = record {
  moving : Moving (λ (x : HeapAtom). x.place) (atom_sent l.m l.n) l.m l.n (atoms_in_cells l.initial.atoms.slots) (list_at l.initial.lists) (atoms_in_cells l.atoms.slots) (list_at l.lists);
  lengths : length l.lists.lists ≡ length l.initial.lists.lists;
  size : l.lists.size ≡ l.initial.lists.size;
}

abbrev pub decreases-loop-a : goal.decreases-loop-a
decreases-loop-a l = length (list_at l.lists (l.m + 2))
