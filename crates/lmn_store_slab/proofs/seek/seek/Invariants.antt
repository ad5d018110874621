use Rattle.std.proofs.Common.{◌≡◌, IfSome, length}
use Rattle.lmn_store_heap.specs.Lists.{from}
use Rattle.lmn_store_heap.specs.Heap.{Heap}
use Rattle.lmn_store_heap.specs.Functors.{with_functor}
use Rattle.lmn_store_slab.specs.Lines.{list_at}
use Rattle.lmn_store_slab.specs.Cells.{atoms_in_cells}
use Rattle.lmn_store_slab.proofs.seek.seek.Given as goal
use Rattle.lmn_base.specs.Lists.{In}

abbrev pub invariant-loop-at : goal.invariant-loop-at
invariant-loop-at l =
    let all = list_at l.lists l.list in
    record {
      there : IfSome l.at (λ a. In a all);
      rest : (h : Heap) → h.atoms ≡ atoms_in_cells l.atoms.slots → with_functor h l.f (from l.at all) ≡ with_functor h l.f (from l.fn.start all);
    }

abbrev pub decreases-loop-at : goal.decreases-loop-at
decreases-loop-at l = length (from l.at (list_at l.lists l.list))
