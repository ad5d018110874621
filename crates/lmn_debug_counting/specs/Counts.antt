-- How many atoms of a heap have a functor.
use Rattle.std.specs.Prelude.{ℕ, ◌+◌, List, [], ◌∷◌, length}
use Rattle.lmn_base.specs.declared.functor.Functor.{Functor}
use Rattle.lmn_store_heap.specs.Heap.{Heap, atoms_in}
use Rattle.lmn_store_heap.specs.Functors.{with_functor}

-- how many atoms with the functor stand in some membranes of a heap, without what is in membranes inside them
abbrev pub count_in : Heap → Functor → List ℕ → ℕ
count_in h f [] = 0
count_in h f (m ∷ ms) = length (with_functor h f (atoms_in h m)) + count_in h f ms
