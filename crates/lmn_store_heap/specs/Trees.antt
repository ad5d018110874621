-- The tree of membranes as a function of the heap.
use Rattle.std.specs.Prelude.{ℕ, zero, suc, ◌^◌, List, [], ◌∷◌}
use Rattle.lmn_store_heap.specs.Heap.{Heap, mems_in}
use Rattle.lmn_store_heap.specs.Sound.{Forest, bare, mem}

-- the forest of a list of membranes, as far as the fuel lasts
abbrev pub forest_of : Heap → ℕ → List ℕ → Forest
forest_of s zero ms = bare
forest_of s (suc n) [] = bare
forest_of s (suc n) (m ∷ ms) = mem m (forest_of s n (mems_in s m)) (forest_of s n ms)

-- The tree of the root. The fuel is enough, since no store has more membranes.
unfoldable pub tree_of : Heap → Forest
tree_of s = forest_of s (2 ^ 48) (s.root ∷ [])
