-- The numbers of the images of a head, each counted among the items of its list that earlier images have left.
use Rattle.std.specs.Prelude.{ℕ, ◌+◌, List, [], ◌∷◌, ◌++◌}
use Rattle.lmn_store_heap.specs.Heap.{Heap, atoms_in, mems_in}
use Rattle.lmn_store_heap.specs.Lists.{without_all}
use Rattle.lmn_solid_heads.specs.declared.items.HeadItem.{HeadItem}
use Rattle.lmn_solid_heads.specs.declared.items.HeadItem.TheVariants.{Atom, Typed, Membrane}
use Rattle.lmn_solid_heads.specs.Embeddings.{Images, index_of}

-- One number for each atom and membrane, in the order of the head. The first atom of the items has the number n, the first
-- membrane k; `as'` are the images of earlier atoms, `ms` those of earlier membranes.
abbrev pub numbers_left : Heap → Images → ℕ → ℕ → List ℕ → List ℕ → List HeadItem → List ℕ
numbers_left h f n k as' ms [] = []
numbers_left h f n k as' ms (Atom functor links inside ∷ xs) =
    index_of (f.atom n) (without_all as' (atoms_in h (f.membrane inside))) ∷ numbers_left h f (n + 1) k (as' ++ f.atom n ∷ []) ms xs
numbers_left h f n k as' ms (Typed name kind link inside ∷ xs) = numbers_left h f n k as' ms xs
numbers_left h f n k as' ms (Membrane inside has_context has_closed_context has_rule_context ∷ xs) =
    index_of (f.membrane k) (without_all ms (mems_in h (f.membrane inside))) ∷ numbers_left h f n (k + 1) as' (ms ++ f.membrane k ∷ []) xs
