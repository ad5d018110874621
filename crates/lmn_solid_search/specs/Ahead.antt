-- Whether a membrane has as many atoms with a functor as a head asks of it. Only private functions' contracts cite these words.
use Rattle.std.specs.Prelude.{ℕ, suc, ◌≡◌, ◌≤◌, ◌==◌, ◌&&◌, if◌then◌else◌, List, [], ◌∷◌, Some, length, slice_get}
use Rattle.lmn_base.specs.declared.functor.Functor.{Functor}
use Rattle.lmn_store_heap.specs.Heap.{Heap, atoms_in}
use Rattle.lmn_store_heap.specs.Functors.{same_functor, with_functor}
use Rattle.lmn_solid_heads.specs.declared.items.HeadItem.{HeadItem}
use Rattle.lmn_solid_heads.specs.Heads.{HeadAtom, atom_of, atoms_of}

-- how many of these atoms stand in membrane number k and have a functor
abbrev pub asked_in : ℕ → Functor → List HeadAtom → ℕ
asked_in k functor [] = 0
asked_in k functor (a ∷ xs) = if (a.inside == k) && same_functor a.functor functor then suc (asked_in k functor xs) else asked_in k functor xs

-- so many, or more, stand in a membrane
abbrev pub HoldsEnough : Heap → ℕ → ℕ → List HeadItem → Functor → Type 0
HoldsEnough h k m items functor = asked_in k functor (atoms_of items) ≤ length (with_functor h functor (atoms_in h m))

-- it is so for the functor of an item, where that is an atom that stands in membrane number k
abbrev pub HoldsItem : Heap → ℕ → ℕ → List HeadItem → HeadItem → Type 0
HoldsItem h k m items item = (a : HeadAtom) → atom_of item ≡ a ∷ [] → a.inside ≡ k → HoldsEnough h k m items a.functor

-- it is so for the functor of each atom of a head that stands in membrane number k
abbrev pub HoldsFunctors : Heap → ℕ → ℕ → List HeadItem → Type 0
HoldsFunctors h k m items = (n : ℕ) (a : HeadAtom) → slice_get (atoms_of items) n ≡ Some a → a.inside ≡ k → HoldsEnough h k m items a.functor
