-- Children of atoms in a heap, and own marks that tell which atoms of a membrane are items.
use Rattle.std.specs.Prelude.{ℕ, ◌≡◌, ◌≢◌, ◌<◌, ◌+◌, ◌-◌, ◌⊎◌, Some}
use Rattle.lmn_store_heap.specs.Heap.{Heap, IsMem, arity_of, atoms_in, link_of, own_mark}
use Rattle.lmn_store_heap.specs.Lists.{after}
use Rattle.lmn_store_heap.specs.Sound.{Valid}
use Rattle.lmn_print_folding.specs.Chosen.{AreChosen}
use Rattle.lmn_print_folding.specs.Marks.{first_item_mark, later_item_mark, term_mark}
use Rattle.lmn_base.specs.Lists.{In}

-- The atom q is a child of another atom p of its membrane at the port k of p: the last port of q is joined to that port, and that
-- port isn't the last one of p, or it is and p stands before q.
pub record IsChildAt (s : Heap) (m q p k : ℕ) : Type 0 where
  pub child : In q (atoms_in s m)
  pub parent : In p (atoms_in s m)
  pub ports : 0 < arity_of s q
  pub joined : link_of s q (arity_of s q - 1) ≡ Some (p, k)
  pub other : q ≢ p
  pub before : (k + 1 ≢ arity_of s p) ⊎ In q (after p (atoms_in s m))

-- the atom p, its children, their children, and so on
pub data DescendsAt (s : Heap) (m p : ℕ) : ℕ → Type 0 where
  itself : DescendsAt s m p p
  child : {q r k : ℕ} → DescendsAt s m p q → IsChildAt s m r q k → DescendsAt s m p r

-- i is one of the items that are chosen before the atom q is asked: no child, or a later item that stands before q
abbrev pub IsItemBefore : Heap → ℕ → ℕ → ℕ → Type 0
IsItemBefore s m q i = In i (atoms_in s m) × ((own_mark s i ≡ first_item_mark) ⊎ ((own_mark s i ≡ later_item_mark) × In q (after i (atoms_in s m))))

-- The own marks of the atoms of a membrane.
--   first   that of a first item where an atom is no child
--   later   that of a later one where it is a child and descends from no item that is chosen before it
--   term    that of a term where it descends from one
pub record IsMarkedIn (s : Heap) (m : ℕ) : Type 0 where
  pub each : (a : ℕ) → In a (atoms_in s m) → (own_mark s a ≡ first_item_mark) ⊎ (own_mark s a ≡ later_item_mark) ⊎ (own_mark s a ≡ term_mark)
  pub first : (a p k : ℕ) → own_mark s a ≡ first_item_mark → ¬ (IsChildAt s m a p k)
  pub later_child : (a : ℕ) → In a (atoms_in s m) → own_mark s a ≡ later_item_mark → (p : ℕ) × (k : ℕ) × IsChildAt s m a p k
  pub later : (a i : ℕ) → In a (atoms_in s m) → own_mark s a ≡ later_item_mark → IsItemBefore s m a i → ¬ (DescendsAt s m i a)
  pub term : (a : ℕ) → In a (atoms_in s m) → own_mark s a ≡ term_mark → (i : ℕ) × IsItemBefore s m a i × DescendsAt s m i a

-- Where the marks of each membrane are so, they tell its folded form. (An atom whose last port is joined into another membrane is
-- no child there, so the marks of all membranes are asked.)
abbrev pub MarkedAreTold : Type 0
MarkedAreTold = (s : Heap) → Valid s → ((m : ℕ) → IsMem s m → IsMarkedIn s m) → AreChosen s
