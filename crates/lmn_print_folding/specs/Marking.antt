-- How own marks are set (own contracts alone): those of atoms that are no child, then those of the terms in them, then the others.
use Rattle.std.specs.Prelude.{ℕ, ◌≡◌, ◌≢◌, ◌<◌, ◌+◌, ◌-◌, ◌⊎◌, ◌↔◌, Some}
use Rattle.lmn_print_folding.specs.Marks.{argument_count, first_item_mark, later_item_mark, term_at, term_mark}
use Rattle.lmn_store_heap.specs.Heap.{Heap, IsAtom, arity_of, atoms_in, home_of, link_of, own_mark}
use Rattle.lmn_store_heap.specs.Lists.{after}
use Rattle.lmn_print_folding.specs.Chosen.{ChangesOwnMarks}
use Rattle.lmn_print_folding.specs.Children.{IsChildAt, DescendsAt}
use Rattle.lmn_base.specs.Lists.{In}

-- the atom is a child in no membrane
abbrev pub IsChildNowhere : Heap → ℕ → Type 0
IsChildNowhere s a = (m p k : ℕ) → ¬ (IsChildAt s m a p k)

-- and in some membrane it is one
abbrev pub IsChildSomewhere : Heap → ℕ → Type 0
IsChildSomewhere s a = (m : ℕ) × (p : ℕ) × (k : ℕ) × IsChildAt s m a p k

-- two atoms stand in one membrane
abbrev pub AreBeside : Heap → ℕ → ℕ → Type 0
AreBeside s a b = (m : ℕ) × (home_of s a ≡ Some m) × (home_of s b ≡ Some m)

-- t is s with this own mark of an atom
pub record SetsOwnMark (s t : Heap) (a v : ℕ) : Type 0 where
  pub marks : ChangesOwnMarks s t
  pub mark : own_mark t a ≡ v
  pub others : (b : ℕ) → b ≢ a → own_mark t b ≡ own_mark s b

-- An atom of the same membrane whose last port is joined to the last one of q has the mark of a first item exactly where it stands before q.
abbrev pub TellsBefore : Heap → ℕ → Type 0
TellsBefore s q =
    (m p k : ℕ) → In q (atoms_in s m) → In p (atoms_in s m) → link_of s q (arity_of s q - 1) ≡ Some (p, k) → k + 1 ≡ arity_of s p
    → (own_mark s p ≡ first_item_mark) ↔ In q (after p (atoms_in s m))

-- Exactly the atoms that are no child have the mark of a first item, and all others 0.
abbrev pub AreFirsts : Heap → Type 0
AreFirsts s = (a : ℕ) → IsAtom s a → ((own_mark s a ≡ first_item_mark) × IsChildNowhere s a) ⊎ ((own_mark s a ≡ 0) × IsChildSomewhere s a)

-- t is s with the mark of a first item for an atom that had 0, where it is no child
pub record MarksFirst (s t : Heap) (a : ℕ) : Type 0 where
  pub marks : ChangesOwnMarks s t
  pub here : ((own_mark t a ≡ first_item_mark) × IsChildNowhere s a) ⊎ ((own_mark t a ≡ 0) × IsChildSomewhere s a)
  pub others : (b : ℕ) → b ≢ a → own_mark t b ≡ own_mark s b

-- at the port k of the atom p the atom c is printed as a term
pub record IsTermAt (s : Heap) (p k c : ℕ) : Type 0 where
  pub low : k < argument_count s p
  pub term : term_at s p k ≡ Some c

-- the terms in an item, the terms in those, and so on
pub data IsTermIn (s : Heap) (i : ℕ) : ℕ → Type 0 where
  outer : {k c : ℕ} → IsTermAt s i k c → IsTermIn s i c
  inner : {p k c : ℕ} → IsTermIn s i p → IsTermAt s p k c → IsTermIn s i c

-- t is s with the mark of a term for the terms in an item
pub record MarksTerms (s t : Heap) (i : ℕ) : Type 0 where
  pub marks : ChangesOwnMarks s t
  pub terms : (c : ℕ) → IsTermIn s i c → own_mark t c ≡ term_mark
  pub others : (a : ℕ) → (own_mark t a ≡ own_mark s a) ⊎ IsTermIn s i a

-- t is s with the mark of a term for the terms in an atom, where this is marked as a first item
abbrev pub MarksTermsIfFirst : Heap → Heap → ℕ → Type 0
MarksTermsIfFirst s t a = ((own_mark s a ≡ first_item_mark) × MarksTerms s t a) ⊎ ((own_mark s a ≢ first_item_mark) × (t ≡ s))

-- Where the own mark of an atom is 0, t is s with the mark 2 for it, and then 3 for the terms in it.
abbrev pub MarksLater : Heap → Heap → ℕ → Type 0
MarksLater s t a = ((own_mark s a ≡ 0) × (u : Heap) × SetsOwnMark s u a later_item_mark × MarksTerms u t a) ⊎ ((own_mark s a ≢ 0) × (t ≡ s))

-- What descends from an atom that is no child is marked. The mark of a term says that an atom does.
pub record AreShown (s : Heap) : Type 0 where
  pub each : (a : ℕ) → IsAtom s a → (own_mark s a ≡ 0) ⊎ (own_mark s a ≡ first_item_mark) ⊎ (own_mark s a ≡ term_mark)
  pub first : (a : ℕ) → IsAtom s a → own_mark s a ≡ first_item_mark → IsChildNowhere s a
  pub others : (a : ℕ) → IsAtom s a → own_mark s a ≢ first_item_mark → IsChildSomewhere s a
  pub term : (a : ℕ) → IsAtom s a → own_mark s a ≡ term_mark → (m : ℕ) × (i : ℕ) × In i (atoms_in s m) × (own_mark s i ≡ first_item_mark) × DescendsAt s m i a
  pub below : (m p c k : ℕ) → IsChildAt s m c p k → own_mark s p ≢ 0 → own_mark s c ≢ 0
