-- How atoms are printed stands in their own marks.
use Rattle.std.specs.Prelude.{ℕ, ◌≡◌, ◌<◌, ◌+◌, ◌-◌, ◌==◌, ◌&&◌, ◌||◌, not, Bool, true, false, if◌then◌else◌, List, [], ◌∷◌, Option, Some, None}
use Rattle.lmn_store_heap.specs.Heap.{Heap, arity_of, link_of, own_mark}

-- the own mark of an item that is no child, of one that is a child, and of a term
abbrev pub first_item_mark : ℕ
first_item_mark = 1

abbrev pub later_item_mark : ℕ
later_item_mark = 2

abbrev pub term_mark : ℕ
term_mark = 3

-- whether an atom is printed as an item
abbrev pub is_item : Heap → ℕ → Bool
is_item s a = (own_mark s a == first_item_mark) || (own_mark s a == later_item_mark)

-- whether a port is the last of an atom that is printed as a term
abbrev pub is_end_of_term : Heap → ℕ × ℕ → Bool
is_end_of_term s p = (p.1 + 1 == arity_of s p.0) && not (is_item s p.0)

abbrev pub term_by : Heap → Option (ℕ × ℕ) → Option ℕ
term_by s None = None
term_by s (Some p) = if is_end_of_term s p then Some p.0 else None

-- the atom that is printed as a term at a port, if one is
abbrev pub term_at : Heap → ℕ → ℕ → Option ℕ
term_at s a i = term_by s (link_of s a i)

-- how many arguments of an atom are printed: a term doesn't print its last
abbrev pub argument_count : Heap → ℕ → ℕ
argument_count s a = if is_item s a then arity_of s a else arity_of s a - 1

-- What a walk over the arguments of an item and of the terms in it meets, in printed order: a port that is printed as a link,
-- a port that is printed as a term, and the end of an atom's arguments.
pub data Event : Type 0 where
  meets_link : ℕ → ℕ → Event
  meets_term : ℕ → ℕ → ℕ → Event
  leaves : ℕ → Event

-- From port i of the atom a on the walk meets these.
pub data WalkMeets (s : Heap) : ℕ → ℕ → List Event → Type 0 where
  link : {a i : ℕ} {es : List Event} → i < argument_count s a → term_at s a i ≡ None → WalkMeets s a (i + 1) es → WalkMeets s a i (meets_link a i ∷ es)
  term : {a i : ℕ} {es : List Event} (c : ℕ) → i < argument_count s a → term_at s a i ≡ Some c → WalkMeets s c 0 es → WalkMeets s a i (meets_term a i c ∷ es)
  end_of_term : {a i : ℕ} {es : List Event} (p j : ℕ) → i ≡ argument_count s a → is_item s a ≡ false → 0 < arity_of s a → link_of s a i ≡ Some (p, j)
      → WalkMeets s p (j + 1) es → WalkMeets s a i (leaves a ∷ es)
  end_of_item : {a i : ℕ} → i ≡ argument_count s a → is_item s a ≡ true → WalkMeets s a i (leaves a ∷ [])

-- the atoms that a walk leaves
abbrev pub atoms_left : List Event → List ℕ
atoms_left [] = []
atoms_left (meets_link a i ∷ es) = atoms_left es
atoms_left (meets_term a i c ∷ es) = atoms_left es
atoms_left (leaves a ∷ es) = a ∷ atoms_left es

-- the links that are met, by the names of links at ports
abbrev pub links_met : List Event → (ℕ → ℕ → ℕ) → List ℕ
links_met [] name = []
links_met (meets_link a i ∷ es) name = name a i ∷ links_met es name
links_met (meets_term a i c ∷ es) name = links_met es name
links_met (leaves a ∷ es) name = links_met es name
