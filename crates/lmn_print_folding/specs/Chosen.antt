-- Own marks that tell how the atoms of each membrane are printed.
use Rattle.std.specs.Prelude.{ℕ, ◌≡◌, ◌<◌, ◌==◌, List, [], ◌∷◌, ◌++◌, map, filter}
use Rattle.lmn_congruence.specs.Regions.{SolidAtom}
use Rattle.lmn_congruence.specs.Rules.{Name}
use Rattle.lmn_congruence.specs.Translation.{solid_atom_of}
use Rattle.lmn_print_folded.specs.Folding.{AreItems, ShowsItems}
use Rattle.lmn_print_folded.specs.Terms.{FoldedItem}
use Rattle.lmn_print_folding.specs.Marks.{first_item_mark, later_item_mark}
use Rattle.lmn_print_folding.specs.Printed.{PrintsItem}
use Rattle.lmn_store_heap.specs.Heap.{Heap, IsMem, arity_of, atoms_in, mark_of, own_mark}
use Rattle.lmn_store_heap.specs.Solid.{IsNaming, solid_atoms_at}
use Rattle.lmn_print_plain.specs.Numbers.{remarked}

-- t is s with other own marks
pub record ChangesOwnMarks (s t : Heap) : Type 0 where
  pub marks : ℕ → List ℕ
  pub is : t ≡ remarked s marks
  pub ports : (a i : ℕ) → i < arity_of s a → mark_of t a i ≡ mark_of s a i

-- the atoms of a membrane that have this own mark, in the order of its list
abbrev pub marked_in : Heap → ℕ → ℕ → List ℕ
marked_in s mark m = filter (λ a. own_mark s a == mark) (atoms_in s m)

-- Items are printed in this order: those with the mark of a first item, and then those with that of a later one.
abbrev pub items_in : Heap → ℕ → List ℕ
items_in s m = marked_in s first_item_mark m ++ marked_in s later_item_mark m

-- the atoms of a membrane, with numbers for their links
abbrev pub atoms_with : List Name → Heap → (ℕ → ℕ → ℕ) → ℕ → List SolidAtom
atoms_with names s name m = map (solid_atom_of names) (solid_atoms_at s name (atoms_in s m))

-- what is printed of each of these atoms
pub data PrintsItems (names : List Name) (s : Heap) (name : ℕ → ℕ → ℕ) : List ℕ → List FoldedItem → Type 0 where
  none : PrintsItems names s name [] []
  more : {a : ℕ} {others : List ℕ} {i : FoldedItem} {is : List FoldedItem} → PrintsItem names s name a i → PrintsItems names s name others is →
      PrintsItems names s name (a ∷ others) (i ∷ is)

-- What is printed of the items of a membrane is the folded form of its atoms.
pub record TellsItems (names : List Name) (s : Heap) (name : ℕ → ℕ → ℕ) (m : ℕ) : Type 0 where
  pub shown : List FoldedItem
  pub prints : PrintsItems names s name (items_in s m) shown
  pub items : List ℕ
  pub are : AreItems (atoms_with names s name m) items
  pub shows : ShowsItems (λ x. x) (atoms_with names s name m) items items shown

-- So it is in each membrane, whatever names there are, and whatever numbers for links.
abbrev pub AreChosen : Heap → Type 0
AreChosen s = (names : List Name) (name : ℕ → ℕ → ℕ) → IsNaming s name → (m : ℕ) → IsMem s m → TellsItems names s name m
