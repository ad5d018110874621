-- Links get their numbers in printed order, in the marks of their ports.
use Rattle.std.specs.Prelude.{ℕ, ◌≡◌, ◌<◌, ◌+◌, nat_lt, if◌then◌else◌, List, [], ◌∷◌, ◌++◌}
use Rattle.std.specs.Option.{option_map}
use Rattle.lmn_base.specs.Links.{Numbers}
use Rattle.lmn_store_heap.specs.Heap.{Heap, HeapAtom, arity_of, mark_of, atoms_in}
use Rattle.lmn_store_heap.specs.Solid.{IsNaming, links_from}

-- the atoms of membranes, one membrane after the other
abbrev pub printed_atoms : Heap → List ℕ → List ℕ
printed_atoms s [] = []
printed_atoms s (m ∷ ms) = atoms_in s m ++ printed_atoms s ms

abbrev pub with_marks : List ℕ → HeapAtom → HeapAtom
with_marks ms x = record x { marks = ms }

-- the heap with these marks of its atoms
abbrev pub remarked : Heap → (ℕ → List ℕ) → Heap
remarked s marks = record s { atoms = λ a. option_map (with_marks (marks a)) (s.atoms a) }

-- t is s with other marks of ports
pub record Remarks (s t : Heap) : Type 0 where
  pub marks : ℕ → List ℕ
  pub is : t ≡ remarked s marks
  pub own : (a : ℕ) → mark_of t a (arity_of s a) ≡ mark_of s a (arity_of s a)

-- the mark for a link, when so many links have their numbers
abbrev pub mark_when : ℕ → ℕ → ℕ
mark_when n link = if nat_lt link n then link + 1 else 0

-- the marks of ports tell the numbers of the first n links
abbrev pub TellsFirst : Heap → (ℕ → ℕ → ℕ) → ℕ → Type 0
TellsFirst s name n = (a i : ℕ) → i < arity_of s a → mark_of s a i ≡ mark_when n (name a i)

-- From n numbers on the links of some ports get theirs, and there are m. Where the links are to be numbered by first
-- occurrence and these come next, the marks tell the numbers again, and what is left follows.
abbrev pub GoOn : Heap → Heap → ℕ → ℕ → ((ℕ → ℕ → ℕ) → List ℕ) → Type 0
GoOn s t n m links =
    (name : ℕ → ℕ → ℕ) → IsNaming s name → (left : List ℕ) (all : ℕ) → Numbers n (links name ++ left) all → TellsFirst s name n
    → Numbers m left all × TellsFirst t name m

-- the links of an atom's ports, and those of the atoms of a list
abbrev pub links_at_ports : Heap → ℕ → (ℕ → ℕ → ℕ) → List ℕ
links_at_ports s a name = links_from name a 0 (arity_of s a)

abbrev pub links_on : Heap → List ℕ → (ℕ → ℕ → ℕ) → List ℕ
links_on s [] name = []
links_on s (a ∷ xs) name = links_at_ports s a name ++ links_on s xs name
