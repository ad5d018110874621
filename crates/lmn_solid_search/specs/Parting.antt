-- The parts of the typed contexts of a placement. Only private functions' contracts cite these words.
use Rattle.std.specs.Prelude.{ℕ, ◌≡◌, ◌<◌, ◌↔◌, ◌⊎◌, List, Option, Some, length, slice_get, slice_index_or, ◌==◌, if◌then◌else◌, [], ◌∷◌, None}
use Rattle.lmn_base.specs.Lists.{In}
use Rattle.lmn_base.specs.Graphs.{Port, Reached}
use Rattle.lmn_store_heap.specs.Heap.{Heap, IsAtom, link_of}
use Rattle.lmn_store_heap.specs.Graphs.{atom_map}
use Rattle.lmn_solid_heads.specs.Guards.{IsOfKindAt}
use Rattle.lmn_solid_tables.specs.Flats.{port_by}
use Rattle.lmn_solid_search.specs.Walking.{IsMarked, StandsApart}
use Rattle.lmn_solid_search.specs.Placing.{membrane_at}
use Rattle.lmn_solid_search.specs.declared.head.AtomItem.{AtomItem}
use Rattle.lmn_solid_search.specs.declared.head.TypedItem.{TypedItem}
use Rattle.lmn_solid_search.specs.declared.placed.Placed.{Placed}
use Rattle.lmn_solid_search.specs.declared.parts.Part.{Part}

-- each port of an atom at which a link stands is joined to a port; the same of all atoms with images
abbrev pub HoldsAt : Heap → List ℕ → ℕ → ℕ → Port → Type 0
HoldsAt h links x image q = (j y : ℕ) → slice_get links j ≡ Some y → y ≡ x → link_of h image j ≡ Some q

abbrev pub AllHold : Heap → List AtomItem → List ℕ → ℕ → Port → Type 0
AllHold h atoms images x q = (n : ℕ) (a : AtomItem) → slice_get atoms n ≡ Some a → HoldsAt h a.links x (slice_index_or images n 0) q

-- a link stands at a port of an atom, and leads to a port
abbrev pub LeadsTo : Heap → List ℕ → ℕ → ℕ → Port → Type 0
LeadsTo h links x image q = (j : ℕ) × (slice_get links j ≡ Some x) × (link_of h image j ≡ Some q)

-- the entry of a part of the kind of a typed context
abbrev pub IsEntry : Heap → List AtomItem → List ℕ → TypedItem → Port → Type 0
IsEntry h atoms images t q = AllHold h atoms images t.link q × IsOfKindAt h t.kind q

-- the part that is entered at a port is that of a typed context
abbrev pub IsPart : Heap → List AtomItem → Placed → TypedItem → Port → Type 0
IsPart h atoms p t q = IsEntry h atoms p.atoms t q × StandsApart h q (membrane_at p.home p.membranes t.inside) p.atoms

-- a part has its atoms
abbrev pub AtomsAre : Heap → Part → Type 0
AtomsAre h part = (a : ℕ) → In a part.atoms ↔ Reached (atom_map h) (port_by part.entry) a

-- a part with its atoms is that of a typed context; so are the first n of a list
abbrev pub IsTaken : Heap → List AtomItem → Placed → TypedItem → Part → Type 0
IsTaken h atoms p t part = IsPart h atoms p t (port_by part.entry) × AtomsAre h part

pub record AreTaken (h : Heap) (atoms : List AtomItem) (p : Placed) (typed : List TypedItem) (parts : List Part) (n : ℕ) : Type 0 where
  pub long : length parts ≡ n
  pub each : (i : ℕ) (t : TypedItem) (part : Part) → slice_get typed i ≡ Some t → slice_get parts i ≡ Some part → IsTaken h atoms p t part

-- an atom is an image, or one of a part that is written in membrane number k; the first n typed contexts count
abbrev pub IsMine : List ℕ → List TypedItem → List Part → ℕ → ℕ → ℕ → Type 0
IsMine images typed parts k n b = In b images ⊎ ((i : ℕ) × (t : TypedItem) × (part : Part) × (slice_get typed i ≡ Some t) × (slice_get parts i ≡ Some part) × (i < n) × (t.inside ≡ k) × In b part.atoms)

-- marks tell what is mine
abbrev pub TellMine : List ℕ → List TypedItem → List Part → ℕ → ℕ → List (Option ℕ) → Type 0
TellMine images typed parts k n marks = (b : ℕ) → IsMarked marks b ↔ IsMine images typed parts k n b

-- the port at which the part of a name is entered: that of the first typed context with the name
abbrev pub first_named : List TypedItem → List Part → ℕ → Option Port
first_named [] parts x = None
first_named (t ∷ typed) [] x = None
first_named (t ∷ typed) (q ∷ parts) x = if t.name == x then Some (port_by q.entry) else first_named typed parts x

-- each part is entered at an atom
abbrev pub AreEntered : Heap → List Part → Type 0
AreEntered h parts = (n : ℕ) (part : Part) → slice_get parts n ≡ Some part → IsAtom h (port_by part.entry).0
