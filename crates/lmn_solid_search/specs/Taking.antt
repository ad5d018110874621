-- The items of a head by their sorts, as the search keeps them. Only private functions' contracts cite these words.
use Rattle.std.specs.Prelude.{ℕ, ◌≡◌, ◌≢◌, ◌<◌, List, Some, length, map, slice_get, slice_index_or}
use Rattle.lmn_base.specs.Graphs.{Port}
use Rattle.lmn_store_heap.specs.Heap.{Heap, link_of}
use Rattle.lmn_solid_heads.specs.declared.items.HeadItem.{HeadItem}
use Rattle.lmn_solid_heads.specs.Heads.{HeadAtom, HeadTyped, HeadMembrane, atoms_of, typed_contexts_of, membranes_of}
use Rattle.lmn_solid_search.specs.declared.head.AtomItem.{AtomItem}
use Rattle.lmn_solid_search.specs.declared.head.TypedItem.{TypedItem}
use Rattle.lmn_solid_search.specs.declared.head.MembraneItem.{MembraneItem}
use Rattle.lmn_solid_search.specs.declared.head.Head.{Head}

abbrev pub kept_atom : HeadAtom → AtomItem
kept_atom a = record { functor = a.functor; links = a.links; inside = a.inside }

abbrev pub kept_typed : HeadTyped → TypedItem
kept_typed t = record { name = t.name; kind = t.kind; link = t.link; inside = t.inside }

abbrev pub kept_membrane : HeadMembrane → MembraneItem
kept_membrane m = record { inside = m.inside; has_context = m.has_context; has_closed_context = m.has_closed_context; has_rule_context = m.has_rule_context }

-- the items of a head are kept by their sorts
pub record IsTakenApart (items : List HeadItem) (head : Head) : Type 0 where
  pub atoms : head.atoms ≡ map kept_atom (atoms_of items)
  pub typed : head.typed ≡ map kept_typed (typed_contexts_of items)
  pub membranes : head.membranes ≡ map kept_membrane (membranes_of items)

-- a link stands at a port of an atom
abbrev pub StandsAt : List AtomItem → ℕ → Port → Type 0
StandsAt atoms x p = (a : AtomItem) × (slice_get atoms p.0 ≡ Some a) × (slice_get a.links p.1 ≡ Some x)

-- the image of a port, where these are the images of atoms
abbrev pub image_port : List ℕ → Port → Port
image_port images p = (slice_index_or images p.0 0, p.1)

-- a link that stands at a port of an atom is joined to each other port of the atoms that have images
abbrev pub PortFits : Heap → List AtomItem → List ℕ → Port → ℕ → Type 0
PortFits h atoms images p x = (q : Port) → q.0 < length images → StandsAt atoms x q → q ≢ p → link_of h (slice_index_or images p.0 0) p.1 ≡ Some (image_port images q)

-- the same of the ports of one atom
abbrev pub PortFitsTo : Heap → List AtomItem → List ℕ → Port → ℕ → ℕ → Type 0
PortFitsTo h atoms images p x m = (j : ℕ) → StandsAt atoms x (m, j) → ◌≢◌ {A = Port} (m, j) p → link_of h (slice_index_or images p.0 0) p.1 ≡ Some (image_port images (m, j))

-- each link of an atom is
abbrev pub LinksFit : Heap → List AtomItem → List ℕ → ℕ → Type 0
LinksFit h atoms images n = (i x : ℕ) → StandsAt atoms x (n, i) → PortFits h atoms images (n, i) x

-- the same of the ports of one atom
abbrev pub LinksFitTo : Heap → List AtomItem → List ℕ → ℕ → ℕ → Type 0
LinksFitTo h atoms images n m = (i x : ℕ) → StandsAt atoms x (n, i) → PortFitsTo h atoms images (n, i) x m
