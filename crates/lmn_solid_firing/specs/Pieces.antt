-- What a match is made of, piece by piece. Only private functions' contracts cite these words.
use Rattle.std.specs.Prelude.{ℕ, zero, suc, ◌≡◌, ◌<◌, ◌≤◌, ◌+◌, ◌==◌, cond, true, List, [], ◌∷◌, ◌++◌, Some, length, map, slice_get, slice_index_or}
use Rattle.lmn_base.specs.Graphs.{Port}
use Rattle.lmn_base.specs.Lists.{In}
use Rattle.lmn_store_heap.specs.Heap.{Heap, IsAtom, arity_of}
use Rattle.lmn_ground_parts.specs.Walks.{Walk, net, neighbour}
use Rattle.lmn_solid_heads.specs.Heads.{HeadAtom, times}
use Rattle.lmn_solid_bodies.specs.Flattening.{membrane_named}
use Rattle.lmn_solid_tables.specs.Flats.{link_at, port_by}
use Rattle.lmn_solid_tables.specs.declared.flat.Flat.{Flat}
use Rattle.lmn_solid_tables.specs.declared.tables.Port.{Port as Place}
use Rattle.lmn_solid_firing.specs.declared.match_.Part.{Part}
use Rattle.lmn_solid_firing.specs.Matched.{IsPartAt}

-- ---- images

-- the images of items, of which the first has the number n
abbrev pub images_from : {A : Type 0} → List ℕ → ℕ → List A → List ℕ
images_from images n [] = []
images_from images n (x ∷ xs) = slice_index_or images n 0 ∷ images_from images (suc n) xs

-- ---- names

-- each name of a list with the image of the membrane that has it first
abbrev pub imaged : (ℕ → ℕ) → List (ℕ × ℕ) → List (ℕ × ℕ) → List (ℕ × ℕ)
imaged f names es = map (λ e. (e.0, f (membrane_named names e.0))) es

-- ---- wires

-- the links of an atom of the head from one port on, with the numbers of those of the solid at its image
abbrev pub ends_at : Flat → ℕ → ℕ → List ℕ → List (ℕ × ℕ)
ends_at flat a i [] = []
ends_at flat a i (x ∷ xs) = (x, link_at flat a i) ∷ ends_at flat a (suc i) xs

-- the same of atoms of the head, of which the first has the number n
abbrev pub ends_from : Flat → List ℕ → ℕ → List HeadAtom → List (ℕ × ℕ)
ends_from flat images n [] = []
ends_from flat images n (a ∷ as') = ends_at flat (slice_index_or images n 0) 0 a.links ++ ends_from flat images (suc n) as'

-- the links at ends
abbrev pub links_at : List (ℕ × ℕ) → List ℕ
links_at es = map (λ e. e.0) es

-- the connector of a link, if it stands once, and those of all links below a number
abbrev pub wire : ℕ → List (ℕ × ℕ) → List ℕ → ℕ → List (ℕ × ℕ)
wire F ends typed n = cond (times n (links_at ends) + times n typed == 1) ((F + n, membrane_named ends n) ∷ []) []

abbrev pub wires : ℕ → List (ℕ × ℕ) → List ℕ → ℕ → List (ℕ × ℕ)
wires F ends typed zero = []
wires F ends typed (suc n) = wire F ends typed n ++ wires F ends typed n

-- ---- parts

-- a port is there
abbrev pub IsPort : Heap → Place → Type 0
IsPort h p = p.index < arity_of h p.atom

-- the ports on a stack, the last one first
abbrev pub stacked : List Place → List Port
stacked [] = []
stacked (p ∷ ps) = stacked ps ++ port_by p ∷ []

-- a walk from a root through its part
abbrev pub WalkIn : Heap → Port → List ℕ → List Port → List ℕ → Type 0
WalkIn h root = Walk (arity_of h) (neighbour (net h) root (λ _. true))

-- Marks tell what was found: it has the number of the round, and nothing has a later one.
pub record Tells (h : Heap) (round : ℕ) (marks atoms : List ℕ) : Type 0 where
  pub marked : (a : ℕ) → In a atoms → slice_get marks a ≡ Some round
  pub listed : (a : ℕ) → slice_get marks a ≡ Some round → In a atoms
  pub places : (a : ℕ) → IsAtom h a → a < length marks
  pub none_later : (a n : ℕ) → slice_get marks a ≡ Some n → n ≤ round

-- marks before a round
abbrev pub Before : Heap → ℕ → List ℕ → Type 0
Before h round marks = ((a : ℕ) → IsAtom h a → a < length marks) × ((a n : ℕ) → slice_get marks a ≡ Some n → n < round)

-- parts are those of typed contexts with these names, of which the first has the number g
abbrev pub AreParts : Flat → (ℕ → Port) → ℕ → List ℕ → List Part → Type 0
AreParts flat at g [] [] = Unit {0}
AreParts flat at g [] (p ∷ ps) = ⊥
AreParts flat at g (x ∷ xs) [] = ⊥
AreParts flat at g (x ∷ xs) (p ∷ ps) = (p.name ≡ x) × IsPartAt flat (at g) p × AreParts flat at (g + 1) xs ps
