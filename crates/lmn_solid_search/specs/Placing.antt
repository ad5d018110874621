-- Where the items of a head are placed, and what is asked of a whole placement. Only private functions' contracts cite these words, but for `membrane_at`, which `specs/Finding` cites.
use Rattle.std.specs.Prelude.{ℕ, ◌==◌, if◌then◌else◌, zero, suc, ◌≡◌, ◌≢◌, ◌++◌, false, List, [], ◌∷◌, Option, Some, length, map, slice_get, slice_index_or}
use Rattle.lmn_base.specs.Lists.{In}
use Rattle.lmn_base.specs.Graphs.{Port}
use Rattle.lmn_store_heap.specs.Heap.{Heap, IsAtom, IsMem, link_of, atoms_in, mems_in, rules_in}
use Rattle.lmn_solid_heads.specs.Heads.{times}
use Rattle.lmn_solid_heads.specs.Embeddings.{StandsWithin}
use Rattle.lmn_solid_search.specs.Walking.{IsMarked}
use Rattle.lmn_solid_search.specs.declared.head.AtomItem.{AtomItem}
use Rattle.lmn_solid_search.specs.declared.head.MembraneItem.{MembraneItem}
use Rattle.lmn_solid_search.specs.declared.head.Head.{Head}
use Rattle.lmn_solid_search.specs.declared.placed.Placed.{Placed}

-- the image of a membrane by its number
abbrev pub membrane_at : ℕ → List ℕ → ℕ → ℕ
membrane_at home membranes zero = home
membrane_at home membranes (suc k) = slice_index_or membranes k 0

-- the links of atoms, in their order
abbrev pub links_in : List AtomItem → List ℕ
links_in [] = []
links_in (a ∷ atoms) = a.links ++ links_in atoms

-- how often a link stands in a head
abbrev pub times_in : ℕ → Head → ℕ
times_in x head = times x (links_in head.atoms ++ map (λ t. t.link) head.typed)

-- the membrane in which a membrane stands, and the outermost one round it
abbrev pub inside_in : List MembraneItem → ℕ → ℕ
inside_in ms zero = 0
inside_in ms (suc k) = slice_index_or (map (λ m. m.inside) ms) k 0

abbrev pub outermost_from : ℕ → List MembraneItem → ℕ → ℕ
outermost_from zero ms k = k
outermost_from (suc fuel) ms k = if inside_in ms k == 0 then k else outermost_from fuel ms (inside_in ms k)

abbrev pub outermost_in : List MembraneItem → ℕ → ℕ
outermost_in ms k = outermost_from (length ms) ms k

-- images are atoms and membranes
pub record ArePlaced (h : Heap) (p : Placed) : Type 0 where
  pub home : IsMem h p.home
  pub atoms : (a : ℕ) → In a p.atoms → IsAtom h a
  pub membranes : (m : ℕ) → In m p.membranes → IsMem h m

-- a port leads out of a membrane, where its link stands once in a head; so do all ports of an atom; so does an atom that
-- stands inside head membranes, out of the outermost one; so do all atoms
abbrev pub LinkLeadsOut : Heap → Head → ℕ → Port → ℕ → Type 0
LinkLeadsOut h head x q outer = times_in x head ≡ 1 → (p : Port) → link_of h q.0 q.1 ≡ Some p → StandsWithin h p.0 outer → ⊥

abbrev pub LeadsOut : Heap → Head → List ℕ → ℕ → ℕ → Type 0
LeadsOut h head links image outer = (i x : ℕ) → slice_get links i ≡ Some x → LinkLeadsOut h head x (image, i) outer

abbrev pub AtomLeadsOut : Heap → Head → AtomItem → ℕ → Placed → Type 0
AtomLeadsOut h head a image p = a.inside ≢ 0 → LeadsOut h head a.links image (membrane_at p.home p.membranes (outermost_in head.membranes a.inside))

abbrev pub AllLeadOut : Heap → Head → Placed → Type 0
AllLeadOut h head p = (n : ℕ) (a : AtomItem) → slice_get head.atoms n ≡ Some a → AtomLeadsOut h head a (slice_index_or p.atoms n 0) p

-- a membrane holds atoms that are marked and these membranes alone
abbrev pub HoldsOnly : Heap → List ℕ → List (Option ℕ) → ℕ → Type 0
HoldsOnly h membranes marks m = ((b : ℕ) → In b (atoms_in h m) → IsMarked marks b) × ((b : ℕ) → In b (mems_in h m) → In b membranes)

-- a membrane holds no more than its item says, where marks tell what is mine
abbrev pub HoldsNoMore : Heap → MembraneItem → List ℕ → List (Option ℕ) → ℕ → Type 0
HoldsNoMore h item membranes marks m = (item.has_context ≡ false → HoldsOnly h membranes marks m) × (item.has_rule_context ≡ false → rules_in h m ≡ [])
