-- What is asked of each head membrane of a placement. Only private functions' contracts cite these words.
use Rattle.std.specs.Prelude.{ℕ, ◌≡◌, ◌+◌, ◌⊎◌, false, true, List, [], Some, length, slice_get, slice_index_or}
use Rattle.lmn_base.specs.Lists.{In}
use Rattle.lmn_base.specs.Graphs.{Port}
use Rattle.lmn_store_heap.specs.Heap.{Heap, IsAtom, atoms_in, mems_in, rules_in, link_of}
use Rattle.lmn_solid_heads.specs.Embeddings.{StandsWithin}
use Rattle.lmn_solid_search.specs.Walking.{HasPlaces, HasMembranes}
use Rattle.lmn_solid_search.specs.Pairing.{HavePlaces}
use Rattle.lmn_solid_search.specs.Parting.{IsMine}
use Rattle.lmn_solid_search.specs.declared.head.MembraneItem.{MembraneItem}
use Rattle.lmn_solid_search.specs.declared.head.Head.{Head}
use Rattle.lmn_solid_search.specs.declared.placed.Placed.{Placed}
use Rattle.lmn_solid_search.specs.declared.parts.Part.{Part}
use Rattle.lmn_solid_search.specs.declared.room.Room.{Room}

-- an atom is one of the rest of a membrane, where Mine says which atoms are images or in parts
abbrev pub IsRestBy : Heap → ℕ → List ℕ → (ℕ → Type 0) → ℕ → Type 0
IsRestBy h m membranes Mine b = (In b (atoms_in h m) × (Mine b → ⊥)) ⊎ ((c : ℕ) × In c (mems_in h m) × (In c membranes → ⊥) × StandsWithin h b c)

-- what an item asks of its image
pub record Holds (h : Heap) (item : MembraneItem) (membranes : List ℕ) (Mine : ℕ → Type 0) (m : ℕ) : Type 0 where
  pub atoms : item.has_context ≡ false → (b : ℕ) → In b (atoms_in h m) → Mine b
  pub inner : item.has_context ≡ false → (b : ℕ) → In b (mems_in h m) → In b membranes
  pub rules : item.has_rule_context ≡ false → rules_in h m ≡ []
  pub closed : item.has_closed_context ≡ true → (b i : ℕ) (p : Port) → IsRestBy h m membranes Mine b → link_of h b i ≡ Some p → IsRestBy h m membranes Mine p.0

-- the same of the membrane with an index, and of each
abbrev pub HoldsAt : Heap → Head → Placed → List Part → ℕ → MembraneItem → Type 0
HoldsAt h head p parts k item = Holds h item p.membranes (IsMine p.atoms head.typed parts (k + 1) (length head.typed)) (slice_index_or p.membranes k 0)

abbrev pub AllHold : Heap → Head → Placed → List Part → Type 0
AllHold h head p parts = (k : ℕ) (item : MembraneItem) → slice_get head.membranes k ≡ Some item → HoldsAt h head p parts k item

-- the atoms of parts are atoms
abbrev pub AreAtoms : Heap → List Part → Type 0
AreAtoms h parts = (n a : ℕ) (part : Part) → slice_get parts n ≡ Some part → In a part.atoms → IsAtom h a

-- there is room for marks of all atoms and membranes
pub record HasRoom (h : Heap) (room : Room) : Type 0 where
  pub seen : HasPlaces h room.seen
  pub mine : HasPlaces h room.mine
  pub within : HasPlaces h room.within
  pub membranes : HasMembranes h room.membranes
  pub pairs : HavePlaces h room.pairs
