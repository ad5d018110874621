-- Lists of a part's atoms.
use Rattle.std.specs.Prelude.{ℕ, ◌≡◌, List, Some, map, slice_get}
use Rattle.lmn_store_heap.specs.Heap.{Heap, port_id}
use Rattle.lmn_store_heap.specs.Splice.{IsPort}
use Rattle.lmn_ground_parts.specs.Copies.{AllAtoms}
use Rattle.lmn_ground_parts.specs.Walks.{IsPartInDepth}
use Rattle.lmn_ground.specs.declared.listing.PartList.{PartList}

-- A list has the atoms of the part that is entered at a port, in the order in which a walk finds them. They are there, and the port is.
pub record ListsPart {A : Type 0} (atom : A → ℕ) (h : Heap) (handles : List A) (root : A × ℕ) : Type 0 where
  pub port : IsPort h (atom root.0) root.1
  pub there : AllAtoms h (map atom handles)
  pub part : IsPartInDepth h (port_id atom root) (map atom handles)

-- The list says nothing, or has the atoms of the part whose root is the port of the first one.
abbrev pub IsListed : {A : Type 0} → (A → ℕ) → Heap → PartList A → Type 0
IsListed {A} atom h list = (a : A) → slice_get list.atoms 0 ≡ Some a → ListsPart atom h list.atoms (a, list.port)
