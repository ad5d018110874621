-- What a store over slabs keeps, and the heap that it stands for.
use Rattle.std.specs.Prelude.{◌≡◌, ℕ, ◌+◌, ◌<◌, ◌^◌, ◌↔◌, ◌⊎◌, List, [], Option, Some, None, IsSome, length}
use Rattle.std.specs.Option.{option_map}
use Rattle.lmn_store_heap.specs.Heap.{Heap, HeapAtom, HeapMem, Place, top, waiting}
use Rattle.lmn_store_heap.specs.Lists.{Distinct}
use Rattle.lmn_store_heap.specs.Sound.{Paired, Shaped}
use Rattle.lmn_store_slab.specs.Lines.{HeldLists, list_at}
use Rattle.lmn_store_slab.specs.declared.cell.AtomCell.{AtomCell}
use Rattle.lmn_store_slab.specs.declared.cell.MemCell.{MemCell}
use Rattle.lmn_store_slab.specs.Cells.{atoms_in_cells, mems_in_cells, built, place_by}
use Rattle.lmn_store_counts.specs.Counts.{HasCounts}
use Rattle.lmn_base.specs.Lists.{In}

-- cells of atoms and membranes, and the lists in which they are
pub record Kept : Type 0 where
  pub atoms : List (Option AtomCell)
  pub mems : List (Option MemCell)
  pub atom_lists : HeldLists
  pub mem_lists : HeldLists

abbrev pub heap_of : Kept → Heap
heap_of k = built (atoms_in_cells k.atoms) (mems_in_cells k.mems) (list_at k.atom_lists) (list_at k.mem_lists)

abbrev pub place_in : (ℕ → Option HeapAtom) → ℕ → Option Place
place_in atoms a = option_map (λ x. x.place) (atoms a)

abbrev pub mem_place_in : (ℕ → Option HeapMem) → ℕ → Option Place
mem_place_in mems m = option_map (λ x. x.place) (mems m)

-- an item is in the list of its place, once, and in no other
pub record Filed (L : ℕ → List ℕ) (place : ℕ → Option Place) : Type 0 where
  pub filed : (l x : ℕ) → In x (L l) ↔ (place x ≡ Some (place_by l))
  pub once : (l : ℕ) → Distinct (L l)

-- The items are filed, nothing stands in a membrane that waits or isn't there, and 0 is the root.
pub record ItemsAreFiled (atoms : ℕ → Option HeapAtom) (mems : ℕ → Option HeapMem) (L M : ℕ → List ℕ) : Type 0 where
  pub atom_files : Filed L (place_in atoms)
  pub mem_files : Filed M (mem_place_in mems)
  pub root : (m : ℕ) → (mem_place_in mems m ≡ Some top) ↔ (m ≡ 0)
  pub no_top : (a : ℕ) → place_in atoms a ≡ Some top → ⊥
  pub bare : (m : ℕ) → (mem_place_in mems m ≡ None) ⊎ (mem_place_in mems m ≡ Some waiting) → (L (m + 2) ≡ []) × (M (m + 2) ≡ [])
  pub paired : Paired (built atoms mems L M)
  pub shaped : Shaped (built atoms mems L M)

-- the tables of lists have each number and each list
pub record Room (atoms : ℕ → Option HeapAtom) (mems : ℕ → Option HeapMem) (a m : HeldLists) : Type 0 where
  pub atom_number : (x : ℕ) → IsSome (atoms x) → x < a.size
  pub mem_number : (x : ℕ) → IsSome (mems x) → x < m.size
  pub atom_list : (x : ℕ) → IsSome (mems x) → x + 2 < length a.lists
  pub mem_list : (x : ℕ) → IsSome (mems x) → x + 2 < length m.lists
  pub small : length a.lists < 2 ^ 63
  pub mem_small : length m.lists < 2 ^ 63

-- what holds of a store over slabs at every moment
pub record AlwaysHolds (k : Kept) (n m s : ℕ) : Type 0 where
  pub fits : ItemsAreFiled (atoms_in_cells k.atoms) (mems_in_cells k.mems) (list_at k.atom_lists) (list_at k.mem_lists)
  pub room : Room (atoms_in_cells k.atoms) (mems_in_cells k.mems) k.atom_lists k.mem_lists
  pub counts : HasCounts (atoms_in_cells k.atoms) (mems_in_cells k.mems) n m s
