-- Words of private functions: what is asked of lists whose items are freed or moved.
use Rattle.std.specs.Prelude.{ℕ, ◌≢◌, ◌+◌, ◌<◌, Option, length}
use Rattle.lmn_store_heap.specs.Heap.{HeapAtom, HeapMem}
use Rattle.lmn_store_counts.specs.Census.{Census}
use Rattle.lmn_store_counts.specs.Counts.{one, with_rules}
use Rattle.lmn_store_slab.specs.Lines.{HeldLists, list_at}
use Rattle.lmn_store_slab.specs.Kept.{Filed, mem_place_in, place_in}

-- the atoms are filed in these lists, and there are so many
pub record AtomsAreCounted (atoms : ℕ → Option HeapAtom) (lists : HeldLists) (count : ℕ) : Type 0 where
  -- each is in the list of its place
  pub files : Filed (list_at lists) (place_in atoms)
  pub census : Census one atoms count

-- the membranes are filed in these lists; they and their rules are so many, and so much room is spare in them
pub record MemsAreCounted (mems : ℕ → Option HeapMem) (lists : HeldLists) (count spare : ℕ) : Type 0 where
  -- each is in the list of its place
  pub files : Filed (list_at lists) (mem_place_in mems)
  pub census : Census with_rules mems count
  pub spares : Census (λ x. x.spare) mems spare

-- m and n are two membranes, each with a list of what stands in it
pub record AreTwoMembranes (lists : HeldLists) (m n : ℕ) : Type 0 where
  pub first : m + 2 < length lists.lists
  pub second : n + 2 < length lists.lists
  pub differ : m ≢ n
