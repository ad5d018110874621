-- The bound of a store over slabs, and the number of its items.
use Rattle.std.proofs.Common.{ℕ, ◌+◌, ◌≤◌, List, Option, Some, None, IsSome, ◌≡◌, ◌↔◌, length, refl}
use Rattle.std.specs.Prelude.{is_some, count_by, slice_index_or}
use Rattle.std.specs.Option.{option_map}
use Rattle.lmn_store_heap.specs.Heap.{HeapAtom, HeapMem, IsMem}
use Rattle.lmn_store_heap.specs.Sound.{AtMost, AllInPlace, Forest, IsTree, flat, item_count_in}
use Rattle.lmn_store_heap.proofs.Trees.{is_mem}
use Rattle.lmn_store_counts.specs.Census.{weight}
use Rattle.lmn_store_counts.specs.Counts.{HasCounts, BOUND, with_rules}
use Rattle.lmn_store_counts.proofs.CensusLemmas.{census_same}
use Rattle.lmn_store_counts.proofs.CountLemmas as counted
use Rattle.lmn_store_counts.proofs.SlotLemmas.{slots_taken}
use Rattle.lmn_store_slab.specs.Lines.{list_at}
use Rattle.lmn_store_slab.specs.Cells.{atoms_in_cells, mem_in_cell, mems_in_cells, with_lists}
use Rattle.lmn_store_slab.specs.declared.cell.MemCell.{MemCell}
use Rattle.lmn_store_slab.specs.Kept.{Kept, AlwaysHolds, heap_of}
use Rattle.lmn_store_slab.proofs.FitsLemmas.{fits_sound}
use Rattle.lmn_store_slab.proofs.HoldsLemmas.{mem_is, root_is}

-- a membrane is there with its lists as without them
with_lists_there : (xs ys : List ℕ) (o : Option HeapMem) → IsSome (option_map (with_lists xs ys) o) ↔ IsSome o
with_lists_there xs ys None = (λ i. i, λ i. i)
with_lists_there xs ys (Some x) = (λ _. refl, λ _. refl)

-- and weighs as much
with_lists_weigh : (w : HeapMem → ℕ) → ((xs ys : List ℕ) (x : HeapMem) → w (with_lists xs ys x) ≡ w x) → (xs ys : List ℕ) (o : Option HeapMem)
    → weight w (option_map (with_lists xs ys) o) ≡ weight w o
with_lists_weigh w same xs ys None = refl
with_lists_weigh w same xs ys (Some x) = same xs ys x

module _ (k : Kept) (n m s : ℕ) (h : AlwaysHolds k n m s) where
  abbrev A : ℕ → Option HeapAtom
  A = atoms_in_cells k.atoms

  abbrev B : ℕ → Option HeapMem
  B = mems_in_cells k.mems

  abbrev L : ℕ → List ℕ
  L = list_at k.atom_lists

  abbrev M : ℕ → List ℕ
  M = list_at k.mem_lists

  of_mem : (t : ℕ) → IsSome (B t) → IsMem (heap_of k) t
  of_mem t i = (with_lists_there (L (t + 2)) (M (t + 2)) (B t)).1 i

  -- the counts are those of the heap
  heap_counts : HasCounts (heap_of k).atoms (heap_of k).mems n m s
  heap_counts = record {
    atom_census = h.counts.atom_census;
    mem_census = census_same with_rules B (heap_of k).mems m (λ t. with_lists_there (L (t + 2)) (M (t + 2)) (B t))
        (λ t. with_lists_weigh with_rules (λ xs ys x. refl) (L (t + 2)) (M (t + 2)) (B t)) h.counts.mem_census;
    spare_census = census_same (λ (x : HeapMem). x.spare) B (heap_of k).mems s (λ t. with_lists_there (L (t + 2)) (M (t + 2)) (B t))
        (λ t. with_lists_weigh (λ (x : HeapMem). x.spare) (λ xs ys x. refl) (L (t + 2)) (M (t + 2)) (B t)) h.counts.spare_census;
    bound = h.counts.bound;
  }

  pub at_most : AtMost BOUND (heap_of k)
  at_most = counted.at_most (heap_of k) n m s heap_counts

  pub items_are : AllInPlace (heap_of k) → (f : Forest) → IsTree (heap_of k) f → n + m ≡ item_count_in (heap_of k) (flat f)
  items_are = counted.items_are (heap_of k) (fits_sound A B L M h.fits) n m s heap_counts

  -- The membranes of the tree are those of the slots that are taken.
  pub mems_are : (f : Forest) → IsTree (heap_of k) f → count_by is_some k.mems ≡ length (flat f)
  mems_are f t = slots_taken k.mems (flat f) t.once (λ x. (
    λ i. of_cell (slice_index_or k.mems x None) (mem_is k n m s h x (is_mem (heap_of k) (fits_sound A B L M h.fits) f t x i)),
    λ i. t.all x (of_mem x (in_cell (slice_index_or k.mems x None) i)),
  ))
    where
      of_cell : (o : Option MemCell) → IsSome (option_map mem_in_cell o) → IsSome o
      of_cell None i = absurd (cc)
      of_cell (Some x) i = refl

      in_cell : (o : Option MemCell) → IsSome o → IsSome (option_map mem_in_cell o)
      in_cell None i = absurd (cc)
      in_cell (Some x) i = refl

  -- the root is counted
  pub some_mem : 1 ≤ m
  some_mem = counted.some_mem (heap_of k) n m s heap_counts (of_mem 0 (root_is k n m s h))
