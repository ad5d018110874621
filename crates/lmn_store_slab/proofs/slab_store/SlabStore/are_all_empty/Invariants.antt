use Rattle.std.proofs.Common.{ℕ, ◌<◌, ◌≡◌, Some, []}
use Rattle.lmn_store_heap.specs.Heap.{gone, mem_place_of, atoms_in, mems_in}
use Rattle.lmn_store_slab.specs.Kept.{heap_of}
use Rattle.lmn_store_slab.proofs.slab_store.SlabStore.are_all_empty.Given as goal

abbrev pub invariant-loop-m : goal.invariant-loop-m
invariant-loop-m l = (x : ℕ) → x < l.m → mem_place_of (heap_of l.self) x ≡ Some gone → (atoms_in (heap_of l.self) x ≡ []) × (mems_in (heap_of l.self) x ≡ [])
