use Rattle.std.proofs.Common.{ℕ, ◌<◌}
use Rattle.lmn_store_heap.specs.Heap.{IsInPlace, arity_of}
use Rattle.lmn_store_slab.specs.Checks.{IsJoined}
use Rattle.lmn_store_slab.specs.Kept.{heap_of}
use Rattle.lmn_store_slab.proofs.slab_store.SlabStore.are_all_joined.Given as goal

abbrev pub invariant-loop-a : goal.invariant-loop-a
invariant-loop-a l = (x : ℕ) → x < l.a → IsInPlace (heap_of l.self) x → (i : ℕ) → i < arity_of (heap_of l.self) x → IsJoined (heap_of l.self) x i
