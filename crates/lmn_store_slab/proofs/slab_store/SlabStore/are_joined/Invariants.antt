use Rattle.std.proofs.Common.{ℕ, ◌<◌}
use Rattle.lmn_store_slab.specs.Checks.{IsJoined}
use Rattle.lmn_store_slab.specs.Kept.{heap_of}
use Rattle.lmn_store_slab.proofs.slab_store.SlabStore.are_joined.Given as goal

abbrev pub invariant-loop-i : goal.invariant-loop-i
invariant-loop-i l = (j : ℕ) → j < l.i → IsJoined (heap_of l.self) l.a j
