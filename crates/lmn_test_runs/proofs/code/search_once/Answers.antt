use Rattle.std.proofs.Common.{refl, sym, subst}
use Rattle.lmn_store_slab.specs.Kept.{heap_of}
use Rattle.lmn_test_runs.proofs.code.search_once.Goals as goal
use Rattle.lmn_store_heap.specs.Heap.{Unmarked}

pub find-requires-clause-unmarked : goal.find-requires-clause-unmarked
find-requires-clause-unmarked g c = subst (λ s. Unmarked (heap_of s)) (sym c.in_ok-machine.ensures) (subst (λ h. Unmarked h) (sym c.in_ok-store.ensures.heap) (λ a i. refl))
