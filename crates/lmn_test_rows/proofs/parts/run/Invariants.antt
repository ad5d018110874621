use Rattle.lmn_store_slab.specs.Kept.{heap_of}
use Rattle.lmn_test_rows.proofs.parts.run.Given as goal
use Rattle.lmn_store_heap.specs.Heap.{PortsUnmarked}

abbrev pub invariant-loop : goal.invariant-loop
invariant-loop g l = PortsUnmarked (heap_of l.store)
