use Rattle.lmn_store_slab.specs.Kept.{heap_of}
use Rattle.lmn_store_heap.specs.Heap.{PortsUnmarked}
use Rattle.lmn_test_rows.proofs.parts.act_all.Given as goal

abbrev pub invariant-loop-act : goal.invariant-loop-act
invariant-loop-act g l = PortsUnmarked (heap_of l.store)
