use Rattle.lmn_store_slab.specs.Kept.{heap_of}
use Rattle.lmn_test_rows.specs.Made.{IsMadeByHand}
use Rattle.lmn_test_rows.proofs.parts.list.Given as goal

abbrev pub invariant-loop : goal.invariant-loop
invariant-loop g l = IsMadeByHand (heap_of l.store)
