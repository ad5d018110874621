use Rattle.lmn_store_slab.specs.Kept.{heap_of}
use Rattle.lmn_test_rows.specs.Made.{IsMadeByHand}
use Rattle.lmn_test_rows.proofs.making.made.Given as goal

abbrev pub invariant-loop-step : goal.invariant-loop-step
invariant-loop-step g l = IsMadeByHand (heap_of l.store)
