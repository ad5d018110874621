use Rattle.lmn_store_slab.specs.Kept.{heap_of}
use Rattle.lmn_test_rows.specs.Made.{IsMadeByHand}
use Rattle.lmn_test_rows.proofs.by_hand.terms.Given as goal

abbrev pub invariant-loop-outer : goal.invariant-loop-outer
invariant-loop-outer g l = IsMadeByHand (heap_of l.store)
