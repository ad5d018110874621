use Rattle.lmn_store_slab.specs.Kept.{heap_of}
use Rattle.lmn_test_rows.proofs.MadeLemmas.{made_valid}
use Rattle.lmn_test_rows.proofs.by_hand.is_printed.Goals as goal

pub print-requires-clause-valid : goal.print-requires-clause-valid
print-requires-clause-valid g c = made_valid (heap_of c.args.store.now) c.root-root.ensures.sound c.root-root.ensures.few (c.is_settled.ensures search) (c.is_ready.ensures search) c.requires

pub print-requires-clause-unmarked : goal.print-requires-clause-unmarked
print-requires-clause-unmarked g c = λ a i. c.requires.unmarked a i
