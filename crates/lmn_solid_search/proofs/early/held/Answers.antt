use Rattle.lmn_solid_search.proofs.early.held.Goals as goal
use Rattle.lmn_adequacy_heaps.proofs.OutOf.{index_in as item_in}

pub entry_at-requires-clause-atom : goal.entry_at-requires-clause-atom
entry_at-requires-clause-atom c = c.requires.images _ (item_in c.args.images.now c.loop-number.number c.loop-number-test.true)
