use Rattle.std.proofs.Common.{◌∙◌, arith}
use Rattle.lmn_solid_search.proofs.BelowLemmas.{one_more}
use Rattle.lmn_solid_search.proofs.below.note_all.Goals as goal
use Rattle.lmn_adequacy_heaps.proofs.OutOf.{index_in as item_in}

pub note-requires : goal.note-requires
note-requires c = let l = c.requires _ (item_in c.args.numbers.now c.loop-number.number-index c.loop-number-test.true) in let e = c.loop-number.invariant.long in omega (arith, l, e)

pub loop-number-preserved : goal.loop-number-preserved
loop-number-preserved c = record {
  long = c.in_ok-note.ensures.length ∙ c.loop-number.invariant.long;
  noted = one_more c.args.seen.now c.loop-number.seen c.note.new.seen c.args.list.now c.loop-number.list c.note.new.list c.args.numbers.now c.loop-number.number-index c.loop-number-test.true c.loop-number.invariant.noted c.in_ok-note.ensures.noted;
}
