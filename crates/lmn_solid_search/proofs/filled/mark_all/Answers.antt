use Rattle.std.proofs.Common.{◌∙◌, arith, slice_index_or, inl, inr}
use Rattle.lmn_solid_search.proofs.OutsideLemmas.{mark_more}
use Rattle.lmn_solid_search.proofs.WalkingLemmas.{set_length}
use Rattle.lmn_solid_search.proofs.WholeLemmas.{in_whole, in_part}
use Rattle.lmn_solid_search.proofs.filled.mark_all.Goals as goal
use Rattle.lmn_adequacy_heaps.proofs.OutOf.{index_in as item_in}

pub set-requires : goal.set-requires
set-requires c = let l = c.requires _ (item_in c.args.numbers.now c.loop-number.number-index c.loop-number-test.true) in let e = c.loop-number.invariant.long in omega (arith, l, e)

pub loop-number-preserved : goal.loop-number-preserved
loop-number-preserved c = record {
  long = set_length c.loop-number.seen c.set.new.self (slice_index_or c.args.numbers.now c.loop-number.number-index 0) 0 c.set.ensures ∙ c.loop-number.invariant.long;
  marked = mark_more c.args.seen.now c.loop-number.seen c.set.new.self c.args.numbers.now c.loop-number.number-index c.loop-number-test.true
      (let l = c.requires _ (item_in c.args.numbers.now c.loop-number.number-index c.loop-number-test.true) in let e = c.loop-number.invariant.long in omega (arith, l, e)) c.set.ensures c.loop-number.invariant.marked;
}

pub returns-clause-marked : goal.returns-clause-marked
returns-clause-marked c = λ a. (
  (λ k. elim ((c.loop-number.invariant.marked a).0 k) [ inl old ↦ inl old | inr j ↦ inr (in_part a c.args.numbers.now c.loop-number.number-index j) ]),
  λ j. (c.loop-number.invariant.marked a).1 (elim j [ inl old ↦ inl old | inr i ↦ inr (in_whole a c.args.numbers.now c.loop-number.number-index c.loop-number-test.false i) ]),
)
