use Rattle.std.proofs.Common.{refl, slice_index_or}
use Rattle.lmn_solid_search.specs.Walking.{IsMarked}
use Rattle.lmn_solid_search.proofs.OutsideLemmas.{is_marked}
use Rattle.lmn_solid_search.proofs.WholeLemmas.{in_whole, all_so_far}
use Rattle.lmn_solid_search.proofs.PairingLemmas.{port_differs}
use Rattle.lmn_solid_search.proofs.filled.all_marked.Goals as goal
use Rattle.lmn_adequacy_heaps.proofs.OutOf.{index_in as item_in}

pub has-requires : goal.has-requires
has-requires c = c.requires _ (item_in c.args.numbers.now c.loop-number.number-index c.loop-number-test.true)

pub returns-then-not-has : goal.returns-then-not-has
returns-then-not-has c =
    let i = item_in c.args.numbers.now c.loop-number.number-index c.loop-number-test.true in
    ((λ z. absurd (cc)), λ f. absurd (port_differs (is_marked c.args.seen.now (slice_index_or c.args.numbers.now c.loop-number.number-index 0) c.has.result (c.requires _ i) c.has.ensures).1 c.if-not-has.true (f _ i)))

pub loop-number-preserved : goal.loop-number-preserved
loop-number-preserved c = all_so_far (IsMarked c.args.seen.now) c.args.numbers.now c.loop-number.number-index c.loop-number-test.true
    ((is_marked c.args.seen.now (slice_index_or c.args.numbers.now c.loop-number.number-index 0) c.has.result (c.requires _ (item_in c.args.numbers.now c.loop-number.number-index c.loop-number-test.true)) c.has.ensures).0 c.if-not-has.false) c.loop-number.invariant

pub returns : goal.returns
returns c = ((λ z a i. c.loop-number.invariant a (in_whole a c.args.numbers.now c.loop-number.number-index c.loop-number-test.false i)), λ f. refl)
