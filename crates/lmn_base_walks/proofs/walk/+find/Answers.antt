use Rattle.std.proofs.Common.{subst}
use Rattle.std.specs.List.{flat_map}
use Rattle.lmn_base.specs.declared.level.Level.{out-Level}
use Rattle.lmn_base.specs.Firsts.{IsFound}
use Rattle.lmn_base.specs.Items.{own_items, items_of}
use Rattle.lmn_base_walks.proofs.ItemLemmas.{found_in_level, found_next_behind}
use Rattle.lmn_base_walks.proofs.walk.+find.Goals as goal

pub loop-inner-preserved : goal.loop-inner-preserved
loop-inner-preserved g t c =
    let places = g.Q.Question.places c.args.question.now in
    found_next_behind (flat_map places (own_items (out-Level c.args.level.now))) (λ x. flat_map places (items_of x)) c.as_slice-inner-items.result.now c.loop-inner.inner-index c.inner-item.result _ c.loop-inner-test.true
    (c.and-found.ensures _ _ c.loop-inner.invariant (subst (λ l. IsFound (flat_map places (items_of l)) c.find.result) c.inner-item.is c.find.ensures))

pub returns : goal.returns
returns g t c = found_in_level (g.Q.Question.places c.args.question.now) c.args.level.now _ _ _ c.as_slice-inner-items.ensures c.loop-inner-test.false c.loop-inner.invariant
