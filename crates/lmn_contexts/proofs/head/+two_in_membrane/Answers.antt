use Rattle.std.proofs.Common.{subst, ap, sym, ◌∙◌}
use Rattle.std.specs.List.{flat_map}
use Rattle.lmn_base.specs.Firsts.{FirstAt}
use Rattle.lmn_base_walks.specs.RuleCodes.{seconds_by_membrane, first_with_some}
use Rattle.lmn_contexts.proofs.PairLemmas.{in_one_of, in_none_of}
use Rattle.lmn_contexts.proofs.head.+two_in_membrane.Goals as goal

pub returns-in-Some : goal.returns-in-Some
returns-in-Some t c =
    subst (λ ps. FirstAt ps c.in-Some.pos) (c.loop-inner.invariant ∙ ap (λ ms. first_with_some (flat_map seconds_by_membrane ms)) c.as_slice-inner-items.ensures)
    (in_one_of c.as_slice-inner-items.result.now c.loop-inner.inner-index c.inner-item.result c.loop-inner-test.true c.inner-item.is
    c.second_in-own.result.first c.two_in_membrane-below.result c.in-Some.pos c.second_in-own.ensures.first c.two_in_membrane-below.ensures (sym c.or.ensures ∙ c.in-Some.is))

pub loop-inner-preserved : goal.loop-inner-preserved
loop-inner-preserved t c =
    in_none_of c.as_slice-inner-items.result.now c.loop-inner.inner-index c.inner-item.result c.loop-inner-test.true c.inner-item.is
    c.second_in-own.result.first c.two_in_membrane-below.result c.second_in-own.ensures.first c.two_in_membrane-below.ensures (sym c.or.ensures ∙ c.in_default.is)
    ∙ c.loop-inner.invariant
