use Rattle.std.proofs.Common.{◌∙◌, arith, sym}
use Rattle.lmn_base.proofs.Lists.{get_below}
use Rattle.lmn_weight.proofs.SmallWeights.{weighs_little}
use Rattle.lmn_weight.proofs.BoundLemmas.{one_more, read_there, told}
use Rattle.lmn_weight.proofs.bounding.bound.Goals as goal

pub is_lowered-requires-clause-head : goal.is_lowered-requires-clause-head
is_lowered-requires-clause-head c =
    ((weighs_little c.args.weights.now c.args.plain.now c.args.plans.now c.requires.small c.requires.size).rules c.loop-k.k c.at-rule.result.now c.index-plans-k.result c.at-rule.ensures (read_there c.args.plans.now c.loop-k.k c.index-plans-k.result c.index-plans-k.result (omega (arith, c.loop-k-test.true, c.asked-k-end.ensures, c.requires.plans)) c.index-plans-k.is)).0

pub is_lowered-requires-clause-body : goal.is_lowered-requires-clause-body
is_lowered-requires-clause-body c =
    ((weighs_little c.args.weights.now c.args.plain.now c.args.plans.now c.requires.small c.requires.size).rules c.loop-k.k c.at-rule.result.now c.index-plans-k.result c.at-rule.ensures (read_there c.args.plans.now c.loop-k.k c.index-plans-k.result c.index-plans-k.result (omega (arith, c.loop-k-test.true, c.asked-k-end.ensures, c.requires.plans)) c.index-plans-k.is)).1

pub returns-then-not-is_lowered-clause-err : goal.returns-then-not-is_lowered-clause-err
returns-then-not-is_lowered-clause-err c = record {
  number = c.loop-k.k;
  rule = c.at-rule.result.now;
  plan = c.index-plans-k.result;
  is_rule = c.at-rule.ensures;
  is_plan = read_there c.args.plans.now c.loop-k.k c.index-plans-k.result c.index-plans-k.result (omega (arith, c.loop-k-test.true, c.asked-k-end.ensures, c.requires.plans)) c.index-plans-k.is;
  not_lowered = sym c.is_lowered.ensures ∙ c.if-not-is_lowered.true;
  before = c.loop-k.invariant;
  refused = c.at.ensures;
}

pub loop-k-preserved : goal.loop-k-preserved
loop-k-preserved c =
    one_more c.args.weights.now c.args.plain.now.rules c.args.plans.now c.loop-k.k c.at-rule.result.now c.index-plans-k.result c.at-rule.ensures
    (read_there c.args.plans.now c.loop-k.k c.index-plans-k.result c.index-plans-k.result (omega (arith, c.loop-k-test.true, c.asked-k-end.ensures, c.requires.plans)) c.index-plans-k.is) (sym c.is_lowered.ensures ∙ c.if-not-is_lowered.false) c.loop-k.invariant

pub returns-clause-ok : goal.returns-clause-ok
returns-clause-ok c = (
  (λ k r plan i j. c.loop-k.invariant k r plan (omega (arith, get_below c.args.plain.now.rules k r i, c.loop-k-test.false, c.asked-k-end.ensures)) i j),
  told c.level_weight.result _ c.level_weight.ensures (weighs_little c.args.weights.now c.args.plain.now c.args.plans.now c.requires.small c.requires.size).top,
)
