use Rattle.std.proofs.Common.{refl, subst, sym}
use Rattle.lmn_base.specs.Refusals.{IfRefused}
use Rattle.lmn_weight.specs.Lines.{IsFirstWrongWeightLine}
use Rattle.lmn_weight.proofs.LineLemmas.{reached_all, reached_more, reached_start, reached_wrong, start_is, weights_lists, weights_small}
use Rattle.lmn_weight.proofs.reading.read.Goals as goal

pub loop-at-init : goal.loop-at-init
loop-at-init c = reached_start c.args.names.now c.args.weights.now _ (start_is c.new.result c.new-2.result c.new.ensures c.new-2.ensures)

pub returns-then-not-branch-clause-refused : goal.returns-then-not-branch-clause-refused
returns-then-not-branch-clause-refused c =
    let some = c.in-Some.ensures.some in
    subst (λ fault. IfRefused fault (IsFirstWrongWeightLine c.take_line.new.names c.args.weights.now)) (sym c.wrong-then-not-branch.ensures)
    (reached_wrong c.args.names.now c.loop-at.names c.take_line.new.names c.args.weights.now c.loop-at.at c.loop-at.line c.in-Some.end c.loop-at.told c.take_line.new.told _ c.loop-at.invariant some.0 some.1 some.2 some.3 c.take_line.ensures.names c.in_ok-take_line.field-0 c.if-not-branch.true c.in_ok-take_line.ensures.told refl)

pub loop-at-preserved : goal.loop-at-preserved
loop-at-preserved c =
    let some = c.in-Some.ensures.some in
    reached_more c.args.names.now c.loop-at.names c.take_line.new.names c.args.weights.now c.loop-at.at c.loop-at.line c.in-Some.end c.loop-at.told c.take_line.new.told c.loop-at.invariant some.0 some.1 some.2 some.3 c.take_line.ensures.names c.in_ok-take_line.field-0 c.if-not-branch.false c.in_ok-take_line.ensures.told

pub returns-clause-lists : goal.returns-clause-lists
returns-clause-lists c =
    weights_lists c.loop-at.names c.args.weights.now _
    (reached_all c.args.names.now c.loop-at.names c.args.weights.now c.loop-at.at c.loop-at.line c.loop-at.told _ c.loop-at.invariant c.loop-at-test.false c.weights_of.ensures.functors c.weights_of.ensures.values c.weights_of.ensures.int c.weights_of.ensures.membrane)

pub returns-clause-small : goal.returns-clause-small
returns-clause-small c =
    weights_small c.loop-at.names c.args.weights.now _
    (reached_all c.args.names.now c.loop-at.names c.args.weights.now c.loop-at.at c.loop-at.line c.loop-at.told _ c.loop-at.invariant c.loop-at-test.false c.weights_of.ensures.functors c.weights_of.ensures.values c.weights_of.ensures.int c.weights_of.ensures.membrane)
