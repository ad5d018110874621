use Rattle.std.proofs.Common.{refl, subst, sym}
use Rattle.lmn_base.specs.Refusals.{IfRefused}
use Rattle.lmn_debug_script.specs.Scripts.{IsFirstWrong}
use Rattle.lmn_debug_script.proofs.LineLemmas.{reached_all, reached_asked, reached_few, reached_more, reached_start, reached_wrong}
use Rattle.lmn_debug_script.proofs.reading.read_script.Goals as goal

pub loop-at-init : goal.loop-at-init
loop-at-init c = reached_start c.args.names.now c.args.script.now c.new-orders.result c.new-orders.ensures

pub returns-then-not-branch-clause-refused : goal.returns-then-not-branch-clause-refused
returns-then-not-branch-clause-refused c =
    let ends = c.line_end-end.ensures in
    subst (λ fault. IfRefused fault (IsFirstWrong c.args.script.now)) (sym c.wrong.ensures)
    (reached_wrong c.args.names.now c.loop-at.names c.take_line.new.names c.args.script.now c.loop-at.at c.loop-at.line c.line_end-end.result c.loop-at.orders c.take_line.new.orders _ c.loop-at.invariant c.loop-at-test.true ends.within.0 ends.within.1 ends.line ends.ends
    c.in_ok-take_line.field-0 c.if-not-branch.true c.in_ok-take_line.ensures.orders refl)

pub loop-at-preserved : goal.loop-at-preserved
loop-at-preserved c =
    let ends = c.line_end-end.ensures in
    reached_more c.args.names.now c.loop-at.names c.take_line.new.names c.args.script.now c.loop-at.at c.loop-at.line c.line_end-end.result c.loop-at.orders c.take_line.new.orders c.loop-at.invariant c.loop-at-test.true ends.within.0 ends.within.1 ends.line ends.ends c.take_line.ensures.names
    c.in_ok-take_line.field-0 c.if-not-branch.false c.in_ok-take_line.ensures.orders

pub returns-clause-ok : goal.returns-clause-ok
returns-clause-ok c = reached_all c.args.names.now c.loop-at.names c.args.script.now c.loop-at.at c.loop-at.line c.loop-at.orders c.loop-at.invariant c.loop-at-test.false

pub returns-clause-asked : goal.returns-clause-asked
returns-clause-asked c = reached_asked c.args.names.now c.loop-at.names c.args.script.now c.loop-at.at c.loop-at.line c.loop-at.orders c.loop-at.invariant

pub returns-clause-few : goal.returns-clause-few
returns-clause-few c = reached_few c.args.names.now c.loop-at.names c.args.script.now c.loop-at.at c.loop-at.line c.loop-at.orders c.loop-at.invariant
