use Rattle.std.proofs.Common.{◌+◌}
use Rattle.lmn_instr_code.specs.declared.words.Operand.TheVariants as operand
use Rattle.lmn_verify_code.proofs.VerifyingLemmas.{last_more, ends_early, not_removed, one_removed}
use Rattle.lmn_verify_code.proofs.bodies.takes_membranes.Goals as goal

pub returns-then-at-code : goal.returns-then-at-code
returns-then-at-code c =
    let e = last_more operand.Membrane (c.loop-at.at + 1) c.loop-at.at c.args.membranes c.loop-at-test.true in
    ends_early _ _ _ c.args.code.now c.loop-at.at _ e c.if-at-code.true c.loop-at.invariant

pub returns-then-not-removes_membrane : goal.returns-then-not-removes_membrane
returns-then-not-removes_membrane c =
    let e = last_more operand.Membrane (c.loop-at.at + 1) c.loop-at.at c.args.membranes c.loop-at-test.true in
    not_removed _ _ _ c.args.code.now c.loop-at.at c.index-code-at.result c.removes_membrane.result _ e c.if-at-code.false c.index-code-at.is c.removes_membrane.ensures c.if-not-removes_membrane.true c.loop-at.invariant

pub loop-at-preserved : goal.loop-at-preserved
loop-at-preserved c =
    let e = last_more operand.Membrane (c.loop-at.at + 1) c.loop-at.at c.args.membranes c.loop-at-test.true in
    one_removed _ _ _ c.args.code.now c.loop-at.at c.index-code-at.result c.removes_membrane.result _ e c.if-at-code.false c.index-code-at.is c.removes_membrane.ensures c.if-not-removes_membrane.false c.loop-at.invariant
