use Rattle.std.proofs.Common.{map}
use Rattle.lmn_congruence_splice.specs.Classes.{rising}
use Rattle.lmn_instr_code.specs.declared.words.Operand.TheVariants as operand
use Rattle.lmn_verify_code.proofs.VerifyingLemmas.{held_more, ends_early, not_removed, one_removed}
use Rattle.lmn_verify_code.proofs.bodies.takes_parts.Goals as goal

pub returns-then-at-code : goal.returns-then-at-code
returns-then-at-code c =
    let e = held_more operand.Part (map operand.Membrane (rising 1 c.args.membranes)) c.loop-at.at c.loop-at.at c.args.parts c.loop-at-test.true in
    ends_early _ _ _ c.args.code.now c.loop-at.at _ e c.if-at-code.true c.loop-at.invariant

pub returns-then-not-removes_part : goal.returns-then-not-removes_part
returns-then-not-removes_part c =
    let e = held_more operand.Part (map operand.Membrane (rising 1 c.args.membranes)) c.loop-at.at c.loop-at.at c.args.parts c.loop-at-test.true in
    not_removed _ _ _ c.args.code.now c.loop-at.at c.index-code-at.result c.removes_part.result _ e c.if-at-code.false c.index-code-at.is c.removes_part.ensures c.if-not-removes_part.true c.loop-at.invariant

pub loop-at-preserved : goal.loop-at-preserved
loop-at-preserved c =
    let e = held_more operand.Part (map operand.Membrane (rising 1 c.args.membranes)) c.loop-at.at c.loop-at.at c.args.parts c.loop-at-test.true in
    one_removed _ _ _ c.args.code.now c.loop-at.at c.index-code-at.result c.removes_part.result _ e c.if-at-code.false c.index-code-at.is c.removes_part.ensures c.if-not-removes_part.false c.loop-at.invariant
