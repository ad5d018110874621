use Rattle.std.proofs.Common.{arith}
use Rattle.lmn_verify_listing.proofs.CodeLemmas.{few_lines, verified_more}
use Rattle.lmn_verify_listing.proofs.listing.first_unverified.Goals as goal

pub lines_of-requires : goal.lines_of-requires
lines_of-requires c =
    let few = few_lines c.args.rules c.args.codes.now c.loop-code.code-index c.loop-code.line c.code-item.result c.loop-code.invariant c.loop-code-test.true c.code-item.is in
    let short = c.requires in
    omega (arith, few, short)

pub overflow_add-line : goal.overflow_add-line
overflow_add-line c =
    let few = few_lines c.args.rules c.args.codes.now c.loop-code.code-index c.loop-code.line c.code-item.result c.loop-code.invariant c.loop-code-test.true c.code-item.is in
    let lines = c.lines_of.ensures in
    let short = c.requires in
    record { fits = omega (arith, few, lines, short) }

pub loop-code-preserved : goal.loop-code-preserved
loop-code-preserved c =
    verified_more c.args.rules c.args.codes.now c.loop-code.code-index c.loop-code.line c.lines_of.result c.code-item.result c.loop-code.invariant c.loop-code-test.true c.code-item.is
    (c.in_ok-is_verified.ensures.0 c.if-not-branch.false) c.lines_of.ensures
