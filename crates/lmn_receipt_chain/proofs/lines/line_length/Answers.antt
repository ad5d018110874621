use Rattle.std.proofs.Common.{get_or}
use Rattle.std.proofs.lemmas.Option.{slice_get-get_or}
use Rattle.lmn_receipt_chain.proofs.FirstLines.{ends_here, goes_on, no_end}
use Rattle.lmn_receipt_chain.proofs.lines.line_length.Goals as goal

pub loop-at-preserved : goal.loop-at-preserved
loop-at-preserved c = goes_on c.args.text.now c.loop-at.at (get_or c.args.text.now c.loop-at.at 0) (slice_get-get_or c.args.text.now c.loop-at.at 0 c.loop-at-test.true) c.if-text-at-eq10.false c.loop-at.invariant

pub returns-then-text-at-eq10-clause-line : goal.returns-then-text-at-eq10-clause-line
returns-then-text-at-eq10-clause-line c = ends_here c.args.text.now c.loop-at.at (get_or c.args.text.now c.loop-at.at 0) (slice_get-get_or c.args.text.now c.loop-at.at 0 c.loop-at-test.true) c.if-text-at-eq10.true c.loop-at.invariant

pub returns-clause-line : goal.returns-clause-line
returns-clause-line c = no_end c.args.text.now c.loop-at.at c.loop-at-test.false c.loop-at.invariant
