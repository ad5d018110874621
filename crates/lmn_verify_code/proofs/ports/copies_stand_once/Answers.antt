use Rattle.lmn_verify_code.proofs.VerifyingLemmas.{copies_fail, copies_more}
use Rattle.lmn_verify_code.proofs.ports.copies_stand_once.Goals as goal

pub loop-copy-preserved : goal.loop-copy-preserved
loop-copy-preserved c = copies_more c.args.stands.now c.args.copies c.loop-copy.copy c.loop-copy-test.true c.copy_stands_once.result c.copy_stands_once.ensures c.if-not-copy_stands_once.false c.loop-copy.invariant

pub returns-then-not-copy_stands_once : goal.returns-then-not-copy_stands_once
returns-then-not-copy_stands_once c = copies_fail c.args.stands.now c.args.copies c.loop-copy.copy c.loop-copy-test.true c.copy_stands_once.result c.copy_stands_once.ensures c.if-not-copy_stands_once.true c.loop-copy.invariant
