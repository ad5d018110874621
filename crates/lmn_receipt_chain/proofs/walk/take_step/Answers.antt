use Rattle.lmn_receipt_chain.proofs.walk.take_step.Goals as goal

pub returns-else-first-eq37 : goal.returns-else-first-eq37
returns-else-first-eq37 g c = c.line.ensures c.args.commits
