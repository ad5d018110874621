use Rattle.lmn_machine_commit.proofs.Waiting.{makes_mem}
use Rattle.lmn_machine_commit.proofs.preparing.make_membrane.Goals as goal

pub returns-clause-makes : goal.returns-clause-makes
returns-clause-makes g c = makes_mem (g.S.LinkStore.heap c.args.store.now) _ _ c.in_ok-membrane.ensures.fresh c.in_ok-membrane.ensures.ok
