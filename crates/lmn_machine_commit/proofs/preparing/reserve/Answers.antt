use Rattle.lmn_machine_commit.proofs.Waiting.{makes_room_or_not}
use Rattle.lmn_machine_commit.proofs.preparing.reserve.Goals as goal

pub returns-clause-makes : goal.returns-clause-makes
returns-clause-makes g c = makes_room_or_not c.reserve_rules.result (g.S.LinkStore.heap c.args.store.now) _ _ _ c.reserve_rules.ensures.ok c.reserve_rules.ensures.err
