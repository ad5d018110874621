use Rattle.lmn_machine_commit.proofs.Waiting.{makes_atom}
use Rattle.lmn_machine_commit.proofs.preparing.make_atom.Goals as goal

pub returns-clause-makes : goal.returns-clause-makes
returns-clause-makes g c = makes_atom (g.S.LinkStore.heap c.args.store.now) _ _ _ c.in_ok-atom.ensures.fresh c.in_ok-atom.ensures.ok
