use Rattle.lmn_machine_commit.proofs.Rouses.{partner_wakes, no_partner}
use Rattle.lmn_machine_commit.proofs.waking.wake_partner.Goals as goal

pub returns-in-Some-clause-wakes : goal.returns-in-Some-clause-wakes
returns-in-Some-clause-wakes g c = partner_wakes (g.S.LinkStore.heap c.args.store.now) (g.S.LinkStore.heap c.wake_home.new.store) (g.S.LinkStore.atom_id c.args.atom) c.args.port (g.S.LinkStore.atom_id c.in-Some.other.0, c.in-Some.other.1) c.in-Some.ensures.link c.wake_home.ensures.wakes

pub returns-in-None-clause-wakes : goal.returns-in-None-clause-wakes
returns-in-None-clause-wakes g c = no_partner (g.S.LinkStore.heap c.args.store.now) (g.S.LinkStore.atom_id c.args.atom) c.args.port c.in-None.ensures.link
