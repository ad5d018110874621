use Rattle.lmn_machine.proofs.Apart.{held_full, one_or_apart}
use Rattle.lmn_machine.proofs.whole.are_equal.Goals as goal

pub equal-requires-clause-clean : goal.equal-requires-clause-clean
equal-requires-clause-clean g c = λ a i l. c.requires.unmarked a i

pub equal-requires-clause-ground : goal.equal-requires-clause-ground
equal-requires-clause-ground g c = held_full g.S.LinkStore.atom_id (g.S.LinkStore.heap c.args.store.now) c.root-root.ensures.sound c.requires.held.0 c.requires.unmarked c.args.x c.requires.held.1

pub equal-requires-clause-other : goal.equal-requires-clause-other
equal-requires-clause-other g c = held_full g.S.LinkStore.atom_id (g.S.LinkStore.heap c.args.store.now) c.root-root.ensures.sound c.requires.held.0 c.requires.unmarked c.args.y c.requires.held.2

pub equal-requires-clause-apart : goal.equal-requires-clause-apart
equal-requires-clause-apart g c = one_or_apart g.S.LinkStore.atom_id (g.S.LinkStore.heap c.args.store.now) c.root-root.ensures.sound c.requires.held.0 c.args.x c.args.y c.requires.held.1 c.requires.held.2
