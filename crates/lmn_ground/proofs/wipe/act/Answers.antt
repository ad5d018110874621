use Rattle.std.proofs.Common.{◌∷◌, [], inl, refl}
use Rattle.lmn_ground.specs.declared.wipe.Deed.TheVariants.{Leave, Take, SetOwn}
use Rattle.lmn_ground.proofs.DeedLaws.{can_as, done_as}
use Rattle.lmn_ground.proofs.wipe.act.Goals as goal

pub take_atom-requires : goal.take_atom-requires
take_atom-requires g c = can_as c.args.deed Take (g.S.LinkStore.atom_id c.args.a ∷ []) (g.S.LinkStore.heap c.args.store.now) c.in-Take.is c.requires.can _ (inl refl)

pub set_own-requires-clause-small : goal.set_own-requires-clause-small
set_own-requires-clause-small g c = can_as c.args.deed (SetOwn c.in-SetOwn.v) (g.S.LinkStore.atom_id c.args.a ∷ []) (g.S.LinkStore.heap c.args.store.now) c.in-SetOwn.is c.requires.can

pub returns-in-Leave : goal.returns-in-Leave
returns-in-Leave g c = done_as c.args.deed Leave (g.S.LinkStore.atom_id c.args.a) (g.S.LinkStore.heap c.args.store.now) _ c.in-Leave.is refl

pub returns-in-Take : goal.returns-in-Take
returns-in-Take g c = done_as c.args.deed Take (g.S.LinkStore.atom_id c.args.a) (g.S.LinkStore.heap c.args.store.now) _ c.in-Take.is c.take_atom.ensures

pub returns-in-SetOwn : goal.returns-in-SetOwn
returns-in-SetOwn g c = done_as c.args.deed (SetOwn c.in-SetOwn.v) (g.S.LinkStore.atom_id c.args.a) (g.S.LinkStore.heap c.args.store.now) _ c.in-SetOwn.is c.set_own.ensures
