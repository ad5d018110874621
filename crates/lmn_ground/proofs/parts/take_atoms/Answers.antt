use Rattle.lmn_ground.proofs.GroundLaws.{part_atoms}
use Rattle.lmn_ground.proofs.parts.take_atoms.Goals as goal

pub act_all-requires-clause-there : goal.act_all-requires-clause-there
act_all-requires-clause-there g c = (c.is_listed.ensures c.if-is_listed.true).there

pub act_all-requires-clause-once : goal.act_all-requires-clause-once
act_all-requires-clause-once g c = (part_atoms (g.S.LinkStore.heap c.args.store.now) _ _ (c.is_listed.ensures c.if-is_listed.true).part).0

pub act_all-requires-clause-can : goal.act_all-requires-clause-can
act_all-requires-clause-can g c = λ a k. c.requires.placed a (((part_atoms (g.S.LinkStore.heap c.args.store.now) _ _ (c.is_listed.ensures c.if-is_listed.true).part).1 a).0 k)

pub returns-then-is_listed : goal.returns-then-is_listed
returns-then-is_listed g c = (_, (c.is_listed.ensures c.if-is_listed.true).part, c.act_all.ensures)
