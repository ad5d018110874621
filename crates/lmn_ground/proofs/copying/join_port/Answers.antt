use Rattle.lmn_base.proofs.Truth.{never_both}
use Rattle.lmn_ground.proofs.CopyLaws.{other_port}
use Rattle.lmn_ground.proofs.copying.join_port.Goals as goal

pub join_inner_port-requires-clause-inner : goal.join_inner_port-requires-clause-inner
join_inner_port-requires-clause-inner g c = other_port (g.S.LinkStore.atom_id c.args.a) c.args.i (g.S.LinkStore.atom_id c.args.root.0, c.args.root.1) (λ w. never_both _ (c.is_same_port.ensures.1 w) c.if-is_same_port.false)
