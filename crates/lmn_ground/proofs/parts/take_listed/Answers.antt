use Rattle.std.proofs.Common.{[], ◌∷◌, sym, ◌∙◌}
use Rattle.lmn_base.specs.Graphs.{at_root}
use Rattle.lmn_ground.proofs.LoneLaws.{lone_part}
use Rattle.lmn_ground.proofs.parts.take_listed.Goals as goal

pub take_atom-requires : goal.take_atom-requires
take_atom-requires g c = c.requires.placed (g.S.LinkStore.atom_id c.args.root.0) at_root

pub returns-then-ports-eq1 : goal.returns-then-ports-eq1
returns-then-ports-eq1 g c = (g.S.LinkStore.atom_id c.args.root.0 ∷ [], lone_part (g.S.LinkStore.heap c.args.store.now) (g.S.LinkStore.atom_id c.args.root.0, c.args.root.1) (sym c.arity-ports.ensures.arity ∙ c.if-ports-eq1.true) c.requires.root.1, c.take_atom.ensures)
