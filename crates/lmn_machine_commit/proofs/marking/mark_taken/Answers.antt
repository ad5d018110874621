use Rattle.lmn_machine_commit.proofs.Inside.{has_now, mem_now, wholes_now, both_marked}
use Rattle.lmn_machine_commit.proofs.marking.mark_taken.Goals as goal

pub paint_parts-requires-clause-marked : goal.paint_parts-requires-clause-marked
paint_parts-requires-clause-marked g c = has_now (g.S.LinkStore.heap c.args.store.now) c.requires.marked c.mark_atoms.ensures.0 c.args.mark (g.S.LinkStore.heap c.mark_atoms.new.store) c.mark_atoms.ensures.2

pub paint_parts-requires-clause-parts : goal.paint_parts-requires-clause-parts
paint_parts-requires-clause-parts g c = wholes_now (g.S.LinkStore.heap c.args.store.now) c.requires.marked c.mark_atoms.ensures.0 c.args.mark (g.S.LinkStore.heap c.mark_atoms.new.store) c.mark_atoms.ensures.2 g.S.LinkStore.atom_id c.args.set.now.parts c.requires.parts

pub paint_parts-requires-clause-membrane : goal.paint_parts-requires-clause-membrane
paint_parts-requires-clause-membrane g c = mem_now (g.S.LinkStore.heap c.args.store.now) c.requires.marked c.mark_atoms.ensures.0 c.args.mark (g.S.LinkStore.heap c.mark_atoms.new.store) c.mark_atoms.ensures.2 (g.S.LinkStore.mem_id c.args.m) c.requires.membrane

pub returns : goal.returns
returns g c = both_marked (g.S.LinkStore.heap c.args.store.now) c.requires.marked c.mark_atoms.ensures.0 c.args.mark (g.S.LinkStore.heap c.mark_atoms.new.store) c.mark_atoms.ensures.2 g.S.LinkStore.atom_id c.args.set.now (g.S.LinkStore.mem_id c.args.m) c.mark_atoms.ensures.1 c.paint_parts.ensures.0 c.paint_parts.ensures.1
    (g.S.LinkStore.heap c.paint_parts.new.store) c.paint_parts.ensures.2
