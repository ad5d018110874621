use Rattle.std.proofs.Common.{subst, sym}
use Rattle.lmn_ground.proofs.GroundLaws.{part_atoms}
use Rattle.lmn_machine.specs.Costs.{IsSize}
use Rattle.lmn_machine.proofs.Apart.{held_full}
use Rattle.lmn_machine.proofs.cost.part_size.Goals as goal

pub size_of-atoms-requires-clause-ground : goal.size_of-atoms-requires-clause-ground
size_of-atoms-requires-clause-ground g c = held_full g.S.LinkStore.atom_id (g.S.LinkStore.heap c.args.store.now) c.root-root.ensures.sound c.args.set.now.atoms c.requires.unmarked c.at-root.result (c.requires.held.whole _ _ c.at-root.ensures)

pub returns-then-atoms-eq1-clause-size : goal.returns-then-atoms-eq1-clause-size
returns-then-atoms-eq1-clause-size g c = λ s a. subst (λ q. IsSize (g.S.LinkStore.heap c.args.store.now) q c.size_of-atoms.result) (sym (a.parts c.args.part c.at-root.result c.at-root.ensures))
    (c.size_of-atoms.ensures.part.0, part_atoms (g.S.LinkStore.heap c.args.store.now) (g.S.LinkStore.atom_id c.at-root.result.0, c.at-root.result.1) c.size_of-atoms.ensures.part.0 c.size_of-atoms.ensures.part.1, sym c.size_of-atoms.ensures.part.2)

pub returns-clause-size : goal.returns-clause-size
returns-clause-size g c = λ s a. subst (λ q. IsSize (g.S.LinkStore.heap c.args.store.now) q c.size_of-atoms.result) (sym (a.parts c.args.part c.at-root.result c.at-root.ensures))
    (c.size_of-atoms.ensures.part.0, part_atoms (g.S.LinkStore.heap c.args.store.now) (g.S.LinkStore.atom_id c.at-root.result.0, c.at-root.result.1) c.size_of-atoms.ensures.part.0 c.size_of-atoms.ensures.part.1, sym c.size_of-atoms.ensures.part.2)

pub returns-clause-kept : goal.returns-clause-kept
returns-clause-kept g c = λ s a. subst (λ q. IsSize (g.S.LinkStore.heap c.args.store.now) q c.size_of-atoms.result) (sym (a.parts c.args.part c.at-root.result c.at-root.ensures))
    (c.size_of-atoms.ensures.part.0, part_atoms (g.S.LinkStore.heap c.args.store.now) (g.S.LinkStore.atom_id c.at-root.result.0, c.at-root.result.1) c.size_of-atoms.ensures.part.0 c.size_of-atoms.ensures.part.1, sym c.size_of-atoms.ensures.part.2)
