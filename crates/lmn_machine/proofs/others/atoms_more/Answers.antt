use Rattle.std.proofs.Common.{◌<◌, get_or, length}
use Rattle.lmn_ground.proofs.GroundLaws.{part_atoms}
use Rattle.lmn_machine.proofs.Apart.{held_full}
use Rattle.lmn_machine.proofs.Besides.{each_at, elsewhere, again, leaves_out}
use Rattle.lmn_machine.proofs.others.atoms_more.Goals as goal
use Rattle.std.proofs.lemmas.Option.{slice_get-get_or}

pub returns-then-not-stands_in-clause-fewer : goal.returns-then-not-stands_in-clause-fewer
returns-then-not-stands_in-clause-fewer g c =
    elsewhere g.S.LinkStore.atom_id g.S.LinkStore.mem_id (g.S.LinkStore.heap c.args.store.now) c.root-root.ensures.sound c.args.set.now c.requires.held c.args.listed.now c.args.i (get_or c.args.listed.now c.args.i 0) (g.S.LinkStore.mem_id c.args.m) c.at-part.result
    (slice_get-get_or c.args.listed.now c.args.i 0 c.requires.i) c.at-part.ensures (λ w. let u = c.stands_in.ensures.1 w in let f = c.if-not-stands_in.true in cc)

pub returns-then-is_listed-clause-fewer : goal.returns-then-is_listed-clause-fewer
returns-then-is_listed-clause-fewer g c =
    again g.S.LinkStore.atom_id g.S.LinkStore.mem_id (g.S.LinkStore.heap c.args.store.now) c.root-root.ensures.sound c.args.set.now c.requires.held c.args.listed.now c.args.i (get_or c.args.listed.now c.args.i 0) (g.S.LinkStore.mem_id c.args.m) c.at-part.result
    (slice_get-get_or c.args.listed.now c.args.i 0 c.requires.i) c.at-part.ensures (c.is_listed.ensures.found c.if-is_listed.true)

pub size_of-requires-clause-ground : goal.size_of-requires-clause-ground
size_of-requires-clause-ground g c = held_full g.S.LinkStore.atom_id (g.S.LinkStore.heap c.args.store.now) c.root-root.ensures.sound c.args.set.now.atoms c.requires.unmarked c.at-part.result (c.requires.held.whole _ _ c.at-part.ensures)

pub returns-clause-fewer : goal.returns-clause-fewer
returns-clause-fewer g c =
    leaves_out g.S.LinkStore.atom_id g.S.LinkStore.mem_id (g.S.LinkStore.heap c.args.store.now) c.root-root.ensures.sound c.args.set.now c.requires.held c.args.listed.now c.args.i (get_or c.args.listed.now c.args.i 0) (g.S.LinkStore.mem_id c.args.m) c.at-part.result
    (slice_get-get_or c.args.listed.now c.args.i 0 c.requires.i) c.at-part.ensures (c.stands_in.ensures.0 c.if-not-stands_in.false) c.requires.listed (c.is_listed.ensures.none c.if-is_listed.false)
    c.size_of.result c.size_of.ensures.part.0 (part_atoms (g.S.LinkStore.heap c.args.store.now) (g.S.LinkStore.atom_id c.at-part.result.0, c.at-part.result.1) c.size_of.ensures.part.0 c.size_of.ensures.part.1) c.size_of.ensures.part.2

pub at-part-requires : goal.at-part-requires
at-part-requires g c = each_at (λ k. k < length c.args.set.now.parts) c.args.listed.now c.args.i c.requires.listed c.requires.i
