use Rattle.lmn_machine_commit.proofs.RestCopying.{first_marked, first_parts, asked_mem, asked_out, asked_rest, asked_clean, asked_unmatched, asked_closed, again_marked, again_held, again_parts, again_mem, seen, last_copied, last_makes}
use Rattle.lmn_machine_commit.proofs.preparing.copy_rest.Goals as goal

pub mark_taken-requires-clause-marked : goal.mark_taken-requires-clause-marked
mark_taken-requires-clause-marked g c = first_marked (g.S.LinkStore.heap c.args.store.now) c.requires.unmarked

pub mark_taken-requires-clause-parts : goal.mark_taken-requires-clause-parts
mark_taken-requires-clause-parts g c = first_parts g.S.LinkStore.atom_id (g.S.LinkStore.heap c.args.store.now) c.args.set.now c.requires.parts

pub copy_cells-copied-requires-clause-mem : goal.copy_cells-copied-requires-clause-mem
copy_cells-copied-requires-clause-mem g c = asked_mem g.S.LinkStore.atom_id g.S.LinkStore.mem_id (g.S.LinkStore.heap c.args.store.now) c.root-root.ensures.sound c.requires.unmarked c.args.set.now c.requires.held c.requires.parts c.requires.homes (g.S.LinkStore.mem_id c.args.m) c.mark_taken.ensures.0 c.mark_taken.ensures.1 (g.S.LinkStore.heap c.mark_taken.new.store) c.mark_taken.ensures.2 (g.S.LinkStore.mem_id c.args.m) c.requires.membrane

pub copy_cells-copied-requires-clause-out : goal.copy_cells-copied-requires-clause-out
copy_cells-copied-requires-clause-out g c = asked_out g.S.LinkStore.atom_id g.S.LinkStore.mem_id (g.S.LinkStore.heap c.args.store.now) c.root-root.ensures.sound c.requires.unmarked c.args.set.now c.requires.held c.requires.parts c.requires.homes (g.S.LinkStore.mem_id c.args.m) c.mark_taken.ensures.0 c.mark_taken.ensures.1 (g.S.LinkStore.heap c.mark_taken.new.store) c.mark_taken.ensures.2 c.as_slice.result.now c.as_slice.ensures

pub copy_cells-copied-requires-clause-rest : goal.copy_cells-copied-requires-clause-rest
copy_cells-copied-requires-clause-rest g c = asked_rest g.S.LinkStore.atom_id g.S.LinkStore.mem_id (g.S.LinkStore.heap c.args.store.now) c.root-root.ensures.sound c.requires.unmarked c.args.set.now c.requires.held c.requires.parts c.requires.homes (g.S.LinkStore.mem_id c.args.m) c.mark_taken.ensures.0 c.mark_taken.ensures.1 (g.S.LinkStore.heap c.mark_taken.new.store) c.mark_taken.ensures.2 c.as_slice.result.now c.as_slice.ensures c.requires.closed

pub copy_cells-copied-requires-clause-clean : goal.copy_cells-copied-requires-clause-clean
copy_cells-copied-requires-clause-clean g c = asked_clean g.S.LinkStore.atom_id g.S.LinkStore.mem_id (g.S.LinkStore.heap c.args.store.now) c.root-root.ensures.sound c.requires.unmarked c.args.set.now c.requires.held c.requires.parts c.requires.homes (g.S.LinkStore.mem_id c.args.m) c.mark_taken.ensures.0 c.mark_taken.ensures.1 (g.S.LinkStore.heap c.mark_taken.new.store) c.mark_taken.ensures.2

pub copy_cells-copied-requires-clause-unmatched : goal.copy_cells-copied-requires-clause-unmatched
copy_cells-copied-requires-clause-unmatched g c = asked_unmatched g.S.LinkStore.atom_id g.S.LinkStore.mem_id (g.S.LinkStore.heap c.args.store.now) c.root-root.ensures.sound c.requires.unmarked c.args.set.now c.requires.held c.requires.parts c.requires.homes (g.S.LinkStore.mem_id c.args.m) c.mark_taken.ensures.0 c.mark_taken.ensures.1 (g.S.LinkStore.heap c.mark_taken.new.store) c.mark_taken.ensures.2 c.as_slice.result.now c.as_slice.ensures

pub copy_cells-copied-requires-clause-closed : goal.copy_cells-copied-requires-clause-closed
copy_cells-copied-requires-clause-closed g c = asked_closed g.S.LinkStore.atom_id g.S.LinkStore.mem_id (g.S.LinkStore.heap c.args.store.now) c.root-root.ensures.sound c.requires.unmarked c.args.set.now c.requires.held c.requires.parts c.requires.homes (g.S.LinkStore.mem_id c.args.m) c.mark_taken.ensures.0 c.mark_taken.ensures.1 (g.S.LinkStore.heap c.mark_taken.new.store) c.mark_taken.ensures.2 c.as_slice.result.now c.as_slice.ensures c.requires.closed

pub mark_taken-requires-2-clause-marked : goal.mark_taken-requires-2-clause-marked
mark_taken-requires-2-clause-marked g c =
    let later = seen g.S.LinkStore.atom_id g.S.LinkStore.mem_id (g.S.LinkStore.heap c.args.store.now) c.root-root.ensures.sound c.requires.unmarked c.args.set.now c.requires.held c.requires.parts c.requires.homes (g.S.LinkStore.mem_id c.args.m) c.mark_taken.ensures.0 c.mark_taken.ensures.1 (g.S.LinkStore.heap c.mark_taken.new.store) c.mark_taken.ensures.2 c.as_slice.result.now c.as_slice.ensures c.requires.closed c.copy_cells-copied.result (g.S.LinkStore.heap c.copy_cells-copied.new.store) c.copy_cells-copied.ensures.ok c.copy_cells-copied.ensures.err in
    again_marked g.S.LinkStore.atom_id g.S.LinkStore.mem_id (g.S.LinkStore.heap c.args.store.now) c.root-root.ensures.sound c.requires.unmarked c.args.set.now c.requires.held c.requires.parts c.requires.homes (g.S.LinkStore.mem_id c.args.m) c.mark_taken.ensures.0 c.mark_taken.ensures.1 (g.S.LinkStore.heap c.mark_taken.new.store) c.mark_taken.ensures.2 (g.S.LinkStore.heap c.copy_cells-copied.new.store) later.0 later.1

pub mark_taken-requires-2-clause-held : goal.mark_taken-requires-2-clause-held
mark_taken-requires-2-clause-held g c =
    let later = seen g.S.LinkStore.atom_id g.S.LinkStore.mem_id (g.S.LinkStore.heap c.args.store.now) c.root-root.ensures.sound c.requires.unmarked c.args.set.now c.requires.held c.requires.parts c.requires.homes (g.S.LinkStore.mem_id c.args.m) c.mark_taken.ensures.0 c.mark_taken.ensures.1 (g.S.LinkStore.heap c.mark_taken.new.store) c.mark_taken.ensures.2 c.as_slice.result.now c.as_slice.ensures c.requires.closed c.copy_cells-copied.result (g.S.LinkStore.heap c.copy_cells-copied.new.store) c.copy_cells-copied.ensures.ok c.copy_cells-copied.ensures.err in
    again_held g.S.LinkStore.atom_id g.S.LinkStore.mem_id (g.S.LinkStore.heap c.args.store.now) c.root-root.ensures.sound c.requires.unmarked c.args.set.now c.requires.held c.requires.parts c.requires.homes (g.S.LinkStore.mem_id c.args.m) c.mark_taken.ensures.0 c.mark_taken.ensures.1 (g.S.LinkStore.heap c.mark_taken.new.store) c.mark_taken.ensures.2 (g.S.LinkStore.heap c.copy_cells-copied.new.store) later.0 later.1

pub mark_taken-requires-2-clause-parts : goal.mark_taken-requires-2-clause-parts
mark_taken-requires-2-clause-parts g c =
    let later = seen g.S.LinkStore.atom_id g.S.LinkStore.mem_id (g.S.LinkStore.heap c.args.store.now) c.root-root.ensures.sound c.requires.unmarked c.args.set.now c.requires.held c.requires.parts c.requires.homes (g.S.LinkStore.mem_id c.args.m) c.mark_taken.ensures.0 c.mark_taken.ensures.1 (g.S.LinkStore.heap c.mark_taken.new.store) c.mark_taken.ensures.2 c.as_slice.result.now c.as_slice.ensures c.requires.closed c.copy_cells-copied.result (g.S.LinkStore.heap c.copy_cells-copied.new.store) c.copy_cells-copied.ensures.ok c.copy_cells-copied.ensures.err in
    again_parts g.S.LinkStore.atom_id g.S.LinkStore.mem_id (g.S.LinkStore.heap c.args.store.now) c.root-root.ensures.sound c.requires.unmarked c.args.set.now c.requires.held c.requires.parts c.requires.homes (g.S.LinkStore.mem_id c.args.m) c.mark_taken.ensures.0 c.mark_taken.ensures.1 (g.S.LinkStore.heap c.mark_taken.new.store) c.mark_taken.ensures.2 (g.S.LinkStore.heap c.copy_cells-copied.new.store) later.0 later.1

pub mark_taken-requires-2-clause-membrane : goal.mark_taken-requires-2-clause-membrane
mark_taken-requires-2-clause-membrane g c =
    let later = seen g.S.LinkStore.atom_id g.S.LinkStore.mem_id (g.S.LinkStore.heap c.args.store.now) c.root-root.ensures.sound c.requires.unmarked c.args.set.now c.requires.held c.requires.parts c.requires.homes (g.S.LinkStore.mem_id c.args.m) c.mark_taken.ensures.0 c.mark_taken.ensures.1 (g.S.LinkStore.heap c.mark_taken.new.store) c.mark_taken.ensures.2 c.as_slice.result.now c.as_slice.ensures c.requires.closed c.copy_cells-copied.result (g.S.LinkStore.heap c.copy_cells-copied.new.store) c.copy_cells-copied.ensures.ok c.copy_cells-copied.ensures.err in
    again_mem g.S.LinkStore.atom_id g.S.LinkStore.mem_id (g.S.LinkStore.heap c.args.store.now) c.root-root.ensures.sound c.requires.unmarked c.args.set.now c.requires.held c.requires.parts c.requires.homes (g.S.LinkStore.mem_id c.args.m) c.mark_taken.ensures.0 c.mark_taken.ensures.1 (g.S.LinkStore.heap c.mark_taken.new.store) c.mark_taken.ensures.2 (g.S.LinkStore.heap c.copy_cells-copied.new.store) later.0 later.1 (g.S.LinkStore.mem_id c.args.m) c.requires.membrane

pub returns-clause-ok : goal.returns-clause-ok
returns-clause-ok g c = last_copied g.S.LinkStore.atom_id g.S.LinkStore.mem_id (g.S.LinkStore.heap c.args.store.now) c.root-root.ensures.sound c.requires.unmarked c.args.set.now c.requires.held c.requires.parts c.requires.homes (g.S.LinkStore.mem_id c.args.m) c.mark_taken.ensures.0 c.mark_taken.ensures.1 (g.S.LinkStore.heap c.mark_taken.new.store) c.mark_taken.ensures.2 c.as_slice.result.now c.as_slice.ensures c.requires.closed c.copy_cells-copied.result (g.S.LinkStore.heap c.copy_cells-copied.new.store) c.copy_cells-copied.ensures.ok c.copy_cells-copied.ensures.err c.mark_taken-2.ensures.0 c.mark_taken-2.ensures.1 (g.S.LinkStore.heap c.mark_taken-2.new.store) c.mark_taken-2.ensures.2

pub returns-clause-makes : goal.returns-clause-makes
returns-clause-makes g c = last_makes g.S.LinkStore.atom_id g.S.LinkStore.mem_id (g.S.LinkStore.heap c.args.store.now) c.root-root.ensures.sound c.requires.unmarked c.args.set.now c.requires.held c.requires.parts c.requires.homes (g.S.LinkStore.mem_id c.args.m) c.mark_taken.ensures.0 c.mark_taken.ensures.1 (g.S.LinkStore.heap c.mark_taken.new.store) c.mark_taken.ensures.2 c.as_slice.result.now c.as_slice.ensures c.requires.closed c.copy_cells-copied.result (g.S.LinkStore.heap c.copy_cells-copied.new.store) c.copy_cells-copied.ensures.ok c.copy_cells-copied.ensures.err c.mark_taken-2.ensures.0 c.mark_taken-2.ensures.1 (g.S.LinkStore.heap c.mark_taken-2.new.store) c.mark_taken-2.ensures.2
