use Rattle.std.proofs.Common.{arith, map}
use Rattle.lmn_machine.proofs.Resting.{first_marked, first_full, first_parts, asked_mem, asked_out, asked_rest, asked_clean, asked_closed, again_marked, again_full, again_parts, told_again, last_held, last_same}
use Rattle.lmn_machine.proofs.rests.is_closed.Goals as goal

pub paint_parts-requires-clause-marked : goal.paint_parts-requires-clause-marked
paint_parts-requires-clause-marked g c = first_marked g.S.LinkStore.atom_id g.S.LinkStore.mem_id (g.S.LinkStore.heap c.args.store.now) c.requires.valid c.requires.unmarked c.args.set.now c.requires.held (g.S.LinkStore.heap c.mark_all.new.store) c.mark_all.ensures

pub paint_parts-requires-clause-full : goal.paint_parts-requires-clause-full
paint_parts-requires-clause-full g c = first_full g.S.LinkStore.atom_id g.S.LinkStore.mem_id (g.S.LinkStore.heap c.args.store.now) c.requires.valid c.requires.unmarked c.args.set.now c.requires.held (g.S.LinkStore.heap c.mark_all.new.store) c.mark_all.ensures

pub paint_parts-requires-clause-parts : goal.paint_parts-requires-clause-parts
paint_parts-requires-clause-parts g c = first_parts g.S.LinkStore.atom_id g.S.LinkStore.mem_id (g.S.LinkStore.heap c.args.store.now) c.requires.valid c.requires.unmarked c.args.set.now c.requires.held (g.S.LinkStore.heap c.mark_all.new.store) c.mark_all.ensures

pub closed-stays-requires-clause-mem : goal.closed-stays-requires-clause-mem
closed-stays-requires-clause-mem g c = asked_mem g.S.LinkStore.atom_id g.S.LinkStore.mem_id (g.S.LinkStore.heap c.args.store.now) c.requires.valid c.requires.unmarked c.args.set.now c.requires.held (g.S.LinkStore.heap c.mark_all.new.store) c.mark_all.ensures (g.S.LinkStore.heap c.paint_parts.new.store) c.paint_parts.ensures.0 c.paint_parts.ensures.2 (g.S.LinkStore.mem_id c.args.m) c.requires.membrane

pub closed-stays-requires-clause-out : goal.closed-stays-requires-clause-out
closed-stays-requires-clause-out g c = asked_out g.S.LinkStore.atom_id g.S.LinkStore.mem_id (g.S.LinkStore.heap c.args.store.now) c.requires.valid c.requires.unmarked c.args.set.now c.requires.held (g.S.LinkStore.heap c.mark_all.new.store) c.mark_all.ensures (g.S.LinkStore.heap c.paint_parts.new.store) c.paint_parts.ensures.0 c.paint_parts.ensures.2 c.as_slice.result.now c.as_slice.ensures

pub closed-stays-requires-clause-rest : goal.closed-stays-requires-clause-rest
closed-stays-requires-clause-rest g c = asked_rest g.S.LinkStore.atom_id g.S.LinkStore.mem_id (g.S.LinkStore.heap c.args.store.now) c.requires.valid c.requires.unmarked c.args.set.now c.requires.held (g.S.LinkStore.heap c.mark_all.new.store) c.mark_all.ensures (g.S.LinkStore.heap c.paint_parts.new.store) c.paint_parts.ensures.0 c.paint_parts.ensures.2 (g.S.LinkStore.mem_id c.args.m) (map g.S.LinkStore.mem_id c.as_slice.result.now) c.requires.membrane

pub closed-stays-requires-clause-clean : goal.closed-stays-requires-clause-clean
closed-stays-requires-clause-clean g c = asked_clean g.S.LinkStore.atom_id g.S.LinkStore.mem_id (g.S.LinkStore.heap c.args.store.now) c.requires.valid c.requires.unmarked c.args.set.now c.requires.held (g.S.LinkStore.heap c.mark_all.new.store) c.mark_all.ensures (g.S.LinkStore.heap c.paint_parts.new.store) c.paint_parts.ensures.0 c.paint_parts.ensures.2

pub paint_parts-requires-2-clause-marked : goal.paint_parts-requires-2-clause-marked
paint_parts-requires-2-clause-marked g c = again_marked g.S.LinkStore.atom_id g.S.LinkStore.mem_id (g.S.LinkStore.heap c.args.store.now) c.requires.valid c.requires.unmarked c.args.set.now c.requires.held (g.S.LinkStore.heap c.mark_all.new.store) c.mark_all.ensures (g.S.LinkStore.heap c.paint_parts.new.store) c.paint_parts.ensures.0 c.paint_parts.ensures.2 (g.S.LinkStore.heap c.closed-stays.new.store) c.closed-stays.ensures.same

pub paint_parts-requires-2-clause-full : goal.paint_parts-requires-2-clause-full
paint_parts-requires-2-clause-full g c = again_full g.S.LinkStore.atom_id g.S.LinkStore.mem_id (g.S.LinkStore.heap c.args.store.now) c.requires.valid c.requires.unmarked c.args.set.now c.requires.held (g.S.LinkStore.heap c.mark_all.new.store) c.mark_all.ensures (g.S.LinkStore.heap c.paint_parts.new.store) c.paint_parts.ensures.0 c.paint_parts.ensures.2 (g.S.LinkStore.heap c.closed-stays.new.store) c.closed-stays.ensures.same

pub paint_parts-requires-2-clause-parts : goal.paint_parts-requires-2-clause-parts
paint_parts-requires-2-clause-parts g c = again_parts g.S.LinkStore.atom_id g.S.LinkStore.mem_id (g.S.LinkStore.heap c.args.store.now) c.requires.valid c.requires.unmarked c.args.set.now c.requires.held (g.S.LinkStore.heap c.mark_all.new.store) c.mark_all.ensures (g.S.LinkStore.heap c.paint_parts.new.store) c.paint_parts.ensures.0 c.paint_parts.ensures.2 (g.S.LinkStore.heap c.closed-stays.new.store) c.closed-stays.ensures.same

pub mark_all-requires-2 : goal.mark_all-requires-2
mark_all-requires-2 g c = record { small = omega arith; held = last_held g.S.LinkStore.atom_id g.S.LinkStore.mem_id (g.S.LinkStore.heap c.args.store.now) c.requires.valid c.requires.unmarked c.args.set.now c.requires.held (g.S.LinkStore.heap c.mark_all.new.store) c.mark_all.ensures (g.S.LinkStore.heap c.paint_parts.new.store) c.paint_parts.ensures.0 c.paint_parts.ensures.2 (g.S.LinkStore.heap c.closed-stays.new.store) c.closed-stays.ensures.same (g.S.LinkStore.heap c.paint_parts-2.new.store) c.paint_parts-2.ensures.0 c.paint_parts-2.ensures.2 }

pub returns-clause-same : goal.returns-clause-same
returns-clause-same g c = last_same g.S.LinkStore.atom_id g.S.LinkStore.mem_id (g.S.LinkStore.heap c.args.store.now) c.requires.valid c.requires.unmarked c.args.set.now c.requires.held (g.S.LinkStore.heap c.mark_all.new.store) c.mark_all.ensures (g.S.LinkStore.heap c.paint_parts.new.store) c.paint_parts.ensures.0 c.paint_parts.ensures.2 (g.S.LinkStore.heap c.closed-stays.new.store) c.closed-stays.ensures.same (g.S.LinkStore.heap c.paint_parts-2.new.store) c.paint_parts-2.ensures.0 c.paint_parts-2.ensures.2
    (told_again g.S.LinkStore.atom_id g.S.LinkStore.mem_id (g.S.LinkStore.heap c.args.store.now) c.requires.valid c.requires.unmarked c.args.set.now c.requires.held (g.S.LinkStore.heap c.mark_all.new.store) c.mark_all.ensures (g.S.LinkStore.heap c.paint_parts.new.store) c.paint_parts.ensures.0 c.paint_parts.ensures.2 c.args.listed.now c.paint_parts.ensures.1 (g.S.LinkStore.heap c.closed-stays.new.store) c.closed-stays.ensures.same c.paint_parts-2.ensures.0 c.paint_parts-2.ensures.1) (g.S.LinkStore.heap c.mark_all-2.new.store) c.mark_all-2.ensures

pub returns-clause-closed : goal.returns-clause-closed
returns-clause-closed g c = λ d s x n k a e. asked_closed g.S.LinkStore.atom_id g.S.LinkStore.mem_id (g.S.LinkStore.heap c.args.store.now) c.requires.valid c.requires.unmarked c.args.set.now c.requires.held (g.S.LinkStore.heap c.mark_all.new.store) c.mark_all.ensures (g.S.LinkStore.heap c.paint_parts.new.store) c.paint_parts.ensures.0 c.paint_parts.ensures.2 c.args.listed.now c.paint_parts.ensures.1 (g.S.LinkStore.mem_id c.args.m) c.as_slice.result.now c.closed-stays.result c.requires.membrane c.as_slice.ensures c.closed-stays.ensures.closed d s x n k a e
