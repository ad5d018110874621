use Rattle.std.proofs.Common.{◌≡◌, ◌+◌, length, map, subst}
use Rattle.std.specs.Prelude.{sum}
use Rattle.lmn_store_heap.specs.Heap.{Heap, rules_in}
use Rattle.lmn_machine_commit.proofs.RestCopying.{first_marked, first_parts, is_painted, asked_mem, asked_out, beside_left, goes_on, again_marked, again_held, again_parts, again_mem, last_is}
use Rattle.lmn_machine_commit.proofs.RestOf.{rest_beside}
use Rattle.lmn_machine.proofs.Bodies.{held_for_body, parts_can, parts_home}
use Rattle.lmn_machine.proofs.rests.rest_items.Goals as goal

pub mark_taken-requires-clause-marked : goal.mark_taken-requires-clause-marked
mark_taken-requires-clause-marked g c = first_marked (g.S.LinkStore.heap c.args.store.now) c.requires.unmarked

pub mark_taken-requires-clause-parts : goal.mark_taken-requires-clause-parts
mark_taken-requires-clause-parts g c = first_parts g.S.LinkStore.atom_id (g.S.LinkStore.heap c.args.store.now) c.args.set.now
    (parts_can g.S.LinkStore.atom_id g.S.LinkStore.mem_id (g.S.LinkStore.heap c.args.store.now) c.args.set.now c.requires.held c.requires.valid.sound)

pub items_left-items-requires-clause-mem : goal.items_left-items-requires-clause-mem
items_left-items-requires-clause-mem g c = asked_mem g.S.LinkStore.atom_id g.S.LinkStore.mem_id (g.S.LinkStore.heap c.args.store.now) c.requires.valid.sound c.requires.unmarked c.args.set.now (held_for_body g.S.LinkStore.atom_id g.S.LinkStore.mem_id (g.S.LinkStore.heap c.args.store.now) c.args.set.now c.requires.held) (parts_can g.S.LinkStore.atom_id g.S.LinkStore.mem_id (g.S.LinkStore.heap c.args.store.now) c.args.set.now c.requires.held c.requires.valid.sound) (parts_home g.S.LinkStore.atom_id g.S.LinkStore.mem_id (g.S.LinkStore.heap c.args.store.now) c.args.set.now c.requires.held) (g.S.LinkStore.mem_id c.at-place.result) c.mark_taken.ensures.0 c.mark_taken.ensures.1 (g.S.LinkStore.heap c.mark_taken.new.store) c.mark_taken.ensures.2 (g.S.LinkStore.mem_id c.at-place.result) (c.requires.held.membranes c.args.membrane c.at-place.result c.at-place.ensures)

pub items_left-items-requires-clause-out : goal.items_left-items-requires-clause-out
items_left-items-requires-clause-out g c = asked_out g.S.LinkStore.atom_id g.S.LinkStore.mem_id (g.S.LinkStore.heap c.args.store.now) c.requires.valid.sound c.requires.unmarked c.args.set.now (held_for_body g.S.LinkStore.atom_id g.S.LinkStore.mem_id (g.S.LinkStore.heap c.args.store.now) c.args.set.now c.requires.held) (parts_can g.S.LinkStore.atom_id g.S.LinkStore.mem_id (g.S.LinkStore.heap c.args.store.now) c.args.set.now c.requires.held c.requires.valid.sound) (parts_home g.S.LinkStore.atom_id g.S.LinkStore.mem_id (g.S.LinkStore.heap c.args.store.now) c.args.set.now c.requires.held) (g.S.LinkStore.mem_id c.at-place.result) c.mark_taken.ensures.0 c.mark_taken.ensures.1 (g.S.LinkStore.heap c.mark_taken.new.store) c.mark_taken.ensures.2 c.as_slice.result.now c.as_slice.ensures

pub items_left-items-requires-clause-rest : goal.items_left-items-requires-clause-rest
items_left-items-requires-clause-rest g c =
    let r = rest_beside g.S.LinkStore.atom_id g.S.LinkStore.mem_id (g.S.LinkStore.heap c.args.store.now) c.requires.valid c.args.set.now (g.S.LinkStore.mem_id c.at-place.result) in
    (r.0, r.1, beside_left g.S.LinkStore.atom_id g.S.LinkStore.mem_id (g.S.LinkStore.heap c.args.store.now) c.requires.valid.sound c.requires.unmarked c.args.set.now (held_for_body g.S.LinkStore.atom_id g.S.LinkStore.mem_id (g.S.LinkStore.heap c.args.store.now) c.args.set.now c.requires.held) (parts_can g.S.LinkStore.atom_id g.S.LinkStore.mem_id (g.S.LinkStore.heap c.args.store.now) c.args.set.now c.requires.held c.requires.valid.sound) (parts_home g.S.LinkStore.atom_id g.S.LinkStore.mem_id (g.S.LinkStore.heap c.args.store.now) c.args.set.now c.requires.held) (g.S.LinkStore.mem_id c.at-place.result) c.mark_taken.ensures.0 c.mark_taken.ensures.1 (g.S.LinkStore.heap c.mark_taken.new.store) c.mark_taken.ensures.2 c.as_slice.result.now c.as_slice.ensures r.0 r.1 r.2)

pub mark_taken-requires-2-clause-marked : goal.mark_taken-requires-2-clause-marked
mark_taken-requires-2-clause-marked g c = again_marked g.S.LinkStore.atom_id g.S.LinkStore.mem_id (g.S.LinkStore.heap c.args.store.now) c.requires.valid.sound c.requires.unmarked c.args.set.now (held_for_body g.S.LinkStore.atom_id g.S.LinkStore.mem_id (g.S.LinkStore.heap c.args.store.now) c.args.set.now c.requires.held) (parts_can g.S.LinkStore.atom_id g.S.LinkStore.mem_id (g.S.LinkStore.heap c.args.store.now) c.args.set.now c.requires.held c.requires.valid.sound) (parts_home g.S.LinkStore.atom_id g.S.LinkStore.mem_id (g.S.LinkStore.heap c.args.store.now) c.args.set.now c.requires.held) (g.S.LinkStore.mem_id c.at-place.result) c.mark_taken.ensures.0 c.mark_taken.ensures.1 (g.S.LinkStore.heap c.mark_taken.new.store) c.mark_taken.ensures.2 (g.S.LinkStore.heap c.mark_taken.new.store) (g.S.LinkStore.heap c.args.store.now) (goes_on g.S.LinkStore.atom_id g.S.LinkStore.mem_id (g.S.LinkStore.heap c.args.store.now) c.requires.valid.sound c.requires.unmarked c.args.set.now (held_for_body g.S.LinkStore.atom_id g.S.LinkStore.mem_id (g.S.LinkStore.heap c.args.store.now) c.args.set.now c.requires.held) (parts_can g.S.LinkStore.atom_id g.S.LinkStore.mem_id (g.S.LinkStore.heap c.args.store.now) c.args.set.now c.requires.held c.requires.valid.sound) (parts_home g.S.LinkStore.atom_id g.S.LinkStore.mem_id (g.S.LinkStore.heap c.args.store.now) c.args.set.now c.requires.held) (g.S.LinkStore.mem_id c.at-place.result) c.mark_taken.ensures.0 c.mark_taken.ensures.1 (g.S.LinkStore.heap c.mark_taken.new.store) c.mark_taken.ensures.2)

pub mark_taken-requires-2-clause-held : goal.mark_taken-requires-2-clause-held
mark_taken-requires-2-clause-held g c = again_held g.S.LinkStore.atom_id g.S.LinkStore.mem_id (g.S.LinkStore.heap c.args.store.now) c.requires.valid.sound c.requires.unmarked c.args.set.now (held_for_body g.S.LinkStore.atom_id g.S.LinkStore.mem_id (g.S.LinkStore.heap c.args.store.now) c.args.set.now c.requires.held) (parts_can g.S.LinkStore.atom_id g.S.LinkStore.mem_id (g.S.LinkStore.heap c.args.store.now) c.args.set.now c.requires.held c.requires.valid.sound) (parts_home g.S.LinkStore.atom_id g.S.LinkStore.mem_id (g.S.LinkStore.heap c.args.store.now) c.args.set.now c.requires.held) (g.S.LinkStore.mem_id c.at-place.result) c.mark_taken.ensures.0 c.mark_taken.ensures.1 (g.S.LinkStore.heap c.mark_taken.new.store) c.mark_taken.ensures.2 (g.S.LinkStore.heap c.mark_taken.new.store) (g.S.LinkStore.heap c.args.store.now) (goes_on g.S.LinkStore.atom_id g.S.LinkStore.mem_id (g.S.LinkStore.heap c.args.store.now) c.requires.valid.sound c.requires.unmarked c.args.set.now (held_for_body g.S.LinkStore.atom_id g.S.LinkStore.mem_id (g.S.LinkStore.heap c.args.store.now) c.args.set.now c.requires.held) (parts_can g.S.LinkStore.atom_id g.S.LinkStore.mem_id (g.S.LinkStore.heap c.args.store.now) c.args.set.now c.requires.held c.requires.valid.sound) (parts_home g.S.LinkStore.atom_id g.S.LinkStore.mem_id (g.S.LinkStore.heap c.args.store.now) c.args.set.now c.requires.held) (g.S.LinkStore.mem_id c.at-place.result) c.mark_taken.ensures.0 c.mark_taken.ensures.1 (g.S.LinkStore.heap c.mark_taken.new.store) c.mark_taken.ensures.2)

pub mark_taken-requires-2-clause-parts : goal.mark_taken-requires-2-clause-parts
mark_taken-requires-2-clause-parts g c = again_parts g.S.LinkStore.atom_id g.S.LinkStore.mem_id (g.S.LinkStore.heap c.args.store.now) c.requires.valid.sound c.requires.unmarked c.args.set.now (held_for_body g.S.LinkStore.atom_id g.S.LinkStore.mem_id (g.S.LinkStore.heap c.args.store.now) c.args.set.now c.requires.held) (parts_can g.S.LinkStore.atom_id g.S.LinkStore.mem_id (g.S.LinkStore.heap c.args.store.now) c.args.set.now c.requires.held c.requires.valid.sound) (parts_home g.S.LinkStore.atom_id g.S.LinkStore.mem_id (g.S.LinkStore.heap c.args.store.now) c.args.set.now c.requires.held) (g.S.LinkStore.mem_id c.at-place.result) c.mark_taken.ensures.0 c.mark_taken.ensures.1 (g.S.LinkStore.heap c.mark_taken.new.store) c.mark_taken.ensures.2 (g.S.LinkStore.heap c.mark_taken.new.store) (g.S.LinkStore.heap c.args.store.now) (goes_on g.S.LinkStore.atom_id g.S.LinkStore.mem_id (g.S.LinkStore.heap c.args.store.now) c.requires.valid.sound c.requires.unmarked c.args.set.now (held_for_body g.S.LinkStore.atom_id g.S.LinkStore.mem_id (g.S.LinkStore.heap c.args.store.now) c.args.set.now c.requires.held) (parts_can g.S.LinkStore.atom_id g.S.LinkStore.mem_id (g.S.LinkStore.heap c.args.store.now) c.args.set.now c.requires.held c.requires.valid.sound) (parts_home g.S.LinkStore.atom_id g.S.LinkStore.mem_id (g.S.LinkStore.heap c.args.store.now) c.args.set.now c.requires.held) (g.S.LinkStore.mem_id c.at-place.result) c.mark_taken.ensures.0 c.mark_taken.ensures.1 (g.S.LinkStore.heap c.mark_taken.new.store) c.mark_taken.ensures.2)

pub mark_taken-requires-2-clause-membrane : goal.mark_taken-requires-2-clause-membrane
mark_taken-requires-2-clause-membrane g c = again_mem g.S.LinkStore.atom_id g.S.LinkStore.mem_id (g.S.LinkStore.heap c.args.store.now) c.requires.valid.sound c.requires.unmarked c.args.set.now (held_for_body g.S.LinkStore.atom_id g.S.LinkStore.mem_id (g.S.LinkStore.heap c.args.store.now) c.args.set.now c.requires.held) (parts_can g.S.LinkStore.atom_id g.S.LinkStore.mem_id (g.S.LinkStore.heap c.args.store.now) c.args.set.now c.requires.held c.requires.valid.sound) (parts_home g.S.LinkStore.atom_id g.S.LinkStore.mem_id (g.S.LinkStore.heap c.args.store.now) c.args.set.now c.requires.held) (g.S.LinkStore.mem_id c.at-place.result) c.mark_taken.ensures.0 c.mark_taken.ensures.1 (g.S.LinkStore.heap c.mark_taken.new.store) c.mark_taken.ensures.2 (g.S.LinkStore.heap c.mark_taken.new.store) (g.S.LinkStore.heap c.args.store.now) (goes_on g.S.LinkStore.atom_id g.S.LinkStore.mem_id (g.S.LinkStore.heap c.args.store.now) c.requires.valid.sound c.requires.unmarked c.args.set.now (held_for_body g.S.LinkStore.atom_id g.S.LinkStore.mem_id (g.S.LinkStore.heap c.args.store.now) c.args.set.now c.requires.held) (parts_can g.S.LinkStore.atom_id g.S.LinkStore.mem_id (g.S.LinkStore.heap c.args.store.now) c.args.set.now c.requires.held c.requires.valid.sound) (parts_home g.S.LinkStore.atom_id g.S.LinkStore.mem_id (g.S.LinkStore.heap c.args.store.now) c.args.set.now c.requires.held) (g.S.LinkStore.mem_id c.at-place.result) c.mark_taken.ensures.0 c.mark_taken.ensures.1 (g.S.LinkStore.heap c.mark_taken.new.store) c.mark_taken.ensures.2) (g.S.LinkStore.mem_id c.at-place.result) (c.requires.held.membranes c.args.membrane c.at-place.result c.at-place.ensures)

pub returns-clause-same : goal.returns-clause-same
returns-clause-same g c = last_is g.S.LinkStore.atom_id g.S.LinkStore.mem_id (g.S.LinkStore.heap c.args.store.now) c.requires.valid.sound c.requires.unmarked c.args.set.now (held_for_body g.S.LinkStore.atom_id g.S.LinkStore.mem_id (g.S.LinkStore.heap c.args.store.now) c.args.set.now c.requires.held) (parts_can g.S.LinkStore.atom_id g.S.LinkStore.mem_id (g.S.LinkStore.heap c.args.store.now) c.args.set.now c.requires.held c.requires.valid.sound) (parts_home g.S.LinkStore.atom_id g.S.LinkStore.mem_id (g.S.LinkStore.heap c.args.store.now) c.args.set.now c.requires.held) (g.S.LinkStore.mem_id c.at-place.result) c.mark_taken.ensures.0 c.mark_taken.ensures.1 (g.S.LinkStore.heap c.mark_taken.new.store) c.mark_taken.ensures.2 (g.S.LinkStore.heap c.mark_taken.new.store) (g.S.LinkStore.heap c.args.store.now) (goes_on g.S.LinkStore.atom_id g.S.LinkStore.mem_id (g.S.LinkStore.heap c.args.store.now) c.requires.valid.sound c.requires.unmarked c.args.set.now (held_for_body g.S.LinkStore.atom_id g.S.LinkStore.mem_id (g.S.LinkStore.heap c.args.store.now) c.args.set.now c.requires.held) (parts_can g.S.LinkStore.atom_id g.S.LinkStore.mem_id (g.S.LinkStore.heap c.args.store.now) c.args.set.now c.requires.held c.requires.valid.sound) (parts_home g.S.LinkStore.atom_id g.S.LinkStore.mem_id (g.S.LinkStore.heap c.args.store.now) c.args.set.now c.requires.held) (g.S.LinkStore.mem_id c.at-place.result) c.mark_taken.ensures.0 c.mark_taken.ensures.1 (g.S.LinkStore.heap c.mark_taken.new.store) c.mark_taken.ensures.2) c.mark_taken-2.ensures.0 c.mark_taken-2.ensures.1 (g.S.LinkStore.heap c.mark_taken-2.new.store) c.mark_taken-2.ensures.2

pub returns-clause-items : goal.returns-clause-items
returns-clause-items g c = λ r w.
    let atoms = r.left_atoms c.args.membrane in
    let membranes = r.left_membranes c.args.membrane in
    let left = beside_left g.S.LinkStore.atom_id g.S.LinkStore.mem_id (g.S.LinkStore.heap c.args.store.now) c.requires.valid.sound c.requires.unmarked c.args.set.now (held_for_body g.S.LinkStore.atom_id g.S.LinkStore.mem_id (g.S.LinkStore.heap c.args.store.now) c.args.set.now c.requires.held) (parts_can g.S.LinkStore.atom_id g.S.LinkStore.mem_id (g.S.LinkStore.heap c.args.store.now) c.args.set.now c.requires.held c.requires.valid.sound) (parts_home g.S.LinkStore.atom_id g.S.LinkStore.mem_id (g.S.LinkStore.heap c.args.store.now) c.args.set.now c.requires.held) (g.S.LinkStore.mem_id c.at-place.result) c.mark_taken.ensures.0 c.mark_taken.ensures.1 (g.S.LinkStore.heap c.mark_taken.new.store) c.mark_taken.ensures.2 c.as_slice.result.now c.as_slice.ensures atoms membranes (w c.args.membrane c.at-place.result c.at-place.ensures) in
    subst (λ (h : Heap). c.items_left-items.result ≡ length atoms + sum (map (λ n. 1 + length (rules_in h n)) membranes)) (is_painted g.S.LinkStore.atom_id g.S.LinkStore.mem_id (g.S.LinkStore.heap c.args.store.now) c.requires.valid.sound c.requires.unmarked c.args.set.now (held_for_body g.S.LinkStore.atom_id g.S.LinkStore.mem_id (g.S.LinkStore.heap c.args.store.now) c.args.set.now c.requires.held) (parts_can g.S.LinkStore.atom_id g.S.LinkStore.mem_id (g.S.LinkStore.heap c.args.store.now) c.args.set.now c.requires.held c.requires.valid.sound) (parts_home g.S.LinkStore.atom_id g.S.LinkStore.mem_id (g.S.LinkStore.heap c.args.store.now) c.args.set.now c.requires.held) (g.S.LinkStore.mem_id c.at-place.result) c.mark_taken.ensures.0 c.mark_taken.ensures.1 (g.S.LinkStore.heap c.mark_taken.new.store) c.mark_taken.ensures.2) (c.items_left-items.ensures atoms membranes left)
