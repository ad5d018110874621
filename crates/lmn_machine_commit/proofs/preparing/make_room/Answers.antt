use Rattle.std.proofs.Common.{◌+◌, take, length, arith}
use Rattle.lmn_base.proofs.Lists.{get_below}
use Rattle.lmn_machine_commit.proofs.Codes.{take_get}
use Rattle.lmn_machine_commit.proofs.Counting.{adds_below, adds_uses, counted_added, counted_more, room_made_for}
use Rattle.lmn_machine_commit.proofs.preparing.make_room.Goals as goal

pub at-membrane-requires : goal.at-membrane-requires
at-membrane-requires g c = adds_below (length c.args.set.now.atoms) (length c.args.set.now.membranes) (length c.args.set.now.parts) (length c.args.set.now.integers) (length c.args.set.now.copies) c.args.instr.now c.args.to c.requires.to c.requires.reads

pub count_before-requires-clause-at : goal.count_before-requires-clause-at
count_before-requires-clause-at g c = let l = get_below c.args.code.now c.args.at c.args.instr.now c.requires.at in omega (arith, l)

pub rules_added-added-requires-clause-uses : goal.rules_added-added-requires-clause-uses
rules_added-added-requires-clause-uses g c = adds_uses (length c.args.set.now.atoms) (length c.args.set.now.membranes) (length c.args.set.now.parts) (length c.args.set.now.integers) (length c.args.set.now.copies) c.args.instr.now c.args.to c.requires.to c.requires.reads

pub rules_added-added-requires-clause-membrane : goal.rules_added-added-requires-clause-membrane
rules_added-added-requires-clause-membrane g c = c.requires.held.membranes c.args.to c.at-membrane.result c.at-membrane.ensures

pub reserve-requires : goal.reserve-requires
reserve-requires g c = c.requires.held.membranes c.args.to c.at-membrane.result c.at-membrane.ensures

pub returns-in_ok-reserve-in-Some-clause-ok : goal.returns-in_ok-reserve-in-Some-clause-ok
returns-in_ok-reserve-in-Some-clause-ok g c =
    let is = take_get c.args.at c.args.code.now c.args.instr.now c.requires.at in
    let counted = counted_more g.S.LinkStore.atom_id g.S.LinkStore.mem_id (g.S.LinkStore.heap c.args.store.now) c.args.set.now (take c.args.at c.args.code.now) (take (c.args.at + 1) c.args.code.now) c.args.instr.now c.args.to c.at-membrane.result
    c.in_ok-before.before c.rules_added-added.result c.in-Some.count is c.at-membrane.ensures c.in_ok-before.ensures c.rules_added-added.ensures
    (let e = c.in-Some.ensures in omega (arith, e)) in
    room_made_for g.S.LinkStore.atom_id g.S.LinkStore.mem_id (g.S.LinkStore.heap c.args.store.now) (g.S.LinkStore.heap c.reserve.new.store) c.args.set.now (take c.args.at c.args.code.now) (take (c.args.at + 1) c.args.code.now) c.args.instr.now c.in-Some.count c.args.to c.at-membrane.result
    c.requires.to c.requires.held is counted c.at-membrane.ensures c.in_ok-reserve-in-Some.ensures.ok c.in_ok-reserve-in-Some.ensures.least

pub returns-in_ok-reserve-in-Some-clause-counted : goal.returns-in_ok-reserve-in-Some-clause-counted
returns-in_ok-reserve-in-Some-clause-counted g c =
    let is = take_get c.args.at c.args.code.now c.args.instr.now c.requires.at in
    let counted = counted_more g.S.LinkStore.atom_id g.S.LinkStore.mem_id (g.S.LinkStore.heap c.args.store.now) c.args.set.now (take c.args.at c.args.code.now) (take (c.args.at + 1) c.args.code.now) c.args.instr.now c.args.to c.at-membrane.result
    c.in_ok-before.before c.rules_added-added.result c.in-Some.count is c.at-membrane.ensures c.in_ok-before.ensures c.rules_added-added.ensures
    (let e = c.in-Some.ensures in omega (arith, e)) in
    let made = room_made_for g.S.LinkStore.atom_id g.S.LinkStore.mem_id (g.S.LinkStore.heap c.args.store.now) (g.S.LinkStore.heap c.reserve.new.store) c.args.set.now (take c.args.at c.args.code.now) (take (c.args.at + 1) c.args.code.now) c.args.instr.now c.in-Some.count c.args.to c.at-membrane.result
    c.requires.to c.requires.held is counted c.at-membrane.ensures c.in_ok-reserve-in-Some.ensures.ok c.in_ok-reserve-in-Some.ensures.least in
    counted_added g.S.LinkStore.atom_id g.S.LinkStore.mem_id (g.S.LinkStore.heap c.args.store.now) (g.S.LinkStore.heap c.reserve.new.store) c.args.set.now (take c.args.at c.args.code.now) c.args.instr.now (length c.args.set.now.integers) c.args.to c.in-Some.count
    c.requires.to made c.requires.held c.requires.uses c.requires.reads (take (c.args.at + 1) c.args.code.now) is counted
