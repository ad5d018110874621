use Rattle.std.proofs.Common.{◌≡◌, ◌≢◌, ◌≤◌, ℕ, Some, length, subst, sym}
use Rattle.lmn_store_heap.specs.Heap.{IsInPlace, IsMem, IsMemInPlace, IsPlacedMem, gone, mem_place_of, moved_all, rule_added, rules_copied, rules_in, spare_of}
use Rattle.lmn_store_heap.specs.Conditions.{IsOutside}
use Rattle.lmn_machine_commit.proofs.Doing.{asks_as, both_as, does_as, uses_as, part_taken, copy_waits, copy_goes, copy_placed, rest_waits, rest_goes, rest_held, rest_dropped}
use Rattle.lmn_machine_commit.proofs.committing.run_rare.Goals as goal

pub returns-in-RemovePart : goal.returns-in-RemovePart
returns-in-RemovePart g c = λ r u k.
    part_taken g.S.LinkStore.atom_id g.S.LinkStore.mem_id c.args.set.now r c.args.instr.now c.in-RemovePart.part c.at-in-RemovePart.result (g.S.LinkStore.heap c.args.store.now) (g.S.LinkStore.heap c.take_part.new.store) c.take_part.ensures.0 u c.in-RemovePart.is
    c.at-in-RemovePart.ensures c.take_part.ensures.1 c.take_part.ensures.2

pub place_atoms-requires-clause-membrane : goal.place_atoms-requires-clause-membrane
place_atoms-requires-clause-membrane g c =
    let k = c.requires.can in
    copy_goes g.S.LinkStore.atom_id g.S.LinkStore.mem_id c.args.set.now k.0 c.args.instr.now c.in-CopyGround.copy c.in-CopyGround.membrane c.in-CopyGround.part c.at-in-CopyGround.result (g.S.LinkStore.heap c.args.store.now) k.1 c.in-CopyGround.is c.at-in-CopyGround.ensures k.2

pub place_atoms-requires-clause-waiting : goal.place_atoms-requires-clause-waiting
place_atoms-requires-clause-waiting g c =
    let k = c.requires.can in
    copy_waits g.S.LinkStore.atom_id g.S.LinkStore.mem_id c.args.set.now k.0 c.args.instr.now c.in-CopyGround.copy c.in-CopyGround.membrane c.in-CopyGround.part c.at-atoms.result (g.S.LinkStore.heap c.args.store.now) k.1 c.in-CopyGround.is c.at-atoms.ensures k.2

pub returns-in-CopyGround : goal.returns-in-CopyGround
returns-in-CopyGround g c = λ r u k.
    copy_placed g.S.LinkStore.atom_id g.S.LinkStore.mem_id c.args.set.now r c.args.instr.now c.in-CopyGround.copy c.in-CopyGround.membrane c.in-CopyGround.part c.at-atoms.result c.at-in-CopyGround.result (g.S.LinkStore.heap c.args.store.now) (g.S.LinkStore.heap c.place_atoms.new.store)
    u c.in-CopyGround.is c.at-atoms.ensures c.at-in-CopyGround.ensures k c.place_atoms.ensures

pub place_cells-requires-clause-from : goal.place_cells-requires-clause-from
place_cells-requires-clause-from g c =
    let k = c.requires.can in
    (rest_waits g.S.LinkStore.atom_id g.S.LinkStore.mem_id c.args.set.now k.0 c.args.instr.now c.in-CopyCells.from c.in-CopyCells.to c.at-in-CopyCells.result c.at-in-CopyCells-2.result (g.S.LinkStore.heap c.args.store.now) k.1 c.in-CopyCells.is c.at-in-CopyCells.ensures c.at-in-CopyCells-2.ensures k.2).0

pub place_cells-requires-clause-to : goal.place_cells-requires-clause-to
place_cells-requires-clause-to g c =
    let k = c.requires.can in
    (rest_waits g.S.LinkStore.atom_id g.S.LinkStore.mem_id c.args.set.now k.0 c.args.instr.now c.in-CopyCells.from c.in-CopyCells.to c.at-in-CopyCells.result c.at-in-CopyCells-2.result (g.S.LinkStore.heap c.args.store.now) k.1 c.in-CopyCells.is c.at-in-CopyCells.ensures c.at-in-CopyCells-2.ensures k.2).1

pub place_cells-requires-clause-waits : goal.place_cells-requires-clause-waits
place_cells-requires-clause-waits g c =
    let k = c.requires.can in
    (rest_waits g.S.LinkStore.atom_id g.S.LinkStore.mem_id c.args.set.now k.0 c.args.instr.now c.in-CopyCells.from c.in-CopyCells.to c.at-in-CopyCells.result c.at-in-CopyCells-2.result (g.S.LinkStore.heap c.args.store.now) k.1 c.in-CopyCells.is c.at-in-CopyCells.ensures c.at-in-CopyCells-2.ensures k.2).2

pub returns-in-CopyCells : goal.returns-in-CopyCells
returns-in-CopyCells g c = λ r u k.
    rest_goes g.S.LinkStore.atom_id g.S.LinkStore.mem_id c.args.set.now r c.args.instr.now c.in-CopyCells.from c.in-CopyCells.to c.at-in-CopyCells.result c.at-in-CopyCells-2.result (g.S.LinkStore.heap c.args.store.now) (g.S.LinkStore.heap c.place_cells.new.store)
    u c.in-CopyCells.is c.at-in-CopyCells.ensures c.at-in-CopyCells-2.ensures k c.place_cells.ensures

pub drop_cells-requires-clause-gone : goal.drop_cells-requires-clause-gone
drop_cells-requires-clause-gone g c =
    let k = c.requires.can in
    (rest_held g.S.LinkStore.atom_id g.S.LinkStore.mem_id c.args.set.now k.0 c.args.instr.now c.in-DropCells.membrane c.at-in-DropCells.result (g.S.LinkStore.heap c.args.store.now) k.1 c.in-DropCells.is c.at-in-DropCells.ensures k.2).0

pub drop_cells-requires-clause-content : goal.drop_cells-requires-clause-content
drop_cells-requires-clause-content g c =
    let k = c.requires.can in
    (rest_held g.S.LinkStore.atom_id g.S.LinkStore.mem_id c.args.set.now k.0 c.args.instr.now c.in-DropCells.membrane c.at-in-DropCells.result (g.S.LinkStore.heap c.args.store.now) k.1 c.in-DropCells.is c.at-in-DropCells.ensures k.2).1

pub returns-in-DropCells : goal.returns-in-DropCells
returns-in-DropCells g c = λ r u k.
    rest_dropped g.S.LinkStore.atom_id g.S.LinkStore.mem_id c.args.set.now r c.args.instr.now c.in-DropCells.membrane c.at-in-DropCells.result (g.S.LinkStore.heap c.args.store.now) (g.S.LinkStore.heap c.drop_cells.new.store)
    u c.in-DropCells.is c.at-in-DropCells.ensures k c.drop_cells.ensures

pub at-requires : goal.at-requires
at-requires g c = uses_as _ _ _ _ c.in-RemoveAtom.is c.requires.uses

pub at-requires-in-RemovePart : goal.at-requires-in-RemovePart
at-requires-in-RemovePart g c = uses_as _ _ _ _ c.in-RemovePart.is c.requires.uses

pub at-requires-in-RemoveMem : goal.at-requires-in-RemoveMem
at-requires-in-RemoveMem g c = uses_as _ _ _ _ c.in-RemoveMem.is c.requires.uses

pub at-requires-in-NewMem : goal.at-requires-in-NewMem
at-requires-in-NewMem g c = (uses_as _ _ _ _ c.in-NewMem.is c.requires.uses).1

pub at-atoms-requires : goal.at-atoms-requires
at-atoms-requires g c = (uses_as _ _ _ _ c.in-CopyGround.is c.requires.uses).0

pub at-requires-in-CopyGround : goal.at-requires-in-CopyGround
at-requires-in-CopyGround g c = (uses_as _ _ _ _ c.in-CopyGround.is c.requires.uses).1

pub at-requires-in-MoveCells : goal.at-requires-in-MoveCells
at-requires-in-MoveCells g c = (uses_as _ _ _ _ c.in-MoveCells.is c.requires.uses).0

pub at-requires-in-MoveCells-2 : goal.at-requires-in-MoveCells-2
at-requires-in-MoveCells-2 g c = (uses_as _ _ _ _ c.in-MoveCells.is c.requires.uses).1

pub at-requires-in-CopyCells : goal.at-requires-in-CopyCells
at-requires-in-CopyCells g c = (uses_as _ _ _ _ c.in-CopyCells.is c.requires.uses).0

pub at-requires-in-CopyCells-2 : goal.at-requires-in-CopyCells-2
at-requires-in-CopyCells-2 g c = (uses_as _ _ _ _ c.in-CopyCells.is c.requires.uses).1

pub at-requires-in-CopyRules : goal.at-requires-in-CopyRules
at-requires-in-CopyRules g c = (uses_as _ _ _ _ c.in-CopyRules.is c.requires.uses).0

pub at-requires-in-CopyRules-2 : goal.at-requires-in-CopyRules-2
at-requires-in-CopyRules-2 g c = (uses_as _ _ _ _ c.in-CopyRules.is c.requires.uses).1

pub at-requires-in-DropCells : goal.at-requires-in-DropCells
at-requires-in-DropCells g c = uses_as _ _ _ _ c.in-DropCells.is c.requires.uses

pub at-requires-in-LoadRule : goal.at-requires-in-LoadRule
at-requires-in-LoadRule g c = uses_as _ _ _ _ c.in-LoadRule.is c.requires.uses

pub take_atom-requires : goal.take_atom-requires
take_atom-requires g c = let k = c.requires.can in subst (IsInPlace (g.S.LinkStore.heap c.args.store.now)) (k.1.atoms _ _ c.at.ensures) (asks_as k.0 (g.S.LinkStore.heap c.args.store.now) c.in-RemoveAtom.is k.2)

pub take_mem-requires : goal.take_mem-requires
take_mem-requires g c = let k = c.requires.can in subst (IsPlacedMem (g.S.LinkStore.heap c.args.store.now)) (k.1.membranes _ _ c.at-in-RemoveMem.ensures) (asks_as k.0 (g.S.LinkStore.heap c.args.store.now) c.in-RemoveMem.is k.2)

pub place_mem-membrane-requires-clause-mem : goal.place_mem-membrane-requires-clause-mem
place_mem-membrane-requires-clause-mem g c = let k = c.requires.can in subst (IsMemInPlace (g.S.LinkStore.heap c.args.store.now)) (k.1.membranes _ _ c.at-in-NewMem.ensures) (asks_as k.0 (g.S.LinkStore.heap c.args.store.now) c.in-NewMem.is k.2).0

pub move_all-requires-clause-gone : goal.move_all-requires-clause-gone
move_all-requires-clause-gone g c = let k = c.requires.can in subst (λ n. mem_place_of (g.S.LinkStore.heap c.args.store.now) n ≡ Some gone) (k.1.membranes _ _ c.at-in-MoveCells.ensures) (asks_as k.0 (g.S.LinkStore.heap c.args.store.now) c.in-MoveCells.is k.2).0

pub move_all-requires-clause-mem : goal.move_all-requires-clause-mem
move_all-requires-clause-mem g c = let k = c.requires.can in subst (IsMemInPlace (g.S.LinkStore.heap c.args.store.now)) (k.1.membranes _ _ c.at-in-MoveCells-2.ensures) (asks_as k.0 (g.S.LinkStore.heap c.args.store.now) c.in-MoveCells.is k.2).1

pub move_all-requires-clause-outside : goal.move_all-requires-clause-outside
move_all-requires-clause-outside g c = let k = c.requires.can in both_as (IsOutside (g.S.LinkStore.heap c.args.store.now)) (k.1.membranes _ _ c.at-in-MoveCells-2.ensures) (k.1.membranes _ _ c.at-in-MoveCells.ensures) (asks_as k.0 (g.S.LinkStore.heap c.args.store.now) c.in-MoveCells.is k.2).2

pub add_rule-requires-clause-mem : goal.add_rule-requires-clause-mem
add_rule-requires-clause-mem g c = let k = c.requires.can in subst (IsMem (g.S.LinkStore.heap c.args.store.now)) (k.1.membranes _ _ c.at-in-LoadRule.ensures) (asks_as k.0 (g.S.LinkStore.heap c.args.store.now) c.in-LoadRule.is k.2).0

pub add_rule-requires-clause-spare : goal.add_rule-requires-clause-spare
add_rule-requires-clause-spare g c = let k = c.requires.can in subst (λ n. 1 ≤ spare_of (g.S.LinkStore.heap c.args.store.now) n) (k.1.membranes _ _ c.at-in-LoadRule.ensures) (asks_as k.0 (g.S.LinkStore.heap c.args.store.now) c.in-LoadRule.is k.2).1

pub copy_rules-requires-clause-m : goal.copy_rules-requires-clause-m
copy_rules-requires-clause-m g c = let k = c.requires.can in subst (IsMem (g.S.LinkStore.heap c.args.store.now)) (k.1.membranes _ _ c.at-in-CopyRules.ensures) (asks_as k.0 (g.S.LinkStore.heap c.args.store.now) c.in-CopyRules.is k.2).0

pub copy_rules-requires-clause-n : goal.copy_rules-requires-clause-n
copy_rules-requires-clause-n g c = let k = c.requires.can in subst (IsMem (g.S.LinkStore.heap c.args.store.now)) (k.1.membranes _ _ c.at-in-CopyRules-2.ensures) (asks_as k.0 (g.S.LinkStore.heap c.args.store.now) c.in-CopyRules.is k.2).1

pub copy_rules-requires-clause-differ : goal.copy_rules-requires-clause-differ
copy_rules-requires-clause-differ g c = let k = c.requires.can in both_as (λ (m n : ℕ). m ≢ n) (k.1.membranes _ _ c.at-in-CopyRules.ensures) (k.1.membranes _ _ c.at-in-CopyRules-2.ensures) (asks_as k.0 (g.S.LinkStore.heap c.args.store.now) c.in-CopyRules.is k.2).2

pub copy_rules-requires-clause-spare : goal.copy_rules-requires-clause-spare
copy_rules-requires-clause-spare g c = let k = c.requires.can in both_as (λ (m n : ℕ). length (rules_in (g.S.LinkStore.heap c.args.store.now) m) ≤ spare_of (g.S.LinkStore.heap c.args.store.now) n) (k.1.membranes _ _ c.at-in-CopyRules.ensures) (k.1.membranes _ _ c.at-in-CopyRules-2.ensures) (asks_as k.0 (g.S.LinkStore.heap c.args.store.now) c.in-CopyRules.is k.2).3

pub returns-in-LoadRule : goal.returns-in-LoadRule
returns-in-LoadRule g c = λ r u k. does_as r (g.S.LinkStore.heap c.args.store.now) (g.S.LinkStore.heap c.add_rule.new.self) c.in-LoadRule.is (subst (λ n. g.S.LinkStore.heap c.add_rule.new.self ≡ rule_added (g.S.LinkStore.heap c.args.store.now) n c.in-LoadRule.rule) (sym (u.membranes _ _ c.at-in-LoadRule.ensures)) c.add_rule.ensures)

pub returns-in-CopyRules : goal.returns-in-CopyRules
returns-in-CopyRules g c = λ r u k. does_as r (g.S.LinkStore.heap c.args.store.now) (g.S.LinkStore.heap c.copy_rules.new.self) c.in-CopyRules.is (both_as (λ (m n : ℕ). g.S.LinkStore.heap c.copy_rules.new.self ≡ rules_copied (g.S.LinkStore.heap c.args.store.now) m n) (sym (u.membranes _ _ c.at-in-CopyRules.ensures)) (sym (u.membranes _ _ c.at-in-CopyRules-2.ensures)) c.copy_rules.ensures)

pub returns-in-MoveCells : goal.returns-in-MoveCells
returns-in-MoveCells g c = λ r u k. does_as r (g.S.LinkStore.heap c.args.store.now) (g.S.LinkStore.heap c.move_all.new.self) c.in-MoveCells.is (both_as (λ (m n : ℕ). g.S.LinkStore.heap c.move_all.new.self ≡ moved_all (g.S.LinkStore.heap c.args.store.now) m n) (sym (u.membranes _ _ c.at-in-MoveCells.ensures)) (sym (u.membranes _ _ c.at-in-MoveCells-2.ensures)) c.move_all.ensures)
