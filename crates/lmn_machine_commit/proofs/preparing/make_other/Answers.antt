use Rattle.std.proofs.Common.{◌≡◌, ◌+◌, take, Some, length, refl, sym, subst, arith, ◌∙◌}
use Rattle.lmn_machine_commit.specs.Preparing.{AddsSo, HasClosedRest, KeepsCount, atoms_made}
use Rattle.lmn_machine_commit.proofs.Codes.{take_get}
use Rattle.lmn_machine_commit.proofs.Counting.{counted_kept, counted_new, keeps_count}
use Rattle.lmn_machine_commit.proofs.Making.{copy_made, new_mem_made, nothing_made, rest_made}
use Rattle.lmn_machine_commit.proofs.Waiting.{makes_nothing}
use Rattle.lmn_machine_commit.proofs.preparing.make_other.Goals as goal

pub make_room-requires-clause-to : goal.make_room-requires-clause-to
make_room-requires-clause-to g c = subst (λ i. AddsSo i (Some c.in-LoadRule.membrane)) (sym c.in-LoadRule.is) refl

pub make_room-requires-in-CopyRules-clause-to : goal.make_room-requires-in-CopyRules-clause-to
make_room-requires-in-CopyRules-clause-to g c = subst (λ i. AddsSo i (Some c.in-CopyRules.to)) (sym c.in-CopyRules.is) refl

pub returns-in_ok-make_membrane-in-NewMem-clause-ok : goal.returns-in_ok-make_membrane-in-NewMem-clause-ok
returns-in_ok-make_membrane-in-NewMem-clause-ok g c =
    new_mem_made g.S.LinkStore.atom_id g.S.LinkStore.mem_id (g.S.LinkStore.heap c.args.store.now) (g.S.LinkStore.heap c.make_membrane.new.store) c.args.set.now c.make_membrane.new.set (take c.args.at c.args.code.now) c.args.instr.now
    c.requires.held c.in_ok-make_membrane-in-NewMem.ensures.ok c.in-NewMem.membrane c.in-NewMem.inside c.in-NewMem.is (length c.args.set.now.integers) (length c.args.set.now.copies) c.requires.reads

pub returns-in_ok-make_membrane-in-NewMem-clause-counted : goal.returns-in_ok-make_membrane-in-NewMem-clause-counted
returns-in_ok-make_membrane-in-NewMem-clause-counted g c =
    let made = new_mem_made g.S.LinkStore.atom_id g.S.LinkStore.mem_id (g.S.LinkStore.heap c.args.store.now) (g.S.LinkStore.heap c.make_membrane.new.store) c.args.set.now c.make_membrane.new.set (take c.args.at c.args.code.now) c.args.instr.now
    c.requires.held c.in_ok-make_membrane-in-NewMem.ensures.ok c.in-NewMem.membrane c.in-NewMem.inside c.in-NewMem.is (length c.args.set.now.integers) (length c.args.set.now.copies) c.requires.reads in
    counted_new g.S.LinkStore.atom_id g.S.LinkStore.mem_id (g.S.LinkStore.heap c.args.store.now) (g.S.LinkStore.heap c.make_membrane.new.store) c.args.set.now c.make_membrane.new.set (take c.args.at c.args.code.now) c.args.instr.now c.in-NewMem.membrane c.in-NewMem.inside (length c.args.set.now.integers) c.args.counted.now.register c.args.counted.now.count
    c.in-NewMem.is made c.requires.held c.requires.uses c.requires.reads (take (c.args.at + 1) c.args.code.now) (take_get c.args.at c.args.code.now c.args.instr.now c.requires.at) c.requires.counted

pub make_copy-requires-clause-part : goal.make_copy-requires-clause-part
make_copy-requires-clause-part g c = c.requires.parts c.in-CopyGround.part c.at-root.result c.at-root.ensures

pub returns-in_ok-make_copy-in-CopyGround-clause-ok : goal.returns-in_ok-make_copy-in-CopyGround-clause-ok
returns-in_ok-make_copy-in-CopyGround-clause-ok g c =
    copy_made g.S.LinkStore.atom_id g.S.LinkStore.mem_id (g.S.LinkStore.heap c.args.store.now) (g.S.LinkStore.heap c.make_copy.new.store) c.args.set.now c.make_copy.new.set (take c.args.at c.args.code.now) c.args.instr.now
    c.in-CopyGround.copy c.in-CopyGround.membrane c.in-CopyGround.part c.at-root.result c.requires.held c.in-CopyGround.is c.at-root.ensures c.in_ok-make_copy-in-CopyGround.ensures.ok c.in_ok-make_copy-in-CopyGround.ensures.listed (length c.args.set.now.integers) (length c.args.set.now.copies) refl c.requires.reads

pub returns-in_ok-make_copy-in-CopyGround-clause-counted : goal.returns-in_ok-make_copy-in-CopyGround-clause-counted
returns-in_ok-make_copy-in-CopyGround-clause-counted g c =
    let made = copy_made g.S.LinkStore.atom_id g.S.LinkStore.mem_id (g.S.LinkStore.heap c.args.store.now) (g.S.LinkStore.heap c.make_copy.new.store) c.args.set.now c.make_copy.new.set (take c.args.at c.args.code.now) c.args.instr.now
    c.in-CopyGround.copy c.in-CopyGround.membrane c.in-CopyGround.part c.at-root.result c.requires.held c.in-CopyGround.is c.at-root.ensures c.in_ok-make_copy-in-CopyGround.ensures.ok c.in_ok-make_copy-in-CopyGround.ensures.listed (length c.args.set.now.integers) (length c.args.set.now.copies) refl c.requires.reads in
    counted_kept g.S.LinkStore.atom_id g.S.LinkStore.mem_id (g.S.LinkStore.heap c.args.store.now) (g.S.LinkStore.heap c.make_copy.new.store) c.args.set.now c.make_copy.new.set (take c.args.at c.args.code.now) c.args.instr.now (length c.args.set.now.integers) c.args.counted.now.register c.args.counted.now.count
    (subst KeepsCount (sym c.in-CopyGround.is) tt) made c.requires.held c.requires.uses c.requires.reads
    (take (c.args.at + 1) c.args.code.now) (take_get c.args.at c.args.code.now c.args.instr.now c.requires.at) c.requires.counted

pub make_copy-requires-clause-listed : goal.make_copy-requires-clause-listed
make_copy-requires-clause-listed g c = c.requires.held.listed

pub copy_rest-requires-clause-membrane : goal.copy_rest-requires-clause-membrane
copy_rest-requires-clause-membrane g c = c.requires.held.membranes c.in-CopyCells.from c.at-from.result c.at-from.ensures

pub copy_rest-requires-clause-closed : goal.copy_rest-requires-clause-closed
copy_rest-requires-clause-closed g c =
    let r = c.requires.rest c.in-CopyCells.from c.in-CopyCells.to c.in-CopyCells.is in
    let same : Some r.0 ≡ Some c.at-from.result = sym r.1 ∙ c.at-from.ensures in
    let one : r.0 ≡ c.at-from.result = cc in
    subst (λ x. HasClosedRest g.S.LinkStore.atom_id g.S.LinkStore.mem_id (g.S.LinkStore.heap c.args.store.now) c.args.set.now (g.S.LinkStore.mem_id x)) one r.2

pub returns-in_ok-copy_rest-in-CopyCells-clause-ok : goal.returns-in_ok-copy_rest-in-CopyCells-clause-ok
returns-in_ok-copy_rest-in-CopyCells-clause-ok g c =
    rest_made g.S.LinkStore.atom_id g.S.LinkStore.mem_id (g.S.LinkStore.heap c.args.store.now) (g.S.LinkStore.heap c.copy_rest.new.store) c.args.set.now (take c.args.at c.args.code.now) c.args.instr.now
    c.in-CopyCells.from c.in-CopyCells.to c.at-from.result c.requires.held c.copy_rest.ensures.makes c.in-CopyCells.is c.at-from.ensures c.in_ok-copy_rest-in-CopyCells.ensures.ok

pub returns-in_ok-copy_rest-in-CopyCells-clause-counted : goal.returns-in_ok-copy_rest-in-CopyCells-clause-counted
returns-in_ok-copy_rest-in-CopyCells-clause-counted g c =
    let made = rest_made g.S.LinkStore.atom_id g.S.LinkStore.mem_id (g.S.LinkStore.heap c.args.store.now) (g.S.LinkStore.heap c.copy_rest.new.store) c.args.set.now (take c.args.at c.args.code.now) c.args.instr.now
    c.in-CopyCells.from c.in-CopyCells.to c.at-from.result c.requires.held c.copy_rest.ensures.makes c.in-CopyCells.is c.at-from.ensures c.in_ok-copy_rest-in-CopyCells.ensures.ok in
    counted_kept g.S.LinkStore.atom_id g.S.LinkStore.mem_id (g.S.LinkStore.heap c.args.store.now) (g.S.LinkStore.heap c.copy_rest.new.store) c.args.set.now c.args.set.now (take c.args.at c.args.code.now) c.args.instr.now (length c.args.set.now.integers) c.args.counted.now.register c.args.counted.now.count
    (subst KeepsCount (sym c.in-CopyCells.is) tt) made c.requires.held c.requires.uses c.requires.reads (take (c.args.at + 1) c.args.code.now) (take_get c.args.at c.args.code.now c.args.instr.now c.requires.at) c.requires.counted

pub returns-in_default : goal.returns-in_default
returns-in_default g c =
    let none = nothing_made g.S.LinkStore.atom_id g.S.LinkStore.mem_id (g.S.LinkStore.heap c.args.store.now) c.args.set.now (take c.args.at c.args.code.now) c.args.instr.now c.requires.held (length c.args.set.now.integers) (length c.args.set.now.copies) c.requires.reads (record {
      no_atom = λ x y f e. (let one : 1 ≡ 0 = subst (λ i. atoms_made i ≡ 0) e c.requires.other in absurd (omega (arith, one)));
      no_integer = λ x y z e. (let one : 1 ≡ 0 = subst (λ i. atoms_made i ≡ 0) e c.requires.other in absurd (omega (arith, one)));
      no_mem = c.in_default.not-NewMem;
      no_copy = c.in_default.not-CopyGround;
      no_rule = c.in_default.not-LoadRule;
      no_rules = c.in_default.not-CopyRules;
      no_rest = c.in_default.not-CopyCells;
    }) in
    record {
      ok = none;
      counted = counted_kept g.S.LinkStore.atom_id g.S.LinkStore.mem_id (g.S.LinkStore.heap c.args.store.now) (g.S.LinkStore.heap c.args.store.now) c.args.set.now c.args.set.now (take c.args.at c.args.code.now) c.args.instr.now (length c.args.set.now.integers) c.args.counted.now.register c.args.counted.now.count
          (keeps_count c.args.instr.now c.in_default.not-NewMem c.in_default.not-LoadRule c.in_default.not-CopyRules) none c.requires.held c.requires.uses c.requires.reads (take (c.args.at + 1) c.args.code.now) (take_get c.args.at c.args.code.now c.args.instr.now c.requires.at) c.requires.counted;
      makes = makes_nothing (g.S.LinkStore.heap c.args.store.now);
    }
