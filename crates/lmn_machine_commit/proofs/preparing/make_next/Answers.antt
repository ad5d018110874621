use Rattle.std.proofs.Common.{◌+◌, take, length, ap, w64, sym, subst}
use Rattle.std.proofs.lemmas.Result.{on_ok_weaker}
use Rattle.std.proofs.lemmas.Int.{to_z-of_z}
use Rattle.lmn_solid_bodies.specs.Running.{integer_functor}
use Rattle.lmn_machine_commit.specs.Preparing.{KeepsCount}
use Rattle.lmn_machine_commit.proofs.Codes.{take_get}
use Rattle.lmn_machine_commit.proofs.Counting.{counted_kept}
use Rattle.lmn_machine_commit.proofs.Making.{new_atom_made, new_int_made}
use Rattle.lmn_machine_commit.proofs.preparing.make_next.Goals as goal

pub returns-in-NewAtom-clause-ok : goal.returns-in-NewAtom-clause-ok
returns-in-NewAtom-clause-ok g c = on_ok_weaker c.make_atom.result
    (λ made. new_atom_made g.S.LinkStore.atom_id g.S.LinkStore.mem_id (g.S.LinkStore.heap c.args.store.now) (g.S.LinkStore.heap c.make_atom.new.store) c.args.set.now c.make_atom.new.set (take c.args.at c.args.code.now) c.args.instr.now c.in-NewAtom.functor
    c.requires.held made c.in-NewAtom.atom c.in-NewAtom.membrane c.in-NewAtom.is (length c.args.set.now.integers) (length c.args.set.now.copies) c.requires.reads) c.make_atom.ensures.ok

pub returns-in-NewAtom-clause-counted : goal.returns-in-NewAtom-clause-counted
returns-in-NewAtom-clause-counted g c = on_ok_weaker c.make_atom.result
    (λ made. counted_kept g.S.LinkStore.atom_id g.S.LinkStore.mem_id (g.S.LinkStore.heap c.args.store.now) (g.S.LinkStore.heap c.make_atom.new.store) c.args.set.now c.make_atom.new.set (take c.args.at c.args.code.now) c.args.instr.now (length c.args.set.now.integers) c.args.counted.now.register c.args.counted.now.count
    (subst KeepsCount (sym c.in-NewAtom.is) tt) (new_atom_made g.S.LinkStore.atom_id g.S.LinkStore.mem_id (g.S.LinkStore.heap c.args.store.now) (g.S.LinkStore.heap c.make_atom.new.store) c.args.set.now c.make_atom.new.set (take c.args.at c.args.code.now) c.args.instr.now c.in-NewAtom.functor
    c.requires.held made c.in-NewAtom.atom c.in-NewAtom.membrane c.in-NewAtom.is (length c.args.set.now.integers) (length c.args.set.now.copies) c.requires.reads) c.requires.held c.requires.uses c.requires.reads (take (c.args.at + 1) c.args.code.now) (take_get c.args.at c.args.code.now c.args.instr.now c.requires.at) c.requires.counted) c.make_atom.ensures.ok

pub returns-in-NewInt-clause-ok : goal.returns-in-NewInt-clause-ok
returns-in-NewInt-clause-ok g c = on_ok_weaker c.make_atom-in-NewInt.result
    (λ made. new_int_made g.S.LinkStore.atom_id g.S.LinkStore.mem_id (g.S.LinkStore.heap c.args.store.now) (g.S.LinkStore.heap c.make_atom-in-NewInt.new.store) c.args.set.now c.make_atom-in-NewInt.new.set (take c.args.at c.args.code.now) c.args.instr.now _
    c.requires.held made c.in-NewInt.atom c.in-NewInt.membrane c.in-NewInt.integer c.at.result c.in-NewInt.is (ap integer_functor (to_z-of_z w64 c.at.result (record { sfits = c.at.type_inv }))) c.at.ensures (length c.args.set.now.integers) (length c.args.set.now.copies) c.requires.reads) c.make_atom-in-NewInt.ensures.ok

pub returns-in-NewInt-clause-counted : goal.returns-in-NewInt-clause-counted
returns-in-NewInt-clause-counted g c = on_ok_weaker c.make_atom-in-NewInt.result
    (λ made. counted_kept g.S.LinkStore.atom_id g.S.LinkStore.mem_id (g.S.LinkStore.heap c.args.store.now) (g.S.LinkStore.heap c.make_atom-in-NewInt.new.store) c.args.set.now c.make_atom-in-NewInt.new.set (take c.args.at c.args.code.now) c.args.instr.now (length c.args.set.now.integers) c.args.counted.now.register c.args.counted.now.count
    (subst KeepsCount (sym c.in-NewInt.is) tt) (new_int_made g.S.LinkStore.atom_id g.S.LinkStore.mem_id (g.S.LinkStore.heap c.args.store.now) (g.S.LinkStore.heap c.make_atom-in-NewInt.new.store) c.args.set.now c.make_atom-in-NewInt.new.set (take c.args.at c.args.code.now) c.args.instr.now _
    c.requires.held made c.in-NewInt.atom c.in-NewInt.membrane c.in-NewInt.integer c.at.result c.in-NewInt.is (ap integer_functor (to_z-of_z w64 c.at.result (record { sfits = c.at.type_inv }))) c.at.ensures (length c.args.set.now.integers) (length c.args.set.now.copies) c.requires.reads) c.requires.held c.requires.uses c.requires.reads (take (c.args.at + 1) c.args.code.now) (take_get c.args.at c.args.code.now c.args.instr.now c.requires.at) c.requires.counted) c.make_atom-in-NewInt.ensures.ok

pub returns-in-NewInt-clause-makes : goal.returns-in-NewInt-clause-makes
returns-in-NewInt-clause-makes g c = c.make_atom-in-NewInt.ensures.makes
