use Rattle.std.proofs.Common.{◌+◌, take, drop, subst, sym, ap, length, ◌∷◌, inl, arith}
use Rattle.lmn_machine_commit.specs.Preparing.{Prepared, BodyInOrder}
use Rattle.lmn_store_heap.specs.Heap.{rules_in}
use Rattle.lmn_machine_commit.proofs.Codes.{take_get}
use Rattle.lmn_machine_commit.proofs.Counting.{none_needed}
use Rattle.lmn_machine_commit.proofs.Making.{prepared_nothing, prepared_more, in_order_next, still_copies}
use Rattle.lmn_machine_commit.proofs.Waiting.{makes_on}
use Rattle.lmn_machine_commit.proofs.Skipping.{pass_to}
use Rattle.lmn_machine_commit.proofs.Rouses.{take_all}
use Rattle.lmn_machine_commit.proofs.Later.{IsApart, apart_more, still_at_home, still_copied_rests, still_holds}
use Rattle.lmn_machine_commit.proofs.Rules.{itself}
use Rattle.lmn_machine_commit.proofs.preparing.make_all.Goals as goal
use Rattle.lmn_base.proofs.Lists.{drop_get}

pub make_next-requires-clause-reads : goal.make_next-requires-clause-reads
make_next-requires-clause-reads g c =
    let ahead = drop_get c.loop-i.i c.args.code.now c.at-instr.result.now c.at-instr.ensures in
    (subst (λ is. BodyInOrder (length c.loop-i.set.atoms) (length c.loop-i.set.membranes) (length c.loop-i.set.parts) (length c.loop-i.set.integers) (length c.loop-i.set.copies) is) ahead c.loop-i.invariant.order).0

pub at-instr-requires : goal.at-instr-requires
at-instr-requires g c =
    let before = c.loop-i-test.true in
    let few = c.last_made-last.ensures.within in
    omega (arith, before, few)

pub loop-i-init : goal.loop-i-init
loop-i-init g c =
    let h = g.S.LinkStore.heap c.args.store.now in
    let apart : IsApart g.S.LinkStore.atom_id g.S.LinkStore.mem_id h c.args.set.now c.args.set.now = record { atoms = λ j a e. inl e; membranes = λ j m e. inl e } in
    let begun = pass_to g.S.LinkStore.atom_id g.S.LinkStore.mem_id h h c.requires.valid c.args.set.now c.args.set.now apart c.requires.can.parts c.requires.can.held c.args.code.now c.requires.can.rests 0 c.first_made-first.result
    (omega arith) c.first_made-first.ensures.within (λ j x a b e m. c.first_made-first.ensures.none j x b e m) (
      prepared_nothing g.S.LinkStore.atom_id g.S.LinkStore.mem_id h c.args.set.now c.requires.can.copies c.requires.can.held,
      subst (λ n. BodyInOrder (length c.args.set.now.atoms) (length c.args.set.now.membranes) (length c.args.set.now.parts) (length c.args.set.now.integers) n c.args.code.now) (sym (ap length c.requires.can.copies)) c.requires.can.order,
    ) in
    record {
      done = begun.0;
      apart = apart;
      order = begun.1;
      within = c.first_made-first.ensures.within;
      counted = λ r m u e. sym (none_needed r (rules_in h) c.args.code.now c.first_made-first.result (g.S.LinkStore.mem_id m) c.first_made-first.ensures.none);
    }

pub make_next-requires-clause-at : goal.make_next-requires-clause-at
make_next-requires-clause-at g c = c.at-instr.ensures

pub make_next-requires-clause-unmarked : goal.make_next-requires-clause-unmarked
make_next-requires-clause-unmarked g c = c.loop-i.invariant.done.makes.unmarked c.requires.unmarked

pub make_next-requires-clause-parts : goal.make_next-requires-clause-parts
make_next-requires-clause-parts g c = still_copies g.S.LinkStore.atom_id g.S.LinkStore.mem_id (g.S.LinkStore.heap c.args.store.now) (g.S.LinkStore.heap c.loop-i.store) c.args.set.now c.loop-i.set (take c.loop-i.i c.args.code.now)
    c.requires.valid.sound.paired c.loop-i.invariant.done c.requires.can.parts

pub make_next-requires-clause-homes : goal.make_next-requires-clause-homes
make_next-requires-clause-homes g c = still_at_home g.S.LinkStore.atom_id g.S.LinkStore.mem_id (g.S.LinkStore.heap c.args.store.now) (g.S.LinkStore.heap c.loop-i.store) c.requires.valid c.loop-i.invariant.done.makes (c.loop-i.invariant.done.makes.rest (g.S.LinkStore.heap c.args.store.now) (itself (g.S.LinkStore.heap c.args.store.now) c.requires.valid).1) c.args.set.now c.loop-i.set c.loop-i.invariant.done.grows c.loop-i.invariant.apart c.requires.can.parts c.requires.can.homes

pub make_next-requires-clause-rest : goal.make_next-requires-clause-rest
make_next-requires-clause-rest g c = still_copied_rests g.S.LinkStore.atom_id g.S.LinkStore.mem_id (g.S.LinkStore.heap c.args.store.now) (g.S.LinkStore.heap c.loop-i.store) c.requires.valid c.loop-i.invariant.done.makes (c.loop-i.invariant.done.makes.rest (g.S.LinkStore.heap c.args.store.now) (itself (g.S.LinkStore.heap c.args.store.now) c.requires.valid).1) c.args.set.now c.loop-i.set c.loop-i.invariant.done.grows c.loop-i.invariant.apart c.requires.can.parts c.requires.can.held c.args.code.now c.loop-i.i c.at-instr.result.now c.at-instr.ensures c.requires.can.rests

pub returns-in_err-make_next-clause-makes : goal.returns-in_err-make_next-clause-makes
returns-in_err-make_next-clause-makes g c = makes_on (g.S.LinkStore.heap c.args.store.now) (g.S.LinkStore.heap c.loop-i.store) (g.S.LinkStore.heap c.make_next.new.store) c.loop-i.invariant.done.makes c.make_next.ensures.makes

pub loop-i-preserved : goal.loop-i-preserved
loop-i-preserved g c =
    let here = c.at-instr.ensures in
    let ahead = drop_get c.loop-i.i c.args.code.now c.at-instr.result.now here in
    let order : BodyInOrder (length c.loop-i.set.atoms) (length c.loop-i.set.membranes) (length c.loop-i.set.parts) (length c.loop-i.set.integers) (length c.loop-i.set.copies) (c.at-instr.result.now ∷ drop (c.loop-i.i + 1) c.args.code.now) =
    subst (λ is. BodyInOrder (length c.loop-i.set.atoms) (length c.loop-i.set.membranes) (length c.loop-i.set.parts) (length c.loop-i.set.integers) (length c.loop-i.set.copies) is) ahead c.loop-i.invariant.order in
    let made = c.in_ok-make_next.ensures.ok in
    record {
      done = subst (λ is. Prepared g.S.LinkStore.atom_id g.S.LinkStore.mem_id (g.S.LinkStore.heap c.args.store.now) (g.S.LinkStore.heap c.make_next.new.store) c.args.set.now c.make_next.new.set is) (sym (take_get c.loop-i.i c.args.code.now c.at-instr.result.now here))
          (prepared_more g.S.LinkStore.atom_id g.S.LinkStore.mem_id (g.S.LinkStore.heap c.args.store.now) (g.S.LinkStore.heap c.loop-i.store) (g.S.LinkStore.heap c.make_next.new.store) c.args.set.now c.loop-i.set c.make_next.new.set (take c.loop-i.i c.args.code.now) c.at-instr.result.now (length c.loop-i.set.integers)
          c.loop-i.invariant.done made c.make_next.ensures.makes
          (still_holds g.S.LinkStore.atom_id g.S.LinkStore.mem_id (g.S.LinkStore.heap c.args.store.now) (g.S.LinkStore.heap c.loop-i.store) c.requires.valid c.loop-i.invariant.done.makes (c.loop-i.invariant.done.makes.rest (g.S.LinkStore.heap c.args.store.now) (itself (g.S.LinkStore.heap c.args.store.now) c.requires.valid).1) c.args.set.now c.loop-i.set c.loop-i.invariant.done.grows c.loop-i.invariant.apart c.requires.can.parts c.requires.can.held c.args.code.now c.loop-i.i c.at-instr.result.now here c.requires.can.rests) order.0);
      apart = apart_more g.S.LinkStore.atom_id g.S.LinkStore.mem_id (g.S.LinkStore.heap c.args.store.now) (g.S.LinkStore.heap c.loop-i.store) c.requires.valid c.loop-i.invariant.done.makes (c.loop-i.invariant.done.makes.rest (g.S.LinkStore.heap c.args.store.now) (itself (g.S.LinkStore.heap c.args.store.now) c.requires.valid).1) c.args.set.now c.loop-i.set c.loop-i.invariant.done.grows c.loop-i.invariant.apart c.requires.can.parts c.make_next.new.set made.new_atoms made.new_membranes;
      order = in_order_next g.S.LinkStore.atom_id g.S.LinkStore.mem_id c.loop-i.set c.make_next.new.set c.at-instr.result.now (drop (c.loop-i.i + 1) c.args.code.now) made.atoms made.membranes made.grows.parts made.grows.integers made.copies order;
      within = (let before = c.loop-i-test.true in let few = c.last_made-last.ensures.within in omega (arith, before, few));
      counted = c.in_ok-make_next.ensures.counted;
    }

pub returns-clause-ok : goal.returns-clause-ok
returns-clause-ok g c =
    let past = c.loop-i-test.false in
    let code = c.args.code.now in
    let h = g.S.LinkStore.heap c.args.store.now in
    let all = pass_to g.S.LinkStore.atom_id g.S.LinkStore.mem_id h (g.S.LinkStore.heap c.loop-i.store) c.requires.valid c.args.set.now c.loop-i.set c.loop-i.invariant.apart c.requires.can.parts c.requires.can.held code c.requires.can.rests c.loop-i.i (length code)
    c.loop-i.invariant.within (omega arith) (λ j x a b e m. c.last_made-last.ensures.none j x (omega (arith, past, a)) e m) (c.loop-i.invariant.done, c.loop-i.invariant.order) in
    subst (λ is. Prepared g.S.LinkStore.atom_id g.S.LinkStore.mem_id h (g.S.LinkStore.heap c.loop-i.store) c.args.set.now c.loop-i.set is) (take_all code (length code) (omega arith)) all.0
