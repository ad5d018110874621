use Rattle.std.proofs.Common.{length, subst, sym}
use Rattle.lmn_machine_commit.specs.Committing.{IsDoneSoFar}
use Rattle.lmn_store_heap.specs.Heap.{Unmarked}
use Rattle.lmn_machine_commit.specs.Preparing.{AllUse}
use Rattle.lmn_machine_commit.proofs.Doing.{done_more, can_now}
use Rattle.lmn_machine_commit.proofs.Marks.{does_unmarked}
use Rattle.lmn_machine_commit.proofs.committing.take_first.Goals as goal

pub take_next-requires-clause-uses : goal.take_next-requires-clause-uses
take_next-requires-clause-uses g c = (subst (AllUse (length c.args.set.now.atoms) (length c.args.set.now.membranes) (length c.args.set.now.parts) (length c.args.set.now.copies)) c.in-Some.ensures.cases.0 c.loop-instr.invariant.uses).0

pub take_next-requires-clause-can : goal.take_next-requires-clause-can
take_next-requires-clause-can g c = can_now g.S.LinkStore.atom_id g.S.LinkStore.mem_id c.args.set.now c.args.code.now c.loop-instr.rest.now c.in-Some.behind.now c.in-Some.instr.now (g.S.LinkStore.heap c.args.store.now) (g.S.LinkStore.heap c.loop-instr.store) c.in-Some.ensures.cases.0 c.loop-instr.invariant.done c.requires.runs

pub loop-instr-preserved : goal.loop-instr-preserved
loop-instr-preserved g c =
    let can = can_now g.S.LinkStore.atom_id g.S.LinkStore.mem_id c.args.set.now c.args.code.now c.loop-instr.rest.now c.in-Some.behind.now c.in-Some.instr.now (g.S.LinkStore.heap c.args.store.now) (g.S.LinkStore.heap c.loop-instr.store) c.in-Some.ensures.cases.0 c.loop-instr.invariant.done c.requires.runs in
    let does = c.take_next.ensures.does c.if-not-take_next.false in
    record {
      unmarked = does_unmarked can.0 c.in-Some.instr.now (g.S.LinkStore.heap c.loop-instr.store) (g.S.LinkStore.heap c.take_next.new.store) (does can.0 can.1 can.2) c.loop-instr.invariant.unmarked;
      uses = (subst (AllUse (length c.args.set.now.atoms) (length c.args.set.now.membranes) (length c.args.set.now.parts) (length c.args.set.now.copies)) c.in-Some.ensures.cases.0 c.loop-instr.invariant.uses).1;
      done = done_more g.S.LinkStore.atom_id g.S.LinkStore.mem_id c.args.set.now c.args.code.now c.loop-instr.rest.now c.in-Some.behind.now c.in-Some.instr.now (g.S.LinkStore.heap c.args.store.now) (g.S.LinkStore.heap c.loop-instr.store) (g.S.LinkStore.heap c.take_next.new.store) c.in-Some.ensures.cases.0
          c.loop-instr.invariant.done does;
      listed = c.take_next.ensures.listed;
    }

pub returns-then-not-take_next-clause-done : goal.returns-then-not-take_next-clause-done
returns-then-not-take_next-clause-done g c =
    subst (IsDoneSoFar g.S.LinkStore.atom_id g.S.LinkStore.mem_id c.args.set.now c.args.code.now c.loop-instr.rest.now (g.S.LinkStore.heap c.args.store.now)) (sym (c.take_next.ensures.other c.if-not-take_next.true)) c.loop-instr.invariant.done

pub returns-then-not-take_next-clause-unmarked : goal.returns-then-not-take_next-clause-unmarked
returns-then-not-take_next-clause-unmarked g c = subst Unmarked (sym (c.take_next.ensures.other c.if-not-take_next.true)) c.loop-instr.invariant.unmarked
