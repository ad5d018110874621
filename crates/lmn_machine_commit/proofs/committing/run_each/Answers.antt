use Rattle.std.proofs.Common.{length, subst}
use Rattle.lmn_machine_commit.specs.Preparing.{AllUse}
use Rattle.lmn_machine_commit.proofs.Doing.{done_more, can_now}
use Rattle.lmn_machine_commit.proofs.Marks.{does_unmarked}
use Rattle.lmn_machine_commit.proofs.committing.run_each.Goals as goal

pub run-requires-clause-uses : goal.run-requires-clause-uses
run-requires-clause-uses g c = (subst (AllUse (length c.args.set.now.atoms) (length c.args.set.now.membranes) (length c.args.set.now.parts) (length c.args.set.now.copies)) c.in-Some.ensures.cases.0 c.loop-instr.invariant.uses).0

pub run-requires-clause-can : goal.run-requires-clause-can
run-requires-clause-can g c = can_now g.S.LinkStore.atom_id g.S.LinkStore.mem_id c.args.set.now c.args.code.now c.loop-instr.rest.now c.in-Some.behind.now c.in-Some.instr.now (g.S.LinkStore.heap c.args.store.now) (g.S.LinkStore.heap c.loop-instr.store) c.in-Some.ensures.cases.0 c.loop-instr.invariant.done c.requires.runs

pub loop-instr-preserved : goal.loop-instr-preserved
loop-instr-preserved g c =
    let can = can_now g.S.LinkStore.atom_id g.S.LinkStore.mem_id c.args.set.now c.args.code.now c.loop-instr.rest.now c.in-Some.behind.now c.in-Some.instr.now (g.S.LinkStore.heap c.args.store.now) (g.S.LinkStore.heap c.loop-instr.store) c.in-Some.ensures.cases.0 c.loop-instr.invariant.done c.requires.runs in
    record {
      unmarked = does_unmarked can.0 c.in-Some.instr.now (g.S.LinkStore.heap c.loop-instr.store) (g.S.LinkStore.heap c.run.new.store) (c.run.ensures can.0 can.1 can.2) c.loop-instr.invariant.unmarked;
      uses = (subst (AllUse (length c.args.set.now.atoms) (length c.args.set.now.membranes) (length c.args.set.now.parts) (length c.args.set.now.copies)) c.in-Some.ensures.cases.0 c.loop-instr.invariant.uses).1;
      done = done_more g.S.LinkStore.atom_id g.S.LinkStore.mem_id c.args.set.now c.args.code.now c.loop-instr.rest.now c.in-Some.behind.now c.in-Some.instr.now (g.S.LinkStore.heap c.args.store.now) (g.S.LinkStore.heap c.loop-instr.store) (g.S.LinkStore.heap c.run.new.store) c.in-Some.ensures.cases.0
          c.loop-instr.invariant.done c.run.ensures;
    }
