use Rattle.std.proofs.Common.{arith}
use Rattle.lmn_machine_commit.proofs.Rousing.{climb_begins, climb_there, climb_marked, climb_goes, climb_ends, too_long}
use Rattle.lmn_machine_commit.proofs.waking.wake_round.Goals as goal

pub loop-step-init : goal.loop-step-init
loop-step-init g c = record { climbing = climb_begins (g.S.LinkStore.heap c.args.store.now) (g.S.LinkStore.mem_id c.args.membrane) c.requires.membrane }

pub set_mem_mark-requires : goal.set_mem_mark-requires
set_mem_mark-requires g c = climb_there (g.S.LinkStore.heap c.args.store.now) (g.S.LinkStore.heap c.loop-step.store) (g.S.LinkStore.mem_id c.args.membrane) c.loop-step.step (g.S.LinkStore.mem_id c.loop-step.at) c.loop-step.invariant.climbing

pub parent-requires : goal.parent-requires
parent-requires g c =
    climb_marked (g.S.LinkStore.heap c.args.store.now) (g.S.LinkStore.heap c.loop-step.store) (g.S.LinkStore.heap c.set_mem_mark.new.self) (g.S.LinkStore.mem_id c.args.membrane) c.loop-step.step (g.S.LinkStore.mem_id c.loop-step.at) c.loop-step.invariant.climbing c.set_mem_mark.ensures

pub loop-step-preserved : goal.loop-step-preserved
loop-step-preserved g c = record {
  climbing = climb_goes (g.S.LinkStore.heap c.args.store.now) (g.S.LinkStore.heap c.loop-step.store) (g.S.LinkStore.heap c.set_mem_mark.new.self) (g.S.LinkStore.mem_id c.args.membrane) c.loop-step.step (g.S.LinkStore.mem_id c.loop-step.at) c.loop-step.invariant.climbing c.set_mem_mark.ensures
      c.root-root.ensures.sound (g.S.LinkStore.mem_id c.in-Some.parent) c.in-Some.ensures;
}

pub returns-in-None : goal.returns-in-None
returns-in-None g c = climb_ends (g.S.LinkStore.heap c.args.store.now) (g.S.LinkStore.heap c.loop-step.store) (g.S.LinkStore.heap c.set_mem_mark.new.self) (g.S.LinkStore.mem_id c.args.membrane) c.loop-step.step (g.S.LinkStore.mem_id c.loop-step.at) c.loop-step.invariant.climbing c.set_mem_mark.ensures c.in-None.ensures

pub returns : goal.returns
returns g c = too_long (g.S.LinkStore.heap c.args.store.now) (g.S.LinkStore.mem_id c.args.membrane) (g.S.LinkStore.mem_id c.loop-step.at) c.loop-step.step (c.requires.deep (g.S.LinkStore.mem_id c.args.membrane) c.requires.membrane)
    (let e = c.loop-step-test.false in omega (arith, e)) c.loop-step.invariant.climbing.climbed
