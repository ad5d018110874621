use Rattle.std.proofs.Common.{arith}
use Rattle.lmn_machine_commit.proofs.Rousing.{climb_begins, climb_there, climb_marked, climb_goes, climb_ends, climb_meets, too_long}
use Rattle.lmn_schedule_sleep.proofs.Marks.{read_alike}
use Rattle.lmn_machine_commit.proofs.waking.wake_up_to.Goals as goal

pub loop-step-init : goal.loop-step-init
loop-step-init g c = record { climbing = climb_begins (g.S.LinkStore.heap c.args.store.now) (g.S.LinkStore.mem_id c.args.membrane) c.requires.membrane }

pub set_mem_mark-requires : goal.set_mem_mark-requires
set_mem_mark-requires g c = climb_there (g.S.LinkStore.heap c.args.store.now) (g.S.LinkStore.heap c.loop-step.store) (g.S.LinkStore.mem_id c.args.membrane) c.loop-step.step (g.S.LinkStore.mem_id c.loop-step.at) c.loop-step.invariant.climbing

pub parent-requires : goal.parent-requires
parent-requires g c =
    climb_marked (g.S.LinkStore.heap c.args.store.now) (g.S.LinkStore.heap c.loop-step.store) (g.S.LinkStore.heap c.set_mem_mark.new.self) (g.S.LinkStore.mem_id c.args.membrane) c.loop-step.step (g.S.LinkStore.mem_id c.loop-step.at) c.loop-step.invariant.climbing c.set_mem_mark.ensures

pub loop-step-preserved : goal.loop-step-preserved
loop-step-preserved g c = record {
  climbing = climb_goes (g.S.LinkStore.heap c.args.store.now) (g.S.LinkStore.heap c.loop-step.store) (g.S.LinkStore.heap c.set_mem_mark.new.self) (g.S.LinkStore.mem_id c.args.membrane) c.loop-step.step (g.S.LinkStore.mem_id c.loop-step.at) c.loop-step.invariant.climbing c.set_mem_mark.ensures
      c.root-root.ensures.sound (g.S.LinkStore.mem_id c.in-Some.parent) c.in-Some.ensures;
}

pub returns-in-None : goal.returns-in-None
returns-in-None g c = climb_ends (g.S.LinkStore.heap c.args.store.now) (g.S.LinkStore.heap c.loop-step.store) (g.S.LinkStore.heap c.set_mem_mark.new.self) (g.S.LinkStore.mem_id c.args.membrane) c.loop-step.step (g.S.LinkStore.mem_id c.loop-step.at) c.loop-step.invariant.climbing c.set_mem_mark.ensures c.in-None.ensures

pub returns : goal.returns
returns g c = too_long (g.S.LinkStore.heap c.args.store.now) (g.S.LinkStore.mem_id c.args.membrane) (g.S.LinkStore.mem_id c.loop-step.at) c.loop-step.step (c.requires.deep (g.S.LinkStore.mem_id c.args.membrane) c.requires.membrane)
    (let e = c.loop-step-test.false in omega (arith, e)) c.loop-step.invariant.climbing.climbed

pub same_mem-requires-clause-m : goal.same_mem-requires-clause-m
same_mem-requires-clause-m g c = climb_there (g.S.LinkStore.heap c.args.store.now) (g.S.LinkStore.heap c.loop-step.store) (g.S.LinkStore.mem_id c.args.membrane) c.loop-step.step (g.S.LinkStore.mem_id c.loop-step.at) c.loop-step.invariant.climbing

pub same_mem-requires-clause-n : goal.same_mem-requires-clause-n
same_mem-requires-clause-n g c = (read_alike (g.S.LinkStore.heap c.args.store.now) (g.S.LinkStore.heap c.loop-step.store) c.loop-step.invariant.climbing.alike).stays (g.S.LinkStore.mem_id c.args.top) c.requires.top

pub returns-then-same_mem : goal.returns-then-same_mem
returns-then-same_mem g c = climb_meets (g.S.LinkStore.heap c.args.store.now) (g.S.LinkStore.heap c.loop-step.store) (g.S.LinkStore.mem_id c.args.membrane) c.loop-step.step (g.S.LinkStore.mem_id c.loop-step.at) (g.S.LinkStore.mem_id c.args.top) c.loop-step.invariant.climbing (c.same_mem.ensures.0 c.if-same_mem.true) c.requires.awake
