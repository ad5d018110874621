use Rattle.std.proofs.Common.{arith, refl}
use Rattle.lmn_schedule_sleep.proofs.Marks.{read_alike}
use Rattle.lmn_machine_commit.proofs.Codes.{used_at}
use Rattle.lmn_machine_commit.proofs.Rousing.{deep_alike, awake_still, awake_now, marks_on}
use Rattle.lmn_machine_commit.proofs.Rouses.{roused_first, roused_more, roused_front, held_alike}
use Rattle.lmn_machine_commit.proofs.Making.{some_agree}
use Rattle.lmn_machine_commit.proofs.Only.{only_wakes}
use Rattle.lmn_machine_commit.proofs.waking.wake.Goals as goal

pub loop-i-init : goal.loop-i-init
loop-i-init g c = record {
  so = roused_first g.S.LinkStore.atom_id g.S.LinkStore.mem_id c.args.set.now (g.S.LinkStore.heap c.args.store.now) (g.S.LinkStore.heap c.wake_round.new.store) c.at-top.result c.at-top.ensures c.wake_round.ensures;
  alike = c.wake_round.ensures.alike;
  awake = awake_now _ (g.S.LinkStore.heap c.args.store.now) (g.S.LinkStore.heap c.wake_round.new.store) (g.S.LinkStore.mem_id c.at-top.result) c.wake_round.ensures refl;
  near = (read_alike (g.S.LinkStore.heap c.args.store.now) (g.S.LinkStore.heap c.wake_round.new.store) c.wake_round.ensures.alike).stays (g.S.LinkStore.mem_id c.at-top.result) (c.requires.held.membranes 0 c.at-top.result c.at-top.ensures);
  near_awake = awake_now _ (g.S.LinkStore.heap c.args.store.now) (g.S.LinkStore.heap c.wake_round.new.store) (g.S.LinkStore.mem_id c.at-top.result) c.wake_round.ensures refl;
}

pub wake_for-near-requires-clause-deep : goal.wake_for-near-requires-clause-deep
wake_for-near-requires-clause-deep g c = deep_alike (g.S.LinkStore.heap c.args.store.now) (g.S.LinkStore.heap c.loop-i.store) (read_alike (g.S.LinkStore.heap c.args.store.now) (g.S.LinkStore.heap c.loop-i.store) c.loop-i.invariant.alike) c.requires.deep

pub wake_for-near-requires-clause-held : goal.wake_for-near-requires-clause-held
wake_for-near-requires-clause-held g c = held_alike g.S.LinkStore.atom_id g.S.LinkStore.mem_id c.args.set.now (g.S.LinkStore.heap c.args.store.now) (g.S.LinkStore.heap c.loop-i.store) (read_alike (g.S.LinkStore.heap c.args.store.now) (g.S.LinkStore.heap c.loop-i.store) c.loop-i.invariant.alike) c.requires.held

pub wake_for-near-requires-clause-uses : goal.wake_for-near-requires-clause-uses
wake_for-near-requires-clause-uses g c = used_at _ _ _ _ c.loop-i.i c.args.code.now c.at.result.now c.requires.uses c.at.ensures

pub wake_for-near-requires-clause-top : goal.wake_for-near-requires-clause-top
wake_for-near-requires-clause-top g c = (read_alike (g.S.LinkStore.heap c.args.store.now) (g.S.LinkStore.heap c.loop-i.store) c.loop-i.invariant.alike).stays (g.S.LinkStore.mem_id c.at-top.result) (c.requires.held.membranes 0 c.at-top.result c.at-top.ensures)

pub wake_for-near-requires-clause-awake : goal.wake_for-near-requires-clause-awake
wake_for-near-requires-clause-awake g c = c.loop-i.invariant.awake

pub wake_for-near-requires-clause-near : goal.wake_for-near-requires-clause-near
wake_for-near-requires-clause-near g c = c.loop-i.invariant.near

pub wake_for-near-requires-clause-near_awake : goal.wake_for-near-requires-clause-near_awake
wake_for-near-requires-clause-near_awake g c = c.loop-i.invariant.near_awake

pub loop-i-preserved : goal.loop-i-preserved
loop-i-preserved g c =
    let some = some_agree g.S.LinkStore.atom_id g.S.LinkStore.mem_id c.args.set.now in
    let woke = c.wake_for-near.ensures.wakes some.0 some.1 in
    record {
      so = roused_more g.S.LinkStore.atom_id g.S.LinkStore.mem_id c.args.set.now (g.S.LinkStore.heap c.args.store.now) c.args.code.now c.loop-i.i c.at.result.now (g.S.LinkStore.heap c.loop-i.store) (g.S.LinkStore.heap c.wake_for-near.new.store)
          c.at.ensures c.loop-i.invariant.so c.wake_for-near.ensures.wakes;
      alike = marks_on (g.S.LinkStore.heap c.args.store.now) (g.S.LinkStore.heap c.loop-i.store) (g.S.LinkStore.heap c.wake_for-near.new.store) c.loop-i.invariant.alike woke.alike;
      awake = awake_still _ (g.S.LinkStore.heap c.loop-i.store) (g.S.LinkStore.heap c.wake_for-near.new.store) (g.S.LinkStore.mem_id c.at-top.result) woke c.loop-i.invariant.awake;
      near = c.wake_for-near.ensures.there;
      near_awake = c.wake_for-near.ensures.awake;
    }

pub at-requires : goal.at-requires
at-requires g c =
    let before = c.loop-i-test.true in
    let few = c.removals-i-end.ensures.within in
    omega (arith, before, few)

pub returns : goal.returns
returns g c =
    let past = c.loop-i-test.false in
    roused_front g.S.LinkStore.atom_id g.S.LinkStore.mem_id c.args.set.now (g.S.LinkStore.heap c.args.store.now) c.args.code.now c.removals-i-end.result c.loop-i.i (g.S.LinkStore.heap c.loop-i.store) (omega (arith, past)) c.removals-i-end.ensures.none c.loop-i.invariant.so

pub returns-then-is_only : goal.returns-then-is_only
returns-then-is_only g c = λ r u.
    (let alone = c.is_only.ensures c.if-is_only.true in
    only_wakes g.S.LinkStore.atom_id g.S.LinkStore.mem_id c.args.set.now (g.S.LinkStore.heap c.args.store.now) (g.S.LinkStore.heap c.set_mem_mark.new.self) c.args.code.now c.at-top.result c.root-root.ensures.sound c.at-top.ensures alone.0 alone.1 c.requires.others c.set_mem_mark.ensures r u)
