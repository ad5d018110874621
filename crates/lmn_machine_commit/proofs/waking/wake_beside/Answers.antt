use Rattle.std.proofs.Common.{◌≡◌, arith}
use Rattle.lmn_schedule_sleep.proofs.Marks.{read_alike}
use Rattle.lmn_machine_commit.proofs.Rouses.{beside_first, beside_more, beside_all, atom_alike, arity_alike}
use Rattle.lmn_machine_commit.proofs.Rousing.{deep_alike, awake_still}
use Rattle.lmn_machine_commit.proofs.waking.wake_beside.Goals as goal

pub loop-port-init : goal.loop-port-init
loop-port-init g c = record {
  woken = beside_first (g.S.LinkStore.heap c.args.store.now) (g.S.LinkStore.heap c.wake_home-last.new.store) (g.S.LinkStore.atom_id c.args.atom) c.wake_home-last.ensures.wakes;
  there = c.wake_home-last.ensures.there;
  awake = c.wake_home-last.ensures.awake;
}

pub wake_partner-last-requires-clause-deep : goal.wake_partner-last-requires-clause-deep
wake_partner-last-requires-clause-deep g c = deep_alike (g.S.LinkStore.heap c.args.store.now) (g.S.LinkStore.heap c.loop-port.store) (read_alike (g.S.LinkStore.heap c.args.store.now) (g.S.LinkStore.heap c.loop-port.store) c.loop-port.invariant.woken.alike) c.requires.deep

pub wake_partner-last-requires-clause-atom : goal.wake_partner-last-requires-clause-atom
wake_partner-last-requires-clause-atom g c = atom_alike (g.S.LinkStore.heap c.args.store.now) (g.S.LinkStore.heap c.loop-port.store) (read_alike (g.S.LinkStore.heap c.args.store.now) (g.S.LinkStore.heap c.loop-port.store) c.loop-port.invariant.woken.alike) (g.S.LinkStore.atom_id c.args.atom) c.requires.atom

pub wake_partner-last-requires-clause-port : goal.wake_partner-last-requires-clause-port
wake_partner-last-requires-clause-port g c =
    let h = g.S.LinkStore.heap c.args.store.now in
    let a = g.S.LinkStore.atom_id c.args.atom in
    let n = arity_alike h (g.S.LinkStore.heap c.loop-port.store) (read_alike h (g.S.LinkStore.heap c.loop-port.store) c.loop-port.invariant.woken.alike) a in
    let p = c.root-root.ensures.sound.shaped.ports a c.functor-arity.result c.functor-arity.ensures in
    let l = c.loop-port-test.true in
    omega (arith, n, p, l)

pub wake_partner-last-requires-clause-top : goal.wake_partner-last-requires-clause-top
wake_partner-last-requires-clause-top g c = (read_alike (g.S.LinkStore.heap c.args.store.now) (g.S.LinkStore.heap c.loop-port.store) c.loop-port.invariant.woken.alike).stays (g.S.LinkStore.mem_id c.args.top) c.requires.top

pub wake_partner-last-requires-clause-awake : goal.wake_partner-last-requires-clause-awake
wake_partner-last-requires-clause-awake g c = awake_still _ (g.S.LinkStore.heap c.args.store.now) (g.S.LinkStore.heap c.loop-port.store) (g.S.LinkStore.mem_id c.args.top) c.loop-port.invariant.woken c.requires.awake

pub loop-port-preserved : goal.loop-port-preserved
loop-port-preserved g c = record {
  woken = beside_more (g.S.LinkStore.heap c.args.store.now) (g.S.LinkStore.heap c.loop-port.store) (g.S.LinkStore.heap c.wake_partner-last.new.store) (g.S.LinkStore.atom_id c.args.atom) c.loop-port.port c.loop-port.invariant.woken c.wake_partner-last.ensures.wakes;
  there = c.wake_partner-last.ensures.there;
  awake = c.wake_partner-last.ensures.awake;
}

pub wake_partner-last-requires-clause-near : goal.wake_partner-last-requires-clause-near
wake_partner-last-requires-clause-near g c = c.loop-port.invariant.there

pub wake_partner-last-requires-clause-near_awake : goal.wake_partner-last-requires-clause-near_awake
wake_partner-last-requires-clause-near_awake g c = c.loop-port.invariant.awake

pub returns-clause-wakes : goal.returns-clause-wakes
returns-clause-wakes g c =
    let e : c.loop-port.port ≡ c.functor-arity.result.arity = (let l = c.loop-port-test.false in let k = c.loop-port.auto.port-end in omega (arith, l, k)) in
    beside_all (g.S.LinkStore.heap c.args.store.now) (g.S.LinkStore.heap c.loop-port.store) (g.S.LinkStore.atom_id c.args.atom) c.loop-port.port c.functor-arity.result c.root-root.ensures.sound c.functor-arity.ensures e c.loop-port.invariant.woken

pub returns-clause-there : goal.returns-clause-there
returns-clause-there g c = c.loop-port.invariant.there

pub returns-clause-awake : goal.returns-clause-awake
returns-clause-awake g c = c.loop-port.invariant.awake
