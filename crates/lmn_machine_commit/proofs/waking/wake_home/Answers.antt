use Rattle.std.proofs.Common.{refl}
use Rattle.lmn_schedule_sleep.proofs.Marks.{read_alike}
use Rattle.lmn_machine_commit.proofs.Rousing.{awake_now, climb_begins, climb_meets, home_mem}
use Rattle.lmn_machine_commit.proofs.Rouses.{home_wakes, no_home}
use Rattle.lmn_machine_commit.proofs.waking.wake_home.Goals as goal

pub same_mem-requires-clause-m : goal.same_mem-requires-clause-m
same_mem-requires-clause-m g c = home_mem (g.S.LinkStore.heap c.args.store.now) c.root-root.ensures.sound (g.S.LinkStore.atom_id c.args.atom) (g.S.LinkStore.mem_id c.in-Some.home) c.in-Some.ensures

pub wake_below-requires-clause-membrane : goal.wake_below-requires-clause-membrane
wake_below-requires-clause-membrane g c = home_mem (g.S.LinkStore.heap c.args.store.now) c.root-root.ensures.sound (g.S.LinkStore.atom_id c.args.atom) (g.S.LinkStore.mem_id c.in-Some.home) c.in-Some.ensures

pub returns-then-same_mem-clause-wakes : goal.returns-then-same_mem-clause-wakes
returns-then-same_mem-clause-wakes g c =
    let h = g.S.LinkStore.heap c.args.store.now in
    let m = g.S.LinkStore.mem_id c.in-Some.home in
    home_wakes h h (g.S.LinkStore.atom_id c.args.atom) m c.in-Some.ensures
    (climb_meets h h m 0 m (g.S.LinkStore.mem_id c.args.near) (climb_begins h m (home_mem h c.root-root.ensures.sound (g.S.LinkStore.atom_id c.args.atom) m c.in-Some.ensures)) (c.same_mem.ensures.0 c.if-same_mem.true) c.requires.near_awake)

pub returns-else-same_mem-clause-wakes : goal.returns-else-same_mem-clause-wakes
returns-else-same_mem-clause-wakes g c = home_wakes (g.S.LinkStore.heap c.args.store.now) (g.S.LinkStore.heap c.wake_below.new.store) (g.S.LinkStore.atom_id c.args.atom) (g.S.LinkStore.mem_id c.in-Some.home) c.in-Some.ensures c.wake_below.ensures

pub returns-else-same_mem-clause-there : goal.returns-else-same_mem-clause-there
returns-else-same_mem-clause-there g c =
    let h = g.S.LinkStore.heap c.args.store.now in
    (read_alike h (g.S.LinkStore.heap c.wake_below.new.store) c.wake_below.ensures.alike).stays (g.S.LinkStore.mem_id c.in-Some.home)
    (home_mem h c.root-root.ensures.sound (g.S.LinkStore.atom_id c.args.atom) (g.S.LinkStore.mem_id c.in-Some.home) c.in-Some.ensures)

pub returns-else-same_mem-clause-awake : goal.returns-else-same_mem-clause-awake
returns-else-same_mem-clause-awake g c = awake_now _ (g.S.LinkStore.heap c.args.store.now) (g.S.LinkStore.heap c.wake_below.new.store) (g.S.LinkStore.mem_id c.in-Some.home) c.wake_below.ensures refl

pub returns-in-None-clause-wakes : goal.returns-in-None-clause-wakes
returns-in-None-clause-wakes g c = no_home (g.S.LinkStore.heap c.args.store.now) (g.S.LinkStore.atom_id c.args.atom) c.in-None.ensures
