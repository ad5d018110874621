use Rattle.lmn_machine_commit.proofs.Rousing.{climb_begins, climb_meets}
use Rattle.lmn_machine_commit.proofs.waking.wake_below.Goals as goal

pub returns-then-same_mem : goal.returns-then-same_mem
returns-then-same_mem g c =
    let h = g.S.LinkStore.heap c.args.store.now in
    let m = g.S.LinkStore.mem_id c.args.membrane in
    climb_meets h h m 0 m (g.S.LinkStore.mem_id c.args.top) (climb_begins h m c.requires.membrane) (c.same_mem.ensures.0 c.if-same_mem.true) c.requires.awake
