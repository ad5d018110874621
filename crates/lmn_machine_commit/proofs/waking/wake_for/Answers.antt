use Rattle.lmn_schedule_sleep.proofs.Marks.{read_alike}
use Rattle.lmn_machine_commit.proofs.Rousing.{awake_still}
use Rattle.lmn_machine_commit.proofs.Rouses.{rouses_atom, rouses_mem, rouses_nothing}
use Rattle.lmn_machine_commit.proofs.waking.wake_for.Goals as goal

pub returns-in-RemoveAtom-clause-wakes : goal.returns-in-RemoveAtom-clause-wakes
returns-in-RemoveAtom-clause-wakes g c = λ r u.
    rouses_atom (g.S.LinkStore.heap c.args.store.now) (g.S.LinkStore.heap c.wake_beside.new.store) r c.args.instr.now c.in-RemoveAtom.atom (g.S.LinkStore.atom_id c.at.result) c.in-RemoveAtom.is (u.atoms c.in-RemoveAtom.atom c.at.result c.at.ensures) c.wake_beside.ensures.wakes

pub returns-in-RemoveMem-clause-wakes : goal.returns-in-RemoveMem-clause-wakes
returns-in-RemoveMem-clause-wakes g c = λ r u.
    rouses_mem (g.S.LinkStore.heap c.args.store.now) (g.S.LinkStore.heap c.wake_below.new.store) r c.args.instr.now c.in-RemoveMem.membrane (g.S.LinkStore.mem_id c.at-in-RemoveMem.result) c.in-RemoveMem.is (u.membranes c.in-RemoveMem.membrane c.at-in-RemoveMem.result c.at-in-RemoveMem.ensures) c.wake_below.ensures

pub returns-in_default-clause-wakes : goal.returns-in_default-clause-wakes
returns-in_default-clause-wakes g c = λ r u. rouses_nothing (g.S.LinkStore.heap c.args.store.now) r c.args.instr.now c.in_default.not-RemoveAtom c.in_default.not-RemoveMem

pub returns-in-RemoveMem-clause-there : goal.returns-in-RemoveMem-clause-there
returns-in-RemoveMem-clause-there g c = (read_alike (g.S.LinkStore.heap c.args.store.now) (g.S.LinkStore.heap c.wake_below.new.store) c.wake_below.ensures.alike).stays (g.S.LinkStore.mem_id c.args.near) c.requires.near

pub returns-in-RemoveMem-clause-awake : goal.returns-in-RemoveMem-clause-awake
returns-in-RemoveMem-clause-awake g c = awake_still _ (g.S.LinkStore.heap c.args.store.now) (g.S.LinkStore.heap c.wake_below.new.store) (g.S.LinkStore.mem_id c.args.near) c.wake_below.ensures c.requires.near_awake
