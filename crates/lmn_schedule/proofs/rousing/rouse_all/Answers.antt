use Rattle.std.proofs.Common.{arith}
use Rattle.lmn_schedule_sleep.proofs.Marks.{read_alike}
use Rattle.lmn_store_trait.proofs.Numbers.{number_mem, never_ends}
use Rattle.lmn_schedule.proofs.AllWake.{rouse_alike, rouse_begins, rouse_ends, rouse_goes, valid_on}
use Rattle.lmn_schedule.proofs.rousing.rouse_all.Goals as goal

pub loop-counted-init : goal.loop-counted-init
loop-counted-init g c = record { rousing = rouse_begins (g.S.LinkStore.heap c.args.store.now) (g.S.LinkStore.mem_id c.root-at.result) c.root-at.ensures.root }

pub set_mem_mark-requires : goal.set_mem_mark-requires
set_mem_mark-requires g c =
    let h = g.S.LinkStore.heap c.args.store.now in
    let r = c.loop-counted.invariant.rousing in
    (read_alike h (g.S.LinkStore.heap c.loop-counted.store) r.alike).stays (g.S.LinkStore.mem_id c.loop-counted.at) (number_mem h c.loop-counted.counted (g.S.LinkStore.mem_id c.loop-counted.at) c.requires r.number)

pub next_membrane-requires-clause-valid : goal.next_membrane-requires-clause-valid
next_membrane-requires-clause-valid g c =
    let h = g.S.LinkStore.heap c.args.store.now in
    let l = g.S.LinkStore.heap c.set_mem_mark.new.self in
    valid_on h l (rouse_alike h (g.S.LinkStore.heap c.loop-counted.store) l c.requires c.loop-counted.counted (g.S.LinkStore.mem_id c.loop-counted.at) c.loop-counted.invariant.rousing c.set_mem_mark.ensures) c.requires

pub next_membrane-requires-clause-membrane : goal.next_membrane-requires-clause-membrane
next_membrane-requires-clause-membrane g c =
    let h = g.S.LinkStore.heap c.args.store.now in
    let l = g.S.LinkStore.heap c.set_mem_mark.new.self in
    let r = c.loop-counted.invariant.rousing in
    (read_alike h l (rouse_alike h (g.S.LinkStore.heap c.loop-counted.store) l c.requires c.loop-counted.counted (g.S.LinkStore.mem_id c.loop-counted.at) r c.set_mem_mark.ensures)).stays (g.S.LinkStore.mem_id c.loop-counted.at)
    (number_mem h c.loop-counted.counted (g.S.LinkStore.mem_id c.loop-counted.at) c.requires r.number)

pub loop-counted-preserved : goal.loop-counted-preserved
loop-counted-preserved g c = record {
  rousing = rouse_goes (g.S.LinkStore.heap c.args.store.now) (g.S.LinkStore.heap c.loop-counted.store) (g.S.LinkStore.heap c.set_mem_mark.new.self) c.requires c.loop-counted.counted (g.S.LinkStore.mem_id c.loop-counted.at) c.loop-counted.invariant.rousing c.set_mem_mark.ensures (g.S.LinkStore.mem_id c.in-Some.next) c.in-Some.ensures;
}

pub returns-in-None-clause-alike : goal.returns-in-None-clause-alike
returns-in-None-clause-alike g c =
    rouse_alike (g.S.LinkStore.heap c.args.store.now) (g.S.LinkStore.heap c.loop-counted.store) (g.S.LinkStore.heap c.set_mem_mark.new.self) c.requires c.loop-counted.counted (g.S.LinkStore.mem_id c.loop-counted.at) c.loop-counted.invariant.rousing c.set_mem_mark.ensures

pub returns-in-None-clause-awake : goal.returns-in-None-clause-awake
returns-in-None-clause-awake g c =
    rouse_ends (g.S.LinkStore.heap c.args.store.now) (g.S.LinkStore.heap c.loop-counted.store) (g.S.LinkStore.heap c.set_mem_mark.new.self) c.requires c.loop-counted.counted (g.S.LinkStore.mem_id c.loop-counted.at) c.loop-counted.invariant.rousing c.set_mem_mark.ensures c.in-None.ensures

pub returns-clause-alike : goal.returns-clause-alike
returns-clause-alike g c = c.loop-counted.invariant.rousing.alike

pub returns-clause-awake : goal.returns-clause-awake
returns-clause-awake g c = never_ends (g.S.LinkStore.heap c.args.store.now) c.loop-counted.counted (g.S.LinkStore.mem_id c.loop-counted.at) c.root-at.ensures.sound c.root-at.ensures.few
    (let f = c.loop-counted-test.false in omega (arith, f)) c.loop-counted.invariant.rousing.number c.requires.tree.0 c.requires.tree.1
