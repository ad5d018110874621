use Rattle.std.proofs.Common.{map}
use Rattle.lmn_ground.proofs.ClosingLaws.{left_there, marks_made, membrane_there, membranes_there, stay_or_leave, taken_back}
use Rattle.lmn_ground.proofs.closing.closed.Goals as goal

pub rest_stays-stays-requires : goal.rest_stays-stays-requires
rest_stays-stays-requires g c =
    let s = g.S.LinkStore.heap c.args.store.now in
    let t = g.S.LinkStore.heap c.mark_rest.new.store in
    let m = g.S.LinkStore.mem_id c.args.mem in
    let out = map g.S.LinkStore.mem_id c.args.out.now in
    let r = c.requires.rest in
    let e = c.mark_rest.ensures r.0 r.1 r.2 in
    let p = marks_made 1 r.0 s t e in
    record { mem = membrane_there s t m p c.requires.mem; out = membranes_there s t out p c.requires.out; rest = (r.0, r.1, left_there s t m out r.0 r.1 p r.2) }

pub mark_rest-requires-2 : goal.mark_rest-requires-2
mark_rest-requires-2 g c =
    let s = g.S.LinkStore.heap c.args.store.now in
    let t = g.S.LinkStore.heap c.mark_rest.new.store in
    let m = g.S.LinkStore.mem_id c.args.mem in
    let out = map g.S.LinkStore.mem_id c.args.out.now in
    let r = c.requires.rest in
    let e = c.mark_rest.ensures r.0 r.1 r.2 in
    let p = marks_made 1 r.0 s t e in
    record { mem = membrane_there s t m p c.requires.mem; out = membranes_there s t out p c.requires.out; rest = (r.0, r.1, left_there s t m out r.0 r.1 p r.2) }

pub returns-clause-closed : goal.returns-clause-closed
returns-clause-closed g c = λ atoms ms w.
    let s = g.S.LinkStore.heap c.args.store.now in
    let t = g.S.LinkStore.heap c.mark_rest.new.store in
    let m = g.S.LinkStore.mem_id c.args.mem in
    let out = map g.S.LinkStore.mem_id c.args.out.now in
    let r = c.requires.rest in
    let e = c.mark_rest.ensures r.0 r.1 r.2 in
    let p = marks_made 1 r.0 s t e in
    let q = c.rest_stays-stays.ensures atoms ms (left_there s t m out atoms ms p w) in
    let u = stay_or_leave s c.root-root.ensures.sound c.requires.clean atoms t (c.mark_rest.ensures atoms ms w) in
    (λ x. u.0 (q.0 x), λ y. q.1 (u.1 y))

pub returns-clause-same : goal.returns-clause-same
returns-clause-same g c =
    let s = g.S.LinkStore.heap c.args.store.now in
    let t = g.S.LinkStore.heap c.mark_rest.new.store in
    let m = g.S.LinkStore.mem_id c.args.mem in
    let out = map g.S.LinkStore.mem_id c.args.out.now in
    let r = c.requires.rest in
    let e = c.mark_rest.ensures r.0 r.1 r.2 in
    let p = marks_made 1 r.0 s t e in
    taken_back s c.root-root.ensures.sound c.requires.clean r.0 t (g.S.LinkStore.heap c.mark_rest-2.new.store) e (c.mark_rest-2.ensures r.0 r.1 (left_there s t m out r.0 r.1 p r.2))
