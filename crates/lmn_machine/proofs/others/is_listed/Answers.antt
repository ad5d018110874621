use Rattle.std.proofs.Common.{◌<◌, ap, get_or, length, arith}
use Rattle.lmn_base.proofs.Truth.{never_both}
use Rattle.lmn_store_heap.specs.Heap.{port_id}
use Rattle.lmn_machine.proofs.Besides.{each_at, unlisted_next}
use Rattle.lmn_machine.proofs.others.is_listed.Goals as goal
use Rattle.std.proofs.lemmas.Option.{slice_get-get_or}

pub returns-then-is_same_port-clause-found : goal.returns-then-is_same_port-clause-found
returns-then-is_same_port-clause-found g c = λ t.
    (let l = c.requires.n in
    let i = c.loop-j-test.true in
    let u = c.is_same_port.ensures.0 c.if-is_same_port.true in
    let atom = u.0 in
    let port = u.1 in
    (c.loop-j.j, get_or c.args.listed.now c.loop-j.j 0, (c.at.result, i, slice_get-get_or c.args.listed.now c.loop-j.j 0 (omega (arith, l, i)), c.at.ensures, cc)))

pub loop-j-preserved : goal.loop-j-preserved
loop-j-preserved g c =
    let l = c.requires.n in
    let i = c.loop-j-test.true in
    unlisted_next g.S.LinkStore.atom_id c.args.listed.now c.args.parts.now (port_id g.S.LinkStore.atom_id c.args.root) c.loop-j.j (get_or c.args.listed.now c.loop-j.j 0) c.at.result
    (slice_get-get_or c.args.listed.now c.loop-j.j 0 (omega (arith, l, i))) c.at.ensures (λ e. never_both c.is_same_port.result (c.is_same_port.ensures.1 (ap (λ p. p.0) e, ap (λ p. p.1) e)) c.if-is_same_port.false) c.loop-j.invariant

pub at-requires : goal.at-requires
at-requires g c =
    let l = c.requires.n in
    let i = c.loop-j-test.true in
    each_at (λ k. k < length c.args.parts.now) c.args.listed.now c.loop-j.j c.requires.listed (omega (arith, l, i))
