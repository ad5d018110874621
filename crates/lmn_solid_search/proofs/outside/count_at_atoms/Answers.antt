use Rattle.std.proofs.Common.{arith}
use Rattle.lmn_solid_search.proofs.OutsideLemmas.{counted}
use Rattle.lmn_solid_search.proofs.outside.count_at_atoms.Goals as goal

pub count-found-requires : goal.count-found-requires
count-found-requires c =
    let e = counted c.args.link c.loop-atom.found c.loop-atom.atom-index c.args.atoms.now c.atom-item.result c.atom-item.result c.as_slice.result.now c.loop-atom-test.true c.atom-item.is c.as_slice.ensures c.loop-atom.invariant in
    let l = c.requires in
    omega (arith, e, l)

pub overflow_add-found : goal.overflow_add-found
overflow_add-found c =
    let e = counted c.args.link c.loop-atom.found c.loop-atom.atom-index c.args.atoms.now c.atom-item.result c.atom-item.result c.as_slice.result.now c.loop-atom-test.true c.atom-item.is c.as_slice.ensures c.loop-atom.invariant in
    let l = c.requires in
    let n = c.count-found.ensures in
    omega (arith, e, l, n)

pub loop-atom-preserved : goal.loop-atom-preserved
loop-atom-preserved c =
    let e = counted c.args.link c.loop-atom.found c.loop-atom.atom-index c.args.atoms.now c.atom-item.result c.atom-item.result c.as_slice.result.now c.loop-atom-test.true c.atom-item.is c.as_slice.ensures c.loop-atom.invariant in
    let n = c.count-found.ensures in
    omega (arith, e, n)
