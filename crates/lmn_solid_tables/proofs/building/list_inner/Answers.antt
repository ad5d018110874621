use Rattle.std.proofs.Common.{arith}
use Rattle.lmn_solid_tables.proofs.Steps.{parent_inside, inner_next}
use Rattle.lmn_solid_tables.proofs.building.list_inner.Goals as goal

pub index_mut-requires : goal.index_mut-requires
index_mut-requires c =
    let l = parent_inside c.args.membranes.now.items c.loop-number.membranes.items c.loop-number.number c.index.result.now c.loop-number.auto.number (omega (arith, c.loop-number-test.true, c.len-number-end.ensures, c.args.membranes.now.ok.0)) c.requires.rises c.loop-number.invariant c.index.ensures in
    omega (arith, l, c.loop-number.membranes.ok.0)

pub loop-number-preserved : goal.loop-number-preserved
loop-number-preserved c =
    inner_next c.args.membranes.now.items c.loop-number.membranes.items c.loop-number.number c.index.result.now c.index_mut.result.now c.push.new.self c.loop-number.auto.number (omega (arith, c.loop-number-test.true, c.len-number-end.ensures, c.args.membranes.now.ok.0)) c.requires.rises c.loop-number.invariant c.index.ensures c.index_mut.ensures.value c.in_ok-push.ensures.ok
