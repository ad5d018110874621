use Rattle.std.proofs.Common.{arith, take, ap}
use Rattle.lmn_store_heap.specs.Heap.{rules_in}
use Rattle.lmn_machine_commit.specs.Preparing.{needed}
use Rattle.lmn_machine_commit.proofs.Codes.{take_get, use_at, needed_more}
use Rattle.lmn_machine_commit.proofs.preparing.rules_needed.Goals as goal

pub rules_added-requires-clause-uses : goal.rules_added-requires-clause-uses
rules_added-requires-clause-uses g c =
    let up = c.requires.upto in
    let at = c.loop-i-test.true in
    use_at _ _ _ _ c.loop-i.i c.args.upto c.args.code.now c.instr_at.result.now c.requires.uses c.loop-i-test.true c.instr_at.ensures

pub loop-i-preserved : goal.loop-i-preserved
loop-i-preserved g c = λ r u.
    let up = c.requires.upto in
    let at = c.loop-i-test.true in
    let more = take_get c.loop-i.i c.args.code.now c.instr_at.result.now c.instr_at.ensures in
    let e = ap (λ is. needed r (rules_in (g.S.LinkStore.heap c.args.store.now)) is (g.S.LinkStore.mem_id c.args.membrane)) more in
    let f = needed_more r (rules_in (g.S.LinkStore.heap c.args.store.now)) (take c.loop-i.i c.args.code.now) c.instr_at.result.now (g.S.LinkStore.mem_id c.args.membrane) in
    let h = c.loop-i.invariant r u in
    let k = c.rules_added.ensures r u in
    let x = c.in_ok-count.ensures in
    omega (arith, e, f, h, k, x)
