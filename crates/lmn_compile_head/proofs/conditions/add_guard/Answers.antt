use Rattle.std.proofs.Common.{arith}
use Rattle.lmn_compile_head.proofs.GuardRoom.{tokens_next}
use Rattle.lmn_compile_head.proofs.conditions.add_guard.Goals as goal

pub add_condition-requires-clause-room : goal.add_condition-requires-clause-room
add_condition-requires-clause-room c =
    let tokens = tokens_next c.args.guard.now c.loop-condition.condition-index c.condition-item.result c.loop-condition-test.true c.condition-item.is in
    let room = c.loop-condition.invariant.room in
    omega (arith, tokens, room)
