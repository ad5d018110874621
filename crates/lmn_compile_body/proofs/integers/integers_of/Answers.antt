use Rattle.std.proofs.Common.{arith}
use Rattle.lmn_compile_body.proofs.integers.integers_of.Goals as goal
use Rattle.lmn_compile_head.proofs.GuardRoom.{tokens_next}

pub note_condition-requires-clause-room : goal.note_condition-requires-clause-room
note_condition-requires-clause-room c =
    let tokens = tokens_next c.args.guard.now c.loop-condition.condition-index c.condition-item.result c.loop-condition-test.true c.condition-item.is in
    let room = c.loop-condition.invariant.room in
    omega (arith, tokens, room)
