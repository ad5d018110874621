use Rattle.std.proofs.Common.{arith, ◌+◌, ◌<◌, length}
use Rattle.lmn_receipt_reading.proofs.FeedLemmas.{feed_at}
use Rattle.lmn_receipt_reading.proofs.window.has_line.Goals as goal

pub returns-then-text-at-eq10 : goal.returns-then-text-at-eq10
returns-then-text-at-eq10 c = λ inside.
    let within : c.loop-at.at + 1 < length c.args.text.now = grind (arith) in
    feed_at c.args.text.now c.loop-at.at 0 within c.if-text-at-eq10.true
