use Rattle.std.proofs.Common.{◌∙◌, arith, sym}
use Rattle.lmn_receipt_search.proofs.NameFeeds.{all_without, without_more}
use Rattle.lmn_receipt_search.proofs.QuietPieces.{unfed}
use Rattle.lmn_receipt_search.proofs.feeds.are_without.Goals as goal

pub loop-number-preserved : goal.loop-number-preserved
loop-number-preserved c = without_more c.args.names.now c.loop-number.number c.text.result.now c.loop-number.invariant c.text.ensures (unfed c.text.result.now (sym c.has_feed.ensures ∙ c.if-has_feed.false))

pub returns : goal.returns
returns c is = let past = c.loop-number-test.false in let many = c.len-count.ensures.len in all_without c.args.names.now c.loop-number.number (omega (arith, past, many)) c.loop-number.invariant
