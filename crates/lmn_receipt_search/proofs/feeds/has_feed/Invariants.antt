use Rattle.std.proofs.Common.{◌≡◌, drop}
use Rattle.lmn_receipt_search.specs.Feeds.{has_feed}
use Rattle.lmn_receipt_search.proofs.feeds.has_feed.Given as goal

abbrev pub invariant-loop-byte : goal.invariant-loop-byte
invariant-loop-byte l = has_feed (drop l.byte-index l.bytes) ≡ has_feed l.bytes
