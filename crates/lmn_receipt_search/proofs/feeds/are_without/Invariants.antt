use Rattle.std.proofs.Common.{ℕ, ◌≡◌, ◌<◌, Some, slice_get}
use Rattle.lmn_congruence.specs.Rules.{Name}
use Rattle.lmn_receipt_chain.specs.Bytes.{NoFeed}
use Rattle.lmn_receipt_search.proofs.feeds.are_without.Given as goal

abbrev pub invariant-loop-number : goal.invariant-loop-number
invariant-loop-number l = (n : ℕ) (name : Name) → n < l.number → slice_get l.names n ≡ Some name → NoFeed name
