use Rattle.std.proofs.Common.{◌≡◌, [], length}
use Rattle.lmn_flatten_numbers.specs.Tallies.{AreTallies}
use Rattle.lmn_flatten_numbers.proofs.tally.no_tallies.Given as goal

abbrev pub invariant-loop : goal.invariant-loop
invariant-loop l = (length l.tallies ≡ l.counter) × AreTallies [] l.tallies
