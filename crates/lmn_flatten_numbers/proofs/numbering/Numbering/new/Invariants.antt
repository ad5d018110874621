use Rattle.std.proofs.Common.{◌≡◌, replicate, None}
use Rattle.lmn_flatten_numbers.proofs.numbering.Numbering.new.Given as goal

abbrev pub invariant-loop : goal.invariant-loop
invariant-loop l = l.numbers ≡ replicate l.counter None
