use Rattle.std.proofs.Common.{◌≡◌, replicate, None}
use Rattle.lmn_solid_settle.proofs.numbers.Numbers.new.Given as goal

abbrev pub invariant-loop : goal.invariant-loop
invariant-loop l = l.numbers ≡ replicate l.counter None
