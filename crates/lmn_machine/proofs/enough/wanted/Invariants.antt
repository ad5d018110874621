use Rattle.std.proofs.Common.{◌≤◌}
use Rattle.lmn_machine.specs.Enough.{TakesApart}
use Rattle.lmn_machine.proofs.enough.wanted.Given as goal

abbrev pub invariant-loop-i : goal.invariant-loop-i
invariant-loop-i l = record {
  few : l.count ≤ l.i;
  apart : TakesApart l.fn.code l.fn.at l.i l.fn.want l.count;
}
