use Rattle.std.proofs.Common.{ℕ, ◌≤◌, ◌<◌}
use Rattle.lmn_machine.specs.Enough.{Takes, TellsApart}
use Rattle.lmn_machine.proofs.enough.is_apart_from_all.Given as goal

abbrev pub invariant-loop-i : goal.invariant-loop-i
invariant-loop-i l = record {
  apart : (k y : ℕ) → l.fn.at ≤ k → k < l.i → Takes l.fn.want.kind l.fn.code k l.fn.want.membrane l.fn.want.functor y → (j : ℕ) × (l.fn.behind ≤ j) × TellsApart l.fn.want.kind l.fn.code j l.fn.register y;
}
