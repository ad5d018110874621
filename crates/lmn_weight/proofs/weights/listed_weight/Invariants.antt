use Rattle.std.proofs.Common.{◌≡◌, drop}
use Rattle.lmn_weight.specs.Plains.{listed_weight}
use Rattle.lmn_weight.proofs.weights.listed_weight.Given as goal

abbrev pub invariant-loop-i : goal.invariant-loop-i
invariant-loop-i l = listed_weight (drop l.i l.functors) (drop l.i l.values) l.functor ≡ listed_weight l.functors l.values l.functor
