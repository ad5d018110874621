use Rattle.std.proofs.Common.{◌≡◌, drop}
use Rattle.lmn_weight.specs.Lines.{is_listed}
use Rattle.lmn_weight.proofs.reading.is_listed.Given as goal

abbrev pub invariant-loop-other : goal.invariant-loop-other
invariant-loop-other l = is_listed l.functor (drop l.other-index l.functors) ≡ is_listed l.functor l.functors
