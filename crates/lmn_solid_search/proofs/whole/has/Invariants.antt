use Rattle.std.proofs.Common.{take}
use Rattle.lmn_base.specs.Lists.{In}
use Rattle.lmn_solid_search.proofs.whole.has.Given as goal

abbrev pub invariant-loop-other : goal.invariant-loop-other
invariant-loop-other l = In l.number (take l.other-index l.list) → ⊥
