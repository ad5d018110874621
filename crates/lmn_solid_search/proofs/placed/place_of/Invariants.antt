use Rattle.std.proofs.Common.{take}
use Rattle.lmn_base.specs.Lists.{In}
use Rattle.lmn_solid_search.proofs.placed.place_of.Given as goal

abbrev pub invariant-loop-place : goal.invariant-loop-place
invariant-loop-place l = In l.number (take l.place l.list) → ⊥
