use Rattle.std.proofs.Common.{◌≡◌, ◌++◌, drop}
use Rattle.std.specs.List.{zip}
use Rattle.lmn_solid_firing.proofs.names.integers_of.Given as goal

abbrev pub invariant-loop-place : goal.invariant-loop-place
invariant-loop-place l = l.integers ++ zip (drop l.place l.names) (drop l.place l.values) ≡ zip l.names l.values
