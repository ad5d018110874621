use Rattle.std.proofs.Common.{◌≡◌, ◌++◌, drop, replicate}
use Rattle.lmn_solid_search.specs.Marks.{never}
use Rattle.lmn_solid_search.proofs.marks.forget.Given as goal

abbrev pub invariant-loop-place : goal.invariant-loop-place
invariant-loop-place l = l.marks ≡ replicate l.place never ++ drop l.place l.fn.marks
