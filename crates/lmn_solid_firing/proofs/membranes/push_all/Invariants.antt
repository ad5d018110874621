use Rattle.std.proofs.Common.{◌≡◌, ◌++◌, drop}
use Rattle.lmn_solid_firing.specs.Making.{entered}
use Rattle.lmn_solid_firing.proofs.membranes.push_all.Given as goal

-- the membranes from one on are on the stack
abbrev pub invariant-loop-i : goal.invariant-loop-i
invariant-loop-i l = l.waiting.items ≡ l.fn.waiting.items ++ entered l.around (drop l.i l.membranes)
