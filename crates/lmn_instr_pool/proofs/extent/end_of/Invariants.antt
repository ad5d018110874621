use Rattle.std.proofs.Common.{length, ◌-◌}
use Rattle.lmn_instr_pool.specs.Extents.{IsOf, NoneFrom}
use Rattle.lmn_instr_pool.proofs.extent.end_of.Given as goal

abbrev pub invariant-loop-behind : goal.invariant-loop-behind
invariant-loop-behind l = record { none : NoneFrom (IsOf l.kind) (length l.instrs - l.behind) l.instrs }
