use Rattle.lmn_instr_pool.specs.Extents.{IsOf, NoneBefore}
use Rattle.lmn_instr_pool.proofs.extent.start_of.Given as goal

abbrev pub invariant-loop-at : goal.invariant-loop-at
invariant-loop-at l = record { none : NoneBefore (IsOf l.kind) l.at l.instrs }
