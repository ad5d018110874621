use Rattle.std.proofs.Common.{◌≡◌, drop}
use Rattle.lmn_verify_code.specs.Counted.{told_all, membranes_marked}
use Rattle.lmn_verify_code.proofs.apart.mark_all_membranes.Given as goal

abbrev pub invariant-loop-instr : goal.invariant-loop-instr
invariant-loop-instr l = told_all membranes_marked l.pairs (drop l.instr-index l.code) ≡ told_all membranes_marked l.initial.pairs l.code
