use Rattle.lmn_machine.proofs.Restings.{RestSoFar}
use Rattle.lmn_machine.proofs.reasons.Reasons.all_rest_well.Given as goal

abbrev pub invariant-loop-i : goal.invariant-loop-i
invariant-loop-i l = RestSoFar l.self l.code l.i
