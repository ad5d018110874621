use Rattle.std.proofs.Common.{length}
use Rattle.lmn_verify_listing.proofs.OperandLemmas.{Parted}
use Rattle.lmn_verify_listing.proofs.line.read_parts.Given as goal

abbrev pub decreases-loop-rest : goal.decreases-loop-rest
decreases-loop-rest l = length l.rest

abbrev pub invariant-loop-rest : goal.invariant-loop-rest
invariant-loop-rest l = Parted l.text l.parts l.rest
