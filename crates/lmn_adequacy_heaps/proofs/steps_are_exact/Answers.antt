use Rattle.lmn_adequacy_heaps.proofs.WholeRules.{steps_exactly, irreducible_exactly}
use Rattle.lmn_adequacy_heaps.proofs.steps_are_exact.Goals as goal

pub returns-clause-steps : goal.returns-clause-steps
returns-clause-steps c = steps_exactly

pub returns-clause-irreducible : goal.returns-clause-irreducible
returns-clause-irreducible c = irreducible_exactly
