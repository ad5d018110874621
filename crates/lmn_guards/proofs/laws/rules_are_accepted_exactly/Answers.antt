use Rattle.lmn_guards.proofs.StandingLemmas.{accepted_exactly}
use Rattle.lmn_guards.proofs.laws.rules_are_accepted_exactly.Goals as goal

pub returns : goal.returns
returns c = accepted_exactly
