-- Congruence keeps all that is said of reduction.
use Rattle.lmn_congruence.specs.Process.{Process}
use Rattle.lmn_congruence.specs.Congruence.{Congruent, same, back}
use Rattle.lmn_reduction.specs.Steps.{Derived, up_to}
use Rattle.lmn_reduction.specs.Commits.{already}
use Rattle.lmn_reduction.specs.Laws.{KeepsSettled, KeepsSettles, KeepsCommit, KeepsIrreducible}
use Rattle.lmn_reduction.proofs.SettlingSteps.{linked_derived}
use Rattle.lmn_reduction.proofs.SettledProcesses.{settle_after, towards_joined}

-- a derivation from P is one from each congruent process
from_congruent : {Leaf : Process → Process → Type 0} {P P' Q : Process} → Congruent P P' → Derived Leaf P' Q → Derived Leaf P Q
from_congruent c d = up_to c d (same (linked_derived d).1)

-- what is congruent to a settled process is settled
pub keeps_settled : KeepsSettled
keeps_settled P P' c s = λ Q d. s Q (from_congruent c d)

-- congruence keeps settling, on both sides
pub keeps_settles : KeepsSettles
keeps_settles P P' Q Q' c d s = record { settled = keeps_settled Q Q' d s.settled; towards = settle_after (back c) (towards_joined s.towards (already d)) }

-- and commits
pub keeps_commit : KeepsCommit
keeps_commit P P' Q Q' c d k = record { between = k.between; step = from_congruent (back c) k.step; settles = keeps_settles k.between k.between Q Q' (same (linked_derived k.step).1) d k.settles }

-- and what is irreducible
pub keeps_irreducible : KeepsIrreducible
keeps_irreducible P P' c i = ((λ Q d. i.0 Q (from_congruent c d)), keeps_settled P P' c i.1)
