-- What small guards bind.
use Rattle.std.proofs.Common.{refl}
use Rattle.lmn_adequacy_turns.specs.BoundExamples.{BindsFromLeft}

-- the conditions of the example bind from left to right
pub binds_from_left : BindsFromLeft
binds_from_left = record { bound = λ h p. refl; not_bound = λ h p q. refl }
