-- Processes that are settled, and derivations of settling.
use Rattle.std.proofs.Common.{ℕ, ◌≡◌, ◌≢◌, ◌+◌, ◌≤◌, ◌⊎◌, ap, arith}
use Rattle.lmn_congruence.specs.Process.{Process, occurrences, Linked, Closed}
use Rattle.lmn_congruence.specs.Congruence.{Congruent, same, chain}
use Rattle.lmn_congruence.specs.Fused.{NoConnector, Joins, fused}
use Rattle.lmn_congruence.specs.LinkMaps.{SameCrossings}
use Rattle.lmn_reduction.specs.Steps.{up_to}
use Rattle.lmn_reduction.specs.Commits.{Settled, SettlesTowards, already, step_and}
use Rattle.lmn_congruence.proofs.Counts.{linked_both}
use Rattle.lmn_congruence.proofs.Crossings.{crossings}
use Rattle.lmn_congruence.proofs.Reordered.{reordered_crossings}
use Rattle.lmn_congruence.proofs.FewestCrossings.{crossings_fused, same_crossings_all}
use Rattle.lmn_congruence.proofs.LinkMaps.{joins_plain, fused_id}
use Rattle.lmn_reduction.proofs.SettlingSteps.{linked_derived, step_lowers, step_carries, towards_alike}
use Rattle.lmn_base.proofs.Numbers.{not_one_if_even}

not_less : (p q r s : ℕ) → p ≡ q + 2 → r ≤ q → s ≡ r → s ≢ p
not_less p q r s e b d = omega arith

-- where no membrane is crossed by more links than its atoms need, nothing settles
fewest_settled : (v : ℕ → ℕ) (P : Process) → Joins v P → crossings (fused v P) ≡ crossings P → Settled P
fewest_settled v P j e = λ Q s.
    let i = (step_carries s).0 v j in
    absurd (not_less (crossings P) (crossings Q) (crossings (fused i.to Q)) (crossings (fused v P)) (step_lowers s) (crossings_fused i.to Q i.joins (linked_derived s).1) (reordered_crossings i.order) e)

-- a process is settled where a map joins its connectors and each membrane keeps its crossings
pub same_crossings_settled : (v : ℕ → ℕ) (P : Process) → Joins v P → SameCrossings v P → Settled P
same_crossings_settled v P j e = fewest_settled v P j (same_crossings_all v P e)

-- a process without connectors is settled
pub no_connector_settled : (P : Process) → NoConnector P → Settled P
no_connector_settled P n = fewest_settled (λ x. x) P (joins_plain (λ x. x) P n) (ap crossings (fused_id P n))

-- a settled process that goes on by settling steps makes none
pub settled_congruent : {P Q : Process} → Settled P → SettlesTowards P Q → Congruent P Q
settled_congruent s (already c) = c
settled_congruent s (step_and {Q = Q} d t) = absurd (s Q d)

-- ---- derivations of settling

-- what settling steps come to is linked
pub towards_linked : {P Q : Process} → SettlesTowards P Q → Linked Q
towards_linked (already c) = (linked_both c).1
towards_linked (step_and s t) = towards_linked t

closed_by : (n : ℕ) → n ≤ 2 → n ≢ 1 → (n ≡ 0) ⊎ (n ≡ 2)
closed_by n b e = grind arith

-- and closed, where it was closed before
pub towards_closed : {P Q : Process} → SettlesTowards P Q → Closed P → Closed Q
towards_closed {P = P} {Q = Q} t c = λ z. closed_by (occurrences z Q) ((towards_linked t).at_most_twice z) (λ e. not_one_if_even (occurrences z P) (c z) ((towards_alike t z).back_again e))

-- a congruence and then settling steps are settling steps
pub settle_after : {P Q S : Process} → Congruent P Q → SettlesTowards Q S → SettlesTowards P S
settle_after c (already d) = already (chain c d)
settle_after c (step_and s t) = step_and (up_to c s (same (linked_derived s).1)) t

-- settling steps one after the other are settling steps
pub towards_joined : {P Q S : Process} → SettlesTowards P Q → SettlesTowards Q S → SettlesTowards P S
towards_joined (already c) t = settle_after c t
towards_joined (step_and s t) u = step_and s (towards_joined t u)
