-- The laws of weights.
use Rattle.std.specs.Prelude.{ℕ, ◌≡◌, ◌+◌, ◌≤◌, ◌<◌}
use Rattle.lmn_congruence.specs.Congruence.{Congruent}
use Rattle.lmn_congruence.specs.Plains.{level_process}
use Rattle.lmn_congruence.specs.Process.{Process}
use Rattle.lmn_congruence.specs.Rules.{Level, Rule}
use Rattle.lmn_reduction.specs.Chains.{Commits}
use Rattle.lmn_reduction.specs.Commits.{Settles}
use Rattle.lmn_reduction.specs.Firing.{Fires}
use Rattle.lmn_adequacy.specs.Accepted.{Accepted, ThroughoutLevel}
use Rattle.lmn_weight.specs.Lowered.{Lowered}
use Rattle.lmn_weight.specs.Weights.{Weighing, weight}

-- congruent processes weigh the same
abbrev pub CongruenceKeepsWeight : Type 0
CongruenceKeepsWeight = (w : Weighing) (P Q : Process) → Congruent P Q → weight w P ≡ weight w Q

-- and so do a process and what it settles to
abbrev pub SettlingKeepsWeight : Type 0
SettlingKeepsWeight = (w : Weighing) (P Q : Process) → Settles P Q → weight w P ≡ weight w Q

-- where a rule that is lowered fires, what it makes weighs less than what it takes
abbrev pub LoweredRulesLower : Type 0
LoweredRulesLower = (w : Weighing) (r : Rule) (A B : Process) → Accepted r → Lowered w r → Fires r A B → weight w B < weight w A

-- Where each rule of a top, those in rules too, is accepted and lowered, there are at most as many commits as its
-- process weighs, whatever is chosen; and what is left weighs no more than the commits leave of it.
abbrev pub WeightBoundsCommits : Type 0
WeightBoundsCommits = (w : Weighing) (top : Level) → ThroughoutLevel (λ r. Accepted r × Lowered w r) top →
    (first last : Process) (n : ℕ) → Settles (level_process top) first → Commits n first last →
    n + weight w last ≤ weight w (level_process top)
