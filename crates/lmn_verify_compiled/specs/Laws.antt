-- The rules of every accepted text can be listed.
use Rattle.std.specs.Prelude.{ℕ, ◌+◌, ◌<◌, ◌≤◌, ◌^◌, List, length}
use Rattle.lmn_base.specs.declared.rule.Plain.{Plain}
use Rattle.lmn_base.specs.Names.{first_names}
use Rattle.lmn_congruence.specs.Rules.{Name}
use Rattle.lmn_guards.specs.declared.plan.GuardPlan.{GuardPlan}
use Rattle.lmn_app_reading.specs.Texts.{IsAcceptedAs, LeavesNames}
use Rattle.lmn_verify_compiled.specs.CompiledListings.{CanBeListed}

-- Where a text of fewer than 2 ^ 31 bytes is accepted by the names that reading leaves, its rules can be listed with their plans.
abbrev pub AcceptedCanBeListed : Type 0
AcceptedCanBeListed = (text : List ℕ) (names : List Name) (plain : Plain) (plans : List GuardPlan)
    → length text < 2 ^ 31 → LeavesNames text first_names names → IsAcceptedAs text names plain plans → CanBeListed names plain plans

-- And there are at most 8 more of these names than the text has bytes.
abbrev pub AcceptedNamesAreFew : Type 0
AcceptedNamesAreFew = (text : List ℕ) (names : List Name) (plain : Plain) (plans : List GuardPlan)
    → LeavesNames text first_names names → IsAcceptedAs text names plain plans → length names ≤ length text + 8
