-- That an accepted text can be loaded.
use Rattle.std.specs.Prelude.{ℕ, ◌≡◌, ◌++◌, List}
use Rattle.lmn_base.specs.declared.rule.Plain.{Plain}
use Rattle.lmn_base.specs.Names.{IsNames, first_names}
use Rattle.lmn_congruence.specs.Rules.{Name}
use Rattle.lmn_congruence.specs.Translation.{top_of}
use Rattle.lmn_guards.specs.declared.plan.GuardPlan.{GuardPlan}
use Rattle.lmn_app_reading.specs.Texts.{IsAcceptedAs, LeavesNames}
use Rattle.lmn_schedule.specs.Held.{AreNames, CanBeLoaded}

-- the plain of a text that is accepted by the names that reading leaves is, with its plans, one that an engine loads
abbrev pub AcceptedCanBeLoaded : Type 0
AcceptedCanBeLoaded = (text : List ℕ) (names : List Name) (plain : Plain) (plans : List GuardPlan)
    → LeavesNames text first_names names → IsAcceptedAs text names plain plans → CanBeLoaded plain plans

-- and the list of these names has the names of that plain
abbrev pub AcceptedAreNamed : Type 0
AcceptedAreNamed = (text : List ℕ) (names : List Name) (plain : Plain) (plans : List GuardPlan)
    → LeavesNames text first_names names → IsAcceptedAs text names plain plans → AreNames names plain

-- So does a list that goes on behind them, as once another text is read; by it the top of the plain is the same.
abbrev pub AcceptedAreNamedBehind : Type 0
AcceptedAreNamedBehind = (text : List ℕ) (names more : List Name) (plain : Plain) (plans : List GuardPlan)
    → LeavesNames text first_names names → IsAcceptedAs text names plain plans → IsNames (names ++ more)
    → AreNames (names ++ more) plain × (top_of (names ++ more) plain ≡ top_of names plain)
