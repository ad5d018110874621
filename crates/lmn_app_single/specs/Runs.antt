-- What a run of a text is, as it is printed: in the language and its calculus, and by the strategy.
use Rattle.std.specs.Prelude.{ℕ, ◌≡◌, ◌≤◌, List, Bool, length}
use Rattle.std.specs.List.{AllZip}
use Rattle.lmn_base.specs.declared.rule.Plain.{Plain}
use Rattle.lmn_congruence.specs.Plains.{SolidOf}
use Rattle.lmn_congruence.specs.Process.{Process}
use Rattle.lmn_congruence.specs.Regions.{Region, item_count_of_region}
use Rattle.lmn_congruence.specs.Rules.{Name}
use Rattle.lmn_congruence.specs.Translation.{plain_process, top_of}
use Rattle.lmn_guards.specs.declared.plan.GuardPlan.{GuardPlan}
use Rattle.lmn_print_folded.specs.Lines.{IsLine}
use Rattle.lmn_reduction.specs.Commits.{Settles}
use Rattle.lmn_adequacy.specs.Numbered.{IsNumbered}
use Rattle.lmn_adequacy.specs.Runs.{Trace}
use Rattle.lmn_app_runs.specs.Runs.{Given, Prints, StopsBy, printed}
use Rattle.lmn_app_runs.specs.declared.stop.Stop.{Stop}
use Rattle.lmn_app_single.specs.Texts.{Accepts}

-- These lines are printed of the plain of a text by a run that stops after n commits. The process of the plain settles to the first
-- process, and the lines are those of processes that come from there, each by one commit (`Prints`).
pub record IsRun (trace folded : Bool) (budget : ℕ) (names : List Name) (plain : Plain) (lines : List (List ℕ)) (why : Stop) (n : ℕ) : Type 0 where
  pub first : Process
  pub settles : Settles (plain_process names plain) first
  pub last : Process
  pub prints : Prints trace folded names first n last lines
  pub stops : StopsBy budget why n last

-- The trace of a text under what a run is given, cut after n commits, and its lines: it begins with the solid of the text's plain,
-- its links numbered in printed order, which has few enough items.
pub record IsTraceOf (g : Given) (text : List ℕ) (lines : List (List ℕ)) (n : ℕ) : Type 0 where
  pub names : List Name
  pub plain : Plain
  pub plans : List GuardPlan
  pub accepted : Accepts text names plain plans
  pub solid : Region
  pub of_plain : SolidOf (top_of names plain) solid
  pub numbered : IsNumbered solid
  pub few : item_count_of_region solid ≤ g.size
  pub before : List Region
  pub last : Region
  pub trace : Trace g.chooser g.budget g.size solid before last
  pub count : length before ≡ n
  pub are : AllZip (IsLine g.folded) (printed g.trace before last) lines
