-- What commands write of a text.
use Rattle.std.specs.Prelude.{◌≡◌, ◌≤◌, ℕ, length, List, ◌++◌, Option, Some, IfSome, IsSomeAnd, option_map}
use Rattle.std.specs.List.{concat}
use Rattle.lmn_base.specs.declared.rule.Plain.{Plain}
use Rattle.lmn_congruence.specs.Rules.{Name}
use Rattle.lmn_guards.specs.declared.plan.GuardPlan.{GuardPlan}
use Rattle.lmn_io.specs.Taking.{Takes, TakesPrefix}
use Rattle.lmn_compile_listing.specs.Listings.{rule_listings}
use Rattle.lmn_app_runs.specs.Runs.{Given, StopsSo, end_line, word_of_stop}
use Rattle.lmn_app_runs.specs.declared.stop.Stop.{Stop}
use Rattle.lmn_app_single.specs.Runs.{IsRun, IsTraceOf}
use Rattle.lmn_app_single.specs.Texts.{Accepts, text_bytes}
use Rattle.lmn_order.specs.Orders.{chosen}
use Rattle.lmn_app_words.specs.declared.command.RunSettings.{RunSettings}

-- What is told of a text: nothing (None), that it isn't there (Some None), or its bytes (Some (Some bytes)). No type of its own:
-- so what the library says of options is said of it.
abbrev pub Told : Type 0
Told = Option (Option (List ℕ))

-- what a map of texts, if one is told, has under a name
abbrev pub told_under : Option (List ℕ → Option (List ℕ)) → List ℕ → Told
told_under texts name = option_map (λ under. under name) texts

-- where a map is told, the text is there, and this holds of it
abbrev pub IsToldAnd : Told → (List ℕ → Type 0) → Type 0
IsToldAnd told P = IfSome told (λ found. IsSomeAnd found P)

-- where a map is told and the text is there, this holds of it
abbrev pub IfTold : Told → (List ℕ → Type 0) → Type 0
IfTold told P = IfSome told (λ found. IfSome found P)

-- the text is short enough, and it is the one that is told, if one is
abbrev pub IsTextOf : Told → List ℕ → Type 0
IsTextOf told text = (length text ≤ text_bytes) × IfSome told (λ found. found ≡ Some text)

-- ---- runs

-- what a run is given
abbrev pub given : RunSettings → Given
given s = record { trace = s.trace; folded = s.folded; budget = s.budget; size = s.size; chooser = chosen s.order }

-- process lines, and the end line
abbrev pub run_text : List (List ℕ) → Stop → ℕ → List ℕ
run_text lines why commits = concat lines ++ end_line (word_of_stop why) commits

-- A run of the text stopped so, and its lines were taken. The text is the one that is told, if one is, and is accepted with a plain
-- (`trace`). The lines are those of a run of that plain in the calculus (`run`), and which run that is the strategy says (`trace`).
pub record WritesRun (s : RunSettings) (told : Told) (why : Stop) (old new : Option (List ℕ)) : Type 0 where
  pub text : List ℕ
  pub is_told : IsToldAnd told (λ found. found ≡ text)
  pub lines : List (List ℕ)
  pub commits : ℕ
  pub trace : IsTraceOf (given s) text lines commits
  pub run : IsRun s.trace s.folded s.budget trace.names trace.plain lines why commits
  pub stops : StopsSo (given s) commits trace.last why
  pub took : Takes (run_text lines why commits) old new

-- A prefix of the lines of a run of the text was taken, with the word that is due: that of the end of its trace, or `no memory` where
-- the trace goes on.
pub record WritesPartOfRun (s : RunSettings) (told : Told) (old new : Option (List ℕ)) : Type 0 where
  pub text : List ℕ
  pub is_told : IsToldAnd told (λ found. found ≡ text)
  pub lines : List (List ℕ)
  pub commits : ℕ
  pub trace : IsTraceOf (given s) text lines commits
  pub run : (why : Stop) → StopsSo (given s) commits trace.last why → IsRun s.trace s.folded s.budget trace.names trace.plain lines why commits
  pub took : (why : Stop) → StopsSo (given s) commits trace.last why → TakesPrefix (run_text lines why commits) old new

-- ---- listings

-- The listing of the code of each rule of the text, by rising number.
pub record IsListing (text listing : List ℕ) : Type 0 where
  pub names : List Name
  pub plain : Plain
  pub plans : List GuardPlan
  pub accepted : Accepts text names plain plans
  pub is : listing ≡ rule_listings names plain.rules plans

-- So much was taken of the listing of the text, which is the one that is told, if one is.
pub record Lists (told : Told) (Took : List ℕ → Type 0) : Type 0 where
  pub text : List ℕ
  pub is_told : IsToldAnd told (λ found. found ≡ text)
  pub listing : List ℕ
  pub of : IsListing text listing
  pub took : Took listing
