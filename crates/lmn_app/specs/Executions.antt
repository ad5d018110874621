-- What `exec` does with a listing beside a program.
use Rattle.std.specs.Prelude.{◌≡◌, ◌≤◌, ◌*◌, ◌++◌, ℕ, List, [], Some, false, length}
use Rattle.std.specs.List.{AllByRecursion, flat_map}
use Rattle.lmn_base.specs.declared.refusal.Refusal.{Refusal}
use Rattle.lmn_base.specs.declared.rule.Plain.{Plain}
use Rattle.lmn_base.specs.Names.{IsNames}
use Rattle.lmn_base.specs.Solids.{item_count}
use Rattle.lmn_base.specs.declared.solid.Solid.{Solid}
use Rattle.lmn_congruence.specs.Rules.{Name}
use Rattle.lmn_congruence.specs.SolidsOfPlains.{IsSolidOf}
use Rattle.lmn_congruence.specs.Translation.{region_of}
use Rattle.lmn_flatten_plain.specs.SolidLines.{as_level}
use Rattle.lmn_flatten_plain.specs.Words.{line_of}
use Rattle.lmn_instr_reading.specs.Reading.{AddsNames, NumbersNames}
use Rattle.lmn_guards.specs.declared.plan.GuardPlan.{GuardPlan}
use Rattle.lmn_instr_code.specs.declared.instr.Code.{Code}
use Rattle.lmn_verify_coded.specs.Solids.{RunStopped}
use Rattle.lmn_verify_listing.specs.Listings.{AreListed, IsRefusedListing}
use Rattle.lmn_verify_code.specs.Operands.{code_names}
use Rattle.lmn_verify_code.specs.Verified.{IsVerified}
use Rattle.lmn_order.specs.declared.order.Order.TheVariants as order
use Rattle.lmn_app_runs.specs.Runs.{end_line, word_of_stop}
use Rattle.lmn_app_runs.specs.declared.stop.Stop.{Stop}
use Rattle.lmn_app_runs.specs.declared.stop.Stop.TheVariants as stop
use Rattle.lmn_app_words.specs.declared.command.RunSettings.{RunSettings}
use Rattle.lmn_app_single.specs.declared.ending.Ending.{Ending}
use Rattle.lmn_app_single.specs.declared.ending.Ending.TheVariants.{Done, Budget, WriteFault, NoMemory, Full}
use Rattle.lmn_app_single.specs.Texts.{Accepts}
use Rattle.lmn_app_single.specs.Writing.{IsListing, WritesRun}

-- the most items of a process that codes run, and the most commits: what `run` takes by default
abbrev pub executed_size : ℕ
executed_size = 16777216

abbrev pub executed_budget : ℕ
executed_budget = 1000000

-- A program that is accepted, and codes of which the text is the listings: one for each of its rules, by their numbers. Each code is
-- verified, whatever rule it is of. The names of the codes stand in the list of the program or behind it, in the order in which the listing
-- has them first, and no others do.
pub record ReadsCodes (program listing : List ℕ) : Type 0 where
  pub names : List Name
  pub plain : Plain
  pub plans : List GuardPlan
  pub accepted : Accepts program names plain plans
  pub later : List Name
  pub adds : AddsNames (3 * length listing) names later
  pub once : IsNames later
  pub codes : List Code
  pub order : NumbersNames names (flat_map code_names codes) later
  pub are : AreListed (length plain.rules) later codes listing
  pub verified : AllByRecursion (λ code. IsVerified code (length plain.rules)) codes

-- what `run` is given with no option
abbrev pub run_by_default : RunSettings
run_by_default = record { trace = false; folded = false; budget = executed_budget; size = executed_size; order = order.First }

-- A run of the codes of a listing that stopped so, and what is written of it.
--   first, few   it begins with the solid of the program's plain, which has few enough items
--   ran          each commit is what the codes choose, the root asked first
--   is           the plain line of the last solid is written, and the end line
--   as_run       where the listing is that of the program, `run` with no option writes this of the program too
pub record IsExecuted (program listing : List ℕ) (why : Stop) (written : List ℕ) : Type 0 where
  pub of : ReadsCodes program listing
  pub first : Solid
  pub of_plain : IsSolidOf of.plain first
  pub few : item_count first ≤ executed_size
  pub commits : ℕ
  pub ran : RunStopped of.codes executed_budget executed_size first commits why
  pub is : written ≡ line_of (as_level (region_of of.later of.plain.rules ran.last)) ++ end_line (word_of_stop why) commits
  pub as_run : IsListing program listing → WritesRun run_by_default (Some (Some program)) why (Some []) (Some written)

-- What is written where the command ends so; where `out` failed, what was due.
abbrev pub IsExecutedAs : Ending → List ℕ → List ℕ → List ℕ → Type 0
IsExecutedAs Done program listing written = IsExecuted program listing stop.Irreducible written
IsExecutedAs Budget program listing written = IsExecuted program listing stop.Budget written
IsExecutedAs Full program listing written = IsExecuted program listing stop.Full written
IsExecutedAs NoMemory program listing written = IsExecuted program listing stop.NoMemory written
IsExecutedAs WriteFault program listing written = (why : Stop) × IsExecuted program listing why written
IsExecutedAs _ program listing written = ⊥

-- This is wrong in the listing beside the program, at the first column of a line: by the code 81 the line doesn't stand in its place, or
-- none stands where one is due; else by 82 the code that it begins isn't verified. The names
-- of the lines stand in the list of the program or behind it; by 82 in the order in which the listing has them first, as where codes are read.
pub record IsWrongListing (program listing : List ℕ) (refusal : Refusal) : Type 0 where
  pub names : List Name
  pub plain : Plain
  pub plans : List GuardPlan
  pub accepted : Accepts program names plain plans
  pub later : List Name
  pub adds : AddsNames (3 * length listing) names later
  pub once : IsNames later
  pub wrong : IsRefusedListing (length plain.rules) names later listing refusal.code refusal.pos.line
  pub first : refusal.pos.column ≡ 1
