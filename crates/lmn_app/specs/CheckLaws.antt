-- What is said of a trace beside a program is said in one way, and what a run writes of its trace is checked.
use Rattle.std.specs.Prelude.{◌≡◌, ℕ, List, Option, None, true, false}
use Rattle.std.specs.declared.alloc.Global.{Global}
use Rattle.lmn_base.specs.declared.refusal.Refusal.{Refusal}
use Rattle.lmn_app_runs.specs.declared.stop.Stop.{Stop}
use Rattle.lmn_app_words.specs.declared.command.RunSettings.{RunSettings}
use Rattle.lmn_app.specs.Checks.{IsChecked, IsWrongTraceOf}
use Rattle.lmn_app_single.specs.Texts.{IsAccepted}
use Rattle.lmn_app_single.specs.Writing.{Told, WritesRun, run_text}

-- A trace is one of so many commits of a program at most. A box in a condition belongs to an allocator, so one is given, here and below.
abbrev pub OneCount : Type 0
OneCount = (alloc : Global) (program trace : List ℕ) (n m : ℕ) → IsChecked program trace n → IsChecked program trace m → n ≡ m

-- it isn't wrong too
abbrev pub CheckedNotWrong : Type 0
CheckedNotWrong = (alloc : Global) (program trace : List ℕ) (n : ℕ) (refusal : Refusal) → IsChecked program trace n → ¬ (IsWrongTraceOf program trace refusal)

-- and no trace is neither beside an accepted program
abbrev pub NeitherCheckedNorWrong : Type 0
NeitherCheckedNorWrong = (alloc : Global) (program trace : List ℕ) → IsAccepted None program →
    ¬ (((n : ℕ) → ¬ (IsChecked program trace n)) × ((refusal : Refusal) → ¬ (IsWrongTraceOf program trace refusal)))

-- a trace is wrong at one line at most, and in one way
abbrev pub OneWrongTrace : Type 0
OneWrongTrace = (alloc : Global) (program trace : List ℕ) (refusal other : Refusal) → IsWrongTraceOf program trace refusal → IsWrongTraceOf program trace other → refusal ≡ other

-- What `run --trace` writes without `--folded` of a program is one of its traces, however the run stops and whichever membrane is asked
-- first.
abbrev pub RunsAreChecked : Type 0
RunsAreChecked = (alloc : Global) (s : RunSettings) (told : Told) (why : Stop) (old new : Option (List ℕ)) → s.trace ≡ true → s.folded ≡ false →
    (w : WritesRun s told why old new) → IsChecked w.text (run_text w.lines why w.commits) w.commits
