-- What `exec` does by the listing that `compile` writes is what `run` does, and what it does by any listing is one.
use Rattle.std.specs.Prelude.{◌≡◌, ◌≤◌, ℕ, List, [], Some, None, length}
use Rattle.lmn_base.specs.declared.refusal.Refusal.{Refusal}
use Rattle.lmn_verify_coded.specs.Laws.{CameToEnd}
use Rattle.lmn_app_words.specs.declared.command.PairKind.TheVariants.{Exec}
use Rattle.lmn_app_single.specs.declared.ending.Ending.{Ending}
use Rattle.lmn_app_single.specs.declared.ending.Ending.TheVariants.{Done, Budget, Full, NoMemory}
use Rattle.lmn_app_single.specs.declared.task.Task.TheVariants as task
use Rattle.lmn_app.specs.Executions.{IsExecuted, IsWrongListing, ReadsCodes, run_by_default}
use Rattle.lmn_app_single.specs.Outcomes.{Output}
use Rattle.lmn_app.specs.SecondTexts.{second_bytes}
use Rattle.lmn_app_single.specs.Texts.{IsAccepted}
use Rattle.lmn_app_single.specs.Writing.{IsListing}
use Rattle.lmn_app_runs.specs.declared.stop.Stop.{Stop}
use Rattle.lmn_app_runs.specs.declared.stop.Stop.TheVariants as stop

-- how `run` ends that stopped so
abbrev pub EndsAs : Stop → Ending → Type 0
EndsAs stop.Irreducible ending = ending ≡ Done
EndsAs stop.Budget ending = ending ≡ Budget
EndsAs stop.Full ending = ending ≡ Full
EndsAs stop.NoMemory ending = ending ≡ NoMemory

-- Where the listing is that of the program, what is written by it is what `run` writes of the program, with the same ending.
abbrev pub CompiledRunsAsRun : Type 0
CompiledRunsAsRun = (program listing written : List ℕ) (why : Stop) (ending : Ending) → EndsAs why ending → IsListing program listing → IsExecuted program listing why written →
    Output (task.Run run_by_default) ending (Some (Some program)) (Some []) (Some written)

-- And that listing isn't refused.
abbrev pub CompiledIsNotWrong : Type 0
CompiledIsNotWrong = (program listing : List ℕ) (refusal : Refusal) → IsListing program listing → IsWrongListing program listing refusal → ⊥

-- A listing that is read beside a program isn't refused beside it,
abbrev pub ReadNotRefused : Type 0
ReadNotRefused = (program listing : List ℕ) (refusal : Refusal) → ReadsCodes program listing → ¬ (IsWrongListing program listing refusal)

-- and it is refused by one code at one place at most.
abbrev pub OneWrongListing : Type 0
OneWrongListing = (program listing : List ℕ) (refusal other : Refusal) → IsWrongListing program listing refusal → IsWrongListing program listing other → refusal ≡ other

-- Beside an accepted program no listing that isn't too long is neither read nor refused.
abbrev pub NeitherReadNorRefused : Type 0
NeitherReadNorRefused = (program listing : List ℕ) → IsAccepted None program → length listing ≤ second_bytes Exec
    → ¬ (¬ (ReadsCodes program listing) × ((refusal : Refusal) → ¬ (IsWrongListing program listing refusal)))

-- Two executions of one listing beside one program have as many commits, one end and one text, where both came to their end. Program and
-- listing determine the list of names.
abbrev pub OneOutput : Type 0
OneOutput = (program listing written other : List ℕ) (why last : Stop) → CameToEnd why → CameToEnd last →
    (x : IsExecuted program listing why written) (y : IsExecuted program listing last other) → (x.commits ≡ y.commits) × (why ≡ last) × (written ≡ other)
