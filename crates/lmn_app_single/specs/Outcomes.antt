-- What a task with one text leaves behind, for each ending of a call.
use Rattle.std.specs.Prelude.{◌≡◌, ℕ, ◌⊎◌, ⊤, List, Option}
use Rattle.lmn_io.specs.Counts.{FailedLast, Faults, NoneFailed, Rose}
use Rattle.lmn_io.specs.Taking.{Takes, TakesPrefix}
use Rattle.lmn_app_runs.specs.declared.stop.Stop.TheVariants as stop
use Rattle.lmn_app_single.specs.declared.ending.Ending.{Ending}
use Rattle.lmn_app_single.specs.declared.ending.Ending.TheVariants.{Done, Budget, Refused, Words, ReadFault, WriteFault, NoMemory, Full, SecondRefused}
use Rattle.lmn_app_single.specs.declared.task.Task.{Task}
use Rattle.lmn_app_single.specs.declared.task.Task.TheVariants as task
use Rattle.lmn_base.specs.Codes.{IsTextCode}
use Rattle.lmn_app_single.specs.Texts.{IsRefusal}
use Rattle.lmn_base.specs.declared.refusal.Refusal.{Refusal}
use Rattle.lmn_app_single.specs.Requests.{most_items}
use Rattle.lmn_app_single.specs.Writing.{IsToldAnd, Told, Lists, WritesRun, WritesPartOfRun}

-- A text is refused so. It is the one that is told, if one is.
pub record RefusesText (size : Option ℕ) (told : Told) (refusal : Refusal) : Type 0 where
  pub text : List ℕ
  pub is_told : IsToldAnd told (λ found. found ≡ text)
  pub refused : IsRefusal size text refusal
  pub code : IsTextCode refusal.code

-- Why a task ends so: what is told of the text, and the count of faults of its file, before and after.
abbrev pub Causes : Task → Ending → Told → ℕ → ℕ → Type 0
Causes t (Refused r) text before after = RefusesText (most_items t) text r
Causes t Words text before after = ⊥
Causes t ReadFault text before after = Rose before after
Causes t (SecondRefused kind r) text before after = ⊥
Causes t ending text before after = ⊤

-- What `out` took of the text where a task ends so.
abbrev pub Output : Task → Ending → Told → Option (List ℕ) → Option (List ℕ) → Type 0
Output (task.Run s) Done text old new = WritesRun s text stop.Irreducible old new
Output (task.Run s) Budget text old new = WritesRun s text stop.Budget old new
Output (task.Run s) Full text old new = WritesRun s text stop.Full old new
Output (task.Run s) NoMemory text old new = (new ≡ old) ⊎ WritesRun s text stop.NoMemory old new
Output (task.Run s) WriteFault text old new = WritesPartOfRun s text old new
Output task.List Done text old new = Lists text (λ listing. Takes listing old new)
Output task.List Budget text old new = ⊥
Output task.List Full text old new = ⊥
Output task.List WriteFault text old new = Lists text (λ listing. TakesPrefix listing old new)
Output t ending text old new = new ≡ old

-- What it counts, before and after: the last put failed where the ending says so, and else none did.
abbrev pub CountsFaults : Ending → Faults → Faults → Type 0
CountsFaults WriteFault before after = FailedLast before after
CountsFaults ending before after = NoneFailed before after

-- the statuses of an accepted text, where nothing fails
abbrev pub Answers : Task → ℕ → Type 0
Answers (task.Run s) status = (status ≡ 0) ⊎ (status ≡ 1) ⊎ (status ≡ 7) ⊎ (status ≡ 6)
Answers task.List status = (status ≡ 0) ⊎ (status ≡ 6)

-- A task ended so.
pub record Ended (t : Task) (ending : Ending) (text : Told) (old new : Option (List ℕ)) (before after : Faults) (read_before read_after : ℕ) : Type 0 where
  pub cause : Causes t ending text read_before read_after
  pub output : Output t ending text old new
  pub counts : CountsFaults ending before after
