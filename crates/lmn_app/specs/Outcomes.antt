-- What a call leaves behind, for each of its endings.
use Rattle.std.specs.Prelude.{◌≡◌, ℕ, ◌⊎◌, ⊤, List, Option, Some}
use Rattle.lmn_io.specs.Counts.{Faults, Rose}
use Rattle.lmn_io.specs.Taking.{Takes, TakesPrefix}
use Rattle.lmn_app_single.specs.declared.ending.Ending.{Ending}
use Rattle.lmn_app_single.specs.declared.ending.Ending.TheVariants.{Done, Budget, Refused, Words, ReadFault, WriteFault, NoMemory, Full, SecondRefused}
use Rattle.lmn_app_single.specs.declared.task.Task.TheVariants as task
use Rattle.lmn_base.specs.declared.refusal.Refusal.{Refusal}
use Rattle.lmn_app_words.specs.declared.command.PairKind.{PairKind}
use Rattle.lmn_app_words.specs.Forms.{Pair, Request, to_run, to_compile, to_demo, to_pair}
use Rattle.lmn_app_single.specs.Demos.{demo_text}
use Rattle.lmn_app_single.specs.Outcomes.{Answers, Causes, CountsFaults, Output, RefusesText}
use Rattle.lmn_app.specs.Pairs.{PairAnswers, RefusesSecond, Writes, most_items_of_pair}
use Rattle.lmn_app.specs.Requests.{FetchesSecond}
use Rattle.lmn_app_single.specs.Requests.{asked_program, folded_run, settings_of}
use Rattle.lmn_app_single.specs.Seen.{ShelfSeen, SinkSeen}
use Rattle.lmn_app_single.specs.Writing.{told_under}

-- ---- commands with a program and a second text

-- why one ends so: of a map of texts, and the counts of its files, before and after
abbrev pub PairCauses : Pair → Ending → Option (List ℕ → Option (List ℕ)) → (List ℕ → ℕ) → (List ℕ → ℕ) → Type 0
PairCauses pair (Refused r) texts before after = RefusesText (most_items_of_pair pair.kind) (told_under texts pair.file) r
PairCauses pair Words texts before after = ⊥
PairCauses pair ReadFault texts before after = Rose (before pair.file) (after pair.file) ⊎ Rose (before pair.second) (after pair.second)
PairCauses pair (SecondRefused kind r) texts before after = RefusesSecond pair texts kind r
PairCauses pair ending texts before after = ⊤

-- what `out` took
abbrev pub PairOutput : Pair → Ending → Option (List ℕ → Option (List ℕ)) → Option (List ℕ) → Option (List ℕ) → Type 0
PairOutput pair Done texts old new = Writes pair Done texts (λ text. Takes text old new)
PairOutput pair Budget texts old new = Writes pair Budget texts (λ text. Takes text old new)
PairOutput pair Full texts old new = Writes pair Full texts (λ text. Takes text old new)
PairOutput pair NoMemory texts old new = (new ≡ old) ⊎ Writes pair NoMemory texts (λ text. Takes text old new)
PairOutput pair WriteFault texts old new = Writes pair WriteFault texts (λ text. TakesPrefix text old new)
PairOutput pair ending texts old new = new ≡ old

-- A command with a program and a second text ended so. The shelf was asked for the program once, and behind it for the second text as
-- the ending says.
pub record PairEnded (pair : Pair) (ending : Ending) (shelf shelf_after : ShelfSeen) (out out_after : SinkSeen) : Type 0 where
  pub cause : PairCauses pair ending shelf.told shelf.faults shelf_after.faults
  pub output : PairOutput pair ending shelf.told out.told out_after.told
  pub counts : CountsFaults ending out.faults out_after.faults
  pub asked : FetchesSecond pair ending shelf.told (asked_program pair.file shelf.asked) shelf_after.asked

-- ---- requests

-- why a request ends so
abbrev pub CausesOf : Request → Ending → Option (List ℕ → Option (List ℕ)) → (List ℕ → ℕ) → (List ℕ → ℕ) → Type 0
CausesOf (to_run run) ending texts before after = Causes (task.Run (settings_of run)) ending (told_under texts run.file) (before run.file) (after run.file)
CausesOf (to_compile file) ending texts before after = Causes task.List ending (told_under texts file) (before file) (after file)
CausesOf (to_demo n) ending texts before after = Causes (task.Run folded_run) ending (Some (Some (demo_text n))) 0 0
CausesOf (to_pair pair) ending texts before after = PairCauses pair ending texts before after

-- what `out` took of its texts
abbrev pub OutputOf : Request → Ending → Option (List ℕ → Option (List ℕ)) → Option (List ℕ) → Option (List ℕ) → Type 0
OutputOf (to_run run) ending texts old new = Output (task.Run (settings_of run)) ending (told_under texts run.file) old new
OutputOf (to_compile file) ending texts old new = Output task.List ending (told_under texts file) old new
OutputOf (to_demo n) ending texts old new = Output (task.Run folded_run) ending (Some (Some (demo_text n))) old new
OutputOf (to_pair pair) ending texts old new = PairOutput pair ending texts old new

-- the second text is refused so, where there is one
abbrev pub RefusesSecondOf : Request → Option (List ℕ → Option (List ℕ)) → PairKind → Refusal → Type 0
RefusesSecondOf (to_run run) texts kind r = ⊥
RefusesSecondOf (to_compile file) texts kind r = ⊥
RefusesSecondOf (to_demo n) texts kind r = ⊥
RefusesSecondOf (to_pair pair) texts kind r = RefusesSecond pair texts kind r

-- the statuses for an accepted program, where nothing fails
abbrev pub AnswersOf : Request → ℕ → Type 0
AnswersOf (to_run run) status = Answers (task.Run (settings_of run)) status
AnswersOf (to_compile file) status = Answers task.List status
AnswersOf (to_demo n) status = Answers (task.Run folded_run) status
AnswersOf (to_pair pair) status = PairAnswers pair.kind status

-- A request ended so.
pub record RequestEnded (c : Request) (ending : Ending) (texts : Option (List ℕ → Option (List ℕ))) (old new : Option (List ℕ)) (before after : Faults) (read_before read_after : List ℕ → ℕ) : Type 0 where
  pub cause : CausesOf c ending texts read_before read_after
  pub output : OutputOf c ending texts old new
  pub counts : CountsFaults ending before after
