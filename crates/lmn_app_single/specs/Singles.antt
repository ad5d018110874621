-- How requests with one text are answered, a run, a listing or a demonstration, and that one with two texts is handed on.
use Rattle.std.specs.Prelude.{◌≡◌, ℕ, List, Some}
use Rattle.std.specs.declared.alloc.Global.{Global}
use Rattle.std.specs.declared.string.String.{String}
use Rattle.lmn_app_words.specs.Forms.{Asks, InForm, Pair, Request, pair_of, to_run, to_compile, to_demo, to_pair}
use Rattle.lmn_app_single.specs.declared.ending.Ending.{Ending}
use Rattle.lmn_app_single.specs.declared.ending.Ending.TheVariants.{Words, NoMemory}
use Rattle.lmn_app_single.specs.declared.task.Task.{Task}
use Rattle.lmn_app_single.specs.declared.task.Task.TheVariants as task
use Rattle.lmn_app_single.specs.declared.single.Acted.{Acted}
use Rattle.lmn_app_single.specs.declared.single.Acted.TheVariants as acted
use Rattle.lmn_app_single.specs.Demos.{demo_text}
use Rattle.lmn_app_single.specs.Endings.{Concludes}
use Rattle.lmn_app_single.specs.Outcomes.{Ended}
use Rattle.lmn_app_single.specs.Requests.{asked_program, folded_run, settings_of}
use Rattle.lmn_app_single.specs.Seen.{ShelfSeen, SinkSeen}
use Rattle.lmn_app_single.specs.Writing.{told_under}

-- A task with the text of a file ended so, and the shelf was asked for the file once.
pub record FileEnded (t : Task) (file : List ℕ) (ending : Ending) (shelf shelf_after : ShelfSeen) (out out_after : SinkSeen) : Type 0 where
  pub ended : Ended t ending (told_under shelf.told file) out.told out_after.told out.faults out_after.faults (shelf.faults file) (shelf_after.faults file)
  pub asked : shelf_after.asked ≡ asked_program file shelf.asked

-- A request with one text ended so; `demo` has a text of its own, and leaves the shelf as it was.
abbrev pub SingleEnded : Request → Ending → ShelfSeen → ShelfSeen → SinkSeen → SinkSeen → Type 0
SingleEnded (to_run run) ending shelf shelf_after out out_after = FileEnded (task.Run (settings_of run)) run.file ending shelf shelf_after out out_after
SingleEnded (to_compile file) ending shelf shelf_after out out_after = FileEnded task.List file ending shelf shelf_after out out_after
SingleEnded (to_demo n) ending shelf shelf_after out out_after =
    Ended (task.Run folded_run) ending (Some (Some (demo_text n))) out.told out_after.told out.faults out_after.faults 0 0 × (shelf_after ≡ shelf)
SingleEnded (to_pair pair) ending shelf shelf_after out out_after = ⊥

-- Words ended so:
--   performed  what they ask for was done, with one text
--   no_memory  no memory was found for them, and nothing was done
--   no_form    they aren't of the form, and nothing was done
pub data EndsSingle (args : List (String Global)) (ending : Ending) (shelf shelf_after : ShelfSeen) (out out_after : SinkSeen) : Type 0 where
  performed : (request : Request) → Asks args request → SingleEnded request ending shelf shelf_after out out_after → EndsSingle args ending shelf shelf_after out out_after
  no_memory : InForm args → ending ≡ NoMemory → shelf_after ≡ shelf → out_after ≡ out → EndsSingle args ending shelf shelf_after out out_after
  no_form : ¬ (InForm args) → ending ≡ Words → shelf_after ≡ shelf → out_after ≡ out → EndsSingle args ending shelf shelf_after out out_after

-- Words were acted on so: they ended, or they ask for a program and a second text, and nothing was done.
abbrev pub ActedSo : List (String Global) → Acted → ShelfSeen → ShelfSeen → SinkSeen → SinkSeen → Type 0
ActedSo args (acted.Ended ending) shelf shelf_after out out_after = EndsSingle args ending shelf shelf_after out out_after
ActedSo args (acted.Pair words) shelf shelf_after out out_after = Asks args (to_pair (pair_of words)) × (shelf_after ≡ shelf) × (out_after ≡ out)

-- A call with these words is answered by this status, and what is seen of its shelf, of `out` and of `err` before and after:
--   concluded  the words ended, and `err` took the line of the ending
--   handed_on  they ask for a program and a second text: the status is 12, and nothing was touched
pub data IsAnsweredSingle (args : List (String Global)) (result : ℕ) (shelf shelf_after : ShelfSeen) (out out_after err err_after : SinkSeen) : Type 0 where
  concluded : (ending : Ending) → EndsSingle args ending shelf shelf_after out out_after → Concludes ending result err.told err_after.told err.faults err_after.faults
      → IsAnsweredSingle args result shelf shelf_after out out_after err err_after
  handed_on : (pair : Pair) → Asks args (to_pair pair) → result ≡ 12 → shelf_after ≡ shelf → out_after ≡ out → err_after ≡ err
      → IsAnsweredSingle args result shelf shelf_after out out_after err err_after
