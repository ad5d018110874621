-- What follows of how a call is answered, promise by promise, by its status.
use Rattle.std.specs.Prelude.{◌≡◌, ◌≢◌, ◌≤◌, ◌⊎◌, ℕ, List, [], codes}
use Rattle.std.specs.declared.alloc.Global.{Global}
use Rattle.std.specs.declared.string.String.{String}
use Rattle.lmn_base.specs.declared.refusal.Refusal.{Refusal}
use Rattle.lmn_io.specs.Counts.{FailedLast, NoneBehindFailed, NoneFailed}
use Rattle.lmn_io.specs.Taking.{Takes, TakesPrefix}
use Rattle.lmn_app_words.specs.declared.command.PairKind.{PairKind}
use Rattle.lmn_app_words.specs.Forms.{InForm}
use Rattle.lmn_app_single.specs.declared.ending.Ending.{Ending}
use Rattle.lmn_app_single.specs.declared.ending.Ending.TheVariants.{Done, Budget, Words, WriteFault, NoMemory, Full}
use Rattle.lmn_app_single.specs.Endings.{line_of_ending, refusal_line}
use Rattle.lmn_app.specs.Calls.{IsAnswered}
use Rattle.lmn_app.specs.Outcomes.{AnswersOf, OutputOf, RefusesSecondOf, RequestEnded}
use Rattle.lmn_app_single.specs.Outcomes.{RefusesText}
use Rattle.lmn_app_single.specs.Requests.{Asked}
use Rattle.lmn_app_single.specs.Seen.{ShelfSeen, SinkSeen}
use Rattle.lmn_app.specs.Requests.{Fetches, FetchesAll, ReadRose, most_items_of, told_of}
use Rattle.lmn_app_single.specs.Endings.{second_status}
use Rattle.lmn_app_single.specs.Texts.{IsAccepted}
use Rattle.lmn_app_single.specs.Writing.{IfTold}

-- `out` failed, in what a command writes, and `err` took its whole line.
pub record OutFailed (args : List (String Global)) (shelf : ShelfSeen) (out out_after err err_after : SinkSeen) : Type 0 where
  pub output : Asked args (λ c. OutputOf c WriteFault shelf.told out.told out_after.told)
  pub failed : FailedLast out.faults out_after.faults
  pub line : Takes (codes "lmn: write failed\n") err.told err_after.told
  pub whole : NoneFailed err.faults err_after.faults

-- `err` failed, in the line of an ending: that of a request, or that of words that aren't of the form.
pub record ErrFailed (args : List (String Global)) (shelf shelf_after : ShelfSeen) (out out_after err err_after : SinkSeen) : Type 0 where
  pub failed : FailedLast err.faults err_after.faults
  pub ending : Ending
  pub has_line : line_of_ending ending ≢ []
  pub took : TakesPrefix (line_of_ending ending) err.told err_after.told
  pub ended : Asked args (λ c. RequestEnded c ending shelf.told out.told out_after.told out.faults out_after.faults shelf.faults shelf_after.faults)
      ⊎ (¬ (InForm args) × (ending ≡ Words) × (out_after.told ≡ out.told) × (out_after.faults ≡ out.faults))

-- A call with these words, this status, and what is seen of its shelf, of `out` and of `err` before and after, keeps all promises.
pub record KeepsPromises (args : List (String Global)) (result : ℕ) (shelf shelf_after : ShelfSeen) (out out_after err err_after : SinkSeen) : Type 0 where
  pub status : result ≤ 11
  -- Status 3 comes where the words aren't of the form; a failing `err` alone takes its place.
  pub words : result ≡ 3 → ¬ (InForm args)
  pub form : ¬ (InForm args) → (result ≡ 3) ⊎ ((result ≡ 5) × FailedLast err.faults err_after.faults)
  -- For the file of a program that the words name the shelf is asked once, for at most 4,194,304 bytes, or not at all where memory was
  -- wanting for the words. For the second text that they name it is asked behind it, once, and only where the program is accepted.
  -- Where they name no file, or aren't of the form, it isn't asked, and no count of it changes.
  pub asked : InForm args → Asked args (λ c. Fetches c shelf.told shelf.asked shelf_after.asked shelf.faults shelf_after.faults)
      ⊎ ((shelf_after.asked ≡ shelf.asked) × ((result ≡ 6) ⊎ ((result ≡ 5) × FailedLast err.faults err_after.faults)))
  pub not_asked : ¬ (InForm args) → shelf_after.asked ≡ shelf.asked
  pub unasked : ¬ (InForm args) → (name : List ℕ) → shelf_after.faults name ≡ shelf.faults name
  -- With 0, 1 and 7, and where the second text is refused, all that they name was asked for.
  pub fetched : (result ≡ 0) ⊎ (result ≡ 1) ⊎ (result ≡ 7) ⊎ (8 ≤ result) → Asked args (λ c. FetchesAll c shelf.asked shelf_after.asked)
  -- Status 4 comes only where the count of a file that is named rose, and 5 only where a put failed.
  pub read : result ≡ 4 → Asked args (λ c. ReadRose c shelf.faults shelf_after.faults)
  pub write : result ≡ 5 → FailedLast out.faults out_after.faults ⊎ FailedLast err.faults err_after.faults
  -- A put that fails is answered by 5: with every other status none failed.
  pub puts : ¬ (result ≡ 5) → NoneFailed out.faults out_after.faults × NoneFailed err.faults err_after.faults
  -- Behind a put that failed nothing more is put into its sink.
  pub last : NoneBehindFailed out.faults out_after.faults × NoneBehindFailed err.faults err_after.faults
  -- Status 2 comes where the text isn't accepted; 4, 5 and 6 alone take its place.
  pub refused : result ≡ 2 → Asked args (λ c. (refusal : Refusal) × RefusesText (most_items_of c) (told_of c shelf.told) refusal
      × Takes (refusal_line refusal) err.told err_after.told)
  pub not_accepted : InForm args → Asked args (λ c. IfTold (told_of c shelf.told) (λ text.
      ¬ (IsAccepted (most_items_of c) text) → (result ≡ 2) ⊎ (result ≡ 4) ⊎ (result ≡ 5) ⊎ (result ≡ 6)))
  -- A status above 7 comes where the second text of an accepted program is refused: 8 for a trace, 9 for a script, 10 for a listing, 11
  -- for weights.
  pub second : 8 ≤ result → Asked args (λ c. (kind : PairKind) × (refusal : Refusal) × (result ≡ second_status kind)
      × RefusesSecondOf c shelf.told kind refusal × Takes (refusal_line refusal) err.told err_after.told)
  -- Where nothing fails, the command does what it says for an accepted text, or memory is wanting.
  pub answers : InForm args → Asked args (λ c. ¬ (ReadRose c shelf.faults shelf_after.faults)
      → ¬ (FailedLast out.faults out_after.faults) → ¬ (FailedLast err.faults err_after.faults)
      → IfTold (told_of c shelf.told) (λ text. IsAccepted (most_items_of c) text → AnswersOf c result))
  -- What `out` took, for each status.
  pub out_done : result ≡ 0 → Asked args (λ c. OutputOf c Done shelf.told out.told out_after.told)
  pub out_budget : result ≡ 1 → Asked args (λ c. OutputOf c Budget shelf.told out.told out_after.told)
  pub out_full : result ≡ 7 → Asked args (λ c. OutputOf c Full shelf.told out.told out_after.told)
  pub out_memory : result ≡ 6 → Asked args (λ c. OutputOf c NoMemory shelf.told out.told out_after.told)
  pub out_untouched : (result ≡ 2) ⊎ (result ≡ 3) ⊎ (result ≡ 4) ⊎ (8 ≤ result) → out_after.told ≡ out.told
  -- What `err` took, for each status but 2 and those above 7.
  pub err_quiet : (result ≡ 0) ⊎ (result ≡ 1) ⊎ (result ≡ 7) → err_after.told ≡ err.told
  pub err_words : result ≡ 3 → Takes (codes "lmn: words not understood\n") err.told err_after.told
  pub err_read : result ≡ 4 → Takes (codes "lmn: read failed\n") err.told err_after.told
  pub err_memory : result ≡ 6 → Takes (codes "lmn: out of memory\n") err.told err_after.told
  -- With 5 either `out` failed or `err`.
  pub part : result ≡ 5 → OutFailed args shelf out out_after err err_after ⊎ ErrFailed args shelf shelf_after out out_after err err_after

-- a call that is answered keeps them
abbrev pub AnswersKeepPromises : Type 0
AnswersKeepPromises = (args : List (String Global)) (result : ℕ) (shelf shelf_after : ShelfSeen) (out out_after err err_after : SinkSeen) →
    IsAnswered args result shelf shelf_after out out_after err err_after → KeepsPromises args result shelf shelf_after out out_after err err_after
