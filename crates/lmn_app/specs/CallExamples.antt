-- A text that is refused, calls that are answered, and what a shelf and a sink tell of them.
use Rattle.std.specs.Prelude.{◌≡◌, ℕ, List, [], ◌∷◌, Option, None, Some, Ok, Err, codes}
use Rattle.lmn_base.specs.declared.refusal.Refusal.{Refusal}
use Rattle.lmn_io.specs.Counts.{Faults, one_more_fault, one_more_put}
use Rattle.lmn_io.specs.Taking.{TellsWritten}
use Rattle.lmn_debug.specs.Debugged.{CountsObeyed}
use Rattle.lmn_debug.specs.declared.debugging.DebugFault.TheVariants.{Failed}
use Rattle.lmn_app_words.specs.declared.command.PairKind.TheVariants.{Check}
use Rattle.lmn_app_words.specs.Forms.{Pair, to_compile}
use Rattle.lmn_app.specs.Calls.{IsAnswered}
use Rattle.lmn_app_single.specs.declared.ending.Ending.TheVariants.{Done, NoMemory}
use Rattle.lmn_app_single.specs.Seen.{ShelfSeen, SinkSeen}
use Rattle.lmn_app_single.specs.Outcomes.{RefusesText}
use Rattle.lmn_app.specs.Pairs.{HasProgram}
use Rattle.lmn_app.specs.Requests.{Fetches, FetchesSecond}
use Rattle.lmn_app.specs.SecondTexts.{second_bytes}
use Rattle.lmn_app.specs.TextExamples.{small_text}
use Rattle.lmn_app_single.specs.Texts.{IsAccepted, IsRefusal, at_start, text_bytes}

-- a quote, which begins a string
abbrev pub quote_alone : List ℕ
quote_alone = codes "\""

-- It is refused at its beginning by the code 7, whatever size is asked; by nothing else; and it isn't accepted.
abbrev pub QuoteIsRefused : Type 0
QuoteIsRefused = (size : Option ℕ) →
    IsRefusal size quote_alone (at_start 7) × ((refusal : Refusal) → IsRefusal size quote_alone refusal → refusal ≡ at_start 7) × ¬ (IsAccepted size quote_alone)

-- So it is said where this text is told, and where none is. Where `a. a :- b.` is told no refusal is said.
abbrev pub QuoteIsToldRefused : Type 0
QuoteIsToldRefused =
    RefusesText None (Some (Some quote_alone)) (at_start 7) × RefusesText None None (at_start 7) × ((refusal : Refusal) → ¬ (RefusesText None (Some (Some small_text)) refusal))

-- For a listing its file is asked for once, and not at all or another doesn't do.
abbrev pub FileIsFetchedOnce : Type 0
FileIsFetchedOnce = (texts : Option (List ℕ → Option (List ℕ))) (before after : List ℕ → ℕ) →
    Fetches (to_compile (codes "a")) texts (Some []) (Some (record { name = codes "a"; most = text_bytes } ∷ [])) before after
    × ¬ (Fetches (to_compile (codes "a")) texts (Some []) (Some []) before after)
    × ¬ (Fetches (to_compile (codes "a")) texts (Some []) (Some (record { name = codes "b"; most = text_bytes } ∷ [])) before after)

-- a check of a program and a trace
abbrev pub small_check : Pair
small_check = record { kind = Check; file = codes "f"; second = codes "t" }

-- A check that is done of an accepted program asked for its trace; to ask for nothing doesn't do, but where memory is wanting.
abbrev pub TraceIsFetchedBehind : Type 0
TraceIsFetchedBehind = (texts : Option (List ℕ → Option (List ℕ))) → HasProgram small_check texts →
    FetchesSecond small_check Done texts (Some []) (Some (record { name = codes "t"; most = second_bytes Check } ∷ []))
    × ¬ (FetchesSecond small_check Done texts (Some []) (Some []))
    × FetchesSecond small_check NoMemory texts (Some []) (Some [])

-- what a sink counts that was asked for nothing
abbrev pub not_put : Faults
not_put = record { count = 0; since = 0 }

-- a sink that took these bytes and of which no put failed
abbrev pub taken : List ℕ → SinkSeen
taken bytes = record { told = Some bytes; faults = not_put }

-- and with one put more, that took a line, or that failed and took nothing
abbrev pub with_line : List ℕ → SinkSeen
with_line line = record { told = Some line; faults = one_more_put not_put }

abbrev pub with_fault : SinkSeen
with_fault = record { told = Some []; faults = one_more_fault not_put }

-- No words aren't of the form. They are answered by 3 and a line, or by 5 where `err` fails, and not by 0.
abbrev pub NoWordsAreAnswered : Type 0
NoWordsAreAnswered = (shelf : ShelfSeen) →
    IsAnswered [] 3 shelf shelf (taken []) (taken []) (taken []) (with_line (codes "lmn: words not understood\n"))
    × IsAnswered [] 5 shelf shelf (taken []) (taken []) (taken []) with_fault
    × ((err_after : SinkSeen) → ¬ (IsAnswered [] 0 shelf shelf (taken []) (taken []) (taken []) err_after))

-- A sink that tells one byte more, which its writer holds more, tells what was written. Where the writer holds nothing it doesn't.
abbrev pub ByteIsToldWritten : Type 0
ByteIsToldWritten = TellsWritten [] (5 ∷ []) (Some []) (Some (5 ∷ [])) × ¬ (TellsWritten [] (5 ∷ []) (Some []) (Some []))

-- Orders that are all carried out leave the count, and where the sink failed its count rose; else it doesn't count so.
abbrev pub OrdersCountSo : Type 0
OrdersCountSo =
    CountsObeyed {A = Unit {0}} (Ok tt) not_put not_put × ¬ (CountsObeyed {A = Unit {0}} (Ok tt) not_put (one_more_fault not_put))
    × CountsObeyed {A = Unit {0}} (Err Failed) not_put (one_more_fault not_put) × ¬ (CountsObeyed {A = Unit {0}} (Err Failed) not_put not_put)
