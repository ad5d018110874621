-- What the program of requests with one text answers, beside what the whole program may answer.
use Rattle.std.specs.Prelude.{◌≡◌, ℕ, List, [], codes}
use Rattle.std.specs.declared.alloc.Global.{Global}
use Rattle.std.specs.declared.string.String.{String}
use Rattle.lmn_app_words.specs.Forms.{Asks, Pair, to_compile, to_pair}
use Rattle.lmn_app_single.specs.declared.ending.Ending.TheVariants.{ReadFault, Words}
use Rattle.lmn_app_single.specs.Requests.{asked_program}
use Rattle.lmn_app_single.specs.Seen.{ShelfSeen, SinkSeen}
use Rattle.lmn_app_single.specs.Singles.{IsAnsweredSingle, SingleEnded}
use Rattle.lmn_app.specs.Calls.{IsAnswered}
use Rattle.lmn_app.specs.CallExamples.{taken, with_line}

-- but for 12, what it answers the whole program may answer
abbrev pub SinglesAreAnswers : Type 0
SinglesAreAnswers = (args : List (String Global)) (result : ℕ) (shelf shelf_after : ShelfSeen) (out out_after err err_after : SinkSeen) →
    IsAnsweredSingle args result shelf shelf_after out out_after err err_after → ¬ (result ≡ 12) → IsAnswered args result shelf shelf_after out out_after err err_after

-- an example: no words are answered by 3 and a line, and not by 12
abbrev pub NoWordsAreSingle : Type 0
NoWordsAreSingle = (shelf : ShelfSeen) →
    IsAnsweredSingle [] 3 shelf shelf (taken []) (taken []) (taken []) (with_line (codes "lmn: words not understood\n"))
    × ((shelf_after : ShelfSeen) (out_after err_after : SinkSeen) → ¬ (IsAnsweredSingle [] 12 shelf shelf_after (taken []) out_after (taken []) err_after))

-- words that ask for a program and a second text are answered by 12 where nothing was touched, and not by 0
abbrev pub PairsAreHandedOn : Type 0
PairsAreHandedOn = (args : List (String Global)) (pair : Pair) → Asks args (to_pair pair) → (shelf : ShelfSeen) (out err : SinkSeen) →
    IsAnsweredSingle args 12 shelf shelf out out err err
    × ((shelf_after : ShelfSeen) (out_after err_after : SinkSeen) → ¬ (IsAnsweredSingle args 0 shelf shelf_after out out_after err err_after))

-- a shelf with a file that can't be read, before it is asked and behind that
abbrev pub unreadable : ShelfSeen → ShelfSeen
unreadable shelf = record { told = shelf.told; asked = shelf.asked; faults = λ name. 0 }

abbrev pub unread : ShelfSeen → ShelfSeen
unread shelf = record { told = shelf.told; asked = asked_program (codes "a") shelf.asked; faults = λ name. 1 }

-- a listing of this file ends with the fault, and not for its words
abbrev pub ListingIsUnread : Type 0
ListingIsUnread = (shelf : ShelfSeen) (out : SinkSeen) → SingleEnded (to_compile (codes "a")) ReadFault (unreadable shelf) (unread shelf) out out
    × ¬ (SingleEnded (to_compile (codes "a")) Words (unreadable shelf) (unread shelf) out out)
