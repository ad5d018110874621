-- Laws of the words of the command line.
use Rattle.std.specs.Prelude.{◌≡◌, ◌↔◌, List, [], ◌∷◌, true, false, codes}
use Rattle.lmn_order.specs.declared.order.Order.TheVariants as order
use Rattle.lmn_app_words.specs.Forms.{Asks, InForm, IsFileName, IsForm, IsInRanges, Request, TextsAsk, CommandWord, texts_of, to_run}
use Rattle.std.specs.declared.string.String.{String}
use Rattle.std.specs.declared.alloc.Global.{Global}

-- words ask for something exactly where the first names a command and the others are its file, its number, or one file and each
-- option at most once
abbrev pub FormsAsk : Type 0
FormsAsk = (words : List (String Global)) → IsForm (texts_of words) ↔ InForm words

-- words ask for one thing at most
abbrev pub OneRequest : Type 0
OneRequest = (words : List (String Global)) (request : Request) → Asks words request
    → InForm words × ((other : Request) → Asks words other → other ≡ request)

-- what words ask for has its numbers in their ranges
abbrev pub RequestsInRanges : Type 0
RequestsInRanges = (words : List (String Global)) (request : Request) → Asks words request → IsInRanges request

-- an example: the words `run --folded FILE` ask for a run in the folded form, with all other defaults
abbrev pub FoldedRun : Type 0
FoldedRun = (file : CommandWord) → IsFileName file → TextsAsk (codes "run" ∷ codes "--folded" ∷ file ∷ [])
    (to_run (record { file = file; trace = false; folded = true; budget = 1000000; size = 16777216; order = order.First }))
