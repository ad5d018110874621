-- What `demo` does.
use Rattle.std.specs.Prelude.{◌≡◌, ℕ, List, [], ◌∷◌, codes}
use Rattle.lmn_app_words.specs.Forms.{IsFileName, Run, TextsAsk, to_run}
use Rattle.lmn_app_single.specs.Requests.{folded_run, settings_of}

-- what `demo` does with its text is what the words `run --folded FILE` ask to do with a file
abbrev pub DemoIsFoldedRun : Type 0
DemoIsFoldedRun = (file : List ℕ) → IsFileName file
    → (run : Run) × TextsAsk (codes "run" ∷ codes "--folded" ∷ file ∷ []) (to_run run) × (folded_run ≡ settings_of run)
