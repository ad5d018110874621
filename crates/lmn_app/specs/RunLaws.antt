-- What is written of a run of a text is one text.
use Rattle.std.specs.Prelude.{◌≡◌, ◌≤◌, ◌++◌, ℕ, List, [], Option, Some, true}
use Rattle.lmn_adequacy.specs.Runs.{End}
use Rattle.lmn_app_runs.specs.Runs.{at_end}
use Rattle.lmn_app_runs.specs.declared.stop.Stop.{Stop}
use Rattle.lmn_app_words.specs.declared.command.RunSettings.{RunSettings}
use Rattle.lmn_app_single.specs.Writing.{WritesRun}

-- Two runs of one text that are given the same and that came to their end have as many commits, one end and one output.
abbrev pub OneRun : Type 0
OneRun = (s : RunSettings) (text : List ℕ) (e d : End) (out other : List ℕ) →
    (w : WritesRun s (Some (Some text)) (at_end e) (Some []) (Some out)) (v : WritesRun s (Some (Some text)) (at_end d) (Some []) (Some other)) →
    (w.commits ≡ v.commits) × (e ≡ d) × (out ≡ other)

-- However they stop, after as many commits their lines are the same: where memory was wanting too.
abbrev pub OneRunSoFar : Type 0
OneRunSoFar = (s : RunSettings) (text : List ℕ) (why because : Stop) (old new older newer : Option (List ℕ)) →
    (w : WritesRun s (Some (Some text)) why old new) (v : WritesRun s (Some (Some text)) because older newer) → w.commits ≡ v.commits → w.lines ≡ v.lines

-- And with a trace the lines of fewer commits stand first among those of more.
abbrev pub EarlierRunFirst : Type 0
EarlierRunFirst = (s : RunSettings) (text : List ℕ) (why because : Stop) (old new older newer : Option (List ℕ)) → s.trace ≡ true →
    (w : WritesRun s (Some (Some text)) why old new) (v : WritesRun s (Some (Some text)) because older newer) → w.commits ≤ v.commits →
    (rest : List (List ℕ)) × (v.lines ≡ w.lines ++ rest)
