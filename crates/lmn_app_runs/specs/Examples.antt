-- The lines of the run of a short text.
use Rattle.std.specs.Prelude.{ℕ, List, [], ◌∷◌, Contains, codes, false, true}
use Rattle.std.specs.declared.alloc.Global.{Global}
use Rattle.lmn_base.specs.Names.{IsNames}
use Rattle.lmn_congruence.specs.Process.{Process}
use Rattle.lmn_congruence.specs.Regions.{region_process}
use Rattle.lmn_congruence.specs.Rules.{Name}
use Rattle.lmn_reduction.specs.Examples.{label_a, label_b}
use Rattle.lmn_adequacy.specs.ChangeExamples.{changing}
use Rattle.lmn_adequacy.specs.Runs.{irreducible}
use Rattle.lmn_app_runs.specs.Runs.{Prints, StopsBy, at_end}

-- Of `a. a :- b.` two lines are printed, whatever list of names has both letters, and with the budget 1 the run stops there as
-- irreducible. No line alone is what is printed of it.
abbrev pub ShortRunPrints : Type 0
ShortRunPrints = (alloc : Global) (names : List Name) → IsNames names → Contains names (codes "a") → Contains names (codes "b") →
    let first : Process = region_process (changing (label_a ∷ [])) in
    let last : Process = region_process (changing (label_b ∷ [])) in
    Prints true false names first 1 last (codes "a. (a :- b).\n" ∷ codes "b. (a :- b).\n" ∷ []) × StopsBy 1 (at_end irreducible) 1 last
    × ((line : List ℕ) → ¬ (Prints true false names first 1 last (line ∷ [])))
