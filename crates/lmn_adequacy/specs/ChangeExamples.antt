-- Small solids in which `a` becomes `b`: their next ones, commits and traces.
use Rattle.std.specs.Prelude.{List, [], ◌∷◌, map}
use Rattle.lmn_congruence.specs.Process.{Process}
use Rattle.lmn_congruence.specs.Regions.{Region, region, no_region, region_process, solid_atom_with}
use Rattle.lmn_congruence.specs.Rules.{Label, Rule, atom_leaf, only_leaves, rule_of}
use Rattle.lmn_reduction.specs.Chains.{Commits}
use Rattle.lmn_reduction.specs.Commits.{Commit, Irreducible}
use Rattle.lmn_reduction.specs.Examples.{label_a, label_b, label_c}
use Rattle.lmn_adequacy.specs.Examples.{root_first}
use Rattle.lmn_adequacy.specs.Next.{Next}
use Rattle.lmn_adequacy.specs.Runs.{Chooser, Ends, Trace, irreducible}

-- `a :- b`
abbrev pub a_makes_b : Rule
a_makes_b = rule_of (only_leaves (atom_leaf label_a [] ∷ [])) [] (only_leaves (atom_leaf label_b [] ∷ []))

-- atoms without links beside this rule
abbrev pub changing : List Label → Region
changing labels = region (map (λ l. solid_atom_with l []) labels) no_region (a_makes_b ∷ [])

-- `c. a. a :- b.` goes to `c. b.` beside its rule and not to `b. c.`: what is made stands behind what stays.
abbrev pub KeptComesFirst : Type 0
KeptComesFirst =
    Next (changing (label_c ∷ label_a ∷ [])) (changing (label_c ∷ label_b ∷ []))
    × (¬ (Next (changing (label_c ∷ label_a ∷ [])) (changing (label_b ∷ label_c ∷ []))))

-- `a. a. a :- b.` comes to `b. b.` beside its rule by a chain of two commits, and not by one.
abbrev pub TwoFiringsAreTwoCommits : Type 0
TwoFiringsAreTwoCommits =
    let first : Process = region_process (changing (label_a ∷ label_a ∷ [])) in
    let last : Process = region_process (changing (label_b ∷ label_b ∷ [])) in
    Commits 2 first last × (¬ (Commits 1 first last)) × (¬ (Commit first last))

-- Its trace has three solids and ends irreducible. Without the first or the second of them it is no trace.
abbrev pub TracesLeaveNothingOut : Type 0
TracesLeaveNothingOut =
    let first : Region = changing (label_a ∷ label_a ∷ []) in
    let second : Region = changing (label_a ∷ label_b ∷ []) in
    let last : Region = changing (label_b ∷ label_b ∷ []) in
    Trace root_first 5 9 first (first ∷ second ∷ []) last × Ends root_first 5 9 2 last irreducible
    × (¬ (Trace root_first 5 9 first (second ∷ []) last)) × (¬ (Trace root_first 5 9 first (first ∷ []) last))

-- `a. a :- b.` comes to `b.` beside its rule by one commit, whichever membrane is asked first, and nothing embeds there: so its trace
-- ends irreducible, and the process is so.
abbrev pub ShortTraceEnds : Type 0
ShortTraceEnds =
    let first : Region = changing (label_a ∷ []) in
    let last : Region = changing (label_b ∷ []) in
    ((chooser : Chooser) → Trace chooser 1 2 first (first ∷ []) last × Ends chooser 1 2 1 last irreducible)
    × Commit (region_process first) (region_process last) × Irreducible (region_process last)
