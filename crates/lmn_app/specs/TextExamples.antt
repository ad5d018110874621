-- A small text, by all that is said of texts.
use Rattle.std.specs.Prelude.{ℕ, ◌≤◌, Bool, List, [], ◌∷◌, ◌++◌, codes, true, false}
use Rattle.std.specs.declared.alloc.Global.{Global}
use Rattle.lmn_base.specs.declared.functor.Label.TheVariants.{Name as NameLabel}
use Rattle.lmn_base.specs.declared.level.Leaf.{Leaf}
use Rattle.lmn_base.specs.declared.level.Leaf.TheVariants.{Atom}
use Rattle.lmn_base.specs.declared.level.Level.{Level}
use Rattle.lmn_base.specs.declared.level.Level.TheViews.{roll-Level}
use Rattle.lmn_base.specs.declared.rule.Plain.{Plain}
use Rattle.lmn_base.specs.declared.rule.RuleTree.{RuleTree}
use Rattle.lmn_base.specs.Names.{first_names}
use Rattle.lmn_base.specs.SmallTexts.{at_column}
use Rattle.lmn_congruence.specs.Rules.{Name}
use Rattle.lmn_guards.specs.declared.plan.GuardPlan.{GuardPlan}
use Rattle.lmn_adequacy.specs.Runs.{Chooser, irreducible}
use Rattle.lmn_app_runs.specs.Runs.{Given, StopsSo, at_end}
use Rattle.lmn_app_single.specs.Runs.{IsRun, IsTraceOf}
use Rattle.lmn_app_single.specs.Texts.{Accepts}

-- `a. a :- b.`
abbrev pub small_text : List ℕ
small_text = codes "a. a :- b."

-- its names: the fixed ones, those that abbreviations bring in, and its own two, which have the numbers 7 and 8
abbrev pub small_names : List Name
small_names = first_names ++ (codes "." ∷ codes "[]" ∷ codes "+" ∷ codes "a" ∷ codes "b" ∷ [])

-- an atom without links, by the number of its name and its column
abbrev pub one_leaf : ℕ → ℕ → Leaf
one_leaf name column = Atom (record { label = NameLabel name; arity = 0 }) [] (at_column column)

-- such an atom beside rules by their numbers
abbrev pub one_atom : ℕ → ℕ → List ℕ → Level
one_atom name column rules = roll-Level (record {
  leaves = one_leaf name column ∷ [];
  membranes = [];
  contexts = [];
  rule_contexts = [];
  rules = rules;
})

-- its rule, which begins at the fourth column, and its plain
abbrev pub small_rule : RuleTree
small_rule = record { head = one_atom 7 4 []; guard = []; body = one_atom 8 9 []; links = []; pos = at_column 4 }

abbrev pub small_plain : Plain
small_plain = record { top = one_atom 7 1 (0 ∷ []); links = []; rules = small_rule ∷ [] }

-- the plan of a rule without typed contexts and conditions
abbrev pub no_plan : GuardPlan
no_plan = record { kinds = []; bound = [] }

-- The text is accepted as this plain.
abbrev pub SmallTextIsAccepted : Type 0
SmallTextIsAccepted = Accepts small_text small_names small_plain (no_plan ∷ [])

-- the line in which its run ends, and all lines, in the plain form
abbrev pub small_end : List ℕ
small_end = codes "b. (a :- b).\n"

abbrev pub small_lines : List (List ℕ)
small_lines = codes "a. (a :- b).\n" ∷ small_end ∷ []

-- Where the budget allows a commit, these are the lines of a run of its plain that stops as irreducible after one: with a trace all, and without
-- one the last. With a trace no line alone is that of a run that stops so, after whatever number of commits. A box in a condition
-- belongs to an allocator, so one is given.
abbrev pub SmallTextRuns : Type 0
SmallTextRuns = (alloc : Global) (budget : ℕ) → 1 ≤ budget →
    IsRun true false budget small_names small_plain small_lines (at_end irreducible) 1
    × IsRun false false budget small_names small_plain (small_end ∷ []) (at_end irreducible) 1
    × ((line : List ℕ) (n : ℕ) → ¬ (IsRun true false budget small_names small_plain (line ∷ []) (at_end irreducible) n))

-- So are they with `--folded`, where nothing is folded.
abbrev pub SmallTextRunsFolded : Type 0
SmallTextRunsFolded = (alloc : Global) (budget : ℕ) → 1 ≤ budget →
    IsRun true true budget small_names small_plain small_lines (at_end irreducible) 1 × IsRun false true budget small_names small_plain (small_end ∷ []) (at_end irreducible) 1

-- what such a run is given
abbrev pub plainly : Bool → ℕ → ℕ → Chooser → Given
plainly trace budget size chooser = record { trace = trace; folded = false; budget = budget; size = size; chooser = chooser }

-- these are the lines of its trace, which stops as irreducible after n commits
abbrev pub TraceEnds : Given → List (List ℕ) → ℕ → Type 0
TraceEnds g lines n = (t : IsTraceOf g small_text lines n) × StopsSo g n t.last (at_end irreducible)

-- Where two items are allowed too, its trace has the same lines, whichever membrane is asked first.
abbrev pub SmallTextHasItsTrace : Type 0
SmallTextHasItsTrace = (budget size : ℕ) (chooser : Chooser) → 1 ≤ budget → 2 ≤ size →
    TraceEnds (plainly true budget size chooser) small_lines 1
    × TraceEnds (plainly false budget size chooser) (small_end ∷ []) 1
    × ((line : List ℕ) (n : ℕ) → ¬ (TraceEnds (plainly true budget size chooser) (line ∷ []) n))
