-- Small counts, and commands of a session on a small course.
use Rattle.std.specs.Prelude.{ℕ, ◌≡◌, List, [], ◌∷◌}
use Rattle.lmn_base.specs.declared.functor.Functor.{Functor}
use Rattle.lmn_base.specs.declared.functor.Label.TheVariants as label
use Rattle.lmn_base.specs.declared.guard.Cmp.TheVariants.{Lt, Le, Gt, Ge, Eq, Ne}
use Rattle.lmn_base.specs.declared.rule.RuleTree.{RuleTree}
use Rattle.lmn_store_heap.specs.Heap.{Heap}
use Rattle.lmn_congruence.specs.Regions.{Region, no_region, region, region_and, solid_atom_with}
use Rattle.lmn_congruence.specs.Rules.{Name}
use Rattle.lmn_reduction.specs.Examples.{label_a, label_b}
use Rattle.lmn_adequacy.specs.Examples.{growing, root_first}
use Rattle.lmn_schedule.specs.Held.{HoldsRegion}
use Rattle.lmn_debug.specs.Breaks.{StandsSo}
use Rattle.lmn_debug.specs.Counts.{IsCount}
use Rattle.lmn_debug.specs.Courses.{Course, Stepped, Waited, course, wish}
use Rattle.lmn_debug.specs.Sessions.{AlongEachCourse, LacksToGoBack, StandsAt, StepsFrom, WaitsFrom}
use Rattle.lmn_debug.specs.declared.session.Stop.TheVariants.{Done, Full, Met, NoMemory}

-- 2 stands so to 2, or it doesn't
abbrev pub CountsStandSo : Type 0
CountsStandSo = (¬ (StandsSo Lt 2 2)) × StandsSo Le 2 2 × (¬ (StandsSo Gt 2 2)) × StandsSo Ge 2 2 × StandsSo Eq 2 2 × (¬ (StandsSo Ne 2 2))

-- the functor `a/0`, where `a` has the number 0
abbrev pub functor_a : Functor
functor_a = record { label = label.Name 0; arity = 0 }

abbrev pub names_a : List Name
names_a = (97 ∷ []) ∷ []

-- `a. b. a(X,X). {a. {a}}` has three atoms `a/0`, and not one.
abbrev pub CountsAtEveryDepth : Type 0
CountsAtEveryDepth =
    let S : Region = region (solid_atom_with label_a [] ∷ solid_atom_with label_b [] ∷ solid_atom_with label_a (0 ∷ 0 ∷ []) ∷ [])
    (region_and (region (solid_atom_with label_a [] ∷ []) (region_and (region (solid_atom_with label_a [] ∷ []) no_region []) no_region) []) no_region) [] in
    IsCount names_a functor_a S 3 × (¬ (IsCount names_a functor_a S 1))

-- `a. a :- a, a.` with the size 3: there is one commit, and the next solid would be too large.
abbrev pub growing_course : Course
growing_course = course root_first 3 (growing (solid_atom_with label_a [] ∷ []))

-- `step 1` is done, also where it ends at the last solid, and `step 2` stops there. For the first commit memory may be wanting. `step 1`
-- doesn't say that the trace ends behind it, and `step 2` isn't done with one commit.
abbrev pub StepsStop : Type 0
StepsStop =
    Stepped growing_course 0 1 Done 1 × Stepped growing_course 0 2 Full 1 × Stepped growing_course 0 1 NoMemory 0
    × (¬ (Stepped growing_course 0 1 Full 1)) × (¬ (Stepped growing_course 0 2 Done 1))

-- `until a/0 =:= 2` stops at the second solid, and not at the first; `until a/0 >= 1` not at the second; `until a/0 =:= 3` at the last.
abbrev pub WaitsStop : Type 0
WaitsStop =
    Waited names_a growing_course (wish functor_a Eq 2) 0 Met 1 × (¬ (Waited names_a growing_course (wish functor_a Eq 2) 0 Met 0))
    × (¬ (Waited names_a growing_course (wish functor_a Ge 1) 0 Met 1)) × Waited names_a growing_course (wish functor_a Eq 3) 0 Full 1

-- A session over this course that stands at 0, whatever the heap: `step 1` is done where the heap then holds the second solid, and doesn't
-- stop there as full; `until a/0 =:= 2` stops there, and not at once. To go back by nothing memory may be wanting at 1, and not at 0.
abbrev pub SessionsStand : Type 0
SessionsStand = (table : List RuleTree) (h h' : Heap) → StandsAt names_a table growing_course 0 h →
    HoldsRegion names_a table h' (growing (solid_atom_with label_a [] ∷ solid_atom_with label_a [] ∷ [])) →
    StepsFrom names_a table growing_course 0 h 1 Done 1 h' × (¬ (StepsFrom names_a table growing_course 0 h 1 Full 1 h'))
    × WaitsFrom names_a table growing_course (wish functor_a Eq 2) 0 h Met 1 h' × (¬ (WaitsFrom names_a table growing_course (wish functor_a Eq 2) 0 h Met 0 h))
    × LacksToGoBack names_a table growing_course 1 h' 0 × (¬ (LacksToGoBack names_a table growing_course 0 h 0))

-- Each course with the size 3 has this size, and with a closure that answers 0 none has another.
abbrev pub CoursesHaveSizes : Type 0
CoursesHaveSizes = AlongEachCourse {F = ℕ} (λ f t m r. r ≡ f) 0 3 (λ names g. g.size ≡ 3) × (¬ (AlongEachCourse {F = ℕ} (λ f t m r. r ≡ f) 0 3 (λ names g. g.size ≡ 4)))
