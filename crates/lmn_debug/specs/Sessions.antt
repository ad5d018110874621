-- Where a session stands, and what its calls do.
use Rattle.std.specs.Prelude.{ℕ, ◌-◌, List}
use Rattle.lmn_base.specs.Names.{HasNames, label_names}
use Rattle.lmn_base.specs.declared.rule.RuleTree.{RuleTree}
use Rattle.lmn_store_heap.specs.Heap.{Heap}
use Rattle.lmn_congruence.specs.Regions.{Region}
use Rattle.lmn_congruence.specs.Rules.{Name}
use Rattle.lmn_adequacy.specs.Runs.{Chooser}
use Rattle.lmn_schedule.specs.Held.{HoldsRegion}
use Rattle.lmn_schedule.specs.Turning.{Gives}
use Rattle.lmn_debug.specs.Courses.{Course, IsAt, Stepped, Waited, Wish, course}
use Rattle.lmn_debug.specs.declared.session.Stop.{Stop}
use Rattle.lmn_debug.specs.declared.session.Stop.TheVariants.{NoMemory}

-- The session stands at the number t: by these names and this table of rules the heap holds the solid that the trace has there.
pub record StandsAt (names : List Name) (table : List RuleTree) (g : Course) (t : ℕ) (h : Heap) : Type 0 where
  pub solid : Region
  pub is : IsAt g t solid
  pub holds : HoldsRegion names table h solid

-- it stands behind `step n`
pub record StandsStepped (names : List Name) (table : List RuleTree) (g : Course) (t n : ℕ) (stop : Stop) (t' : ℕ) (h : Heap) : Type 0 where
  pub stepped : Stepped g t n stop t'
  pub holds : HoldsRegion names table h stepped.solid

-- it stands behind `until`
pub record StandsWaited (names : List Name) (table : List RuleTree) (g : Course) (w : Wish) (t : ℕ) (stop : Stop) (t' : ℕ) (h : Heap) : Type 0 where
  pub waited : Waited names g w t stop t'
  pub holds : HoldsRegion names table h waited.solid

-- So it is, by each list of names, with each course that has this size and a function that gives what the closure answers.
abbrev pub AlongEachCourse : {F : Type 0} → (F → ℕ → ℕ → ℕ → Type 0) → F → ℕ → (List Name → Course → Type 0) → Type 0
AlongEachCourse post f size Q = (c : Chooser) → Gives post f c → (names : List Name) (first : Region) → Q names (course c size first)

-- what `step n` does to a session that stands at t
abbrev pub StepsFrom : List Name → List RuleTree → Course → ℕ → Heap → ℕ → Stop → ℕ → Heap → Type 0
StepsFrom names table g t h n stop t' h' = StandsAt names table g t h → StandsStepped names table g t n stop t' h'

-- and `until`, where the list has the names of the wish's functor
abbrev pub WaitsFrom : List Name → List RuleTree → Course → Wish → ℕ → Heap → Stop → ℕ → Heap → Type 0
WaitsFrom names table g w t h stop t' h' = HasNames names (label_names w.functor.label) → StandsAt names table g t h → StandsWaited names table g w t stop t' h'

-- What want of memory says of a session that stands at t and is to go back by n: it was found from the first solid on, for a commit that
-- the trace has before the number where the session was to stand.
abbrev pub LacksToGoBack : List Name → List RuleTree → Course → ℕ → Heap → ℕ → Type 0
LacksToGoBack names table g t h n = StandsAt names table g t h → (t' : ℕ) × Stepped g 0 (t - n) NoMemory t'
