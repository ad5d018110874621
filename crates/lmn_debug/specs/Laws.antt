-- The laws of sessions.
use Rattle.std.specs.Prelude.{ℕ, ◌≡◌, ◌≢◌, ◌<◌, ◌-◌, ◌⊎◌, List}
use Rattle.lmn_base.specs.declared.rule.RuleTree.{RuleTree}
use Rattle.lmn_store_heap.specs.Heap.{Heap}
use Rattle.lmn_congruence.specs.Process.{Closed}
use Rattle.lmn_congruence.specs.Regions.{Region, region_process}
use Rattle.lmn_congruence.specs.Rules.{Name}
use Rattle.lmn_adequacy.specs.Accepted.{Accepted, Throughout}
use Rattle.lmn_adequacy.specs.Embedding.{AllRules}
use Rattle.lmn_schedule.specs.Held.{HoldsRegion}
use Rattle.lmn_debug.specs.Courses.{Course, IsAt, Stepped, Waited, Wish}
use Rattle.lmn_debug.specs.Sessions.{StandsAt, StandsStepped}
use Rattle.lmn_debug.specs.declared.session.Stop.{Stop}
use Rattle.lmn_debug.specs.declared.session.Stop.TheVariants.{Done, NoMemory}

-- A session whose heap holds the first solid stands at the number 0.
abbrev pub FirstsStandAtZero : Type 0
FirstsStandAtZero = (names : List Name) (table : List RuleTree) (g : Course) (h : Heap) → HoldsRegion names table h g.first → StandsAt names table g 0 h

-- Turns that are all done are taken back: where a session stood before them, and where it stands behind as many commits taken back, one
-- solid is held. The first solid is one that some heap holds.
abbrev pub StepsAreTakenBack : Type 0
StepsAreTakenBack = (names : List Name) (table : List RuleTree) (g : Course) (fresh : Heap) → HoldsRegion names table fresh g.first →
    (t n t' : ℕ) (before after back : Heap) → StandsAt names table g t before → StandsStepped names table g t n Done t' after → StandsAt names table g (t' - n) back →
    (S : Region) × HoldsRegion names table before S × HoldsRegion names table back S

-- A course from a closed solid with accepted rules has one solid at each number.
abbrev pub CoursesAreOne : Type 0
CoursesAreOne = (g : Course) (t : ℕ) (S S' : Region) → Closed (region_process g.first) → AllRules (Throughout Accepted) g.first → IsAt g t S → IsAt g t S' → S ≡ S'

-- one answer and one number, or want of memory before that number
abbrev pub SameOrLacking : (stop stop' : Stop) (t t' : ℕ) → Type 0
SameOrLacking stop stop' t t' = ((stop' ≡ stop) × (t' ≡ t)) ⊎ ((stop' ≡ NoMemory) × (t' < t))

-- And what commands answer is exact: where one may stop, but for want of memory, it stops there and with this answer alone, or memory is
-- wanting for a commit before.
abbrev pub StepsAreExact : Type 0
StepsAreExact = (g : Course) (t n t' t'' : ℕ) (stop stop' : Stop) → Closed (region_process g.first) → AllRules (Throughout Accepted) g.first →
    Stepped g t n stop t' → stop ≢ NoMemory → Stepped g t n stop' t'' → SameOrLacking stop stop' t' t''

abbrev pub WaitsAreExact : Type 0
WaitsAreExact = (names : List Name) (g : Course) (w : Wish) (t t' t'' : ℕ) (stop stop' : Stop) → Closed (region_process g.first) → AllRules (Throughout Accepted) g.first →
    Waited names g w t stop t' → stop ≢ NoMemory → Waited names g w t stop' t'' → SameOrLacking stop stop' t' t''
