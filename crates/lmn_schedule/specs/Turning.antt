-- What a turn of the engine is in the calculus.
use Rattle.std.specs.Prelude.{ℕ, ◌≡◌, ◌<◌, ◌≤◌, ◌^◌, true, List, length}
use Rattle.lmn_base.specs.declared.rule.RuleTree.{RuleTree}
use Rattle.lmn_store_heap.specs.Heap.{Heap}
use Rattle.lmn_congruence.specs.Regions.{Region, region_process, item_count_of_region}
use Rattle.lmn_congruence.specs.Rules.{Name}
use Rattle.lmn_reduction.specs.Commits.{Commit, Irreducible as NothingLeft}
use Rattle.lmn_adequacy.specs.Choice.{paths}
use Rattle.lmn_adequacy.specs.Embedding.{HasEmbedding}
use Rattle.lmn_adequacy.specs.Runs.{Chooser, Turn as Chooses}
use Rattle.lmn_instr_code.specs.declared.instr.Code.{Code}
use Rattle.lmn_store_heap.specs.Sound.{Forest, IsTree}
use Rattle.lmn_schedule_sleep.specs.Quiet.{SameButMarks}
use Rattle.lmn_schedule_strategy.specs.Counting.{CountsAsked}
use Rattle.lmn_schedule_strategy.specs.Turns.{IsAwakeTurn}
use Rattle.lmn_schedule_strategy.specs.declared.turning.Turn.{Turn}
use Rattle.lmn_schedule_strategy.specs.declared.turning.Turn.TheVariants.{Committed, Irreducible, Full, NoMemory}
use Rattle.lmn_solid_bodies.specs.Stopping.{SameButSpares}
use Rattle.lmn_schedule.specs.Held.{HoldsRegion}

-- the function gives what a closure answers, for numbers of 64 bits
abbrev pub Gives : {F : Type 0} → (F → ℕ → ℕ → ℕ → Type 0) → F → Chooser → Type 0
Gives post f c = (t m r : ℕ) → t < 2 ^ 64 → m < 2 ^ 64 → 0 < m → post f t m r → r ≡ c t m

-- S' is the next solid, by one commit
pub record ComesNext (c : Chooser) (n : ℕ) (S S' : Region) : Type 0 where
  pub turn : Chooses c n S S'
  pub commit : Commit (region_process S) (region_process S')

-- nothing can happen in S
pub record IsDone (S : Region) : Type 0 where
  pub nothing_embeds : ¬ (HasEmbedding S)
  pub irreducible : NothingLeft (region_process S)

-- What a turn answers where the solid is S and n commits are done, and what the heap holds then. At most so many items may be left.
abbrev pub IsTurned : List Name → List RuleTree → Chooser → ℕ → ℕ → Region → Turn → Heap → Type 0
IsTurned names table c size n S Committed h = (S' : Region) × ComesNext c n S S' × (item_count_of_region S' ≤ size) × HoldsRegion names table h S'
IsTurned names table c size n S Irreducible h = IsDone S × HoldsRegion names table h S
IsTurned names table c size n S Full h = ((S' : Region) × Chooses c n S S' × (size < item_count_of_region S')) × HoldsRegion names table h S
IsTurned names table c size n S NoMemory h = ((S' : Region) × Chooses c n S S' × (item_count_of_region S' ≤ size)) × HoldsRegion names table h S

-- What a turn answers where a closure says which membrane is asked first, whatever its answer is.
--   from     some number
--   counts   steps are counted as far as rules of awake membranes are asked from the membrane with this number on
--   flags    membranes that are asked in vain fall asleep, and a commit wakes what it touches: all other flags stay
--   turned   of each solid that the heap holds: the closure may answer this number for the commits done and the number of membranes, and
--            by it the turn is made
pub record IsTurnedByAnswer (Answers : ℕ → ℕ → ℕ → Type 0) (table : List RuleTree) (codes : List Code) (size n : ℕ) (h : Heap) (answer : Turn) (h' : Heap) (old new : ℕ) : Type 0 where
  pub from : ℕ
  pub counts : CountsAsked h codes from old new
  pub flags : (f : Forest) → IsTree h f → IsAwakeTurn true h codes f from size answer h'
  pub turned : (names : List Name) (S : Region) → HoldsRegion names table h S → Answers n (length (paths S)) from × IsTurned names table (λ commits membranes. from) size n S answer h'

-- What an answer leaves of the heap where nothing is committed: all of it, marks of atoms too, but for the marks of membranes, and at
-- `NoMemory` for room for more rules.
abbrev pub KeepsHeap : Turn → Heap → Heap → Type 0
KeepsHeap Committed h h' = Unit {0}
KeepsHeap Irreducible h h' = SameButMarks h h'
KeepsHeap Full h h' = SameButMarks h h'
KeepsHeap NoMemory h h' = (k : Heap) × SameButMarks h k × SameButSpares k h'

-- how many commits an answer counts
abbrev pub counted : Turn → ℕ
counted Committed = 1
counted Irreducible = 0
counted Full = 0
counted NoMemory = 0
