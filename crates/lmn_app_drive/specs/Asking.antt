-- How many rules a run may ask.
use Rattle.std.specs.Prelude.{ℕ, ◌≡◌, ◌+◌, ◌⊎◌, true, List, length}
use Rattle.lmn_base.specs.declared.rule.RuleTree.{RuleTree}
use Rattle.lmn_congruence.specs.Regions.{Region}
use Rattle.lmn_congruence.specs.Rules.{Name}
use Rattle.lmn_store_heap.specs.Heap.{Heap}
use Rattle.lmn_store_heap.specs.Sound.{Forest, IsTree, flat}
use Rattle.lmn_instr_code.specs.declared.instr.Code.{Code}
use Rattle.lmn_adequacy.specs.Choice.{paths}
use Rattle.lmn_schedule_strategy.specs.Counting.{RisesWithin, awake_of, rule_count}
use Rattle.lmn_schedule_strategy.specs.Turns.{IsAwakeTurn}
use Rattle.lmn_schedule_strategy.specs.declared.turning.Turn.{Turn}
use Rattle.lmn_schedule_strategy.specs.declared.turning.Turn.TheVariants.{Committed}
use Rattle.lmn_schedule.specs.Held.{HoldsRegion}
use Rattle.lmn_schedule.specs.Turning.{counted as commits_of}

-- how many rules stand in the membranes of a heap with this tree that are awake
abbrev pub awake_rules : Heap → Forest → ℕ
awake_rules h f = rule_count h (awake_of h (flat f))

-- A turn after n commits, from h to h', of an engine with this table of rules and their codes, where at most so many items are allowed and
-- a closure says which membrane is asked first.
--   from    the number of the membrane that is asked first,
--   may     which the closure may answer, for the number of membranes of the solid that the heap holds
--   turned  of the membranes from this one on those are asked that are awake
pub record AwakeTurn (Answers : ℕ → ℕ → ℕ → Type 0) (table : List RuleTree) (codes : List Code) (size n : ℕ) (h : Heap) (answer : Turn) (h' : Heap) : Type 0 where
  pub from : ℕ
  pub may : (names : List Name) (S : Region) → HoldsRegion names table h S → Answers n (length (paths S)) from
  pub turned : (f : Forest) → IsTree h f → IsAwakeTurn true h codes f from size answer h'

-- From the heap h0 on so many turns lead to a heap, each of which commits. In the heaps before it so many rules stand in membranes that
-- are awake.
pub data AwakeRun (Answers : ℕ → ℕ → ℕ → Type 0) (table : List RuleTree) (codes : List Code) (size : ℕ) (h0 : Heap) : ℕ → Heap → ℕ → Type 0 where
  starts : AwakeRun Answers table codes size h0 0 h0 0
  turns_on : {n sum : ℕ} {h h' : Heap} (f : Forest) → AwakeRun Answers table codes size h0 n h sum → IsTree h f → AwakeTurn Answers table codes size n h Committed h' →
      AwakeRun Answers table codes size h0 (n + 1) h' (sum + awake_rules h f)

-- a turn that doesn't commit, after n commits
abbrev pub LastTurn : (ℕ → ℕ → ℕ → Type 0) → List RuleTree → List Code → ℕ → ℕ → Heap → Heap → Type 0
LastTurn Answers table codes size n h h' = (answer : Turn) × (commits_of answer ≡ 0) × AwakeTurn Answers table codes size n h answer h'

-- A count of steps rises, in a run from h0 to h' that did so many commits, by at most as many as rules stand in membranes that are awake:
-- the sum of them over all heaps of the run, with the one to which the last commit led. Behind it there may be one turn more, that
-- doesn't commit.
pub record AsksFew (Answers : ℕ → ℕ → ℕ → Type 0) (table : List RuleTree) (codes : List Code) (size : ℕ) (h0 : Heap) (commits : ℕ) (h' : Heap) (begun counted : ℕ) : Type 0 where
  pub last : Heap
  pub forest : Forest
  pub sum : ℕ
  pub run : AwakeRun Answers table codes size h0 commits last sum
  pub tree : IsTree last forest
  pub ends : (h' ≡ last) ⊎ LastTurn Answers table codes size commits last h'
  pub rises : RisesWithin (sum + awake_rules last forest) begun counted
