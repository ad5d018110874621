-- How many rules a run of codes asks.
use Rattle.std.specs.Prelude.{ℕ, ◌+◌, List}
use Rattle.lmn_store_heap.specs.Heap.{Heap}
use Rattle.lmn_store_heap.specs.Sound.{Forest, IsTree}
use Rattle.lmn_instr_code.specs.declared.instr.Code.{Code}
use Rattle.lmn_schedule_strategy.specs.Choosing.{asked}
use Rattle.lmn_schedule_strategy.specs.Counting.{AsksRules, RisesWithin}
use Rattle.lmn_schedule_strategy.specs.declared.turning.Turn.TheVariants.{Committed}
use Rattle.lmn_verify_coded.specs.Runs.{CodedTurn}

-- n turns that commit lead from h to h', and so many rules are asked in them: of each heap those of its membranes from the root on, until
-- the code of one succeeds.
pub data RunAsks (codes : List Code) (size : ℕ) (h : Heap) : ℕ → Heap → ℕ → Type 0 where
  none_asked : RunAsks codes size h 0 h 0
  more_asked : {n k j : ℕ} {h' h'' : Heap} → RunAsks codes size h n h' k → (t : CodedTurn codes size h' Committed h'') → AsksRules h' codes (asked 0 t.tree) j →
      RunAsks codes size h (n + 1) h'' (k + j)

-- A count of steps rises in n turns that commit by the rules that are asked, at most.
pub record CountsTurns (codes : List Code) (size : ℕ) (h : Heap) (n : ℕ) (h' : Heap) (old new : ℕ) : Type 0 where
  pub rules : ℕ
  pub asks : RunAsks codes size h n h' rules
  pub rises : RisesWithin rules old new

-- In a run of so many commits it rises by the rules that are asked in their turns and of the last heap, at most.
pub record CountsRun (codes : List Code) (size : ℕ) (h : Heap) (n old new : ℕ) : Type 0 where
  pub last : Heap
  pub before : ℕ
  pub asks : RunAsks codes size h n last before
  pub tree : Forest
  pub is_tree : IsTree last tree
  pub at_last : ℕ
  pub asks_last : AsksRules last codes (asked 0 tree) at_last
  pub rises : RisesWithin (before + at_last) old new
