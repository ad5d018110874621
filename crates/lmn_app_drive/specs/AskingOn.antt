-- How many rules were asked while a run goes on: words of the contracts of private functions.
use Rattle.std.specs.Prelude.{ℕ, List, Option, Some, None}
use Rattle.lmn_base.specs.declared.rule.RuleTree.{RuleTree}
use Rattle.lmn_store_heap.specs.Heap.{Heap}
use Rattle.lmn_instr_code.specs.declared.instr.Code.{Code}
use Rattle.lmn_schedule_strategy.specs.Counting.{RisesWithin}
use Rattle.lmn_app_runs.specs.declared.stop.Stop.{Stop}
use Rattle.lmn_app_drive.specs.Asking.{AsksFew, AwakeRun}

-- While a run goes on the last heap isn't asked.
pub record AskedSoFar (Answers : ℕ → ℕ → ℕ → Type 0) (table : List RuleTree) (codes : List Code) (size : ℕ) (h0 : Heap) (commits : ℕ) (h : Heap) (begun counted : ℕ) : Type 0 where
  pub sum : ℕ
  pub run : AwakeRun Answers table codes size h0 commits h sum
  pub rises : RisesWithin sum begun counted

-- a step that didn't fail: the run goes on, or it stopped
abbrev pub AsksOn : (ℕ → ℕ → ℕ → Type 0) → List RuleTree → List Code → ℕ → Heap → ℕ → Heap → ℕ → ℕ → Option Stop → Type 0
AsksOn Answers table codes size h0 commits h begun counted None = AskedSoFar Answers table codes size h0 commits h begun counted
AsksOn Answers table codes size h0 commits h begun counted (Some why) = AsksFew Answers table codes size h0 commits h begun counted
