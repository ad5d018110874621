-- What a step of a run leaves, and what its end does, as the contracts of private functions say it.
use Rattle.std.specs.Prelude.{ℕ, ◌≡◌, ◌+◌, ◌++◌, List, Option, None, Some, false}
use Rattle.lmn_base.specs.declared.rule.RuleTree.{RuleTree}
use Rattle.lmn_congruence.specs.Rules.{Name}
use Rattle.lmn_store_heap.specs.Heap.{Heap}
use Rattle.lmn_instr_code.specs.declared.instr.Code.{Code}
use Rattle.lmn_schedule_strategy.specs.declared.turning.Turn.TheVariants as turn
use Rattle.lmn_print.specs.Lines.{IsHeapLine}
use Rattle.lmn_app_runs.specs.Runs.{end_line, word_of_stop}
use Rattle.lmn_app_drive.specs.declared.driving.RunEnd.{RunEnd}
use Rattle.lmn_app_runs.specs.declared.stop.Stop.{Stop}
use Rattle.lmn_app_runs.specs.declared.stop.Stop.TheVariants as stop
use Rattle.lmn_app_drive.specs.Driving.{stop_end}
use Rattle.lmn_verify_coded.specs.Runs.{CodedTurn, Wrote}

-- A step goes on after a turn that commits, or the run stops by another one.
abbrev pub MakesStep : List Code → ℕ → Heap → Option Stop → Heap → Type 0
MakesStep codes size h None h' = CodedTurn codes size h turn.Committed h'
MakesStep codes size h (Some stop.Irreducible) h' = CodedTurn codes size h turn.Irreducible h'
MakesStep codes size h (Some stop.Budget) h' = ⊥
MakesStep codes size h (Some stop.Full) h' = CodedTurn codes size h turn.Full h'
MakesStep codes size h (Some stop.NoMemory) h' = CodedTurn codes size h turn.NoMemory h'

-- and it counts a commit where the run goes on
abbrev pub CountsStep : Option Stop → ℕ → ℕ → Type 0
CountsStep None old new = new ≡ old + 1
CountsStep (Some why) old new = new ≡ old

-- the plain line of a heap, and the end line with a word
abbrev pub IsLastText : List Name → List RuleTree → Heap → List ℕ → ℕ → List ℕ → Type 0
IsLastText names table h word n text = (line : List ℕ) × IsHeapLine false names table h line × (text ≡ line ++ end_line word n)

-- the same, as it was written of a run that stopped
pub record EndIsWritten (names : List Name) (table : List RuleTree) (h : Heap) (why : Stop) (n : ℕ) (end : RunEnd) (old new : Option (List ℕ)) : Type 0 where
  pub line : List ℕ
  pub is_line : IsHeapLine false names table h line
  pub wrote : Wrote (line ++ end_line (word_of_stop why) n) (stop_end why) end old new
