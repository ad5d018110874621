-- Runs of codes over heaps, and what is written of them.
use Rattle.std.specs.Prelude.{ℕ, ◌≡◌, ◌<◌, ◌≤◌, ◌+◌, ◌++◌, ◌⊎◌, List, Option}
use Rattle.lmn_base.specs.declared.rule.RuleTree.{RuleTree}
use Rattle.lmn_base.specs.declared.solid.Solid.{Solid}
use Rattle.lmn_congruence.specs.Rules.{Name}
use Rattle.lmn_congruence.specs.Translation.{region_of}
use Rattle.lmn_store_heap.specs.Heap.{Heap}
use Rattle.lmn_store_heap.specs.Solid.{HasSolid}
use Rattle.lmn_store_heap.specs.Sound.{Forest, IsTree, Valid, flat}
use Rattle.lmn_instr_code.specs.declared.instr.Code.{Code}
use Rattle.lmn_io.specs.Taking.{Takes, TakesPrefix}
use Rattle.lmn_schedule_sleep.specs.Quiet.{SameButMarks}
use Rattle.lmn_schedule_strategy.specs.Turns.{IsTurn}
use Rattle.lmn_schedule_strategy.specs.declared.turning.Turn.{Turn}
use Rattle.lmn_schedule_strategy.specs.declared.turning.Turn.TheVariants as turn
use Rattle.lmn_app_drive.specs.Driving.{stop_end}
use Rattle.lmn_app_runs.specs.Runs.{end_line, word_of_stop}
use Rattle.lmn_flatten_plain.specs.SolidLines.{as_level}
use Rattle.lmn_flatten_plain.specs.Words.{line_of}
use Rattle.lmn_app_drive.specs.declared.driving.RunEnd.{RunEnd}
use Rattle.lmn_app_drive.specs.declared.driving.RunEnd.TheVariants.{Failed}
use Rattle.lmn_app_runs.specs.declared.stop.Stop.{Stop}
use Rattle.lmn_app_runs.specs.declared.stop.Stop.TheVariants as stop
use Rattle.lmn_verify_coded.specs.Turning.{SomeIn}

-- A turn of codes on a heap, where the root is asked first: the heap is h' then. Marks of membranes, by which some aren't asked, are no part of
-- what is chosen: `lulled` is h but for these, and what is chosen there is the first of all membranes.
pub record CodedTurn (codes : List Code) (size : ℕ) (h : Heap) (answer : Turn) (h' : Heap) : Type 0 where
  pub tree : Forest
  pub is_tree : IsTree h tree
  pub lulled : Heap
  pub alike : SameButMarks h lulled
  pub turn : IsTurn lulled codes tree 0 size answer h'

-- n turns that commit lead from h to h', and the heap is valid after each.
pub data CodedRun (codes : List Code) (size : ℕ) (h : Heap) : ℕ → Heap → Type 0 where
  begun : CodedRun codes size h 0 h
  turned : {n : ℕ} {h' h'' : Heap} → CodedRun codes size h n h' → CodedTurn codes size h' turn.Committed h'' → Valid h'' → CodedRun codes size h (n + 1) h''

-- some code succeeds in some membrane
pub record IsReducible (codes : List Code) (h : Heap) : Type 0 where
  pub tree : Forest
  pub is_tree : IsTree h tree
  pub some : SomeIn h codes (flat tree)

-- Why a run stops at the heap h after n commits: no code succeeds; the budget is done, and some code succeeds; what is chosen would leave
-- more items than the size; memory is wanting for what is chosen, which would not. The heap is h' then: h, but for marks of membranes, and
-- for room for rules where memory is wanting.
abbrev pub CodesStopBy : List Code → (budget size n : ℕ) → Heap → Stop → Heap → Type 0
CodesStopBy codes budget size n h stop.Irreducible h' = (n ≤ budget) × CodedTurn codes size h turn.Irreducible h'
CodesStopBy codes budget size n h stop.Budget h' = (n ≡ budget) × IsReducible codes h × (h' ≡ h)
CodesStopBy codes budget size n h stop.Full h' = (n < budget) × CodedTurn codes size h turn.Full h'
CodesStopBy codes budget size n h stop.NoMemory h' = (n < budget) × CodedTurn codes size h turn.NoMemory h'

-- A run from h that stopped after n commits. The heap is h' then.
pub record StoppedRun (codes : List Code) (budget size : ℕ) (h : Heap) (n : ℕ) (why : Stop) (h' : Heap) : Type 0 where
  pub last : Heap
  pub run : CodedRun codes size h n last
  pub stops : CodesStopBy codes budget size n last why h'

-- What a run is given: a list of names and a table of rules, by which its heap is printed, the codes, the budget and the size, and the
-- heap at the start.
pub record CodedInput : Type 0 where
  pub names : List Name
  pub table : List RuleTree
  pub codes : List Code
  pub budget : ℕ
  pub size : ℕ
  pub first : Heap

-- A text was to be written: the sink took all of it, and the answer is this one, or it took a prefix of it, and the answer is `Failed`.
abbrev pub Wrote : List ℕ → RunEnd → RunEnd → Option (List ℕ) → Option (List ℕ) → Type 0
Wrote text due end old new = ((end ≡ due) × Takes text old new) ⊎ ((end ≡ Failed) × TakesPrefix text old new)

-- the plain line of a solid of the heap
abbrev pub IsPlainLine : List Name → List RuleTree → Heap → List ℕ → Type 0
IsPlainLine names table h line = (x : Solid) × HasSolid h x × (line ≡ line_of (as_level (region_of names table x)))

-- A run that ended so: why it stopped after n commits, with the heap h', and what the sink took. That is the plain line of the last heap,
-- and the end line.
pub record Executed (g : CodedInput) (n : ℕ) (h' : Heap) (end : RunEnd) (old new : Option (List ℕ)) : Type 0 where
  pub why : Stop
  pub stopped : StoppedRun g.codes g.budget g.size g.first n why h'
  pub line : List ℕ
  pub is_line : IsPlainLine g.names g.table stopped.last line
  pub wrote : Wrote (line ++ end_line (word_of_stop why) n) (stop_end why) end old new
