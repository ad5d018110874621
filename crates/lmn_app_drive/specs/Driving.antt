-- What a run of an engine does.
use Rattle.std.specs.Prelude.{ℕ, ◌≡◌, ◌+◌, List, [], ◌∷◌, ◌++◌, Option, Some, None, Bool, true, false, not, length}
use Rattle.lmn_base.specs.declared.rule.RuleTree.{RuleTree}
use Rattle.lmn_store_heap.specs.Heap.{Heap}
use Rattle.lmn_io.specs.Taking.{Takes, TakesPrefix}
use Rattle.lmn_congruence.specs.Regions.{Region}
use Rattle.lmn_congruence.specs.Rules.{Name}
use Rattle.lmn_adequacy.specs.Runs.{Chooser, Trace, End, Ends, irreducible, budget_done, full}
use Rattle.lmn_print.specs.Lines.{IsHeapLine}
use Rattle.lmn_schedule.specs.Held.{HoldsRegion}
use Rattle.lmn_app_drive.specs.declared.driving.RunEnd.{RunEnd}
use Rattle.lmn_app_drive.specs.declared.driving.RunOptions.{RunOptions}
use Rattle.lmn_app_drive.specs.declared.driving.RunEnd.TheVariants.{Irreducible, Budget, Full, NoMemory, Failed}
use Rattle.lmn_app_runs.specs.declared.stop.Stop.{Stop}
use Rattle.lmn_app_runs.specs.declared.stop.Stop.TheVariants as stop
use Rattle.lmn_app_drive.specs.Written.{Lines, written, traced}
use Rattle.lmn_app_runs.specs.Runs.{end_line, end_word, word_of_stop}

-- What a run is given: a list of names and a table of rules, what the chooser answers, the budget and the size, whether all lines
-- are written, and in the folded form, and the solid at the start.
pub record RunInput : Type 0 where
  pub names : List Name
  pub table : List RuleTree
  pub chooser : Chooser
  pub budget : ℕ
  pub size : ℕ
  pub trace : Bool
  pub folded : Bool
  pub first : Region

-- So many commits were done from the first solid on, and the heap holds the last one. Each solid has its line.
pub record Ran (g : RunInput) (commits : ℕ) (h : Heap) : Type 0 where
  pub before : List Region
  pub last : Region
  pub trace : Trace g.chooser g.budget g.size g.first before last
  pub count : length before ≡ commits
  pub holds : HoldsRegion g.names g.table h last
  pub lines : Lines g.folded before last

-- how the trace ends there, and that it goes on
abbrev pub EndsSo : {g : RunInput} {commits : ℕ} {h : Heap} → Ran g commits h → End → Type 0
EndsSo {g} {commits} r e = Ends g.chooser g.budget g.size commits r.last e

abbrev pub GoesOn : {g : RunInput} {commits : ℕ} {h : Heap} → Ran g commits h → Type 0
GoesOn r = (e : End) → ¬ (EndsSo r e)

-- the text of the run with a word
abbrev pub text : {g : RunInput} {commits : ℕ} {h : Heap} → Ran g commits h → List ℕ → List ℕ
text {g} r word = written g.trace r.lines.first_lines r.lines.last_line word

-- The sink took a prefix of the text with the word that is due: that of the end, or `no memory` where the trace goes on.
pub record TookPart {g : RunInput} {commits : ℕ} {h : Heap} (r : Ran g commits h) (old new : Option (List ℕ)) : Type 0 where
  pub at_end : (e : End) → EndsSo r e → TakesPrefix (text r (end_word e)) old new
  pub elsewhere : GoesOn r → TakesPrefix (text r (word_of_stop stop.NoMemory)) old new

-- why a run stopped
abbrev pub StopsBecause : {g : RunInput} {commits : ℕ} {h : Heap} → Ran g commits h → Stop → Type 0
StopsBecause r stop.Irreducible = EndsSo r irreducible
StopsBecause r stop.Budget = EndsSo r budget_done
StopsBecause r stop.Full = EndsSo r full
StopsBecause r stop.NoMemory = GoesOn r

-- it stopped so, and the sink took the text with the word of that
abbrev pub WritesStop : {g : RunInput} {commits : ℕ} {h : Heap} → Ran g commits h → Stop → Option (List ℕ) → Option (List ℕ) → Type 0
WritesStop r why old new = StopsBecause r why × Takes (text r (word_of_stop why)) old new

-- How a run ended, and what the sink took.
abbrev pub RunEnded : {g : RunInput} {commits : ℕ} {h : Heap} → Ran g commits h → RunEnd → Option (List ℕ) → Option (List ℕ) → Type 0
RunEnded r Irreducible old new = WritesStop r stop.Irreducible old new
RunEnded r Budget old new = WritesStop r stop.Budget old new
RunEnded r Full old new = WritesStop r stop.Full old new
RunEnded r NoMemory old new = WritesStop r stop.NoMemory old new
RunEnded r Failed old new = TookPart r old new

-- A run that ended so: what it did, and what the sink took.
pub record Drove (g : RunInput) (commits : ℕ) (h : Heap) (end : RunEnd) (old new : Option (List ℕ)) : Type 0 where
  pub ran : Ran g commits h
  pub ended : RunEnded ran end old new

-- what a run is given by an engine with this table and size, where the chooser answers as the function does
abbrev pub given_by_engine : List Name → List RuleTree → ℕ → RunOptions → Chooser → Region → RunInput
given_by_engine names table size options chooser first =
    record { names = names; table = table; chooser = chooser; budget = options.budget; size = size; trace = options.trace; folded = options.folded; first = first }

-- So it is with what a run is given by such an engine, whatever the chooser, from each solid on that the heap holds at the start.
abbrev pub OfEachInput : List Name → List RuleTree → Heap → ℕ → RunOptions → ((Chooser → RunInput) → Type 0) → Type 0
OfEachInput names table h size options Q = (solid : Region) → HoldsRegion names table h solid → Q (λ c. given_by_engine names table size options c solid)

-- While a run goes on: with a trace the lines of all solids so far are written, and nothing without one.
pub record Going (g : RunInput) (commits : ℕ) (h : Heap) (old new : Option (List ℕ)) : Type 0 where
  pub ran : Ran g commits h
  pub took : Takes (traced g.trace (ran.lines.first_lines ++ ran.lines.last_line ∷ [])) old new

-- It stopped: all that is left to write is the last line, without a trace, and the end line.
pub record Stopped (g : RunInput) (commits : ℕ) (h : Heap) (why : Stop) (old new : Option (List ℕ)) : Type 0 where
  pub going : Going g commits h old new
  pub stops : StopsBecause going.ran why

-- it failed while it went on
pub record Broke (g : RunInput) (commits : ℕ) (h : Heap) (old new : Option (List ℕ)) : Type 0 where
  pub ran : Ran g commits h
  pub took : TookPart ran old new

-- how a run ended that stopped so and was written
abbrev pub stop_end : Stop → RunEnd
stop_end stop.Irreducible = Irreducible
stop_end stop.Budget = Budget
stop_end stop.Full = Full
stop_end stop.NoMemory = NoMemory

-- a step that didn't fail: the run goes on, or it stopped
abbrev pub StepsOn : RunInput → ℕ → Heap → Option (List ℕ) → Option (List ℕ) → Option Stop → Type 0
StepsOn g commits h old new None = Going g commits h old new
StepsOn g commits h old new (Some why) = Stopped g commits h why old new

-- and such a step counts a commit where the run goes on
abbrev pub CountsCommit : Option Stop → ℕ → ℕ → Type 0
CountsCommit None old new = new ≡ old + 1
CountsCommit (Some why) old new = new ≡ old

-- what is written with a trace alone: the line of a solid of the heap
abbrev pub IsTracedLineOf : (trace folded : Bool) → List Name → List RuleTree → Heap → List ℕ → Type 0
IsTracedLineOf true folded names table h bytes = IsHeapLine folded names table h bytes
IsTracedLineOf false folded names table h bytes = bytes ≡ []

-- what is left to be written of a run that stopped: the last line, without a trace, and the end line
abbrev pub rest_of : Bool → List ℕ → List ℕ → ℕ → List ℕ
rest_of trace last_line word commits = traced (not trace) (last_line ∷ []) ++ end_line word commits

-- the same, where the last line is that of a solid of the heap
pub record IsRestOf (trace folded : Bool) (names : List Name) (table : List RuleTree) (h : Heap) (word : List ℕ) (commits : ℕ) (bytes : List ℕ) : Type 0 where
  pub last : List ℕ
  pub is_line : IsTracedLineOf (not trace) folded names table h last
  pub is : bytes ≡ last ++ end_line word commits

-- what ends a run that stopped: it is the same run
pub record Concludes {g : RunInput} {commits : ℕ} {h : Heap} {why : Stop} {old mid : Option (List ℕ)} (s : Stopped g commits h why old mid) (h' : Heap) (end : RunEnd) (new : Option (List ℕ)) : Type 0 where
  pub drove : Drove g commits h' end old new
  pub before : drove.ran.before ≡ s.going.ran.before
  pub last : drove.ran.last ≡ s.going.ran.last
