-- What a run is, by what it prints: in the calculus, and by the strategy.
use Rattle.std.specs.Prelude.{ℕ, ◌≡◌, ◌<◌, ◌≤◌, List, [], ◌∷◌, ◌++◌, length, Bool, true, false, if◌then◌else◌, codes, decimal}
use Rattle.std.specs.List.{concat, AllZip}
use Rattle.lmn_base.specs.declared.rule.Plain.{Plain}
use Rattle.lmn_congruence.specs.Process.{Process, Closed}
use Rattle.lmn_congruence.specs.Regions.{Region}
use Rattle.lmn_congruence.specs.Rules.{Name}
use Rattle.lmn_congruence.specs.Translation.{plain_process}
use Rattle.lmn_flatten_plain.specs.Texts.{IsPlainOfText}
use Rattle.lmn_print_folded.specs.Lines.{IsLine}
use Rattle.lmn_print_folded_laws.specs.ReadBack.{IsFoldedLineOf}
use Rattle.lmn_reduction.specs.Commits.{Commit, Irreducible}
use Rattle.lmn_app_runs.specs.declared.stop.Stop.{Stop}
use Rattle.lmn_app_runs.specs.declared.stop.Stop.TheVariants as stop
use Rattle.lmn_adequacy.specs.Runs.{End, irreducible, budget_done, full, Ends}

-- ---- why a run stops

-- the stop of a trace that has come to an end so
abbrev pub at_end : End → Stop
at_end irreducible = stop.Irreducible
at_end budget_done = stop.Budget
at_end full = stop.Full

-- the word of the end line
abbrev pub word_of_stop : Stop → List ℕ
word_of_stop stop.Irreducible = codes "irreducible"
word_of_stop stop.Budget = codes "budget"
word_of_stop stop.Full = codes "full"
word_of_stop stop.NoMemory = codes "no memory"

-- and of a trace that has come to an end
abbrev pub end_word : End → List ℕ
end_word e = word_of_stop (at_end e)

-- the end line: a word, and how many commits were done
abbrev pub end_line : List ℕ → ℕ → List ℕ
end_line word commits = concat (codes "% " ∷ word ∷ codes " after " ∷ decimal commits ∷ codes "\n" ∷ [])

-- How a run stops at a process after n commits. With the word irreducible the process is so, and with each other word it isn't.
abbrev pub StopsBy : ℕ → Stop → ℕ → Process → Type 0
StopsBy budget stop.Irreducible n P = (n ≤ budget) × Irreducible P
StopsBy budget stop.Budget n P = (n ≡ budget) × ¬ (Irreducible P)
StopsBy budget _ n P = (n < budget) × ¬ (Irreducible P)

-- ---- what is printed, in the calculus

-- P is the process of this line, and it is closed. The line reads, where no limit is asked, as a text with this plain, by a list of
-- names.
pub record IsLineOf (names : List Name) (P : Process) (line : List ℕ) : Type 0 where
  pub plain : Plain
  pub reads : IsPlainOfText line names plain
  pub process : P ≡ plain_process names plain
  pub closed : Closed P

-- The line of a process, in the folded form where that is asked, and else in the plain one. The process of a folded line is P up to
-- congruence: the atoms of a membrane may stand in another order in it, and its links have other numbers.
abbrev pub IsProcessLine : Bool → List Name → Process → List ℕ → Type 0
IsProcessLine true = IsFoldedLineOf
IsProcessLine false = IsLineOf

-- Processes from P on, each from the one before it by one commit: those before the last one, and the last one.
pub data CommitsOver (P : Process) : List Process → Process → Type 0 where
  no_commit : CommitsOver P [] P
  commit_after : {before : List Process} {Q R : Process} → CommitsOver P before Q → Commit Q R → CommitsOver P (before ++ Q ∷ []) R

-- what is printed of some in a row: with a trace all, and without one the last
abbrev pub printed : {A : Type 0} → Bool → List A → A → List A
printed trace before last = if trace then before ++ last ∷ [] else last ∷ []

-- The lines that are printed where n commits lead from P to Q: one for each process that is printed.
pub record Prints (trace folded : Bool) (names : List Name) (P : Process) (n : ℕ) (Q : Process) (lines : List (List ℕ)) : Type 0 where
  pub before : List Process
  pub commits : CommitsOver P before Q
  pub count : length before ≡ n
  pub are : AllZip (IsProcessLine folded names) (printed trace before Q) lines

-- ---- which run this is, by the strategy

-- What a run is given: whether all lines are printed, and in the folded form, the most commits, the most items, and which membrane is
-- asked first.
pub record Given : Type 0 where
  pub trace : Bool
  pub folded : Bool
  pub budget : ℕ
  pub size : ℕ
  pub chooser : ℕ → ℕ → ℕ

-- how it stops after its last solid, n commits done: at its end, or memory was wanting where it goes on
abbrev pub StopsSo : Given → ℕ → Region → Stop → Type 0
StopsSo g n S stop.Irreducible = Ends g.chooser g.budget g.size n S irreducible
StopsSo g n S stop.Budget = Ends g.chooser g.budget g.size n S budget_done
StopsSo g n S stop.Full = Ends g.chooser g.budget g.size n S full
StopsSo g n S stop.NoMemory = (e : End) → ¬ (Ends g.chooser g.budget g.size n S e)

-- ---- words for the laws of traces

-- the lines of solids, one for each
abbrev pub LinesOf : Bool → List Region → List (List ℕ) → Type 0
LinesOf folded = AllZip (IsLine folded)

-- the lines that are printed of a trace
abbrev pub PrintedLines : Given → List Region → Region → List (List ℕ) → Type 0
PrintedLines g before last = LinesOf g.folded (printed g.trace before last)

-- how the trace ends after its last solid, n commits done
abbrev pub EndsAt : Given → ℕ → Region → End → Type 0
EndsAt g n S e = Ends g.chooser g.budget g.size n S e
