-- Small runs: of no codes over a heap without rules, `{a(X)}, b(X)`, and of code that succeeds everywhere and changes nothing, over the
-- root alone with one rule.
use Rattle.std.specs.Prelude.{ℕ, ◌+◌, List, [], ◌∷◌, ◌++◌, Option, Some, false, codes}
use Rattle.lmn_store_heap.specs.Heap.{Heap, finished, lone_root, mem_marked, rule_added}
use Rattle.lmn_base.specs.declared.solid.Solid.{Solid}
use Rattle.lmn_base.specs.SmallTexts.{name_a, name_b}
use Rattle.lmn_store_heap.specs.Examples.{across, across_solid, loose}
use Rattle.lmn_store_trait.specs.Awake.{asleep_mark}
use Rattle.lmn_congruence.specs.Rules.{Name}
use Rattle.lmn_instr_code.specs.declared.instr.Code.{Code}
use Rattle.lmn_instr_code.specs.declared.instr.Instr.TheVariants.{Commit, FindAtom, Proceed, RemoveAtom}
use Rattle.lmn_verify_code.specs.VerifiedExamples.{apart, code, functor, one_made, two_atoms}
use Rattle.lmn_schedule_strategy.specs.declared.turning.Turn.TheVariants.{Full}
use Rattle.lmn_print.specs.Lines.{IsHeapLine}
use Rattle.lmn_app_drive.specs.declared.driving.RunEnd.TheVariants as end
use Rattle.lmn_verify_coded.specs.Turning.{CodedCanTurn}
use Rattle.lmn_verify_coded.specs.Counting.{CountsRun}
use Rattle.lmn_app_runs.specs.declared.stop.Stop.TheVariants as stop
use Rattle.lmn_verify_turns.specs.Laws.{AreVerified}
use Rattle.lmn_verify_coded.specs.Laws.{CameToEnd, IsValidHeapOf}
use Rattle.lmn_verify_coded.specs.Runs.{CodedInput, CodedRun, CodedTurn, Executed, IsReducible}
use Rattle.lmn_verify_coded.specs.Solids.{RunStopped}

-- code that succeeds everywhere and changes nothing
abbrev pub idle : Code
idle = record { head = Commit ∷ []; body = Proceed ∷ [] }

-- the root alone, with the rule 0
abbrev pub ruled : Heap
ruled = rule_added lone_root 0 0

-- Without codes a turn can be made over the root alone, be it awake or asleep, and not where a rule stands in it.
abbrev pub NoCodesCanTurn : Type 0
NoCodesCanTurn = CodedCanTurn lone_root [] 0 × CodedCanTurn (mem_marked lone_root 0 asleep_mark) [] 0 × (CodedCanTurn ruled [] 0 → ⊥)

-- By the idle code none can where the root sleeps, since it succeeds there.
abbrev pub IdleCodeKeepsAwake : Type 0
IdleCodeKeepsAwake = (size : ℕ) → CodedCanTurn (mem_marked ruled 0 asleep_mark) (idle ∷ []) size → ⊥

-- Where one item is allowed a turn of the idle code commits, and where none is it doesn't: it is full, and is so too where the mark of the
-- root says that it sleeps. Without codes no turn commits.
abbrev pub IdleCodeCommits : Type 0
IdleCodeCommits = CodedRun (idle ∷ []) 1 ruled 1 (finished ruled) × CodedTurn (idle ∷ []) 0 ruled Full ruled × CodedTurn (idle ∷ []) 0 (mem_marked ruled 0 asleep_mark) Full ruled
    × ((size n : ℕ) (h h' : Heap) → CodedRun [] size h (n + 1) h' → ⊥)

-- It is what succeeds, where nothing does without codes.
abbrev pub IdleCodeSucceeds : Type 0
IdleCodeSucceeds = IsReducible (idle ∷ []) ruled × (IsReducible [] ruled → ⊥)

-- Over the root alone no rule is asked: a count stands, and doesn't rise by one.
abbrev pub NoRuleIsAsked : Type 0
NoRuleIsAsked = CountsRun [] 0 lone_root 0 5 5 × (CountsRun [] 0 lone_root 0 5 6 → ⊥)

abbrev pub no_codes : List Name → ℕ → CodedInput
no_codes names budget = record { names = names; table = []; codes = []; budget = budget; size = 3; first = across }

-- A run without codes ends at once, since no code succeeds, and not since its budget is done.
abbrev pub NoCodesAreExecuted : Type 0
NoCodesAreExecuted = (names : List Name) (budget : ℕ) (line : List ℕ) → IsHeapLine false names [] across line →
    Executed (no_codes names budget) 0 across end.Irreducible (Some []) (Some (line ++ codes "% irreducible after 0\n"))
    × ((n : ℕ) (h : Heap) (old new : Option (List ℕ)) → Executed (no_codes names budget) n h end.Budget old new → ⊥)

-- By its solid it stops at once, for the same reason, and neither since its budget is done nor since too many items would be left.
abbrev pub NoCodesStopAtOnce : Type 0
NoCodesStopAtOnce = (budget : ℕ) → RunStopped [] budget 3 across_solid 0 stop.Irreducible
    × ((n : ℕ) → (RunStopped [] budget 3 across_solid n stop.Budget → ⊥) × (RunStopped [] budget 3 across_solid n stop.Full → ⊥))

-- `a, a :- b.`
abbrev pub replaced : Code
replaced = two_atoms apart (one_made (functor name_b 0))

-- code that finds an atom in a membrane that isn't set
abbrev pub unset : Code
unset = code (FindAtom 0 1 (functor name_a 0) ∷ (Commit ∷ [])) (RemoveAtom 0 ∷ (Proceed ∷ []))

-- What runs of solids ask of heaps, codes and ends.
--   ended        a run that stopped since no code succeeds came to its end
--   no_memory    one that stopped for want of memory didn't
--   heap         `{a(X)}, b(X)` is a heap of its solid
--   loose_ports  and where the ports aren't joined it is a heap of no solid
--   verified     the code of `a, a :- b.` is verified
--   not_set      and code whose membrane isn't set isn't
pub record RunExamples : Type 0 where
  pub ended : CameToEnd stop.Irreducible
  pub no_memory : CameToEnd stop.NoMemory → ⊥
  pub heap : IsValidHeapOf across across_solid
  pub loose_ports : (x : Solid) → IsValidHeapOf loose x → ⊥
  pub verified : AreVerified (replaced ∷ [])
  pub not_set : AreVerified (unset ∷ []) → ⊥
