-- How a call ends whose run or whose orders ended so, without a program, and that writes a line of one, debugs it or runs it by a listing. Contracts of this crate's own functions alone cite these words.
use Rattle.std.specs.Prelude.{◌≡◌, ◌≤◌, ◌⊎◌, ℕ, List, Option, Result, Ok, Err}
use Rattle.lmn_io.specs.Taking.{Takes, TakesPrefix}
use Rattle.lmn_app_words.specs.declared.command.PairKind.{PairKind}
use Rattle.lmn_app_words.specs.declared.command.PairKind.TheVariants.{Debug, Exec}
use Rattle.lmn_verify_coded.specs.Runs.{CodedInput, Executed, Wrote}
use Rattle.std.specs.declared.alloc.Global.{Global}
use Rattle.lmn_base.specs.declared.rule.Plain.{Plain}
use Rattle.lmn_base.specs.declared.solid.Solid.{Solid}
use Rattle.lmn_base.specs.Solids.{item_count}
use Rattle.lmn_congruence.specs.Rules.{Name}
use Rattle.lmn_congruence.specs.SolidsOfPlains.{IsSolidOf}
use Rattle.lmn_instr_code.specs.declared.instr.Code.{Code}
use Rattle.lmn_schedule_loading.specs.Loaded.{IsLoaded}
use Rattle.lmn_schedule_strategy.specs.Quieting.{AllAwake}
use Rattle.lmn_app_runs.specs.declared.stop.Stop.{Stop}
use Rattle.lmn_app_drive.specs.Driving.{stop_end}
use Rattle.lmn_debug.specs.declared.debugging.DebugFault.{DebugFault}
use Rattle.lmn_debug.specs.declared.debugging.DebugFault.TheVariants as session
use Rattle.lmn_app_drive.specs.declared.driving.RunEnd.{RunEnd}
use Rattle.lmn_app_drive.specs.declared.driving.RunEnd.TheVariants as run
use Rattle.lmn_app_single.specs.Runnings.{ended_as}
use Rattle.lmn_app_single.specs.declared.ending.Ending.{Ending}
use Rattle.lmn_app_single.specs.declared.ending.Ending.TheVariants.{Done, Budget, WriteFault, NoMemory, Full, SecondRefused}
use Rattle.lmn_store_heap.specs.Heap.{Heap}
use Rattle.lmn_store_heap.specs.Sound.{Valid}
use Rattle.lmn_io.specs.Counts.{FailedLast, Faults, NoneFailed}
use Rattle.lmn_debug_script.specs.Scripts.{IsFirstWrong}
use Rattle.lmn_app.specs.Debugs.{IsDebugged}
use Rattle.lmn_app.specs.Executions.{IsExecuted, IsExecutedAs, IsWrongListing, ReadsCodes, executed_budget, executed_size}
use Rattle.lmn_app.specs.Pairs.{IsWritten, IsWrong}
use Rattle.lmn_app.specs.SecondTexts.{IsSecondCode}

abbrev pub obeyed_as : {A : Type 0} → Result A DebugFault → Ending
obeyed_as (Ok done) = Done
obeyed_as (Err session.NoMemory) = NoMemory
obeyed_as (Err session.Failed) = WriteFault

-- A call that writes one line of a program and a second text ends so, with what `out` took and counts: the line was written, or a part
-- of it, or something is wrong in the second text, or memory was wanting.
abbrev pub EndsByLine : PairKind → List ℕ → List ℕ → Ending → Option (List ℕ) → Option (List ℕ) → Faults → Faults → Type 0
EndsByLine kind program second Done old new before after = ((written : List ℕ) × IsWritten kind Done program second written × Takes written old new) × NoneFailed before after
EndsByLine kind program second WriteFault old new before after = ((written : List ℕ) × IsWritten kind WriteFault program second written × TakesPrefix written old new) × FailedLast before after
EndsByLine kind program second (SecondRefused k r) old new before after =
    (k ≡ kind) × IsWrong kind program second r × IsSecondCode kind r.code × (new ≡ old) × NoneFailed before after
EndsByLine kind program second NoMemory old new before after = (new ≡ old) × NoneFailed before after
EndsByLine kind program second _ old new before after = ⊥

-- A call that obeys a script over a program ends so, with what `out` took and counts: the lines were written, or a part of them, or those
-- of the orders before one for which no memory was found, or none for want of memory; or a line of the script is wrong.
abbrev pub EndsDebugged : List ℕ → List ℕ → Ending → Option (List ℕ) → Option (List ℕ) → Faults → Faults → Type 0
EndsDebugged program script Done old new before after = ((written : List ℕ) × IsDebugged Done program script written × Takes written old new) × NoneFailed before after
EndsDebugged program script WriteFault old new before after = ((written : List ℕ) × IsDebugged WriteFault program script written × TakesPrefix written old new) × FailedLast before after
EndsDebugged program script NoMemory old new before after =
    ((new ≡ old) ⊎ ((written : List ℕ) × IsDebugged NoMemory program script written × Takes written old new)) × NoneFailed before after
EndsDebugged program script (SecondRefused Debug r) old new before after = IsFirstWrong script r × IsSecondCode Debug r.code × (new ≡ old) × NoneFailed before after
EndsDebugged program script _ old new before after = ⊥

-- what a run of codes over a heap is given
abbrev pub coded_input : List Name → Plain → List Code → Heap → CodedInput
coded_input names plain codes first = record { names = names; table = plain.rules; codes = codes; budget = executed_budget; size = executed_size; first = first }

-- What was run of the codes of a listing, over a heap that holds the program's process: it is an execution, and all of its text was
-- written, or a part.
pub record HasExecuted (program listing : List ℕ) (end : RunEnd) (old new : Option (List ℕ)) : Type 0 where
  pub why : Stop
  pub written : List ℕ
  pub executed : IsExecuted program listing why written
  pub wrote : Wrote written (stop_end why) end old new

-- So it is where such a heap has the solid of the program's plain, which has few enough items.
abbrev pub HeapsAreExecuted : Type 0
HeapsAreExecuted = (alloc : Global) (program listing : List ℕ) (of : ReadsCodes program listing) (first : Heap) → IsLoaded of.plain first → AllAwake first →
    ((s : Solid) → IsSolidOf of.plain s → item_count s ≤ executed_size) →
    (n : ℕ) (last : Heap) (end : RunEnd) (old new : Option (List ℕ)) → Valid last → Executed (coded_input of.later of.plain of.codes first) n last end old new →
    HasExecuted program listing end old new

-- A run of codes ends a call so, with what `out` took and counts: it wasn't begun for want of memory, or it ended so.
pub data CodesRun (g : CodedInput) (ending : Ending) (old new : Option (List ℕ)) (before after : Faults) : Type 0 where
  not_begun : ending ≡ NoMemory → new ≡ old → NoneFailed before after → CodesRun g ending old new before after
  run_ended : (end : RunEnd) (commits : ℕ) (last : Heap) → ending ≡ ended_as end → Valid last → Executed g commits last end old new
      → (¬ (end ≡ run.Failed) → NoneFailed before after) → (end ≡ run.Failed → FailedLast before after) → CodesRun g ending old new before after

-- A call that runs a program by the codes of a listing ends so, with what `out` took and counts: all of the run was written, or a part of
-- it, or none for want of memory; or something is wrong in the listing.
abbrev pub EndsExecuted : List ℕ → List ℕ → Ending → Option (List ℕ) → Option (List ℕ) → Faults → Faults → Type 0
EndsExecuted program listing Done old new before after = ((written : List ℕ) × IsExecutedAs Done program listing written × Takes written old new) × NoneFailed before after
EndsExecuted program listing Budget old new before after = ((written : List ℕ) × IsExecutedAs Budget program listing written × Takes written old new) × NoneFailed before after
EndsExecuted program listing Full old new before after = ((written : List ℕ) × IsExecutedAs Full program listing written × Takes written old new) × NoneFailed before after
EndsExecuted program listing WriteFault old new before after = ((written : List ℕ) × IsExecutedAs WriteFault program listing written × TakesPrefix written old new) × FailedLast before after
EndsExecuted program listing NoMemory old new before after =
    ((new ≡ old) ⊎ ((written : List ℕ) × IsExecutedAs NoMemory program listing written × Takes written old new)) × NoneFailed before after
EndsExecuted program listing (SecondRefused Exec r) old new before after = IsWrongListing program listing r × IsSecondCode Exec r.code × (new ≡ old) × NoneFailed before after
EndsExecuted program listing _ old new before after = ⊥
