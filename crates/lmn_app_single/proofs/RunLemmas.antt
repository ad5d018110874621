-- What is printed of the trace of a text is a run of it.
use Rattle.std.proofs.Common.{ℕ, List, sym, subst}
use Rattle.std.specs.declared.alloc.Global.{Global}
use Rattle.lmn_app_accepted.specs.Rules.{AcceptedTexts}
use Rattle.lmn_congruence.specs.Regions.{region_process}
use Rattle.lmn_congruence.specs.Translation.{top_of}
use Rattle.lmn_congruence.proofs.SolidsOfPlains.{solids_of_plains}
use Rattle.lmn_reduction.proofs.Plains.{plain_settles}
use Rattle.lmn_adequacy.specs.Runs.{Trace}
use Rattle.lmn_app_accepted.proofs.ReadPlains.{plain_read}
use Rattle.lmn_app_runs.specs.Laws.{TracesAreRuns, solid_of}
use Rattle.lmn_app_runs.specs.Runs.{Given, Prints, StopsBy, StopsSo}
use Rattle.lmn_app_runs.specs.declared.stop.Stop.{Stop}
use Rattle.lmn_app_single.specs.Runs.{IsRun, IsTraceOf}
use Rattle.lmn_app_runs.specs.Texts.{PlainsArePrintable}
use Rattle.lmn_app_single.proofs.PlainRegions.{solid_with_region}

-- the laws that a run of a text takes
pub record Laws : Type 0 where
  pub accepted : AcceptedTexts
  pub printable : PlainsArePrintable
  pub runs : TracesAreRuns

-- a trace of an accepted text that stops is a run
pub trace_is_run : Laws → Global → (g : Given) (text : List ℕ) (lines : List (List ℕ)) (n : ℕ) (t : IsTraceOf g text lines n) →
    (why : Stop) → StopsSo g n t.last why → IsRun g.trace g.folded g.budget t.names t.plain lines why n
trace_is_run laws alloc g text lines n t why stops =
    let a = t.accepted in
    let printable = laws.printable text t.names t.plain (plain_read laws.accepted text t.names t.plain t.plans a.named a.accepted) in
    let s = solid_with_region t.names t.plain printable.made t.solid t.of_plain t.numbered in
    let trace = subst (λ S. Trace g.chooser g.budget g.size S t.before t.last) s.2 t.trace in
    let run = laws.runs alloc g t.names t.plain s.0 printable s.1 t.before t.last trace in
    let first = region_process (solid_of t.names t.plain s.0) in
    let last = region_process t.last in
    let Q : ℕ → Type 0 = λ k. Prints g.trace g.folded t.names first k last lines in
    record {
      first = first;
      settles = plain_settles (top_of t.names t.plain) (solid_of t.names t.plain s.0) (solids_of_plains t.names t.plain s.0 printable.made s.1);
      last = last;
      prints = subst Q t.count (run.prints lines t.are);
      stops = subst (λ k. StopsBy g.budget why k last) t.count (run.stops why (subst (λ k. StopsSo g k t.last why) (sym t.count) stops));
    }
