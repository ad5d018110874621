-- What is executed over heaps is a run of solids.
use Rattle.std.proofs.Common.{◌≡◌, ℕ, List, false, refl}
use Rattle.lmn_base.specs.declared.solid.Solid.{Solid}
use Rattle.lmn_congruence.specs.Translation.{region_of}
use Rattle.lmn_flatten_plain.specs.SolidLines.{as_level}
use Rattle.lmn_flatten_plain.specs.Words.{line_of}
use Rattle.lmn_store_heap.specs.Heap.{Heap}
use Rattle.lmn_instr_code.specs.declared.instr.Code.{Code}
use Rattle.lmn_reduction.specs.Chains.{Chain, no_step, step_after}
use Rattle.lmn_schedule_sleep.specs.Quiet.{SameButMarks}
use Rattle.lmn_machine_commit.proofs.Woken.{marks_unmarked}
use Rattle.lmn_schedule_strategy.specs.declared.turning.Turn.{Turn}
use Rattle.lmn_schedule_strategy.specs.declared.turning.Turn.TheVariants as turn
use Rattle.lmn_schedule_strategy.proofs.Lulling.{tree_alike}
use Rattle.lmn_schedule.proofs.AllWake.{valid_on}
use Rattle.lmn_print.specs.Laws.{OneHeapLine}
use Rattle.lmn_app_runs.specs.declared.stop.Stop.{Stop}
use Rattle.lmn_app_runs.specs.declared.stop.Stop.TheVariants as stop
use Rattle.lmn_verify_laws.specs.Laws.{CommitsStayUnmarked}
use Rattle.lmn_verify_solids.specs.Turns.{CodeNext}
use Rattle.lmn_verify_turns.specs.Laws.{AreVerified, IsAnswerOn, SuccessesAreSome, TurnsAreChoices}
use Rattle.lmn_verify_coded.specs.Laws.{HeapsRunAsSolids, IsValidHeapOf}
use Rattle.lmn_verify_coded.specs.Runs.{CodedRun, CodedTurn, CodesStopBy, begun, turned}
use Rattle.lmn_verify_coded.specs.Solids.{StopsAt}
use Rattle.lmn_verify_turns.proofs.SameBut.{marks_apart, solid_same}

-- a heap with other marks of membranes has the same solid
pub of_marks : (h k : Heap) → SameButMarks h k → (S : Solid) → IsValidHeapOf h S → IsValidHeapOf k S
of_marks h k e S x = record {
  valid = valid_on h k e x.valid;
  unmarked = marks_unmarked h k e x.unmarked;
  solid = solid_same h k (marks_apart h k e) S x.solid;
}

module _ (law : TurnsAreChoices) (some : SuccessesAreSome) (unmarked : CommitsStayUnmarked) (codes : List Code) (verified : AreVerified codes) (size : ℕ) where
  -- what a turn on a heap answers is so on its solid
  answered : (h : Heap) (S : Solid) → IsValidHeapOf h S → (a : Turn) (h' : Heap) (t : CodedTurn codes size h a h') → IsAnswerOn codes size S a h'
  answered h S x a h' t =
      let lulled = of_marks h t.lulled t.alike S x in law codes verified size t.lulled S t.tree lulled.valid lulled.solid (tree_alike h t.lulled t.alike t.tree t.is_tree) a h' t.turn

  -- turns that commit are commits that the codes choose
  run_of_solids : (first : Heap) (S : Solid) → IsValidHeapOf first S → {n : ℕ} {h : Heap} → CodedRun codes size first n h → (T : Solid) × IsValidHeapOf h T × Chain (CodeNext codes size) S n T
  run_of_solids first S x begun = (S, x, no_step)
  run_of_solids first S x (turned {n = n} {h' = k} {h'' = h} run t v) =
      let before = run_of_solids first S x run in
      let here = before.1 in
      let next = answered k before.0 here turn.Committed h t in (
        next.0,
        record { valid = v; unmarked = unmarked t.lulled t.turn.registers t.turn.code.body h t.turn.answered.1 (marks_unmarked k t.lulled t.alike here.unmarked); solid = next.1 },
        step_after before.2 next.2,
      )

  -- and what stops a run on a heap stops it at its solid
  stops_at : (budget n : ℕ) (h h' : Heap) (S : Solid) → IsValidHeapOf h S → (why : Stop) → CodesStopBy codes budget size n h why h' → StopsAt codes budget size n S why
  stops_at budget n h h' S x stop.Irreducible w = (w.0, answered h S x turn.Irreducible h' w.1)
  stops_at budget n h h' S x stop.Budget w = (let r = w.1 in let s = r.some in (w.0, some codes h S r.tree x.valid x.solid r.is_tree s.membrane s.rule s.among s.stands s.succeeds))
  stops_at budget n h h' S x stop.Full w = (let a = answered h S x turn.Full h' w.1 in (w.0, a.0, a.1))
  stops_at budget n h h' S x stop.NoMemory w = (let a = answered h S x turn.NoMemory h' w.1 in (w.0, a.0, a.1))

-- What is executed over a heap is a run from its solid on.
pub heaps_run_as_solids : TurnsAreChoices → SuccessesAreSome → CommitsStayUnmarked → OneHeapLine → HeapsRunAsSolids
heaps_run_as_solids law some unmarked lines g verified S x n h' end old new e =
    let stopped = e.stopped in
    let at = run_of_solids law some unmarked g.codes verified g.size g.first S x stopped.run in
    let line : e.line ≡ line_of (as_level (region_of g.names g.table at.0)) = (let here = at.1 in lines false g.names g.table stopped.last e.line _ here.valid e.is_line (at.0, here.solid, refl)) in (
      record { last = at.0; run = at.2; stops = stops_at law some unmarked g.codes verified g.size g.budget n stopped.last h' at.0 at.1 e.why stopped.stops },
      line,
    )
