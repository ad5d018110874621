-- How a run of codes stops.
use Rattle.std.proofs.Common.{ℕ, ◌≡◌, List, arith, false, subst}
use Rattle.lmn_store_heap.specs.Heap.{Heap}
use Rattle.lmn_store_heap.specs.Sound.{Forest, IsTree, Valid, flat}
use Rattle.lmn_schedule_sleep.specs.Quiet.{SameButMarks}
use Rattle.lmn_machine_commit.proofs.Rousing.{no_marks}
use Rattle.lmn_instr_code.specs.declared.instr.Code.{Code}
use Rattle.lmn_schedule_strategy.specs.Choosing.{NoneIn}
use Rattle.lmn_app_runs.specs.declared.stop.Stop.{Stop}
use Rattle.lmn_app_runs.specs.declared.stop.Stop.TheVariants as stop
use Rattle.lmn_verify_coded.specs.Runs.{CodedRun, StoppedRun, CodesStopBy, begun, turned}
use Rattle.lmn_verify_coded.proofs.Lines.{line_before}
use Rattle.lmn_verify_turns.proofs.SameBut.{marks_apart, same_back, solid_same}
use Rattle.lmn_base.specs.declared.rule.RuleTree.{RuleTree}
use Rattle.lmn_congruence.specs.Rules.{Name}
use Rattle.lmn_print.specs.Lines.{IsHeapLine}

module _ (codes : List Code) (budget size : ℕ) (first : Heap) (n : ℕ) (h : Heap) (run : CodedRun codes size first n h) where
  -- at the end of the budget, where no code succeeds
  pub stops_at_end : Valid h → (h' : Heap) → n ≡ budget → h' ≡ h → ((f : Forest) → IsTree h f → NoneIn h codes (flat f)) → StoppedRun codes budget size first n stop.Irreducible h'
  stops_at_end v h' done same none =
      record { last = h; run = run; stops = (omega (arith, done), record { tree = v.tree.0; is_tree = v.tree.1; lulled = h; alike = no_marks h; turn = (none v.tree.0 v.tree.1, same) }) }

-- the line of a heap with other marks of membranes is that of the heap
line_on : (h k : Heap) → SameButMarks h k → (names : List Name) (table : List RuleTree) (line : List ℕ) → IsHeapLine false names table k line → IsHeapLine false names table h line
line_on h k e names table line (x, has, is) = (x, solid_same k h (same_back h k (marks_apart h k e)) x has, is)

-- the line of the heap at the end is that of the last heap of the run
pub last_line : (codes : List Code) (budget size n : ℕ) (h : Heap) (why : Stop) (h' : Heap) (names : List Name) (table : List RuleTree) (line : List ℕ) → CodesStopBy codes budget size n h why h' →
    IsHeapLine false names table h' line → IsHeapLine false names table h line
last_line codes budget size n h stop.Irreducible h' names table line w is = line_on h w.1.lulled w.1.alike names table line (subst (λ k. IsHeapLine false names table k line) w.1.turn.1 is)
last_line codes budget size n h stop.Budget h' names table line w is = subst (λ k. IsHeapLine false names table k line) w.2 is
last_line codes budget size n h stop.Full h' names table line w is = line_on h w.1.lulled w.1.alike names table line (subst (λ k. IsHeapLine false names table k line) w.1.turn.answered.1 is)
last_line codes budget size n h stop.NoMemory h' names table line w is = line_on h w.1.lulled w.1.alike names table line (line_before w.1.lulled h' w.1.turn.answered.1 false names table line is)

-- the last heap is valid
pub last_valid : (codes : List Code) (size : ℕ) (first : Heap) → Valid first → (n : ℕ) (h : Heap) → CodedRun codes size first n h → Valid h
last_valid codes size first v n h begun = v
last_valid codes size first v n h (turned run t w) = w
