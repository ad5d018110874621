-- Laws of runs of codes: what is executed over heaps is a run of solids, and that is one; and what the codes of rules do is what the rules do.
use Rattle.std.specs.Prelude.{ℕ, ◌≡◌, List, Option, false}
use Rattle.lmn_base.specs.declared.solid.Solid.{Solid}
use Rattle.lmn_store_heap.specs.Heap.{Heap, Unmarked}
use Rattle.lmn_store_heap.specs.Solid.{HasSolid}
use Rattle.lmn_store_heap.specs.Sound.{Valid}
use Rattle.lmn_congruence.specs.Regions.{Region}
use Rattle.lmn_congruence.specs.Translation.{region_of}
use Rattle.lmn_flatten_plain.specs.SolidLines.{as_level}
use Rattle.lmn_flatten_plain.specs.Words.{line_of}
use Rattle.lmn_schedule.specs.Held.{EngineCanTurn, HoldsRegion}
use Rattle.lmn_app_drive.specs.declared.driving.RunEnd.{RunEnd}
use Rattle.lmn_app_drive.specs.Driving.{Drove, RunInput}
use Rattle.lmn_app_runs.specs.declared.stop.Stop.{Stop}
use Rattle.lmn_app_runs.specs.declared.stop.Stop.TheVariants as stop
use Rattle.lmn_instr_code.specs.declared.instr.Code.{Code}
use Rattle.lmn_verify_turns.specs.Laws.{AreVerified}
use Rattle.lmn_verify_coded.specs.Runs.{CodedInput, Executed}
use Rattle.lmn_verify_coded.specs.Solids.{RunStopped}

-- What a run of rules is given, as that of their codes: the root is asked first in each turn, and the last line alone is written, in the
-- plain form. It begins at this solid.
abbrev pub given_by_codes : CodedInput → Region → RunInput
given_by_codes g first = record {
  names = g.names;
  table = g.table;
  chooser = λ commits membranes. 0;
  budget = g.budget;
  size = g.size;
  trace = false;
  folded = false;
  first = first;
}

-- Where the codes are those of the table, and the heap at the start holds a solid, what is executed of the codes is a run of the rules, with
-- the same commits, end and text.
abbrev pub TablesRunAsRules : Type 0
TablesRunAsRules = (g : CodedInput) (S : Region) → EngineCanTurn g.first g.table g.codes g.size → HoldsRegion g.names g.table g.first S →
    (n : ℕ) (h' : Heap) (end : RunEnd) (old new : Option (List ℕ)) → Valid h' → Executed g n h' end old new → Drove (given_by_codes g S) n h' end old new

-- a heap between commits that has a solid
pub record IsValidHeapOf (h : Heap) (x : Solid) : Type 0 where
  pub valid : Valid h
  pub unmarked : Unmarked h
  pub solid : HasSolid h x

-- What is executed of verified codes over a heap is a run from the solid of the heap on, which stopped for the same reason, with the same line.
abbrev pub HeapsRunAsSolids : Type 0
HeapsRunAsSolids = (g : CodedInput) → AreVerified g.codes → (S : Solid) → IsValidHeapOf g.first S →
    (n : ℕ) (h' : Heap) (end : RunEnd) (old new : Option (List ℕ)) (e : Executed g n h' end old new) →
    (x : RunStopped g.codes g.budget g.size S n e.why) × (e.line ≡ line_of (as_level (region_of g.names g.table x.last)))

-- A run came to an end of its own: memory wasn't wanting for a commit.
abbrev pub CameToEnd : Stop → Type 0
CameToEnd stop.Irreducible = Unit {0}
CameToEnd stop.Budget = Unit {0}
CameToEnd stop.Full = Unit {0}
CameToEnd stop.NoMemory = ⊥

-- Two runs of verified codes from one solid that came to their ends have as many commits, stop for one reason, and have one last solid.
abbrev pub SolidRunsAreOne : Type 0
SolidRunsAreOne = (codes : List Code) → AreVerified codes → (budget size : ℕ) (S : Solid) (n m : ℕ) (why other : Stop) → CameToEnd why → CameToEnd other →
    (x : RunStopped codes budget size S n why) (y : RunStopped codes budget size S m other) → (n ≡ m) × (why ≡ other) × (x.last ≡ y.last)
