-- The laws of runs.
use Rattle.std.specs.Prelude.{ℕ, ◌≡◌, ◌<◌, List, length}
use Rattle.std.specs.declared.alloc.Global.{Global}
use Rattle.lmn_base.specs.declared.rule.Plain.{Plain}
use Rattle.lmn_base.specs.declared.solid.Solid.{Solid}
use Rattle.lmn_base.specs.Names.{NamesPlain}
use Rattle.lmn_base.specs.WellMade.{IsWellMade}
use Rattle.lmn_congruence.specs.Process.{Closed}
use Rattle.lmn_congruence.specs.Regions.{Region, region_process}
use Rattle.lmn_congruence.specs.Rules.{Name}
use Rattle.lmn_congruence.specs.SolidsOfPlains.{IsSolidOf}
use Rattle.lmn_congruence.specs.Translation.{numbered_rule, region_of, top_of}
use Rattle.lmn_flatten_plain.specs.Spelled.{LevelSpelled, RuleSpelled}
use Rattle.lmn_adequacy.specs.Accepted.{Accepted}
use Rattle.lmn_adequacy.specs.Runs.{Trace}
use Rattle.lmn_app_runs.specs.Runs.{Given, PrintedLines, Prints, StopsBy, StopsSo}
use Rattle.lmn_app_runs.specs.declared.stop.Stop.{Stop}

-- A plain of which runs can be printed, by a list of names: it is well made and has names of the list alone; a text can spell its top
-- and its rules; and each rule is accepted.
pub record IsPrintable (names : List Name) (plain : Plain) : Type 0 where
  pub made : IsWellMade plain
  pub named : NamesPlain names plain
  pub top : LevelSpelled (top_of names plain)
  pub rules : (k : ℕ) → k < length plain.rules → RuleSpelled (numbered_rule names plain.rules k) × Accepted (numbered_rule names plain.rules k)

-- the process of the solid of a plain, as a region
abbrev pub solid_of : List Name → Plain → Solid → Region
solid_of names plain s = region_of names plain.rules s

-- What is printed of a trace of the solid of such a plain: the lines are those of processes, each of which reads back as its process;
-- each next process comes by one commit; and a stop of the trace is one of the run.
pub record IsRunOf (g : Given) (names : List Name) (plain : Plain) (s : Solid) (before : List Region) (last : Region) : Type 0 where
  pub prints : (lines : List (List ℕ)) → PrintedLines g before last lines →
      Prints g.trace g.folded names (region_process (solid_of names plain s)) (length before) (region_process last) lines
  pub stops : (why : Stop) → StopsSo g (length before) last why → StopsBy g.budget why (length before) (region_process last)

-- Each trace is such a run. A box in a condition belongs to an allocator, so one is given.
abbrev pub TracesAreRuns : Type 0
TracesAreRuns = (alloc : Global) (g : Given) (names : List Name) (plain : Plain) (s : Solid) → IsPrintable names plain → IsSolidOf plain s →
    (before : List Region) (last : Region) → Trace g.chooser g.budget g.size (solid_of names plain s) before last → IsRunOf g names plain s before last

-- Lines are printed of each trace whose first solid has each link in two places, as that of a plain has, and no others are.
abbrev pub TracesHaveLines : Type 0
TracesHaveLines = (g : Given) (S : Region) (before : List Region) (last : Region) → Closed (region_process S) →
    Trace g.chooser g.budget g.size S before last →
    (lines : List (List ℕ)) × PrintedLines g before last lines × ((other : List (List ℕ)) → PrintedLines g before last other → other ≡ lines)

-- A run has one way to stop at a solid after n commits: not two,
abbrev pub StopIsOne : Type 0
StopIsOne = (g : Given) (n : ℕ) (S : Region) (why because : Stop) → StopsSo g n S why → StopsSo g n S because → why ≡ because

-- and not none: where it has no end it goes on, which is what NoMemory says.
abbrev pub SomeStop : Type 0
SomeStop = (g : Given) (n : ℕ) (S : Region) → ¬ ((why : Stop) → ¬ (StopsSo g n S why))
