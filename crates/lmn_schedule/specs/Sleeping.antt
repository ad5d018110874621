-- Of membranes that sleep no rule embeds.
use Rattle.std.specs.Prelude.{ℕ, ◌≡◌, List}
use Rattle.lmn_base.specs.declared.rule.RuleTree.{RuleTree}
use Rattle.lmn_congruence.specs.Regions.{Region}
use Rattle.lmn_congruence.specs.Rules.{Name}
use Rattle.lmn_adequacy.specs.Embedding.{EmbedsIn}
use Rattle.lmn_store_heap.specs.Heap.{Heap, mem_mark_of}
use Rattle.lmn_store_trait.specs.Awake.{asleep_mark}
use Rattle.lmn_instr_code.specs.declared.instr.Code.{Code}
use Rattle.lmn_adequacy_turns.specs.Turning.{Leads}
use Rattle.lmn_schedule.specs.Held.{EngineCanTurn, HoldsRegion}

-- Where an engine can turn a heap that holds a solid, no rule embeds in a membrane of it that sleeps, to which this path leads: neither
-- before a turn nor after it, since it can be turned then too.
abbrev pub SleepersDoNotEmbed : Type 0
SleepersDoNotEmbed = (names : List Name) (table : List RuleTree) (h : Heap) (S : Region) (codes : List Code) (size : ℕ) → HoldsRegion names table h S → EngineCanTurn h table codes size →
    (m : ℕ) → mem_mark_of h m ≡ asleep_mark → (path : List ℕ) → Leads h m path h.root → (k : ℕ) (f : List ℕ) → ¬ (EmbedsIn path k f S)
