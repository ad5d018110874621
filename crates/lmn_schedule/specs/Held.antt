-- What an engine holds: how its heap is read as a solid of the calculus, and what a turn asks of it.
use Rattle.std.specs.Prelude.{ℕ, ◌≡◌, ◌<◌, ◌-◌, ◌^◌, Some, List, length, slice_get, All}
use Rattle.lmn_base.specs.declared.rule.Plain.{Plain}
use Rattle.lmn_base.specs.declared.rule.RuleTree.{RuleTree}
use Rattle.lmn_base.specs.Levels.{links_of, rules_of}
use Rattle.lmn_base.specs.Links.{EachTwice}
use Rattle.lmn_base.specs.WellMade.{IsWellMade}
use Rattle.lmn_base.specs.declared.solid.Solid.{Solid}
use Rattle.lmn_base.specs.declared.functor.Functor.{Functor}
use Rattle.lmn_base.specs.Names.{IsNames, HasNames, NamesPlain, label_names}
use Rattle.lmn_guards.specs.declared.plan.GuardPlan.{GuardPlan}
use Rattle.lmn_store_heap.specs.Heap.{Heap, functor_of}
use Rattle.lmn_store_heap.specs.Sound.{Forest, bare, mem, IsTree}
use Rattle.lmn_instr_code.specs.declared.instr.Code.{Code}
use Rattle.lmn_congruence.specs.Plains.{SolidOf}
use Rattle.lmn_congruence.specs.Regions.{Region, region_process}
use Rattle.lmn_congruence.specs.Rules.{Name}
use Rattle.lmn_congruence.specs.SolidsOfPlains.{IsSolidOf}
use Rattle.lmn_congruence.specs.Translation.{numbered_rule, plain_process, region_of, top_of}
use Rattle.lmn_reduction.specs.Commits.{Settles}
use Rattle.lmn_adequacy.specs.Numbered.{IsNumbered}
use Rattle.lmn_adequacy_heaps.specs.HeapRegions.{HeapReading, region_at}
use Rattle.lmn_adequacy_heaps.specs.Premises.{IsRead, IsRule, HasRules}
use Rattle.lmn_adequacy_turns.specs.Commits.{IsTable}
use Rattle.lmn_schedule_strategy.specs.Choosing.{CanTurn}
use Rattle.lmn_schedule_strategy.specs.Quieting.{SleepsRightly}
use Rattle.lmn_compile_rules.specs.Compiled.{AreWhole, AreCompiled}

-- What a turn asks: of the heap; that no membrane sleeps in which the code of a rule succeeds; that the codes are those of the table, of
-- whose rules each stands in bodies with rules of the table alone; and that no number of items is beyond the size for want of bits.
pub record EngineCanTurn (h : Heap) (table : List RuleTree) (codes : List Code) (size : ℕ) : Type 0 where
  pub turn : CanTurn h (length codes)
  pub sleeps : SleepsRightly h codes
  pub plans : List GuardPlan
  pub whole : AreWhole table plans
  pub compiled : AreCompiled table plans codes
  pub inner : (k : ℕ) (rule : RuleTree) → slice_get table k ≡ Some rule → All (λ j. j < length table) (rules_of rule.body)
  pub small : size < 2 ^ 64 - 1

-- how a heap is read by a list of names and a table of rules, where its links have these numbers
abbrev pub reading_by : List Name → List RuleTree → (ℕ → ℕ → ℕ) → HeapReading
reading_by names table number = record { name = number; names = names; rule = numbered_rule names table }

-- The heap holds the solid S: by these names and rules it is read as S, whose links are numbered in printed order.
pub record HoldsRegion (names : List Name) (table : List RuleTree) (h : Heap) (S : Region) : Type 0 where
  pub number : ℕ → ℕ → ℕ
  pub inner : Forest
  pub read : IsRead h (reading_by names table number)
  pub tree : IsTree h (mem h.root inner bare)
  pub rules : HasRules h (reading_by names table number) table
  pub keeps : IsTable (reading_by names table number) table
  pub is : S ≡ region_at h (reading_by names table number) h.root inner
  pub numbered : IsNumbered S

-- a plain that is well made, with each link of its top in two places, and a plan for each of its rules
pub record CanBeLoaded (plain : Plain) (plans : List GuardPlan) : Type 0 where
  pub made : IsWellMade plain
  pub closed : EachTwice (links_of plain.top)
  pub plans_are : AreWhole plain.rules plans

-- the list has the names of the plain, and by it each rule is one that a text may have
pub record AreNames (names : List Name) (plain : Plain) : Type 0 where
  pub begins : IsNames names
  pub known : NamesPlain names plain
  pub rules : (number : ℕ → ℕ → ℕ) (k : ℕ) (rule : RuleTree) → slice_get plain.rules k ≡ Some rule → IsRule (reading_by names plain.rules number) rule

-- The heap holds the solid of the plain, to which the plain's process settles: the region of that by numbers.
pub record HoldsSolid (names : List Name) (plain : Plain) (h : Heap) : Type 0 where
  pub solid : Region
  pub holds : HoldsRegion names plain.rules h solid
  pub from : (s : Solid) × IsSolidOf plain s × (solid ≡ region_of names plain.rules s)
  pub of_plain : SolidOf (top_of names plain) solid
  pub settles : Settles (plain_process names plain) (region_process solid)

-- the list has the names of all atoms of a heap
abbrev pub NamesAtoms : List Name → Heap → Type 0
NamesAtoms names h = (a : ℕ) (f : Functor) → functor_of h a ≡ Some f → HasNames names (label_names f.label)

-- Each heap that an engine can turn holds a solid, where the names of its atoms are known: also one that comes from whoever was lent the
-- store.
abbrev pub HeapsHoldSolids : Type 0
HeapsHoldSolids = (names : List Name) (plain : Plain) (h : Heap) (codes : List Code) (size : ℕ) →
    IsWellMade plain → AreNames names plain → EngineCanTurn h plain.rules codes size → NamesAtoms names h → (S : Region) × HoldsRegion names plain.rules h S
