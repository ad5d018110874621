-- How many rules a turn asks, by the solid.
use Rattle.std.specs.Prelude.{ℕ, ◌≡◌, ◌+◌, List, length}
use Rattle.lmn_base.specs.declared.rule.RuleTree.{RuleTree}
use Rattle.lmn_congruence.specs.Regions.{Region, Regions, region, no_region, region_and}
use Rattle.lmn_congruence.specs.Rules.{Name}
use Rattle.lmn_store_heap.specs.Heap.{Heap}
use Rattle.lmn_store_heap.specs.Sound.{Forest, IsTree, flat}
use Rattle.lmn_instr_code.specs.declared.instr.Code.{Code}
use Rattle.lmn_schedule_strategy.specs.Counting.{CountsAsked, CountsUpTo, RisesWithin, awake_of, rule_count}
use Rattle.lmn_adequacy.specs.Choice.{asked_paths}
use Rattle.lmn_adequacy_choices.specs.Counting.{AsksRulesOf}
use Rattle.lmn_schedule.specs.Held.{EngineCanTurn, HoldsRegion}

abbrev mutual
  -- How many rules stand in a region and in its membranes, at every depth.
  pub rule_count_of_region : Region → ℕ
  rule_count_of_region (region atoms membranes rules) = length rules + rule_count_of_regions membranes

  pub rule_count_of_regions : Regions → ℕ
  rule_count_of_regions no_region = 0
  rule_count_of_regions (region_and r rs) = rule_count_of_region r + rule_count_of_regions rs

-- The membranes of a heap have as many rules as the solid that it holds.
abbrev pub RulesAreCounted : Type 0
RulesAreCounted = (names : List Name) (table : List RuleTree) (h : Heap) (S : Region) → HoldsRegion names table h S →
    (f : Forest) × IsTree h f × (rule_count h (flat f) ≡ rule_count_of_region S)

-- A count of attempts rises by the rules that are asked of a solid at most, where its membranes are asked from a number on.
pub record CountsAskedOf (S : Region) (from old new : ℕ) : Type 0 where
  pub rules : ℕ
  pub asks : AsksRulesOf S (asked_paths from S) rules
  pub counts : RisesWithin rules old new

-- What is counted on a heap that an engine can turn is counted of the solid that it holds.
abbrev pub CountsAreAlike : Type 0
CountsAreAlike = (names : List Name) (table : List RuleTree) (h : Heap) (S : Region) (codes : List Code) (size : ℕ) → HoldsRegion names table h S → EngineCanTurn h table codes size →
    (from old new : ℕ) → CountsAsked h codes from old new → CountsAskedOf S from old new

-- What is counted on a heap is at most the number of rules in its membranes that are awake, and one at least where there is such a rule.
abbrev pub AttemptsAreFew : Type 0
AttemptsAreFew = (h : Heap) (codes : List Code) (from old new : ℕ) → CountsAsked h codes from old new → (f : Forest) → IsTree h f → CountsUpTo (rule_count h (awake_of h (flat f))) old new
