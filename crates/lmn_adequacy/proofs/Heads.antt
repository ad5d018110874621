-- What the laws ask of the heads of rules.
use Rattle.std.proofs.Common.{ℕ, List, ◌≡◌, [], ◌∷◌}
use Rattle.lmn_congruence.specs.Orders.{EachOnce, Put, here, there}
use Rattle.lmn_congruence.specs.Regions.{Region, Regions, no_region, region, region_and}
use Rattle.lmn_congruence.specs.Rules.{Leaf, Level, Levels, Rule, atom_leaf, connector_leaf, guard_of, head_of, level, level_and, no_level, no_rule, typed_leaf}
use Rattle.lmn_reduction.specs.Assignments.{Assignment}
use Rattle.lmn_reduction.specs.Firing.{typed_contexts}
use Rattle.lmn_reduction.specs.Guards.{GuardHolds}
use Rattle.lmn_reduction.specs.Parts.{IsGround}
use Rattle.lmn_adequacy.specs.Accepted.{all_contexts}
use Rattle.lmn_adequacy.specs.Embedding.{AllRules, AllRulesIn, EachRule, TakenRegion, region_first, region_later}

-- a head without connectors, in which the typed contexts stand for ground processes
abbrev pub HeadLeaves : Assignment → List Leaf → Type 0
HeadLeaves t [] = Unit {0}
HeadLeaves t (atom_leaf a xs ∷ ls) = HeadLeaves t ls
HeadLeaves t (connector_leaf x y ∷ ls) = ⊥
HeadLeaves t (typed_leaf p x ∷ ls) = IsGround (t.typed_of p) × HeadLeaves t ls

abbrev mutual
  pub HeadLevel : Assignment → Level → Type 0
  HeadLevel t (level leaves membranes contexts rule_contexts rules) = HeadLeaves t leaves × HeadLevels t membranes

  pub HeadLevels : Assignment → Levels → Type 0
  HeadLevels t no_level = Unit {0}
  HeadLevels t (level_and l ls) = HeadLevel t l × HeadLevels t ls

-- the head of a rule has no connector and no context twice, and its guard makes each of its typed contexts ground
abbrev pub HeadAllowed : Rule → Type 0
HeadAllowed r = EachOnce (all_contexts (head_of r)) × ((t : Assignment) → GuardHolds (typed_contexts (head_of r)) t (guard_of r) → HeadLevel t (head_of r))

-- no context and no rule stands at the top of the head of a rule
pub record Bare (r : Rule) : Type 0 where
  pub leaves : List Leaf
  pub membranes : Levels
  pub is : head_of r ≡ level leaves membranes [] [] no_rule

-- ---- the rules of a region

-- what holds of each rule holds of one that stands among them
pub rule_there : (H : Rule → Type 0) {r : Rule} {rest rs : List Rule} → EachRule H rs → Put r rest rs → H r
rule_there H e here = e.0
rule_there H e (there p) = rule_there H e.1 p

-- what holds of the rules in some membranes holds of those in each of them
pub region_there : (H : Rule → Type 0) {n : ℕ} {m : Region} {ms rest : Regions} → AllRulesIn H ms → TakenRegion n m ms rest → AllRules H m
region_there H e region_first = e.0
region_there H e (region_later k) = region_there H e.1 k

each_rule_so : {H K : Rule → Type 0} → ((r : Rule) → H r → K r) → (rs : List Rule) → EachRule H rs → EachRule K rs
each_rule_so f [] h = tt
each_rule_so f (r ∷ rs) h = (f r h.0, each_rule_so f rs h.1)

mutual
  pub all_rules_so : {H K : Rule → Type 0} → ((r : Rule) → H r → K r) → (m : Region) → AllRules H m → AllRules K m
  all_rules_so f (region xs ms rs) h = (each_rule_so f rs h.0, all_rules_in_so f ms h.1)

  all_rules_in_so : {H K : Rule → Type 0} → ((r : Rule) → H r → K r) → (ms : Regions) → AllRulesIn H ms → AllRulesIn K ms
  all_rules_in_so f no_region h = tt
  all_rules_in_so f (region_and m ms) h = (all_rules_so f m h.0, all_rules_in_so f ms h.1)
