-- What can be searched, asked and matched, and what can't.
use Rattle.std.specs.Prelude.{ℕ, ℤ, ◌≡◌, ◌≢◌, List, [], ◌∷◌}
use Rattle.lmn_base.specs.declared.rule.Plain.{Plain}
use Rattle.lmn_base.specs.declared.rule.RuleTree.{RuleTree}
use Rattle.lmn_base.specs.declared.solid.Region.TheViews.{roll-Region}
use Rattle.lmn_base.specs.declared.solid.Solid.{Solid}
use Rattle.lmn_base.specs.Graphs.{Port}
use Rattle.lmn_base.specs.Lists.{In}
use Rattle.lmn_base.specs.Names.{IsNames}
use Rattle.lmn_base.specs.WellMade.{IsWellMade}
use Rattle.lmn_guards.specs.declared.plan.GuardPlan.{GuardPlan}
use Rattle.lmn_store_heap.specs.Heap.{Heap, rules_in}
use Rattle.lmn_store_heap.specs.Sound.{Forest}
use Rattle.lmn_solid_heads.specs.Embeddings.{HasLink, Images}
use Rattle.lmn_compile_head.specs.Accepted.{head_items}
use Rattle.lmn_congruence.specs.Regions.{Region}
use Rattle.lmn_congruence.specs.Rules.{Name}
use Rattle.lmn_adequacy.specs.Embedding.{Contents}
use Rattle.lmn_adequacy_heaps.specs.HeapRegions.{HeapReading}
use Rattle.lmn_solid_tables.specs.Flats.{IsFlatOf, heap_of, link_at}
use Rattle.lmn_solid_tables.specs.declared.flat.Flat.{Flat}
use Rattle.lmn_solid_search.specs.declared.embedding.Found.{Found}
use Rattle.lmn_solid_firing.specs.declared.match_.Match.{Match}
use Rattle.lmn_solid_next.specs.Asking.{Fires, IsAsked, IsSearched}
use Rattle.lmn_solid_next.specs.Firing.{CanFire, HasMatch, MayFire, TellsIntegers}
use Rattle.lmn_solid_next.specs.Searching.{CanSearch, IsSolidBy}

-- a solid in which these rules alone stand
abbrev pub with_rules : List ℕ → Solid
with_rules rules = record { root = roll-Region (record { atoms = []; membranes = []; rules = rules }) }

-- A well made plain without rules can be searched without plans,
abbrev pub NoRulesCanBeSearched : Type 0
NoRulesCanBeSearched = (names : List Name) (plain : Plain) → IsWellMade plain → plain.rules ≡ [] → CanSearch names plain []

-- and not with one.
abbrev pub PlanOfNoRule : Type 0
PlanOfNoRule = (names : List Name) (plain : Plain) (plan : GuardPlan) → plain.rules ≡ [] → CanSearch names plain (plan ∷ []) → ⊥

-- A solid in which nothing stands is one of it,
abbrev pub NothingIsBy : Type 0
NothingIsBy = (names : List Name) (plain : Plain) → IsNames names → plain.rules ≡ [] → IsSolidBy names plain (with_rules [])

-- and none with a rule is,
abbrev pub RuleOfNoPlain : Type 0
RuleOfNoPlain = (names : List Name) (plain : Plain) (k : ℕ) → plain.rules ≡ [] → IsSolidBy names plain (with_rules (k ∷ [])) → ⊥

-- so none is the next.
abbrev pub NoRuleFires : Type 0
NoRuleFires = (names : List Name) (plain : Plain) (s : Solid) (flat : Flat) (m place : ℕ) (rule : RuleTree) (plan : GuardPlan) (k : ℕ) → plain.rules ≡ [] → Fires names plain s flat m place rule plan (with_rules (k ∷ [])) → ⊥

-- Its tables are searched, and no rule is asked.
abbrev pub NothingIsSearched : Type 0
NothingIsSearched = (names : List Name) (plain : Plain) (flat : Flat) → IsWellMade plain → IsNames names → plain.rules ≡ [] → IsFlatOf (with_rules []) flat → IsSearched names plain [] (with_rules []) flat

abbrev pub NoRuleIsAsked : Type 0
NoRuleIsAsked = (names : List Name) (plain : Plain) (plans : List GuardPlan) (s : Solid) (flat : Flat) (m place : ℕ) (rule : RuleTree) (plan : GuardPlan) → plain.rules ≡ [] → IsAsked names plain plans s flat m place rule plan → ⊥

-- Where a membrane has a rule that isn't of the plain, none may fire.
abbrev pub OtherRuleMayNotFire : Type 0
OtherRuleMayNotFire = (names : List Name) (plain : Plain) (flat : Flat) (inner : Forest) (j k m : ℕ) (rule : RuleTree) → plain.rules ≡ [] → In k (rules_in (heap_of flat) m) → MayFire names plain flat inner j rule → ⊥

-- Without items and conditions no name has an integer.
abbrev pub NoIntegersAreTold : Type 0
NoIntegersAreTold = (h : Heap) (m : ℕ) (found : Found) → found.names.items ≡ [] → TellsIntegers h [] [] m found

abbrev pub IntegerOfNoName : Type 0
IntegerOfNoName = (h : Heap) (m : ℕ) (z : ℤ) (found : Found) → found.names.items ≡ 7 ∷ [] → found.values.items ≡ z ∷ [] → TellsIntegers h [] [] m found → ⊥

-- The number of a match is above those of links,
abbrev pub NoLinksAreNoMatch : Type 0
NoLinksAreNoMatch = (flat : Flat) (r : HeapReading) (rule : RuleTree) (plan : GuardPlan) (f : Images) (t : Match) (c : Contents) (rest : Region) → t.links ≡ 0 → HasMatch flat r rule plan f t c rest → ⊥

-- and one link of a head is one of the solid.
abbrev pub OneLinkIsOne : Type 0
OneLinkIsOne = (names : List Name) (plain : Plain) (s : Solid) (flat : Flat) (m place : ℕ) (rule : RuleTree) (plan : GuardPlan) (f : Images) (t : Match) (x : ℕ) (p q : Port) →
    HasLink (head_items rule plan) x p → HasLink (head_items rule plan) x q → link_at flat (f.atom p.0) p.1 ≢ link_at flat (f.atom q.0) q.1 → CanFire names plain s flat m place rule plan f t → ⊥
