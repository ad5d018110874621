-- A rule that is found to lie least fires by its match, and makes the next solid.
use Rattle.std.specs.Prelude.{ℕ, ◌≡◌, ◌+◌, List, ◌∷◌, Some, length, slice_get}
use Rattle.lmn_base.specs.declared.rule.Plain.{Plain}
use Rattle.lmn_base.specs.declared.rule.RuleTree.{RuleTree}
use Rattle.lmn_base.specs.declared.solid.Solid.{Solid}
use Rattle.lmn_base.specs.Graphs.{Port}
use Rattle.lmn_base.specs.declared.guard.Cond.{Cond}
use Rattle.lmn_guards.specs.Values.{value_beside}
use Rattle.lmn_guards.specs.declared.plan.GuardPlan.{GuardPlan}
use Rattle.lmn_store_heap.specs.Heap.{Heap, IsMem, mems_in}
use Rattle.lmn_store_heap.specs.Lists.{Distinct}
use Rattle.lmn_store_heap.specs.Sound.{Forest, flat as members, Forms}
use Rattle.lmn_solid_heads.specs.Embeddings.{HasLink, Images, IsLeast, meaning}
use Rattle.lmn_solid_heads.specs.Guards.{integer_named}
use Rattle.lmn_solid_heads.specs.declared.items.HeadItem.{HeadItem}
use Rattle.lmn_solid_heads.specs.Heads.{links_of_head, times}
use Rattle.lmn_compile_head.specs.Accepted.{head_items}
use Rattle.lmn_compile_body.specs.Accepted.{IsCompilable}
use Rattle.lmn_congruence.specs.Process.{Closed}
use Rattle.lmn_congruence.specs.LinkedRules.{level_occurrences}
use Rattle.lmn_congruence.specs.Regions.{Region, region_process}
use Rattle.lmn_congruence.specs.Rules.{Level, Name, head_of}
use Rattle.lmn_congruence.specs.Translation.{numbered_rule, rule_tree}
use Rattle.lmn_adequacy.specs.Embedding.{Contents}
use Rattle.lmn_adequacy_heaps.specs.HeapRegions.{HeapReading, region_at}
use Rattle.lmn_adequacy_heaps.specs.Premises.{IsRead, IsRule}
use Rattle.lmn_solid_settle.specs.Raw.{CanSettle, IsSettled, RawRegion, laid}
use Rattle.lmn_solid_settle.specs.declared.settling.RawMembrane.{RawMembrane}
use Rattle.lmn_solid_tables.specs.Flats.{IsFlatOf, heap_of, link_at, reading_of}
use Rattle.lmn_solid_tables.specs.declared.flat.Flat.{Flat}
use Rattle.lmn_solid_firing.specs.Laws.{IsMatch, NamesKnown, RulesBelow}
use Rattle.lmn_solid_firing.specs.Making.{IsMade, LeftForms}
use Rattle.lmn_solid_firing.specs.Meant.{wire_pairs}
use Rattle.lmn_solid_firing.specs.declared.match_.Match.{Match}
use Rattle.lmn_solid_search.specs.Binding.{after_all}
use Rattle.lmn_solid_search.specs.Finding.{images}
use Rattle.lmn_solid_search.specs.declared.embedding.Found.{Found}
use Rattle.lmn_solid_firing.specs.Matched.{IsMatched}
use Rattle.lmn_solid_next.specs.Asking.{Fires, IsAsked}
use Rattle.lmn_solid_next.specs.Choosing.{LiesLeast}
use Rattle.lmn_solid_next.specs.Searching.{CanSearch, IsSolidBy}

-- The tables of a solid, and rule number k of a plain, are as the law of a firing asks. `inner` are the membranes in the root.
--   read            the tables are read by the names and rules
--   forms, once     the membranes in the root are this forest, each once
--   closed          each link of the solid has both its ends there
--   is_rule         the rule is one that a text may have,
--   numbered        and its number is read as it
--   rules, named    the rules of the solid and of the rule's body are of the plain, and their names in the list
pub record MayFire (names : List Name) (plain : Plain) (flat : Flat) (inner : Forest) (k : ℕ) (rule : RuleTree) : Type 0 where
  pub read : IsRead (heap_of flat) (reading_of names plain.rules flat)
  pub forms : Forms (heap_of flat) inner (mems_in (heap_of flat) 0)
  pub once : Distinct (0 ∷ members inner)
  pub closed : Closed (region_process (region_at (heap_of flat) (reading_of names plain.rules flat) 0 inner))
  pub is_rule : IsRule (reading_of names plain.rules flat) rule
  pub numbered : numbered_rule names plain.rules k ≡ rule_tree names (numbered_rule names plain.rules) rule
  pub rules : RulesBelow (length plain.rules) flat rule.body
  pub named : NamesKnown names flat rule.body

-- Where a plain can be searched, each of its rules may fire in the tables of each solid with its rules.
abbrev pub SearchedRulesMayFire : Type 0
SearchedRulesMayFire = (names : List Name) (plain : Plain) (plans : List GuardPlan) → CanSearch names plain plans → (s : Solid) → IsSolidBy names plain s →
    (flat : Flat) (w : IsFlatOf s flat) (k : ℕ) (rule : RuleTree) → slice_get plain.rules k ≡ Some rule → MayFire names plain flat w.inner k rule

-- What is found tells the integers of names: those of the parts of a head, and those to which a guard binds names.
abbrev pub TellsIntegers : Heap → List HeadItem → List Cond → ℕ → Found → Type 0
TellsIntegers h items guard m found = (x : ℕ) → integer_named h (after_all h (meaning items (images m found)) guard) x ≡ value_beside found.names.items found.values.items x

-- A match of the least images of a rule is one of an embedding with these contents and this rest.
--   left, forms    the membranes that the head leaves of each membrane are these forests
--   is             the match is one of the embedding
--   ports          a link of the head stands for that of the solid at the images of its ports
--   often          the head as a tree has its links as often
pub record HasMatch (flat : Flat) (r : HeapReading) (rule : RuleTree) (plan : GuardPlan) (f : Images) (t : Match) (c : Contents) (rest : Region) : Type 0 where
  pub left : ℕ → Forest
  pub forms : LeftForms flat t left
  pub is : IsMatch flat r t rule left c rest
  pub ports : (x : ℕ) (p : Port) → HasLink (head_items rule plan) x p → c.link_of x ≡ link_at flat (f.atom p.0) p.1
  pub often : (x : ℕ) → times x (links_of_head (head_items rule plan)) ≡ level_occurrences x (head_of (rule_tree r.names r.rule rule))

-- What is matched of the least images of a rule is a match of the embedding at these images.
abbrev pub MatchesAreOfEmbeddings : Type 0
MatchesAreOfEmbeddings = (flat : Flat) (names : List Name) (table : List RuleTree) (rule : RuleTree) (plan : GuardPlan) → IsCompilable table rule plan →
    let h = heap_of flat in let r = reading_of names table flat in
    IsRead h r → IsRule r rule → (m : ℕ) (inner : Forest) → IsMem h m →
    (found : Found) → IsLeast h (head_items rule plan) rule.guard m (images m found) → TellsIntegers h (head_items rule plan) rule.guard m found →
    (lies : LiesLeast h r rule plan m inner (images m found)) → (t : Match) → IsMatched flat rule (head_items rule plan) m found t →
    HasMatch flat r rule plan (images m found) t lies.embeds.contents lies.embeds.rest

-- Where the rule lies least at these images, it can fire by a match of them.
--   left, forms       the membranes that the head leaves of each membrane are these forests
--   inner, whole      those in the root are this one
--   link_of, ports    the links of the solid at the ports of the head
--   head, often       the head as a tree has its links as often
--   settles           what is made by the match can be settled, and what it is settled to is the next solid
pub record CanFire (names : List Name) (plain : Plain) (s : Solid) (flat : Flat) (m place : ℕ) (rule : RuleTree) (plan : GuardPlan) (f : Images) (t : Match) : Type 0 where
  pub left : ℕ → Forest
  pub forms : LeftForms flat t left
  pub inner : Forest
  pub whole : Forms (heap_of flat) inner (mems_in (heap_of flat) 0)
  pub link_of : ℕ → ℕ
  pub ports : (x : ℕ) (p : Port) → HasLink (head_items rule plan) x p → link_of x ≡ link_at flat (f.atom p.0) p.1
  pub head : Level
  pub often : (x : ℕ) → times x (links_of_head (head_items rule plan)) ≡ level_occurrences x head
  pub settles : (rows : List RawMembrane) (pairs : List (ℕ × ℕ)) (links : ℕ) →
      IsMade flat t left inner rule.body (t.links + length rule.links) (wire_pairs t.links link_of head (length rule.links)) rows pairs links →
      (region : RawRegion) × (rows ≡ laid 0 0 region) × CanSettle region pairs links × ((next : Solid) → IsSettled region pairs next → Fires names plain s flat m place rule plan next)

-- Where a rule that is asked lies least at what is found, it can fire by what is matched of this.
abbrev pub AskedRulesFire : Type 0
AskedRulesFire = (names : List Name) (plain : Plain) (plans : List GuardPlan) (s : Solid) (flat : Flat) (m place : ℕ) (rule : RuleTree) (plan : GuardPlan) →
    IsAsked names plain plans s flat m place rule plan → (found : Found) → IsLeast (heap_of flat) (head_items rule plan) rule.guard m (images m found) →
    TellsIntegers (heap_of flat) (head_items rule plan) rule.guard m found → (t : Match) → IsMatched flat rule (head_items rule plan) m found t →
    CanFire names plain s flat m place rule plan (images m found) t
