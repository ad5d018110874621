-- A spelled level settles to its solid.
use Rattle.std.specs.Prelude.{ℕ, ◌≡◌, ◌<◌, ◌+◌, List, ◌∷◌, Some, length, slice_get}
use Rattle.lmn_base.specs.Lists.{In}
use Rattle.lmn_base.specs.Names.{HasNames, solid_names}
use Rattle.lmn_base.specs.Solids.{HasEachRule}
use Rattle.lmn_base.specs.declared.rule.RuleTree.{RuleTree}
use Rattle.lmn_base.specs.declared.solid.Solid.{Solid}
use Rattle.lmn_congruence.specs.Plains.{SolidOf, level_process}
use Rattle.lmn_congruence.specs.Process.{Closed}
use Rattle.lmn_congruence.specs.Regions.{Region, region_process}
use Rattle.lmn_congruence.specs.Rules.{Level, Name, head_of}
use Rattle.lmn_congruence.specs.Translation.{region_of, rule_tree}
use Rattle.lmn_adequacy.specs.Accepted.{Accepted}
use Rattle.lmn_adequacy.specs.Embedding.{EmbedsAt}
use Rattle.lmn_adequacy.specs.Next.{RawAt}
use Rattle.lmn_store_heap.specs.Heap.{Heap, mems_in, rules_in}
use Rattle.lmn_store_heap.specs.Lists.{Distinct}
use Rattle.lmn_store_heap.specs.Sound.{Forest, flat as members, Forms, Valid}
use Rattle.lmn_adequacy_heaps.specs.HeapRegions.{region_at}
use Rattle.lmn_adequacy_turns.specs.Turning.{Leads}
use Rattle.lmn_solid_settle.specs.Raw.{CanSettle, IsSettled, RawRegion, laid}
use Rattle.lmn_solid_settle.specs.declared.settling.RawMembrane.{RawMembrane}
use Rattle.lmn_solid_tables.specs.Flats.{IsFlatOf, heap_of, reading_of}
use Rattle.lmn_solid_tables.specs.declared.flat.Flat.{Flat}
use Rattle.lmn_solid_firing.specs.Laws.{IsMatch, NamesKnown, RulesBelow}
use Rattle.lmn_solid_firing.specs.Making.{IsMade}
use Rattle.lmn_solid_firing.specs.Meant.{wire_pairs}
use Rattle.lmn_solid_firing.specs.Spelled.{Spells}
use Rattle.lmn_solid_firing.specs.declared.match_.Match.{Match}

-- The raw region can be settled, and what it is settled to is, by these names and rules, the solid of the level.
pub record SettlesToSolid (names : List Name) (table : List RuleTree) (L : Level) (r : RawRegion) (connectors : List (ℕ × ℕ)) (n : ℕ) : Type 0 where
  pub can_settle : CanSettle r connectors n
  pub solid : (s : Solid) → IsSettled r connectors s → SolidOf L (region_of names table s)

-- A raw region that spells a closed level does so.
abbrev pub SpelledLevelsSettle : Type 0
SpelledLevelsSettle = (names : List Name) (table : List RuleTree) (L : Level) (r : RawRegion) (connectors : List (ℕ × ℕ)) (n : ℕ) →
    Spells names table L r connectors n → Closed (level_process L) → SettlesToSolid names table L r connectors n

-- A solid is that of a level, each of its rules is of the table, and its names are in the list.
pub record IsSolidOfLevel (names : List Name) (table : List RuleTree) (L : Level) (s : Solid) : Type 0 where
  pub is : SolidOf L (region_of names table s)
  pub each_rule : HasEachRule table s
  pub named : HasNames names (solid_names s)

-- The table of raw membranes and its connectors can be settled, and what it is settled to is the solid of the level after the firing of
-- rule number `index` of a membrane, to which the path leads.
pub record SettlesToNext (h : Heap) (home : ℕ) (names : List Name) (table : List RuleTree) (S : Region) (index : ℕ) (ns : List ℕ) (rows : List RawMembrane) (connectors : List (ℕ × ℕ)) (n : ℕ) : Type 0 where
  pub region : RawRegion
  pub is_laid : rows ≡ laid 0 0 region
  pub level : Level
  pub path : List ℕ
  pub leads : Leads h home path 0
  pub fires : RawAt path index ns S level
  pub can_settle : CanSettle region connectors n
  pub solid : (s : Solid) → IsSettled region connectors s → IsSolidOfLevel names table level s

-- Where an accepted rule embeds in a membrane of a closed region, what is made by a match of this embedding does so.
abbrev pub FiringsSettle : Type 0
FiringsSettle = (flat : Flat) (names : List Name) (table : List RuleTree) (t : Match) (rule : RuleTree) (left : ℕ → Forest) (inner mi : Forest) (index k : ℕ) (ns : List ℕ) →
    let h = heap_of flat in let r = reading_of names table flat in
    Valid h → Forms h inner (mems_in h 0) → Distinct (0 ∷ members inner) → In t.home (0 ∷ members inner) → Forms h mi (mems_in h t.home) →
    slice_get (rules_in h t.home) index ≡ Some k → r.rule k ≡ rule_tree names r.rule rule →
    Accepted (rule_tree names r.rule rule) → Closed (region_process (region_at h r 0 inner)) → RulesBelow (length table) flat rule.body → NamesKnown names flat rule.body →
    (e : EmbedsAt (rule_tree names r.rule rule) ns (region_at h r t.home mi)) → IsMatch flat r t rule left e.contents e.rest →
    (rows : List RawMembrane) (pairs : List (ℕ × ℕ)) (links : ℕ) →
    IsMade flat t left inner rule.body (t.links + length rule.links) (wire_pairs t.links e.contents.link_of (head_of (rule_tree names r.rule rule)) (length rule.links)) rows pairs links →
    SettlesToNext h t.home names table (region_at h r 0 inner) index ns rows pairs links

-- The rules in the membranes of a solid's tables are of a table that has each rule of the solid.
abbrev pub FlatsHaveRules : Type 0
FlatsHaveRules = (table : List RuleTree) (s : Solid) (flat : Flat) → IsFlatOf s flat → HasEachRule table s → (m k : ℕ) → In k (rules_in (heap_of flat) m) → k < length table
