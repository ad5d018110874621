-- What a firing makes is a raw level of the calculus.
use Rattle.std.specs.Prelude.{◌↔◌, ℕ, ◌≡◌, ◌<◌, ◌≤◌, ◌+◌, All, List, ◌∷◌, Some, flat_map, length, map, slice_get}
use Rattle.lmn_base.specs.Levels.{contexts_of, leaves_of, rule_contexts_of, rules_of}
use Rattle.lmn_base.specs.Lists.{In}
use Rattle.lmn_base.specs.Names.{HasNames, label_names, level_names, solid_names}
use Rattle.lmn_base.specs.Solids.{HasEachRule}
use Rattle.lmn_base.specs.declared.solid.Solid.{Solid}
use Rattle.lmn_base.specs.declared.level.Level.{Level as LevelTree}
use Rattle.lmn_base.specs.declared.rule.RuleTree.{RuleTree}
use Rattle.lmn_congruence.specs.LinkedRules.{level_occurrences}
use Rattle.lmn_congruence.specs.Plains.{level_process}
use Rattle.lmn_congruence.specs.Process.{Closed}
use Rattle.lmn_congruence.specs.Regions.{Region, region, region_process}
use Rattle.lmn_congruence.specs.Rules.{Level, Name, head_of}
use Rattle.lmn_congruence.specs.Translation.{rule_tree}
use Rattle.lmn_adequacy.specs.Accepted.{Accepted}
use Rattle.lmn_adequacy.specs.Embedding.{Contents, EmbedsAt}
use Rattle.lmn_adequacy.specs.Next.{RawAt}
use Rattle.lmn_store_heap.specs.Heap.{Heap, HeapAtom, IsMem, atoms_in, mems_in, rules_in}
use Rattle.lmn_store_heap.specs.Lists.{Distinct}
use Rattle.lmn_store_heap.specs.Sound.{Forest, flat as members, Forms, Valid}
use Rattle.lmn_adequacy_heaps.specs.HeapRegions.{HeapReading, atoms_at, region_at, regions_at}
use Rattle.lmn_solid_settle.specs.Raw.{IsSettled, RawRegion, laid, raw_atoms}
use Rattle.lmn_solid_settle.specs.declared.settling.RawMembrane.{RawMembrane}
use Rattle.lmn_solid_tables.specs.Flats.{heap_of, link_at, reading_of}
use Rattle.lmn_solid_tables.specs.declared.flat.Flat.{Flat}
use Rattle.lmn_base.specs.Graphs.{Port}
use Rattle.lmn_reduction.specs.Parts.{Rooted}
use Rattle.lmn_ground_parts.specs.Walks.{IsPartInDepth}
use Rattle.lmn_adequacy_heaps.specs.Parts.{IsGroundPart}
use Rattle.lmn_adequacy_heaps.specs.Premises.{IsRead}
use Rattle.lmn_adequacy_turns.specs.Turning.{IsLeft, Leads}
use Rattle.lmn_solid_firing.specs.declared.match_.Match.{Match}
use Rattle.lmn_solid_firing.specs.declared.match_.Part.{Part}
use Rattle.lmn_solid_firing.specs.Making.{IsMade, LeftForms, left_of}
use Rattle.lmn_solid_firing.specs.Meant.{BodyFits, PartStands, wire_pairs}
use Rattle.lmn_solid_firing.specs.Spelled.{Spells, raw_rules}

-- A match is what an embedding takes and leaves.
--   below     the links of the solid are below its number
--   fits      the names of the body stand for what the contents of the embedding say
--   rest      what the embedding leaves of the membrane in which the rule fires
--   bounded   the links of the head are those of the rule
--   wired     a link that stands once in the head stands for one of the solid
pub record IsMatch (flat : Flat) (r : HeapReading) (t : Match) (rule : RuleTree) (left : ℕ → Forest) (c : Contents) (kept : Region) : Type 0 where
  pub below : (a i : ℕ) → link_at flat a i < t.links
  pub fits : BodyFits flat r t c left (length rule.links) (leaves_of rule.body) (contexts_of rule.body) (rule_contexts_of rule.body)
  pub rest : kept ≡ region (atoms_at (heap_of flat) r (left_of t.atoms (atoms_in (heap_of flat) t.home))) (regions_at (heap_of flat) r (left t.home)) (map r.rule (rules_in (heap_of flat) t.home))
  pub bounded : (x : ℕ) → length rule.links ≤ x → level_occurrences x (head_of (rule_tree r.names r.rule rule)) ≡ 0
  pub wired : (x : ℕ) → level_occurrences x (head_of (rule_tree r.names r.rule rule)) ≡ 1 → c.link_of x < t.links

-- the rules of the solid, and of a body, have numbers below n
abbrev pub RulesBelow : ℕ → Flat → LevelTree → Type 0
RulesBelow n flat body = ((m k : ℕ) → In k (rules_in (heap_of flat) m) → k < n) × All (λ k. k < n) (rules_of body)

-- the list has the names of the solid and of a body
abbrev pub NamesKnown : List Name → Flat → LevelTree → Type 0
NamesKnown names flat body = ((a : ℕ) (x : HeapAtom) → (heap_of flat).atoms a ≡ Some x → HasNames names (label_names x.functor.label)) × HasNames names (level_names body)

-- Where rule number `index` of a membrane embeds, what is made by a match of this embedding is the table of a region that, with its
-- connectors, spells a raw level: the one after this firing, to whose membrane a path leads. Where the rule is accepted and the region is closed, so is the level.
-- What is made has no rule from a number on and no unknown name, where the solid and the body of the rule have none.
abbrev pub FiringsAreSpelled : Type 0
FiringsAreSpelled = (flat : Flat) (names : List Name) (table : List RuleTree) (t : Match) (rule : RuleTree) (left : ℕ → Forest) (inner mi : Forest) (index k : ℕ) (ns : List ℕ) →
    let h = heap_of flat in let r = reading_of names table flat in
    Valid h → Forms h inner (mems_in h 0) → Distinct (0 ∷ members inner) → In t.home (0 ∷ members inner) → Forms h mi (mems_in h t.home) →
    slice_get (rules_in h t.home) index ≡ Some k → r.rule k ≡ rule_tree names r.rule rule →
    (e : EmbedsAt (rule_tree names r.rule rule) ns (region_at h r t.home mi)) → IsMatch flat r t rule left e.contents e.rest →
    (rows : List RawMembrane) (pairs : List (ℕ × ℕ)) (links : ℕ) →
    IsMade flat t left inner rule.body (t.links + length rule.links) (wire_pairs t.links e.contents.link_of (head_of (rule_tree names r.rule rule)) (length rule.links)) rows pairs links →
    (R : RawRegion) × (L : Level) × (path : List ℕ) × (rows ≡ laid 0 0 R) × Leads h t.home path 0 × RawAt path index ns (region_at h r 0 inner) L × Spells names table L R pairs links
    × (Accepted (rule_tree names r.rule rule) → Closed (region_process (region_at h r 0 inner)) → Closed (level_process L))
    × ((n : ℕ) → RulesBelow n flat rule.body → All (λ k. k < n) (raw_rules R)) × (NamesKnown names flat rule.body → HasNames names (flat_map (λ a. label_names a.functor.label) (raw_atoms R)))

-- Where a match takes the atoms and membranes of some lists, what it leaves of each membrane forms a forest, and is what is left of the
-- membrane without these.
abbrev pub HeadsLeave : Type 0
HeadsLeave = (flat : Flat) → Valid (heap_of flat) → (r : HeapReading) (t : Match) (atoms membranes : List ℕ) →
    ((a : ℕ) → In a t.atoms ↔ In a atoms) → ((m : ℕ) → In m t.membranes ↔ In m membranes) →
    (left : ℕ → Forest) × LeftForms flat t left
    × ((x : ℕ) → IsMem (heap_of flat) x → (S : Region) → IsLeft (heap_of flat) r atoms membranes x S →
    S ≡ region (atoms_at (heap_of flat) r (left_of t.atoms (atoms_in (heap_of flat) x))) (regions_at (heap_of flat) r (left x)) (map r.rule (rules_in (heap_of flat) x)))

-- A ground part, listed in the order of a walk over its ports, stands for what it is in the calculus.
abbrev pub PartsStand : Type 0
PartsStand = (h : Heap) (r : HeapReading) → IsRead h r → (m : ℕ) (root : Port) (part : List ℕ) (g : Rooted) → IsGroundPart h r m root part g →
    (p : Part) → p.link ≡ r.name root.0 root.1 → IsPartInDepth h root p.atoms → PartStands h r p g

-- A solid to which a raw region is settled has each of its rules in a table, and its names in a list, where the raw region has them there.
abbrev pub SettledSolidsKeep : Type 0
SettledSolidsKeep = (R : RawRegion) (connectors : List (ℕ × ℕ)) (s : Solid) → IsSettled R connectors s →
    ((table : List RuleTree) → All (λ k. k < length table) (raw_rules R) → HasEachRule table s)
    × ((names : List Name) → HasNames names (flat_map (λ a. label_names a.functor.label) (raw_atoms R)) → HasNames names (solid_names s))
