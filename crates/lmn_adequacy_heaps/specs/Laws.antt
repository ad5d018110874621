-- The laws between embeddings on heaps and embeddings in regions.
use Rattle.std.specs.Prelude.{ℕ, ◌≡◌, ◌↔◌, ◌⊎◌, List, [], map, Some, slice_get}
use Rattle.lmn_base.specs.declared.guard.Cond.{Cond}
use Rattle.lmn_base.specs.declared.level.Level.{Level}
use Rattle.lmn_base.specs.declared.rule.RuleTree.{RuleTree}
use Rattle.lmn_guards.specs.declared.plan.TypeKind.{TypeKind}
use Rattle.lmn_store_heap.specs.Heap.{Heap, IsMem, rules_in}
use Rattle.lmn_store_heap.specs.Sound.{Forest, bare, mem, IsTree, Valid}
use Rattle.lmn_solid_heads.specs.Embeddings.{Images, Embeds, IsLeast, positions, ListNotAfter, meaning}
use Rattle.lmn_solid_heads.specs.Guards.{HoldsOnHeap}
use Rattle.lmn_reduction.specs.Firing.{typed_contexts}
use Rattle.lmn_reduction.specs.Guards.{GuardHolds}
use Rattle.lmn_adequacy_heaps.specs.Bindings.{Binds}
use Rattle.lmn_solid_heads.specs.Flattening.{items_of_head}
use Rattle.lmn_congruence.specs.Process.{Process, Free}
use Rattle.lmn_congruence.specs.Regions.{Region, region_process}
use Rattle.lmn_congruence.specs.Translation.{rule_tree, regions, region_step}
use Rattle.lmn_reduction.specs.Commits.{Irreducible}
use Rattle.lmn_reduction.specs.Steps.{Step}
use Rattle.lmn_adequacy.specs.Choice.{Before}
use Rattle.lmn_adequacy.specs.Embedding.{EmbedsAt}
use Rattle.lmn_adequacy.specs.Loose.{Plain, LevelImages}
use Rattle.lmn_congruence.specs.Rules.{Name, Rule, head_of, guard_of}
use Rattle.lmn_reduction.specs.Assignments.{Assignment}
use Rattle.lmn_reduction.specs.Parts.{Rooted}
use Rattle.lmn_adequacy_heaps.specs.HeapRegions.{HeapReading, region_at, regions_at}
use Rattle.lmn_base.specs.declared.solid.Region.TheFolds.{fold-Region}
use Rattle.lmn_store_heap.specs.Solid.{IsNaming, regions_of}
use Rattle.lmn_adequacy_heaps.specs.Numbers.{numbers_left}
use Rattle.lmn_adequacy_heaps.specs.Premises.{IsRead, HasForest, HasRules, IsRule, HasKinds, HasTypes}
use Rattle.lmn_adequacy_heaps.specs.Parts.{TakesParts}
use Rattle.lmn_base.specs.Lists.{In}

-- The head of a rule lies in a region at these numbers, its guard aside.
pub record LiesInRegion (rule : Rule) (ns : List ℕ) (m : Region) (t : Assignment) : Type 0 where
  pub plain : Plain t
  pub rest : Region
  pub images : LevelImages t (head_of rule) ns m rest

-- The head of a rule embeds on the heap, its guard aside, exactly where it lies in the region that stands for the membrane: at
-- the same numbers, and with the same parts for its typed contexts, which are of their kinds.
abbrev pub HeadsAlike : Type 0
HeadsAlike = (h : Heap) (r : HeapReading) (m : ℕ) (inner : Forest) (kind : ℕ → TypeKind) (rule : RuleTree) →
    IsRead h r → HasForest h m inner → IsRule r rule →
    (ns : List ℕ) (typed_of : Name → Rooted) → ((p : Name) → Free (typed_of p).root (typed_of p).process) →
    ((f : Images) × Embeds h (items_of_head kind rule.head) [] m f × (numbers_left h f 0 1 [] [] (items_of_head kind rule.head) ≡ ns) × TakesParts h r kind rule f typed_of)
    ↔ (HasKinds r kind rule typed_of × ((t : Assignment) × (t.typed_of ≡ typed_of) × LiesInRegion (rule_tree r.names r.rule rule) ns (region_at h r m inner) t))

-- A rule, whatever its guard, embeds on a heap, at a membrane, exactly where its tree embeds in the region that stands
-- there; and the numbers of the one are those of the other.
abbrev pub EmbedsAlike : Type 0
EmbedsAlike = (h : Heap) (r : HeapReading) (m : ℕ) (inner : Forest) (kind : ℕ → TypeKind) (rule : RuleTree) →
    IsRead h r → HasForest h m inner → IsRule r rule → HasTypes kind rule → (ns : List ℕ) →
    ((f : Images) × Embeds h (items_of_head kind rule.head) rule.guard m f × (numbers_left h f 0 1 [] [] (items_of_head kind rule.head) ≡ ns))
    ↔ EmbedsAt (rule_tree r.names r.rule rule) ns (region_at h r m inner)

-- a rule of some membrane of a heap embeds; `kinds` gives for the number of each rule what its typed contexts are
pub record SomeRuleEmbeds (h : Heap) (table : List RuleTree) (kinds : ℕ → ℕ → TypeKind) : Type 0 where
  pub membrane : ℕ
  pub in_place : IsMem h membrane
  pub number : ℕ
  pub stands : In number (rules_in h membrane)
  pub rule : RuleTree
  pub is : slice_get table number ≡ Some rule
  pub images : Images
  pub embeds : Embeds h (items_of_head (kinds number) rule.head) rule.guard membrane images

-- the process of a heap whose membranes form the tree `mem root inner bare`
abbrev pub heap_process : Heap → HeapReading → Forest → Process
heap_process h r inner = region_process (region_at h r h.root inner)

-- the kinds of each rule of a table are those that its guard gives
abbrev pub AllTyped : List RuleTree → (ℕ → ℕ → TypeKind) → Type 0
AllTyped table kinds = (k : ℕ) (rule : RuleTree) → slice_get table k ≡ Some rule → HasTypes (kinds k) rule

-- A step is possible from the process of a heap exactly where a rule embeds on the heap,
abbrev pub HeapStepsExactly : Type 0
HeapStepsExactly = (h : Heap) (r : HeapReading) (table : List RuleTree) (kinds : ℕ → ℕ → TypeKind) (inner : Forest) →
    IsRead h r → IsTree h (mem h.root inner bare) → HasRules h r table → AllTyped table kinds →
    ((Q : Process) × Step (heap_process h r inner) Q) ↔ SomeRuleEmbeds h table kinds

-- and the process is irreducible exactly where none embeds.
abbrev pub HeapIrreducibleExactly : Type 0
HeapIrreducibleExactly = (h : Heap) (r : HeapReading) (table : List RuleTree) (kinds : ℕ → ℕ → TypeKind) (inner : Forest) →
    IsRead h r → IsTree h (mem h.root inner bare) → HasRules h r table → AllTyped table kinds →
    Irreducible (heap_process h r inner) ↔ (¬ (SomeRuleEmbeds h table kinds))

-- Positions of two embeddings, and the numbers counted among what earlier images have left, are in the same order. So the
-- least embedding is the same by both.
abbrev pub NumbersLeftInOrder : Type 0
NumbersLeftInOrder = (h : Heap) (kind : ℕ → TypeKind) (l : Level) (guard : List Cond) (m : ℕ) (f g : Images) →
    Embeds h (items_of_head kind l) guard m f → Embeds h (items_of_head kind l) guard m g →
    ListNotAfter (positions h f 0 1 (items_of_head kind l)) (positions h g 0 1 (items_of_head kind l))
    ↔ ListNotAfter (numbers_left h f 0 1 [] [] (items_of_head kind l)) (numbers_left h g 0 1 [] [] (items_of_head kind l))

-- The guard of a rule holds on the heap exactly where it does in the calculus: where the assignment takes typed contexts to
-- their parts. From the heap the assignment must take each name that the guard binds to its integer.
abbrev pub GuardsAlike : Type 0
GuardsAlike = (h : Heap) (r : HeapReading) (kind : ℕ → TypeKind) (rule : RuleTree) (f : Images) (t : Assignment) →
    IsRead h r → IsRule r rule → TakesParts h r kind rule f t.typed_of →
    (HoldsOnHeap h (meaning (items_of_head kind rule.head) f) rule.guard → Binds h r.names t.typed_of (meaning (items_of_head kind rule.head) f) rule.guard →
    GuardHolds (typed_contexts (head_of (rule_tree r.names r.rule rule))) t (guard_of (rule_tree r.names r.rule rule)))
    × (GuardHolds (typed_contexts (head_of (rule_tree r.names r.rule rule))) t (guard_of (rule_tree r.names r.rule rule)) → HoldsOnHeap h (meaning (items_of_head kind rule.head) f) rule.guard)

-- a rule embeds in a region at a list of numbers, and at none that is before it
abbrev pub EmbedsFirstAt : Rule → List ℕ → Region → Type 0
EmbedsFirstAt rule ns m = EmbedsAt rule ns m × ((ks : List ℕ) → EmbedsAt rule ks m → (ns ≡ ks) ⊎ Before ns ks)

-- The least embedding on a heap is at the first numbers at which the rule embeds in the region that stands there.
abbrev pub LeastAlike : Type 0
LeastAlike = (h : Heap) (r : HeapReading) (m : ℕ) (inner : Forest) (kind : ℕ → TypeKind) (rule : RuleTree) →
    IsRead h r → HasForest h m inner → IsRule r rule → HasTypes kind rule → (ns : List ℕ) →
    ((f : Images) × IsLeast h (items_of_head kind rule.head) rule.guard m f × (numbers_left h f 0 1 [] [] (items_of_head kind rule.head) ≡ ns))
    ↔ EmbedsFirstAt (rule_tree r.names r.rule rule) ns (region_at h r m inner)

-- the region of a heap is that of its solid
abbrev pub SolidsAreRegions : Type 0
SolidsAreRegions = (h : Heap) (r : HeapReading) (f : Forest) →
    regions (map (fold-Region Region (region_step r.names r.rule)) (regions_of h r.name f)) ≡ regions_at h r f

-- each valid heap has a naming
abbrev pub HeapsAreNamed : Type 0
HeapsAreNamed = (h : Heap) → Valid h → (name : ℕ → ℕ → ℕ) × IsNaming h name
