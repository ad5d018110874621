-- Which firing the strategy chooses on a heap, by the images of heads alone.
use Rattle.std.specs.Prelude.{ℕ, ℤ, ◌≡◌, ◌⊎◌, List, [], ◌∷◌, ◌++◌, Some, slice_get, take}
use Rattle.lmn_base.specs.Lists.{In}
use Rattle.lmn_base.specs.declared.rule.RuleTree.{RuleTree}
use Rattle.lmn_guards.specs.declared.plan.GuardPlan.{GuardPlan}
use Rattle.lmn_store_heap.specs.Heap.{Heap, IsMem, rules_in}
use Rattle.lmn_store_heap.specs.Sound.{Forest}
use Rattle.lmn_solid_heads.specs.Embeddings.{Embeds, Images, IsLeast, meaning}
use Rattle.lmn_instr_code.specs.Running.{IsFirstSuccess}
use Rattle.lmn_compile_head.specs.Accepted.{head_items, rule_head_code}
use Rattle.lmn_compile_body.specs.Accepted.{rule_body_names}
use Rattle.lmn_solid_bodies.specs.Running.{Registers}
use Rattle.lmn_solid_bodies.specs.Within.{HoldsRests}
use Rattle.lmn_congruence.specs.Translation.{rule_tree}
use Rattle.lmn_adequacy.specs.Choice.{Before, ChosenFrom}
use Rattle.lmn_adequacy.specs.Embedding.{EmbedsAt}
use Rattle.lmn_adequacy_heaps.specs.HeapRegions.{HeapReading, region_at}
use Rattle.lmn_adequacy_heaps.specs.Numbers.{numbers_left}
use Rattle.lmn_adequacy_heaps.specs.Premises.{HasForest}
use Rattle.lmn_adequacy_turns.specs.Bound.{bound_all}
use Rattle.lmn_adequacy_turns.specs.Turning.{IsRegisters, Leads}
use Rattle.lmn_schedule_strategy.specs.Choosing.{asked}
use Rattle.lmn_adequacy_choices.specs.Turns.{heap_region, tree_over}

-- the numbers of the images of the head of a rule, each counted among what earlier ones have left
abbrev pub numbers_of : Heap → RuleTree → GuardPlan → Images → List ℕ
numbers_of h rule plan f = numbers_left h f 0 1 [] [] (head_items rule plan)

-- none of these rules embeds in membrane m,
abbrev pub NoneOf : List RuleTree → List GuardPlan → Heap → ℕ → List ℕ → Type 0
NoneOf table plans h m rules = (k : ℕ) → In k rules → (rule : RuleTree) (plan : GuardPlan) → slice_get table k ≡ Some rule → slice_get plans k ≡ Some plan →
    (f : Images) → ¬ (Embeds h (head_items rule plan) rule.guard m f)

-- and no rule of these membranes does.
abbrev pub NoneIn : List RuleTree → List GuardPlan → Heap → List ℕ → Type 0
NoneIn table plans h ms = (m : ℕ) → In m ms → NoneOf table plans h m (rules_in h m)

-- Where membranes are asked from a number on, m is the first of which a rule embeds, the rule at a place of its list is its first, and
-- these images are its least.
pub record IsFirst (from : ℕ) (table : List RuleTree) (plans : List GuardPlan) (h : Heap) (inner : Forest) (m place : ℕ) (rule : RuleTree) (plan : GuardPlan) (f : Images) : Type 0 where
  pub earlier : List ℕ
  pub later : List ℕ
  pub order : asked from (tree_over h inner) ≡ earlier ++ m ∷ later
  pub none : NoneIn table plans h earlier
  pub number : ℕ
  pub stands : slice_get (rules_in h m) place ≡ Some number
  pub before : NoneOf table plans h m (take place (rules_in h m))
  pub rule_is : slice_get table number ≡ Some rule
  pub plan_is : slice_get plans number ≡ Some plan
  pub least : IsLeast h (head_items rule plan) rule.guard m f

-- What a firing at the least images of a rule has of them. Nothing runs code here: the registers are those that it would set.
--   registers    they hold the images,
--   bound        and where the guard binds a name its integer,
--   rests        and what is left where closed contexts stand
--   embeds       the rule embeds in the region of the membrane, at the numbers of the images, with its contents as the registers
--                have them,
--   least        and at none before them
pub record LiesLeast (h : Heap) (r : HeapReading) (rule : RuleTree) (plan : GuardPlan) (m : ℕ) (inner : Forest) (f : Images) : Type 0 where
  pub registers : Registers
  pub images : registers.head.images ≡ f
  pub first : IsFirstSuccess h (rule_head_code rule plan) m registers.head
  pub bound : (x : ℕ) (z : ℤ) → (bound_all h (meaning (head_items rule plan) f) rule.guard).bound_to x ≡ Some z → registers.head.integer ((rule_body_names rule plan).integer x) ≡ z
  pub rests : HoldsRests h registers (head_items rule plan)
  pub embeds : EmbedsAt (rule_tree r.names r.rule rule) (numbers_of h rule plan f) (region_at h r m inner)
  pub of_registers : IsRegisters h r rule plan m inner registers (numbers_of h rule plan f) embeds
  pub least : (ks : List ℕ) → EmbedsAt (rule_tree r.names r.rule rule) ks (region_at h r m inner) → (numbers_of h rule plan f ≡ ks) ⊎ Before (numbers_of h rule plan f) ks

-- The strategy of the calculus chooses the rule at a place of membrane m, where it lies least at these images.
--   forest, has, there    the membrane, with what is in it
--   path, leads           the path to it
pub record IsChosenAt (from : ℕ) (h : Heap) (r : HeapReading) (inner : Forest) (m place : ℕ) (rule : RuleTree) (plan : GuardPlan) (f : Images) : Type 0 where
  pub forest : Forest
  pub has : HasForest h m forest
  pub there : IsMem h m
  pub lies : LiesLeast h r rule plan m forest f
  pub path : List ℕ
  pub leads : Leads h m path h.root
  pub chosen : ChosenFrom from (heap_region h r inner) path place (numbers_of h rule plan f)
