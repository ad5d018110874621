-- Weights as they are read, the weight of a level of a plain, and when its rules are lowered.
use Rattle.lmn_base.specs.Limits.{most_body_items}
use Rattle.std.specs.Prelude.{ℕ, ◌≡◌, ◌+◌, ◌*◌, ◌^◌, ◌<◌, ◌≤◌, ◌==◌, ◌&&◌, ◌||◌, Bool, true, false, IsTrue, List, [], ◌∷◌, Some, length, map, sum, slice_get, nat_lt, nat_le, if◌then◌else◌}
use Rattle.std.specs.List.{AllByRecursion, list_any, list_all}
use Rattle.lmn_base.specs.declared.functor.Functor.{Functor}
use Rattle.lmn_base.specs.declared.functor.Label.{Label}
use Rattle.lmn_base.specs.declared.functor.Label.TheVariants.{Int, Name}
use Rattle.lmn_base.specs.Levels.{contexts_of}
use Rattle.lmn_base.specs.declared.level.CtxUse.{CtxUse}
use Rattle.lmn_base.specs.declared.level.Leaf.{Leaf}
use Rattle.lmn_base.specs.declared.level.Leaf.TheVariants.{Atom, Typed}
use Rattle.lmn_base.specs.declared.level.Level.{Level}
use Rattle.lmn_base.specs.declared.level.Level.TheOpen.{Level-F}
use Rattle.lmn_base.specs.declared.level.Level.TheFolds.{fold-Level}
use Rattle.lmn_base.specs.declared.refusal.Refusal.{Refusal}
use Rattle.lmn_base.specs.declared.rule.Plain.{Plain}
use Rattle.lmn_base.specs.declared.rule.RuleTree.{RuleTree}
use Rattle.lmn_guards.specs.declared.plan.GuardPlan.{GuardPlan}
use Rattle.lmn_guards.specs.declared.plan.TypeKind.{TypeKind}
use Rattle.lmn_guards.specs.declared.plan.TypeKind.TheVariants as kind
use Rattle.lmn_guards.specs.declared.plan.TypedUse.{TypedUse}
use Rattle.lmn_store_heap.specs.Functors.{same_functor}
use Rattle.lmn_weight.specs.declared.weights.Weights.{Weights}
use Rattle.lmn_base.specs.Solids.{is_connector}

-- ---- weights

-- what a functor weighs by a list of functors and one of their weights: nothing, where it isn't in the list
abbrev pub listed_weight : List Functor → List ℕ → Functor → ℕ
listed_weight [] values f = 0
listed_weight (g ∷ gs) [] f = 0
listed_weight (g ∷ gs) (n ∷ ns) f = if same_functor g f then n else listed_weight gs ns f

-- the functor is an integer with one link
abbrev pub is_integer_label : Label → Bool
is_integer_label (Int z) = true
is_integer_label (Name n) = false

abbrev pub is_integer : Functor → Bool
is_integer f = is_integer_label f.label && (f.arity == 1)

-- what an atom weighs: a connector nothing, an integer with one link what integers do
abbrev pub functor_weight : Weights → Functor → ℕ
functor_weight w f =
    if is_connector f then 0
    else if is_integer f then w.int
    else listed_weight w.functors w.values f

-- ---- contexts of a rule, by its plan

-- the type is `int`
abbrev pub is_int_kind : TypeKind → Bool
is_int_kind kind.Int = true
is_int_kind kind.Unary = false
is_int_kind kind.Ground = false

-- the use is one of a context of the type `int` with this name
abbrev pub is_int_use : ℕ → TypedUse → Bool
is_int_use n u = (u.name == n) && is_int_kind u.kind

-- the context is `int` or bound
abbrev pub stands_for_int : List TypedUse → List ℕ → ℕ → Bool
stands_for_int kinds bound n = list_any (is_int_use n) kinds || list_any (λ m. m == n) bound

-- ---- levels

-- the weight of a leaf: of other contexts nothing
abbrev pub leaf_weight : Weights → List TypedUse → List ℕ → Leaf → ℕ
leaf_weight w kinds bound (Atom functor links pos) = functor_weight w functor
leaf_weight w kinds bound (Typed name link pos) = if stands_for_int kinds bound name then w.int else 0

-- the weight of a level: of its leaves, and of its membranes with their levels
abbrev pub weight_step : Weights → List TypedUse → List ℕ → Level-F ℕ → ℕ
weight_step w kinds bound l = sum (map (leaf_weight w kinds bound) l.leaves) + (length l.membranes * w.membrane + sum l.membranes)

abbrev pub level_weight : Weights → List TypedUse → List ℕ → Level → ℕ
level_weight w kinds bound = fold-Level ℕ (weight_step w kinds bound)

-- how often a typed context stands in a level, at every depth
abbrev pub one_if_use : ℕ → Leaf → ℕ
one_if_use n (Atom functor links pos) = 0
one_if_use n (Typed name link pos) = if name == n then 1 else 0

abbrev pub use_step : ℕ → Level-F ℕ → ℕ
use_step n l = sum (map (one_if_use n) l.leaves) + sum l.membranes

abbrev pub typed_uses : ℕ → Level → ℕ
typed_uses n = fold-Level ℕ (use_step n)

-- how often a closed context stands in a level, at every depth
abbrev pub one_if_closed : ℕ → CtxUse → ℕ
one_if_closed n u = if u.closed && (u.name == n) then 1 else 0

abbrev pub closed_step : ℕ → Level-F ℕ → ℕ
closed_step n l = sum (map (one_if_closed n) l.contexts) + sum l.membranes

abbrev pub closed_uses : ℕ → Level → ℕ
closed_uses n = fold-Level ℕ (closed_step n)

-- ---- rules

-- a typed context of the head is `int`, or stands at most once in the body
abbrev pub stands_once : Level → TypedUse → Bool
stands_once body u = is_int_kind u.kind || nat_le (typed_uses u.name body) 1

-- an untyped context of the head is open, or stands at most once in the body
abbrev pub closed_once : Level → CtxUse → Bool
closed_once body u = if u.closed then nat_le (closed_uses u.name body) 1 else true

-- A rule is lowered: its head weighs more than its body, and each typed context of its head that isn't `int`, and each closed
-- one, stands at most once in its body.
abbrev pub is_lowered : Weights → RuleTree → GuardPlan → Bool
is_lowered w r plan =
    nat_lt (level_weight w plan.kinds plan.bound r.body) (level_weight w plan.kinds plan.bound r.head)
    && (list_all (stands_once r.body) plan.kinds && list_all (closed_once r.body) (contexts_of r.head))

-- every rule of a plain is lowered, those in rules too
abbrev pub EachLowered : Weights → Plain → List GuardPlan → Type 0
EachLowered w p plans = (k : ℕ) (r : RuleTree) (plan : GuardPlan) → slice_get p.rules k ≡ Some r → slice_get plans k ≡ Some plan → IsTrue (is_lowered w r plan)

-- E86: the first rule by its place that isn't lowered
pub record IsFirstNotLowered (w : Weights) (p : Plain) (plans : List GuardPlan) (refusal : Refusal) : Type 0 where
  pub number : ℕ
  pub rule : RuleTree
  pub plan : GuardPlan
  pub is_rule : slice_get p.rules number ≡ Some rule
  pub is_plan : slice_get plans number ≡ Some plan
  pub not_lowered : is_lowered w rule plan ≡ false
  pub before : (k : ℕ) (r : RuleTree) (g : GuardPlan) → k < number → slice_get p.rules k ≡ Some r → slice_get plans k ≡ Some g → IsTrue (is_lowered w r g)
  pub refused : refusal ≡ record { code = 86; pos = rule.pos }

-- ---- small numbers

-- how many atoms, typed contexts and membranes stand in a level, at every depth, without connectors
abbrev pub one_if_weighed : Leaf → ℕ
one_if_weighed (Atom functor links pos) = if is_connector functor then 0 else 1
one_if_weighed (Typed name link pos) = 1

abbrev pub weighed_step : Level-F ℕ → ℕ
weighed_step l = sum (map one_if_weighed l.leaves) + (length l.membranes + sum l.membranes)

abbrev pub weighed_items : Level → ℕ
weighed_items = fold-Level ℕ weighed_step

-- each weight is at most 1,000,000
pub record AreSmall (w : Weights) : Type 0 where
  pub listed : AllByRecursion (λ n. n ≤ 1000000) w.values
  pub int : w.int ≤ 1000000
  pub membrane : w.membrane ≤ 1000000

-- the top has at most 2^24 items, and the head and the body of each rule at most 1,024; that a head has fewer isn't wanted
pub record IsOfSize (p : Plain) : Type 0 where
  pub top : weighed_items p.top ≤ 2 ^ 24
  pub rules : (k : ℕ) (r : RuleTree) → slice_get p.rules k ≡ Some r → (weighed_items r.head ≤ most_body_items) × (weighed_items r.body ≤ most_body_items)
