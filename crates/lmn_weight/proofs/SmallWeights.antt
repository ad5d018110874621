-- A level weighs at most 1,000,000 for each of its items.
use Rattle.std.proofs.Common.{Some, slice_get, ℕ, zero, suc, Bool, true, false, List, map, sum, length, subst, arith, ◌≡◌, ◌+◌, ◌*◌, ◌^◌, ◌<◌, ◌≤◌, [], ◌∷◌, if◌then◌else◌}
use Rattle.std.specs.List.{AllByRecursion}
use Rattle.std.proofs.lemmas.List.{length-map}
use Rattle.lmn_base.specs.declared.functor.Functor.{Functor}
use Rattle.lmn_base.specs.declared.level.Leaf.{Leaf}
use Rattle.lmn_base.specs.declared.level.Leaf.TheVariants.{Atom, Typed}
use Rattle.lmn_base.specs.declared.level.Level.{Level}
use Rattle.lmn_base.specs.declared.level.Level.TheFolds.{fold-roll-Level, ind-Level}
use Rattle.lmn_guards.specs.declared.plan.TypedUse.{TypedUse}
use Rattle.lmn_store_heap.specs.Functors.{same_functor}
use Rattle.lmn_weight.specs.declared.weights.Weights.{Weights}
use Rattle.lmn_base.specs.declared.rule.Plain.{Plain}
use Rattle.lmn_base.specs.declared.rule.RuleTree.{RuleTree}
use Rattle.lmn_guards.specs.declared.plan.GuardPlan.{GuardPlan}
use Rattle.lmn_weight.specs.Plains.{AreSmall, IsOfSize, is_integer, leaf_weight, level_weight, listed_weight, one_if_weighed, stands_for_int, weighed_items, weighed_step, weight_step}
use Rattle.lmn_base.proofs.Lists.{sum_cons}
use Rattle.lmn_base.specs.Solids.{is_connector}

listed_small : (fs : List Functor) (vs : List ℕ) (f : Functor) → AllByRecursion (λ n. n ≤ 1000000) vs → listed_weight fs vs f ≤ 1000000
listed_small [] vs f h = omega arith
listed_small (g ∷ gs) [] f h = omega arith
listed_small (g ∷ gs) (n ∷ ns) f h = go (same_functor g f) (listed_small gs ns f h.1)
  where
    go : (b : Bool) → listed_weight gs ns f ≤ 1000000 → (if b then n else listed_weight gs ns f) ≤ 1000000
    go true i = h.0
    go false i = i

either_small : (b : Bool) (m n most : ℕ) → m ≤ most → n ≤ most → (if b then m else n) ≤ most
either_small true m n most h k = h
either_small false m n most h k = k

-- so many things of one weight weigh at most so many times the most
scaled : (n m : ℕ) → m ≤ 1000000 → n * m ≤ 1000000 * n
scaled zero m h = omega arith
scaled (suc n) m h = let i = scaled n m h in let e : suc n * m ≡ m + n * m = grind arith in omega (arith, e, i, h)

combined : (leaves n m inner atoms k items number : ℕ) → leaves ≤ 1000000 * atoms → n ≡ number → number * m ≤ 1000000 * number → k ≡ number → inner ≤ 1000000 * items → leaves + (n * m + inner) ≤ 1000000 * (atoms + (k + items))
combined leaves n m inner atoms k items number a e b e' c = rw (e, e') (omega (arith, a, b, c))

module _ (w : Weights) (small : AreSmall w) (kinds : List TypedUse) (bound : List ℕ) where
  leaf_small : (l : Leaf) → leaf_weight w kinds bound l ≤ 1000000 * one_if_weighed l
  leaf_small (Atom functor links pos) = go (is_connector functor)
    where
      go : (b : Bool) → (if b then 0 else if is_integer functor then w.int else listed_weight w.functors w.values functor) ≤ 1000000 * (if b then 0 else 1)
      go true = omega arith
      go false = either_small (is_integer functor) w.int (listed_weight w.functors w.values functor) 1000000 small.int (listed_small w.functors w.values functor small.listed)
  leaf_small (Typed name link pos) = either_small (stands_for_int kinds bound name) w.int 0 1000000 small.int (omega arith)

  leaves_small : (ls : List Leaf) → sum (map (leaf_weight w kinds bound) ls) ≤ 1000000 * sum (map one_if_weighed ls)
  leaves_small [] = omega arith
  leaves_small (l ∷ ls) = omega (arith, leaf_small l, leaves_small ls, sum_cons (leaf_weight w kinds bound) l ls, sum_cons one_if_weighed l ls)

  abbrev IsSmall : Level → Type 0
  IsSmall l = level_weight w kinds bound l ≤ 1000000 * weighed_items l

  inner_small : (ls : List ((l : Level) × IsSmall l)) → sum (map (level_weight w kinds bound) (map (λ e. e.0) ls)) ≤ 1000000 * sum (map weighed_items (map (λ e. e.0) ls))
  inner_small [] = omega arith
  inner_small (e ∷ ls) = omega (arith, e.1, inner_small ls, sum_cons (level_weight w kinds bound) e.0 (map (λ e. e.0) ls), sum_cons weighed_items e.0 (map (λ e. e.0) ls))

  -- a level weighs at most 1,000,000 for each of its items
  pub level_small : (l : Level) → IsSmall l
  level_small = ind-Level IsSmall (λ y z is.
      let inside = subst (λ l. sum (map (level_weight w kinds bound) l.membranes) ≤ 1000000 * sum (map weighed_items l.membranes)) is (inner_small z.membranes) in
      let leaves = leaves_small y.leaves in
      let walls = scaled (length y.membranes) w.membrane small.membrane in
      rw (fold-roll-Level ℕ (weight_step w kinds bound) y, fold-roll-Level ℕ weighed_step y) (combined _ _ _ _ _ _ _ (length y.membranes) leaves (length-map y.membranes (level_weight w kinds bound)) walls (length-map y.membranes weighed_items) inside))

-- a process whose top has at most 2^24 items weighs a number of 64 bits
pub top_little : (w : Weights) → AreSmall w → (l : Level) → weighed_items l ≤ 2 ^ 24 → level_weight w [] [] l < 2 ^ 64
top_little w small l h = let i = level_small w small [] [] l in omega (arith, i, h)

-- and so does a level of a rule that has at most 1,024
pub level_little : (w : Weights) → AreSmall w → (kinds : List TypedUse) (bound : List ℕ) (l : Level) → weighed_items l ≤ 1024 → level_weight w kinds bound l < 2 ^ 64
level_little w small kinds bound l h = let i = level_small w small kinds bound l in omega (arith, i, h)

-- the weights of the top and of each rule are numbers of 64 bits
pub record WeighsLittle (w : Weights) (p : Plain) (plans : List GuardPlan) : Type 0 where
  pub top : level_weight w [] [] p.top < 2 ^ 64
  pub rules : (k : ℕ) (r : RuleTree) (plan : GuardPlan) → slice_get p.rules k ≡ Some r → slice_get plans k ≡ Some plan →
      (level_weight w plan.kinds plan.bound r.head < 2 ^ 64) × (level_weight w plan.kinds plan.bound r.body < 2 ^ 64)

-- so it is where the weights are small and the plain is of its size
pub weighs_little : (w : Weights) (p : Plain) (plans : List GuardPlan) → AreSmall w → IsOfSize p → WeighsLittle w p plans
weighs_little w p plans small size = record {
  top = top_little w small p.top size.top;
  rules = λ k r plan i j.
      let few = size.rules k r i in
      (level_little w small plan.kinds plan.bound r.head few.0, level_little w small plan.kinds plan.bound r.body few.1);
}
