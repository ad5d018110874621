-- The weight of a level by its parts, and rules that are asked one after another.
use Rattle.std.proofs.Common.{ℕ, Bool, true, false, List, Some, ◌&&◌, ◌++◌, [], ◌≡◌, ◌≢◌, ◌⊎◌, ◌+◌, ◌*◌, ◌<◌, ◌≤◌, ◌∷◌, ◌∙◌, ap, sym, subst, refl, inl, inr, arith, drop, length, map, min, sum, take, slice_get, get_or}
use Rattle.std.specs.Prelude.{IsTrue}
use Rattle.std.specs.List.{flat_map, list_all}
use Rattle.std.proofs.lemmas.List.Folds.{list_all-append}
use Rattle.std.proofs.lemmas.List.{at_drop_more, length-map, take_all}
use Rattle.std.proofs.lemmas.Option.{slice_get-get_or}
use Rattle.lmn_base.specs.declared.functor.Functor.{Functor}
use Rattle.lmn_base.specs.Levels.{contexts_of}
use Rattle.lmn_base.specs.declared.level.CtxUse.{CtxUse}
use Rattle.lmn_base.specs.declared.level.Level.{Level, out-Level}
use Rattle.lmn_base.specs.declared.level.Level.TheFolds.{fold_out-Level}
use Rattle.lmn_base.specs.declared.rule.RuleTree.{RuleTree}
use Rattle.lmn_base.proofs.Numbers.{same_or_not}
use Rattle.lmn_guards.specs.declared.plan.GuardPlan.{GuardPlan}
use Rattle.lmn_guards.specs.declared.plan.TypedUse.{TypedUse}
use Rattle.lmn_store_heap.specs.Functors.{same_functor}
use Rattle.lmn_weight.specs.declared.weights.Weights.{Weights}
use Rattle.lmn_weight.specs.Plains.{is_lowered, leaf_weight, level_weight, listed_weight, weight_step}

-- ---- the list of functors

-- a functor that isn't the first of a list weighs what it does by the rest
pub passed : (fs : List Functor) (vs : List ℕ) (f d : Functor) (i : ℕ) (b : Bool) → length fs ≡ length vs → i < length fs → b ≡ same_functor (get_or fs i d) f → b ≡ false
    → listed_weight (drop i fs) (drop i vs) f ≡ listed_weight fs vs f → listed_weight (drop (i + 1) fs) (drop (i + 1) vs) f ≡ listed_weight fs vs f
passed fs vs f d i b e h s n t = sym step ∙ sym there ∙ t
  where
    there : listed_weight (drop i fs) (drop i vs) f ≡ listed_weight (get_or fs i d ∷ drop (i + 1) fs) (get_or vs i 0 ∷ drop (i + 1) vs) f
    there = at_drop_more (λ xs. listed_weight xs (drop i vs) f) fs i d h ∙ at_drop_more (λ ys. listed_weight (get_or fs i d ∷ drop (i + 1) fs) ys f) vs i 0 (omega (arith, e, h))

    step : listed_weight (get_or fs i d ∷ drop (i + 1) fs) (get_or vs i 0 ∷ drop (i + 1) vs) f ≡ listed_weight (drop (i + 1) fs) (drop (i + 1) vs) f
    step = rw (sym s ∙ n) refl

-- ---- levels

-- the weight of a level is that of its leaves and of its membranes
weight_apart : (w : Weights) (kinds : List TypedUse) (bound : List ℕ) (l : Level) → level_weight w kinds bound l ≡ sum (map (leaf_weight w kinds bound) (out-Level l).leaves) + (length (out-Level l).membranes * w.membrane + sum (map (level_weight w kinds bound) (out-Level l).membranes))
weight_apart w kinds bound l =
    fold_out-Level ℕ (weight_step w kinds bound) l
    ∙ ap (λ n. sum (map (leaf_weight w kinds bound) (out-Level l).leaves) + (n * w.membrane + sum (map (level_weight w kinds bound) (out-Level l).membranes))) (length-map (out-Level l).membranes (level_weight w kinds bound))

-- so where all membranes are weighed, the level is
pub all_weighed : (w : Weights) (kinds : List TypedUse) (bound : List ℕ) (l : Level) (ms : List Level) (i weight most : ℕ) → ms ≡ (out-Level l).membranes → length ms ≤ i
    → weight ≡ min (sum (map (leaf_weight w kinds bound) (out-Level l).leaves) + (length (out-Level l).membranes * w.membrane + sum (map (level_weight w kinds bound) (take i ms)))) most
    → weight ≡ min (level_weight w kinds bound l) most
all_weighed w kinds bound l ms i weight most e h f =
    f
    ∙ ap (λ xs. min (sum (map (leaf_weight w kinds bound) (out-Level l).leaves) + (length (out-Level l).membranes * w.membrane + sum (map (level_weight w kinds bound) xs))) most) (take_all i ms h ∙ e)
    ∙ ap (λ n. min n most) (sym (weight_apart w kinds bound l))

-- ---- contexts of a level

all_inside : (f : CtxUse → Bool) (ms : List Level) → list_all f (flat_map (λ us. us) (map contexts_of ms)) ≡ list_all (λ m. list_all f (contexts_of m)) ms
all_inside f [] = refl
all_inside f (m ∷ ms) = list_all-append f (contexts_of m) (flat_map (λ us. us) (map contexts_of ms)) ∙ ap (λ b. list_all f (contexts_of m) && b) (all_inside f ms)

-- where a test holds of the contexts of a level itself, it holds of all of the level where it does so of those of its membranes
pub contexts_inside : (f : CtxUse → Bool) (l : Level) (cs : List CtxUse) (ms : List Level) (own : Bool) → own ≡ list_all f cs → cs ≡ (out-Level l).contexts → own ≡ true → ms ≡ (out-Level l).membranes
    → list_all f (contexts_of l) ≡ list_all (λ m. list_all f (contexts_of m)) ms
contexts_inside f l cs ms own e k h i =
    ap (list_all f) (fold_out-Level (List CtxUse) (λ l. l.contexts ++ flat_map (λ us. us) l.membranes) l)
    ∙ list_all-append f (out-Level l).contexts (flat_map (λ us. us) (map contexts_of (out-Level l).membranes))
    ∙ ap (λ b. b && list_all f (flat_map (λ us. us) (map contexts_of (out-Level l).membranes))) (sym (e ∙ ap (list_all f) k) ∙ h) ∙ all_inside f (out-Level l).membranes ∙ ap (list_all (λ m. list_all f (contexts_of m))) (sym i)

-- ---- rules that are asked one after another

-- a list has what is read at a place of it
pub read_there : {A : Type 0} (xs : List A) (k : ℕ) (x d : A) → k < length xs → x ≡ get_or xs k d → slice_get xs k ≡ Some x
read_there xs k x d h e = slice_get-get_or xs k d h ∙ ap Some (sym e)

-- where the rules before one are lowered and it is, those before the next are
pub one_more : (w : Weights) (rules : List RuleTree) (plans : List GuardPlan) (k : ℕ) (r : RuleTree) (g : GuardPlan) → slice_get rules k ≡ Some r → slice_get plans k ≡ Some g → is_lowered w r g ≡ true
    → ((j : ℕ) (r : RuleTree) (g : GuardPlan) → j < k → slice_get rules j ≡ Some r → slice_get plans j ≡ Some g → IsTrue (is_lowered w r g))
    → (j : ℕ) (r : RuleTree) (g : GuardPlan) → j < k + 1 → slice_get rules j ≡ Some r → slice_get plans j ≡ Some g → IsTrue (is_lowered w r g)
one_more w rules plans k r g is_rule is_plan lowered before j r' g' b i i' = go (same_or_not j k)
  where
    same : {A : Type 0} (x y : A) → Some x ≡ Some y → x ≡ y
    same x y e = cc e

    go : (j ≡ k) ⊎ (j ≢ k) → IsTrue (is_lowered w r' g')
    go (inl e) =
        let p : r ≡ r' = same r r' (sym is_rule ∙ ap (slice_get rules) (sym e) ∙ i) in
        let q : g ≡ g' = same g g' (sym is_plan ∙ ap (slice_get plans) (sym e) ∙ i') in
        subst (λ z. is_lowered w z g' ≡ true) p (subst (λ z. is_lowered w r z ≡ true) q lowered)
    go (inr n) = before j r' g' (below j k b n) i i'
      where
        below : (j k : ℕ) → j < k + 1 → j ≢ k → j < k
        below j k b n = grind arith

-- a number that isn't beyond 64 bits is told as it is
pub told : (n weight : ℕ) → n ≡ min weight 18446744073709551615 → weight < 18446744073709551616 → n ≡ weight
told n weight e h = grind arith
