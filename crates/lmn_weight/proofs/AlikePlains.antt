-- Weights that are alike for the names of a plain weigh it alike.
use Rattle.std.proofs.Common.{ℕ, zero, suc, ◌≡◌, ◌<◌, ◌+◌, ◌*◌, ◌&&◌, List, [], ◌∷◌, ◌++◌, All, Some, length, map, slice_get, sum, refl, subst, arith, if◌then◌else◌}
use Rattle.std.specs.Prelude.{nat_lt}
use Rattle.std.specs.List.{AllByRecursion, flat_map, list_all}
use Rattle.std.proofs.lemmas.Option.{same_Some}
use Rattle.lmn_base.proofs.Lists.{all_left, all_of_left, all_of_right, all_right}
use Rattle.lmn_base.specs.declared.functor.Label.{Label}
use Rattle.lmn_base.specs.declared.functor.Label.TheVariants.{Int, Name}
use Rattle.lmn_base.specs.declared.level.Leaf.{Leaf}
use Rattle.lmn_base.specs.declared.level.Leaf.TheVariants as leaf
use Rattle.lmn_base.specs.declared.level.Level.{Level}
use Rattle.lmn_base.specs.declared.level.Level.TheFolds.{fold-roll-Level, ind-Level}
use Rattle.lmn_base.specs.declared.rule.RuleTree.{RuleTree}
use Rattle.lmn_base.specs.Levels.{contexts_of, leaves_of, rule_contexts_of}
use Rattle.lmn_base.specs.Names.{condition_names, context_names, label_names, leaf_names, level_names, rule_names}
use Rattle.lmn_guards.specs.declared.plan.TypedUse.{TypedUse}
use Rattle.lmn_instr_code.specs.Labels.{HasLabel}
use Rattle.lmn_weight.specs.declared.weights.Weights.{Weights}
use Rattle.lmn_weight.specs.OneReading.{AlikeForPlains, AreAlike}
use Rattle.lmn_weight.specs.Plains.{closed_once, leaf_weight, level_weight, stands_for_int, stands_once, weight_step}

-- the names of a rule of a table are names of the table
pub rule_known : (P : ℕ → Type 0) (rs : List RuleTree) (k : ℕ) (r : RuleTree) → All P (flat_map rule_names rs) → slice_get rs k ≡ Some r → All P (rule_names r)
rule_known P [] zero r h e = absurd (cc)
rule_known P [] (suc k) r h e = absurd (cc)
rule_known P (s ∷ rs) zero r h e = subst (λ s. All P (rule_names s)) (same_Some s r e) (all_of_left P (rule_names s) (flat_map rule_names rs) h)
rule_known P (s ∷ rs) (suc k) r h e = rule_known P rs k r (all_of_right P (rule_names s) (flat_map rule_names rs) h) e

module _ (names : List (List ℕ)) where
  abbrev IsHeld : ℕ → Type 0
  IsHeld n = n < length names

  abbrev IsHeldLeaf : Leaf → Type 0
  IsHeldLeaf l = All IsHeld (leaf_names l)

  held_label : (l : Label) → All IsHeld (label_names l) → HasLabel names l
  held_label (Name n) h = h zero n (omega arith)
  held_label (Int z) h = tt

  each_leaf : (ls : List Leaf) → All IsHeld (flat_map leaf_names ls) → AllByRecursion IsHeldLeaf ls
  each_leaf [] h = tt
  each_leaf (l ∷ ls) h = (all_of_left IsHeld (leaf_names l) (flat_map leaf_names ls) h, each_leaf ls (all_of_right IsHeld (leaf_names l) (flat_map leaf_names ls) h))

  level_leaves : (l : Level) → All IsHeld (level_names l) → AllByRecursion IsHeldLeaf (leaves_of l)
  level_leaves l h =
      let own = flat_map leaf_names (leaves_of l) in
      let contexts = context_names (contexts_of l) in
      each_leaf (leaves_of l) (all_of_left IsHeld own contexts (all_of_left IsHeld (own ++ contexts) (context_names (rule_contexts_of l)) h))

  module _ (v w : Weights) (a : AreAlike names v w) (kinds : List TypedUse) (bound : List ℕ) where
    leaf_alike : (l : Leaf) → IsHeldLeaf l → leaf_weight v kinds bound l ≡ leaf_weight w kinds bound l
    leaf_alike (leaf.Atom f os p) h = a.functors f (held_label f.label h)
    leaf_alike (leaf.Typed n o p) h = let int = a.int in λ i. if stands_for_int kinds bound n then int i else 0

    leaves_alike : (ls : List Leaf) → AllByRecursion IsHeldLeaf ls → map (leaf_weight v kinds bound) ls ≡ map (leaf_weight w kinds bound) ls
    leaves_alike [] h = refl
    leaves_alike (l ∷ ls) h = let one = leaf_alike l h.0 in let rest = leaves_alike ls h.1 in λ i. one i ∷ rest i

    abbrev IsAlike : Level → Type 0
    IsAlike l = AllByRecursion IsHeldLeaf (leaves_of l) → level_weight v kinds bound l ≡ level_weight w kinds bound l

    abbrev inside : List Level → List Leaf
    inside ms = flat_map (λ ls. ls) (map leaves_of ms)

    membranes_alike : (ms : List ((l : Level) × IsAlike l)) → AllByRecursion IsHeldLeaf (inside (map (λ e. e.0) ms)) → map (level_weight v kinds bound) (map (λ e. e.0) ms) ≡ map (level_weight w kinds bound) (map (λ e. e.0) ms)
    membranes_alike [] h = refl
    membranes_alike (e ∷ ms) h =
        let below = inside (map (λ (e : (l : Level) × IsAlike l). e.0) ms) in
        let one = e.1 (all_left IsHeldLeaf (leaves_of e.0) below h) in
        let rest = membranes_alike ms (all_right IsHeldLeaf (leaves_of e.0) below h) in
        λ i. one i ∷ rest i

    -- a level whose names are held weighs the same
    level_alike : (l : Level) → IsAlike l
    level_alike = ind-Level IsAlike (λ y z is h.
        let here = subst (AllByRecursion IsHeldLeaf) (fold-roll-Level (List Leaf) (λ l. l.leaves ++ flat_map (λ ls. ls) l.membranes) y) h in
        let own = leaves_alike y.leaves (all_left IsHeldLeaf y.leaves (inside y.membranes) here) in
        let below = subst (λ l. AllByRecursion IsHeldLeaf (inside l.membranes) → map (level_weight v kinds bound) l.membranes ≡ map (level_weight w kinds bound) l.membranes) is (membranes_alike z.membranes) (all_right IsHeldLeaf y.leaves (inside y.membranes) here) in
        let wall = a.membrane in
        rw (fold-roll-Level ℕ (weight_step v kinds bound) y, fold-roll-Level ℕ (weight_step w kinds bound) y)
        (λ i. sum (own i) + (length (below i) * wall i + sum (below i))))

-- a plain whose names are held weighs the same, and the same rules of it are lowered
pub alike_for_plains : AlikeForPlains
alike_for_plains names p v w named a =
    let P : ℕ → Type 0 = λ n. n < length names in
    let rules = all_of_right P (level_names p.top) (flat_map rule_names p.rules) named.1 in
    record {
      top = level_alike names v w a [] [] p.top (level_leaves names p.top (all_of_left P (level_names p.top) (flat_map rule_names p.rules) named.1));
      rules = λ k r plan e. (
          let known = rule_known P p.rules k r rules e in
          let guard = flat_map condition_names r.guard in
          let head = level_alike names v w a plan.kinds plan.bound r.head (level_leaves names r.head (all_of_left P (level_names r.head) guard (all_of_left P (level_names r.head ++ guard) (level_names r.body) known))) in
          let body = level_alike names v w a plan.kinds plan.bound r.body (level_leaves names r.body (all_of_right P (level_names r.head ++ guard) (level_names r.body) known)) in
          λ i. nat_lt (body i) (head i) && (list_all (stands_once r.body) plan.kinds && list_all (closed_once r.body) (contexts_of r.head))
          );
    }
