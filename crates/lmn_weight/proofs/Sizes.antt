-- How much the parts of an accepted plain weigh at most, by the numbers of their items.
use Rattle.std.proofs.Common.{ℕ, ◌≤◌, ◌≡◌, ◌+◌, Bool, true, false, List, [], ◌∷◌, map, length, sum, sym, subst, ◌∙◌, arith, if◌then◌else◌}
use Rattle.std.specs.Prelude.{nat_lt}
use Rattle.std.proofs.lemmas.Bool.{or_parts}
use Rattle.std.proofs.lemmas.List.{length-map}
use Rattle.lmn_base.proofs.Numbers.{at_most_by_test}
use Rattle.lmn_base.specs.declared.level.Leaf.{Leaf}
use Rattle.lmn_base.specs.declared.level.Leaf.TheVariants as leaf
use Rattle.lmn_base.specs.declared.level.Level.{Level}
use Rattle.lmn_base.specs.declared.level.Level.TheFolds.{fold-Level, fold-roll-Level, ind-Level}
use Rattle.lmn_base.specs.declared.level.Level.TheOpen.{Level-F}
use Rattle.lmn_base.specs.Items.{number_of_items, number_step}
use Rattle.lmn_base.specs.Limits.{most_body_items, most_head_items}
use Rattle.lmn_base_walks.specs.RuleCodes.{is_too_large, too_large}
use Rattle.lmn_guards.proofs.OrderLemmas.{not_then}
use Rattle.lmn_lexer.proofs.FewTokens.{few_tokens}
use Rattle.lmn_lexer.specs.Laying.{words_of}
use Rattle.lmn_flatten_plain.proofs.FewItems.{few_at_top}
use Rattle.lmn_flatten_plain.specs.Sizes.{size_step}
use Rattle.lmn_weight.specs.Plains.{one_if_weighed, weighed_items, weighed_step}
use Rattle.lmn_weight.specs.Bounding.{RulesAreSmall, TopsAreSmall}
use Rattle.lmn_base.proofs.Lists.{sum_cons}
use Rattle.lmn_base.specs.Solids.{is_connector}

one_leaf : (l : Leaf) → one_if_weighed l ≤ 1
one_leaf (leaf.Atom f os p) = go (is_connector f)
  where
    go : (b : Bool) → (if b then 0 else 1) ≤ 1
    go true = omega arith
    go false = omega arith
one_leaf (leaf.Typed n o p) = omega arith

few_leaves : (ls : List Leaf) → sum (map one_if_weighed ls) ≤ length ls
few_leaves [] = omega arith
few_leaves (l ∷ ls) = let s = sum_cons one_if_weighed l ls in let o = one_leaf l in let r = few_leaves ls in omega (arith, s, o, r)

both_few : (a b k m inner all most : ℕ) → a ≤ b → k ≡ m → inner ≤ all → b + (m + all) ≤ most → a + (k + inner) ≤ most
both_few a b k m inner all most h e i l = omega (arith, h, e, i, l)

-- a count of what stands in a level, its leaves and membranes among it
module _ (step : Level-F ℕ → ℕ) (counts : (l : Level-F ℕ) → length l.leaves + (length l.membranes + sum l.membranes) ≤ step l) where
  abbrev IsFew : Level → Type 0
  IsFew l = weighed_items l ≤ fold-Level ℕ step l

  few_inside : (ms : List ((l : Level) × IsFew l)) → sum (map weighed_items (map (λ e. e.0) ms)) ≤ sum (map (fold-Level ℕ step) (map (λ e. e.0) ms))
  few_inside [] = omega arith
  few_inside (e ∷ ms) =
      let rest = map (λ (e : (l : Level) × IsFew l). e.0) ms in
      let s = sum_cons weighed_items e.0 rest in
      let t = sum_cons (fold-Level ℕ step) e.0 rest in
      let r = few_inside ms in
      let h = e.1 in
      omega (arith, s, t, r, h)

  -- no more items of a level weigh than it counts
  few_weighed : (l : Level) → IsFew l
  few_weighed = ind-Level IsFew (λ y z is.
      let below = subst (λ l. sum (map weighed_items l.membranes) ≤ sum (map (fold-Level ℕ step) l.membranes)) is (few_inside z.membranes) in
      rw (fold-roll-Level ℕ weighed_step y, fold-roll-Level ℕ step y)
      (both_few _ _ _ _ _ _ _ (few_leaves y.leaves) (length-map y.membranes weighed_items ∙ sym (length-map y.membranes (fold-Level ℕ step))) below (counts _)))

-- so no more items of the top of a text weigh than it has tokens, and these are no more than its bytes and the end
pub small_top : TopsAreSmall
small_top text names p r =
    let weighed = few_weighed size_step (λ l. omega arith) p.top in
    let items = few_at_top r.tokens (words_of text r.tokens) (map (λ t. t.pos) r.tokens) names r.tree p r.reads.is_tree r.is_plain in
    let tokens = few_tokens text r.tokens r.reads.cut in
    omega (arith, weighed, items, tokens)

-- so an accepted rule is small
pub small_rules : RulesAreSmall
small_rules table r a =
    let large = not_then (is_too_large r) r.pos (a.contexts 0 (too_large r) (omega arith)) in
    let a = or_parts (nat_lt most_head_items (number_of_items r.head)) _ large in
    let b = or_parts (nat_lt most_body_items (number_of_items r.body)) _ a.1 in
    let low = at_most_by_test most_head_items (number_of_items r.head) a.0 in
    let few = at_most_by_test most_body_items (number_of_items r.body) b.0 in
    let head = few_weighed number_step (λ l. omega arith) r.head in
    let body = few_weighed number_step (λ l. omega arith) r.body in
    (omega (arith, low, head), omega (arith, few, body))
