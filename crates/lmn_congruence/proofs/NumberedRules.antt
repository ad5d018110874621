-- In a well made plain the rule with a number is the tree of its head, guard and body.
use Rattle.std.proofs.Common.{ℕ, ◌≡◌, ◌+◌, ◌-◌, ◌<◌, zero, suc, List, [], ◌∷◌, ◌++◌, map, slice_get, slice_index_or, Some, All, refl, ◌∙◌, subst, arith}
use Rattle.std.specs.List.{flat_map}
use Rattle.lmn_base.specs.declared.level.Level.{Level}
use Rattle.lmn_base.specs.declared.level.Level.TheFolds.{fold-roll-Level, ind-Level}
use Rattle.lmn_base.specs.declared.rule.RuleTree.{RuleTree}
use Rattle.lmn_base.specs.declared.rule.Plain.{Plain}
use Rattle.lmn_base.specs.Levels.{rules_of}
use Rattle.lmn_base.specs.WellMade.{IsWellMade}
use Rattle.lmn_congruence.specs.Rules as tree
use Rattle.lmn_congruence.specs.Translation.{level_of, level_step, levels, rule_tree, rules_from, numbered_rule, no_such_rule}
use Rattle.lmn_base.proofs.Lists.{all_of_left, all_of_right}

same_map : {A B : Type 0} (f g : A → B) (xs : List A) → All (λ x. f x ≡ g x) xs → map f xs ≡ map g xs
same_map f g [] h = refl
same_map f g (x ∷ xs) h = rw (h zero x (omega arith), same_map f g xs (all_of_right (λ x. f x ≡ g x) (x ∷ []) xs h)) refl

-- a level depends on the rules alone whose numbers stand in it
module _ (names : List tree.Name) (f g : ℕ → tree.Rule) where
  abbrev Agrees : ℕ → Type 0
  Agrees k = f k ≡ g k

  abbrev inner_rules : List Level → List ℕ
  inner_rules ls = flat_map (λ inner. inner) (map rules_of ls)

  abbrev Alike : Level → Type 0
  Alike l = All Agrees (rules_of l) → level_of names f l ≡ level_of names g l

  inside_alike : (ls : List ((l : Level) × Alike l)) → All Agrees (inner_rules (map (λ e. e.0) ls)) →
      levels (map (level_of names f) (map (λ e. e.0) ls)) ≡ levels (map (level_of names g) (map (λ e. e.0) ls))
  inside_alike [] h = refl
  inside_alike (e ∷ ls) h =
      let rest = inner_rules (map (λ e. e.0) ls) in
      rw (e.1 (all_of_left Agrees (rules_of e.0) rest h), inside_alike ls (all_of_right Agrees (rules_of e.0) rest h)) refl

  level_alike : (l : Level) → Alike l
  level_alike = ind-Level Alike (λ y z is h.
      let here = subst (All Agrees) (fold-roll-Level (List ℕ) (λ l. l.rules ++ flat_map (λ inner. inner) l.membranes) y) h in
      let inside = subst (λ l. All Agrees (inner_rules l.membranes) → levels (map (level_of names f) l.membranes) ≡ levels (map (level_of names g) l.membranes)) is (inside_alike z.membranes) in
      rw (
        fold-roll-Level tree.Level (level_step names f) y,
        fold-roll-Level tree.Level (level_step names g) y,
        inside (all_of_right Agrees y.rules (inner_rules y.membranes) here),
        same_map f g y.rules (all_of_left Agrees y.rules (inner_rules y.membranes) here),
      ) refl)

  pub rule_alike : (r : RuleTree) → All Agrees (rules_of r.head ++ rules_of r.body) → rule_tree names f r ≡ rule_tree names g r
  rule_alike r h =
      rw (level_alike r.head (all_of_left Agrees (rules_of r.head) (rules_of r.body) h), level_alike r.body (all_of_right Agrees (rules_of r.head) (rules_of r.body) h)) refl

-- the rule with the number m, in a table that begins with the number k
abbrev numbered : List tree.Name → List RuleTree → ℕ → ℕ → tree.Rule
numbered names table k m = slice_index_or (rules_from names k table) (m - k) no_such_rule

behind_alike : (names : List tree.Name) (k m : ℕ) (r : RuleTree) (table : List RuleTree) → k < m → numbered names table (k + 1) m ≡ numbered names (r ∷ table) k m
behind_alike names k m r table h = let e : m - k ≡ suc (m - (k + 1)) = omega (arith, h) in rw e refl

-- a rule reads only what stands behind it
moved_on : (names : List tree.Name) (q r : RuleTree) (table : List RuleTree) (k : ℕ) → All (λ m. k < m) (rules_of r.head ++ rules_of r.body) →
    rule_tree names (numbered names table (k + 1)) r ≡ rule_tree names (numbered names (q ∷ table) k) r
moved_on names q r table k h =
    rule_alike names (numbered names table (k + 1)) (numbered names (q ∷ table) k) r (λ i d l. behind_alike names k (slice_index_or (rules_of r.head ++ rules_of r.body) i d) q table (h i d l))

-- numbers in the rule are above its own, n places behind k
rule_behind : (names : List tree.Name) (table : List RuleTree) (k n : ℕ) (r : RuleTree) → slice_get table n ≡ Some r → All (λ m. k + n < m) (rules_of r.head ++ rules_of r.body) →
    slice_index_or (rules_from names k table) n no_such_rule ≡ rule_tree names (numbered names table k) r
rule_behind names [] k n r e h = absurd (cc e)
rule_behind names (q ∷ table) k zero r e h =
    let p : q ≡ r = cc e in
    rw p (moved_on names r r table k (λ i d l. omega (arith, h i d l)))
rule_behind names (q ∷ table) k (suc n) r e h =
    rule_behind names table (k + 1) n r e (λ i d l. omega (arith, h i d l)) ∙ moved_on names q r table k (λ i d l. omega (arith, h i d l))

from_first : (names : List tree.Name) (table : List RuleTree) (m : ℕ) → numbered names table 0 m ≡ numbered_rule names table m
from_first names table m = let e : m - 0 ≡ m = omega arith in rw e refl

-- the rule of a number is that of the tree that stands at the number
pub rule_has_number : (names : List tree.Name) (p : Plain) (n : ℕ) (r : RuleTree) → IsWellMade p → slice_get p.rules n ≡ Some r → numbered_rule names p.rules n ≡ rule_tree names (numbered_rule names p.rules) r
rule_has_number names p n r w e =
    rule_behind names p.rules 0 n r e (λ i d l. omega (arith, (w.rules_in_rules n r e i d l).0)) ∙
    rule_alike names (numbered names p.rules 0) (numbered_rule names p.rules) r (λ i d l. from_first names p.rules (slice_index_or (rules_of r.head ++ rules_of r.body) i d))
