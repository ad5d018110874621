-- The membranes in which the contexts of a head stand.
use Rattle.std.proofs.Common.{ℕ, zero, suc, ◌+◌, ◌<◌, ◌≤◌, ◌≡◌, ◌⊎◌, ◌==◌, Bool, true, false, cond, List, [], ◌∷◌, ◌++◌, map, sum, length, refl, sym, ap, subst, ◌∙◌, inl, inr, arith}
use Rattle.std.proofs.lemmas.List.{append_assoc}
use Rattle.std.proofs.lemmas.List.Sums.{sum_by-cons}
use Rattle.lmn_base.specs.declared.level.Leaf.{Leaf}
use Rattle.lmn_base.specs.declared.level.Leaf.TheVariants as leaf
use Rattle.lmn_base.specs.declared.level.Level.{Level}
use Rattle.lmn_base.specs.declared.level.Level.TheOpen.{Level-F}
use Rattle.lmn_base.specs.declared.level.Level.TheFolds.{fold-roll-Level, ind-Level}
use Rattle.lmn_base.specs.declared.level.CtxUse.{CtxUse}
use Rattle.lmn_guards.specs.declared.plan.TypeKind.{TypeKind}
use Rattle.lmn_solid_heads.specs.declared.items.HeadItem.{HeadItem}
use Rattle.lmn_solid_heads.specs.Heads.{membranes_of}
use Rattle.lmn_solid_heads.specs.Flattening.{Unnumbered, leaf_items, head_membrane_items, flatten_step, unnumbered, items_of_head}
use Rattle.lmn_congruence_splice.specs.Splice.{IsOneOf}
use Rattle.lmn_solid_bodies.specs.Rules.{IsHeadMembrane}
use Rattle.lmn_solid_bodies.specs.Flattening.{NumberedContexts, names_inside, names_below, numbering, membrane_named}
use Rattle.lmn_solid_bodies.specs.Laws.{ContextsOfHeads}
use Rattle.lmn_congruence_splice.proofs.Common.{in_append}

-- How many membranes a flattened head has

module _ (kind : ℕ → TypeKind) where
  pub leaves_none : (inside : ℕ) (ls : List Leaf) (rest : List HeadItem) → membranes_of (leaf_items kind inside ls ++ rest) ≡ membranes_of rest
  leaves_none inside [] rest = refl
  leaves_none inside (leaf.Atom f os p ∷ ls) rest = leaves_none inside ls rest
  leaves_none inside (leaf.Typed m o p ∷ ls) rest = leaves_none inside ls rest

  abbrev Counts : Level → Type 0
  Counts l = (inside next : ℕ) (rest : List HeadItem) → length (membranes_of ((unnumbered kind l).items inside next ++ rest)) ≡ (unnumbered kind l).size + length (membranes_of rest)

  abbrev InnerCounts : List Level → Type 0
  InnerCounts ls = (inside next : ℕ) (rest : List HeadItem) →
      length (membranes_of (head_membrane_items inside next (map (unnumbered kind) ls) ++ rest)) ≡ sum (map (λ m. 1 + m.size) (map (unnumbered kind) ls)) + length (membranes_of rest)

  inner_counts : (ls : List ((l : Level) × Counts l)) → InnerCounts (map (λ e. e.0) ls)
  inner_counts [] inside next rest = zero_left (length (membranes_of rest))
    where
      zero_left : (n : ℕ) → n ≡ 0 + n
      zero_left n = omega arith
  inner_counts (e ∷ ls) inside next rest =
      let size = (unnumbered kind e.0).size in
      let others = map (unnumbered kind) (map (λ (e : (l : Level) × Counts l). e.0) ls) in
      let tail = head_membrane_items inside (next + 1 + size) others in
      ap (λ is. suc (length (membranes_of is))) (append_assoc ((unnumbered kind e.0).items next (next + 1)) tail rest)
      ∙ add size (length (membranes_of (tail ++ rest))) (sum (map (λ m. 1 + m.size) others)) (length (membranes_of rest)) (e.1 next (next + 1) (tail ++ rest)) (inner_counts ls inside (next + 1 + size) rest)
      (sum_by-cons (λ (x : ℕ). x) (1 + size) (map (λ m. 1 + m.size) others))
    where
      add : {a u : ℕ} (b c d t : ℕ) → a ≡ b + c → c ≡ d + t → u ≡ 1 + b + d → suc a ≡ u + t
      add b c d t e f g = omega arith

  level_counts : (l : Level) → Counts l
  level_counts = ind-Level Counts (λ y z is.
      let inner : InnerCounts y.membranes = subst (λ l. InnerCounts l.membranes) is (inner_counts z.membranes) in
      rw (fold-roll-Level Unnumbered (flatten_step kind) y) (λ inside next rest.
      ap (λ is. length (membranes_of is)) (append_assoc (leaf_items kind inside y.leaves) (head_membrane_items inside next (map (unnumbered kind) y.membranes)) rest)
      ∙ ap length (leaves_none inside y.leaves _) ∙ inner inside next rest))

  pub head_size : (l : Level) → length (membranes_of (items_of_head kind l)) ≡ (unnumbered kind l).size
  head_size l = ap (λ is. length (membranes_of is)) (sym (no_more (items_of_head kind l))) ∙ level_counts l 0 1 [] ∙ plus (unnumbered kind l).size
    where
      no_more : (xs : List HeadItem) → xs ++ [] ≡ xs
      no_more [] = refl
      no_more (x ∷ xs) = ap (λ ys. x ∷ ys) (no_more xs)

      plus : (n : ℕ) → n + 0 ≡ n
      plus n = omega arith

-- The numbers that contexts get

module _ (uses : Level-F NumberedContexts → List CtxUse) (kind : ℕ → TypeKind) where
  abbrev sizes : List Level → ℕ
  sizes ls = sum (map (λ m. 1 + m.size) (map (unnumbered kind) ls))

  -- both folds count membranes
  abbrev SameSize : Level → Type 0
  SameSize l = (numbering uses l).size ≡ (unnumbered kind l).size

  inner_size : (ls : List ((l : Level) × SameSize l)) → sum (map (λ m. 1 + m.size) (map (numbering uses) (map (λ e. e.0) ls))) ≡ sizes (map (λ e. e.0) ls)
  inner_size [] = refl
  inner_size (e ∷ ls) =
      let others = map (λ (e : (l : Level) × SameSize l). e.0) ls in
      sum_by-cons (λ (x : ℕ). x) (1 + (numbering uses e.0).size) (map (λ m. 1 + m.size) (map (numbering uses) others))
      ∙ (λ i. 1 + e.1 i + inner_size ls i)
      ∙ sym (sum_by-cons (λ (x : ℕ). x) (1 + (unnumbered kind e.0).size) (map (λ m. 1 + m.size) (map (unnumbered kind) others)))

  pub same_size : (l : Level) → SameSize l
  same_size = ind-Level SameSize (λ y z is.
      let inner : sum (map (λ m. 1 + m.size) (map (numbering uses) y.membranes)) ≡ sizes y.membranes =
      subst (λ l. sum (map (λ m. 1 + m.size) (map (numbering uses) l.membranes)) ≡ sizes l.membranes) is (inner_size z.membranes) in
      ap (λ (n : NumberedContexts). n.size) (fold-roll-Level NumberedContexts (λ l. record {
        names = λ inside next. names_inside inside (uses l) ++ names_below next l.membranes;
        size = sum (map (λ m. 1 + m.size) l.membranes);
      }) y) ∙ inner ∙ ap (λ (u : Unnumbered). u.size) (sym (fold-roll-Level Unnumbered (flatten_step kind) y)))

  own_number : (inside : ℕ) (us : List CtxUse) (e : ℕ × ℕ) → IsOneOf e (names_inside inside us) → e.1 ≡ inside
  own_number inside [] e i = absurd i
  own_number inside (u ∷ us) e (inl q) = sym (ap (λ (p : ℕ × ℕ). p.1) q)
  own_number inside (u ∷ us) e (inr i) = own_number inside us e i

  abbrev Within : ℕ → ℕ → ℕ → Type 0
  Within next size n = (next ≤ n) × (n < next + size)

  abbrev InRange : Level → Type 0
  InRange l = (inside next : ℕ) (e : ℕ × ℕ) → IsOneOf e ((numbering uses l).names inside next) → (e.1 ≡ inside) ⊎ Within next (numbering uses l).size e.1

  abbrev InnerRange : List Level → Type 0
  InnerRange ls = (next : ℕ) (e : ℕ × ℕ) → IsOneOf e (names_below next (map (numbering uses) ls)) → Within next (sum (map (λ m. 1 + m.size) (map (numbering uses) ls))) e.1

  inner_range : (ls : List ((l : Level) × InRange l)) → InnerRange (map (λ e. e.0) ls)
  inner_range [] next e i = absurd i
  inner_range (x ∷ ls) next e i =
      let size = (numbering uses x.0).size in
      let others = map (numbering uses) (map (λ (e : (l : Level) × InRange l). e.0) ls) in
      let total = sum_by-cons (λ (n : ℕ). n) (1 + size) (map (λ m. 1 + m.size) others) in
      elim (in_append e ((numbering uses x.0).names next (next + 1)) (names_below (next + 1 + size) others) i) [
        | inl j ↦ elim (x.1 next (next + 1) e j) [
          | inl q ↦ own next size (sum (map (λ m. 1 + m.size) others)) e.1 _ total q
          | inr w ↦ here next size (sum (map (λ m. 1 + m.size) others)) e.1 _ total w
        ]
        | inr j ↦ later next size (sum (map (λ m. 1 + m.size) others)) e.1 _ total (inner_range ls (next + 1 + size) e j)
      ]
    where
      own : (next a b n t : ℕ) → t ≡ 1 + a + b → n ≡ next → Within next t n
      own next a b n t e q = (omega arith, omega arith)

      here : (next a b n t : ℕ) → t ≡ 1 + a + b → Within (next + 1) a n → Within next t n
      here next a b n t e w = let l = w.0 in let m = w.1 in (omega arith, omega arith)

      later : (next a b n t : ℕ) → t ≡ 1 + a + b → Within (next + 1 + a) b n → Within next t n
      later next a b n t e w = let l = w.0 in let m = w.1 in (omega arith, omega arith)

  level_range : (l : Level) → InRange l
  level_range = ind-Level InRange (λ y z is.
      let inner : InnerRange y.membranes = subst (λ l. InnerRange l.membranes) is (inner_range z.membranes) in
      rw (fold-roll-Level NumberedContexts (λ l. record {
        names = λ inside next. names_inside inside (uses l) ++ names_below next l.membranes;
        size = sum (map (λ m. 1 + m.size) l.membranes);
      }) y) (λ inside next e i. elim (in_append e (names_inside inside _) (names_below next (map (numbering uses) y.membranes)) i) [
        | inl j ↦ inl (own_number inside _ e j)
        | inr j ↦ inr (inner next e j)
      ]))

  named_in : (es : List (ℕ × ℕ)) (k x : ℕ) → ((e : ℕ × ℕ) → IsOneOf e es → (e.1 ≡ 0) ⊎ IsHeadMembrane k e.1) → (membrane_named es x ≡ 0) ⊎ IsHeadMembrane k (membrane_named es x)
  named_in [] k x all = inl refl
  named_in (e ∷ es) k x all = by (e.0 == x) (membrane_named es x) (all e (inl refl)) (named_in es k x (λ f i. all f (inr i)))
    where
      by : (b : Bool) (n : ℕ) → (e.1 ≡ 0) ⊎ IsHeadMembrane k e.1 → (n ≡ 0) ⊎ IsHeadMembrane k n → (cond b e.1 n ≡ 0) ⊎ IsHeadMembrane k (cond b e.1 n)
      by true n p q = p
      by false n p q = q

  pub in_head : (l : Level) (x : ℕ) →
      let n = membrane_named ((numbering uses l).names 0 1) x in (n ≡ 0) ⊎ IsHeadMembrane (length (membranes_of (items_of_head kind l))) n
  in_head l x = named_in ((numbering uses l).names 0 1) (length (membranes_of (items_of_head kind l))) x (λ e i. elim (level_range l 0 1 e i) [
    | inl q ↦ inl q
    | inr w ↦ inr (one_less e.1 (numbering uses l).size (length (membranes_of (items_of_head kind l))) w (head_size kind l ∙ sym (same_size l)))
  ])
    where
      one_less : (n s k : ℕ) → Within 1 s n → k ≡ s → IsHeadMembrane k n
      one_less n s k w e = by n w.0 w.1
        where
          by : (n : ℕ) → 1 ≤ n → n < 1 + s → IsHeadMembrane k n
          by zero l m = absurd (omega arith)
          by (suc n) l m = (n, refl, omega arith)

-- the membrane of a context of a head is one of the head, or that of the rule
pub contexts_of_heads : ContextsOfHeads
contexts_of_heads kind head x = (in_head (λ l. l.contexts) kind head x, in_head (λ l. l.rule_contexts) kind head x)
