-- The contexts of a flattened body are those of its levels.
use Rattle.std.proofs.Common.{ℕ, ◌+◌, ◌≤◌, ◌≡◌, Bool, true, false, cond, List, [], ◌∷◌, ◌++◌, map, flat_map, Option, Some, None, refl, sym, ap, subst, ◌∙◌, inl, inr, arith}
use Rattle.std.proofs.lemmas.Bool.{cases_eq}
use Rattle.std.proofs.lemmas.List.{append_assoc, map-append}
use Rattle.lmn_base.specs.declared.functor.Functor.{Functor}
use Rattle.lmn_base.specs.declared.level.Leaf.{Leaf}
use Rattle.lmn_base.specs.declared.level.Leaf.TheVariants as leaf
use Rattle.lmn_base.specs.declared.level.Level.{Level}
use Rattle.lmn_base.specs.declared.level.Level.TheFolds.{fold-roll-Level, ind-Level}
use Rattle.lmn_base.specs.declared.level.CtxUse.{CtxUse}
use Rattle.lmn_base.specs.Levels.{contexts_of, rule_contexts_of}
use Rattle.lmn_base.specs.Solids.{connector}
use Rattle.lmn_store_heap.specs.Functors.{same_functor}
use Rattle.lmn_congruence_splice.specs.Splice.{IsOneOf, NoneTwice}
use Rattle.lmn_solid_bodies.specs.declared.items.BodyItem.{BodyItem}
use Rattle.lmn_solid_bodies.specs.declared.items.BodyItem.TheVariants.{Atom, Connector, Copy, Bound, Membrane, Rest, Rule, Rules}
use Rattle.lmn_solid_bodies.specs.Rules.{IsHeadMembrane, rests, closed_rests, WellPlaced, HeadContexts}
use Rattle.lmn_solid_bodies.specs.Laws.{FlattenedArePlaced}
use Rattle.lmn_solid_bodies.specs.Flattening.{BodyNames, UnnumberedBody, atom_item, typed_item, body_leaf_items, body_membrane_items, context_items, open_uses, body_rule_items, rule_context_items, flatten_body_step, body_items}
use Rattle.lmn_solid_bodies.proofs.Firing.{in_often, often_in}
use Rattle.lmn_solid_bodies.proofs.Flattened.{well_placed, body_stands, flattened, regroup, nil_right}
use Rattle.lmn_congruence.specs.Links.{places}
use Rattle.lmn_congruence.proofs.Counts.{none_if_apart as one_other, one_if_equal as one_same}
use Rattle.lmn_congruence.proofs.TranslatedLinks.{places_append as often_append}
use Rattle.lmn_congruence_splice.proofs.Common.{in_back, in_front}

-- A list is distinct exactly where no number stands in it twice

distinct_often : (xs : List ℕ) → NoneTwice xs → (z : ℕ) → places z xs ≤ 1
distinct_often [] d z = omega arith
distinct_often (x ∷ xs) d z = elim (cases_eq z x) [
  | inl e ↦ (let o = one_same z x e in let n = none (places z xs) (λ l. d.0 (subst (λ y. IsOneOf y xs) e (often_in z xs l))) in omega arith)
  | inr n ↦ (let o = one_other z x n in let r = distinct_often xs d.1 z in omega arith)
]
  where
    none : (n : ℕ) → (1 ≤ n → ⊥) → n ≡ 0
    none n f = elim (cases_eq n 0) [ inl e ↦ e | inr d ↦ absurd (f (omega arith)) ]

often_distinct : (xs : List ℕ) → ((z : ℕ) → places z xs ≤ 1) → NoneTwice xs
often_distinct [] f = tt
often_distinct (x ∷ xs) f = (
  λ i. (let l = in_often x xs i in let o = one_same x x refl in let m = f x in absurd (omega arith)),
  often_distinct xs (λ z. let m = f z in omega arith),
)

module _ (s : BodyNames) (k : ℕ) where
  abbrev named : List CtxUse → List ℕ
  named us = map (λ u. s.context u.name) us

  -- How often a context stands

  atom_rests : (inside : ℕ) (b : Bool) (f : Functor) (xs : List ℕ) (rest : List BodyItem) → rests (atom_item b f xs inside ∷ rest) ≡ rests rest
  atom_rests inside true f [] rest = refl
  atom_rests inside true f (x ∷ []) rest = refl
  atom_rests inside true f (x ∷ y ∷ []) rest = refl
  atom_rests inside true f (x ∷ y ∷ z ∷ xs) rest = refl
  atom_rests inside false f xs rest = refl

  typed_rests : (inside : ℕ) (o : Option ℕ) (v x : ℕ) (rest : List BodyItem) → rests (typed_item o v x inside ∷ rest) ≡ rests rest
  typed_rests inside None v x rest = refl
  typed_rests inside (Some g) v x rest = refl

  leaf_rests : (inside : ℕ) (ls : List Leaf) (rest : List BodyItem) → rests (body_leaf_items s inside ls ++ rest) ≡ rests rest
  leaf_rests inside [] rest = refl
  leaf_rests inside (leaf.Atom f os p ∷ ls) rest = atom_rests inside (same_functor f connector) f (map (λ o. o.link) os) (body_leaf_items s inside ls ++ rest) ∙ leaf_rests inside ls rest
  leaf_rests inside (leaf.Typed n o p ∷ ls) rest = typed_rests inside (s.part n) (s.integer n) o.link (body_leaf_items s inside ls ++ rest) ∙ leaf_rests inside ls rest

  rule_rests : (inside : ℕ) (ks : List ℕ) (rest : List BodyItem) → rests (body_rule_items inside ks ++ rest) ≡ rests rest
  rule_rests inside [] rest = refl
  rule_rests inside (x ∷ xs) rest = rule_rests inside xs rest

  rule_context_rests : (inside : ℕ) (us : List CtxUse) (rest : List BodyItem) → rests (rule_context_items s inside us ++ rest) ≡ rests rest
  rule_context_rests inside [] rest = refl
  rule_context_rests inside (u ∷ us) rest = rule_context_rests inside us rest

  context_rests : (inside : ℕ) (us : List CtxUse) (rest : List BodyItem) → rests (context_items s inside us ++ rest) ≡ named (open_uses us) ++ rests rest
  context_rests inside [] rest = refl
  context_rests inside (u ∷ us) rest = by u.closed (context_rests inside us rest)
    where
      by : (closed : Bool) → rests (context_items s inside us ++ rest) ≡ named (open_uses us) ++ rests rest
          → rests (Rest (s.context u.name) closed inside ∷ (context_items s inside us ++ rest)) ≡ named (cond closed (open_uses us) (u ∷ open_uses us)) ++ rests rest
      by true e = e
      by false e = ap (λ ys. s.context u.name ∷ ys) e

  open_both : (us vs : List CtxUse) → open_uses (us ++ vs) ≡ open_uses us ++ open_uses vs
  open_both [] vs = refl
  open_both (u ∷ us) vs = by u.closed (open_both us vs)
    where
      by : (closed : Bool) → open_uses (us ++ vs) ≡ open_uses us ++ open_uses vs → cond closed (open_uses (us ++ vs)) (u ∷ open_uses (us ++ vs)) ≡ cond closed (open_uses us) (u ∷ open_uses us) ++ open_uses vs
      by true e = e
      by false e = ap (λ ys. u ∷ ys) e

  module _ (z : ℕ) where
    abbrev Counts : Level → Type 0
    Counts l = (inside next : ℕ) (rest : List BodyItem) → places z (rests ((flattened s k l).items inside next ++ rest)) ≡ places z (named (open_uses (contexts_of l))) + places z (rests rest)

    abbrev InnerCounts : List Level → Type 0
    InnerCounts ls = (inside next : ℕ) (rest : List BodyItem) →
        places z (rests (body_membrane_items inside next (map (flattened s k) ls) ++ rest)) ≡ places z (named (open_uses (flat_map (λ inner. inner) (map contexts_of ls)))) + places z (rests rest)

    both_named : (us vs : List CtxUse) → places z (named (open_uses (us ++ vs))) ≡ places z (named (open_uses us)) + places z (named (open_uses vs))
    both_named us vs = ap (λ ws. places z (named ws)) (open_both us vs) ∙ ap (places z) (map-append (λ u. s.context u.name) (open_uses us) (open_uses vs)) ∙ often_append z (named (open_uses us)) (named (open_uses vs))

    inner_counts : (ls : List ((l : Level) × Counts l)) → InnerCounts (map (λ e. e.0) ls)
    inner_counts [] inside next rest = omega arith
    inner_counts (e ∷ ls) inside next rest =
        let size = (flattened s k e.0).size in
        let others = map (flattened s k) (map (λ (e : (l : Level) × Counts l). e.0) ls) in
        let more = flat_map (λ (inner : List CtxUse). inner) (map contexts_of (map (λ (e : (l : Level) × Counts l). e.0) ls)) in
        ap (λ ys. places z (rests ys)) (append_assoc ((flattened s k e.0).items next (next + 1)) (body_membrane_items inside (next + 1 + size) others) rest)
        ∙ add (places z (named (open_uses (contexts_of e.0)))) (places z (named (open_uses more))) (places z (rests rest)) (e.1 next (next + 1) (body_membrane_items inside (next + 1 + size) others ++ rest)) (inner_counts ls inside (next + 1 + size) rest) (both_named (contexts_of e.0) more)
      where
        add : {a c u : ℕ} (b d t : ℕ) → a ≡ b + c → c ≡ d + t → u ≡ b + d → a ≡ u + t
        add b d t e f g = omega arith

    level_counts : (l : Level) → Counts l
    level_counts = ind-Level Counts (λ y w is.
        let inner : InnerCounts y.membranes = subst (λ l. InnerCounts l.membranes) is (inner_counts w.membranes) in
        rw (fold-roll-Level UnnumberedBody (flatten_body_step s) y, fold-roll-Level (List CtxUse) (λ l. l.contexts ++ flat_map (λ inner. inner) l.membranes) y) (λ inside next rest.
        ap (λ ys. places z (rests ys)) (sym (regroup s k (body_leaf_items s inside y.leaves) (body_membrane_items inside next (map (flattened s k) y.membranes)) (context_items s inside y.contexts) (body_rule_items inside y.rules) (rule_context_items s inside y.rule_contexts) rest))
        ∙ ap (places z) (leaf_rests inside y.leaves _)
        ∙ add (places z (named (open_uses (flat_map (λ inner. inner) (map contexts_of y.membranes))))) (places z (named (open_uses y.contexts))) (places z (rests rest)) (inner inside next _)
        (ap (places z) (context_rests inside y.contexts _ ∙ ap (λ ys. named (open_uses y.contexts) ++ ys) (rule_rests inside y.rules _ ∙ rule_context_rests inside y.rule_contexts rest)) ∙ often_append z (named (open_uses y.contexts)) (rests rest))
        (both_named y.contexts (flat_map (λ inner. inner) (map contexts_of y.membranes)))))
      where
        add : {a c u : ℕ} (b d t : ℕ) → a ≡ b + c → c ≡ d + t → u ≡ d + b → a ≡ u + t
        add b d t e f g = omega arith

    pub body_counts : (l : Level) → places z (rests (body_items s k l)) ≡ places z (named (open_uses (contexts_of l)))
    body_counts l = ap (λ ys. places z (rests ys)) (sym (nil_right s k (body_items s k l))) ∙ level_counts l 0 (1 + k) [] ∙ plus (places z (named (open_uses (contexts_of l))))
      where
        plus : (m : ℕ) → m + 0 ≡ m
        plus m = omega arith

  -- each open context of the body stands in its items
  pub contexts_stand_there : (l : Level) (x : ℕ) → IsOneOf x (named (open_uses (contexts_of l))) → IsOneOf x (rests (body_items s k l))
  contexts_stand_there l x i = often_in x (rests (body_items s k l)) (subst (λ n. 1 ≤ n) (sym (body_counts x l)) (in_often x (named (open_uses (contexts_of l))) i))

  rests_once : (l : Level) → NoneTwice (named (open_uses (contexts_of l))) → NoneTwice (rests (body_items s k l))
  rests_once l d = often_distinct (rests (body_items s k l)) (λ z. subst (λ n. n ≤ 1) (sym (body_counts z l)) (distinct_often (named (open_uses (contexts_of l))) d z))

  -- Contexts are of head membranes

  abbrev Owned : List CtxUse → Type 0
  Owned us = (u : CtxUse) → IsOneOf u us → IsHeadMembrane k (s.context u.name)

  abbrev RulesOwned : List CtxUse → Type 0
  RulesOwned us = (u : CtxUse) → IsOneOf u us → IsHeadMembrane k (s.rule_context u.name)

  atom_owned : (inside : ℕ) (b : Bool) (f : Functor) (xs : List ℕ) (rest : List BodyItem) → HeadContexts k rest → HeadContexts k (atom_item b f xs inside ∷ rest)
  atom_owned inside true f [] rest r = r
  atom_owned inside true f (x ∷ []) rest r = r
  atom_owned inside true f (x ∷ y ∷ []) rest r = r
  atom_owned inside true f (x ∷ y ∷ z ∷ xs) rest r = r
  atom_owned inside false f xs rest r = r

  typed_owned : (inside : ℕ) (o : Option ℕ) (v x : ℕ) (rest : List BodyItem) → HeadContexts k rest → HeadContexts k (typed_item o v x inside ∷ rest)
  typed_owned inside None v x rest r = r
  typed_owned inside (Some g) v x rest r = r

  leaves_owned : (inside : ℕ) (ls : List Leaf) (rest : List BodyItem) → HeadContexts k rest → HeadContexts k (body_leaf_items s inside ls ++ rest)
  leaves_owned inside [] rest r = r
  leaves_owned inside (leaf.Atom f os p ∷ ls) rest r = atom_owned inside (same_functor f connector) f (map (λ o. o.link) os) (body_leaf_items s inside ls ++ rest) (leaves_owned inside ls rest r)
  leaves_owned inside (leaf.Typed n o p ∷ ls) rest r = typed_owned inside (s.part n) (s.integer n) o.link (body_leaf_items s inside ls ++ rest) (leaves_owned inside ls rest r)

  contexts_owned : (inside : ℕ) (us : List CtxUse) (rest : List BodyItem) → Owned us → HeadContexts k rest → HeadContexts k (context_items s inside us ++ rest)
  contexts_owned inside [] rest o r = r
  contexts_owned inside (u ∷ us) rest o r = (o u (inl refl), contexts_owned inside us rest (λ v i. o v (inr i)) r)

  rules_owned : (inside : ℕ) (ks : List ℕ) (rest : List BodyItem) → HeadContexts k rest → HeadContexts k (body_rule_items inside ks ++ rest)
  rules_owned inside [] rest r = r
  rules_owned inside (x ∷ xs) rest r = rules_owned inside xs rest r

  rule_contexts_owned : (inside : ℕ) (us : List CtxUse) (rest : List BodyItem) → RulesOwned us → HeadContexts k rest → HeadContexts k (rule_context_items s inside us ++ rest)
  rule_contexts_owned inside [] rest o r = r
  rule_contexts_owned inside (u ∷ us) rest o r = (o u (inl refl), rule_contexts_owned inside us rest (λ v i. o v (inr i)) r)

  abbrev OwnedAll : Level → Type 0
  OwnedAll l = (inside next : ℕ) (rest : List BodyItem) → Owned (contexts_of l) → RulesOwned (rule_contexts_of l) → HeadContexts k rest → HeadContexts k ((flattened s k l).items inside next ++ rest)

  abbrev InnerOwned : List Level → Type 0
  InnerOwned ls = (inside next : ℕ) (rest : List BodyItem) → Owned (flat_map (λ inner. inner) (map contexts_of ls)) → RulesOwned (flat_map (λ inner. inner) (map rule_contexts_of ls))
      → HeadContexts k rest → HeadContexts k (body_membrane_items inside next (map (flattened s k) ls) ++ rest)

  inner_owned : (ls : List ((l : Level) × OwnedAll l)) → InnerOwned (map (λ e. e.0) ls)
  inner_owned [] inside next rest o p r = r
  inner_owned (e ∷ ls) inside next rest o p r =
      let size = (flattened s k e.0).size in
      let others = map (flattened s k) (map (λ (e : (l : Level) × OwnedAll l). e.0) ls) in
      subst (HeadContexts k) (sym (append_assoc ((flattened s k e.0).items next (next + 1)) (body_membrane_items inside (next + 1 + size) others) rest))
      (e.1 next (next + 1) (body_membrane_items inside (next + 1 + size) others ++ rest) (λ u i. o u (in_front u (contexts_of e.0) _ i)) (λ u i. p u (in_front u (rule_contexts_of e.0) _ i))
      (inner_owned ls inside (next + 1 + size) rest (λ u i. o u (in_back u (contexts_of e.0) _ i)) (λ u i. p u (in_back u (rule_contexts_of e.0) _ i)) r))

  level_owned : (l : Level) → OwnedAll l
  level_owned = ind-Level OwnedAll (λ y w is.
      let inner : InnerOwned y.membranes = subst (λ l. InnerOwned l.membranes) is (inner_owned w.membranes) in
      rw (fold-roll-Level UnnumberedBody (flatten_body_step s) y, fold-roll-Level (List CtxUse) (λ l. l.contexts ++ flat_map (λ inner. inner) l.membranes) y, fold-roll-Level (List CtxUse) (λ l. l.rule_contexts ++ flat_map (λ inner. inner) l.membranes) y) (λ inside next rest o p r.
      subst (HeadContexts k) (regroup s k (body_leaf_items s inside y.leaves) (body_membrane_items inside next (map (flattened s k) y.membranes)) (context_items s inside y.contexts) (body_rule_items inside y.rules) (rule_context_items s inside y.rule_contexts) rest)
      (leaves_owned inside y.leaves _
      (inner inside next _ (λ u i. o u (in_back u y.contexts _ i)) (λ u i. p u (in_back u y.rule_contexts _ i))
      (contexts_owned inside y.contexts _ (λ u i. o u (in_front u y.contexts _ i)) (rules_owned inside y.rules _ (rule_contexts_owned inside y.rule_contexts rest (λ u i. p u (in_front u y.rule_contexts _ i)) r)))))))

  body_owned : (l : Level) → Owned (contexts_of l) → RulesOwned (rule_contexts_of l) → HeadContexts k (body_items s k l)
  body_owned l o p = subst (HeadContexts k) (nil_right s k (body_items s k l)) (level_owned l 0 (1 + k) [] o p tt)

  pub placed : (l : Level) → Owned (contexts_of l) → RulesOwned (rule_contexts_of l) → NoneTwice (named (open_uses (contexts_of l))) → WellPlaced k (1 + k) (body_items s k l)
  placed l o p d = well_placed k (1 + k) (body_items s k l) (body_stands s k l) (body_owned l o p) (rests_once l d)

-- what holds of each untyped context of a body, by the membrane of the head and whether it is closed
abbrev pub EachRest : (ℕ → Bool → Type 0) → List BodyItem → Type 0
EachRest P [] = Unit {0}
EachRest P (Atom functor links inside ∷ xs) = EachRest P xs
EachRest P (Connector left right ∷ xs) = EachRest P xs
EachRest P (Copy part link inside ∷ xs) = EachRest P xs
EachRest P (Bound integer link inside ∷ xs) = EachRest P xs
EachRest P (Membrane inside ∷ xs) = EachRest P xs
EachRest P (Rest of closed inside ∷ xs) = P of closed × EachRest P xs
EachRest P (Rule rule inside ∷ xs) = EachRest P xs
EachRest P (Rules of inside ∷ xs) = EachRest P xs

-- so it holds of the open ones
pub each_open : (P : ℕ → Bool → Type 0) (body : List BodyItem) → EachRest P body → (k : ℕ) → IsOneOf k (rests body) → P k false
each_open P [] w k i = absurd i
each_open P (Atom functor links inside ∷ xs) w k i = each_open P xs w k i
each_open P (Connector left right ∷ xs) w k i = each_open P xs w k i
each_open P (Copy part link inside ∷ xs) w k i = each_open P xs w k i
each_open P (Bound integer link inside ∷ xs) w k i = each_open P xs w k i
each_open P (Membrane inside ∷ xs) w k i = each_open P xs w k i
each_open P (Rest of false inside ∷ xs) w k (inl e) = subst (λ z. P z false) e w.0
each_open P (Rest of false inside ∷ xs) w k (inr i) = each_open P xs w.1 k i
each_open P (Rest of true inside ∷ xs) w k i = each_open P xs w.1 k i
each_open P (Rule rule inside ∷ xs) w k i = each_open P xs w k i
each_open P (Rules of inside ∷ xs) w k i = each_open P xs w k i

-- and of the closed ones
pub each_closed : (P : ℕ → Bool → Type 0) (body : List BodyItem) → EachRest P body → (k : ℕ) → IsOneOf k (closed_rests body) → P k true
each_closed P [] w k i = absurd i
each_closed P (Atom functor links inside ∷ xs) w k i = each_closed P xs w k i
each_closed P (Connector left right ∷ xs) w k i = each_closed P xs w k i
each_closed P (Copy part link inside ∷ xs) w k i = each_closed P xs w k i
each_closed P (Bound integer link inside ∷ xs) w k i = each_closed P xs w k i
each_closed P (Membrane inside ∷ xs) w k i = each_closed P xs w k i
each_closed P (Rest of true inside ∷ xs) w k (inl e) = subst (λ z. P z true) e w.0
each_closed P (Rest of true inside ∷ xs) w k (inr i) = each_closed P xs w.1 k i
each_closed P (Rest of false inside ∷ xs) w k i = each_closed P xs w.1 k i
each_closed P (Rule rule inside ∷ xs) w k i = each_closed P xs w k i
each_closed P (Rules of inside ∷ xs) w k i = each_closed P xs w k i

module _ (s : BodyNames) (k : ℕ) (P : ℕ → Bool → Type 0) where
  abbrev Has : List CtxUse → Type 0
  Has us = (u : CtxUse) → IsOneOf u us → P (s.context u.name) u.closed

  atom_each : (inside : ℕ) (b : Bool) (f : Functor) (xs : List ℕ) (rest : List BodyItem) → EachRest P rest → EachRest P (atom_item b f xs inside ∷ rest)
  atom_each inside true f [] rest r = r
  atom_each inside true f (x ∷ []) rest r = r
  atom_each inside true f (x ∷ y ∷ []) rest r = r
  atom_each inside true f (x ∷ y ∷ z ∷ xs) rest r = r
  atom_each inside false f xs rest r = r

  typed_each : (inside : ℕ) (o : Option ℕ) (v x : ℕ) (rest : List BodyItem) → EachRest P rest → EachRest P (typed_item o v x inside ∷ rest)
  typed_each inside None v x rest r = r
  typed_each inside (Some g) v x rest r = r

  leaves_each : (inside : ℕ) (ls : List Leaf) (rest : List BodyItem) → EachRest P rest → EachRest P (body_leaf_items s inside ls ++ rest)
  leaves_each inside [] rest r = r
  leaves_each inside (leaf.Atom f os p ∷ ls) rest r = atom_each inside (same_functor f connector) f (map (λ o. o.link) os) (body_leaf_items s inside ls ++ rest) (leaves_each inside ls rest r)
  leaves_each inside (leaf.Typed n o p ∷ ls) rest r = typed_each inside (s.part n) (s.integer n) o.link (body_leaf_items s inside ls ++ rest) (leaves_each inside ls rest r)

  contexts_each : (inside : ℕ) (us : List CtxUse) (rest : List BodyItem) → Has us → EachRest P rest → EachRest P (context_items s inside us ++ rest)
  contexts_each inside [] rest o r = r
  contexts_each inside (u ∷ us) rest o r = (o u (inl refl), contexts_each inside us rest (λ v i. o v (inr i)) r)

  rules_each : (inside : ℕ) (ks : List ℕ) (rest : List BodyItem) → EachRest P rest → EachRest P (body_rule_items inside ks ++ rest)
  rules_each inside [] rest r = r
  rules_each inside (x ∷ xs) rest r = rules_each inside xs rest r

  rule_contexts_each : (inside : ℕ) (us : List CtxUse) (rest : List BodyItem) → EachRest P rest → EachRest P (rule_context_items s inside us ++ rest)
  rule_contexts_each inside [] rest r = r
  rule_contexts_each inside (u ∷ us) rest r = rule_contexts_each inside us rest r

  abbrev HasAll : Level → Type 0
  HasAll l = (inside next : ℕ) (rest : List BodyItem) → Has (contexts_of l) → EachRest P rest → EachRest P ((flattened s k l).items inside next ++ rest)

  abbrev InnerHas : List Level → Type 0
  InnerHas ls = (inside next : ℕ) (rest : List BodyItem) → Has (flat_map (λ inner. inner) (map contexts_of ls)) → EachRest P rest → EachRest P (body_membrane_items inside next (map (flattened s k) ls) ++ rest)

  inner_has : (ls : List ((l : Level) × HasAll l)) → InnerHas (map (λ e. e.0) ls)
  inner_has [] inside next rest o r = r
  inner_has (e ∷ ls) inside next rest o r =
      let size = (flattened s k e.0).size in
      let others = map (flattened s k) (map (λ (e : (l : Level) × HasAll l). e.0) ls) in
      subst (EachRest P) (sym (append_assoc ((flattened s k e.0).items next (next + 1)) (body_membrane_items inside (next + 1 + size) others) rest))
      (e.1 next (next + 1) (body_membrane_items inside (next + 1 + size) others ++ rest) (λ u i. o u (in_front u (contexts_of e.0) _ i))
      (inner_has ls inside (next + 1 + size) rest (λ u i. o u (in_back u (contexts_of e.0) _ i)) r))

  level_has : (l : Level) → HasAll l
  level_has = ind-Level HasAll (λ y w is.
      let inner : InnerHas y.membranes = subst (λ l. InnerHas l.membranes) is (inner_has w.membranes) in
      rw (fold-roll-Level UnnumberedBody (flatten_body_step s) y, fold-roll-Level (List CtxUse) (λ l. l.contexts ++ flat_map (λ inner. inner) l.membranes) y) (λ inside next rest o r.
      subst (EachRest P) (regroup s k (body_leaf_items s inside y.leaves) (body_membrane_items inside next (map (flattened s k) y.membranes)) (context_items s inside y.contexts) (body_rule_items inside y.rules) (rule_context_items s inside y.rule_contexts) rest)
      (leaves_each inside y.leaves _
      (inner inside next _ (λ u i. o u (in_back u y.contexts _ i))
      (contexts_each inside y.contexts _ (λ u i. o u (in_front u y.contexts _ i)) (rules_each inside y.rules _ (rule_contexts_each inside y.rule_contexts rest r)))))))

  -- What holds of the untyped contexts of a body holds of its items.
  pub body_has : (l : Level) → Has (contexts_of l) → EachRest P (body_items s k l)
  body_has l o = subst (EachRest P) (nil_right s k (body_items s k l)) (level_has l 0 (1 + k) [] o tt)

-- the items of a flattened body are well placed
pub flattened_are_placed : FlattenedArePlaced
flattened_are_placed s k l o p d = placed s k l o p d
