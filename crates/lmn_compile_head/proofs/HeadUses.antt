-- The uses of contexts in a head, and its typed leaves.
use Rattle.std.proofs.Common.{ℕ, zero, suc, ◌≡◌, inl, inr, List, [], ◌∷◌, ◌++◌, map, refl, sym, ap, subst, ◌∙◌, arith}
use Rattle.std.specs.Prelude.{Bool, true, false, ◌==◌, if◌then◌else◌, Contains}
use Rattle.std.specs.List.{flat_map}
use Rattle.std.proofs.lemmas.Bool.Decides.{Decides-eqb}
use Rattle.std.proofs.lemmas.List.Elements.{Contains-append_left, Contains-append_right, Contains-append_cases}
use Rattle.lmn_base.specs.declared.item.Form.TheVariants as form
use Rattle.lmn_base.specs.declared.item.FormedUse.{FormedUse}
use Rattle.lmn_base.specs.declared.item.Item.{Item}
use Rattle.lmn_base.specs.declared.item.Item.TheVariants as item
use Rattle.lmn_base.specs.declared.level.CtxUse.{CtxUse}
use Rattle.lmn_base.specs.declared.level.Leaf.{Leaf}
use Rattle.lmn_base.specs.declared.level.Leaf.TheVariants as leaf
use Rattle.lmn_base.specs.declared.level.Level.{Level}
use Rattle.lmn_base.specs.declared.level.Occ.{Occ}
use Rattle.lmn_base.specs.declared.refusal.Pos.{Pos}
use Rattle.lmn_base.specs.Items.{untyped_form, untyped, leaf_item, items_of}
use Rattle.lmn_base.specs.Levels.{leaves_of}
use Rattle.lmn_base.specs.Uses.{is_some_place, use_of, has_use}
use Rattle.lmn_solid_heads.proofs.HeadTrees.{Head, Heads, head, no_head, head_and, head_at, head_leaves, heads_leaves, same_leaves, head_uses, heads_uses, same_uses}
use Rattle.lmn_base.proofs.Lists.{contains_behind as behind, contains_first as here}
use Rattle.lmn_guards.proofs.OrderedLemmas.{some_of as there_some}

-- ---- what is found in a list

some_left : (ps qs : List Pos) → is_some_place ps ≡ true → is_some_place (ps ++ qs) ≡ true
some_left [] qs e = absurd (cc)
some_left (p ∷ ps) qs e = refl

some_right : (ps qs : List Pos) → is_some_place qs ≡ true → is_some_place (ps ++ qs) ≡ true
some_right [] qs e = e
some_right (p ∷ ps) qs e = refl

-- a place of one of a list is a place of the list
pub some_there : {X : Type 0} (f : X → List Pos) (xs : List X) (x : X) → Contains xs x → is_some_place (f x) ≡ true → is_some_place (flat_map f xs) ≡ true
some_there f [] x (k, within, is) e = absurd (omega (arith, within))
some_there f (y ∷ ys) x (zero, within, is) e = some_left (f y) (flat_map f ys) (subst (λ z. is_some_place (f z) ≡ true) (sym is) e)
some_there f (y ∷ ys) x (suc k, within, is) e = some_right (f y) (flat_map f ys) (some_there f ys x (k, omega (arith, within), is) e)

-- what is in the list of one of a list is in the lists of all
pub contained : {X Y : Type 0} (f : X → List Y) (xs : List X) (x : X) (y : Y) → Contains xs x → Contains (f x) y → Contains (flat_map f xs) y
contained f [] x y (k, within, is) c = absurd (omega (arith, within))
contained f (z ∷ zs) x y (zero, within, is) c = Contains-append_left (f z) (flat_map f zs) y (subst (λ w. Contains (f w) y) (sym is) c)
contained f (z ∷ zs) x y (suc k, within, is) c = Contains-append_right (f z) (flat_map f zs) y (contained f zs x y (k, omega (arith, within), is) c)

-- ---- uses and leaves

-- the use of a typed context
abbrev pub typed_use : ℕ → Pos → FormedUse
typed_use n p = record { name = n; form = form.Typed; pos = p }

-- a typed context among leaves is used by them
pub leaves_use : (ls : List Leaf) (n : ℕ) (o : Occ) (p : Pos) → Contains ls (leaf.Typed n o p) → Contains (map leaf_item ls) (item.Context (typed_use n p))
leaves_use [] n o p (k, within, e) = absurd (omega (arith, within))
leaves_use (l ∷ ls) n o p (zero, within, e) = subst (λ i. Contains (i ∷ map leaf_item ls) (item.Context (typed_use n p))) (ap leaf_item (sym e)) (here _ _)
leaves_use (l ∷ ls) n o p (suc k, within, e) = behind (leaf_item l) (map leaf_item ls) _ (leaves_use ls n o p (k, omega (arith, within), e))

mutual
  pub leaf_use : (h : Head) (n : ℕ) (o : Occ) (p : Pos) → Contains (head_leaves h) (leaf.Typed n o p) → Contains (head_uses h) (item.Context (typed_use n p))
  leaf_use (head leaves hs cs rcs rs) n o p c =
      let own = map leaf_item leaves in
      let rest = map untyped cs ++ (map item.RuleContext rcs ++ map item.Rule rs) in
      elim (Contains-append_cases leaves (heads_leaves hs) (leaf.Typed n o p) c) [
        | inl a ↦ Contains-append_left (own ++ rest) (heads_uses hs) (item.Context (typed_use n p)) (Contains-append_left own rest (item.Context (typed_use n p)) (leaves_use leaves n o p a))
        | inr b ↦ Contains-append_right (own ++ rest) (heads_uses hs) (item.Context (typed_use n p)) (leaf_uses hs n o p b)
      ]

  leaf_uses : (hs : Heads) (n : ℕ) (o : Occ) (p : Pos) → Contains (heads_leaves hs) (leaf.Typed n o p) → Contains (heads_uses hs) (item.Context (typed_use n p))
  leaf_uses no_head n o p (k, within, e) = absurd (omega (arith, within))
  leaf_uses (head_and h hs) n o p c =
      elim (Contains-append_cases (head_leaves h) (heads_leaves hs) (leaf.Typed n o p) c) [
        | inl a ↦ Contains-append_left (head_uses h) (heads_uses hs) (item.Context (typed_use n p)) (leaf_use h n o p a)
        | inr b ↦ Contains-append_right (head_uses h) (heads_uses hs) (item.Context (typed_use n p)) (leaf_uses hs n o p b)
      ]

-- the name of a typed leaf is used in the head
pub leaf_is_used : (l : Level) (n : ℕ) (o : Occ) (p : Pos) → Contains (leaves_of l) (leaf.Typed n o p) → has_use n (items_of l) ≡ true
leaf_is_used l n o p c =
    let there = subst (λ is. Contains is (item.Context (typed_use n p))) (sym (same_uses l)) (leaf_use (head_at l) n o p (subst (λ ls. Contains ls (leaf.Typed n o p)) (same_leaves l) c)) in
    some_there (use_of n) (items_of l) (item.Context (typed_use n p)) there (ap (λ b. is_some_place (if b then p ∷ [] else [])) ((Decides-eqb n n).1 refl))

abbrev IsLeafOf : List Leaf → FormedUse → Type 0
IsLeafOf ls u = (o : Occ) × (p : Pos) × Contains ls (leaf.Typed u.name o p)

leaf_more : (l : Leaf) (ls : List Leaf) (u : FormedUse) → IsLeafOf ls u → IsLeafOf (l ∷ ls) u
leaf_more l ls u r = (r.0, r.1, behind l ls (leaf.Typed u.name r.0 r.1) r.2)

leaves_used : (ls : List Leaf) (u : FormedUse) → Contains (map leaf_item ls) (item.Context u) → IsLeafOf ls u
leaves_used [] u (k, within, e) = absurd (omega (arith, within))
leaves_used (leaf.Atom f os p ∷ ls) u (zero, within, e) = absurd (cc)
leaves_used (leaf.Typed n o p ∷ ls) u (zero, within, e) =
    let same : typed_use n p ≡ u = cc in
    (o, p, subst (λ m. Contains (leaf.Typed n o p ∷ ls) (leaf.Typed m o p)) (ap (λ (v : FormedUse). v.name) same) (here (leaf.Typed n o p) ls))
leaves_used (l ∷ ls) u (suc k, within, e) = leaf_more l ls u (leaves_used ls u (k, omega (arith, within), e))

-- an untyped context isn't typed
pub never_typed : (closed : Bool) → untyped_form closed ≡ form.Typed → ⊥
never_typed true e = absurd (cc)
never_typed false e = absurd (cc)

not_typed : (cs : List CtxUse) (u : FormedUse) → u.form ≡ form.Typed → Contains (map untyped cs) (item.Context u) → ⊥
not_typed [] u t (k, within, e) = omega (arith, within)
not_typed (c ∷ cs) u t (zero, within, e) =
    let same : (record { name = c.name; form = untyped_form c.closed; pos = c.pos }) ≡ u = cc in
    never_typed c.closed (ap (λ (v : FormedUse). v.form) same ∙ t)
not_typed (c ∷ cs) u t (suc k, within, e) = not_typed cs u t (k, omega (arith, within), e)

not_rule_context : (cs : List CtxUse) (u : FormedUse) → Contains (map item.RuleContext cs) (item.Context u) → ⊥
not_rule_context [] u (k, within, e) = omega (arith, within)
not_rule_context (c ∷ cs) u (zero, within, e) = cc
not_rule_context (c ∷ cs) u (suc k, within, e) = not_rule_context cs u (k, omega (arith, within), e)

not_rule : (rs : List ℕ) (u : FormedUse) → Contains (map item.Rule rs) (item.Context u) → ⊥
not_rule [] u (k, within, e) = omega (arith, within)
not_rule (c ∷ cs) u (zero, within, e) = cc
not_rule (c ∷ cs) u (suc k, within, e) = not_rule cs u (k, omega (arith, within), e)

in_front : (ls ms : List Leaf) (u : FormedUse) → IsLeafOf ls u → IsLeafOf (ls ++ ms) u
in_front ls ms u r = (r.0, r.1, Contains-append_left ls ms (leaf.Typed u.name r.0 r.1) r.2)

at_back : (ls ms : List Leaf) (u : FormedUse) → IsLeafOf ms u → IsLeafOf (ls ++ ms) u
at_back ls ms u r = (r.0, r.1, Contains-append_right ls ms (leaf.Typed u.name r.0 r.1) r.2)

own_leaf : (leaves : List Leaf) (cs rcs : List CtxUse) (rs : List ℕ) (u : FormedUse) → u.form ≡ form.Typed
    → Contains (map leaf_item leaves ++ (map untyped cs ++ (map item.RuleContext rcs ++ map item.Rule rs))) (item.Context u) → IsLeafOf leaves u
own_leaf leaves cs rcs rs u t c =
    elim (Contains-append_cases (map leaf_item leaves) (map untyped cs ++ (map item.RuleContext rcs ++ map item.Rule rs)) (item.Context u) c) [
      | inl a ↦ leaves_used leaves u a
      | inr b ↦ elim (Contains-append_cases (map untyped cs) (map item.RuleContext rcs ++ map item.Rule rs) (item.Context u) b) [
        | inl d ↦ absurd (not_typed cs u t d)
        | inr d ↦ elim (Contains-append_cases (map item.RuleContext rcs) (map item.Rule rs) (item.Context u) d) [
          | inl e ↦ absurd (not_rule_context rcs u e)
          | inr e ↦ absurd (not_rule rs u e)
        ]
      ]
    ]

mutual
  used_leaf : (h : Head) (u : FormedUse) → u.form ≡ form.Typed → Contains (head_uses h) (item.Context u) → IsLeafOf (head_leaves h) u
  used_leaf (head leaves hs cs rcs rs) u t c =
      let own = map leaf_item leaves ++ (map untyped cs ++ (map item.RuleContext rcs ++ map item.Rule rs)) in
      elim (Contains-append_cases own (heads_uses hs) (item.Context u) c) [
        | inl a ↦ in_front leaves (heads_leaves hs) u (own_leaf leaves cs rcs rs u t a)
        | inr b ↦ at_back leaves (heads_leaves hs) u (used_leaves hs u t b)
      ]

  used_leaves : (hs : Heads) (u : FormedUse) → u.form ≡ form.Typed → Contains (heads_uses hs) (item.Context u) → IsLeafOf (heads_leaves hs) u
  used_leaves no_head u t (k, within, e) = absurd (omega (arith, within))
  used_leaves (head_and h hs) u t c =
      elim (Contains-append_cases (head_uses h) (heads_uses hs) (item.Context u) c) [
        | inl a ↦ in_front (head_leaves h) (heads_leaves hs) u (used_leaf h u t a)
        | inr b ↦ at_back (head_leaves h) (heads_leaves hs) u (used_leaves hs u t b)
      ]

use_is : (n : ℕ) (x : Item) → is_some_place (use_of n x) ≡ true → (u : FormedUse) × (x ≡ item.Context u) × (u.name ≡ n)
use_is n (item.Atom f p) e = absurd (cc)
use_is n (item.RuleContext u) e = absurd (cc)
use_is n (item.Rule k) e = absurd (cc)
use_is n (item.Context u) e = by (u.name == n) refl e
  where
    by : (b : Bool) → (u.name == n) ≡ b → is_some_place (if b then u.pos ∷ [] else []) ≡ true → (v : FormedUse) × (item.Context u ≡ item.Context v) × (v.name ≡ n)
    by true f e = (u, refl, (Decides-eqb u.name n).0 f)
    by false f e = absurd (cc)

-- a name that is used in the head, but in no other form, is that of a typed leaf
pub use_is_leaf : (l : Level) (n : ℕ) → has_use n (items_of l) ≡ true → ((u : FormedUse) → Contains (items_of l) (item.Context u) → u.name ≡ n → u.form ≡ form.Typed)
    → (o : Occ) × (p : Pos) × Contains (leaves_of l) (leaf.Typed n o p)
use_is_leaf l n e typed =
    let x = there_some (use_of n) (items_of l) e in
    let u = use_is n x.0 x.2 in
    let c : Contains (items_of l) (item.Context u.0) = subst (Contains (items_of l)) u.1 x.1 in
    let r = used_leaf (head_at l) u.0 (typed u.0 c u.2) (subst (λ is. Contains is (item.Context u.0)) (same_uses l) c) in
    (r.0, r.1, subst (λ ls. Contains ls (leaf.Typed n r.0 r.1)) (sym (same_leaves l)) (subst (λ m. Contains (head_leaves (head_at l)) (leaf.Typed m r.0 r.1)) u.2 r.2))
