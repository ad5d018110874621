-- A typed context of the body of an accepted rule is one of the head, or the guard binds its name.
use Rattle.std.proofs.Common.{ℕ, ◌≡◌, ◌⊎◌, inl, inr, List, [], ◌∷◌, ◌++◌, map, Option, Some, None, refl, sym, subst}
use Rattle.std.specs.Prelude.{Bool, true, false, ◌≢◌, ◌==◌, if◌then◌else◌, Contains, IsSome}
use Rattle.std.specs.List.{flat_map, list_any}
use Rattle.std.proofs.lemmas.Bool.Decides.{Decides-eqb}
use Rattle.std.proofs.lemmas.List.Elements.{Contains-append_left, Contains-append_right}
use Rattle.lmn_base.specs.declared.item.Form.TheVariants as form
use Rattle.lmn_base.specs.declared.item.FormedUse.{FormedUse}
use Rattle.lmn_base.specs.declared.item.Item.{Item}
use Rattle.lmn_base.specs.declared.item.Item.TheVariants as item
use Rattle.lmn_base.specs.declared.level.CtxUse.{CtxUse}
use Rattle.lmn_base.specs.declared.level.Leaf.{Leaf}
use Rattle.lmn_base.specs.declared.level.Leaf.TheVariants as leaf
use Rattle.lmn_base.specs.declared.level.Level.{Level}
use Rattle.lmn_base.specs.declared.level.Occ.{Occ}
use Rattle.lmn_base.specs.declared.refusal.Pos.{Pos}
use Rattle.lmn_base.specs.declared.rule.RuleTree.{RuleTree}
use Rattle.lmn_base.specs.Items.{untyped, untyped_form, leaf_item, items_of, guard_items}
use Rattle.lmn_base.specs.Levels.{leaves_of}
use Rattle.lmn_base_walks.specs.RuleCodes.{is_left_of}
use Rattle.lmn_base.specs.Uses.{is_some_place, use_of, has_use}
use Rattle.lmn_guards.specs.declared.plan.GuardPlan.{GuardPlan}
use Rattle.lmn_guards.specs.Accepted.{IsInOrder}
use Rattle.lmn_solid_heads.specs.Guards.{typed_number}
use Rattle.lmn_solid_heads.specs.Heads.{typed_contexts_of}
use Rattle.lmn_solid_heads.proofs.HeadTrees.{Head, Heads, head, no_head, head_and, head_at, head_leaves, heads_leaves, same_leaves, head_uses, heads_uses, same_uses}
use Rattle.lmn_compile_head.specs.Accepted.{head_items}
use Rattle.lmn_compile_head.specs.Heads.{kind_in}
use Rattle.lmn_compile_head.proofs.HeadLeaves.{number_of_leaf}
use Rattle.lmn_compile_head.proofs.HeadUses.{typed_use, leaf_use, never_typed}
use Rattle.lmn_base.proofs.Lists.{contains_behind as later, contains_first as first}
use Rattle.lmn_base.proofs.Truth.{either_true as or_cases}

-- ---- a typed leaf is a use

leaf_is_use : (l : Level) (n : ℕ) (o : Occ) (p : Pos) → Contains (leaves_of l) (leaf.Typed n o p) → Contains (items_of l) (item.Context (typed_use n p))
leaf_is_use l n o p c =
    subst (λ is. Contains is (item.Context (typed_use n p))) (sym (same_uses l)) (leaf_use (head_at l) n o p (subst (λ ls. Contains ls (leaf.Typed n o p)) (same_leaves l) c))

-- ---- a use in no other form is a typed leaf

-- the name is that of a typed leaf, or it is that of an untyped context
abbrev LeafOrUntyped : ℕ → List Leaf → List Item → Type 0
LeafOrUntyped n ls is = ((o : Occ) × (p : Pos) × Contains ls (leaf.Typed n o p)) ⊎ ((u : FormedUse) × Contains is (item.Context u) × (u.name ≡ n) × (u.form ≢ form.Typed))

abbrev IsUsed : ℕ → List Item → Type 0
IsUsed n is = is_some_place (flat_map (use_of n) is) ≡ true

place_cases : (ps qs : List Pos) → is_some_place (ps ++ qs) ≡ true → (is_some_place ps ≡ true) ⊎ (is_some_place qs ≡ true)
place_cases [] qs e = inr e
place_cases (p ∷ ps) qs e = inl refl

place_of_if : (n : ℕ) (u : FormedUse) → is_some_place (use_of n (item.Context u)) ≡ true → u.name ≡ n
place_of_if n u e = by (u.name == n) refl e
  where
    by : (b : Bool) → (u.name == n) ≡ b → is_some_place (if b then u.pos ∷ [] else []) ≡ true → u.name ≡ n
    by true t e = (Decides-eqb u.name n).0 t
    by false t e = absurd (cc)

used_either : (n : ℕ) (xs ys : List Item) → IsUsed n (xs ++ ys) → IsUsed n xs ⊎ IsUsed n ys
used_either n [] ys e = inr e
used_either n (x ∷ xs) ys e = by (use_of n x) (used_either n xs ys) e
  where
    by : (ps : List Pos) → (IsUsed n (xs ++ ys) → IsUsed n xs ⊎ IsUsed n ys) → is_some_place (ps ++ flat_map (use_of n) (xs ++ ys)) ≡ true → (is_some_place (ps ++ flat_map (use_of n) xs) ≡ true) ⊎ IsUsed n ys
    by [] on e = on e
    by (p ∷ ps) on e = inl refl

leaves_used : (n : ℕ) (ls : List Leaf) → IsUsed n (map leaf_item ls) → (o : Occ) × (p : Pos) × Contains ls (leaf.Typed n o p)
leaves_used n [] e = absurd (cc)
leaves_used n (leaf.Atom f os p ∷ ls) e = let r = leaves_used n ls e in (r.0, r.1, later (leaf.Atom f os p) ls (leaf.Typed n r.0 r.1) r.2)
leaves_used n (leaf.Typed m o p ∷ ls) e = elim (place_cases (use_of n (item.Context (typed_use m p))) (flat_map (use_of n) (map leaf_item ls)) e) [
  | inl a ↦ (o, p, subst (λ k. Contains (leaf.Typed m o p ∷ ls) (leaf.Typed k o p)) (place_of_if n (typed_use m p) a) (first (leaf.Typed m o p) ls))
  | inr b ↦ (let r = leaves_used n ls b in (r.0, r.1, later (leaf.Typed m o p) ls (leaf.Typed n r.0 r.1) r.2))
]

abbrev untyped_use : CtxUse → FormedUse
untyped_use u = record { name = u.name; form = untyped_form u.closed; pos = u.pos }

contexts_used : (n : ℕ) (us : List CtxUse) → IsUsed n (map untyped us) → (u : FormedUse) × Contains (map untyped us) (item.Context u) × (u.name ≡ n) × (u.form ≢ form.Typed)
contexts_used n [] e = absurd (cc)
contexts_used n (u ∷ us) e = elim (place_cases (use_of n (item.Context (untyped_use u))) (flat_map (use_of n) (map untyped us)) e) [
  | inl a ↦ (untyped_use u, first (untyped u) (map untyped us), place_of_if n (untyped_use u) a, never_typed u.closed)
  | inr b ↦ (let r = contexts_used n us b in (r.0, later (untyped u) (map untyped us) (item.Context r.0) r.1, r.2, r.3))
]

no_rule_context : (n : ℕ) (us : List CtxUse) → IsUsed n (map item.RuleContext us) → ⊥
no_rule_context n [] e = cc
no_rule_context n (u ∷ us) e = no_rule_context n us e

no_rule : (n : ℕ) (ks : List ℕ) → IsUsed n (map item.Rule ks) → ⊥
no_rule n [] e = cc
no_rule n (k ∷ ks) e = no_rule n ks e

in_front : (n : ℕ) (ls ms : List Leaf) (is js : List Item) → LeafOrUntyped n ls is → LeafOrUntyped n (ls ++ ms) (is ++ js)
in_front n ls ms is js (inl r) = inl (r.0, r.1, Contains-append_left ls ms (leaf.Typed n r.0 r.1) r.2)
in_front n ls ms is js (inr r) = inr (r.0, Contains-append_left is js (item.Context r.0) r.1, r.2, r.3)

at_back : (n : ℕ) (ls ms : List Leaf) (is js : List Item) → LeafOrUntyped n ms js → LeafOrUntyped n (ls ++ ms) (is ++ js)
at_back n ls ms is js (inl r) = inl (r.0, r.1, Contains-append_right ls ms (leaf.Typed n r.0 r.1) r.2)
at_back n ls ms is js (inr r) = inr (r.0, Contains-append_right is js (item.Context r.0) r.1, r.2, r.3)

own_used : (n : ℕ) (leaves : List Leaf) (cs rcs : List CtxUse) (rs : List ℕ) → IsUsed n (map leaf_item leaves ++ (map untyped cs ++ (map item.RuleContext rcs ++ map item.Rule rs))) →
    LeafOrUntyped n leaves (map leaf_item leaves ++ (map untyped cs ++ (map item.RuleContext rcs ++ map item.Rule rs)))
own_used n leaves cs rcs rs e =
    let is = map leaf_item leaves in
    let bs = map untyped cs in
    let rest = map item.RuleContext rcs ++ map item.Rule rs in
    elim (used_either n is (bs ++ rest) e) [
      | inl a ↦ inl (leaves_used n leaves a)
      | inr b ↦ elim (used_either n bs rest b) [
        | inl c ↦ (let r = contexts_used n cs c in inr (r.0, Contains-append_right is (bs ++ rest) (item.Context r.0) (Contains-append_left bs rest (item.Context r.0) r.1), r.2, r.3))
        | inr d ↦ elim (used_either n (map item.RuleContext rcs) (map item.Rule rs) d) [
          | inl f ↦ absurd (no_rule_context n rcs f)
          | inr f ↦ absurd (no_rule n rs f)
        ]
      ]
    ]

mutual
  head_used : (n : ℕ) (h : Head) → IsUsed n (head_uses h) → LeafOrUntyped n (head_leaves h) (head_uses h)
  head_used n (head leaves hs cs rcs rs) e =
      let own = map leaf_item leaves ++ (map untyped cs ++ (map item.RuleContext rcs ++ map item.Rule rs)) in
      elim (used_either n own (heads_uses hs) e) [
        | inl a ↦ in_front n leaves (heads_leaves hs) own (heads_uses hs) (own_used n leaves cs rcs rs a)
        | inr b ↦ at_back n leaves (heads_leaves hs) own (heads_uses hs) (heads_used n hs b)
      ]

  heads_used : (n : ℕ) (hs : Heads) → IsUsed n (heads_uses hs) → LeafOrUntyped n (heads_leaves hs) (heads_uses hs)
  heads_used n no_head e = absurd (cc)
  heads_used n (head_and h hs) e = elim (used_either n (head_uses h) (heads_uses hs) e) [
    | inl a ↦ in_front n (head_leaves h) (heads_leaves hs) (head_uses h) (heads_uses hs) (head_used n h a)
    | inr b ↦ at_back n (head_leaves h) (heads_leaves hs) (head_uses h) (heads_uses hs) (heads_used n hs b)
  ]

-- ---- what is no typed context of the head is bound

some_none : (o : Option ℕ) → IsSome o → o ≡ None → ⊥
some_none None i e = cc
some_none (Some x) i e = cc

-- a typed context of the body that is none of the head is on the left of an `=` of the guard
pub bound_or_head : (table : List RuleTree) (r : RuleTree) (plan : GuardPlan) → IsInOrder table r → (n : ℕ) (o : Occ) (p : Pos) → Contains (leaves_of r.body) (leaf.Typed n o p) →
    typed_number (typed_contexts_of (head_items r plan)) 0 n ≡ None → list_any (is_left_of n) r.guard ≡ true
bound_or_head table r plan order n o p c none =
    let u = typed_use n p in
    let there = leaf_is_use r.body n o p c in
    elim (or_cases (has_use n (items_of r.head)) (list_any (is_left_of n) r.guard) (order.of_the_head u there)) [
      | inl a ↦ elim (head_used n (head_at r.head) (subst (λ is. IsUsed n is) (same_uses r.head) a)) [
        | inl w ↦ absurd (some_none (typed_number (typed_contexts_of (head_items r plan)) 0 n)
            (number_of_leaf (kind_in plan.kinds) r.head n w.0 w.1 (subst (λ ls. Contains ls (leaf.Typed n w.0 w.1)) (sym (same_leaves r.head)) w.2)) none)
        | inr w ↦ (let head_use = subst (λ is. Contains is (item.Context w.0)) (sym (same_uses r.head)) w.1 in
            let same = order.one_form w.0 u (Contains-append_left (items_of r.head) (guard_items r.guard ++ items_of r.body) (item.Context w.0) head_use)
            (Contains-append_right (items_of r.head) (guard_items r.guard ++ items_of r.body) (item.Context u) (Contains-append_right (guard_items r.guard) (items_of r.body) (item.Context u) there)) w.2 in
            absurd (w.3 same))
      ]
      | inr b ↦ b
    ]
