-- The guard of an accepted rule meets what the laws of head code ask.
use Rattle.std.proofs.Common.{ℕ, suc, ◌≡◌, ◌⊎◌, inl, inr, List, [], ◌∷◌, ◌++◌, length, refl, sym, ap, subst, ◌∙◌, arith, append_assoc}
use Rattle.std.specs.Prelude.{Option, Some, None, IsSome, Bool, true, false, not, ◌==◌, ◌||◌, ◌&&◌, if◌then◌else◌, Contains, slice_get, is_some}
use Rattle.std.specs.List.{flat_map, list_any}
use Rattle.std.proofs.lemmas.Bool.Decides.{Decides-eqb}
use Rattle.std.proofs.lemmas.List.Concat.{flat_map-append}
use Rattle.std.proofs.lemmas.List.Elements.{Contains-append_left, Contains-append_right}
use Rattle.lmn_base.specs.declared.functor.TheConstants.{INT_NAME, UNARY_NAME, GROUND_NAME}
use Rattle.lmn_base.specs.declared.guard.Cond.{Cond}
use Rattle.lmn_base.specs.declared.guard.Cond.TheVariants.{Kind, Compare, Equal, Differ}
use Rattle.lmn_base.specs.declared.guard.Expr.{Expr}
use Rattle.lmn_base.specs.declared.guard.Expr.TheVariants as expr
use Rattle.lmn_base.specs.declared.item.Form.TheVariants as form
use Rattle.lmn_base.specs.declared.item.Item.{Item}
use Rattle.lmn_base.specs.declared.item.Item.TheVariants as item
use Rattle.lmn_base.specs.declared.level.CtxUse.{CtxUse}
use Rattle.lmn_base.specs.declared.level.Leaf.TheVariants as leaf
use Rattle.lmn_base.specs.declared.level.Occ.{Occ}
use Rattle.lmn_base.specs.declared.refusal.Pos.{Pos}
use Rattle.lmn_base.specs.declared.rule.RuleTree.{RuleTree}
use Rattle.lmn_base.specs.Firsts.{NoneApplies}
use Rattle.lmn_base.specs.Items as base
use Rattle.lmn_base.specs.Items.{used, rule_items, guard_items, condition_items, expression_items}
use Rattle.lmn_base.specs.Levels.{leaves_of}
use Rattle.lmn_base_walks.specs.RuleCodes.{is_left_of}
use Rattle.lmn_base.specs.Uses.{is_some_place, use_of}
use Rattle.lmn_guards.specs.declared.plan.GuardPlan.{GuardPlan}
use Rattle.lmn_guards.specs.declared.plan.TypeKind.{TypeKind}
use Rattle.lmn_guards.specs.declared.plan.TypeKind.TheVariants as kind
use Rattle.lmn_guards.specs.Accepted.{IsInOrder}
use Rattle.lmn_guards.specs.GuardCodes.{in_head, is_bound, is_type, unknown, use_of_none, unbound, is_of_head, has_wrong_operands, condition_place, asks, type_of, rows_of_conditions}
use Rattle.lmn_guards.specs.Plans.{IsPlan}
use Rattle.lmn_guards.proofs.GuardLemmas.{wrong_by_test}
use Rattle.lmn_guards.proofs.OrderLemmas.{no_places, not_then, so_else}
use Rattle.lmn_solid_heads.specs.Flattening.{items_of_head}
use Rattle.lmn_solid_heads.specs.Guards.{typed_number, context_alone, kind_named}
use Rattle.lmn_solid_heads.specs.Heads.{HeadTyped, typed_contexts_of}
use Rattle.lmn_instr_code.specs.HeadCode.{part_named}
use Rattle.lmn_compile_head.specs.Heads.{kind_in, UsesKnown, IsNarrower, IsAsked, EqualAllowed, IsGuard}
use Rattle.lmn_compile_head.proofs.HeadLeaves.{typed_leaf, number_at, number_of_leaf}
use Rattle.lmn_compile_head.proofs.HeadUses.{contained, leaf_is_used, use_is_leaf}
use Rattle.lmn_compile_head.proofs.PlanKinds.{kind_of_leaf, narrower}
use Rattle.lmn_base.proofs.Common.{operation_items as op_items}
use Rattle.lmn_base.proofs.Lists.{contains_behind as behind, contains_first as here}
use Rattle.lmn_base.proofs.Truth.{and_true as and_both, either_true as or_either, never_both, not_false, not_true}
use Rattle.lmn_guards.proofs.WorkedGuards.{of_context as ctx_items}
use Rattle.lmn_base.specs.Lists.{In}

-- ---- tests

any_more : {X : Type 0} (f : X → Bool) (xs : List X) (x : X) → list_any f (xs ++ x ∷ []) ≡ true → (list_any f xs ≡ true) ⊎ (f x ≡ true)
any_more f [] x e = elim (or_either (f x) false e) [ inl a ↦ inr a | inr b ↦ absurd (cc) ]
any_more f (y ∷ ys) x e = by (f y) (any_more f ys x) e
  where
    by : (b : Bool) → (list_any f (ys ++ x ∷ []) ≡ true → (list_any f ys ≡ true) ⊎ (f x ≡ true)) → (b || list_any f (ys ++ x ∷ [])) ≡ true → ((b || list_any f ys) ≡ true) ⊎ (f x ≡ true)
    by true later e = inl refl
    by false later e = later e

any_there : {X : Type 0} (f : X → Bool) (xs ys : List X) (x : X) → f x ≡ true → list_any f (xs ++ x ∷ ys) ≡ true
any_there f [] ys x e = ap (λ b. b || list_any f ys) e
any_there f (z ∷ zs) ys x e = by (f z) (any_there f zs ys x e)
  where
    by : (b : Bool) → list_any f (zs ++ x ∷ ys) ≡ true → (b || list_any f (zs ++ x ∷ ys)) ≡ true
    by true later = refl
    by false later = later

some_is : {X : Type 0} (o : Option X) → is_some o ≡ true → (x : X) × (o ≡ Some x)
some_is (Some x) e = (x, refl)
some_is None e = absurd (cc)

-- ---- contexts of expressions

-- ---- the names of conditions on a type

type_case : (n : ℕ) → is_type n ≡ true → ((kind_named n ≡ Some kind.Int) × ((n == INT_NAME) ≡ true)) ⊎ (((kind_named n ≡ Some kind.Unary) × ((n == UNARY_NAME) ≡ true)) ⊎ ((kind_named n ≡ Some kind.Ground) × ((n == GROUND_NAME) ≡ true)))
type_case n e = by (n == INT_NAME) (n == UNARY_NAME) (n == GROUND_NAME) e
  where
    by : (a b c : Bool) → (a || (b || c)) ≡ true →
        (((if a then Some kind.Int else if b then Some kind.Unary else if c then Some kind.Ground else None) ≡ Some kind.Int) × (a ≡ true))
        ⊎ ((((if a then Some kind.Int else if b then Some kind.Unary else if c then Some kind.Ground else None) ≡ Some kind.Unary) × (b ≡ true))
        ⊎ (((if a then Some kind.Int else if b then Some kind.Unary else if c then Some kind.Ground else None) ≡ Some kind.Ground) × (c ≡ true)))
    by true b c e = inl (refl, refl)
    by false true c e = inr (inl (refl, refl))
    by false false true e = inr (inr (refl, refl))
    by false false false e = absurd (cc)

module _ (table : List RuleTree) (r : RuleTree) (plan : GuardPlan) (order : IsInOrder table r) (is : IsPlan r plan) where
  abbrev of_plan : ℕ → TypeKind
  of_plan = kind_in plan.kinds

  abbrev typed : List HeadTyped
  typed = typed_contexts_of (items_of_head of_plan r.head)

  abbrev part : ℕ → Option ℕ
  part = typed_number typed 0

  -- what a typed leaf is by the guard and by the plan
  known_kind : (n : ℕ) (o : Occ) (p : Pos) → Contains (leaves_of r.head) (leaf.Typed n o p) → (k : TypeKind) × (type_of r.head r.guard n ≡ Some k) × (of_plan n ≡ k)
  known_kind n o p c =
      let k = some_is (type_of r.head r.guard n) (order.has_type n o p c) in
      (k.0, k.1, ap (λ ts. kind_in ts n) is.kinds ∙ kind_of_leaf r.head r.guard n k.0 k.1 o p c)

  abbrev Used : CtxUse → Type 0
  Used u = Contains (rule_items r) (used form.Typed u)

  -- a context of the guard that is in the head has a number there
  has_number : (u : CtxUse) → Used u → in_head r.head u.name ≡ true → IsSome (part u.name)
  has_number u c e =
      let l = use_is_leaf r.head u.name e (λ v d named. order.one_form v (record { name = u.name; form = form.Typed; pos = u.pos })
      (Contains-append_left (base.items_of r.head) (guard_items r.guard ++ base.items_of r.body) (item.Context v) d) c named) in
      number_of_leaf of_plan r.head u.name l.0 l.1 l.2

  -- and one that isn't has none
  no_number : (n : ℕ) → in_head r.head n ≡ false → part n ≡ None
  no_number n e = by (part n) refl
    where
      by : (o : Option ℕ) → part n ≡ o → o ≡ None
      by None f = refl
      by (Some g) f =
          let t = number_at typed 0 n g f in
          let l = typed_leaf of_plan r.head t.1 t.0 t.3 in
          absurd (never_both (in_head r.head n) (subst (λ m. in_head r.head m ≡ true) t.4 (leaf_is_used r.head t.0.name l.0 l.1 l.2)) e)

  in_rule : (c : Cond) (x : Item) → Contains r.guard c → Contains (condition_items c) x → Contains (rule_items r) x
  in_rule c x there d = Contains-append_right (base.items_of r.head) (guard_items r.guard ++ base.items_of r.body) x
      (Contains-append_left (guard_items r.guard) (base.items_of r.body) x (contained condition_items r.guard c x there d))

  -- the names that are bound before are known
  abbrev Knows : List Cond → List ℕ → Type 0
  Knows before known = (n : ℕ) → is_bound r.head before n ≡ true → In n known

  module _ (before : List Cond) (known : List ℕ) (knows : Knows before known) where
    use_known : (u : CtxUse) → Used u → use_of_none r.head before (used form.Typed u) ≡ [] → IsSome (part u.name) ⊎ In u.name known
    use_known u c e = elim (or_either (in_head r.head u.name) (is_bound r.head before u.name) (so_else (in_head r.head u.name || is_bound r.head before u.name) u.pos e)) [
      | inl a ↦ inl (has_number u c a)
      | inr b ↦ inr (knows u.name b)
    ]

    expr_uses : (e : Expr) → ((u : CtxUse) → Contains (expression_items e) (used form.Typed u) → Used u) → flat_map (use_of_none r.head before) (expression_items e) ≡ [] → UsesKnown part known e
    expr_uses (expr.Int z) c e = tt
    expr_uses (expr.Ctx u) c e =
        let f = ap (flat_map (use_of_none r.head before)) (sym (ctx_items u)) ∙ e in
        use_known u (c u (subst (λ l. Contains l (used form.Typed u)) (sym (ctx_items u)) (here (used form.Typed u) []))) (no_places (use_of_none r.head before (used form.Typed u)) [] f).0
    expr_uses (expr.Op' op p left q right) c e =
        let a = expression_items left in
        let b = expression_items right in
        let whole = op_items op p left q right in
        let f = no_places (flat_map (use_of_none r.head before) a) (flat_map (use_of_none r.head before) b) (sym (flat_map-append (use_of_none r.head before) a b) ∙ (ap (flat_map (use_of_none r.head before)) (sym whole) ∙ e)) in (
          expr_uses left (λ u d. c u (subst (λ l. Contains l (used form.Typed u)) (sym whole) (Contains-append_left a b (used form.Typed u) d))) f.0,
          expr_uses right (λ u d. c u (subst (λ l. Contains l (used form.Typed u)) (sym whole) (Contains-append_right a b (used form.Typed u) d))) f.1,
        )

    -- the names that are known behind a condition
    knows_more : (c : Cond) (known' : List ℕ) → ((n : ℕ) → In n known → In n known') → ((n : ℕ) → in_head r.head n ≡ false → is_left_of n c ≡ true → In n known') → Knows (before ++ c ∷ []) known'
    knows_more c known' more left n e =
        let both = and_both (not (in_head r.head n)) (list_any (is_left_of n) (before ++ c ∷ [])) e in
        let outside = not_true (in_head r.head n) both.0 in
        elim (any_more (is_left_of n) before c both.1) [
          | inl a ↦ more n (knows n (bound_before n outside a))
          | inr b ↦ left n outside b
        ]
      where
        bound_before : (n : ℕ) → in_head r.head n ≡ false → list_any (is_left_of n) before ≡ true → is_bound r.head before n ≡ true
        bound_before n a b = (λ i. not (a i) && b i)

  -- ---- each condition

  nothing_bound : (n : ℕ) → is_bound r.head [] n ≡ true → ⊥
  nothing_bound n e = let both = and_both (not (in_head r.head n)) false e in let clash : false ≡ true = both.1 in cc

  asked_as : (u : CtxUse) (n : ℕ) (k : TypeKind) → Used u → in_head r.head u.name ≡ true → kind_named n ≡ Some k → list_any (asks r.head k u.name) r.guard ≡ true → IsAsked typed n (u ∷ [])
  asked_as u n k c e named asked =
      let g = some_is (part u.name) (has_number u c e) in
      let t = number_at typed 0 u.name g.0 g.1 in
      let l = typed_leaf of_plan r.head t.1 t.0 t.3 in
      let k' = known_kind t.0.name l.0 l.1 l.2 in
      let type : type_of r.head r.guard u.name ≡ Some k'.0 = subst (λ m. type_of r.head r.guard m ≡ Some k'.0) t.4 k'.1 in
      let at : t.1 ≡ g.0 = (let s = t.2 in omega (arith, s)) in (
        g.0,
        t.0,
        k,
        g.1,
        subst (λ i. slice_get typed i ≡ Some t.0) at t.3,
        named,
        subst (λ j. IsNarrower j k) (sym (l.4 ∙ k'.2)) (narrower r.head r.guard u.name k k'.0 asked type),
      )

  own_use : (n : ℕ) (u : CtxUse) (b : Bool) → b ≡ true → (b && is_some_place (use_of u.name (used form.Typed u) ++ [])) ≡ true
  own_use n u b e = ap (λ a. a && is_some_place (use_of u.name (used form.Typed u) ++ [])) e ∙ ap (λ a. is_some_place ((if a then u.pos ∷ [] else []) ++ [])) ((Decides-eqb u.name u.name).1 refl)

  asked : (before cs : List Cond) (n : ℕ) (args : List CtxUse) (pos : Pos) → r.guard ≡ before ++ Kind n args pos ∷ cs → unknown (Kind n args pos) ≡ [] → unbound r.head before (Kind n args pos) ≡ [] → IsAsked typed n args
  asked before cs n [] pos eq e f =
      let none : List CtxUse = [] in
      let both = and_both (is_type n) (length none == 1) (so_else (is_type n && (length none == 1)) pos e) in
      let clash : 0 ≡ 1 = (Decides-eqb 0 1).0 both.1 in absurd (omega (arith, clash))
  asked before cs n (u ∷ (v ∷ us)) pos eq e f =
      let both = and_both (is_type n) (length (u ∷ (v ∷ us)) == 1) (so_else (is_type n && (length (u ∷ (v ∷ us)) == 1)) pos e) in
      let clash : length (u ∷ (v ∷ us)) ≡ 1 = (Decides-eqb (length (u ∷ (v ∷ us))) 1).0 both.1 in absurd (omega (arith, clash))
  asked before cs n (u ∷ []) pos eq e f =
      let c = Kind n (u ∷ []) pos in
      let type = (and_both (is_type n) (length (u ∷ []) == 1) (so_else (is_type n && (length (u ∷ []) == 1)) pos e)).0 in
      let there : Contains r.guard c = subst (λ l. Contains l c) (sym eq) (Contains-append_right before (c ∷ cs) c (here c cs)) in
      let uses = in_rule c (used form.Typed u) there (here (used form.Typed u) []) in
      let none = (no_places (use_of_none r.head [] (used form.Typed u)) [] f).0 in
      let top : in_head r.head u.name ≡ true = elim (or_either (in_head r.head u.name) (is_bound r.head [] u.name) (so_else (in_head r.head u.name || is_bound r.head [] u.name) u.pos none)) [ inl a ↦ a | inr b ↦ absurd (nothing_bound u.name b) ] in
      let any : (k : TypeKind) → asks r.head k u.name c ≡ true → list_any (asks r.head k u.name) r.guard ≡ true = λ k a. subst (λ l. list_any (asks r.head k u.name) l ≡ true) (sym eq) (any_there (asks r.head k u.name) before cs c a) in
      elim (type_case n type) [
        | inl a ↦ asked_as u n kind.Int uses top a.0 (any kind.Int (own_use n u (n == INT_NAME) a.1))
        | inr b ↦ elim b [
          | inl a ↦ asked_as u n kind.Unary uses top a.0 (any kind.Unary (own_use n u (n == UNARY_NAME) a.1))
          | inr a ↦ asked_as u n kind.Ground uses top a.0 (any kind.Ground (own_use n u (n == GROUND_NAME) a.1))
        ]
      ]

  alone_in_head : (right : Expr) → ((u : CtxUse) → Contains (expression_items right) (used form.Typed u) → Used u) → is_of_head r.head right ≡ true → IsSome (part_named part (context_alone right))
  alone_in_head (expr.Int z) c e = absurd (cc)
  alone_in_head (expr.Ctx u) c e = has_number u (c u (subst (λ l. Contains l (used form.Typed u)) (sym (ctx_items u)) (here (used form.Typed u) []))) e
  alone_in_head (expr.Op' op p left q right) c e = absurd (cc)

  not_bound_in_head : (before : List Cond) (u : CtxUse) → use_of_none r.head before (used form.Typed u) ≡ [] → is_bound r.head before u.name ≡ false → in_head r.head u.name ≡ true
  not_bound_in_head before u e f = elim (or_either (in_head r.head u.name) (is_bound r.head before u.name) (so_else (in_head r.head u.name || is_bound r.head before u.name) u.pos e)) [
    | inl a ↦ a
    | inr b ↦ absurd (never_both (is_bound r.head before u.name) b f)
  ]

  or_none : (a b : Bool) → (a || b) ≡ false → (a ≡ false) × (b ≡ false)
  or_none true b e = absurd (cc)
  or_none false b e = (refl, e)

  and_not : (a b : Bool) → (a && not b) ≡ false → a ≡ true → b ≡ true
  and_not true b e f = not_false b e
  and_not false b e f = absurd (cc)

  compared : (o q : Option ℕ) (Known Bound Compared : Type 0) → IsSome o → IsSome q → Compared → EqualAllowed o q Known Bound Compared
  compared None q Known Bound Compared a b c = absurd (cc)
  compared (Some g) None Known Bound Compared a b c = absurd (cc)
  compared (Some g) (Some k) Known Bound Compared a b c = c

  equal_is : (left : CtxUse) (right : Expr) (known : List ℕ) (cs : List Cond) (b : Bool) → in_head r.head left.name ≡ b → (in_head r.head left.name && not (is_of_head r.head right)) ≡ false
      → ((u : CtxUse) → Contains (expression_items right) (used form.Typed u) → Used u) → Used left → UsesKnown part known right
      → (in_head r.head left.name ≡ true → IsGuard typed known cs) → IsGuard typed (left.name ∷ known) cs
      → EqualAllowed (part left.name) (part_named part (context_alone right)) (UsesKnown part known right) (IsGuard typed (left.name ∷ known) cs) (IsGuard typed known cs)
  equal_is left right known cs true e wrong uses use_left known_right rest bound =
      compared (part left.name) (part_named part (context_alone right)) (UsesKnown part known right) (IsGuard typed (left.name ∷ known) cs) (IsGuard typed known cs)
      (has_number left use_left e) (alone_in_head right uses (and_not (in_head r.head left.name) (is_of_head r.head right) wrong e)) (rest e)
  equal_is left right known cs false e wrong uses use_left known_right rest bound =
      subst (λ o. EqualAllowed o (part_named part (context_alone right)) (UsesKnown part known right) (IsGuard typed (left.name ∷ known) cs) (IsGuard typed known cs)) (sym (no_number left.name e)) (known_right, bound)

  -- ---- all of it

  abbrev None' : List Cond → List Cond → Type 0
  None' before cs = NoneApplies (rows_of_conditions r.head before cs)

  rest_none : (before : List Cond) (c : Cond) (cs : List Cond) → None' before (c ∷ cs) → None' (before ++ c ∷ []) cs
  rest_none before c cs h = λ k d l. h (suc (suc (suc k))) d (omega (arith, l))

  module _ (before : List Cond) (c : Cond) (cs : List Cond) (h : None' before (c ∷ cs)) where
    none_unknown : unknown c ≡ []
    none_unknown = h 0 (record { code = 0; places = [] }) (omega arith)

    none_unbound : unbound r.head before c ≡ []
    none_unbound = h 1 (record { code = 0; places = [] }) (omega arith)

    none_wrong : has_wrong_operands r.head before c ≡ false
    none_wrong = not_then (has_wrong_operands r.head before c) (condition_place c) (sym (wrong_by_test r.head before c) ∙ h 2 (record { code = 0; places = [] }) (omega arith))

  guard_is : (before cs : List Cond) (known : List ℕ) → r.guard ≡ before ++ cs → None' before cs → Knows before known → IsGuard typed known cs
  guard_is before [] known eq h knows = tt
  guard_is before (Kind n args pos ∷ cs) known eq h knows =
      let c = Kind n args pos in (
        asked before cs n args pos eq (none_unknown before c cs h) (none_unbound before c cs h),
        guard_is (before ++ c ∷ []) cs known (eq ∙ sym (append_assoc before (c ∷ []) cs)) (rest_none before c cs h) (knows_more before known knows c known (λ m i. i) (λ m a b. absurd (cc))),
      )
  guard_is before (Compare op left right pos ∷ cs) known eq h knows =
      let c = Compare op left right pos in
      let a = expression_items left in
      let b = expression_items right in
      let there : Contains r.guard c = subst (λ l. Contains l c) (sym eq) (Contains-append_right before (c ∷ cs) c (here c cs)) in
      let f = no_places (flat_map (use_of_none r.head before) a) (flat_map (use_of_none r.head before) b) (sym (flat_map-append (use_of_none r.head before) a b) ∙ none_unbound before c cs h) in (
        (
          expr_uses before known knows left (λ u d. in_rule c (used form.Typed u) there (Contains-append_left a b (used form.Typed u) d)) f.0,
          expr_uses before known knows right (λ u d. in_rule c (used form.Typed u) there (Contains-append_right a b (used form.Typed u) d)) f.1,
        ),
        guard_is (before ++ c ∷ []) cs known (eq ∙ sym (append_assoc before (c ∷ []) cs)) (rest_none before c cs h) (knows_more before known knows c known (λ m i. i) (λ m a b. absurd (cc))),
      )
  guard_is before (Equal left right pos ∷ cs) known eq h knows =
      let c = Equal left right pos in
      let there : Contains r.guard c = subst (λ l. Contains l c) (sym eq) (Contains-append_right before (c ∷ cs) c (here c cs)) in
      let wrong = or_none (in_head r.head left.name && not (is_of_head r.head right)) (is_bound r.head before left.name) (none_wrong before c cs h) in
      let uses : (u : CtxUse) → Contains (expression_items right) (used form.Typed u) → Used u = λ u d. in_rule c (used form.Typed u) there (behind (used form.Typed left) (expression_items right) (used form.Typed u) d) in
      let eq' = eq ∙ sym (append_assoc before (c ∷ []) cs) in
      equal_is left right known cs (in_head r.head left.name) refl (wrong.0) uses
      (in_rule c (used form.Typed left) there (here (used form.Typed left) (expression_items right)))
      (expr_uses before known knows right uses (none_unbound before c cs h))
      (λ inside. guard_is (before ++ c ∷ []) cs known eq' (rest_none before c cs h)
      (knows_more before known knows c known (λ m i. i) (λ m a b. absurd (never_both (in_head r.head m) (subst (λ l. in_head r.head l ≡ true) ((Decides-eqb left.name m).0 b) inside) a))))
      (guard_is (before ++ c ∷ []) cs (left.name ∷ known) eq' (rest_none before c cs h)
      (knows_more before known knows c (left.name ∷ known) (λ m i. inr i) (λ m a b. inl ((Decides-eqb left.name m).0 b))))
  guard_is before (Differ left right pos ∷ cs) known eq h knows =
      let c = Differ left right pos in
      let there : Contains r.guard c = subst (λ l. Contains l c) (sym eq) (Contains-append_right before (c ∷ cs) c (here c cs)) in
      let wrong = or_none (is_bound r.head before left.name) (is_bound r.head before right.name) (none_wrong before c cs h) in
      let f = no_places (use_of_none r.head before (used form.Typed left)) (use_of_none r.head before (used form.Typed right) ++ []) (none_unbound before c cs h) in
      let g = no_places (use_of_none r.head before (used form.Typed right)) [] f.1 in (
        (
          has_number left (in_rule c (used form.Typed left) there (here (used form.Typed left) (used form.Typed right ∷ []))) (not_bound_in_head before left f.0 wrong.0),
          has_number right (in_rule c (used form.Typed right) there (behind (used form.Typed left) (used form.Typed right ∷ []) (used form.Typed right) (here (used form.Typed right) []))) (not_bound_in_head before right g.0 wrong.1),
        ),
        guard_is (before ++ c ∷ []) cs known (eq ∙ sym (append_assoc before (c ∷ []) cs)) (rest_none before c cs h) (knows_more before known knows c known (λ m i. i) (λ m a b. absurd (cc))),
      )

  -- the guard of a rule in order, no code of which applies
  pub accepted_guard : NoneApplies (rows_of_conditions r.head [] r.guard) → IsGuard typed [] r.guard
  accepted_guard h = guard_is [] r.guard [] refl h (λ n e. nothing_bound n e)
