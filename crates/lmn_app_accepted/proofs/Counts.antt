-- How often contexts are used, by their names and forms, in an accepted rule.
use Rattle.std.proofs.Common.{ℕ, zero, suc, ◌≡◌, ◌≤◌, ◌+◌, ◌==◌, ◌⊎◌, inl, inr, ◌&&◌, Bool, true, false, cond, List, [], ◌∷◌, ◌++◌, length, Contains, refl, sym, ap, subst, ◌∙◌, arith}
use Rattle.std.specs.List.{flat_map, list_any}
use Rattle.std.proofs.lemmas.List.Concat.{flat_map-append}
use Rattle.lmn_base.specs.declared.item.Form.{Form}
use Rattle.lmn_base.specs.declared.item.Form.TheVariants as form
use Rattle.lmn_base.specs.declared.item.FormedUse.{FormedUse}
use Rattle.lmn_base.specs.declared.item.Item.{Item}
use Rattle.lmn_base.specs.declared.item.Item.TheVariants as item
use Rattle.lmn_base.specs.declared.level.CtxUse.{CtxUse}
use Rattle.lmn_base.specs.declared.refusal.Pos.{Pos}
use Rattle.lmn_base.specs.declared.rule.RuleTree.{RuleTree}
use Rattle.lmn_base.specs.Items.{items_of, guard_items, rule_items}
use Rattle.lmn_base_walks.specs.RuleCodes.{is_bare, is_untyped, bare_use, rule_use, is_left_of}
use Rattle.lmn_base.specs.Uses.{use_of, has_use, is_some_place}
use Rattle.lmn_guards.specs.Accepted.{IsInOrder}
use Rattle.lmn_guards.specs.GuardCodes.{in_head}
use Rattle.lmn_app_accepted.proofs.Listed.{some_of, alone}
use Rattle.lmn_linkcheck.proofs.LinkedLemmas.{how_often, how_often_both}
use Rattle.lmn_app_accepted.proofs.Items.{untyped_name, is_closed, closed_name, bare_name, typed_name, rule_context_name}
use Rattle.lmn_app_accepted.proofs.Expressions.{typed_is}
use Rattle.lmn_app_accepted.proofs.Types.{left_used_there}
use Rattle.lmn_base.proofs.Truth.{either_true as or_true}
use Rattle.lmn_guards.proofs.AcceptedLemmas.{at_least_one as some_length}

-- ---- counts

length_some : (ps : List Pos) → 1 ≤ length ps → is_some_place ps ≡ true
length_some [] l = absurd (omega (arith, l))
length_some (p ∷ ps) l = refl

-- the uses of a context, untyped and typed
pub use_count : (n : ℕ) (xs : List Item) → length (flat_map (use_of n) xs) ≡ how_often n (flat_map untyped_name xs) + how_often n (flat_map typed_name xs)
use_count n [] = refl
use_count n (item.Atom f p ∷ xs) = use_count n xs
use_count n (item.RuleContext u ∷ xs) = use_count n xs
use_count n (item.Rule k ∷ xs) = use_count n xs
use_count n (item.Context u ∷ xs) = by u.form (use_count n xs)
  where
    here : (b : Bool) → length (flat_map (use_of n) xs) ≡ how_often n (flat_map untyped_name xs) + how_often n (flat_map typed_name xs)
        → length (cond b (u.pos ∷ []) [] ++ flat_map (use_of n) xs) ≡ cond b (suc (how_often n (flat_map untyped_name xs))) (how_often n (flat_map untyped_name xs)) + how_often n (flat_map typed_name xs)
    here true h = omega (arith, h)
    here false h = h

    by : (f : Form) → length (flat_map (use_of n) xs) ≡ how_often n (flat_map untyped_name xs) + how_often n (flat_map typed_name xs)
        → length ((cond (u.name == n) (u.pos ∷ []) []) ++ flat_map (use_of n) xs)
        ≡ how_often n (cond (is_untyped f) (u.name ∷ []) [] ++ flat_map untyped_name xs) + how_often n (cond (is_untyped f) [] (u.name ∷ []) ++ flat_map typed_name xs)
    by form.Bare h = here (u.name == n) h
    by form.Closed h = here (u.name == n) h
    by form.Typed h = on (u.name == n)
      where
        on : (b : Bool) → length (cond b (u.pos ∷ []) [] ++ flat_map (use_of n) xs) ≡ how_often n (flat_map untyped_name xs) + cond b (suc (how_often n (flat_map typed_name xs))) (how_often n (flat_map typed_name xs))
        on true = omega (arith, h)
        on false = h

-- an untyped context is open or closed
pub untyped_count : (n : ℕ) (xs : List Item) → how_often n (flat_map untyped_name xs) ≡ how_often n (flat_map bare_name xs) + how_often n (flat_map closed_name xs)
untyped_count n [] = refl
untyped_count n (item.Atom f p ∷ xs) = untyped_count n xs
untyped_count n (item.RuleContext u ∷ xs) = untyped_count n xs
untyped_count n (item.Rule k ∷ xs) = untyped_count n xs
untyped_count n (item.Context u ∷ xs) = by u.form (untyped_count n xs)
  where
    by : (f : Form) → how_often n (flat_map untyped_name xs) ≡ how_often n (flat_map bare_name xs) + how_often n (flat_map closed_name xs)
        → how_often n (cond (is_untyped f) (u.name ∷ []) [] ++ flat_map untyped_name xs)
        ≡ how_often n (cond (is_bare f) (u.name ∷ []) [] ++ flat_map bare_name xs) + how_often n (cond (is_closed f) (u.name ∷ []) [] ++ flat_map closed_name xs)
    by form.Bare h = on (u.name == n)
      where
        on : (b : Bool) → cond b (suc (how_often n (flat_map untyped_name xs))) (how_often n (flat_map untyped_name xs)) ≡ cond b (suc (how_often n (flat_map bare_name xs))) (how_often n (flat_map bare_name xs)) + how_often n (flat_map closed_name xs)
        on true = omega (arith, h)
        on false = h
    by form.Closed h = on (u.name == n)
      where
        on : (b : Bool) → cond b (suc (how_often n (flat_map untyped_name xs))) (how_often n (flat_map untyped_name xs)) ≡ how_often n (flat_map bare_name xs) + cond b (suc (how_often n (flat_map closed_name xs))) (how_often n (flat_map closed_name xs))
        on true = omega (arith, h)
        on false = h
    by form.Typed h = h

-- an open context is used as often as its name stands among those
pub bare_count : (n : ℕ) (xs : List Item) → length (flat_map (bare_use n) xs) ≡ how_often n (flat_map bare_name xs)
bare_count n [] = refl
bare_count n (item.Atom f p ∷ xs) = bare_count n xs
bare_count n (item.RuleContext u ∷ xs) = bare_count n xs
bare_count n (item.Rule k ∷ xs) = bare_count n xs
bare_count n (item.Context u ∷ xs) = by u.form (bare_count n xs)
  where
    none : (b : Bool) → length (flat_map (bare_use n) xs) ≡ how_often n (flat_map bare_name xs)
        → length (cond (b && false) (u.pos ∷ []) [] ++ flat_map (bare_use n) xs) ≡ how_often n (flat_map bare_name xs)
    none true h = h
    none false h = h

    by : (f : Form) → length (flat_map (bare_use n) xs) ≡ how_often n (flat_map bare_name xs)
        → length (cond ((u.name == n) && is_bare f) (u.pos ∷ []) [] ++ flat_map (bare_use n) xs) ≡ how_often n (cond (is_bare f) (u.name ∷ []) [] ++ flat_map bare_name xs)
    by form.Bare h = on (u.name == n)
      where
        on : (b : Bool) → length (cond (b && true) (u.pos ∷ []) [] ++ flat_map (bare_use n) xs) ≡ cond b (suc (how_often n (flat_map bare_name xs))) (how_often n (flat_map bare_name xs))
        on true = ap suc h
        on false = h
    by form.Closed h = none (u.name == n) h
    by form.Typed h = none (u.name == n) h

-- and so a rule context
pub rule_count : (n : ℕ) (xs : List Item) → length (flat_map (rule_use n) xs) ≡ how_often n (flat_map rule_context_name xs)
rule_count n [] = refl
rule_count n (item.Atom f p ∷ xs) = rule_count n xs
rule_count n (item.Context u ∷ xs) = rule_count n xs
rule_count n (item.Rule k ∷ xs) = rule_count n xs
rule_count n (item.RuleContext u ∷ xs) = on (u.name == n) (rule_count n xs)
  where
    on : (b : Bool) → length (flat_map (rule_use n) xs) ≡ how_often n (flat_map rule_context_name xs)
        → length (cond b (u.pos ∷ []) [] ++ flat_map (rule_use n) xs) ≡ cond b (suc (how_often n (flat_map rule_context_name xs))) (how_often n (flat_map rule_context_name xs))
    on true h = ap suc h
    on false h = h

-- ---- items that use a name

-- an item with such a name is such a use
pub bare_is : (x : Item) (n : ℕ) → 1 ≤ how_often n (bare_name x) → (u : FormedUse) × (x ≡ item.Context u) × (u.form ≡ form.Bare) × (u.name ≡ n)
bare_is (item.Atom f p) n h = absurd (omega (arith, h))
bare_is (item.Context u) n h = by u.form refl h
  where
    by : (f : Form) → u.form ≡ f → 1 ≤ how_often n (cond (is_bare f) (u.name ∷ []) []) → (v : FormedUse) × (item.Context u ≡ item.Context v) × (v.form ≡ form.Bare) × (v.name ≡ n)
    by form.Bare e h = (u, refl, e, alone n u.name h)
    by form.Closed e h = absurd (omega (arith, h))
    by form.Typed e h = absurd (omega (arith, h))
bare_is (item.RuleContext u) n h = absurd (omega (arith, h))
bare_is (item.Rule k) n h = absurd (omega (arith, h))

pub closed_is : (x : Item) (n : ℕ) → 1 ≤ how_often n (closed_name x) → (u : FormedUse) × (x ≡ item.Context u) × (u.form ≡ form.Closed) × (u.name ≡ n)
closed_is (item.Atom f p) n h = absurd (omega (arith, h))
closed_is (item.Context u) n h = by u.form refl h
  where
    by : (f : Form) → u.form ≡ f → 1 ≤ how_often n (cond (is_closed f) (u.name ∷ []) []) → (v : FormedUse) × (item.Context u ≡ item.Context v) × (v.form ≡ form.Closed) × (v.name ≡ n)
    by form.Bare e h = absurd (omega (arith, h))
    by form.Closed e h = (u, refl, e, alone n u.name h)
    by form.Typed e h = absurd (omega (arith, h))
closed_is (item.RuleContext u) n h = absurd (omega (arith, h))
closed_is (item.Rule k) n h = absurd (omega (arith, h))

rule_context_is : (x : Item) (n : ℕ) → 1 ≤ how_often n (rule_context_name x) → (u : CtxUse) × (x ≡ item.RuleContext u) × (u.name ≡ n)
rule_context_is (item.Atom f p) n h = absurd (omega (arith, h))
rule_context_is (item.Context u) n h = absurd (omega (arith, h))
rule_context_is (item.RuleContext u) n h = (u, refl, alone n u.name h)
rule_context_is (item.Rule k) n h = absurd (omega (arith, h))

abbrev Uses : List Item → (FormedUse → Type 0) → Type 0
Uses xs P = (u : FormedUse) × Contains xs (item.Context u) × P u

-- so a name that stands there has a use
pub some_bare : (n : ℕ) (xs : List Item) → 1 ≤ how_often n (flat_map bare_name xs) → Uses xs (λ u. (u.form ≡ form.Bare) × (u.name ≡ n))
some_bare n xs h =
    let found = some_of bare_name n xs h in
    let u = bare_is found.0 n found.2 in
    (u.0, subst (Contains xs) u.1 found.1, (u.2, u.3))

-- and so for closed contexts
pub some_closed : (n : ℕ) (xs : List Item) → 1 ≤ how_often n (flat_map closed_name xs) → Uses xs (λ u. (u.form ≡ form.Closed) × (u.name ≡ n))
some_closed n xs h =
    let found = some_of closed_name n xs h in
    let u = closed_is found.0 n found.2 in
    (u.0, subst (Contains xs) u.1 found.1, (u.2, u.3))

-- and for typed contexts
pub some_typed : (n : ℕ) (xs : List Item) → 1 ≤ how_often n (flat_map typed_name xs) → Uses xs (λ u. (u.form ≡ form.Typed) × (u.name ≡ n))
some_typed n xs h =
    let found = some_of typed_name n xs h in
    let u = typed_is found.0 n found.2 in
    (u.0, subst (Contains xs) u.1 found.1, (u.2, u.3))

-- and for rule contexts
pub some_rule_context : (n : ℕ) (xs : List Item) → 1 ≤ how_often n (flat_map rule_context_name xs) → (u : CtxUse) × Contains xs (item.RuleContext u) × (u.name ≡ n)
some_rule_context n xs h =
    let found = some_of rule_context_name n xs h in
    let u = rule_context_is found.0 n found.2 in
    (u.0, subst (Contains xs) u.1 found.1, u.2)

-- ---- an accepted rule

module _ (table : List RuleTree) (r : RuleTree) (order : IsInOrder table r) where
  abbrev pub bare_in : List Item → ℕ → ℕ
  bare_in xs n = how_often n (flat_map bare_name xs)

  abbrev pub typed_in : List Item → ℕ → ℕ
  typed_in xs n = how_often n (flat_map typed_name xs)

  in_three : (f : Item → List ℕ) (n : ℕ) → how_often n (flat_map f (rule_items r)) ≡ how_often n (flat_map f (items_of r.head)) + (how_often n (flat_map f (guard_items r.guard)) + how_often n (flat_map f (items_of r.body)))
  in_three f n =
      let e = ap (how_often n) (flat_map-append f (items_of r.head) (guard_items r.guard ++ items_of r.body) ∙ ap (λ xs. flat_map f (items_of r.head) ++ xs) (flat_map-append f (guard_items r.guard) (items_of r.body))) in
      let g = how_often_both n (flat_map f (items_of r.head)) (flat_map f (guard_items r.guard) ++ flat_map f (items_of r.body)) in
      let h = how_often_both n (flat_map f (guard_items r.guard)) (flat_map f (items_of r.body)) in
      omega (arith, e, g, h)

  abbrev pub closed_in : List Item → ℕ → ℕ
  closed_in xs n = how_often n (flat_map closed_name xs)

  abbrev pub untyped_in : List Item → ℕ → ℕ
  untyped_in xs n = how_often n (flat_map untyped_name xs)

  -- a context is used in one form
  two_forms : {f g : Form} (n : ℕ) → Uses (rule_items r) (λ u. (u.form ≡ f) × (u.name ≡ n)) → Uses (rule_items r) (λ u. (u.form ≡ g) × (u.name ≡ n)) → f ≡ g
  two_forms n u v = sym u.2.0 ∙ (order.one_form u.0 v.0 u.1 v.1 (u.2.1 ∙ sym v.2.1) ∙ v.2.0)

  everywhere : (f : Item → List ℕ) (n : ℕ) → 1 ≤ how_often n (flat_map f (items_of r.head)) + (how_often n (flat_map f (guard_items r.guard)) + how_often n (flat_map f (items_of r.body)))
      → 1 ≤ how_often n (flat_map f (rule_items r))
  everywhere f n h = let e = in_three f n in omega (arith, e, h)

  -- not bare in one place and typed in another
  apart : (n : ℕ) → 1 ≤ bare_in (items_of r.head) n + bare_in (items_of r.body) n → 1 ≤ typed_in (items_of r.head) n + (typed_in (guard_items r.guard) n + typed_in (items_of r.body) n) → ⊥
  apart n b t =
      let clash : form.Bare ≡ form.Typed = two_forms n (some_bare n (rule_items r) (everywhere bare_name n (omega (arith, b)))) (some_typed n (rule_items r) (everywhere typed_name n t)) in
      cc

  -- nor closed in the other
  bare_or_closed : (n : ℕ) → 1 ≤ bare_in (items_of r.head) n + bare_in (items_of r.body) n → 1 ≤ closed_in (items_of r.head) n + closed_in (items_of r.body) n → ⊥
  bare_or_closed n b c =
      let clash : form.Bare ≡ form.Closed = two_forms n (some_bare n (rule_items r) (everywhere bare_name n (omega (arith, b)))) (some_closed n (rule_items r) (everywhere closed_name n (omega (arith, c)))) in
      cc

  closed_apart : (n : ℕ) → 1 ≤ closed_in (items_of r.head) n + closed_in (items_of r.body) n → 1 ≤ typed_in (items_of r.head) n + (typed_in (guard_items r.guard) n + typed_in (items_of r.body) n) → ⊥
  closed_apart n c t =
      let clash : form.Closed ≡ form.Typed = two_forms n (some_closed n (rule_items r) (everywhere closed_name n (omega (arith, c)))) (some_typed n (rule_items r) (everywhere typed_name n t)) in
      cc

  -- what stands in the head
  pub in_head_counts : (n : ℕ) → in_head r.head n ≡ true → 1 ≤ (bare_in (items_of r.head) n + closed_in (items_of r.head) n) + typed_in (items_of r.head) n
  in_head_counts n e =
      let l = some_length (flat_map (use_of n) (items_of r.head)) e in
      let c = use_count n (items_of r.head) in
      let u = untyped_count n (items_of r.head) in
      omega (arith, l, c, u)

  pub typed_in_head : (n : ℕ) → 1 ≤ typed_in (items_of r.head) n → in_head r.head n ≡ true
  typed_in_head n l = length_some (flat_map (use_of n) (items_of r.head)) (let c = use_count n (items_of r.head) in omega (arith, l, c))

  pub once_in_head : (n : ℕ) → untyped_in (items_of r.head) n + typed_in (items_of r.head) n ≤ 1
  once_in_head n = let l = order.once_in_head n in let c = use_count n (items_of r.head) in omega (arith, l, c)

  pub rule_context_once : (n : ℕ) → how_often n (flat_map rule_context_name (items_of r.head)) ≤ 1
  rule_context_once n = let l = order.rule_context_once_in_head n in let c = rule_count n (items_of r.head) in omega (arith, l, c)

  -- a context of the guard that stands in the head is typed there
  pub guard_typed : (n : ℕ) → 1 ≤ typed_in (guard_items r.guard) n → in_head r.head n ≡ true → 1 ≤ typed_in (items_of r.head) n
  guard_typed n g e = by (typed_in (items_of r.head) n) refl
    where
      by : (m : ℕ) → typed_in (items_of r.head) n ≡ m → 1 ≤ m
      by (suc m) q = omega arith
      by zero q = absurd (untyped (bare_in (items_of r.head) n) refl)
        where
          untyped : (k : ℕ) → bare_in (items_of r.head) n ≡ k → ⊥
          untyped (suc k) b = apart n (omega (arith, b)) (omega (arith, g))
          untyped zero b = let l = in_head_counts n e in closed_apart n (omega (arith, l, q, b)) (omega (arith, g))

  -- what a context of the body is
  body_known : (u : FormedUse) → Contains (items_of r.body) (item.Context u) → (1 ≤ (bare_in (items_of r.head) u.name + closed_in (items_of r.head) u.name) + typed_in (items_of r.head) u.name) ⊎ (list_any (is_left_of u.name) r.guard ≡ true)
  body_known u c = elim (or_true (has_use u.name (items_of r.head)) (list_any (is_left_of u.name) r.guard) (order.of_the_head u c)) [
    | inl h ↦ inl (in_head_counts u.name h)
    | inr h ↦ inr h
  ]

  -- open contexts stand in the body as often as in the head
  pub kept : (n : ℕ) → bare_in (items_of r.head) n ≡ bare_in (items_of r.body) n
  kept n = by (bare_in (items_of r.head) n) refl
    where
      once : (m : ℕ) → bare_in (items_of r.head) n ≡ suc m → bare_in (items_of r.body) n ≡ 1
      once m e =
          let u = some_bare n (items_of r.head) (omega (arith, e)) in
          let one = order.once_in_body u.0 u.1 u.2.0 in
          let c = bare_count u.0.name (items_of r.body) in
          subst (λ k. bare_in (items_of r.body) k ≡ 1) u.2.1 (sym c ∙ one)

      not_bare : bare_in (items_of r.head) n ≡ 0 → 1 ≤ bare_in (items_of r.body) n
          → 1 ≤ (bare_in (items_of r.head) n + closed_in (items_of r.head) n) + typed_in (items_of r.head) n → (k : ℕ) → closed_in (items_of r.head) n ≡ k → ⊥
      not_bare e b h (suc k) c = bare_or_closed n (omega (arith, b)) (omega (arith, c))
      not_bare e b h zero c = apart n (omega (arith, b)) (omega (arith, h, e, c))

      none : bare_in (items_of r.head) n ≡ 0 → (m : ℕ) → bare_in (items_of r.body) n ≡ m → m ≡ 0
      none e zero q = refl
      none e (suc m) q = absurd (
          let u = some_bare n (items_of r.body) (omega (arith, q)) in
          let known = subst (λ k. (1 ≤ (bare_in (items_of r.head) k + closed_in (items_of r.head) k) + typed_in (items_of r.head) k) ⊎ (list_any (is_left_of k) r.guard ≡ true)) u.2.1 (body_known u.0 u.1) in
          let other : 1 ≤ (bare_in (items_of r.head) n + closed_in (items_of r.head) n) + typed_in (items_of r.head) n → (k : ℕ) → closed_in (items_of r.head) n ≡ k → ⊥ = not_bare e (omega (arith, q)) in
          elim known [
            | inl h ↦ other h (closed_in (items_of r.head) n) refl
            | inr h ↦ (let g = left_used_there [] n r.guard h in apart n (omega (arith, q)) (omega (arith, g)))
          ]
          )

      by : (m : ℕ) → bare_in (items_of r.head) n ≡ m → m ≡ bare_in (items_of r.body) n
      by zero e = sym (none e (bare_in (items_of r.body) n) refl)
      by (suc m) e = let one = once m e in let few = once_in_head n in let u = untyped_count n (items_of r.head) in omega (arith, one, few, e, u)

  -- a closed context of the body is closed in the head
  pub closed_known : (n : ℕ) → 1 ≤ closed_in (items_of r.body) n → 1 ≤ closed_in (items_of r.head) n
  closed_known n h =
      let u = some_closed n (items_of r.body) h in
      let known = subst (λ k. (1 ≤ (bare_in (items_of r.head) k + closed_in (items_of r.head) k) + typed_in (items_of r.head) k) ⊎ (list_any (is_left_of k) r.guard ≡ true)) u.2.1 (body_known u.0 u.1) in
      elim known [
        | inl k ↦ by k (bare_in (items_of r.head) n) refl (typed_in (items_of r.head) n) refl
        | inr k ↦ absurd (let g = left_used_there [] n r.guard k in closed_apart n (omega (arith, h)) (omega (arith, g)))
      ]
    where
      by : 1 ≤ (bare_in (items_of r.head) n + closed_in (items_of r.head) n) + typed_in (items_of r.head) n → (b : ℕ) → bare_in (items_of r.head) n ≡ b → (t : ℕ) → typed_in (items_of r.head) n ≡ t
          → 1 ≤ closed_in (items_of r.head) n
      by k (suc b) e t f = absurd (bare_or_closed n (omega (arith, e)) (omega (arith, h)))
      by k zero e (suc t) f = absurd (closed_apart n (omega (arith, h)) (omega (arith, f)))
      by k zero e zero f = omega (arith, k, e, f)

  -- a typed context of the body is typed in the head, or bound
  pub typed_known : (n : ℕ) → 1 ≤ typed_in (items_of r.body) n → (1 ≤ typed_in (items_of r.head) n) ⊎ (list_any (is_left_of n) r.guard ≡ true)
  typed_known n h =
      let u = some_typed n (items_of r.body) h in
      let known = subst (λ k. (1 ≤ (bare_in (items_of r.head) k + closed_in (items_of r.head) k) + typed_in (items_of r.head) k) ⊎ (list_any (is_left_of k) r.guard ≡ true)) u.2.1 (body_known u.0 u.1) in
      elim known [
        | inl k ↦ inl (by k (typed_in (items_of r.head) n) refl)
        | inr k ↦ inr k
      ]
    where
      by : 1 ≤ (bare_in (items_of r.head) n + closed_in (items_of r.head) n) + typed_in (items_of r.head) n → (m : ℕ) → typed_in (items_of r.head) n ≡ m → 1 ≤ m
      by k (suc m) e = omega arith
      by k zero e = absurd (untyped (bare_in (items_of r.head) n) refl)
        where
          untyped : (m : ℕ) → bare_in (items_of r.head) n ≡ m → ⊥
          untyped (suc m) b = apart n (omega (arith, b)) (omega (arith, h))
          untyped zero b = closed_apart n (omega (arith, k, e, b)) (omega (arith, h))

  -- a rule context of the body stands in the head
  pub rule_context_known : (n : ℕ) → 1 ≤ how_often n (flat_map rule_context_name (items_of r.body)) → 1 ≤ how_often n (flat_map rule_context_name (items_of r.head))
  rule_context_known n h =
      let u = some_rule_context n (items_of r.body) h in
      let there = some_length (flat_map (rule_use u.0.name) (items_of r.head)) (order.rule_context_of_the_head u.0 u.1) in
      let c = rule_count u.0.name (items_of r.head) in
      subst (λ k. 1 ≤ how_often k (flat_map rule_context_name (items_of r.head))) u.2 (omega (arith, there, c))
