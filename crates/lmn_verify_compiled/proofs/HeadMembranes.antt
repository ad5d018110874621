-- Which membranes of a head have contexts: those with a closed one, and those whose open contexts stand in the body.
use Rattle.std.proofs.Common.{◌≡◌, ◌+◌, ◌==◌, ℕ, zero, suc, Bool, true, false, if◌then◌else◌, List, [], ◌∷◌, ◌++◌, length, inl, inr, refl, sym, ap, ◌∙◌, subst, arith}
use Rattle.std.specs.Prelude.{Some, slice_get}
use Rattle.std.specs.List.{list_any, AllByRecursion}
use Rattle.std.proofs.lemmas.Option.{same_Some}
use Rattle.std.proofs.lemmas.Bool.{eqb-true}
use Rattle.lmn_base.proofs.Lists.{get_front, all_append}
use Rattle.lmn_base.specs.declared.level.CtxUse.{CtxUse}
use Rattle.lmn_base.specs.declared.level.Level.{Level, out-Level}
use Rattle.lmn_guards.specs.declared.plan.TypeKind.{TypeKind}
use Rattle.lmn_solid_heads.specs.Heads.{HeadMembrane, membranes_of}
use Rattle.lmn_solid_heads.specs.Embeddings.{HasMembrane}
use Rattle.lmn_solid_heads.specs.Flattening.{leaf_items, has_some, items_of_head}
use Rattle.lmn_solid_heads.proofs.HeadTrees.{Head, Heads, head, no_head, head_and, head_at, sizes, flat_items, flat_membranes, items_flat}
use Rattle.lmn_congruence_splice.specs.Splice.{IsOneOf}
use Rattle.lmn_congruence_splice.proofs.Common.{in_append}
use Rattle.lmn_solid_bodies.specs.Flattening.{BodyNames, names_inside, membrane_named, context_membrane, body_items}
use Rattle.lmn_solid_bodies.specs.Rules.{rests}
use Rattle.lmn_solid_bodies.proofs.Contexts.{each_open, body_has}
use Rattle.lmn_solid_bodies.proofs.Numbered.{leaves_none}
use Rattle.lmn_compile_head.proofs.HeadLeaves.{all_membranes}
use Rattle.lmn_compile_body.proofs.HeadContexts.{untyped, heads_names, head_names, names_are, head_out, inner_of, membranes_append as both_membranes}

-- ---- lists

get_behind : (xs ys : List HeadMembrane) (j k : ℕ) (b : HeadMembrane) → j ≡ length xs + k → slice_get ys k ≡ Some b → slice_get (xs ++ ys) j ≡ Some b
get_behind [] ys j k b q e = let same : k ≡ j = omega (arith, q) in subst (λ n. slice_get ys n ≡ Some b) same e
get_behind (x ∷ xs) ys zero k b q e = absurd (omega (arith, q))
get_behind (x ∷ xs) ys (suc j) k b q e = get_behind xs ys j k b (omega (arith, q)) e

-- what holds of all holds of that with a number
at_number : (P : HeadMembrane → Type 0) (xs : List HeadMembrane) (k : ℕ) (x : HeadMembrane) → AllByRecursion P xs → slice_get xs k ≡ Some x → P x
at_number P [] k x h e = absurd (cc)
at_number P (y ∷ ys) zero x h e = subst P (same_Some y x e) h.0
at_number P (y ∷ ys) (suc k) x h e = at_number P ys k x h.1 e

-- a context of a membrane
of_inside : (next : ℕ) (cs : List CtxUse) (x n : ℕ) → IsOneOf (x, n) (names_inside next cs) → (n ≡ next) × (has_some cs ≡ true)
of_inside next [] x n i = absurd i
of_inside next (c ∷ cs) x n (inl e) = (sym (ap (λ (w : ℕ × ℕ). w.1) e), refl)
of_inside next (c ∷ cs) x n (inr i) = let w = of_inside next cs x n i in (w.0, refl)

closed_some : (cs : List CtxUse) → list_any (λ u. u.closed) cs ≡ true → has_some cs ≡ true
closed_some [] e = absurd (cc)
closed_some (c ∷ cs) e = refl

-- the membrane of a name that has one
named_some : (es : List (ℕ × ℕ)) (x i : ℕ) → membrane_named es x ≡ suc i → IsOneOf (x, suc i) es
named_some [] x i e = absurd (omega (arith, e))
named_some (f ∷ es) x i e = by (f.0 == x) refl e (named_some es x i)
  where
    by : (b : Bool) → (f.0 == x) ≡ b → (if b then f.1 else membrane_named es x) ≡ suc i → (membrane_named es x ≡ suc i → IsOneOf (x, suc i) es) → IsOneOf (x, suc i) (f ∷ es)
    by true s e later = let same = eqb-true f.0 x s in inl (λ t. (same t, e t))
    by false s e later = inr (later e)

-- ---- membranes

module _ (kind : ℕ → TypeKind) where
  -- one with a closed context has a context
  abbrev HasIfClosed : HeadMembrane → Type 0
  HasIfClosed b = b.has_closed_context ≡ true → b.has_context ≡ true

  all_have : (inside next : ℕ) (hs : Heads) → AllByRecursion HasIfClosed (membranes_of (flat_membranes kind inside next hs))
  all_have inside next no_head = tt
  all_have inside next (head_and (head leaves hs cs rcs rs) more) =
      let first = leaf_items kind next leaves ++ flat_membranes kind next (next + 1) hs in
      let rest = flat_membranes kind inside (next + 1 + sizes hs) more in (
        closed_some cs,
        subst (AllByRecursion HasIfClosed) (sym (both_membranes first rest))
            (all_append HasIfClosed (membranes_of first) (membranes_of rest) (subst (AllByRecursion HasIfClosed) (sym (leaves_none kind next leaves (flat_membranes kind next (next + 1) hs))) (all_have next (next + 1) hs))
            (all_have inside (next + 1 + sizes hs) more)),
      )

  -- and so has that of a name
  has_at : (inside next : ℕ) (hs : Heads) (x n : ℕ) → IsOneOf (x, n) (heads_names untyped next hs)
      → (j : ℕ) × (n ≡ next + j) × ((b : HeadMembrane) × (slice_get (membranes_of (flat_membranes kind inside next hs)) j ≡ Some b) × (b.has_context ≡ true))
  has_at inside next no_head x n i = absurd i
  has_at inside next (head_and (head leaves hs cs rcs rs) more) x n i =
      let first = leaf_items kind next leaves ++ flat_membranes kind next (next + 1) hs in
      let rest = flat_membranes kind inside (next + 1 + sizes hs) more in
      let many : length (membranes_of first) ≡ sizes hs = ap length (leaves_none kind next leaves (flat_membranes kind next (next + 1) hs)) ∙ all_membranes kind next (next + 1) hs in
      elim (in_append (x, n) (names_inside next cs ++ heads_names untyped (next + 1) hs) (heads_names untyped (next + 1 + sizes hs) more) i) [
        | inl j ↦ elim (in_append (x, n) (names_inside next cs) (heads_names untyped (next + 1) hs) j) [
          | inl k ↦ (let w = of_inside next cs x n k in
              let at : n ≡ next + 0 = (let q = w.0 in omega (arith, q)) in
              (0, at, (record { inside = inside; has_context = has_some cs; has_closed_context = list_any (λ u. u.closed) cs; has_rule_context = has_some rcs }, refl, w.1)))
          | inr k ↦ (let v = has_at next (next + 1) hs x n k in
              let at : n ≡ next + suc v.0 = (let q = v.1 in omega (arith, q)) in
              let got = ap (λ ms. slice_get ms v.0) (leaves_none kind next leaves (flat_membranes kind next (next + 1) hs)) ∙ v.2.1 in
              (suc v.0, at, (v.2.0, ap (λ ms. slice_get ms v.0) (both_membranes first rest) ∙ get_front (membranes_of first) (membranes_of rest) v.0 v.2.0 got, v.2.2)))
        ]
        | inr j ↦ (let v = has_at inside (next + 1 + sizes hs) more x n j in
            let at : n ≡ next + suc (sizes hs + v.0) = (let q = v.1 in omega (arith, q)) in
            let plus : sizes hs + v.0 ≡ length (membranes_of first) + v.0 = omega (arith, many) in
            (suc (sizes hs + v.0), at, (v.2.0, ap (λ ms. slice_get ms (sizes hs + v.0)) (both_membranes first rest) ∙ get_behind (membranes_of first) (membranes_of rest) (sizes hs + v.0) v.0 v.2.0 plus v.2.1, v.2.2)))
      ]

  membranes_are : (l : Level) → membranes_of (items_of_head kind l) ≡ membranes_of (flat_membranes kind 0 1 (inner_of l))
  membranes_are l = ap membranes_of (items_flat kind l ∙ ap (flat_items kind 0 1) (head_out l)) ∙ leaves_none kind 0 (out-Level l).leaves (flat_membranes kind 0 1 (inner_of l))

  -- A membrane of a head with a closed context has a context.
  pub closed_has : (l : Level) (k : ℕ) (b : HeadMembrane) → HasMembrane (items_of_head kind l) k b → b.has_closed_context ≡ true → b.has_context ≡ true
  closed_has l k b h = at_number HasIfClosed (membranes_of (flat_membranes kind 0 1 (inner_of l))) h.0 b (all_have 0 1 (inner_of l)) (ap (λ ms. slice_get ms h.0) (sym (membranes_are l)) ∙ h.2)

  -- And so has one whose open context stands in the body.
  pub rest_has : (s : BodyNames) (n : ℕ) (l body : Level) → ((x : ℕ) → s.context x ≡ context_membrane l x) → (k : ℕ) (b : HeadMembrane) → IsOneOf k (rests (body_items s n body)) → HasMembrane (items_of_head kind l) k b → b.has_context ≡ true
  rest_has s n l body names k b i h =
      let Named : ℕ → Bool → Type 0 = λ m closed. (x : ℕ) × (s.context x ≡ m) in
      let w = each_open Named (body_items s n body) (body_has s n Named body (λ u o. (u.name, refl))) k i in
      let entry = named_some (head_names untyped 0 1 (head_at l)) w.0 h.0 (ap (λ es. membrane_named es w.0) (sym (names_are untyped l)) ∙ sym (names w.0) ∙ w.1 ∙ h.1) in
      let inner = subst (λ (g : Head). IsOneOf (w.0, suc h.0) (head_names untyped 0 1 g)) (head_out l) entry in
      elim (in_append (w.0, suc h.0) (names_inside 0 (untyped (out-Level l).contexts (out-Level l).rule_contexts)) (heads_names untyped 1 (inner_of l)) inner) [
        | inl j ↦ (let v = of_inside 0 (untyped (out-Level l).contexts (out-Level l).rule_contexts) w.0 (suc h.0) j in let q = v.0 in absurd (omega (arith, q)))
        | inr j ↦ (let v = has_at 0 1 (inner_of l) w.0 (suc h.0) j in
            let q = v.1 in
            let same : v.0 ≡ h.0 = omega (arith, q) in
            let there = ap (λ ms. slice_get ms h.0) (sym (membranes_are l)) ∙ h.2 in
            let is : v.2.0 ≡ b = same_Some v.2.0 b (sym v.2.1 ∙ ap (slice_get (membranes_of (flat_membranes kind 0 1 (inner_of l)))) same ∙ there) in
            subst (λ (c : HeadMembrane). c.has_context ≡ true) is v.2.2)
      ]
