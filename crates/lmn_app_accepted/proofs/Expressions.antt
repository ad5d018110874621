-- What is used in an expression.
use Rattle.std.proofs.Common.{Box, Global, ℕ, zero, suc, ◌≡◌, ◌≤◌, ◌+◌, ◌⊎◌, inl, inr, ◌||◌, true, cond, List, [], ◌∷◌, ◌++◌, refl, sym, ap, subst, ◌∙◌, arith}
use Rattle.std.specs.Prelude.{ℤ}
use Rattle.std.specs.List.{flat_map}
use Rattle.std.proofs.lemmas.List.Concat.{flat_map-append}
use Rattle.lmn_base.specs.declared.guard.Arith.{Arith}
use Rattle.lmn_base.specs.declared.guard.Cond.{Cond}
use Rattle.lmn_base.specs.declared.guard.Expr.{Expr}
use Rattle.lmn_base.specs.declared.guard.Expr.TheVariants as expr
use Rattle.lmn_base.specs.declared.item.Form.{Form}
use Rattle.lmn_base.specs.declared.item.Form.TheVariants as form
use Rattle.lmn_base.specs.declared.item.FormedUse.{FormedUse}
use Rattle.lmn_base.specs.declared.item.Item.{Item}
use Rattle.lmn_base.specs.declared.item.Item.TheVariants as item
use Rattle.lmn_base.specs.declared.level.Level.{Level}
use Rattle.lmn_base.specs.Items.{expression_items}
use Rattle.lmn_base_walks.specs.RuleCodes.{is_untyped}
use Rattle.lmn_adequacy.specs.Accepted.{UsedIn, here_used, left_used, right_used}
use Rattle.lmn_congruence.specs.Rules as tree
use Rattle.lmn_congruence.specs.Translation.{expression_of}
use Rattle.lmn_guards.specs.GuardCodes.{in_head, is_bound, use_of_none}
use Rattle.lmn_guards.proofs.OrderLemmas.{none_offends, so_else}
use Rattle.lmn_reduction.proofs.Values.{number_tree, context_tree, operation_tree}
use Rattle.lmn_app_accepted.proofs.Listed.{how_often_here, some_of, alone, N}
use Rattle.lmn_linkcheck.proofs.LinkedLemmas.{how_often, how_often_both}
use Rattle.lmn_app_accepted.proofs.Items.{typed_name}
use Rattle.lmn_base.proofs.Common.{operation_items}
use Rattle.lmn_guards.proofs.WorkedGuards.{of_context as context_items, of_integer as number_items}

-- ---- tests

-- ---- uses

-- a name that an item uses in typed form
pub typed_is : (x : Item) (n : ℕ) → 1 ≤ how_often n (typed_name x) → (u : FormedUse) × (x ≡ item.Context u) × (u.form ≡ form.Typed) × (u.name ≡ n)
typed_is (item.Atom f p) n h = absurd (omega (arith, h))
typed_is (item.Context u) n h = by u.form refl h
  where
    by : (f : Form) → u.form ≡ f → 1 ≤ how_often n (cond (is_untyped f) [] (u.name ∷ [])) → (v : FormedUse) × (item.Context u ≡ item.Context v) × (v.form ≡ form.Typed) × (v.name ≡ n)
    by form.Bare e h = absurd (omega (arith, h))
    by form.Closed e h = absurd (omega (arith, h))
    by form.Typed e h = (u, refl, e, alone n u.name h)
typed_is (item.RuleContext u) n h = absurd (omega (arith, h))
typed_is (item.Rule k) n h = absurd (omega (arith, h))

module _ (head : Level) (before : List Cond) where
  -- where no use offends, each is of the head or bound
  pub use_known : (is : List Item) → flat_map (use_of_none head before) is ≡ [] → (n : ℕ) → 1 ≤ how_often n (flat_map typed_name is) → (in_head head n || is_bound head before n) ≡ true
  use_known is e n h =
      let found = some_of typed_name n is h in
      let u = typed_is found.0 n found.2 in
      let none = none_offends (use_of_none head before) is found.0 e found.1 in
      let here = subst (λ x. use_of_none head before x ≡ []) u.1 none in
      subst (λ m. (in_head head m || is_bound head before m) ≡ true) u.3 (so_else (in_head head u.0.name || is_bound head before u.0.name) u.0.pos here)

-- ---- expressions

-- the names of contexts in an expression
abbrev pub used_names : Expr → List ℕ
used_names e = flat_map typed_name (expression_items e)

-- those of an operation are those of both sides
pub operation_names : (op : Arith) (p : Box (Unit {0}) Global) (left : Expr) (q : Box (Unit {0}) Global) (right : Expr) → used_names (expr.Op' op p left q right) ≡ used_names left ++ used_names right
operation_names op p left q right = ap (flat_map typed_name) (operation_items op p left q right) ∙ flat_map-append typed_name (expression_items left) (expression_items right)

used_nothing : {p : tree.Name} {z : ℤ} → UsedIn p (tree.number z) → ⊥
used_nothing h = elim h [ ]

used_alone : {p q : tree.Name} → UsedIn p (tree.value_of q) → q ≡ p
used_alone here_used = refl

used_either : {p : tree.Name} {o : Arith} {e f : tree.Expression} → UsedIn p (tree.operation o e f) → UsedIn p e ⊎ UsedIn p f
used_either (left_used h) = inl h
used_either (right_used h) = inr h

module _ (names : List tree.Name) where
  -- the names that are used in an expression are those of its uses
  pub used_there : (e : Expr) (p : tree.Name) → UsedIn p (expression_of names e) → (n : ℕ) × (1 ≤ how_often n (used_names e)) × (N names n ≡ p)
  used_there (expr.Int z) p h = absurd (used_nothing (subst (UsedIn p) (number_tree names z) h))
  used_there (expr.Ctx u) p h =
      let same = used_alone (subst (UsedIn p) (context_tree names u) h) in
      let e = ap (λ is. how_often u.name (flat_map typed_name is)) (context_items u) in
      let f = how_often_here u.name [] in
      (u.name, omega (arith, e, f), same)
  used_there (expr.Op' op a l b r) p h =
      elim (used_either (subst (UsedIn p) (operation_tree names op a l b r) h)) [
        | inl k ↦ (let one = used_there l p k in
            let e = ap (how_often one.0) (operation_names op a l b r) in
            let f = how_often_both one.0 (used_names l) (used_names r) in
            let g = one.1 in
            (one.0, omega (arith, e, f, g), one.2))
        | inr k ↦ (let one = used_there r p k in
            let e = ap (how_often one.0) (operation_names op a l b r) in
            let f = how_often_both one.0 (used_names l) (used_names r) in
            let g = one.1 in
            (one.0, omega (arith, e, f, g), one.2))
      ]

  pub in_either : (n a b : ℕ) → n ≡ a + b → 1 ≤ n → (1 ≤ a) ⊎ (1 ≤ b)
  in_either n zero b e l = inr (omega (arith, e, l))
  in_either n (suc a) b e l = inl (omega arith)

  pub there_used : (e : Expr) (n : ℕ) → 1 ≤ how_often n (used_names e) → UsedIn (N names n) (expression_of names e)
  there_used (expr.Int z) n h = absurd (let e = ap (λ is. how_often n (flat_map typed_name is)) (number_items z) in omega (arith, e, h))
  there_used (expr.Ctx u) n h =
      let one = alone n u.name (subst (λ is. 1 ≤ how_often n (flat_map typed_name is)) (context_items u) h) in
      subst (UsedIn (N names n)) (sym (context_tree names u)) (subst (λ m. UsedIn (N names m) (tree.value_of (N names u.name))) one here_used)
  there_used (expr.Op' op a l b r) n h =
      let e = ap (how_often n) (operation_names op a l b r) ∙ how_often_both n (used_names l) (used_names r) in
      subst (UsedIn (N names n)) (sym (operation_tree names op a l b r))
      (elim (in_either (how_often n (used_names (expr.Op' op a l b r))) (how_often n (used_names l)) (how_often n (used_names r)) e h) [
        | inl k ↦ left_used (there_used l n k)
        | inr k ↦ right_used (there_used r n k)
      ])
