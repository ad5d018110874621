-- The guard of an accepted rule gives types to contexts, and binds its left sides.
use Rattle.std.proofs.Common.{ℕ, suc, ◌≡◌, ◌≤◌, ◌==◌, inl, inr, ◌&&◌, ◌||◌, not, Bool, true, false, cond, List, [], ◌∷◌, ◌++◌, map, length, Some, None, IsSome, refl, sym, ap, subst, ◌∙◌, arith}
use Rattle.std.specs.Prelude.{if◌then◌else◌}
use Rattle.std.specs.List.{AllByRecursion, flat_map, list_any}
use Rattle.std.proofs.lemmas.Bool.{eqb-true}
use Rattle.std.proofs.lemmas.List.Concat.{flat_map-append}
use Rattle.lmn_base.specs.declared.functor.TheConstants.{INT_NAME, UNARY_NAME, GROUND_NAME}
use Rattle.lmn_base.specs.declared.guard.Cond.{Cond}
use Rattle.lmn_base.specs.declared.guard.Cond.TheVariants.{Kind, Compare, Equal, Differ}
use Rattle.lmn_base.specs.declared.guard.Expr.{Expr}
use Rattle.lmn_base.specs.declared.guard.Expr.TheVariants as expr
use Rattle.lmn_base.specs.declared.item.Form.TheVariants as form
use Rattle.lmn_base.specs.declared.item.Item.{Item}
use Rattle.lmn_base.specs.declared.level.CtxUse.{CtxUse}
use Rattle.lmn_base.specs.declared.level.Level.{Level}
use Rattle.lmn_base.specs.Firsts.{NoneApplies}
use Rattle.lmn_base.specs.Items.{used, expression_items, condition_items, guard_items}
use Rattle.lmn_base_walks.specs.RuleCodes.{is_left_of}
use Rattle.lmn_base.specs.Uses.{use_of, has_use, is_some_place}
use Rattle.lmn_adequacy.specs.Accepted.{UsedIn, GivesType, by_kind, by_left, by_right, by_value, by_equality, by_difference_left, by_difference_right, left_sides}
use Rattle.lmn_congruence.specs.Orders.{Among, at_head, further}
use Rattle.lmn_congruence.specs.Rules as tree
use Rattle.lmn_congruence.specs.Translation.{expression_of, kind_of, condition_of}
use Rattle.lmn_guards.specs.declared.plan.TypeKind.{TypeKind}
use Rattle.lmn_guards.specs.declared.plan.TypeKind.TheVariants as kind
use Rattle.lmn_guards.specs.GuardCodes.{in_head, is_type, unknown, asks, type_of, type_name, rows_of_conditions}
use Rattle.lmn_guards.proofs.OrderLemmas.{so_else}
use Rattle.lmn_app_accepted.proofs.Listed.{alone, N}
use Rattle.lmn_linkcheck.proofs.LinkedLemmas.{how_often, how_often_both}
use Rattle.lmn_app_accepted.proofs.Items.{typed_name}
use Rattle.lmn_app_accepted.proofs.Expressions.{used_names, in_either, there_used}
use Rattle.lmn_app_accepted.proofs.InTurns.{rows_apart, kind_tree}
use Rattle.lmn_base.proofs.Common.{operation_items}
use Rattle.lmn_base.proofs.Lists.{all_append}
use Rattle.lmn_base.proofs.Truth.{and_true as both_true, either_true as or_true}
use Rattle.lmn_guards.proofs.WorkedGuards.{of_context as context_items, of_integer as number_items}

-- ---- types and left sides

-- a use of a name, in a list where each use has a typed form
abbrev pub AllTyped : List Item → Type 0
AllTyped xs = AllByRecursion (λ x. (u : CtxUse) × (x ≡ used form.Typed u)) xs

pub typed_use_there : (n : ℕ) (xs : List Item) → AllTyped xs → has_use n xs ≡ true → 1 ≤ how_often n (flat_map typed_name xs)
typed_use_there n [] h e = absurd (cc)
typed_use_there n (x ∷ xs) h e =
    let u = h.0 in
    let P : Item → Type 0 = λ y. 1 ≤ how_often n (flat_map typed_name (y ∷ xs)) in
    subst P (sym u.1) (by u.0 (subst (λ y. is_some_place (flat_map (use_of n) (y ∷ xs)) ≡ true) u.1 e) (typed_use_there n xs h.1))
  where
    by : (u : CtxUse) → is_some_place ((if u.name == n then u.pos ∷ [] else []) ++ flat_map (use_of n) xs) ≡ true → (has_use n xs ≡ true → 1 ≤ how_often n (flat_map typed_name xs)) → 1 ≤ cond (u.name == n) (suc (how_often n (flat_map typed_name xs))) (how_often n (flat_map typed_name xs))
    by u e rest = on (u.name == n) e
      where
        on : (b : Bool) → is_some_place ((if b then u.pos ∷ [] else []) ++ flat_map (use_of n) xs) ≡ true → 1 ≤ cond b (suc (how_often n (flat_map typed_name xs))) (how_often n (flat_map typed_name xs))
        on true e = omega arith
        on false e = rest e

args_typed : (us : List CtxUse) → AllTyped (map (used form.Typed) us)
args_typed [] = tt
args_typed (u ∷ us) = ((u, refl), args_typed us)

expression_typed : (e : Expr) → AllTyped (expression_items e)
expression_typed (expr.Int z) = let P : List Item → Type 0 = AllTyped in subst P (sym (number_items z)) tt
expression_typed (expr.Ctx u) = let P : List Item → Type 0 = AllTyped in subst P (sym (context_items u)) ((u, refl), tt)
expression_typed (expr.Op' op a l b r) =
    let P : List Item → Type 0 = AllTyped in
    subst P (sym (operation_items op a l b r)) (all_append (λ x. (u : CtxUse) × (x ≡ used form.Typed u)) (expression_items l) (expression_items r) (expression_typed l) (expression_typed r))

-- each use in a condition is a typed one
pub condition_typed : (c : Cond) → AllTyped (condition_items c)
condition_typed (Kind n args pos) = args_typed args
condition_typed (Compare op l r pos) = all_append (λ x. (u : CtxUse) × (x ≡ used form.Typed u)) (expression_items l) (expression_items r) (expression_typed l) (expression_typed r)
condition_typed (Equal u r pos) = ((u, refl), expression_typed r)
condition_typed (Differ u v pos) = ((u, refl), ((v, refl), tt))

module _ (names : List tree.Name) (head : Level) (n : ℕ) where
  used_expression : (e : Expr) → has_use n (expression_items e) ≡ true → UsedIn (N names n) (expression_of names e)
  used_expression e h = there_used names e n (typed_use_there n (expression_items e) (expression_typed e) h)

  -- a condition that asks a type of a name gives it one
  gives : (k : TypeKind) (c : Cond) → unknown c ≡ [] → asks head k n c ≡ true → GivesType (N names n) (condition_of names c)
  gives k (Kind m args pos) none e = by args (both_true (is_type m) (length args == 1) (so_else (is_type m && (length args == 1)) pos none)) (both_true (m == type_name k) (has_use n (map (used form.Typed) args)) e).1
    where
      by : (us : List CtxUse) → (is_type m ≡ true) × ((length us == 1) ≡ true) → has_use n (map (used form.Typed) us) ≡ true → GivesType (N names n) (kind_of names m us)
      by [] w h = absurd (cc)
      by (u ∷ (v ∷ us)) w h = absurd (let l = eqb-true (length (u ∷ (v ∷ us))) 1 w.1 in omega (arith, l))
      by (u ∷ []) w h =
          let one = alone n u.name (typed_use_there n (used form.Typed u ∷ []) ((u, refl), tt) h) in
          let t = kind_tree names m u w.0 in
          subst (GivesType (N names n)) (sym t.1) (subst (λ x. GivesType (N names x) (tree.is_kind t.0 (N names u.name))) one by_kind)
  gives kind.Int (Compare op l r pos) none e =
      let h = typed_use_there n (expression_items l ++ expression_items r) (condition_typed (Compare op l r pos)) e in
      let both = ap (how_often n) (flat_map-append typed_name (expression_items l) (expression_items r)) ∙ how_often_both n (used_names l) (used_names r) in
      elim (in_either names (how_often n (flat_map typed_name (expression_items l ++ expression_items r))) (how_often n (used_names l)) (how_often n (used_names r)) both h) [
        | inl k ↦ by_left (there_used names l n k)
        | inr k ↦ by_right (there_used names r n k)
      ]
  gives kind.Unary (Compare op l r pos) none e = absurd (cc)
  gives kind.Ground (Compare op l r pos) none e = absurd (cc)
  gives kind.Int (Equal u r pos) none e = by_value (used_expression r (both_true (not (in_head head u.name)) (has_use n (expression_items r)) e).1)
  gives kind.Unary (Equal u r pos) none e = absurd (cc)
  gives kind.Ground (Equal u r pos) none e = by (u.name == n) refl (typed_use_there n (used form.Typed u ∷ expression_items r) (condition_typed (Equal u r pos)) (both_true (in_head head u.name) (has_use n (condition_items (Equal u r pos))) e).1)
    where
      by : (b : Bool) → (u.name == n) ≡ b → 1 ≤ cond b (suc (how_often n (used_names r))) (how_often n (used_names r)) → GivesType (N names n) (tree.equates (N names u.name) (expression_of names r))
      by true q h = subst (λ x. GivesType (N names x) (tree.equates (N names u.name) (expression_of names r))) (eqb-true u.name n q) by_equality
      by false q h = by_value (there_used names r n h)
  gives kind.Int (Differ u v pos) none e = absurd (cc)
  gives kind.Unary (Differ u v pos) none e = absurd (cc)
  gives kind.Ground (Differ u v pos) none e = by (u.name == n) refl (typed_use_there n (used form.Typed u ∷ used form.Typed v ∷ []) (condition_typed (Differ u v pos)) e)
    where
      by : (b : Bool) → (u.name == n) ≡ b → 1 ≤ cond b (suc (how_often n (v.name ∷ []))) (how_often n (v.name ∷ [])) → GivesType (N names n) (tree.differs (N names u.name) (N names v.name))
      by true q h = subst (λ x. GivesType (N names x) (tree.differs (N names u.name) (N names v.name))) (eqb-true u.name n q) by_difference_left
      by false q h = subst (λ x. GivesType (N names x) (tree.differs (N names u.name) (N names v.name))) (alone n v.name h) by_difference_right

  some_gives : (k : TypeKind) (before cs : List Cond) → NoneApplies (rows_of_conditions head before cs) → list_any (asks head k n) cs ≡ true → (c : tree.Condition) × Among c (map (condition_of names) cs) × GivesType (N names n) c
  some_gives k before [] rows e = absurd (cc)
  some_gives k before (c ∷ cs) rows e =
      let r = rows_apart head before c cs rows in
      elim (or_true (asks head k n c) (list_any (asks head k n) cs) e) [
        | inl h ↦ (condition_of names c, at_head, gives k c r.0 h)
        | inr h ↦ (let rest = some_gives k (before ++ c ∷ []) cs r.3 h in (rest.0, further rest.1, rest.2))
      ]

  -- a name that has a type gets it from a condition
  pub type_given : (cs : List Cond) → NoneApplies (rows_of_conditions head [] cs) → IsSome (type_of head cs n) → (c : tree.Condition) × Among c (map (condition_of names) cs) × GivesType (N names n) c
  type_given cs rows s = by (list_any (asks head kind.Int n) cs) refl (list_any (asks head kind.Unary n) cs) refl (list_any (asks head kind.Ground n) cs) refl s
    where
      by : (a : Bool) → list_any (asks head kind.Int n) cs ≡ a → (b : Bool) → list_any (asks head kind.Unary n) cs ≡ b → (d : Bool) → list_any (asks head kind.Ground n) cs ≡ d
          → IsSome (if a then Some kind.Int else if b then Some kind.Unary else if d then Some kind.Ground else None) → (c : tree.Condition) × Among c (map (condition_of names) cs) × GivesType (N names n) c
      by true e b f d g s = some_gives kind.Int [] cs rows e
      by false e true f d g s = some_gives kind.Unary [] cs rows f
      by false e false f true g s = some_gives kind.Ground [] cs rows g
      by false e false f false g s = absurd (cc)

-- the left sides of a guard
module _ (names : List tree.Name) (n : ℕ) where
  kind_skipped : (m : ℕ) (us : List CtxUse) (cs : List tree.Condition) → left_sides (kind_of names m us ∷ cs) ≡ left_sides cs
  kind_skipped m [] cs = refl
  kind_skipped m (u ∷ (v ∷ us)) cs = refl
  kind_skipped m (u ∷ []) cs = by (m == INT_NAME) (m == UNARY_NAME) (m == GROUND_NAME)
    where
      by : (a b c : Bool)
          → left_sides ((if a then tree.is_kind tree.int (N names u.name) else if b then tree.is_kind tree.unary (N names u.name) else if c then tree.is_kind tree.grounded (N names u.name) else tree.unknown (N names m) (N names u.name ∷ [])) ∷ cs) ≡ left_sides cs
      by true b c = refl
      by false true c = refl
      by false false true = refl
      by false false false = refl

  pub left_among : (cs : List Cond) → list_any (is_left_of n) cs ≡ true → Among (N names n) (left_sides (map (condition_of names) cs))
  left_among [] e = absurd (cc)
  left_among (Kind m us pos ∷ cs) e = let P : List tree.Name → Type 0 = Among (N names n) in subst P (sym (kind_skipped m us (map (condition_of names) cs))) (left_among cs e)
  left_among (Compare op l r pos ∷ cs) e = left_among cs e
  left_among (Differ u v pos ∷ cs) e = left_among cs e
  left_among (Equal u r pos ∷ cs) e = by (u.name == n) refl e (λ f. left_among cs f)
    where
      by : (b : Bool) → (u.name == n) ≡ b → (b || list_any (is_left_of n) cs) ≡ true → (list_any (is_left_of n) cs ≡ true → Among (N names n) (left_sides (map (condition_of names) cs)))
          → Among (N names n) (N names u.name ∷ left_sides (map (condition_of names) cs))
      by true q e rest = subst (λ x. Among (N names x) (N names u.name ∷ left_sides (map (condition_of names) cs))) (eqb-true u.name n q) at_head
      by false q e rest = further (rest e)

  -- and they are used in the guard
  pub left_used_there : (cs : List Cond) → list_any (is_left_of n) cs ≡ true → 1 ≤ how_often n (flat_map typed_name (guard_items cs))
  left_used_there [] e = absurd (cc)
  left_used_there (c ∷ cs) e =
      let both = ap (how_often n) (flat_map-append typed_name (condition_items c) (guard_items cs)) ∙ how_often_both n (flat_map typed_name (condition_items c)) (flat_map typed_name (guard_items cs)) in
      elim (or_true (is_left_of n c) (list_any (is_left_of n) cs) e) [
        | inl h ↦ (let one = here c h in omega (arith, both, one))
        | inr h ↦ (let rest = left_used_there cs h in omega (arith, both, rest))
      ]
    where
      here : (c : Cond) → is_left_of n c ≡ true → 1 ≤ how_often n (flat_map typed_name (condition_items c))
      here (Kind m us pos) e = absurd (cc)
      here (Compare op l r pos) e = absurd (cc)
      here (Differ u v pos) e = absurd (cc)
      here (Equal u r pos) e = subst (λ b. 1 ≤ cond b (suc (how_often n (used_names r))) (how_often n (used_names r))) (sym e) (omega arith)
