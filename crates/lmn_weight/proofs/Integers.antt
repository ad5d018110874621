-- Which contexts of a rule stand for integers: by the plan of its guard, and by the guard as a tree.
use Rattle.std.proofs.Common.{ℕ, zero, suc, ◌≡◌, ◌<◌, ◌≤◌, ◌+◌, ◌⊎◌, inl, inr, ◌&&◌, ◌||◌, not, Bool, true, false, cond, List, [], ◌∷◌, ◌++◌, Option, Some, None, map, length, refl, sym, ap, subst, ◌∙◌, arith, if◌then◌else◌}
use Rattle.std.specs.Prelude.{◌==◌}
use Rattle.std.specs.List.{AllByRecursion, flat_map, list_all, list_any}
use Rattle.std.proofs.lemmas.Bool.{eq-eqb, eqb-true}
use Rattle.std.proofs.lemmas.List.Concat.{flat_map-append}
use Rattle.lmn_base.proofs.Truth.{and_true, either_true}
use Rattle.lmn_base.specs.declared.functor.TheConstants.{INT_NAME, UNARY_NAME, GROUND_NAME}
use Rattle.lmn_base.specs.declared.guard.Cond.{Cond}
use Rattle.lmn_base.specs.declared.guard.Cond.TheVariants.{Kind, Compare, Equal, Differ}
use Rattle.lmn_base.specs.declared.guard.Expr.{Expr}
use Rattle.lmn_base.specs.declared.item.Form.TheVariants as form
use Rattle.lmn_base.specs.declared.item.Item.{Item}
use Rattle.lmn_base.specs.declared.level.CtxUse.{CtxUse}
use Rattle.lmn_base.specs.declared.level.Leaf.{Leaf}
use Rattle.lmn_base.specs.declared.level.Leaf.TheVariants as leaf
use Rattle.lmn_base.specs.declared.level.Level.{Level}
use Rattle.lmn_base.specs.declared.refusal.Pos.{Pos}
use Rattle.lmn_base.specs.Firsts.{NoneApplies}
use Rattle.lmn_base.specs.Items.{condition_items, expression_items, guard_items, used}
use Rattle.lmn_base.specs.Names.{IsNames, condition_names}
use Rattle.lmn_base_walks.specs.RuleCodes.{is_left_of}
use Rattle.lmn_base.specs.Uses.{has_use, is_some_place, use_of}
use Rattle.lmn_congruence.proofs.Common.{among_apart, among_left, among_right}
use Rattle.lmn_congruence.specs.Orders.{Among, at_head, further}
use Rattle.lmn_congruence.specs.Rules as tree
use Rattle.lmn_congruence.specs.Translation.{condition_of, expression_of, kind_of}
use Rattle.lmn_guards.proofs.OrderLemmas.{so_else}
use Rattle.lmn_guards.specs.declared.plan.TypeKind.{TypeKind}
use Rattle.lmn_guards.specs.declared.plan.TypeKind.TheVariants as kind
use Rattle.lmn_guards.specs.declared.plan.TypedUse.{TypedUse}
use Rattle.lmn_guards.specs.GuardCodes.{asks, in_head, is_bound, is_type, rows_of_conditions, type_of, unbound, unknown, use_of_none, wrong_operands}
use Rattle.lmn_guards.specs.Plans.{binding, numbered_uses, typed_use, with_type}
use Rattle.lmn_linkcheck.proofs.LinkedLemmas.{how_often, how_often_both}
use Rattle.lmn_app_reading.proofs.NamedPlains.{AllBelow}
use Rattle.lmn_app_accepted.proofs.Counts.{use_count}
use Rattle.lmn_app_accepted.proofs.Expressions.{in_either, there_used, use_known, used_names, used_there}
use Rattle.lmn_app_accepted.proofs.InTurns.{rows_apart}
use Rattle.lmn_app_accepted.proofs.Items.{typed_name}
use Rattle.lmn_app_accepted.proofs.Listed.{N, alone, among_name, how_often_here, how_often_later, number_among}
use Rattle.lmn_app_accepted.proofs.PlanKinds.{leaf_name, names_in}
use Rattle.lmn_app_accepted.proofs.Types.{condition_typed, typed_use_there}
use Rattle.lmn_weight.specs.Lowered.{MakesInt, has_type, in_value, is_bound as bound_here, on_left, on_right}

-- ---- tests of lists

pub any_among : {A : Type 0} (f : A → Bool) (xs : List A) → list_any f xs ≡ true → (x : A) × Among x xs × (f x ≡ true)
any_among f [] e = absurd (cc)
any_among f (x ∷ xs) e = go (f x) refl e (any_among f xs)
  where
    go : (b : Bool) → f x ≡ b → (b || list_any f xs) ≡ true → (list_any f xs ≡ true → (y : _) × Among y xs × (f y ≡ true)) → (y : _) × Among y (x ∷ xs) × (f y ≡ true)
    go true is e rest = (x, at_head, is)
    go false is e rest = let r = rest e in (r.0, further r.1, r.2)

pub among_any : {A : Type 0} (f : A → Bool) {x : A} (xs : List A) → Among x xs → f x ≡ true → list_any f xs ≡ true
among_any f (x ∷ xs) at_head e = rw e refl
among_any f (y ∷ xs) (further k) e = go (f y) (among_any f xs k e)
  where
    go : (b : Bool) → list_any f xs ≡ true → (b || list_any f xs) ≡ true
    go true h = refl
    go false h = h
among_any f [] k e = elim k [ ]

pub all_among : {A : Type 0} (f : A → Bool) {x : A} (xs : List A) → Among x xs → list_all f xs ≡ true → f x ≡ true
all_among f (x ∷ xs) at_head e = (and_true (f x) (list_all f xs) e).0
all_among f (y ∷ xs) (further k) e = all_among f xs k (and_true (f y) (list_all f xs) e).1
all_among f [] k e = elim k [ ]

-- ---- the uses of a plan

module _ (top : Level) (guard : List Cond) where
  abbrev uses : ℕ → List (List Leaf) → List TypedUse
  uses number lss = numbered_uses (typed_use top guard) number lss

  -- a use has the type of its name, which stands among those of the leaves
  pub right_use : (u : TypedUse) (number : ℕ) (lss : List (List Leaf)) → Among u (uses number lss) → (type_of top guard u.name ≡ Some u.kind) × (1 ≤ how_often u.name (names_in lss))
  right_use u number [] k = elim k [ ]
  right_use u number (ls ∷ lss) k = go (among_apart (flat_map (typed_use top guard number) ls) (uses (number + 1) lss) k) (right_use u (number + 1) lss)
    where
      one : {u : TypedUse} (n : ℕ) (o : Option TypeKind) → type_of top guard n ≡ o → Among u (with_type n number o) → (type_of top guard u.name ≡ Some u.kind) × (u.name ≡ n)
      one n None e k = elim k [ ]
      one n (Some t) e at_head = (e, refl)
      one n (Some t) e (further k) = elim k [ ]

      leaves : (ls : List Leaf) → Among u (flat_map (typed_use top guard number) ls) → (type_of top guard u.name ≡ Some u.kind) × (1 ≤ how_often u.name (flat_map leaf_name ls))
      leaves [] k = elim k [ ]
      leaves (leaf.Atom f os p ∷ ls) k = leaves ls k
      leaves (leaf.Typed n o p ∷ ls) k = either (among_apart (with_type n number (type_of top guard n)) (flat_map (typed_use top guard number) ls) k) (leaves ls)
        where
          either : Among u (with_type n number (type_of top guard n)) ⊎ Among u (flat_map (typed_use top guard number) ls)
              → (Among u (flat_map (typed_use top guard number) ls) → (type_of top guard u.name ≡ Some u.kind) × (1 ≤ how_often u.name (flat_map leaf_name ls))) → (type_of top guard u.name ≡ Some u.kind) × (1 ≤ how_often u.name (n ∷ flat_map leaf_name ls))
          either (inl h) rest =
              let r = one n (type_of top guard n) refl h in
              (r.0, subst (λ m. 1 ≤ how_often u.name (m ∷ flat_map leaf_name ls)) r.1 (let e = how_often_here u.name (flat_map leaf_name ls) in omega (arith, e)))
          either (inr h) rest = let r = rest h in let l = how_often_later u.name n (flat_map leaf_name ls) in let m = r.1 in (r.0, omega (arith, m, l))

      go : Among u (flat_map (typed_use top guard number) ls) ⊎ Among u (uses (number + 1) lss)
          → (Among u (uses (number + 1) lss) → (type_of top guard u.name ≡ Some u.kind) × (1 ≤ how_often u.name (names_in lss))) → (type_of top guard u.name ≡ Some u.kind) × (1 ≤ how_often u.name (flat_map leaf_name ls ++ names_in lss))
      go (inl h) rest = let r = leaves ls h in let b = how_often_both u.name (flat_map leaf_name ls) (names_in lss) in let m = r.1 in (r.0, omega (arith, m, b))
      go (inr h) rest = let r = rest h in let b = how_often_both u.name (flat_map leaf_name ls) (names_in lss) in let m = r.1 in (r.0, omega (arith, m, b))

  -- a name that stands in some uses with a type
  abbrev pub UsedAs : ℕ → TypeKind → List TypedUse → Type 0
  UsedAs n t us = (u : TypedUse) × Among u us × (u.name ≡ n) × (u.kind ≡ t)

  -- a typed context of the head whose name has a type is used with it
  pub used_as : (n : ℕ) (t : TypeKind) → type_of top guard n ≡ Some t → (number : ℕ) (lss : List (List Leaf)) → 1 ≤ how_often n (names_in lss) → UsedAs n t (uses number lss)
  used_as n t is number [] h = absurd (omega (arith, h))
  used_as n t is number (ls ∷ lss) h = go (how_often n (flat_map leaf_name ls)) refl (used_as n t is (number + 1) lss)
    where
      leaves : (ls : List Leaf) → 1 ≤ how_often n (flat_map leaf_name ls) → UsedAs n t (flat_map (typed_use top guard number) ls)
      leaves [] h = absurd (omega (arith, h))
      leaves (leaf.Atom f os p ∷ ls) h = leaves ls h
      leaves (leaf.Typed m o p ∷ ls) h = by (m == n) refl h (leaves ls)
        where
          by : (b : Bool) → (m == n) ≡ b → 1 ≤ cond b (suc (how_often n (flat_map leaf_name ls))) (how_often n (flat_map leaf_name ls)) → (1 ≤ how_often n (flat_map leaf_name ls) → UsedAs n t (flat_map (typed_use top guard number) ls))
              → UsedAs n t (with_type m number (type_of top guard m) ++ flat_map (typed_use top guard number) ls)
          by true e h rest =
              let same = eqb-true m n e in
              let told : type_of top guard m ≡ Some t = subst (λ k. type_of top guard k ≡ Some t) (sym same) is in
              subst (λ (o : Option TypeKind). UsedAs n t (with_type m number o ++ flat_map (typed_use top guard number) ls)) (sym told) (record { name = m; kind = t; depth = number }, at_head, same, refl)
          by false e h rest = let r = rest h in (r.0, among_right (with_type m number (type_of top guard m)) r.1, r.2, r.3)

      go : (k : ℕ) → how_often n (flat_map leaf_name ls) ≡ k → (1 ≤ how_often n (names_in lss) → UsedAs n t (uses (number + 1) lss)) → UsedAs n t (flat_map (typed_use top guard number) ls ++ uses (number + 1) lss)
      go (suc k) e rest = let r = leaves ls (omega (arith, e)) in (r.0, among_left (uses (number + 1) lss) r.1, r.2, r.3)
      go zero e rest =
          let both = how_often_both n (flat_map leaf_name ls) (names_in lss) in
          let r = rest (omega (arith, h, both, e)) in
          (r.0, among_right (flat_map (typed_use top guard number) ls) r.1, r.2, r.3)

-- what stands typed among items is used there
pub has_typed : (n : ℕ) (xs : List Item) → 1 ≤ how_often n (flat_map typed_name xs) → has_use n xs ≡ true
has_typed n xs h = some (flat_map (use_of n) xs) (let c = use_count n xs in omega (arith, c, h))
  where
    some : (ps : List Pos) → 1 ≤ length ps → is_some_place ps ≡ true
    some [] l = absurd (omega (arith, l))
    some (p ∷ ps) l = refl

-- ---- what conditions bind

module _ (top : Level) where
  abbrev pub bindings : List Cond → List ℕ
  bindings cs = flat_map (binding top) cs

  bound_in : (u : CtxUse) (e : Expr) (pos : Pos) (cs : List Cond) → Among (Equal u e pos) cs → in_head top u.name ≡ false → Among u.name (bindings cs)
  bound_in u e pos [] k h = elim k [ ]
  bound_in u e pos (c ∷ cs) at_head h = among_left (bindings cs) (subst (λ b. Among u.name (if b then [] else u.name ∷ [])) (sym h) at_head)
  bound_in u e pos (c ∷ cs) (further k) h = among_right (binding top c) (bound_in u e pos cs k h)

  left_bound : (n : ℕ) (all before : List Cond) → ((c : Cond) → Among c before → Among c all) → list_any (is_left_of n) before ≡ true → in_head top n ≡ false → Among n (bindings all)
  left_bound n all before inside e h = let found = any_among (is_left_of n) before e in go found.0 (inside found.0 found.1) found.2
    where
      go : (c : Cond) → Among c all → is_left_of n c ≡ true → Among n (bindings all)
      go (Kind m us pos) k e = absurd (cc)
      go (Compare op l r pos) k e = absurd (cc)
      go (Differ u v pos) k e = absurd (cc)
      go (Equal u r pos) k e = let same = eqb-true u.name n e in subst (λ m. Among m (bindings all)) same (bound_in u r pos all k (subst (λ m. in_head top m ≡ false) (sym same) h))

  -- a name on the left of `=` that isn't in the head is bound
  pub lefts_bound : (n : ℕ) (cs : List Cond) → list_any (is_left_of n) cs ≡ true → in_head top n ≡ false → Among n (bindings cs)
  lefts_bound n cs e h = left_bound n cs cs (λ c k. k) e h

-- a bound name is one of the guard
pub bound_known : (names : List tree.Name) (top : Level) (n : ℕ) (cs : List Cond) → AllByRecursion (λ c. AllBelow names (condition_names c)) cs → Among n (flat_map (binding top) cs) → n < length names
bound_known names top n [] k a = elim a [ ]
bound_known names top n (c ∷ cs) k a = go (among_apart (binding top c) (flat_map (binding top) cs) a) (bound_known names top n cs k.1)
  where
    one : (c : Cond) → AllBelow names (condition_names c) → Among n (binding top c) → n < length names
    one (Kind m us pos) k a = elim a [ ]
    one (Compare op l r pos) k a = elim a [ ]
    one (Differ u v pos) k a = elim a [ ]
    one (Equal u r pos) k a = by (in_head top u.name) n a
      where
        by : (b : Bool) (j : ℕ) → Among j (if b then [] else u.name ∷ []) → j < length names
        by true j a = elim a [ ]
        by false j at_head = k.0
        by false j (further a) = elim a [ ]

    go : Among n (binding top c) ⊎ Among n (flat_map (binding top) cs) → (Among n (flat_map (binding top) cs) → n < length names) → n < length names
    go (inl h) rest = one c k.0 h
    go (inr h) rest = rest h

module _ (names : List tree.Name) (is : IsNames names) (top : Level) (guard : List Cond) (ts : List ℕ) (known : AllBelow names ts) (in_top : (n : ℕ) → 1 ≤ how_often n ts → in_head top n ≡ true)
    (typed : (n : ℕ) → 1 ≤ how_often n (flat_map typed_name (guard_items guard)) → in_head top n ≡ true → 1 ≤ how_often n ts) where
  abbrev heads : List tree.Name
  heads = map (N names) ts

  not_among : (n : ℕ) → n < length names → in_head top n ≡ false → ¬ (Among (N names n) heads)
  not_among n l e k = let there = in_top n (number_among names is n ts l known k) in absurd (cc)

  -- some condition makes it stand for an integer
  abbrev pub IsMade : ℕ → List Cond → Type 0
  IsMade n cs = (c : tree.Condition) × Among c (map (condition_of names) cs) × MakesInt heads (N names n) c

  -- ---- from the plan to the tree

  asked_made : (n : ℕ) (c : Cond) → AllBelow names (condition_names c) → unknown c ≡ [] → asks top kind.Int n c ≡ true → MakesInt heads (N names n) (condition_of names c)
  asked_made n (Kind m args pos) k none e = by args (and_true (is_type m) (length args == 1) (so_else (is_type m && (length args == 1)) pos none)).1 (and_true (m == INT_NAME) (has_use n (condition_items (Kind m args pos))) e)
    where
      by : (us : List CtxUse) → (length us == 1) ≡ true → ((m == INT_NAME) ≡ true) × (has_use n (condition_items (Kind m us pos)) ≡ true) → MakesInt heads (N names n) (kind_of names m us)
      by [] l h = absurd (cc)
      by (u ∷ (v ∷ us)) l h = absurd (let e = eqb-true (length (u ∷ (v ∷ us))) 1 l in omega (arith, e))
      by (u ∷ []) l h =
          let one = alone n u.name (typed_use_there n (used form.Typed u ∷ []) ((u, refl), tt) h.1) in
          rw h.0 (subst (λ x. MakesInt heads (N names x) (tree.is_kind tree.int (N names u.name))) one has_type)
  asked_made n (Compare op l r pos) k none e =
      let h = typed_use_there n (expression_items l ++ expression_items r) (condition_typed (Compare op l r pos)) e in
      let both = ap (how_often n) (flat_map-append typed_name (expression_items l) (expression_items r)) ∙ how_often_both n (used_names l) (used_names r) in
      elim (in_either names (how_often n (flat_map typed_name (expression_items l ++ expression_items r))) (how_often n (used_names l)) (how_often n (used_names r)) both h) [
        | inl k ↦ on_left (there_used names l n k)
        | inr k ↦ on_right (there_used names r n k)
      ]
  asked_made n (Equal u r pos) k none e =
      let parts = and_true (not (in_head top u.name)) (has_use n (expression_items r)) e in
      let free : in_head top u.name ≡ false = negated (in_head top u.name) parts.0 in
      in_value (not_among u.name k.0 free) (there_used names r n (typed_use_there n (expression_items r) (condition_typed (Equal u r pos)).1 parts.1))
    where
      negated : (b : Bool) → not b ≡ true → b ≡ false
      negated true e = absurd (cc)
      negated false e = refl
  asked_made n (Differ u v pos) k none e = absurd (cc)

  pub all_asked_made : (n : ℕ) (before cs : List Cond) → AllByRecursion (λ c. AllBelow names (condition_names c)) cs → NoneApplies (rows_of_conditions top before cs) → list_any (asks top kind.Int n) cs ≡ true → IsMade n cs
  all_asked_made n before [] k rows e = absurd (cc)
  all_asked_made n before (c ∷ cs) k rows e =
      let r = rows_apart top before c cs rows in
      elim (either_true (asks top kind.Int n c) (list_any (asks top kind.Int n) cs) e) [
        | inl h ↦ (condition_of names c, at_head, asked_made n c k.0 r.0 h)
        | inr h ↦ (let rest = all_asked_made n (before ++ c ∷ []) cs k.1 r.3 h in (rest.0, further rest.1, rest.2))
      ]

  pub bound_made : (n : ℕ) (cs : List Cond) → AllByRecursion (λ c. AllBelow names (condition_names c)) cs → Among n (bindings top cs) → IsMade n cs
  bound_made n [] k a = elim a [ ]
  bound_made n (c ∷ cs) k a = go (among_apart (binding top c) (bindings top cs) a) (bound_made n cs k.1)
    where
      one : (c : Cond) → AllBelow names (condition_names c) → Among n (binding top c) → MakesInt heads (N names n) (condition_of names c)
      one (Kind m us pos) k a = elim a [ ]
      one (Compare op l r pos) k a = elim a [ ]
      one (Differ u v pos) k a = elim a [ ]
      one (Equal u r pos) k a = by (in_head top u.name) refl n a
        where
          by : (b : Bool) → in_head top u.name ≡ b → (j : ℕ) → Among j (if b then [] else u.name ∷ []) → MakesInt heads (N names j) (tree.equates (N names u.name) (expression_of names r))
          by true e j a = elim a [ ]
          by false e j at_head = bound_here (not_among j k.0 e)
          by false e j (further a) = elim a [ ]

      go : Among n (binding top c) ⊎ Among n (bindings top cs) → (Among n (bindings top cs) → IsMade n cs) → IsMade n (c ∷ cs)
      go (inl h) rest = (condition_of names c, at_head, one c k.0 h)
      go (inr h) rest = let r = rest h in (r.0, further r.1, r.2)

  -- ---- from the tree to the plan

  -- a name of the head that has the type int, or a bound one
  abbrev pub IsInt : ℕ → Type 0
  IsInt n = ((1 ≤ how_often n ts) × (list_any (asks top kind.Int n) guard ≡ true)) ⊎ Among n (bindings top guard)

  in_both : (n : ℕ) (d : Cond) (cs : List Cond) → how_often n (flat_map typed_name (guard_items (d ∷ cs))) ≡ how_often n (flat_map typed_name (condition_items d)) + how_often n (flat_map typed_name (guard_items cs))
  in_both n d cs = ap (how_often n) (flat_map-append typed_name (condition_items d) (guard_items cs)) ∙ how_often_both n (flat_map typed_name (condition_items d)) (flat_map typed_name (guard_items cs))

  used_in_guard : (n : ℕ) {c : Cond} (cs : List Cond) → Among c cs → 1 ≤ how_often n (flat_map typed_name (condition_items c)) → 1 ≤ how_often n (flat_map typed_name (guard_items cs))
  used_in_guard n [] k h = elim k [ ]
  used_in_guard n (d ∷ cs) at_head h = let e = in_both n d cs in omega (arith, e, h)
  used_in_guard n (d ∷ cs) (further k) h = let e = in_both n d cs in let r = used_in_guard n cs k h in omega (arith, e, r)

  -- one that a condition uses is in the head or bound, so it is an integer where the condition asks that of it
  used_int : (n : ℕ) (c : Cond) (before : List Cond) → Among c guard → ((d : Cond) → Among d before → Among d guard) → 1 ≤ how_often n (flat_map typed_name (condition_items c)) → (in_head top n || is_bound top before n) ≡ true
      → asks top kind.Int n c ≡ true → IsInt n
  used_int n c before k inside h known a = go (in_head top n) refl known
    where
      go : (b : Bool) → in_head top n ≡ b → (b || (not b && list_any (is_left_of n) before)) ≡ true → IsInt n
      go true e r = inl (typed n (used_in_guard n guard k h) e, among_any (asks top kind.Int n) guard k a)
      go false e r = inr (left_bound top n guard before inside r e)

  -- a condition that makes a context an integer asks that of its name, or binds it
  condition_int : (p : tree.Name) (c : Cond) (before : List Cond) → Among c guard → ((d : Cond) → Among d before → Among d guard) → (unknown c ≡ []) × (unbound top before c ≡ []) → MakesInt heads p (condition_of names c)
      → (n : ℕ) × (N names n ≡ p) × IsInt n
  condition_int p (Kind m args pos) before k inside none h = by args none.1 (and_true (is_type m) (length args == 1) (so_else (is_type m && (length args == 1)) pos none.0)).1 h k
    where
      int_alone : (u : CtxUse) → flat_map (use_of_none top []) (used form.Typed u ∷ []) ≡ [] → (m == INT_NAME) ≡ true → Among (Kind m (u ∷ []) pos) guard → IsInt u.name
      int_alone u none e k =
          let one : 1 ≤ how_often u.name (u.name ∷ []) = (let more = how_often_here u.name [] in omega (arith, more)) in
          used_int u.name (Kind m (u ∷ []) pos) [] k (λ d i. elim i [ ]) one (use_known top [] (used form.Typed u ∷ []) none u.name one)
          (rw e (rw (eq-eqb u.name u.name refl) refl))

      by : (us : List CtxUse) → flat_map (use_of_none top []) (map (used form.Typed) us) ≡ [] → (length us == 1) ≡ true → MakesInt heads p (kind_of names m us) → Among (Kind m us pos) guard → (n : ℕ) × (N names n ≡ p) × IsInt n
      by [] none l h k = elim h [ ]
      by (u ∷ (v ∷ us)) none l h k = elim h [ ]
      by (u ∷ []) none l h k = go (m == INT_NAME) refl (m == UNARY_NAME) (m == GROUND_NAME) p h
        where
          go : (a : Bool) → (m == INT_NAME) ≡ a → (b c : Bool) (p : tree.Name)
              → MakesInt heads p (if a then tree.is_kind tree.int (N names u.name) else if b then tree.is_kind tree.unary (N names u.name) else if c then tree.is_kind tree.grounded (N names u.name) else tree.unknown (N names m) (N names u.name ∷ []))
              → (n : ℕ) × (N names n ≡ p) × IsInt n
          go true e b c p has_type = (u.name, refl, int_alone u none e k)
          go false e true c p h = elim h [ ]
          go false e false true p h = elim h [ ]
          go false e false false p h = elim h [ ]
  condition_int p (Compare op l r pos) before k inside none h = by h
    where
      both : (n : ℕ) → how_often n (flat_map typed_name (expression_items l ++ expression_items r)) ≡ how_often n (used_names l) + how_often n (used_names r)
      both n = ap (how_often n) (flat_map-append typed_name (expression_items l) (expression_items r)) ∙ how_often_both n (used_names l) (used_names r)

      one : (n : ℕ) → 1 ≤ how_often n (flat_map typed_name (expression_items l ++ expression_items r)) → IsInt n
      one n g = used_int n (Compare op l r pos) before k inside g (use_known top before (expression_items l ++ expression_items r) none.1 n g) (has_typed n (expression_items l ++ expression_items r) g)

      by : MakesInt heads p (condition_of names (Compare op l r pos)) → (n : ℕ) × (N names n ≡ p) × IsInt n
      by (on_left u) = (let w = used_there names l p u in let e = both w.0 in let g = w.1 in (w.0, w.2, one w.0 (omega (arith, e, g))))
      by (on_right u) = (let w = used_there names r p u in let e = both w.0 in let g = w.1 in (w.0, w.2, one w.0 (omega (arith, e, g))))
  condition_int p (Equal u r pos) before k inside none h = by p h
    where
      left : ¬ (Among (N names u.name) heads) → in_head top u.name ≡ false
      left na = go (in_head top u.name) refl
        where
          go : (b : Bool) → in_head top u.name ≡ b → b ≡ false
          go false e = refl
          go true e =
              let one : 1 ≤ how_often u.name (u.name ∷ used_names r) = (let more = how_often_here u.name (used_names r) in omega (arith, more)) in
              absurd (na (among_name names u.name ts (typed u.name (used_in_guard u.name guard k one) e)))

      by : (p : tree.Name) → MakesInt heads p (tree.equates (N names u.name) (expression_of names r)) → (n : ℕ) × (N names n ≡ p) × IsInt n
      by p (in_value na w) =
          let found = used_there names r p w in
          let g = found.1 in
          let here = how_often_later found.0 u.name (used_names r) in (
            found.0,
            found.2,
            used_int found.0 (Equal u r pos) before k inside (omega (arith, g, here)) (use_known top before (expression_items r) none.1 found.0 g) (rw (left na) (has_typed found.0 (expression_items r) g)),
          )
      by p (bound_here na) = (u.name, refl, inr (bound_in top u r pos guard k (left na)))
  condition_int p (Differ u v pos) before k inside none h = elim h [ ]

  -- so a context that the guard makes an integer has a name that is one by the plan
  pub made_int : (p : tree.Name) (before cs : List Cond) → ((d : Cond) → Among d before → Among d guard) → ((d : Cond) → Among d cs → Among d guard) → NoneApplies (rows_of_conditions top before cs)
      → (c : tree.Condition) → Among c (map (condition_of names) cs) → MakesInt heads p c → (n : ℕ) × (N names n ≡ p) × IsInt n
  made_int p before [] inside all rows c k m = elim k [ ]
  made_int p before (d ∷ cs) inside all rows c k m = go k m (λ c i m. made_int p (before ++ d ∷ []) cs more (λ e i. all e (further i)) r.3 c i m)
    where
      r : (unknown d ≡ []) × (unbound top before d ≡ []) × (wrong_operands top before d ≡ []) × NoneApplies (rows_of_conditions top (before ++ d ∷ []) cs)
      r = rows_apart top before d cs rows

      more : (e : Cond) → Among e (before ++ d ∷ []) → Among e guard
      more e k = either (among_apart before (d ∷ []) k)
        where
          either : {e : Cond} → Among e before ⊎ Among e (d ∷ []) → Among e guard
          either (inl h) = inside _ h
          either (inr at_head) = all _ at_head
          either (inr (further h)) = elim h [ ]

      go : {c : tree.Condition} → Among c (condition_of names d ∷ map (condition_of names) cs) → MakesInt heads p c
          → ((c : tree.Condition) → Among c (map (condition_of names) cs) → MakesInt heads p c → (n : ℕ) × (N names n ≡ p) × IsInt n) → (n : ℕ) × (N names n ≡ p) × IsInt n
      go at_head m rest = condition_int p d before (all d at_head) inside (r.0, r.1) m
      go (further k) m rest = rest _ k m
