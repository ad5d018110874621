-- The guard of an accepted rule uses contexts of the head and such as it has bound.
use Rattle.std.proofs.Common.{ℕ, suc, ◌≡◌, ◌≤◌, ◌+◌, ◌==◌, ◌⊎◌, inl, inr, ◌&&◌, ◌||◌, not, Bool, true, false, cond, List, [], ◌∷◌, ◌++◌, map, length, refl, sym, ap, subst, ◌∙◌, arith}
use Rattle.std.specs.Prelude.{if◌then◌else◌}
use Rattle.std.specs.List.{AllByRecursion, flat_map, list_any}
use Rattle.std.proofs.lemmas.Bool.{eqb-true, or_parts}
use Rattle.std.proofs.lemmas.List.Concat.{flat_map-append}
use Rattle.std.proofs.lemmas.List.Elements.{All-head, All-tail}
use Rattle.std.proofs.lemmas.List.Folds.{list_any-append}
use Rattle.lmn_base.specs.declared.functor.TheConstants.{INT_NAME, UNARY_NAME, GROUND_NAME}
use Rattle.lmn_base.specs.declared.guard.Cond.{Cond}
use Rattle.lmn_base.specs.declared.guard.Cond.TheVariants.{Kind, Compare, Equal, Differ}
use Rattle.lmn_base.specs.declared.guard.Expr.{Expr}
use Rattle.lmn_base.specs.declared.guard.Expr.TheVariants as expr
use Rattle.lmn_base.specs.declared.item.Form.TheVariants as form
use Rattle.lmn_base.specs.declared.item.Item.{Item}
use Rattle.lmn_base.specs.declared.level.CtxUse.{CtxUse}
use Rattle.lmn_base.specs.declared.level.Level.{Level}
use Rattle.lmn_base.specs.declared.refusal.Pos.{Pos}
use Rattle.lmn_base.specs.Firsts.{Row, NoneApplies}
use Rattle.lmn_base.specs.Items.{used, expression_items, condition_items, guard_items}
use Rattle.lmn_base.specs.Names.{IsNames, condition_names}
use Rattle.lmn_base_walks.specs.RuleCodes.{is_left_of}
use Rattle.lmn_adequacy.specs.Accepted.{UsedIn, InTurn, all_asked, kind_in_turn, comparison_in_turn, binding_in_turn, equality_in_turn, difference_in_turn}
use Rattle.lmn_congruence.specs.Orders.{Among}
use Rattle.lmn_congruence.specs.Rules as tree
use Rattle.lmn_congruence.specs.Translation.{expression_of, kind_of, condition_of}
use Rattle.lmn_guards.specs.GuardCodes.{in_head, is_bound, is_type, unknown, use_of_none, unbound, is_of_head, has_wrong_operands, wrong_operands, rows_of_conditions}
use Rattle.lmn_guards.proofs.OrderLemmas.{not_then, so_else}
use Rattle.lmn_reduction.proofs.Values.{context_tree}
use Rattle.lmn_app_accepted.proofs.Listed.{how_often_here, how_often_later, N, among_name, number_among}
use Rattle.lmn_linkcheck.proofs.LinkedLemmas.{how_often, how_often_both}
use Rattle.lmn_app_reading.proofs.NamedPlains.{AllBelow}
use Rattle.lmn_app_accepted.proofs.Items.{typed_name}
use Rattle.lmn_app_accepted.proofs.Expressions.{use_known, used_names, used_there}
use Rattle.lmn_base.proofs.Truth.{and_true as both_true, either_true as or_true}
use Rattle.lmn_guards.proofs.WorkedGuards.{of_context as context_items}

-- ---- what earlier conditions bind

any_more : (f : Cond → Bool) (before : List Cond) (c : Cond) → list_any f (before ++ c ∷ []) ≡ (list_any f before || f c)
any_more f before c = list_any-append f before (c ∷ []) ∙ ap (λ b. list_any f before || b) (or_nothing (f c))
  where
    or_nothing : (b : Bool) → (b || false) ≡ b
    or_nothing true = refl
    or_nothing false = refl

-- a list has the names that some conditions bind
record Binds (head : Level) (before : List Cond) (bs : List ℕ) : Type 0 where
  into : (n : ℕ) → is_bound head before n ≡ true → 1 ≤ how_often n bs
  back : (n : ℕ) → 1 ≤ how_often n bs → is_bound head before n ≡ true

binds_as_before : (head : Level) (before : List Cond) (c : Cond) (bs : List ℕ) → ((n : ℕ) → is_bound head (before ++ c ∷ []) n ≡ is_bound head before n) → Binds head before bs → Binds head (before ++ c ∷ []) bs
binds_as_before head before c bs same b = record { into = λ n e. b.into n (sym (same n) ∙ e); back = λ n h. same n ∙ b.back n h }

no_left : (head : Level) (before : List Cond) (c : Cond) → ((n : ℕ) → is_left_of n c ≡ false) → (n : ℕ) → is_bound head (before ++ c ∷ []) n ≡ is_bound head before n
no_left head before c none n = ap (λ b. not (in_head head n) && b) (any_more (is_left_of n) before c ∙ ap (λ b. list_any (is_left_of n) before || b) (none n) ∙ or_nothing (list_any (is_left_of n) before))
  where
    or_nothing : (b : Bool) → (b || false) ≡ b
    or_nothing true = refl
    or_nothing false = refl

left_in_head : (head : Level) (before : List Cond) (left : CtxUse) (right : Expr) (pos : Pos) → in_head head left.name ≡ true → (n : ℕ)
    → is_bound head (before ++ Equal left right pos ∷ []) n ≡ is_bound head before n
left_in_head head before left right pos there n = ap (λ b. not (in_head head n) && b) (any_more (is_left_of n) before (Equal left right pos)) ∙ by (left.name == n) refl
  where
    by : (b : Bool) → (left.name == n) ≡ b → (not (in_head head n) && (list_any (is_left_of n) before || b)) ≡ (not (in_head head n) && list_any (is_left_of n) before)
    by true e =
        let here : in_head head n ≡ true = subst (λ m. in_head head m ≡ true) (eqb-true left.name n e) there in
        rw here refl
    by false e = ap (λ b. not (in_head head n) && b) (or_nothing (list_any (is_left_of n) before))
      where
        or_nothing : (b : Bool) → (b || false) ≡ b
        or_nothing true = refl
        or_nothing false = refl

binds_left : (head : Level) (before : List Cond) (left : CtxUse) (right : Expr) (pos : Pos) (bs : List ℕ) → in_head head left.name ≡ false → Binds head before bs
    → Binds head (before ++ Equal left right pos ∷ []) (left.name ∷ bs)
binds_left head before left right pos bs new b = record { into = into; back = back }
  where
    is : (n : ℕ) → is_bound head (before ++ Equal left right pos ∷ []) n ≡ (not (in_head head n) && (list_any (is_left_of n) before || (left.name == n)))
    is n = ap (λ b. not (in_head head n) && b) (any_more (is_left_of n) before (Equal left right pos))

    into : (n : ℕ) → is_bound head (before ++ Equal left right pos ∷ []) n ≡ true → 1 ≤ how_often n (left.name ∷ bs)
    into n e = by (left.name == n) refl (both_true (not (in_head head n)) (list_any (is_left_of n) before || (left.name == n)) (sym (is n) ∙ e))
      where
        by : (t : Bool) → (left.name == n) ≡ t → (not (in_head head n) ≡ true) × ((list_any (is_left_of n) before || (left.name == n)) ≡ true) → 1 ≤ cond t (suc (how_often n bs)) (how_often n bs)
        by true q h = omega arith
        by false q h = elim (or_true (list_any (is_left_of n) before) (left.name == n) h.1) [
          | inl k ↦ b.into n (rw (h.0, k) refl)
          | inr k ↦ absurd (cc)
        ]

    back : (n : ℕ) → 1 ≤ how_often n (left.name ∷ bs) → is_bound head (before ++ Equal left right pos ∷ []) n ≡ true
    back n h = is n ∙ by (left.name == n) refl h
      where
        by : (t : Bool) → (left.name == n) ≡ t → 1 ≤ cond t (suc (how_often n bs)) (how_often n bs) → (not (in_head head n) && (list_any (is_left_of n) before || t)) ≡ true
        by true q h =
            let here : in_head head n ≡ false = subst (λ m. in_head head m ≡ false) (eqb-true left.name n q) new in
            ap (λ b. not b && (list_any (is_left_of n) before || true)) here ∙ or_true (list_any (is_left_of n) before)
          where
            or_true : (b : Bool) → (b || true) ≡ true
            or_true true = refl
            or_true false = refl
        by false q h = (let k = both_true (not (in_head head n)) (list_any (is_left_of n) before) (b.back n h) in rw (k.0, k.1) refl)

-- ---- conditions in turn

three_rows : (a b c : Row) (rows : List Row) → NoneApplies (a ∷ b ∷ c ∷ rows) → (a.places ≡ []) × (b.places ≡ []) × (c.places ≡ []) × NoneApplies rows
three_rows a b c rows h =
    let P : Row → Type 0 = λ row. row.places ≡ [] in
    let h1 = All-tail P a (b ∷ c ∷ rows) h in
    let h2 = All-tail P b (c ∷ rows) h1 in
    (All-head P a (b ∷ c ∷ rows) h, All-head P b (c ∷ rows) h1, All-head P c rows h2, All-tail P c rows h2)

-- the rows of the first of some conditions, and those of the others
abbrev pub RowsOf : Level → List Cond → Cond → List Cond → Type 0
RowsOf head before c cs = (unknown c ≡ []) × (unbound head before c ≡ []) × (wrong_operands head before c ≡ []) × NoneApplies (rows_of_conditions head (before ++ c ∷ []) cs)

-- where no row of conditions applies none of the first does, and none of the others
pub rows_apart : (head : Level) (before : List Cond) (c : Cond) (cs : List Cond) → NoneApplies (rows_of_conditions head before (c ∷ cs)) → RowsOf head before c cs
rows_apart head before c cs h =
    three_rows (record { code = 41; places = unknown c }) (record { code = 43; places = unbound head before c }) (record { code = 42; places = wrong_operands head before c })
    (rows_of_conditions head (before ++ c ∷ []) cs) h

-- the kind that a name of a type stands for
pub kind_tree : (names : List tree.Name) (n : ℕ) (u : CtxUse) → is_type n ≡ true → (k : tree.Kind) × (kind_of names n (u ∷ []) ≡ tree.is_kind k (N names u.name))
kind_tree names n u e = by (n == INT_NAME) (n == UNARY_NAME) (n == GROUND_NAME) e
  where
    by : (a b c : Bool) → (a || (b || c)) ≡ true
        → (k : tree.Kind) × ((if a then tree.is_kind tree.int (N names u.name) else if b then tree.is_kind tree.unary (N names u.name) else if c then tree.is_kind tree.grounded (N names u.name) else tree.unknown (N names n) (N names u.name ∷ [])) ≡ tree.is_kind k (N names u.name))
    by true b c e = (tree.int, refl)
    by false true c e = (tree.unary, refl)
    by false false true e = (tree.grounded, refl)
    by false false false e = absurd (cc)

module _ (names : List tree.Name) (is : IsNames names) (head : Level) (ts : List ℕ) (known : AllBelow names ts) (typed : (n : ℕ) → 1 ≤ how_often n ts → in_head head n ≡ true) where
  -- what is used in a guard is a typed context, where it stands in the head
  abbrev pub Typed : List Item → Type 0
  Typed xs = (n : ℕ) → 1 ≤ how_often n (flat_map typed_name xs) → in_head head n ≡ true → 1 ≤ how_often n ts

  typed_left : (xs ys : List Item) → Typed (xs ++ ys) → Typed xs
  typed_left xs ys t n h = t n (let e = ap (how_often n) (flat_map-append typed_name xs ys) in let f = how_often_both n (flat_map typed_name xs) (flat_map typed_name ys) in omega (arith, e, f, h))

  typed_right : (xs ys : List Item) → Typed (xs ++ ys) → Typed ys
  typed_right xs ys t n h = t n (let e = ap (how_often n) (flat_map-append typed_name xs ys) in let f = how_often_both n (flat_map typed_name xs) (flat_map typed_name ys) in omega (arith, e, f, h))

  -- a use that is of the head or bound stands among the names of either
  known_use : (before : List Cond) (bs : List ℕ) (xs : List Item) → Binds head before bs → flat_map (use_of_none head before) xs ≡ [] → Typed xs
      → (n : ℕ) → 1 ≤ how_often n (flat_map typed_name xs) → Among (N names n) (map (N names) ts) ⊎ Among (N names n) (map (N names) bs)
  known_use before bs xs b none t n h = elim (or_true (in_head head n) (is_bound head before n) (use_known head before xs none n h)) [
    | inl k ↦ inl (among_name names n ts (t n h k))
    | inr k ↦ inr (among_name names n bs (b.into n k))
  ]

  one_use : (u : CtxUse) (more : List Item) → 1 ≤ how_often u.name (flat_map typed_name (used form.Typed u ∷ more))
  one_use u more = let e = how_often_here u.name (flat_map typed_name more) in omega (arith, e)

  -- the guard's conditions, behind those that are before
  in_turn : (before cs : List Cond) (bs : List ℕ) → AllBelow names bs → Binds head before bs → NoneApplies (rows_of_conditions head before cs) → Typed (guard_items cs)
      → AllByRecursion (λ c. AllBelow names (condition_names c)) cs → InTurn (map (N names) ts) (map (N names) bs) (map (condition_of names) cs)
  in_turn before [] bs kb b rows t kc = all_asked
  in_turn before (Kind n args pos ∷ cs) bs kb b rows t kc =
      by args (both_true (is_type n) (length args == 1) (so_else (is_type n && (length args == 1)) pos r.0)) r.1 (typed_left (condition_items (Kind n args pos)) (guard_items cs) t)
      (in_turn (before ++ Kind n args pos ∷ []) cs bs kb (binds_as_before head before (Kind n args pos) bs (no_left head before (Kind n args pos) (λ m. refl)) b) r.3
      (typed_right (condition_items (Kind n args pos)) (guard_items cs) t) kc.1)
    where
      r : RowsOf head before (Kind n args pos) cs
      r = rows_apart head before (Kind n args pos) cs rows

      in_head_or_bound : (m : ℕ) → (in_head head m || is_bound head [] m) ≡ true → in_head head m ≡ true
      in_head_or_bound m e = on (in_head head m) e
        where
          on : (a : Bool) → (a || (not a && false)) ≡ true → a ≡ true
          on true e = refl
          on false e = absurd (cc)

      by : (us : List CtxUse) → (is_type n ≡ true) × ((length us == 1) ≡ true) → flat_map (use_of_none head []) (map (used form.Typed) us) ≡ [] → Typed (map (used form.Typed) us)
          → InTurn (map (N names) ts) (map (N names) bs) (map (condition_of names) cs) → InTurn (map (N names) ts) (map (N names) bs) (kind_of names n us ∷ map (condition_of names) cs)
      by [] e none t rest = absurd (cc)
      by (u ∷ (v ∷ us)) e none t rest = absurd (let l = eqb-true (length (u ∷ (v ∷ us))) 1 e.1 in omega (arith, l))
      by (u ∷ []) e none t rest =
          let k = kind_tree names n u e.0 in
          let here : in_head head u.name ≡ true = in_head_or_bound u.name (use_known head [] (used form.Typed u ∷ []) none u.name (one_use u [])) in
          subst (λ c. InTurn (map (N names) ts) (map (N names) bs) (c ∷ map (condition_of names) cs)) (sym k.1) (kind_in_turn (among_name names u.name ts (t u.name (one_use u []) here)) rest)
  in_turn before (Compare op left right pos ∷ cs) bs kb b rows t kc =
      comparison_in_turn uses (in_turn (before ++ Compare op left right pos ∷ []) cs bs kb (binds_as_before head before (Compare op left right pos) bs (no_left head before (Compare op left right pos) (λ m. refl)) b) r.3
      (typed_right (condition_items (Compare op left right pos)) (guard_items cs) t) kc.1)
    where
      r : RowsOf head before (Compare op left right pos) cs
      r = rows_apart head before (Compare op left right pos) cs rows

      xs : List Item
      xs = expression_items left ++ expression_items right

      known_there : (n : ℕ) → 1 ≤ how_often n (flat_map typed_name (expression_items left ++ expression_items right)) → Among (N names n) (map (N names) ts) ⊎ Among (N names n) (map (N names) bs)
      known_there = known_use before bs (expression_items left ++ expression_items right) b r.1 (typed_left (condition_items (Compare op left right pos)) (guard_items cs) t)

      both : (n : ℕ) → how_often n (flat_map typed_name (expression_items left ++ expression_items right)) ≡ how_often n (used_names left) + how_often n (used_names right)
      both n = ap (how_often n) (flat_map-append typed_name (expression_items left) (expression_items right)) ∙ how_often_both n (used_names left) (used_names right)

      uses : (p : tree.Name) → UsedIn p (expression_of names left) ⊎ UsedIn p (expression_of names right) → Among p (map (N names) ts) ⊎ Among p (map (N names) bs)
      uses p (inl h) =
          let one = used_there names left p h in
          let e = both one.0 in
          let g = one.1 in
          subst (λ q. Among q (map (N names) ts) ⊎ Among q (map (N names) bs)) one.2 (known_there one.0 (omega (arith, e, g)))
      uses p (inr h) =
          let one = used_there names right p h in
          let e = both one.0 in
          let g = one.1 in
          subst (λ q. Among q (map (N names) ts) ⊎ Among q (map (N names) bs)) one.2 (known_there one.0 (omega (arith, e, g)))
  in_turn before (Equal left right pos ∷ cs) bs kb b rows t kc =
      by (in_head head left.name) refl (or_parts (in_head head left.name && not (is_of_head head right)) (is_bound head before left.name) (not_then (has_wrong_operands head before (Equal left right pos)) pos r.2))
      (λ bs kb b. in_turn (before ++ Equal left right pos ∷ []) cs bs kb b r.3 (typed_right (condition_items (Equal left right pos)) (guard_items cs) t) kc.1)
    where
      r : RowsOf head before (Equal left right pos) cs
      r = rows_apart head before (Equal left right pos) cs rows

      here : Typed (used form.Typed left ∷ expression_items right)
      here = typed_left (condition_items (Equal left right pos)) (guard_items cs) t

      uses : (q : tree.Name) → UsedIn q (expression_of names right) → Among q (map (N names) ts) ⊎ Among q (map (N names) bs)
      uses q h =
          let one = used_there names right q h in
          subst (λ q. Among q (map (N names) ts) ⊎ Among q (map (N names) bs)) one.2
          (known_use before bs (expression_items right) b r.1 (typed_right (used form.Typed left ∷ []) (expression_items right) here) one.0 one.1)

      compared : in_head head left.name ≡ true → (e : Expr) → is_of_head head e ≡ true → Typed (expression_items e)
          → InTurn (map (N names) ts) (map (N names) bs) (map (condition_of names) cs) → InTurn (map (N names) ts) (map (N names) bs) (tree.equates (N names left.name) (expression_of names e) ∷ map (condition_of names) cs)
      compared there (expr.Int z) e k rest = absurd (cc)
      compared there (expr.Op' op a l c q) e k rest = absurd (cc)
      compared there (expr.Ctx u) e k rest =
          let used_once : 1 ≤ how_often u.name (used_names (expr.Ctx u)) = subst (λ is. 1 ≤ how_often u.name (flat_map typed_name is)) (sym (context_items u)) (one_use u []) in
          subst (λ E. InTurn (map (N names) ts) (map (N names) bs) (tree.equates (N names left.name) E ∷ map (condition_of names) cs)) (sym (context_tree names u))
          (equality_in_turn (among_name names left.name ts (here left.name (one_use left (expression_items right)) there)) (among_name names u.name ts (k u.name used_once e)) rest)

      so : (a : Bool) → not a ≡ false → a ≡ true
      so true e = refl
      so false e = absurd (cc)

      by : (x : Bool) → in_head head left.name ≡ x → ((x && not (is_of_head head right)) ≡ false) × (is_bound head before left.name ≡ false)
          → ((bs : List ℕ) → AllBelow names bs → Binds head (before ++ Equal left right pos ∷ []) bs → InTurn (map (N names) ts) (map (N names) bs) (map (condition_of names) cs))
          → InTurn (map (N names) ts) (map (N names) bs) (tree.equates (N names left.name) (expression_of names right) ∷ map (condition_of names) cs)
      by true there w again =
          compared there right (so (is_of_head head right) w.0) (typed_right (used form.Typed left ∷ []) (expression_items right) here)
          (again bs kb (binds_as_before head before (Equal left right pos) bs (left_in_head head before left right pos there) b))
      by false new w again =
          binding_in_turn
          (λ a. (let h = typed left.name (number_among names is left.name ts kc.0.0 known a) in let clash : true ≡ false = sym h ∙ new in cc))
          (λ a. (let h = b.back left.name (number_among names is left.name bs kc.0.0 kb a) in let clash : true ≡ false = sym h ∙ w.1 in cc))
          uses (again (left.name ∷ bs) (kc.0.0, kb) (binds_left head before left right pos bs new b))
  in_turn before (Differ left right pos ∷ cs) bs kb b rows t kc =
      difference_in_turn (among_name names left.name ts (here left.name first (of_head left.name w.0 (seen left.name first))))
      (among_name names right.name ts (here right.name second (of_head right.name w.1 (seen right.name second))))
      (in_turn (before ++ Differ left right pos ∷ []) cs bs kb (binds_as_before head before (Differ left right pos) bs (no_left head before (Differ left right pos) (λ m. refl)) b) r.3
      (typed_right (condition_items (Differ left right pos)) (guard_items cs) t) kc.1)
    where
      r : RowsOf head before (Differ left right pos) cs
      r = rows_apart head before (Differ left right pos) cs rows

      w : (is_bound head before left.name ≡ false) × (is_bound head before right.name ≡ false)
      w = or_parts (is_bound head before left.name) (is_bound head before right.name) (not_then (has_wrong_operands head before (Differ left right pos)) pos r.2)

      here : Typed (used form.Typed left ∷ used form.Typed right ∷ [])
      here = typed_left (condition_items (Differ left right pos)) (guard_items cs) t

      first : 1 ≤ how_often left.name (flat_map typed_name (used form.Typed left ∷ used form.Typed right ∷ []))
      first = one_use left (used form.Typed right ∷ [])

      second : 1 ≤ how_often right.name (flat_map typed_name (used form.Typed left ∷ used form.Typed right ∷ []))
      second = let l = how_often_later right.name left.name (right.name ∷ []) in let e = how_often_here right.name [] in omega (arith, l, e)

      seen : (n : ℕ) → 1 ≤ how_often n (flat_map typed_name (used form.Typed left ∷ used form.Typed right ∷ [])) → (in_head head n || is_bound head before n) ≡ true
      seen = use_known head before (used form.Typed left ∷ used form.Typed right ∷ []) r.1

      of_head : (n : ℕ) → is_bound head before n ≡ false → (in_head head n || is_bound head before n) ≡ true → in_head head n ≡ true
      of_head n e h = on (in_head head n) (is_bound head before n) e h
        where
          on : (x y : Bool) → y ≡ false → (x || y) ≡ true → x ≡ true
          on true y e h = refl
          on false y e h = absurd (let clash : true ≡ false = sym h ∙ e in cc)

  -- the whole guard
  pub guard_in_turn : (cs : List Cond) → NoneApplies (rows_of_conditions head [] cs) → Typed (guard_items cs) → AllByRecursion (λ c. AllBelow names (condition_names c)) cs → InTurn (map (N names) ts) [] (map (condition_of names) cs)
  guard_in_turn cs rows t kc = in_turn [] cs [] tt (record { into = λ n e. absurd (nothing n e); back = λ n h. absurd (omega (arith, h)) }) rows t kc
    where
      nothing : (n : ℕ) → is_bound head [] n ≡ true → ⊥
      nothing n e = on (in_head head n) e
        where
          on : (a : Bool) → (not a && false) ≡ true → ⊥
          on true e = cc
          on false e = cc
