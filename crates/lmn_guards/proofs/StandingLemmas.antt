-- Conditions of which none is refused, and rules that are accepted.
use Rattle.std.proofs.Common.{ℕ, ◌≡◌, ◌⊎◌, inl, inr, ◌==◌, ◌||◌, ◌&&◌, not, List, [], ◌∷◌, ◌++◌, length, Bool, true, false, cond, Contains, refl, sym, ap, subst, ◌∙◌, arith}
use Rattle.std.specs.List.{flat_map, list_any}
use Rattle.std.proofs.lemmas.List.Concat.{flat_map-append}
use Rattle.std.proofs.lemmas.List.Elements.{All-cons, All-append}
use Rattle.lmn_base.specs.declared.guard.Cond.{Cond}
use Rattle.lmn_base.specs.declared.guard.Cond.TheVariants.{Kind, Compare, Equal, Differ}
use Rattle.lmn_base.specs.declared.guard.Expr.{Expr}
use Rattle.lmn_base.specs.declared.guard.Expr.TheVariants.{Int as Integer, Ctx, Op'}
use Rattle.lmn_base.specs.declared.guard.Expr.TheVariants as expr
use Rattle.lmn_base.specs.declared.item.FormedUse.{FormedUse}
use Rattle.lmn_base.specs.declared.item.Item.{Item}
use Rattle.lmn_base.specs.declared.item.Item.TheVariants.{Atom, Context, RuleContext, Rule}
use Rattle.lmn_base.specs.declared.level.CtxUse.{CtxUse}
use Rattle.lmn_base.specs.declared.level.Level.{Level}
use Rattle.lmn_base.specs.declared.refusal.Pos.{Pos}
use Rattle.lmn_base.specs.Firsts.{Row, NoneApplies}
use Rattle.lmn_base.specs.declared.guard.Expr.TheFolds.{fold-roll-Expr}
use Rattle.lmn_base.specs.declared.guard.Expr.TheOpen as step
use Rattle.lmn_base.specs.Items.{expression_items, expression_items_step}
use Rattle.lmn_base_walks.specs.RuleCodes.{is_left_of, is_too_large, too_large}
use Rattle.lmn_base.proofs.Numbers.{equal_when}
use Rattle.lmn_base.proofs.RowLemmas.{Nowhere, no_rows, none_before, none_behind}
use Rattle.lmn_base.proofs.Truth.{and_true, never_both, bool_cases as known_or_not}
use Rattle.lmn_guards.specs.Accepted.{AcceptedExactly}
use Rattle.lmn_guards.specs.Conditions.{IsKnown, EachKnown, MayStand, AllMayStand}
use Rattle.lmn_guards.specs.GuardCodes.{in_head, is_bound, is_type, is_of_head, unknown, use_of_none, unbound, has_wrong_operands, condition_place, wrong_operands, rows_of_condition, rows_of_conditions, rows_of_typed}
use Rattle.lmn_guards.proofs.AcceptedLemmas.{in_order}
use Rattle.lmn_guards.proofs.GuardLemmas.{wrong_by_test}
use Rattle.lmn_guards.proofs.OrderLemmas.{no_places, none_offends, not_then, so_else}
use Rattle.lmn_guards.proofs.OrderedLemmas.{all_none, nowhere_if, nowhere_unless, accepted}

-- ---- contexts that are known

module _ (head : Level) (before : List Cond) where
  -- where no item is a use of an unknown context, each use is one of a known one
  known_each : (items : List Item) → flat_map (use_of_none head before) items ≡ [] → (u : FormedUse) → Contains items (Context u) → IsKnown head before u.name
  known_each items e u w = so_else (in_head head u.name || is_bound head before u.name) u.pos (none_offends (use_of_none head before) items (Context u) e w)

  -- and the other way round
  none_unknown : (items : List Item) → ((u : FormedUse) → Contains items (Context u) → IsKnown head before u.name) → flat_map (use_of_none head before) items ≡ []
  none_unknown items h = all_none (use_of_none head before) items each
    where
      each : (x : Item) → Contains items x → use_of_none head before x ≡ []
      each (Atom f p) w = refl
      each (Context u) w = nowhere_unless (in_head head u.name || is_bound head before u.name) u.pos (h u w)
      each (RuleContext u) w = refl
      each (Rule k) w = refl

  -- a context of the head is known, and isn't bound
  head_known : (n : ℕ) → in_head head n ≡ true → (in_head head n || is_bound head before n) ≡ true
  head_known n e = ap (λ b. b || is_bound head before n) e

  head_not_bound : (n : ℕ) → in_head head n ≡ true → is_bound head before n ≡ false
  head_not_bound n e = ap (λ b. not b && list_any (is_left_of n) before) e

  known_in_head : (n : ℕ) → (in_head head n || is_bound head before n) ≡ true → is_bound head before n ≡ false → in_head head n ≡ true
  known_in_head n e f = by (in_head head n) (is_bound head before n) e f
    where
      by : (a b : Bool) → (a || b) ≡ true → b ≡ false → a ≡ true
      by true b e f = refl
      by false b e f = sym f ∙ e

-- ---- of one condition

-- no condition before binds nothing
nothing_bound : (head : Level) (n : ℕ) → is_bound head [] n ≡ false
nothing_bound head n = by (in_head head n)
  where
    by : (a : Bool) → (not a && false) ≡ false
    by true = refl
    by false = refl

one_argument : (args : List CtxUse) → (length args == 1) ≡ true → (u : CtxUse) × (args ≡ u ∷ [])
one_argument [] e = absurd (cc)
one_argument (u ∷ []) e = (u, refl)
one_argument (u ∷ v ∷ args) e = absurd (let h = equal_when (length (u ∷ v ∷ args)) 1 e in omega (arith, h))

or_false : (a b : Bool) → (a || b) ≡ false → (a ≡ false) × (b ≡ false)
or_false true b e = absurd (cc)
or_false false b e = (refl, e)

not_of : (a b : Bool) → (a && not b) ≡ false → a ≡ true → b ≡ true
not_of true true e f = refl
not_of true false e f = absurd (cc)
not_of false b e f = absurd (cc)

neither : (a b : Bool) → a ≡ false → b ≡ false → (a || b) ≡ false
neither a b e f = ap (λ x. x || b) e ∙ f

not_known : (b : Bool) → ¬ (b ≡ true) → b ≡ false
not_known true n = absurd (n refl)
not_known false n = refl

no_places_of_one : (a : Bool) (p : Pos) → a ≡ true → cond a [] (p ∷ []) ++ [] ≡ []
no_places_of_one true p e = refl
no_places_of_one false p e = absurd (cc)

one_holds : (a : Bool) (p : Pos) → cond a [] (p ∷ []) ++ [] ≡ [] → a ≡ true
one_holds true p e = refl
one_holds false p e = absurd (cc)

no_places_of_two : (a b : Bool) (p q : Pos) → a ≡ true → b ≡ true → cond a [] (p ∷ []) ++ (cond b [] (q ∷ []) ++ []) ≡ []
no_places_of_two true b p q e f = no_places_of_one b q f
no_places_of_two false b p q e f = absurd (cc)

two_hold : (a b : Bool) (p q : Pos) → cond a [] (p ∷ []) ++ (cond b [] (q ∷ []) ++ []) ≡ [] → (a ≡ true) × (b ≡ true)
two_hold true b p q e = (refl, one_holds b q e)
two_hold false b p q e = absurd (cc)

module _ (head : Level) (before : List Cond) where
  abbrev Passes : Cond → Type 0
  Passes c = (unknown c ≡ []) × (unbound head before c ≡ []) × (has_wrong_operands head before c ≡ false)

  -- a whole side of `=` that is one context of the head has only known contexts
  of_head_none : (e : Expr) → is_of_head head e ≡ true → flat_map (use_of_none head before) (expression_items e) ≡ []
  of_head_none (Integer z) t = absurd (cc)
  of_head_none (Ctx u) t =
      let own = ap (flat_map (use_of_none head before)) (sym (ap expression_items (expr.rolls-Ctx u)) ∙ fold-roll-Expr (List Item) expression_items_step (step.Ctx u)) in
      own ∙ no_places_of_one (in_head head u.name || is_bound head before u.name) u.pos (head_known head before u.name t)
  of_head_none (Op' op p left q right) t = absurd (cc)

  -- what may stand isn't refused
  stands_none : (c : Cond) → MayStand head before c → Passes c
  stands_none (Kind name args pos) (t, (u, e, h)) =
      let P : List CtxUse → Type 0 = λ us. Passes (Kind name us pos) in
      subst P (sym e) (
        nowhere_unless (is_type name && (length (u ∷ []) == 1)) pos (ap (λ b. b && (length (u ∷ []) == 1)) t),
        no_places_of_one (in_head head u.name || is_bound head [] u.name) u.pos (head_known head [] u.name h),
        refl,
      )
  stands_none (Compare op left right pos) (l, r) =
      let a = none_unknown head before (expression_items left) l in
      let b = none_unknown head before (expression_items right) r in
      (refl, flat_map-append (use_of_none head before) (expression_items left) (expression_items right) ∙ (λ i. a i ++ b i), refl)
  stands_none (Equal left right pos) (inl (n, k)) =
      let apart = or_false (in_head head left.name) (is_bound head before left.name) (not_known (in_head head left.name || is_bound head before left.name) n) in (
        refl,
        none_unknown head before (expression_items right) k,
        neither (in_head head left.name && not (is_of_head head right)) (is_bound head before left.name) (ap (λ b. b && not (is_of_head head right)) apart.0) apart.1,
      )
  stands_none (Equal left right pos) (inr (h, o)) = (
    refl,
    of_head_none right o,
    neither (in_head head left.name && not (is_of_head head right)) (is_bound head before left.name) (both_not (in_head head left.name) (is_of_head head right) o) (head_not_bound head before left.name h),
  )
    where
      both_not : (a b : Bool) → b ≡ true → (a && not b) ≡ false
      both_not true b e = ap not e
      both_not false b e = refl
  stands_none (Differ left right pos) (l, r) = (
    refl,
    no_places_of_two (in_head head left.name || is_bound head before left.name) (in_head head right.name || is_bound head before right.name) left.pos right.pos (head_known head before left.name l) (head_known head before right.name r),
    neither (is_bound head before left.name) (is_bound head before right.name) (head_not_bound head before left.name l) (head_not_bound head before right.name r),
  )

  -- what isn't refused may stand
  none_stands : (c : Cond) → Passes c → MayStand head before c
  none_stands (Kind name args pos) (t, n, w) =
      let both = and_true (is_type name) (length args == 1) (so_else (is_type name && (length args == 1)) pos t) in
      let one = one_argument args both.1 in
      let P : List CtxUse → Type 0 = λ us. unbound head before (Kind name us pos) ≡ [] in
      let u = one.0 in
      let known = one_holds (in_head head u.name || is_bound head [] u.name) u.pos (subst P one.1 n) in
      (both.0, (u, one.1, known_in_head head [] u.name known (nothing_bound head u.name)))
  none_stands (Compare op left right pos) (t, n, w) =
      let apart = no_places (flat_map (use_of_none head before) (expression_items left)) (flat_map (use_of_none head before) (expression_items right)) (sym (flat_map-append (use_of_none head before) (expression_items left) (expression_items right)) ∙ n) in
      (known_each head before (expression_items left) apart.0, known_each head before (expression_items right) apart.1)
  none_stands (Equal left right pos) (t, n, w) =
      let apart = or_false (in_head head left.name && not (is_of_head head right)) (is_bound head before left.name) w in
      by apart.0 apart.1 (known_or_not (in_head head left.name)) (known_each head before (expression_items right) n)
    where
      by : (in_head head left.name && not (is_of_head head right)) ≡ false → is_bound head before left.name ≡ false
          → (in_head head left.name ≡ true) ⊎ (in_head head left.name ≡ false) → EachKnown head before right → MayStand head before (Equal left right pos)
      by a b (inl h) k = inr (h, not_of (in_head head left.name) (is_of_head head right) a h)
      by a b (inr h) k = inl ((λ e. never_both (in_head head left.name || is_bound head before left.name) e (neither (in_head head left.name) (is_bound head before left.name) h b)), k)
  none_stands (Differ left right pos) (t, n, w) =
      let known = two_hold (in_head head left.name || is_bound head before left.name) (in_head head right.name || is_bound head before right.name) left.pos right.pos n in
      let free = or_false (is_bound head before left.name) (is_bound head before right.name) w in
      (known_in_head head before left.name known.0 free.0, known_in_head head before right.name known.1 free.1)

  -- the rows of one condition
  abbrev rows_here : Cond → List Row
  rows_here c = rows_of_condition head before c

  rows_pass : (c : Cond) → Passes c → NoneApplies (rows_here c)
  rows_pass c (t, n, w) =
      let last : Row = record { code = 42; places = wrong_operands head before c } in
      let second : Row = record { code = 43; places = unbound head before c } in
      let first : Row = record { code = 41; places = unknown c } in
      All-cons Nowhere first (second ∷ last ∷ []) t (All-cons Nowhere second (last ∷ []) n (All-cons Nowhere last [] (wrong_by_test head before c ∙ nowhere_if (has_wrong_operands head before c) (condition_place c) w) no_rows))

  pass_rows : (c : Cond) → NoneApplies (rows_here c) → Passes c
  pass_rows c h =
      let first : Row = record { code = 41; places = unknown c } in
      (h 0 first (omega arith), h 1 first (omega arith), not_then (has_wrong_operands head before c) (condition_place c) (sym (wrong_by_test head before c) ∙ h 2 first (omega arith)))

-- ---- of all conditions

all_stand : (head : Level) (before cs : List Cond) → NoneApplies (rows_of_conditions head before cs) → AllMayStand head before cs
all_stand head before [] h = tt
all_stand head before (c ∷ cs) h =
    let rest = rows_of_conditions head (before ++ c ∷ []) cs in
    (none_stands head before c (pass_rows head before c (none_before (rows_of_condition head before c) rest h)), all_stand head (before ++ c ∷ []) cs (none_behind (rows_of_condition head before c) rest h))

none_of_all : (head : Level) (before cs : List Cond) → AllMayStand head before cs → NoneApplies (rows_of_conditions head before cs)
none_of_all head before [] h = no_rows
none_of_all head before (c ∷ cs) h =
    let rest = rows_of_conditions head (before ++ c ∷ []) cs in
    All-append Nowhere (rows_of_condition head before c) rest (rows_pass head before c (stands_none head before c h.0)) (none_of_all head (before ++ c ∷ []) cs h.1)

-- a rule is accepted exactly where it is linked, small and in order, and its conditions may stand
pub accepted_exactly : AcceptedExactly
accepted_exactly table r = (
  λ h. (h.linked, not_then (is_too_large r) r.pos (h.contexts 0 (too_large r) (omega arith)), in_order table r h, all_stand r.head [] r.guard (none_before (rows_of_conditions r.head [] r.guard) (rows_of_typed r) h.guard)),
  λ h. accepted table r h.0 h.1 h.2 (none_of_all r.head [] r.guard h.3),
)
