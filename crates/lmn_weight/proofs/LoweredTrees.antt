-- A rule of a plain that is lowered is lowered as a tree.
use Rattle.std.proofs.Common.{ℕ, zero, suc, ◌≡◌, ◌<◌, ◌≤◌, ◌+◌, ◌==◌, ◌⊎◌, inl, inr, ◌&&◌, ◌||◌, Bool, true, false, cond, List, [], ◌∷◌, ◌++◌, Some, None, IsSome, Contains, map, length, sum, refl, sym, ap, subst, ◌∙◌, arith, if◌then◌else◌}
use Rattle.std.specs.Prelude.{nat_le, nat_lt}
use Rattle.std.specs.List.{AllByRecursion, flat_map, list_all, list_any}
use Rattle.std.proofs.lemmas.Bool.{eq-eqb, eqb-true, leb-true, ltb-true}
use Rattle.std.proofs.lemmas.List.Concat.{flat_map-append}
use Rattle.std.proofs.lemmas.List.Elements.{recursion_from_All}
use Rattle.lmn_base.proofs.Lists.{all_append, all_left, all_of_left, all_right, some_is, sum_cons}
use Rattle.lmn_base.proofs.Truth.{and_true, either_true}
use Rattle.lmn_base.specs.declared.guard.Cond.{Cond}
use Rattle.lmn_base.specs.declared.level.CtxUse.{CtxUse}
use Rattle.lmn_base.specs.declared.level.Leaf.{Leaf}
use Rattle.lmn_base.specs.declared.level.Leaf.TheVariants as leaf
use Rattle.lmn_base.specs.declared.level.Level.{Level}
use Rattle.lmn_base.specs.declared.level.Level.TheFolds.{fold-roll-Level, ind-Level}
use Rattle.lmn_base.specs.declared.item.Item.{Item}
use Rattle.lmn_base.specs.declared.rule.RuleTree.{RuleTree}
use Rattle.lmn_base.specs.Firsts.{NoneApplies, Row}
use Rattle.lmn_base.specs.Items.{items_of, own_items}
use Rattle.lmn_base.specs.Levels.{contexts_of, leaves_of, rule_contexts_of}
use Rattle.lmn_base.specs.Names.{HasNames, IsNames, condition_names, context_names, leaf_names, level_names, rule_names}
use Rattle.lmn_base_walks.specs.RuleCodes.{is_left_of}
use Rattle.lmn_base.specs.WellMade.{FitsArity, IsWellMadeRule}
use Rattle.lmn_adequacy.specs.Accepted.{all_contexts, closed_names}
use Rattle.lmn_adequacy_heaps.proofs.HeadTrees.{level_tree}
use Rattle.lmn_congruence.specs.Orders.{Among, EachOnce, at_head, further}
use Rattle.lmn_congruence.specs.Rules as tree
use Rattle.lmn_congruence.specs.Translation.{condition_of, level_of, rule_tree}
use Rattle.lmn_guards.proofs.AcceptedLemmas.{in_order}
use Rattle.lmn_guards.specs.Accepted.{IsAcceptedRule, IsInOrder}
use Rattle.lmn_guards.specs.declared.plan.GuardPlan.{GuardPlan}
use Rattle.lmn_guards.specs.declared.plan.TypeKind.{TypeKind}
use Rattle.lmn_guards.specs.declared.plan.TypeKind.TheVariants as kind
use Rattle.lmn_guards.specs.declared.plan.TypedUse.{TypedUse}
use Rattle.lmn_guards.specs.GuardCodes.{asks, in_head, rows_of_conditions, rows_of_typed, type_of}
use Rattle.lmn_guards.specs.Plans.{IsPlan, leaves_by_membrane}
use Rattle.lmn_linkcheck.proofs.LinkedLemmas.{how_often, how_often_both}
use Rattle.lmn_app_reading.proofs.NamedPlains.{AllBelow, Below}
use Rattle.lmn_reduction.specs.Firing.{typed_contexts}
use Rattle.lmn_solid_heads.proofs.HeadTrees.{head, head_at, same_leaves, same_membranes, same_uses}
use Rattle.lmn_app_accepted.proofs.Counts.{closed_known, guard_typed, typed_in_head, typed_known}
use Rattle.lmn_app_accepted.proofs.Items.{closed_name, closed_own, closed_use, typed_are, typed_name}
use Rattle.lmn_app_accepted.proofs.Listed.{N, alone, each_once, how_often_later, known_one, some_of}
use Rattle.lmn_app_accepted.proofs.PlanKinds.{leaf_name, names_in, membranes_named}
use Rattle.lmn_app_accepted.proofs.Trees.{closed_named, typed_named}
use Rattle.lmn_app_accepted.proofs.Types.{left_used_there}
use Rattle.lmn_weight.specs.Lowered.{Lowered, MakesInt, StandsForInt, other_contexts}
use Rattle.lmn_weight.specs.declared.weights.Weights.{Weights}
use Rattle.lmn_weight.specs.Plains as plain
use Rattle.lmn_weight.proofs.Integers.{all_among, all_asked_made, among_any, any_among, bindings, bound_known, bound_made, lefts_bound, made_int, right_use, used_as}
use Rattle.lmn_weight.proofs.WeightsAgree.{IsFit, level_agrees, number_in, number_is, number_named, weighing}

-- ---- how often contexts stand in a level

module _ (n : ℕ) where
  one_or_none : (b : Bool) → ◌≡◌ {A = ℕ} (if b then 1 else 0) (cond b 1 0)
  one_or_none true = refl
  one_or_none false = refl

  leaf_uses : (ls : List Leaf) → sum (map (plain.one_if_use n) ls) ≡ how_often n (flat_map leaf_name ls)
  leaf_uses [] = refl
  leaf_uses (leaf.Atom f os p ∷ ls) = let s = sum_cons (plain.one_if_use n) (leaf.Atom f os p) ls in let r = leaf_uses ls in omega (arith, s, r)
  leaf_uses (leaf.Typed m o p ∷ ls) =
      let s = sum_cons (plain.one_if_use n) (leaf.Typed m o p) ls in
      let b = how_often_both n (m ∷ []) (flat_map leaf_name ls) in
      let e = one_or_none (m == n) in
      let r = leaf_uses ls in
      omega (arith, s, b, e, r)

  abbrev inside : List Level → List Leaf
  inside ms = flat_map (λ ls. ls) (map leaves_of ms)

  abbrev TypedSo : Level → Type 0
  TypedSo l = plain.typed_uses n l ≡ how_often n (flat_map leaf_name (leaves_of l))

  typed_inside : (ms : List ((l : Level) × TypedSo l)) → sum (map (plain.typed_uses n) (map (λ e. e.0) ms)) ≡ how_often n (flat_map leaf_name (inside (map (λ e. e.0) ms)))
  typed_inside [] = refl
  typed_inside (e ∷ ms) =
      let rest = map (λ (e : (l : Level) × TypedSo l). e.0) ms in
      let s = sum_cons (plain.typed_uses n) e.0 rest in
      let f = ap (how_often n) (flat_map-append leaf_name (leaves_of e.0) (inside rest)) in
      let b = how_often_both n (flat_map leaf_name (leaves_of e.0)) (flat_map leaf_name (inside rest)) in
      let r = typed_inside ms in
      let h = e.1 in
      omega (arith, s, f, b, r, h)

  -- a typed context stands in a level as often as its name among those of the leaves
  pub typed_uses_are : (l : Level) → TypedSo l
  typed_uses_are = ind-Level TypedSo (λ y z is.
      let below = subst (λ l. sum (map (plain.typed_uses n) l.membranes) ≡ how_often n (flat_map leaf_name (inside l.membranes))) is (typed_inside z.membranes) in
      let own = leaf_uses y.leaves in
      let f = ap (how_often n) (flat_map-append leaf_name y.leaves (inside y.membranes)) in
      let b = how_often_both n (flat_map leaf_name y.leaves) (flat_map leaf_name (inside y.membranes)) in
      let all : sum (map (plain.one_if_use n) y.leaves) + sum (map (plain.typed_uses n) y.membranes) ≡ how_often n (flat_map leaf_name (y.leaves ++ inside y.membranes)) = omega (arith, below, own, f, b) in
      rw (fold-roll-Level ℕ (plain.use_step n) y, fold-roll-Level (List Leaf) (λ l. l.leaves ++ flat_map (λ ls. ls) l.membranes) y) all)

  context_uses : (us : List CtxUse) → sum (map (plain.one_if_closed n) us) ≡ how_often n (flat_map closed_use us)
  context_uses [] = refl
  context_uses (u ∷ us) =
      let s = sum_cons (plain.one_if_closed n) u us in
      let b = how_often_both n (closed_use u) (flat_map closed_use us) in
      let e = one u.closed in
      let r = context_uses us in
      omega (arith, s, b, e, r)
    where
      one : (closed : Bool) → ◌≡◌ {A = ℕ} (if closed && (u.name == n) then 1 else 0) (how_often n (cond closed (u.name ∷ []) []))
      one true = one_or_none (u.name == n)
      one false = refl

  abbrev below_contexts : List Level → List CtxUse
  below_contexts ms = flat_map (λ us. us) (map contexts_of ms)

  abbrev ClosedSo : Level → Type 0
  ClosedSo l = plain.closed_uses n l ≡ how_often n (flat_map closed_use (contexts_of l))

  closed_inside : (ms : List ((l : Level) × ClosedSo l)) → sum (map (plain.closed_uses n) (map (λ e. e.0) ms)) ≡ how_often n (flat_map closed_use (below_contexts (map (λ e. e.0) ms)))
  closed_inside [] = refl
  closed_inside (e ∷ ms) =
      let rest = map (λ (e : (l : Level) × ClosedSo l). e.0) ms in
      let s = sum_cons (plain.closed_uses n) e.0 rest in
      let f = ap (how_often n) (flat_map-append closed_use (contexts_of e.0) (below_contexts rest)) in
      let b = how_often_both n (flat_map closed_use (contexts_of e.0)) (flat_map closed_use (below_contexts rest)) in
      let r = closed_inside ms in
      let h = e.1 in
      omega (arith, s, f, b, r, h)

  -- and so does a closed one
  pub closed_uses_are : (l : Level) → ClosedSo l
  closed_uses_are = ind-Level ClosedSo (λ y z is.
      let below = subst (λ l. sum (map (plain.closed_uses n) l.membranes) ≡ how_often n (flat_map closed_use (below_contexts l.membranes))) is (closed_inside z.membranes) in
      let own = context_uses y.contexts in
      let f = ap (how_often n) (flat_map-append closed_use y.contexts (below_contexts y.membranes)) in
      let b = how_often_both n (flat_map closed_use y.contexts) (flat_map closed_use (below_contexts y.membranes)) in
      let all : sum (map (plain.one_if_closed n) y.contexts) + sum (map (plain.closed_uses n) y.membranes) ≡ how_often n (flat_map closed_use (y.contexts ++ below_contexts y.membranes)) = omega (arith, below, own, f, b) in
      rw (fold-roll-Level ℕ (plain.closed_step n) y, fold-roll-Level (List CtxUse) (λ l. l.contexts ++ flat_map (λ us. us) l.membranes) y) all)

-- the closed contexts among the items of a level are those of its contexts
abbrev ClosedItems : Level → Type 0
ClosedItems l = flat_map closed_name (items_of l) ≡ flat_map closed_use (contexts_of l)

closed_items_inside : (ms : List ((l : Level) × ClosedItems l)) → flat_map closed_name (flat_map (λ is. is) (map items_of (map (λ e. e.0) ms))) ≡ flat_map closed_use (flat_map (λ us. us) (map contexts_of (map (λ e. e.0) ms)))
closed_items_inside [] = refl
closed_items_inside (e ∷ ms) =
    let rest = map (λ (e : (l : Level) × ClosedItems l). e.0) ms in
    flat_map-append closed_name (items_of e.0) (flat_map (λ is. is) (map items_of rest)) ∙ (λ i. e.1 i ++ closed_items_inside ms i) ∙ sym (flat_map-append closed_use (contexts_of e.0) (flat_map (λ us. us) (map contexts_of rest)))

closed_are : (l : Level) → ClosedItems l
closed_are = ind-Level ClosedItems (λ y z is.
    let below = subst (λ l. flat_map closed_name (flat_map (λ is. is) (map items_of l.membranes)) ≡ flat_map closed_use (flat_map (λ us. us) (map contexts_of l.membranes))) is (closed_items_inside z.membranes) in
    let all = closed_own y.leaves y.contexts y.rule_contexts y.rules (flat_map (λ is. is) (map items_of y.membranes)) ∙ ap (λ ns. flat_map closed_use y.contexts ++ ns) below ∙ sym (flat_map-append closed_use y.contexts (flat_map (λ us. us) (map contexts_of y.membranes))) in
    rw (fold-roll-Level (List Item) (λ l. own_items l ++ flat_map (λ is. is) l.membranes) y, fold-roll-Level (List CtxUse) (λ l. l.contexts ++ flat_map (λ us. us) l.membranes) y) all)

-- a closed context that stands among contexts
closed_there : (n : ℕ) (us : List CtxUse) → 1 ≤ how_often n (flat_map closed_use us) → (u : CtxUse) × Among u us × (u.closed ≡ true) × (u.name ≡ n)
closed_there n [] h = absurd (omega (arith, h))
closed_there n (u ∷ us) h = go u.closed refl (how_often_both n (closed_use u) (flat_map closed_use us)) (closed_there n us)
  where
    go : (b : Bool) → u.closed ≡ b → how_often n (closed_use u ++ flat_map closed_use us) ≡ how_often n (closed_use u) + how_often n (flat_map closed_use us)
        → (1 ≤ how_often n (flat_map closed_use us) → (u : CtxUse) × Among u us × (u.closed ≡ true) × (u.name ≡ n)) → (v : CtxUse) × Among v (u ∷ us) × (v.closed ≡ true) × (v.name ≡ n)
    go false e both rest =
        let none : how_often n (closed_use u) ≡ 0 = ap (λ b. how_often n (cond b (u.name ∷ []) [])) e in
        let r = rest (omega (arith, h, both, none)) in
        (r.0, further r.1, r.2, r.3)
    go true e both rest = by (u.name == n) refl
      where
        by : (b : Bool) → (u.name == n) ≡ b → (v : CtxUse) × Among v (u ∷ us) × (v.closed ≡ true) × (v.name ≡ n)
        by true f = (u, at_head, e, eqb-true u.name n f)
        by false f =
            let none : how_often n (closed_use u) ≡ 0 = ap (λ b. how_often n (cond b (u.name ∷ []) [])) e ∙ ap (λ b. cond b 1 0) f in
            let r = rest (omega (arith, h, both, none)) in
            (r.0, further r.1, r.2, r.3)

-- ---- names by membranes

typed_items : (l : Level) → flat_map leaf_name (leaves_of l) ≡ flat_map typed_name (items_of l)
typed_items l = typed_are l ∙ ap (flat_map typed_name) (sym (same_uses l))

by_membranes : (l : Level) → names_in (leaves_by_membrane l) ≡ flat_map typed_name (items_of l)
by_membranes l = ap names_in (same_membranes l) ∙ membranes_named (head_at l) ∙ ap (flat_map leaf_name) (sym (same_leaves l)) ∙ typed_items l

-- ---- names that are known

leaves_apart : (names : List tree.Name) (ls : List Leaf) → AllBelow names (flat_map leaf_names ls) → AllByRecursion (λ l. AllBelow names (leaf_names l)) ls
leaves_apart names [] h = tt
leaves_apart names (l ∷ ls) h = (all_left (Below names) (leaf_names l) (flat_map leaf_names ls) h, leaves_apart names ls (all_right (Below names) (leaf_names l) (flat_map leaf_names ls) h))

conditions_apart : (names : List tree.Name) (cs : List Cond) → AllBelow names (flat_map condition_names cs) → AllByRecursion (λ c. AllBelow names (condition_names c)) cs
conditions_apart names [] h = tt
conditions_apart names (c ∷ cs) h = (all_left (Below names) (condition_names c) (flat_map condition_names cs) h, conditions_apart names cs (all_right (Below names) (condition_names c) (flat_map condition_names cs) h))

typed_known_names : (names : List tree.Name) (ls : List Leaf) → AllByRecursion (λ l. AllBelow names (leaf_names l)) ls → AllBelow names (flat_map leaf_name ls)
typed_known_names names [] h = tt
typed_known_names names (leaf.Atom f os p ∷ ls) h = typed_known_names names ls h.1
typed_known_names names (leaf.Typed n o p ∷ ls) h = (h.0.0, typed_known_names names ls h.1)

closed_known_names : (names : List tree.Name) (us : List CtxUse) → AllBelow names (context_names us) → AllBelow names (flat_map closed_use us)
closed_known_names names [] h = tt
closed_known_names names (u ∷ us) h = all_append (Below names) (closed_use u) (flat_map closed_use us) (one u.closed) (closed_known_names names us h.1)
  where
    one : (b : Bool) → AllBelow names (cond b (u.name ∷ []) [])
    one true = (h.0, tt)
    one false = tt

-- leaves whose names are known and that have as many links as their arities
pub all_fit : (names : List tree.Name) (ls : List Leaf) → AllByRecursion (λ l. AllBelow names (leaf_names l)) ls → AllByRecursion FitsArity ls → AllByRecursion (IsFit names) ls
all_fit names [] h k = tt
all_fit names (l ∷ ls) h k = ((h.0, k.0), all_fit names ls h.1 k.1)

pub record LevelKnown (names : List tree.Name) (l : Level) : Type 0 where
  pub leaves : AllByRecursion (λ l. AllBelow names (leaf_names l)) (leaves_of l)
  pub typed : AllBelow names (flat_map typed_name (items_of l))
  pub closed : AllBelow names (flat_map closed_name (items_of l))

pub level_known : (names : List tree.Name) (l : Level) → AllBelow names (level_names l) → LevelKnown names l
level_known names l h =
    let P : List ℕ → Type 0 = AllBelow names in
    let front = all_left (Below names) (flat_map leaf_names (leaves_of l) ++ context_names (contexts_of l)) (context_names (rule_contexts_of l)) h in
    let leaves = leaves_apart names (leaves_of l) (all_left (Below names) (flat_map leaf_names (leaves_of l)) (context_names (contexts_of l)) front) in
    record {
      leaves = leaves;
      typed = subst P (typed_items l) (typed_known_names names (leaves_of l) leaves);
      closed = subst P (sym (closed_are l)) (closed_known_names names (contexts_of l) (all_right (Below names) (flat_map leaf_names (leaves_of l)) (context_names (contexts_of l)) front));
    }

-- ---- contexts that don't stand for integers

module _ (names : List tree.Name) (is_int : tree.Name → Bool) (stands : ℕ → Bool) (alike : (n : ℕ) → n < length names → is_int (N names n) ≡ stands n) where
  abbrev pub others : List ℕ → List ℕ
  others [] = []
  others (n ∷ ns) = if stands n then others ns else n ∷ others ns

  pub others_named : (ns : List ℕ) → AllBelow names ns → other_contexts is_int (map (N names) ns) ≡ map (N names) (others ns)
  others_named [] h = refl
  others_named (n ∷ ns) h = go (stands n) (alike n h.0) (others_named ns h.1)
    where
      go : (b : Bool) → is_int (N names n) ≡ b → other_contexts is_int (map (N names) ns) ≡ map (N names) (others ns)
          → (if is_int (N names n) then other_contexts is_int (map (N names) ns) else N names n ∷ other_contexts is_int (map (N names) ns)) ≡ map (N names) (if b then others ns else n ∷ others ns)
      go true e r = rw e r
      go false e r = rw e (ap (λ xs. N names n ∷ xs) r)

  pub others_known : (ns : List ℕ) → AllBelow names ns → AllBelow names (others ns)
  others_known [] h = tt
  others_known (n ∷ ns) h = go (stands n) (others_known ns h.1)
    where
      go : (b : Bool) → AllBelow names (others ns) → AllBelow names (if b then others ns else n ∷ others ns)
      go true r = r
      go false r = (h.0, r)

  -- each stands among them at most as often as among all, and one that is there doesn't stand for an integer
  pub others_few : (m : ℕ) (ns : List ℕ) → how_often m (others ns) ≤ how_often m ns
  others_few m [] = omega arith
  others_few m (n ∷ ns) = go (stands n) (others_few m ns)
    where
      go : (b : Bool) → how_often m (others ns) ≤ how_often m ns → how_often m (if b then others ns else n ∷ others ns) ≤ how_often m (n ∷ ns)
      go true r = let l = how_often_later m n ns in omega (arith, r, l)
      go false r = by (n == m)
        where
          by : (b : Bool) → cond b (suc (how_often m (others ns))) (how_often m (others ns)) ≤ cond b (suc (how_often m ns)) (how_often m ns)
          by true = omega (arith, r)
          by false = r

  pub others_not : (m : ℕ) (ns : List ℕ) → 1 ≤ how_often m (others ns) → stands m ≡ false
  others_not m [] h = absurd (omega (arith, h))
  others_not m (n ∷ ns) h = go (stands n) refl h (others_not m ns)
    where
      go : (b : Bool) → stands n ≡ b → 1 ≤ how_often m (if b then others ns else n ∷ others ns) → (1 ≤ how_often m (others ns) → stands m ≡ false) → stands m ≡ false
      go true e h rest = rest h
      go false e h rest = by (n == m) refl h
        where
          by : (b : Bool) → (n == m) ≡ b → 1 ≤ cond b (suc (how_often m (others ns))) (how_often m (others ns)) → stands m ≡ false
          by true f h = subst (λ k. stands k ≡ false) (eqb-true n m f) e
          by false f h = rest h

-- ---- types

int_asked : (top : Level) (guard : List Cond) (n : ℕ) → type_of top guard n ≡ Some kind.Int → list_any (asks top kind.Int n) guard ≡ true
int_asked top guard n e = go (list_any (asks top kind.Int n) guard) (list_any (asks top kind.Unary n) guard) (list_any (asks top kind.Ground n) guard) e
  where
    go : (a b c : Bool) → (if a then Some kind.Int else if b then Some kind.Unary else if c then Some kind.Ground else None) ≡ Some kind.Int → a ≡ true
    go true b c e = refl
    go false true c e = absurd (cc)
    go false false true e = absurd (cc)
    go false false false e = absurd (cc)

asked_int : (top : Level) (guard : List Cond) (n : ℕ) → list_any (asks top kind.Int n) guard ≡ true → type_of top guard n ≡ Some kind.Int
asked_int top guard n e = rw e refl

int_kind : (k : TypeKind) → plain.is_int_kind k ≡ true → k ≡ kind.Int
int_kind kind.Int e = refl
int_kind kind.Unary e = absurd (cc)
int_kind kind.Ground e = absurd (cc)

-- ---- a rule

module _ (names : List tree.Name) (is : IsNames names) (w : Weights) (table : List RuleTree) (rule : ℕ → tree.Rule) (r : RuleTree) (plan : GuardPlan)
    (accepted : IsAcceptedRule table r) (made : IsWellMadeRule r) (known : HasNames names (rule_names r)) (planned : IsPlan r plan) where
  order : IsInOrder table r
  order = in_order table r accepted

  abbrev ts : List ℕ
  ts = flat_map typed_name (items_of r.head)

  all_known : LevelKnown names r.head × AllByRecursion (λ c. AllBelow names (condition_names c)) r.guard × LevelKnown names r.body
  all_known =
      let all = recursion_from_All (Below names) (rule_names r) known in
      let front = all_left (Below names) (level_names r.head ++ flat_map condition_names r.guard) (level_names r.body) all in (
        level_known names r.head (all_left (Below names) (level_names r.head) (flat_map condition_names r.guard) front),
        conditions_apart names r.guard (all_right (Below names) (level_names r.head) (flat_map condition_names r.guard) front),
        level_known names r.body (all_right (Below names) (level_names r.head ++ flat_map condition_names r.guard) (level_names r.body) all),
      )

  rows : NoneApplies (rows_of_conditions r.head [] r.guard)
  rows = all_of_left (λ (row : Row). row.places ≡ []) (rows_of_conditions r.head [] r.guard) (rows_of_typed r) accepted.guard

  abbrev stands : ℕ → Bool
  stands n = plain.stands_for_int plan.kinds plan.bound n

  abbrev is_int : tree.Name → Bool
  is_int p = stands (number_in names p)

  alike : (n : ℕ) → n < length names → is_int (N names n) ≡ stands n
  alike n l = ap stands (number_named names is n l)

  heads_are : (l : Level) → typed_contexts (level_of names rule l) ≡ map (N names) (flat_map typed_name (items_of l))
  heads_are l = ap typed_contexts (level_tree names rule l) ∙ typed_named names rule (head_at l) ∙ ap (λ xs. map (N names) (flat_map typed_name xs)) (sym (same_uses l))

  closed_tree : (l : Level) → closed_names (all_contexts (level_of names rule l)) ≡ map (N names) (flat_map closed_name (items_of l))
  closed_tree l = ap (λ l. closed_names (all_contexts l)) (level_tree names rule l) ∙ closed_named names rule (head_at l) ∙ ap (λ xs. map (N names) (flat_map closed_name xs)) (sym (same_uses l))

  -- ---- what stands for an integer by the plan does so by the guard

  int_of_kinds : (n : ℕ) → list_any (plain.is_int_use n) plan.kinds ≡ true → (type_of r.head r.guard n ≡ Some kind.Int) × (1 ≤ how_often n ts)
  int_of_kinds n e =
      let found = any_among (plain.is_int_use n) plan.kinds e in
      let u = found.0 in
      let parts = and_true (u.name == n) (plain.is_int_kind u.kind) found.2 in
      let same = eqb-true u.name n parts.0 in
      let right = right_use r.head r.guard u 0 (leaves_by_membrane r.head) (subst (λ us. Among u us) planned.kinds found.1) in
      subst (λ m. (type_of r.head r.guard m ≡ Some kind.Int) × (1 ≤ how_often m ts)) same
      (right.0 ∙ ap Some (int_kind u.kind parts.1), subst (λ ns. 1 ≤ how_often u.name ns) (by_membranes r.head) right.1)

  int_of_bound : (n : ℕ) → list_any (λ m. m == n) plan.bound ≡ true → Among n plan.bound
  int_of_bound n e = let found = any_among (λ (m : ℕ). m == n) plan.bound e in subst (λ m. Among m plan.bound) (eqb-true found.0 n found.2) found.1

  made_there : (n : ℕ) → stands n ≡ true → (n < length names) × ((c : tree.Condition) × Among c (map (condition_of names) r.guard) × MakesInt (map (N names) ts) (N names n) c)
  made_there n e = go (either_true (list_any (plain.is_int_use n) plan.kinds) (list_any (λ m. m == n) plan.bound) e)
    where
      go : (list_any (plain.is_int_use n) plan.kinds ≡ true) ⊎ (list_any (λ m. m == n) plan.bound ≡ true) → (n < length names) × ((c : tree.Condition) × Among c (map (condition_of names) r.guard) × MakesInt (map (N names) ts) (N names n) c)
      go (inl h) =
          let t = int_of_kinds n h in (
            known_one names ts n all_known.0.typed t.1,
            all_asked_made names is r.head r.guard ts all_known.0.typed (typed_in_head table r order) (guard_typed table r order) n [] r.guard all_known.1 rows (int_asked r.head r.guard n t.0),
          )
      go (inr h) =
          let b = subst (λ ns. Among n ns) planned.bound (int_of_bound n h) in (
            bound_known names r.head n r.guard all_known.1 b,
            bound_made names is r.head r.guard ts all_known.0.typed (typed_in_head table r order) (guard_typed table r order) n r.guard all_known.1 b,
          )

  -- ---- and back

  stands_typed : (n : ℕ) → 1 ≤ how_often n ts → list_any (asks r.head kind.Int n) r.guard ≡ true → stands n ≡ true
  stands_typed n h a =
      let found = used_as r.head r.guard n kind.Int (asked_int r.head r.guard n a) 0 (leaves_by_membrane r.head) (subst (λ ns. 1 ≤ how_often n ns) (sym (by_membranes r.head)) h) in
      let one : plain.is_int_use n found.0 ≡ true = rw (eq-eqb found.0.name n found.2) (rw found.3 refl) in
      let there = among_any (plain.is_int_use n) plan.kinds (subst (λ us. Among found.0 us) (sym planned.kinds) found.1) one in
      rw there refl

  stands_bound : (n : ℕ) → Among n plan.bound → stands n ≡ true
  stands_bound n k = let there = among_any (λ (m : ℕ). m == n) plan.bound k (eq-eqb n n refl) in go (list_any (plain.is_int_use n) plan.kinds) there
    where
      go : (b : Bool) → list_any (λ m. m == n) plan.bound ≡ true → (b || list_any (λ m. m == n) plan.bound) ≡ true
      go true e = refl
      go false e = e

  back : (p : tree.Name) (c : tree.Condition) → Among c (map (condition_of names) r.guard) → MakesInt (map (N names) ts) p c → is_int p ≡ true
  back p c k m = go (made_int names is r.head r.guard ts all_known.0.typed (typed_in_head table r order) (guard_typed table r order) p [] r.guard (λ d i. elim i [ ]) (λ d i. i) rows c k m)
    where
      go : (n : ℕ) × (N names n ≡ p) × (((1 ≤ how_often n ts) × (list_any (asks r.head kind.Int n) r.guard ≡ true)) ⊎ Among n (bindings r.head r.guard)) → is_int p ≡ true
      go x = subst (λ q. is_int q ≡ true) x.1 (by x.0 x.2)
        where
          by : (n : ℕ) → ((1 ≤ how_often n ts) × (list_any (asks r.head kind.Int n) r.guard ≡ true)) ⊎ Among n (bindings r.head r.guard) → is_int (N names n) ≡ true
          by n (inl h) = alike n (known_one names ts n all_known.0.typed h.0) ∙ stands_typed n h.0 h.1
          by n (inr b) = alike n (bound_known names r.head n r.guard all_known.1 b) ∙ stands_bound n (subst (λ ns. Among n ns) (sym planned.bound) b)

  abbrev tree_is : tree.Rule
  tree_is = rule_tree names rule r

  exactly_to : (p : tree.Name) → is_int p ≡ true → StandsForInt tree_is p
  exactly_to p h =
      let m = made_there (number_in names p) h in
      let c = m.1.0 in
      let here = subst (λ hs. MakesInt hs (N names (number_in names p)) c) (sym (heads_are r.head)) m.1.2 in
      (c, m.1.1, subst (λ q. MakesInt (typed_contexts (level_of names rule r.head)) q c) (number_is names p m.0) here)

  exactly_from : (p : tree.Name) → StandsForInt tree_is p → is_int p ≡ true
  exactly_from p s = back p s.0 s.1 (subst (λ hs. MakesInt hs p s.0) (heads_are r.head) s.2)

  -- ---- what stands once

  module _ (lowered : plain.is_lowered w r plan ≡ true) where
    light : (nat_lt (plain.level_weight w plan.kinds plan.bound r.body) (plain.level_weight w plan.kinds plan.bound r.head) ≡ true)
        × ((list_all (plain.stands_once r.body) plan.kinds && list_all (plain.closed_once r.body) (contexts_of r.head)) ≡ true)
    light = and_true (nat_lt (plain.level_weight w plan.kinds plan.bound r.body) (plain.level_weight w plan.kinds plan.bound r.head)) (list_all (plain.stands_once r.body) plan.kinds && list_all (plain.closed_once r.body) (contexts_of r.head)) lowered

    all_once : (list_all (plain.stands_once r.body) plan.kinds ≡ true) × (list_all (plain.closed_once r.body) (contexts_of r.head) ≡ true)
    all_once = and_true (list_all (plain.stands_once r.body) plan.kinds) (list_all (plain.closed_once r.body) (contexts_of r.head)) light.1

    has_kind : (n : ℕ) → 1 ≤ how_often n ts → IsSome (type_of r.head r.guard n)
    has_kind n h =
        let found = some_of leaf_name n (leaves_of r.head) (subst (λ ns. 1 ≤ how_often n ns) (sym (typed_items r.head)) h) in
        by found.0 found.1 found.2
      where
        by : (l : Leaf) → Contains (leaves_of r.head) l → 1 ≤ how_often n (leaf_name l) → IsSome (type_of r.head r.guard n)
        by (leaf.Atom f os p) c h = absurd (omega (arith, h))
        by (leaf.Typed m o p) c h = subst (λ k. IsSome (type_of r.head r.guard k)) (alone n m h) (order.has_type m o p c)

    once_typed : (n : ℕ) → 1 ≤ how_often n ts → stands n ≡ false → plain.typed_uses n r.body ≤ 1
    once_typed n h not =
        let k = some_is (type_of r.head r.guard n) (has_kind n h) in
        let found = used_as r.head r.guard n k.0 k.1 0 (leaves_by_membrane r.head) (subst (λ ns. 1 ≤ how_often n ns) (sym (by_membranes r.head)) h) in
        let u = found.0 in
        let there = subst (λ us. Among u us) (sym planned.kinds) found.1 in
        by u there found.2 (either_true (plain.is_int_kind u.kind) (nat_le (plain.typed_uses u.name r.body) 1) (all_among (plain.stands_once r.body) plan.kinds there all_once.0))
      where
        by : (u : TypedUse) → Among u plan.kinds → u.name ≡ n → (plain.is_int_kind u.kind ≡ true) ⊎ (nat_le (plain.typed_uses u.name r.body) 1 ≡ true) → plain.typed_uses n r.body ≤ 1
        by u k e (inl i) = absurd (
            let one : plain.is_int_use n u ≡ true = rw (eq-eqb u.name n e) i in
            let there = among_any (plain.is_int_use n) plan.kinds k one in
            let yes : stands n ≡ true = rw there refl in
            let clash : true ≡ false = sym yes ∙ not in
            cc
            )
        by u k e (inr l) = subst (λ m. plain.typed_uses m r.body ≤ 1) e (leb-true (plain.typed_uses u.name r.body) 1 l)

    abbrev bs : List ℕ
    bs = flat_map typed_name (items_of r.body)

    few_typed : (n : ℕ) → how_often n (others names is_int stands alike bs) ≤ 1
    few_typed n = go (how_often n (others names is_int stands alike bs)) refl
      where
        uses_are : plain.typed_uses n r.body ≡ how_often n bs
        uses_are = typed_uses_are n r.body ∙ ap (how_often n) (typed_items r.body)

        known_typed : stands n ≡ false → (1 ≤ how_often n ts) ⊎ (list_any (is_left_of n) r.guard ≡ true) → plain.typed_uses n r.body ≤ 1
        known_typed not (inl h) = once_typed n h not
        known_typed not (inr l) = by (in_head r.head n) refl
          where
            by : (b : Bool) → in_head r.head n ≡ b → plain.typed_uses n r.body ≤ 1
            by true e = once_typed n (guard_typed table r order n (left_used_there names n r.guard l) e) not
            by false e = absurd (let yes = stands_bound n (subst (λ ns. Among n ns) (sym planned.bound) (lefts_bound r.head n r.guard l e)) in let clash : true ≡ false = sym yes ∙ not in cc)

        go : (k : ℕ) → how_often n (others names is_int stands alike bs) ≡ k → k ≤ 1
        go zero e = omega arith
        go (suc k) e =
            let some : 1 ≤ how_often n (others names is_int stands alike bs) = omega (arith, e) in
            let not = others_not names is_int stands alike n bs some in
            let few = others_few names is_int stands alike n bs in
            let once = known_typed not (typed_known table r order n (omega (arith, some, few))) in
            omega (arith, e, few, once, uses_are)

    abbrev cs : List ℕ
    cs = flat_map closed_name (items_of r.body)

    few_closed : (n : ℕ) → how_often n cs ≤ 1
    few_closed n = go (how_often n cs) refl
      where
        once : (u : CtxUse) → Among u (contexts_of r.head) → u.closed ≡ true → u.name ≡ n → plain.closed_uses n r.body ≤ 1
        once u k c e =
            let test : (if u.closed then nat_le (plain.closed_uses u.name r.body) 1 else true) ≡ true = all_among (plain.closed_once r.body) (contexts_of r.head) k all_once.1 in
            let low : nat_le (plain.closed_uses u.name r.body) 1 ≡ true = subst (λ b. (if b then nat_le (plain.closed_uses u.name r.body) 1 else true) ≡ true) c test in
            subst (λ m. plain.closed_uses m r.body ≤ 1) e (leb-true (plain.closed_uses u.name r.body) 1 low)

        uses_are : plain.closed_uses n r.body ≡ how_often n cs
        uses_are = closed_uses_are n r.body ∙ ap (how_often n) (sym (closed_are r.body))

        go : (k : ℕ) → how_often n cs ≡ k → k ≤ 1
        go zero e = omega arith
        go (suc k) e =
            let there = closed_there n (contexts_of r.head) (subst (λ ns. 1 ≤ how_often n ns) (closed_are r.head) (closed_known table r order n (omega (arith, e)))) in
            let few = once there.0 there.1 there.2 there.3 in
            omega (arith, e, few, uses_are)

    fit : AllByRecursion (IsFit names) (leaves_of r.head) × AllByRecursion (IsFit names) (leaves_of r.body)
    fit =
        let fits = recursion_from_All FitsArity (leaves_of r.head ++ leaves_of r.body) made.arities in (
          all_fit names (leaves_of r.head) all_known.0.leaves (all_left FitsArity (leaves_of r.head) (leaves_of r.body) fits),
          all_fit names (leaves_of r.body) all_known.2.leaves (all_right FitsArity (leaves_of r.head) (leaves_of r.body) fits),
        )

    -- so the rule is lowered as a tree
    pub lowered_tree : Lowered (weighing names w) (rule_tree names rule r)
    lowered_tree = record {
      is_int = is_int;
      exactly = λ p. (exactly_to p, exactly_from p);
      lighter =
          let head_is = level_agrees names is w is_int plan.kinds plan.bound alike rule r.head fit.0 in
          let body_is = level_agrees names is w is_int plan.kinds plan.bound alike rule r.body fit.1 in
          let less = ltb-true (plain.level_weight w plan.kinds plan.bound r.body) (plain.level_weight w plan.kinds plan.bound r.head) light.0 in
          omega (arith, head_is, body_is, less);
      once = subst (λ ps. EachOnce (other_contexts is_int ps)) (sym (heads_are r.body)) (subst EachOnce (sym (others_named names is_int stands alike bs all_known.2.typed)) (each_once names is (others names is_int stands alike bs) (others_known names is_int stands alike bs all_known.2.typed) few_typed));
      once_closed = subst EachOnce (sym (closed_tree r.body)) (each_once names is cs all_known.2.closed few_closed);
    }
