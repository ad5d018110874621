-- A list that has the names of a solid, by their numbers, has those of its tree.
use Rattle.std.proofs.Common.{ℕ, zero, suc, ◌<◌, ◌==◌, Bool, true, false, if◌then◌else◌, List, [], ◌∷◌, ◌++◌, map, length, All, sym, subst, arith}
use Rattle.std.specs.Prelude.{Contains}
use Rattle.std.specs.List.{flat_map, AllByRecursion}
use Rattle.std.proofs.lemmas.Grind.{flat_map-append}
use Rattle.std.proofs.lemmas.List.{map-append}
use Rattle.std.proofs.lemmas.List.Elements.{Contains-get_or}
use Rattle.lmn_base.specs.declared.functor.Label.{Label}
use Rattle.lmn_base.specs.declared.functor.Label.TheVariants.{Name, Int}
use Rattle.lmn_base.specs.declared.functor.TheConstants.{INT_NAME, UNARY_NAME, GROUND_NAME}
use Rattle.lmn_base.specs.declared.guard.Expr.{Expr}
use Rattle.lmn_base.specs.declared.guard.Expr as guard_expr
use Rattle.lmn_base.specs.declared.guard.Expr.TheViews.{roll-Expr}
use Rattle.lmn_base.specs.declared.guard.Expr.TheOpen.{Expr-F, Int as Integer, Ctx, Op}
use Rattle.lmn_base.specs.declared.guard.Expr.TheFolds.{fold-roll-Expr, ind-Expr}
use Rattle.lmn_base.specs.declared.guard.Cond.{Cond}
use Rattle.lmn_base.specs.declared.guard.Cond.TheVariants.{Kind, Compare, Equal, Differ}
use Rattle.lmn_base.specs.declared.level.CtxUse.{CtxUse}
use Rattle.lmn_base.specs.declared.level.Leaf.{Leaf}
use Rattle.lmn_base.specs.declared.level.Leaf.TheVariants.{Atom, Typed}
use Rattle.lmn_base.specs.declared.level.Level.{Level}
use Rattle.lmn_base.specs.declared.level.Level.TheFolds.{fold-roll-Level, ind-Level}
use Rattle.lmn_base.specs.declared.level.Occ.{Occ}
use Rattle.lmn_base.specs.Levels.{leaves_of, contexts_of, rule_contexts_of, rules_of}
use Rattle.lmn_base.specs.Names.{label_names, leaf_names, context_names, expression_names_step, expression_names, condition_names}
use Rattle.lmn_congruence.specs.Rules as tree
use Rattle.lmn_congruence.specs.Translation.{name_of, names_of, context_with, context_tree, atom_or_connector, leaf_of, level_of, level_step, levels, rules, kind_of, expression_of, condition_of}
use Rattle.lmn_congruence.specs.Translation as translation
use Rattle.lmn_flatten_plain.specs.NamesHeld.{Held, LeafHeld, ExpressionHeld, ConditionHeld, UntypedHeld, LevelHeld, LevelsHeld, RuleHeld, RulesHeld}
use Rattle.lmn_base.proofs.Lists.{all_of_left, all_of_right}

module _ (names : List tree.Name) where
  pub held : (n : ℕ) → n < length names → Contains names (name_of names n)
  held n h = Contains-get_or names n [] h

  abbrev pub Have : List ℕ → Type 0
  Have ns = All (λ n. n < length names) ns

  pub first : (n : ℕ) (ns : List ℕ) → Have (n ∷ ns) → n < length names
  first n ns h = h zero n (omega arith)

  rest : (n : ℕ) (ns : List ℕ) → Have (n ∷ ns) → Have ns
  rest n ns h = all_of_right (λ n. n < length names) (n ∷ []) ns h

  atom_held : (l : Label) (xs : List ℕ) → Have (label_names l) → LeafHeld names (atom_or_connector names l xs)
  atom_held (Name zero) [] h = held zero (first zero [] h)
  atom_held (Name zero) (a ∷ []) h = held zero (first zero [] h)
  atom_held (Name zero) (a ∷ (b ∷ [])) h = tt
  atom_held (Name zero) (a ∷ (b ∷ (c ∷ xs))) h = held zero (first zero [] h)
  atom_held (Name (suc n)) xs h = held (suc n) (first (suc n) [] h)
  atom_held (Int z) xs h = tt

  leaf_held : (l : Leaf) → Have (leaf_names l) → LeafHeld names (leaf_of names l)
  leaf_held (Atom f os pos) h = atom_held f.label (map (λ (o : Occ). o.link) os) h
  leaf_held (Typed n o pos) h = held n (first n [] h)

  leaves_held : (ls : List Leaf) → Have (flat_map leaf_names ls) → AllByRecursion (LeafHeld names) (map (leaf_of names) ls)
  leaves_held [] h = tt
  leaves_held (l ∷ ls) h =
      (leaf_held l (all_of_left (λ n. n < length names) (leaf_names l) (flat_map leaf_names ls) h), leaves_held ls (all_of_right (λ n. n < length names) (leaf_names l) (flat_map leaf_names ls) h))

  contexts_held : (us : List CtxUse) → Have (context_names us) → AllByRecursion (Held names) (names_of names us)
  contexts_held [] h = tt
  contexts_held (u ∷ us) h = (held u.name (first u.name (context_names us) h), contexts_held us (rest u.name (context_names us) h))

  untyped_held : (us : List CtxUse) → Have (context_names us) → AllByRecursion (UntypedHeld names) (map (context_tree names) us)
  untyped_held [] h = tt
  untyped_held (u ∷ us) h = (one u.closed (held u.name (first u.name (context_names us) h)), untyped_held us (rest u.name (context_names us) h))
    where
      one : {n : tree.Name} (closed : Bool) → Held names n → UntypedHeld names (context_with closed n)
      one true k = k
      one false k = k

  -- Conditions.

  abbrev ExprHeld : Expr → Type 0
  ExprHeld e = Have (expression_names e) → ExpressionHeld names (expression_of names e)

  expression_step_held : (z : Expr-F ((e : Expr) × ExprHeld e)) → ExprHeld (roll-Expr (guard_expr.map-Expr ((e : Expr) × ExprHeld e) Expr (λ e. e.0) z))
  expression_step_held (Integer k) h =
      let P : tree.Expression → Type 0 = ExpressionHeld names in
      subst P (sym (fold-roll-Expr tree.Expression (translation.expression_step names) (Integer k))) tt
  expression_step_held (Ctx u) h =
      let P : tree.Expression → Type 0 = ExpressionHeld names in
      let k = subst Have (fold-roll-Expr (List ℕ) expression_names_step (Ctx u)) h in
      subst P (sym (fold-roll-Expr tree.Expression (translation.expression_step names) (Ctx u))) (held u.name (first u.name [] k))
  expression_step_held (Op op a b) h =
      let P : tree.Expression → Type 0 = ExpressionHeld names in
      let left = a.value in
      let right = b.value in
      let k = subst Have (fold-roll-Expr (List ℕ) expression_names_step _) h in
      subst P (sym (fold-roll-Expr tree.Expression (translation.expression_step names) _))
      (left.1 (all_of_left (λ n. n < length names) (expression_names left.0) (expression_names right.0) k), right.1 (all_of_right (λ n. n < length names) (expression_names left.0) (expression_names right.0) k))

  expression_held : (e : Expr) → Have (expression_names e) → ExpressionHeld names (expression_of names e)
  expression_held = ind-Expr ExprHeld (λ y z is. let P : Expr-F Expr → Type 0 = λ v. ExprHeld (roll-Expr v) in subst P is (expression_step_held z))

  kind_held : (n : ℕ) (us : List CtxUse) → Have (n ∷ context_names us) → ConditionHeld names (kind_of names n us)
  kind_held n [] h = (held n (first n [] h), tt)
  kind_held n (u ∷ []) h = go (n == INT_NAME) (n == UNARY_NAME) (n == GROUND_NAME)
    where
      one : Contains names (name_of names u.name)
      one = held u.name (first u.name [] (rest n (context_names (u ∷ [])) h))

      go : (a b c : Bool) → ConditionHeld names (if a then tree.is_kind tree.int (name_of names u.name) else (if b then tree.is_kind tree.unary (name_of names u.name)
          else (if c then tree.is_kind tree.grounded (name_of names u.name) else tree.unknown (name_of names n) (names_of names (u ∷ [])))))
      go true b c = one
      go false true c = one
      go false false true = one
      go false false false = (held n (first n (context_names (u ∷ [])) h), (one, tt))
  kind_held n (u ∷ v ∷ us) h = (held n (first n (context_names (u ∷ v ∷ us)) h), contexts_held (u ∷ v ∷ us) (rest n (context_names (u ∷ v ∷ us)) h))

  condition_held : (c : Cond) → Have (condition_names c) → ConditionHeld names (condition_of names c)
  condition_held (Kind n us pos) h = kind_held n us h
  condition_held (Compare op l r pos) h =
      (expression_held l (all_of_left (λ n. n < length names) (expression_names l) (expression_names r) h), expression_held r (all_of_right (λ n. n < length names) (expression_names l) (expression_names r) h))
  condition_held (Equal u e pos) h = (held u.name (first u.name (expression_names e) h), expression_held e (rest u.name (expression_names e) h))
  condition_held (Differ u v pos) h = (held u.name (first u.name (v.name ∷ []) h), held v.name (first v.name [] (rest u.name (v.name ∷ []) h)))

  pub guard_held : (cs : List Cond) → Have (flat_map condition_names cs) → AllByRecursion (ConditionHeld names) (map (condition_of names) cs)
  guard_held [] h = tt
  guard_held (c ∷ cs) h = (
    condition_held c (all_of_left (λ n. n < length names) (condition_names c) (flat_map condition_names cs) h),
    guard_held cs (all_of_right (λ n. n < length names) (condition_names c) (flat_map condition_names cs) h),
  )

  -- Levels and rules.

  module _ (ρ : ℕ → tree.Rule) where
    rules_held : (ks : List ℕ) → All (λ k. RuleHeld names (ρ k)) ks → RulesHeld names (rules (map ρ ks))
    rules_held [] h = tt
    rules_held (k ∷ ks) h = (h zero k (omega arith), rules_held ks (all_of_right (λ k. RuleHeld names (ρ k)) (k ∷ []) ks h))

    -- what a level has to have
    pub record Has (l : Level) : Type 0 where
      pub leaves : Have (flat_map leaf_names (leaves_of l))
      pub contexts : Have (context_names (contexts_of l))
      pub rule_contexts : Have (context_names (rule_contexts_of l))
      pub rule_numbers : All (λ k. RuleHeld names (ρ k)) (rules_of l)

    abbrev pub LevelIsHeld : Level → Type 0
    LevelIsHeld l = Has l → LevelHeld names (level_of names ρ l)

    record HasBelow (ls : List Level) : Type 0 where
      leaves : Have (flat_map leaf_names (flat_map (λ inner. inner) (map leaves_of ls)))
      contexts : Have (context_names (flat_map (λ inner. inner) (map contexts_of ls)))
      rule_contexts : Have (context_names (flat_map (λ inner. inner) (map rule_contexts_of ls)))
      rule_numbers : All (λ k. RuleHeld names (ρ k)) (flat_map (λ inner. inner) (map rules_of ls))

    two_leaves : (ks ls : List Leaf) → Have (flat_map leaf_names (ks ++ ls)) → Have (flat_map leaf_names ks) × Have (flat_map leaf_names ls)
    two_leaves ks ls h =
        let k = subst Have (flat_map-append leaf_names ks ls) h in
        (all_of_left (λ n. n < length names) (flat_map leaf_names ks) (flat_map leaf_names ls) k, all_of_right (λ n. n < length names) (flat_map leaf_names ks) (flat_map leaf_names ls) k)

    two_contexts : (ks ls : List CtxUse) → Have (context_names (ks ++ ls)) → Have (context_names ks) × Have (context_names ls)
    two_contexts ks ls h =
        let k = subst Have (map-append (λ (u : CtxUse). u.name) ks ls) h in
        (all_of_left (λ n. n < length names) (context_names ks) (context_names ls) k, all_of_right (λ n. n < length names) (context_names ks) (context_names ls) k)

    below_held : (ls : List ((l : Level) × LevelIsHeld l)) → HasBelow (map (λ e. e.0) ls) → LevelsHeld names (levels (map (level_of names ρ) (map (λ e. e.0) ls)))
    below_held [] h = tt
    below_held (e ∷ ls) h =
        let others = map (λ (e : (l : Level) × LevelIsHeld l). e.0) ls in
        let a = two_leaves (leaves_of e.0) (flat_map (λ inner. inner) (map leaves_of others)) h.leaves in
        let b = two_contexts (contexts_of e.0) (flat_map (λ inner. inner) (map contexts_of others)) h.contexts in
        let c = two_contexts (rule_contexts_of e.0) (flat_map (λ inner. inner) (map rule_contexts_of others)) h.rule_contexts in
        let P : ℕ → Type 0 = λ k. RuleHeld names (ρ k) in (
          e.1 (record { leaves = a.0; contexts = b.0; rule_contexts = c.0; rule_numbers = all_of_left P (rules_of e.0) (flat_map (λ inner. inner) (map rules_of others)) h.rule_numbers }),
          below_held ls (record { leaves = a.1; contexts = b.1; rule_contexts = c.1; rule_numbers = all_of_right P (rules_of e.0) (flat_map (λ inner. inner) (map rules_of others)) h.rule_numbers }),
        )

    pub level_held : (l : Level) → LevelIsHeld l
    level_held = ind-Level LevelIsHeld (λ y z is h.
        let P : List Leaf → Type 0 = λ ls. Have (flat_map leaf_names ls) in
        let Q : List CtxUse → Type 0 = λ us. Have (context_names us) in
        let R : List ℕ → Type 0 = All (λ k. RuleHeld names (ρ k)) in
        let a = two_leaves y.leaves (flat_map (λ inner. inner) (map leaves_of y.membranes)) (subst P (fold-roll-Level (List Leaf) (λ l. l.leaves ++ flat_map (λ inner. inner) l.membranes) y) h.leaves) in
        let b = two_contexts y.contexts (flat_map (λ inner. inner) (map contexts_of y.membranes)) (subst Q (fold-roll-Level (List CtxUse) (λ l. l.contexts ++ flat_map (λ inner. inner) l.membranes) y) h.contexts) in
        let c = two_contexts y.rule_contexts (flat_map (λ inner. inner) (map rule_contexts_of y.membranes)) (subst Q (fold-roll-Level (List CtxUse) (λ l. l.rule_contexts ++ flat_map (λ inner. inner) l.membranes) y) h.rule_contexts) in
        let d = subst R (fold-roll-Level (List ℕ) (λ l. l.rules ++ flat_map (λ inner. inner) l.membranes) y) h.rule_numbers in
        let inside = subst (λ l. HasBelow l.membranes → LevelsHeld names (levels (map (level_of names ρ) l.membranes))) is (below_held z.membranes) in
        let P2 : ℕ → Type 0 = λ k. RuleHeld names (ρ k) in
        rw (fold-roll-Level tree.Level (level_step names ρ) y) (
          leaves_held y.leaves a.0,
          inside (record { leaves = a.1; contexts = b.1; rule_contexts = c.1; rule_numbers = all_of_right P2 y.rules (flat_map (λ inner. inner) (map rules_of y.membranes)) d }),
          untyped_held y.contexts b.0,
          contexts_held y.rule_contexts c.0,
          rules_held y.rules (all_of_left P2 y.rules (flat_map (λ inner. inner) (map rules_of y.membranes)) d),
        ))
