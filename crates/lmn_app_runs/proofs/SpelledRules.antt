-- A text can spell the rules and the top of the plain of a tree, where it can spell what their tokens mean.
use Rattle.std.proofs.Common.{◌≡◌, ◌≢◌, ℕ, zero, suc, ◌+◌, ◌<◌, ◌≤◌, ◌==◌, Bool, true, false, if◌then◌else◌, List, [], ◌∷◌, ◌++◌, map, length, get_or, slice_get, Some, All, refl, sym, ap, ◌∙◌, subst, arith}
use Rattle.std.specs.Prelude.{Contains, codes}
use Rattle.std.specs.List.{AllByRecursion, AllZip}
use Rattle.std.proofs.lemmas.Option.{same_Some}
use Rattle.lmn_base.specs.declared.functor.Label.TheVariants.{Name as Named}
use Rattle.lmn_base.specs.declared.functor.TheConstants.{INT_NAME, UNARY_NAME, GROUND_NAME}
use Rattle.lmn_base.specs.declared.guard.Cond.{Cond}
use Rattle.lmn_base.specs.declared.guard.Expr.{Expr}
use Rattle.lmn_base.specs.declared.guard.Expr.TheFolds.{fold-roll-Expr}
use Rattle.lmn_base.specs.declared.level.CtxUse.{CtxUse}
use Rattle.lmn_base.specs.declared.level.Level as base_level
use Rattle.lmn_base.specs.declared.level.Level.TheFolds.{fold-roll-Level}
use Rattle.lmn_base.specs.declared.rule.RuleTree.{RuleTree}
use Rattle.lmn_base.specs.Levels.{rules_of}
use Rattle.lmn_base.specs.Names.{IsNames}
use Rattle.lmn_base.specs.WellMade.{IsWellMade}
use Rattle.lmn_congruence.specs.Rules as tree
use Rattle.lmn_congruence.specs.Rules.{Name}
use Rattle.lmn_congruence.specs.Translation.{atom_or_connector, condition_of, context_with, context_tree, expression_of, kind_of, leaf_of, level_of, level_step, levels, name_of, names_of, numbered_rule, rules}
use Rattle.lmn_congruence.specs.Translation as translation
use Rattle.lmn_congruence.proofs.NumberedRules.{rule_has_number}
use Rattle.lmn_parser.specs.Syntax as syntax
use Rattle.lmn_flatten_plain.specs.Expanded.{Context, ExpandedLeaf, ExpandedLevel, ExpandedLevels, ExpandedRule, atom_leaf, level, level_and, no_level, typed_leaf}
use Rattle.lmn_flatten_plain.specs.Links.{Link}
use Rattle.lmn_flatten_plain.specs.Plains.{IsCond, IsExpr, IsRuleOf, all_numbered, context_use, number_of, numbered, numbered_context, numbered_leaf}
use Rattle.lmn_flatten_plain.specs.Spelled.{ConditionSpelled, ExpressionSpelled, UntypedSpelled, IsContextName, LabelSpelled, LeafSpelled, LevelSpelled, LevelsSpelled, SpellsNoConnector, RuleSpelled, RulesSpelled}
use Rattle.lmn_flatten_plain.proofs.Fitting.{numbers_in, rule_numbers}
use Rattle.lmn_flatten_plain.proofs.HeldLabels.{connector_number, held_back}
use Rattle.lmn_flatten_plain.proofs.NumberedLevels.{rules_numbered}
use Rattle.lmn_flatten_plain.proofs.SolidNumbers.{there}
use Rattle.lmn_app_runs.proofs.GoodLevels.{fits}
use Rattle.lmn_app_runs.proofs.SpelledParts.{ConditionRight, ContextRight, ExprRight, LeafRight, LevelRight, LevelsRight, RuleRight, TokenRight}
use Rattle.lmn_base.specs.declared.rule.Plain.{Plain}
use Rattle.lmn_base.specs.declared.refusal.Pos.{Pos}
use Rattle.lmn_lexer.specs.Laying.{Word}
use Rattle.lmn_base.proofs.Lists.{all_of_left, all_of_right}

-- the conditions of a guard are those of the language
abbrev pub NoneUnknown : List tree.Condition → Type 0
NoneUnknown [] = Unit {0}
NoneUnknown (tree.unknown n ns ∷ cs) = ⊥
NoneUnknown (tree.is_kind k p ∷ cs) = NoneUnknown cs
NoneUnknown (tree.compares c e f ∷ cs) = NoneUnknown cs
NoneUnknown (tree.equates p e ∷ cs) = NoneUnknown cs
NoneUnknown (tree.differs p q ∷ cs) = NoneUnknown cs

module _ (names : List Name) (is : IsNames names) where
  -- labels and names of contexts that a text can spell and the list holds
  abbrev pub IsLabel : tree.Label → Type 0
  IsLabel (tree.named n) = LabelSpelled (tree.named n) × Contains names n
  IsLabel (tree.integer z) = LabelSpelled (tree.integer z)

  abbrev pub IsContext : Name → Type 0
  IsContext n = IsContextName n × Contains names n

  context_back : (n : Name) → IsContext n → IsContextName (name_of names (number_of names n))
  context_back n h = subst IsContextName (sym (held_back names n h.1)) h.0

  -- ---- leaves

  named_leaf : (n : Name) (xs : List ℕ) → IsLabel (tree.named n) → LeafSpelled (atom_or_connector names (Named (number_of names n)) xs)
  named_leaf n xs h = go (number_of names n) refl xs
    where
      spelled : (k : ℕ) → number_of names n ≡ k → LabelSpelled (tree.named (name_of names k))
      spelled k e = subst (λ m. LabelSpelled (tree.named m)) (sym (held_back names n h.1) ∙ ap (name_of names) e) h.0

      apart : (j : ℕ) → number_of names n ≡ suc j → name_of names (suc j) ≢ codes "="
      apart j e f =
          let same : n ≡ codes "=" = sym (held_back names n h.1) ∙ ap (name_of names) e ∙ f in
          let zero_is : number_of names n ≡ 0 = ap (number_of names) same ∙ connector_number names is in
          absurd (omega (arith, e, zero_is))

      other : (j : ℕ) → number_of names n ≡ suc j → (xs : List ℕ) → SpellsNoConnector (tree.named (name_of names (suc j))) xs
      other j e [] = tt
      other j e (x ∷ []) = tt
      other j e (x ∷ y ∷ []) = apart j e
      other j e (x ∷ y ∷ z ∷ xs) = tt

      go : (k : ℕ) → number_of names n ≡ k → (xs : List ℕ) → LeafSpelled (atom_or_connector names (Named k) xs)
      go zero e [] = (spelled 0 e, tt)
      go zero e (x ∷ []) = (spelled 0 e, tt)
      go zero e (x ∷ y ∷ []) = tt
      go zero e (x ∷ y ∷ z ∷ xs) = (spelled 0 e, tt)
      go (suc j) e xs = (spelled (suc j) e, other j e xs)

  module _ (number : Link → ℕ) (ρ : ℕ → tree.Rule) where
    leaf_spelled : (l : ExpandedLeaf) → LeafRight IsLabel IsContext l → LeafSpelled (leaf_of names (numbered_leaf names number l))
    leaf_spelled (atom_leaf (tree.named n) us place) h = named_leaf n _ h
    leaf_spelled (atom_leaf (tree.integer z) us place) h = (h, tt)
    leaf_spelled (typed_leaf n u place) h = context_back n h

    leaves_spelled : (ls : List ExpandedLeaf) → AllByRecursion (LeafRight IsLabel IsContext) ls → AllByRecursion LeafSpelled (map (leaf_of names) (map (numbered_leaf names number) ls))
    leaves_spelled [] h = tt
    leaves_spelled (l ∷ ls) h = (leaf_spelled l h.0, leaves_spelled ls h.1)

    contexts_spelled : (cs : List Context) → AllByRecursion (ContextRight IsLabel IsContext) cs → AllByRecursion IsContextName (names_of names (map (numbered_context names number) cs))
    contexts_spelled [] h = tt
    contexts_spelled (c ∷ cs) h = (context_back c.name h.0, contexts_spelled cs h.1)

    untyped_spelled : (cs : List Context) → AllByRecursion (ContextRight IsLabel IsContext) cs → AllByRecursion UntypedSpelled (map (context_tree names) (map (numbered_context names number) cs))
    untyped_spelled [] h = tt
    untyped_spelled (c ∷ cs) h = (one _ c.closed (context_back c.name h.0), untyped_spelled cs h.1)
      where
        one : (n : tree.Name) (closed : Bool) → IsContextName n → UntypedSpelled (context_with closed n)
        one n true k = k
        one n false k = k

    abbrev T : ℕ → Type 0
    T k = RuleSpelled (ρ k)

    each_spelled : (ks : List ℕ) → All T ks → RulesSpelled (rules (map ρ ks))
    each_spelled [] h = tt
    each_spelled (k ∷ ks) h = (h zero k (omega arith), each_spelled ks (all_of_right T (k ∷ []) ks h))

    -- ---- levels

    -- the level of the calculus, by recursion on the level
    abbrev mutual
      tree_level : ExpandedLevel → tree.Level
      tree_level (level ls ms cs os rs) =
          tree.level (map (leaf_of names) (map (numbered_leaf names number) ls)) (tree_levels ms)
          (map (context_tree names) (map (numbered_context names number) cs)) (names_of names (map (numbered_context names number) os)) (rules (map ρ rs))

      tree_levels : ExpandedLevels → tree.Levels
      tree_levels no_level = tree.no_level
      tree_levels (level_and l ls) = tree.level_and (tree_level l) (tree_levels ls)

    two : {a b : tree.Level} {ks ls : tree.Levels} → a ≡ b → ks ≡ ls → tree.level_and a ks ≡ tree.level_and b ls
    two e f = cc

    mutual
      as_tree : (l : ExpandedLevel) → level_of names ρ (numbered names number l) ≡ tree_level l
      as_tree (level ls ms cs os rs) =
          fold-roll-Level tree.Level (level_step names ρ) _
          ∙ ap (λ ks. tree.level (map (leaf_of names) (map (numbered_leaf names number) ls)) ks
          (map (context_tree names) (map (numbered_context names number) cs)) (names_of names (map (numbered_context names number) os)) (rules (map ρ rs))) (as_trees ms)

      as_trees : (ls : ExpandedLevels) → levels (map (level_of names ρ) (all_numbered names number ls)) ≡ tree_levels ls
      as_trees no_level = refl
      as_trees (level_and l ls) = two (as_tree l) (as_trees ls)

    mutual
      tree_spelled : (l : ExpandedLevel) → LevelRight IsLabel IsContext l → All T (rule_numbers l) → LevelSpelled (tree_level l)
      tree_spelled (level ls ms cs os rs) h k = (
        leaves_spelled ls h.0,
        trees_spelled ms h.1 (all_of_right T rs (numbers_in ms) k),
        untyped_spelled cs h.2,
        contexts_spelled os h.3,
        each_spelled rs (all_of_left T rs (numbers_in ms) k),
      )

      trees_spelled : (ls : ExpandedLevels) → LevelsRight IsLabel IsContext ls → All T (numbers_in ls) → LevelsSpelled (tree_levels ls)
      trees_spelled no_level h k = tt
      trees_spelled (level_and l ls) h k = (tree_spelled l h.0 (all_of_left T (rule_numbers l) (numbers_in ls) k), trees_spelled ls h.1 (all_of_right T (rule_numbers l) (numbers_in ls) k))

    -- a level with numbers for names and links
    pub level_spelled : (l : ExpandedLevel) (b : base_level.Level) → b ≡ numbered names number l → LevelRight IsLabel IsContext l → All T (rules_of b) → LevelSpelled (level_of names ρ b)
    level_spelled l b e h k =
        let numbers : All T (rule_numbers l) = subst (All T) (ap rules_of e ∙ rules_numbered names number l) k in
        subst LevelSpelled (sym (ap (level_of names ρ) e ∙ as_tree l)) (tree_spelled l h numbers)

  -- ---- guards

  module _ (words : List Word) (places : List Pos) where
    expression_spelled : (e : syntax.Expr) (x : Expr) → IsExpr words places names e x → ExprRight IsLabel IsContext words places e → ExpressionSpelled (expression_of names x)
    expression_spelled (syntax.integer p) x i h =
        subst ExpressionSpelled (sym (ap (expression_of names) i ∙ fold-roll-Expr tree.Expression (translation.expression_step names) _)) (fits _ h)
    expression_spelled (syntax.value p) x i h =
        subst ExpressionSpelled (sym (ap (expression_of names) i ∙ fold-roll-Expr tree.Expression (translation.expression_step names) _)) (context_back _ h)
    expression_spelled (syntax.operation op l r) x (left, right, i, a, b) h =
        subst ExpressionSpelled (sym (ap (expression_of names) i ∙ fold-roll-Expr tree.Expression (translation.expression_step names) _))
        (expression_spelled l left.value a h.0, expression_spelled r right.value b h.1)

    first_of : (ps : List ℕ) → AllByRecursion (TokenRight IsLabel IsContext words places) ps → AllByRecursion IsContextName (names_of names (map (context_use words places names) ps))
    first_of [] h = tt
    first_of (p ∷ ps) h = (context_back _ h.0, first_of ps h.1)

    -- the condition with this name and context, by what the number of its name is
    abbrev kind_by : ℕ → CtxUse → Bool → Bool → Bool → tree.Condition
    kind_by n u a b c =
        if a then tree.is_kind tree.int (name_of names u.name) else (if b then tree.is_kind tree.unary (name_of names u.name)
        else (if c then tree.is_kind tree.grounded (name_of names u.name) else tree.unknown (name_of names n) (names_of names (u ∷ []))))

    kind_spelled : (n : ℕ) (us : List CtxUse) (cs : List tree.Condition) → AllByRecursion IsContextName (names_of names us) → NoneUnknown (kind_of names n us ∷ cs) → ConditionSpelled (kind_of names n us) × NoneUnknown cs
    kind_spelled n [] cs h k = absurd k
    kind_spelled n (u ∷ []) cs h k = go (n == INT_NAME) (n == UNARY_NAME) (n == GROUND_NAME) k
      where
        go : (a b c : Bool) → NoneUnknown (kind_by n u a b c ∷ cs) → ConditionSpelled (kind_by n u a b c) × NoneUnknown cs
        go true b c k = (h.0, k)
        go false true c k = (h.0, k)
        go false false true k = (h.0, k)
        go false false false k = absurd k
    kind_spelled n (u ∷ v ∷ us) cs h k = absurd k

    guard_spelled : (cs : List syntax.WrittenCondition) (xs : List Cond) → AllZip (IsCond words places names) cs xs → AllByRecursion (ConditionRight IsLabel IsContext words places) cs
        → NoneUnknown (map (condition_of names) xs) → AllByRecursion ConditionSpelled (map (condition_of names) xs)
    guard_spelled [] [] i h k = tt
    guard_spelled [] (x ∷ xs) i h k = absurd i
    guard_spelled (c ∷ cs) [] i h k = absurd i
    guard_spelled (syntax.called p ps ∷ cs) (x ∷ xs) i h k =
        let more = map (condition_of names) xs in
        let P : tree.Condition → Type 0 = λ y. NoneUnknown (y ∷ more) in
        let u = kind_spelled _ (map (context_use words places names) ps) more (first_of ps h.0) (subst P (ap (condition_of names) i.0) k) in
        (subst ConditionSpelled (sym (ap (condition_of names) i.0)) u.0, guard_spelled cs xs i.1 h.1 u.1)
    guard_spelled (syntax.compared op l r s ∷ cs) (x ∷ xs) ((left, right, e, a, b), i) h k =
        let more = map (condition_of names) xs in
        let P : tree.Condition → Type 0 = λ y. NoneUnknown (y ∷ more) in
        (subst ConditionSpelled (sym (ap (condition_of names) e)) (expression_spelled l left a h.0.0, expression_spelled r right b h.0.1), guard_spelled cs xs i h.1 (subst P (ap (condition_of names) e) k))
    guard_spelled (syntax.equal p r s ∷ cs) (x ∷ xs) ((right, e, a), i) h k =
        let more = map (condition_of names) xs in
        let P : tree.Condition → Type 0 = λ y. NoneUnknown (y ∷ more) in
        (subst ConditionSpelled (sym (ap (condition_of names) e)) (context_back _ h.0.0, expression_spelled r right a h.0.1), guard_spelled cs xs i h.1 (subst P (ap (condition_of names) e) k))
    guard_spelled (syntax.different p q s ∷ cs) (x ∷ xs) (e, i) h k =
        let more = map (condition_of names) xs in
        let P : tree.Condition → Type 0 = λ y. NoneUnknown (y ∷ more) in
        (subst ConditionSpelled (sym (ap (condition_of names) e)) (context_back _ h.0.0, context_back _ h.0.1), guard_spelled cs xs i h.1 (subst P (ap (condition_of names) e) k))

    -- ---- rules of a table

    rule_here : (rs : List ExpandedRule) (ts : List RuleTree) → AllZip (IsRuleOf words places names) rs ts → AllByRecursion (RuleRight IsLabel IsContext words places) rs
        → (k : ℕ) (t : RuleTree) → slice_get ts k ≡ Some t → (r : ExpandedRule) × IsRuleOf words places names r t × RuleRight IsLabel IsContext words places r
    rule_here [] [] i h zero t e = absurd (cc)
    rule_here [] [] i h (suc k) t e = absurd (cc)
    rule_here [] (u ∷ ts) i h k t e = absurd i
    rule_here (r ∷ rs) [] i h k t e = absurd i
    rule_here (r ∷ rs) (u ∷ ts) i h zero t e =
        let P : RuleTree → Type 0 = IsRuleOf words places names r in (r, subst P (same_Some u t e) i.0, h.0)
    rule_here (r ∷ rs) (u ∷ ts) i h (suc k) t e = rule_here rs ts i.1 h.1 k t e

    module _ (p : Plain) (well : IsWellMade p) (rs : List ExpandedRule) (each : AllZip (IsRuleOf words places names) rs p.rules) (right : AllByRecursion (RuleRight IsLabel IsContext words places) rs)
        (known : (k : ℕ) (t : RuleTree) → slice_get p.rules k ≡ Some t → NoneUnknown (map (condition_of names) t.guard)) where
      abbrev rule_at : ℕ → tree.Rule
      rule_at = numbered_rule names p.rules

      spelled_rule : (m k : ℕ) → length p.rules ≤ k + m → k < length p.rules → RuleSpelled (rule_at k)
      spelled_rule zero k h l = absurd (omega (arith, h, l))
      spelled_rule (suc m) k h l =
          let found = there p.rules k l in
          let t = found.0 in
          let here = rule_here rs p.rules each right k t found.1 in
          let r = here.0 in
          let i = here.1 in
          let inside = well.rules_in_rules k t found.1 in
          let T : ℕ → Type 0 = λ j. RuleSpelled (rule_at j) in
          let all : All T (rules_of t.head ++ rules_of t.body) =
          (λ j d b. let u = inside j d b in spelled_rule m (get_or (rules_of t.head ++ rules_of t.body) j d) (omega (arith, h, u.0)) u.1) in
          let R : tree.Rule → Type 0 = RuleSpelled in
          subst R (sym (rule_has_number names p k t well found.1)) (
            level_spelled i.number rule_at r.head t.head i.head here.2.0 (all_of_left T (rules_of t.head) (rules_of t.body) all),
            guard_spelled r.guard t.guard i.guard here.2.1 (known k t found.1),
            level_spelled i.number rule_at r.body t.body i.body here.2.2 (all_of_right T (rules_of t.head) (rules_of t.body) all),
          )

      pub rules_spelled : (k : ℕ) → k < length p.rules → RuleSpelled (rule_at k)
      rules_spelled k l = spelled_rule (length p.rules) k (omega arith) l
