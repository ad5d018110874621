-- The plain that is read of a text has only names of the list that reading leaves.
use Rattle.std.proofs.Common.{◌≡◌, ℕ, ◌<◌, List, [], ◌∷◌, ◌++◌, length, map, slice_get, Some, sym, ap, ◌∙◌, subst}
use Rattle.std.specs.Prelude.{option_map}
use Rattle.std.specs.List.{AllByRecursion, flat_map, AllZip}
use Rattle.std.proofs.lemmas.List.Elements.{All-from_recursion}
use Rattle.std.proofs.lemmas.Option.{get_or_from_slice_get, slice_get-map}
use Rattle.lmn_base.specs.declared.guard.Cond.{Cond}
use Rattle.lmn_base.specs.declared.guard.Expr.{Expr}
use Rattle.lmn_base.specs.declared.guard.Expr.TheFolds.{fold-roll-Expr}
use Rattle.lmn_base.specs.declared.guard.Expr.TheOpen as step
use Rattle.lmn_base.specs.declared.level.CtxUse.{CtxUse}
use Rattle.lmn_base.specs.declared.level.Leaf as base
use Rattle.lmn_base.specs.declared.level.Level as base_level
use Rattle.lmn_base.specs.declared.level.Level.TheFolds.{fold-roll-Level}
use Rattle.lmn_base.specs.declared.refusal.Pos.{Pos}
use Rattle.lmn_base.specs.declared.rule.RuleTree.{RuleTree}
use Rattle.lmn_base.specs.Levels.{leaves_of, contexts_of, rule_contexts_of}
use Rattle.lmn_base.specs.Names.{leaf_names, context_names, level_names, expression_names, expression_names_step, condition_names, rule_names, plain_names}
use Rattle.lmn_congruence.specs.Rules as tree
use Rattle.lmn_congruence.specs.Rules.{Name}
use Rattle.lmn_flatten.specs.NameLists.{has_name}
use Rattle.lmn_flatten_plain.proofs.Standing.{token_there}
use Rattle.lmn_lexer.specs.Laying.{Word, word_of, words_of, last_word}
use Rattle.lmn_lexer.specs.declared.token.Kind.{Kind}
use Rattle.lmn_lexer.specs.declared.token.Token.{Token}
use Rattle.lmn_parser.specs.Syntax as syntax
use Rattle.lmn_parser.specs.Trees.{At}
use Rattle.lmn_flatten_plain.specs.Links.{Link}
use Rattle.lmn_flatten_plain.specs.Expanded.{ExpandedLeaf, atom_leaf, typed_leaf, Context, ExpandedLevel, level, ExpandedLevels, no_level, level_and, ExpandedRule}
use Rattle.lmn_flatten_plain.specs.Expansion.{parts_of}
use Rattle.lmn_flatten_plain.specs.Meanings.{word_at, name_spelled}
use Rattle.lmn_flatten_plain.specs.Parts.{level_from_parts}
use Rattle.lmn_flatten_plain.specs.Plains.{number_of, numbered, all_numbered, numbered_leaf, numbered_context, context_use, IsExpr, IsCond, IsRuleOf}
use Rattle.lmn_flatten_plain.proofs.NumberedLevels.{all_leaves, leaves_below, leaves_numbered}
use Rattle.lmn_app_reading.specs.Laws.{PlainsAreNamed}
use Rattle.lmn_app_reading.proofs.ListedNames.{HoldsNames, names_held, number_below}
use Rattle.lmn_app_reading.proofs.NamedParts.{LeafNamed, ContextNamed, LevelNamed, LevelsNamed, TokenNamed, ExprNamed, ConditionNamed, RuleNamed, NamesTokens, level_named, tree_named}
use Rattle.lmn_base.proofs.Lists.{all_append}

-- ---- with numbers

module _ (names : List Name) where
  abbrev pub Below : ℕ → Type 0
  Below n = n < length names

  -- its number is one of the list
  abbrev Numbered : Name → Type 0
  Numbered n = number_of names n < length names

  abbrev pub AllBelow : List ℕ → Type 0
  AllBelow ns = AllByRecursion Below ns

  abbrev pub UseBelow : CtxUse → Type 0
  UseBelow u = u.name < length names

  module _ (number : Link → ℕ) where
    leaf_below : (l : ExpandedLeaf) → LeafNamed Numbered l → AllBelow (leaf_names (numbered_leaf names number l))
    leaf_below (atom_leaf (tree.named n) us pos) h = (h, tt)
    leaf_below (atom_leaf (tree.integer z) us pos) h = tt
    leaf_below (typed_leaf n u pos) h = (h, tt)

    each_below : (ls : List ExpandedLeaf) → AllByRecursion (LeafNamed Numbered) ls → AllBelow (flat_map leaf_names (map (numbered_leaf names number) ls))
    each_below [] h = tt
    each_below (l ∷ ls) h =
        all_append Below (leaf_names (numbered_leaf names number l)) (flat_map leaf_names (map (numbered_leaf names number) ls)) (leaf_below l h.0) (each_below ls h.1)

    mutual
      leaves_named : (l : ExpandedLevel) → LevelNamed Numbered l → AllByRecursion (LeafNamed Numbered) (all_leaves l)
      leaves_named (level ls ms cs os rs) h = all_append (LeafNamed Numbered) ls (leaves_below ms) h.0 (below_named ms h.1)

      below_named : (ls : ExpandedLevels) → LevelsNamed Numbered ls → AllByRecursion (LeafNamed Numbered) (leaves_below ls)
      below_named no_level h = tt
      below_named (level_and l ls) h = all_append (LeafNamed Numbered) (all_leaves l) (leaves_below ls) (leaves_named l h.0) (below_named ls h.1)

    contexts_below : (cs : List Context) → AllByRecursion (ContextNamed Numbered) cs → AllByRecursion UseBelow (map (numbered_context names number) cs)
    contexts_below [] h = tt
    contexts_below (c ∷ cs) h = (h.0, contexts_below cs h.1)

    mutual
      level_contexts : (l : ExpandedLevel) → LevelNamed Numbered l → AllByRecursion UseBelow (contexts_of (numbered names number l))
      level_contexts (level ls ms cs os rs) h =
          let P : List CtxUse → Type 0 = AllByRecursion UseBelow in
          subst P (sym (fold-roll-Level (List CtxUse) (λ l. l.contexts ++ flat_map (λ inner. inner) l.membranes) _))
          (all_append UseBelow (map (numbered_context names number) cs) _ (contexts_below cs h.2) (levels_contexts ms h.1))

      levels_contexts : (ls : ExpandedLevels) → LevelsNamed Numbered ls → AllByRecursion UseBelow (flat_map (λ inner. inner) (map contexts_of (all_numbered names number ls)))
      levels_contexts no_level h = tt
      levels_contexts (level_and l ls) h =
          all_append UseBelow (contexts_of (numbered names number l)) (flat_map (λ inner. inner) (map contexts_of (all_numbered names number ls)))
          (level_contexts l h.0) (levels_contexts ls h.1)

    mutual
      level_rule_contexts : (l : ExpandedLevel) → LevelNamed Numbered l → AllByRecursion UseBelow (rule_contexts_of (numbered names number l))
      level_rule_contexts (level ls ms cs os rs) h =
          let P : List CtxUse → Type 0 = AllByRecursion UseBelow in
          subst P (sym (fold-roll-Level (List CtxUse) (λ l. l.rule_contexts ++ flat_map (λ inner. inner) l.membranes) _))
          (all_append UseBelow (map (numbered_context names number) os) _ (contexts_below os h.3) (levels_rule_contexts ms h.1))

      levels_rule_contexts : (ls : ExpandedLevels) → LevelsNamed Numbered ls
          → AllByRecursion UseBelow (flat_map (λ inner. inner) (map rule_contexts_of (all_numbered names number ls)))
      levels_rule_contexts no_level h = tt
      levels_rule_contexts (level_and l ls) h =
          all_append UseBelow (rule_contexts_of (numbered names number l)) (flat_map (λ inner. inner) (map rule_contexts_of (all_numbered names number ls)))
          (level_rule_contexts l h.0) (levels_rule_contexts ls h.1)

  uses_below : (us : List CtxUse) → AllByRecursion (λ (u : CtxUse). u.name < length names) us → AllBelow (context_names us)
  uses_below [] h = tt
  uses_below (u ∷ us) h = (h.0, uses_below us h.1)

  level_below : (number : Link → ℕ) (l : ExpandedLevel) (b : base_level.Level) → b ≡ numbered names number l → LevelNamed Numbered l → AllBelow (level_names b)
  level_below number l b e h =
      let P : base_level.Level → Type 0 = λ b. AllBelow (level_names b) in
      let Q : List base.Leaf → Type 0 = λ ls. AllBelow (flat_map leaf_names ls) in
      let n = numbered names number l in
      let leaves = subst Q (sym (leaves_numbered names number l)) (each_below number (all_leaves l) (leaves_named number l h)) in
      let contexts = uses_below (contexts_of n) (level_contexts number l h) in
      let rule_contexts = uses_below (rule_contexts_of n) (level_rule_contexts number l h) in
      subst P (sym e)
      (all_append Below (flat_map leaf_names (leaves_of n) ++ context_names (contexts_of n)) (context_names (rule_contexts_of n))
      (all_append Below (flat_map leaf_names (leaves_of n)) (context_names (contexts_of n)) leaves contexts) rule_contexts)

  module _ (words : List Word) (places : List Pos) where
    expression_below : (e : syntax.Expr) (x : Expr) → IsExpr words places names e x → ExprNamed Numbered words places e → AllBelow (expression_names x)
    expression_below (syntax.integer p) x is h =
        let P : List ℕ → Type 0 = AllBelow in subst P (sym (ap expression_names is ∙ fold-roll-Expr (List ℕ) expression_names_step _)) tt
    expression_below (syntax.value p) x is h =
        let P : List ℕ → Type 0 = AllBelow in subst P (sym (ap expression_names is ∙ fold-roll-Expr (List ℕ) expression_names_step _)) (h, tt)
    expression_below (syntax.operation op l r) x (left, right, is, a, b) h =
        let P : List ℕ → Type 0 = AllBelow in
        subst P (sym (ap expression_names is ∙ fold-roll-Expr (List ℕ) expression_names_step (step.Op op left right)))
        (all_append Below (expression_names left.value) (expression_names right.value) (expression_below l left.value a h.0) (expression_below r right.value b h.1))

    arguments_below : (ps : List ℕ) → AllByRecursion (TokenNamed Numbered words places) ps → AllBelow (context_names (map (context_use words places names) ps))
    arguments_below [] h = tt
    arguments_below (p ∷ ps) h = (h.0, arguments_below ps h.1)

    condition_below : (c : syntax.WrittenCondition) (x : Cond) → IsCond words places names c x → ConditionNamed Numbered words places c → AllBelow (condition_names x)
    condition_below (syntax.called p ps) x is h =
        let P : Cond → Type 0 = λ x. AllBelow (condition_names x) in subst P (sym is) (h.0, arguments_below ps h.1)
    condition_below (syntax.compared op l r s) x (left, right, is, a, b) h =
        let P : Cond → Type 0 = λ x. AllBelow (condition_names x) in
        subst P (sym is) (all_append Below (expression_names left) (expression_names right) (expression_below l left a h.0) (expression_below r right b h.1))
    condition_below (syntax.equal p e s) x (right, is, a) h =
        let P : Cond → Type 0 = λ x. AllBelow (condition_names x) in subst P (sym is) (h.0, expression_below e right a h.1)
    condition_below (syntax.different p q s) x is h =
        let P : Cond → Type 0 = λ x. AllBelow (condition_names x) in subst P (sym is) (h.0, (h.1, tt))

    guard_below : (cs : List syntax.WrittenCondition) (xs : List Cond) → AllZip (IsCond words places names) cs xs → AllByRecursion (ConditionNamed Numbered words places) cs
        → AllBelow (flat_map condition_names xs)
    guard_below [] [] is h = tt
    guard_below [] (x ∷ xs) is h = absurd is
    guard_below (c ∷ cs) [] is h = absurd is
    guard_below (c ∷ cs) (x ∷ xs) is h =
        all_append Below (condition_names x) (flat_map condition_names xs) (condition_below c x is.0 h.0) (guard_below cs xs is.1 h.1)

    rule_below : (r : ExpandedRule) (t : RuleTree) → IsRuleOf words places names r t → RuleNamed Numbered words places r → AllBelow (rule_names t)
    rule_below r t is h =
        all_append Below (level_names t.head ++ flat_map condition_names t.guard) (level_names t.body)
        (all_append Below (level_names t.head) (flat_map condition_names t.guard) (level_below is.number r.head t.head is.head h.0) (guard_below r.guard t.guard is.guard h.1))
        (level_below is.number r.body t.body is.body h.2)

    rules_below : (rs : List ExpandedRule) (ts : List RuleTree) → AllZip (IsRuleOf words places names) rs ts → AllByRecursion (RuleNamed Numbered words places) rs
        → AllBelow (flat_map rule_names ts)
    rules_below [] [] is h = tt
    rules_below [] (t ∷ ts) is h = absurd is
    rules_below (r ∷ rs) [] is h = absurd is
    rules_below (r ∷ rs) (t ∷ ts) is h = all_append Below (rule_names t) (flat_map rule_names ts) (rule_below r t is.0 h.0) (rules_below rs ts is.1 h.1)

-- ---- the tokens of a text

module _ (text : List ℕ) (tokens : List Token) (places : List Pos) where
  word_here : (p : ℕ) (t : Token) → slice_get tokens p ≡ Some t → word_at (words_of text tokens) places p ≡ word_of text t
  word_here p t at =
      get_or_from_slice_get (words_of text tokens) p (word_of text t) last_word (slice_get-map (word_of text) tokens p ∙ ap (option_map (word_of text)) at)

  token_at : (p : ℕ) (k : Kind) → At tokens p k → (t : Token) × (slice_get tokens p ≡ Some t) × (t.kind ≡ k)
  token_at p k h = token_there (slice_get tokens p) k (sym (slice_get-map (λ (t : Token). t.kind) tokens p) ∙ h)

  -- by numbers, a list that holds the names of the tokens has those of each token
  tokens_named : (names : List Name) → HoldsNames text tokens names → NamesTokens (λ n. number_of names n < length names) (words_of text tokens) places tokens
  tokens_named names held = record {
    cell = number_below names _ held.cell;
    empty = number_below names _ held.empty;
    plus = number_below names _ held.plus;
    equals = number_below names _ held.equals;
    name = λ p k h named.
        let there = token_at p k h in
        let t = there.0 in
        let P : Word → Type 0 = λ w. let n = name_spelled w.kind w.bytes in number_of names n < length names in
        subst P (sym (word_here p t there.1)) (number_below names _ (held.token p t there.1 (ap has_name there.2 ∙ named)));
    kind = λ p k h. let there = token_at p k h in ap (λ (w : Word). w.kind) (word_here p there.0 there.1) ∙ there.2;
  }

-- The plain that is read of a text has only names of the list that reading leaves.
pub plains_are_named : PlainsAreNamed
plains_are_named text before names plain is left reads =
    let tokens = reads.tokens in
    let words = words_of text tokens in
    let places = map (λ (t : Token). t.pos) tokens in
    let P : List Name → Type 0 = HoldsNames text tokens in
    let held = subst P (sym (left tokens reads.tree reads.right reads.reads reads.within)) (names_held text tokens before is) in
    let known = tokens_named text tokens places names held in
    let in_tree = reads.reads.is_tree in
    let named = tree_named (λ n. number_of names n < length names) words places tokens known in_tree.1 in
    let parts = parts_of words places reads.tree in
    let p = reads.is_plain in (
      held.is,
      All-from_recursion (λ n. n < length names) (plain_names plain)
          (all_append (λ n. n < length names) (level_names plain.top) (flat_map rule_names plain.rules)
          (level_below names p.number (level_from_parts parts) plain.top p.top (level_named (λ n. number_of names n < length names) words places parts named))
          (rules_below names words places parts.table plain.rules p.rules named.table)),
    )
