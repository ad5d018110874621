-- Each name of the expansion of a tree is that of a token of a kind with a name, or one that an abbreviation brings in.
use Rattle.std.proofs.Common.{◌≡◌, ℕ, suc, ◌+◌, true, List, [], ◌∷◌, ◌++◌, length, map, inl, inr, refl, sym, subst}
use Rattle.std.specs.Prelude.{⊤, codes}
use Rattle.std.specs.List.{AllByRecursion}
use Rattle.lmn_base.specs.declared.refusal.Pos.{Pos}
use Rattle.lmn_congruence.specs.Rules.{Name, Label, named, integer as whole}
use Rattle.lmn_flatten.specs.NameLists.{has_name}
use Rattle.lmn_lexer.specs.declared.token.Kind.{Kind}
use Rattle.lmn_lexer.specs.declared.token.Kind.TheVariants as kind
use Rattle.lmn_lexer.specs.declared.token.Token.{Token}
use Rattle.lmn_parser.specs.Syntax.{Expr, integer, value, operation, WrittenCondition, called, compared, equal, different, Term, Terms, Item, Items, Clause, Clauses}
use Rattle.lmn_parser.specs.Trees.{At, NameAt, IsSum, one_product, plus, IsProduct, one_factor, times, IsFactor, is_integer, is_value, in_parentheses, IsContexts, last_context, more_contexts, IsContextArguments, no_contexts, some_contexts, IsCondition, is_called, is_compared, is_equal, is_different, IsWrittenGuard, last_condition, more_conditions, IsClauses, no_clauses, last_clause, more_clauses, IsClause, named_rule, unnamed_rule, is_process, IsWrittenRule, is_rule, IsHeads, all_taken, some_kept, IsBody, no_guard, empty_guard, guarded, IsOptList, no_list, some_list, IsList, last_item, more_items, IsItem, is_atom_item, is_membrane_item, is_context_item, is_closed, is_bracketed, is_rule_context, is_plus_link, is_group, is_equation, IsMembrane, in_braces, IsWrittenAtom, with_name, with_integer, IsArguments, no_parentheses, no_arguments, some_arguments, IsTerms, last_term, more_terms, IsTerm, is_link, is_atom, is_context, is_membrane, is_list, IsTermList, empty_list, closed_list, open_list}
use Rattle.lmn_flatten_plain.specs.Links.{Link, Use, made}
use Rattle.lmn_flatten_plain.specs.Expanded.{ExpandedLeaf, atom_leaf, typed_leaf, Context, ExpandedLevel, level, ExpandedLevels, no_level, level_and, expanded_levels, ExpandedRule, renamed_leaf, renamed_level, all_renamed}
use Rattle.lmn_flatten_plain.specs.Parts.{Parts, no_parts, joined_parts, level_from_parts, NumberedParts, ◌⊕◌, one_leaf, fresh_copy, rule_of_parts}
use Rattle.lmn_flatten_plain.specs.Expansion.{link_used, last_link, expanded_term, cells, expanded_terms, expanded_item, expanded_items, expanded_clause, expanded_clauses, parts_of}
use Rattle.lmn_flatten_plain.specs.Meanings.{word_at, name_at, label_at, label_spelled, name_spelled, place_at}
use Rattle.lmn_base.proofs.Lists.{all_append}
use Rattle.lmn_lexer.specs.Laying.{Word}

-- What is meant by a name that is held is left open.
module _ (Named : Name → Type 0) where
  abbrev pub LabelNamed : Label → Type 0
  LabelNamed (named n) = Named n
  LabelNamed (whole z) = ⊤

  abbrev pub LeafNamed : ExpandedLeaf → Type 0
  LeafNamed (atom_leaf l us pos) = LabelNamed l
  LeafNamed (typed_leaf n u pos) = Named n

  abbrev pub ContextNamed : Context → Type 0
  ContextNamed c = Named c.name

  abbrev mutual
    pub LevelNamed : ExpandedLevel → Type 0
    LevelNamed (level leaves membranes contexts rule_contexts rules) =
        AllByRecursion LeafNamed leaves × LevelsNamed membranes × AllByRecursion ContextNamed contexts × AllByRecursion ContextNamed rule_contexts

    pub LevelsNamed : ExpandedLevels → Type 0
    LevelsNamed no_level = ⊤
    LevelsNamed (level_and l ls) = LevelNamed l × LevelsNamed ls

  levels_named : (ls : List ExpandedLevel) → AllByRecursion LevelNamed ls → LevelsNamed (expanded_levels ls)
  levels_named [] h = tt
  levels_named (l ∷ ls) h = (h.0, levels_named ls h.1)

  -- other links leave the names

  leaves_renamed : (f : Link → Link) (ls : List ExpandedLeaf) → AllByRecursion LeafNamed ls → AllByRecursion LeafNamed (map (renamed_leaf f) ls)
  leaves_renamed f [] h = tt
  leaves_renamed f (atom_leaf l us pos ∷ ls) h = (h.0, leaves_renamed f ls h.1)
  leaves_renamed f (typed_leaf n u pos ∷ ls) h = (h.0, leaves_renamed f ls h.1)

  mutual
    level_renamed : (f : Link → Link) (l : ExpandedLevel) → LevelNamed l → LevelNamed (renamed_level f l)
    level_renamed f (level ls ms cs os rs) h = (leaves_renamed f ls h.0, levels_renamed f ms h.1, h.2, h.3)

    levels_renamed : (f : Link → Link) (ls : ExpandedLevels) → LevelsNamed ls → LevelsNamed (all_renamed f ls)
    levels_renamed f no_level h = tt
    levels_renamed f (level_and l ls) h = (level_renamed f l h.0, levels_renamed f ls h.1)

  each_renamed : (f : Link → Link) (ls : List ExpandedLevel) → AllByRecursion LevelNamed ls → AllByRecursion LevelNamed (map (renamed_level f) ls)
  each_renamed f [] h = tt
  each_renamed f (l ∷ ls) h = (level_renamed f l h.0, each_renamed f ls h.1)

  label_named : (k : Kind) (bytes : List ℕ) → Named (name_spelled k bytes) → LabelNamed (label_spelled k bytes)
  label_named kind.Int bytes h = tt
  label_named _ bytes h = h

  number_named : (k : Kind) (bytes : List ℕ) → k ≡ kind.Int → LabelNamed (label_spelled k bytes)
  number_named k bytes e = let P : Kind → Type 0 = λ k. LabelNamed (label_spelled k bytes) in subst P (sym e) tt

  module _ (words : List Word) (places : List Pos) where
    abbrev pub TokenNamed : ℕ → Type 0
    TokenNamed p = Named (name_at words places p)

    abbrev pub ExprNamed : Expr → Type 0
    ExprNamed (integer p) = ⊤
    ExprNamed (value p) = TokenNamed p
    ExprNamed (operation op l r) = ExprNamed l × ExprNamed r

    abbrev pub ConditionNamed : WrittenCondition → Type 0
    ConditionNamed (called p ps) = TokenNamed p × AllByRecursion TokenNamed ps
    ConditionNamed (compared op l r s) = ExprNamed l × ExprNamed r
    ConditionNamed (equal p e s) = TokenNamed p × ExprNamed e
    ConditionNamed (different p q s) = TokenNamed p × TokenNamed q

    abbrev pub RuleNamed : ExpandedRule → Type 0
    RuleNamed r = LevelNamed r.head × AllByRecursion ConditionNamed r.guard × LevelNamed r.body

    -- the names of some parts are held
    pub record PartsNamed (p : Parts) : Type 0 where
      pub leaves : AllByRecursion LeafNamed p.leaves
      pub membranes : AllByRecursion LevelNamed p.membranes
      pub contexts : AllByRecursion ContextNamed p.contexts
      pub rule_contexts : AllByRecursion ContextNamed p.rule_contexts
      pub table : AllByRecursion RuleNamed p.table

    pub level_named : (p : Parts) → PartsNamed p → LevelNamed (level_from_parts p)
    level_named p h = (h.leaves, levels_named p.membranes h.membranes, h.contexts, h.rule_contexts)

    joined_named : (p q : Parts) → PartsNamed p → PartsNamed q → PartsNamed (joined_parts p q)
    joined_named p q f g = record {
      leaves = all_append LeafNamed p.leaves q.leaves f.leaves g.leaves;
      membranes = all_append LevelNamed p.membranes q.membranes f.membranes g.membranes;
      contexts = all_append ContextNamed p.contexts q.contexts f.contexts g.contexts;
      rule_contexts = all_append ContextNamed p.rule_contexts q.rule_contexts f.rule_contexts g.rule_contexts;
      table = all_append RuleNamed p.table q.table f.table g.table;
    }

    membrane_of_named : (p : Parts) → PartsNamed p
        → PartsNamed (record { leaves = []; membranes = level_from_parts p ∷ []; contexts = []; rule_contexts = []; rules = []; table = p.table })
    membrane_of_named p h = record { leaves = tt; membranes = (level_named p h, tt); contexts = tt; rule_contexts = tt; table = h.table }

    copied_named : (p : Parts) → PartsNamed p → PartsNamed (fresh_copy p)
    copied_named p h = record {
      leaves = leaves_renamed _ p.leaves h.leaves;
      membranes = each_renamed _ p.membranes h.membranes;
      contexts = h.contexts;
      rule_contexts = h.rule_contexts;
      table = h.table;
    }

    one_rule_named : (k : ℕ) (p q r : Parts) (cs : List WrittenCondition) (pos : Pos) → PartsNamed p → PartsNamed q → AllByRecursion ConditionNamed cs → PartsNamed r
        → PartsNamed (record { leaves = []; membranes = []; contexts = []; rule_contexts = []; rules = k ∷ []; table = rule_of_parts p q cs r pos ∷ (p.table ++ (q.table ++ r.table)) })
    one_rule_named k p q r cs pos f g c h = record {
      leaves = tt;
      membranes = tt;
      contexts = tt;
      rule_contexts = tt;
      table = (
        (level_named (joined_parts p q) (joined_named p q f g), c, level_named (joined_parts (fresh_copy p) r) (joined_named (fresh_copy p) r (copied_named p f) h)),
        all_append RuleNamed p.table (q.table ++ r.table) f.table (all_append RuleNamed q.table r.table g.table h.table),
      );
    }

    nothing_named : PartsNamed no_parts
    nothing_named = record { leaves = tt; membranes = tt; contexts = tt; rule_contexts = tt; table = tt }

    leaf_named : (k : ℕ) (l : ExpandedLeaf) → LeafNamed l → PartsNamed (one_leaf l k)
    leaf_named k l h = record { leaves = (h, tt); membranes = tt; contexts = tt; rule_contexts = tt; table = tt }

    -- parts from each first number
    abbrev AllNamed : NumberedParts → Type 0
    AllNamed f = (k : ℕ) → PartsNamed (f k)

    then_named : (f g : NumberedParts) → AllNamed f → AllNamed g → AllNamed (f ⊕ g)
    then_named f g a b k = let p = f k in joined_named p (g (k + length p.table)) (a k) (b (k + length p.table))

    -- The names that are brought in, and those of the tokens, are held.
    pub record NamesTokens (ts : List Token) : Type 0 where
      pub cell : Named (codes ".")
      pub empty : Named (codes "[]")
      pub plus : Named (codes "+")
      pub equals : Named (codes "=")
      pub name : (p : ℕ) (k : Kind) → At ts p k → has_name k ≡ true → TokenNamed p
      pub kind : (p : ℕ) (k : Kind) → At ts p k → (let w = word_at words places p in w.kind ≡ k)

    module _ (ts : List Token) (held : NamesTokens ts) where
      name_here : (p : ℕ) → NameAt ts p → TokenNamed p
      name_here p (inl h) = held.name p kind.Name h refl
      name_here p (inr (inl h)) = held.name p kind.Quoted h refl
      name_here p (inr (inr h)) = held.name p kind.Mod h refl

      context_here : (p : ℕ) → At ts p kind.Context → TokenNamed p
      context_here p h = held.name p kind.Context h refl

      label_here : (p : ℕ) → NameAt ts p → LabelNamed (label_at words places p)
      label_here p h = let w = word_at words places p in label_named w.kind w.bytes (name_here p h)

      number_here : (p : ℕ) → At ts p kind.Int → LabelNamed (label_at words places p)
      number_here p h = let w = word_at words places p in number_named w.kind w.bytes (held.kind p kind.Int h)

      -- guards

      mutual
        sum_named : {e : Expr} {p q : ℕ} → IsSum ts e p q → ExprNamed e
        sum_named (one_product h) = product_named h
        sum_named (plus op h s k) = (sum_named h, product_named k)

        product_named : {e : Expr} {p q : ℕ} → IsProduct ts e p q → ExprNamed e
        product_named (one_factor h) = factor_named h
        product_named (times op h s k) = (product_named h, factor_named k)

        factor_named : {e : Expr} {p q : ℕ} → IsFactor ts e p q → ExprNamed e
        factor_named (is_integer h) = tt
        factor_named (is_value {p = p} h) = context_here p h
        factor_named (in_parentheses a h b) = sum_named h

      contexts_named : {xs : List ℕ} {p q : ℕ} → IsContexts ts xs p q → AllByRecursion TokenNamed xs
      contexts_named (last_context {p = p} h) = (context_here p h, tt)
      contexts_named (more_contexts {p = p} h b g) = (context_here p h, contexts_named g)

      context_arguments_named : {xs : List ℕ} {p q : ℕ} → IsContextArguments ts xs p q → AllByRecursion TokenNamed xs
      context_arguments_named no_contexts = tt
      context_arguments_named (some_contexts a h b) = contexts_named h

      condition_named : {c : WrittenCondition} {p q : ℕ} → IsCondition ts c p q → ConditionNamed c
      condition_named (is_called {p = p} n h) = (name_here p n, context_arguments_named h)
      condition_named (is_compared op h s k) = (sum_named h, sum_named k)
      condition_named (is_equal {p = p} a b h) = (context_here p a, sum_named h)
      condition_named (is_different {p = p} a b c) = (context_here p a, context_here (p + 2) c)

      guard_named : {cs : List WrittenCondition} {p q : ℕ} → IsWrittenGuard ts cs p q → AllByRecursion ConditionNamed cs
      guard_named (last_condition h) = (condition_named h, tt)
      guard_named (more_conditions h a g) = (condition_named h, guard_named g)

      -- the tree
      mutual
        clauses_named : {cs : Clauses} {p q : ℕ} → IsClauses ts cs p q → (way : List ℕ) → AllNamed (expanded_clauses words places way cs)
        clauses_named no_clauses way k = nothing_named
        clauses_named (last_clause h) way k = then_named _ _ (clause_named h (0 ∷ way)) (λ m. nothing_named) k
        clauses_named (more_clauses h d g) way k = then_named _ _ (clause_named h (0 ∷ way)) (clauses_named g (1 ∷ way)) k

        clause_named : {c : Clause} {p q : ℕ} → IsClause ts c p q → (way : List ℕ) → AllNamed (expanded_clause words places way c)
        clause_named (named_rule a b h) way k = rule_named h way k
        clause_named (unnamed_rule h) way k = rule_named h way k
        clause_named (is_process h) way k = list_named h way k

        rule_named : {s : ℕ} {c : Clause} {p q : ℕ} → IsWrittenRule ts s c p q → (way : List ℕ) → AllNamed (expanded_clause words places way c)
        rule_named (is_rule {kept = xs} {taken = ys} {body = zs} {guard = cs} {pos = pos} s h a b) way k =
            let p = expanded_items words places (0 ∷ way) xs (suc k) in
            let q = expanded_items words places (1 ∷ way) ys (suc k + length p.table) in
            let r = expanded_items words places (2 ∷ way) zs (suc k + length p.table + length q.table) in
            one_rule_named k p q r cs pos (kept_named h (0 ∷ way) (suc k)) (taken_named h (1 ∷ way) (suc k + length p.table)) (conditions_named b)
            (body_named b (2 ∷ way) (suc k + length p.table + length q.table))

        kept_named : {xs ys : Items} {p q : ℕ} → IsHeads ts xs ys p q → (way : List ℕ) → AllNamed (expanded_items words places way xs)
        kept_named (all_taken h) way k = nothing_named
        kept_named (some_kept h a g) way k = opt_named h way k

        taken_named : {xs ys : Items} {p q : ℕ} → IsHeads ts xs ys p q → (way : List ℕ) → AllNamed (expanded_items words places way ys)
        taken_named (all_taken h) way k = opt_named h way k
        taken_named (some_kept h a g) way k = opt_named g way k

        conditions_named : {cs : List WrittenCondition} {xs : Items} {p q : ℕ} → IsBody ts cs xs p q → AllByRecursion ConditionNamed cs
        conditions_named (no_guard h) = tt
        conditions_named (empty_guard a h) = tt
        conditions_named (guarded g a h) = guard_named g

        body_named : {cs : List WrittenCondition} {xs : Items} {p q : ℕ} → IsBody ts cs xs p q → (way : List ℕ) → AllNamed (expanded_items words places way xs)
        body_named (no_guard h) way k = opt_named h way k
        body_named (empty_guard a h) way k = opt_named h way k
        body_named (guarded g a h) way k = opt_named h way k

        opt_named : {xs : Items} {p q : ℕ} → IsOptList ts xs p q → (way : List ℕ) → AllNamed (expanded_items words places way xs)
        opt_named no_list way k = nothing_named
        opt_named (some_list h) way k = list_named h way k

        list_named : {xs : Items} {p q : ℕ} → IsList ts xs p q → (way : List ℕ) → AllNamed (expanded_items words places way xs)
        list_named (last_item h) way k = then_named _ _ (item_named h (0 ∷ way)) (λ m. nothing_named) k
        list_named (more_items h d g) way k = then_named _ _ (item_named h (0 ∷ way)) (list_named g (1 ∷ way)) k

        item_named : {x : Item} {p q : ℕ} → IsItem ts x p q → (way : List ℕ) → AllNamed (expanded_item words places way x)
        item_named (is_atom_item {n = n} h) way k = then_named _ _ (λ m. leaf_named m _ (label_of_atom h)) (atom_named h (place_at words places n) way) k
        item_named (is_membrane_item h) way k = membrane_of_named _ (membrane_named h way k)
        item_named (is_context_item {p = p} a) way k = record { leaves = tt; membranes = tt; contexts = (context_here p a, tt); rule_contexts = tt; table = tt }
        item_named (is_closed {p = p} a b c) way k = record { leaves = tt; membranes = tt; contexts = (context_here p a, tt); rule_contexts = tt; table = tt }
        item_named (is_bracketed {p = p} a b c d) way k = leaf_named k _ (context_here p a)
        item_named (is_rule_context {p = p} a) way k =
            record { leaves = tt; membranes = tt; contexts = tt; rule_contexts = (held.name p kind.RuleCtx a refl, tt); table = tt }
        item_named (is_plus_link a b) way k = leaf_named k _ held.plus
        item_named (is_group a h b) way k = clause_named h way k
        item_named (is_equation {m = s} h d g) way k =
            let pos = place_at words places s in
            then_named _ _ (λ m. leaf_named m _ held.equals) (then_named _ _ (term_named h pos (0 ∷ way) (made (0 ∷ way))) (term_named g pos (1 ∷ way) (made (1 ∷ way)))) k

        membrane_named : {cs : Clauses} {p q : ℕ} → IsMembrane ts cs p q → (way : List ℕ) → AllNamed (expanded_clauses words places way cs)
        membrane_named (in_braces a h b) way k = clauses_named h way k

        label_of_atom : {n : ℕ} {xs : Terms} {p q : ℕ} → IsWrittenAtom ts n xs p q → LabelNamed (label_at words places n)
        label_of_atom (with_name {p = p} a h) = label_here p a
        label_of_atom (with_integer {p = p} a h) = number_here p a

        -- the terms of an atom
        atom_named : {n : ℕ} {xs : Terms} {p q : ℕ} → IsWrittenAtom ts n xs p q → (pos : Pos) (way : List ℕ) → AllNamed (expanded_terms words places pos way xs)
        atom_named (with_name a h) pos way k = arguments_named h pos way k
        atom_named (with_integer a h) pos way k = arguments_named h pos way k

        arguments_named : {xs : Terms} {p q : ℕ} → IsArguments ts xs p q → (pos : Pos) (way : List ℕ) → AllNamed (expanded_terms words places pos way xs)
        arguments_named no_parentheses pos way k = nothing_named
        arguments_named (no_arguments a b) pos way k = nothing_named
        arguments_named (some_arguments a h b) pos way k = terms_named h pos way k

        terms_named : {xs : Terms} {p q : ℕ} → IsTerms ts xs p q → (pos : Pos) (way : List ℕ) → AllNamed (expanded_terms words places pos way xs)
        terms_named (last_term h) pos way k = then_named _ _ (term_named h pos (0 ∷ way) (made (0 ∷ way))) (λ m. nothing_named) k
        terms_named (more_terms h d g) pos way k = then_named _ _ (term_named h pos (0 ∷ way) (made (0 ∷ way))) (terms_named g pos (1 ∷ way)) k

        cells_named : {xs : Terms} {p q : ℕ} → IsTerms ts xs p q → (pos : Pos) (way : List ℕ) (end : Use) (x : Link) → AllNamed (cells words places pos way end x xs)
        cells_named (last_term h) pos way end x k =
            then_named _ _ (λ m. leaf_named m _ held.cell) (then_named _ _ (term_named h pos (0 ∷ way) (made (0 ∷ way))) (λ m. nothing_named)) k
        cells_named (more_terms h d g) pos way end x k =
            then_named _ _ (λ m. leaf_named m _ held.cell) (then_named _ _ (term_named h pos (0 ∷ way) (made (0 ∷ way))) (cells_named g pos (1 ∷ way) end (made (1 ∷ way)))) k

        term_named : {t : Term} {p q : ℕ} → IsTerm ts t p q → (pos : Pos) (way : List ℕ) (x : Link) → AllNamed (expanded_term words places pos way x t)
        term_named (is_link a) pos way x k = nothing_named
        term_named (is_atom {n = n} h) pos way x k = then_named _ _ (λ m. leaf_named m _ (label_of_atom h)) (atom_named h (place_at words places n) way) k
        term_named (is_context {p = p} a) pos way x k = leaf_named k _ (context_here p a)
        term_named (is_membrane h) pos way x k = membrane_of_named _ (then_named _ _ (λ m. leaf_named m _ held.plus) (membrane_named h way) k)
        term_named (is_list h) pos way x k = term_list_named h pos way x k

        term_list_named : {t : Term} {p q : ℕ} → IsTermList ts t p q → (pos : Pos) (way : List ℕ) (x : Link) → AllNamed (expanded_term words places pos way x t)
        term_list_named (empty_list a b) pos way x k =
            then_named _ _ (λ m. nothing_named) (λ m. leaf_named m (atom_leaf (named (codes "[]")) (link_used words places x pos ∷ []) pos) held.empty) k
        term_list_named (closed_list {xs = xs} a h b) pos way x k =
            then_named _ _ (cells_named h pos (0 ∷ way) _ x)
            (λ m. leaf_named m (atom_leaf (named (codes "[]")) (link_used words places (last_link words places (1 ∷ way) x xs) pos ∷ []) pos) held.empty) k
        term_list_named (open_list a h b g c) pos way x k = then_named _ _ (cells_named h pos (0 ∷ way) _ x) (term_named g pos (1 ∷ way) (made (1 ∷ way))) k

      -- the names of what a tree gives to the top, and of its rules
      pub tree_named : {cs : Clauses} {p q : ℕ} → IsClauses ts cs p q → PartsNamed (parts_of words places cs)
      tree_named h = clauses_named h [] 0
