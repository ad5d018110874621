-- Each label of the expansion of a tree is that of a token, or one that an abbreviation brings in; each context has the name of a token of its
-- kind; and so have the integers and the contexts of conditions.
use Rattle.std.proofs.Common.{ℕ, suc, ◌+◌, List, [], ◌∷◌, ◌++◌, length, map}
use Rattle.std.specs.Prelude.{⊤, codes}
use Rattle.std.specs.List.{AllByRecursion}
use Rattle.lmn_base.specs.declared.refusal.Pos.{Pos}
use Rattle.lmn_congruence.specs.Rules.{Name, Label, named}
use Rattle.lmn_guards.specs.Values.{InRange}
use Rattle.lmn_lexer.specs.Values.{integer_of}
use Rattle.lmn_lexer.specs.declared.token.Kind.TheVariants as kind
use Rattle.lmn_lexer.specs.declared.token.Token.{Token}
use Rattle.lmn_parser.specs.Syntax.{Expr, integer, value, operation, WrittenCondition, called, compared, equal, different, Term, Terms, Item, Items, Clause, Clauses}
use Rattle.lmn_parser.specs.Trees.{At, NameAt, IsSum, one_product, plus, IsProduct, one_factor, times, IsFactor, is_integer, is_value, in_parentheses, IsContexts, last_context, more_contexts, IsContextArguments, no_contexts, some_contexts, IsCondition, is_called, is_compared, is_equal, is_different, IsWrittenGuard, last_condition, more_conditions, IsClauses, no_clauses, last_clause, more_clauses, IsClause, named_rule, unnamed_rule, is_process, IsWrittenRule, is_rule, IsHeads, all_taken, some_kept, IsBody, no_guard, empty_guard, guarded, IsOptList, no_list, some_list, IsList, last_item, more_items, IsItem, is_atom_item, is_membrane_item, is_context_item, is_closed, is_bracketed, is_rule_context, is_plus_link, is_group, is_equation, IsMembrane, in_braces, IsWrittenAtom, with_name, with_integer, IsArguments, no_parentheses, no_arguments, some_arguments, IsTerms, last_term, more_terms, IsTerm, is_link, is_atom, is_context, is_membrane, is_list, IsTermList, empty_list, closed_list, open_list}
use Rattle.lmn_flatten_plain.specs.Links.{Link, Use, made}
use Rattle.lmn_flatten_plain.specs.Expanded.{ExpandedLeaf, atom_leaf, typed_leaf, Context, ExpandedLevel, level, ExpandedLevels, no_level, level_and, expanded_levels, ExpandedRule, renamed_leaf, renamed_level, all_renamed}
use Rattle.lmn_flatten_plain.specs.Parts.{Parts, no_parts, joined_parts, level_from_parts, NumberedParts, ◌⊕◌, one_leaf, fresh_copy, rule_of_parts}
use Rattle.lmn_flatten_plain.specs.Expansion.{link_used, last_link, expanded_term, cells, expanded_terms, expanded_item, expanded_items, expanded_clause, expanded_clauses, parts_of}
use Rattle.lmn_flatten_plain.specs.Meanings.{word_at, name_at, label_at, place_at}
use Rattle.lmn_base.proofs.Lists.{all_append}
use Rattle.lmn_lexer.specs.Laying.{Word}

-- What is meant by a label and by the name of a context that may stand is left open.
module _ (L : Label → Type 0) (C : Name → Type 0) where
  abbrev pub LeafRight : ExpandedLeaf → Type 0
  LeafRight (atom_leaf l us pos) = L l
  LeafRight (typed_leaf n u pos) = C n

  abbrev pub ContextRight : Context → Type 0
  ContextRight c = C c.name

  abbrev mutual
    pub LevelRight : ExpandedLevel → Type 0
    LevelRight (level leaves membranes contexts rule_contexts rules) =
        AllByRecursion LeafRight leaves × LevelsRight membranes × AllByRecursion ContextRight contexts × AllByRecursion ContextRight rule_contexts

    pub LevelsRight : ExpandedLevels → Type 0
    LevelsRight no_level = ⊤
    LevelsRight (level_and l ls) = LevelRight l × LevelsRight ls

  levels_right : (ls : List ExpandedLevel) → AllByRecursion LevelRight ls → LevelsRight (expanded_levels ls)
  levels_right [] h = tt
  levels_right (l ∷ ls) h = (h.0, levels_right ls h.1)

  -- other links leave the names

  leaves_renamed : (f : Link → Link) (ls : List ExpandedLeaf) → AllByRecursion LeafRight ls → AllByRecursion LeafRight (map (renamed_leaf f) ls)
  leaves_renamed f [] h = tt
  leaves_renamed f (atom_leaf l us pos ∷ ls) h = (h.0, leaves_renamed f ls h.1)
  leaves_renamed f (typed_leaf n u pos ∷ ls) h = (h.0, leaves_renamed f ls h.1)

  mutual
    level_renamed : (f : Link → Link) (l : ExpandedLevel) → LevelRight l → LevelRight (renamed_level f l)
    level_renamed f (level ls ms cs os rs) h = (leaves_renamed f ls h.0, levels_renamed f ms h.1, h.2, h.3)

    levels_renamed : (f : Link → Link) (ls : ExpandedLevels) → LevelsRight ls → LevelsRight (all_renamed f ls)
    levels_renamed f no_level h = tt
    levels_renamed f (level_and l ls) h = (level_renamed f l h.0, levels_renamed f ls h.1)

  each_renamed : (f : Link → Link) (ls : List ExpandedLevel) → AllByRecursion LevelRight ls → AllByRecursion LevelRight (map (renamed_level f) ls)
  each_renamed f [] h = tt
  each_renamed f (l ∷ ls) h = (level_renamed f l h.0, each_renamed f ls h.1)

  module _ (words : List Word) (places : List Pos) where
    -- the name of a context, at its token
    abbrev pub TokenRight : ℕ → Type 0
    TokenRight p = C (name_at words places p)

    -- the integer at its token is in range
    abbrev pub IntegerAt : ℕ → Type 0
    IntegerAt p = let w = word_at words places p in InRange (integer_of w.bytes)

    abbrev pub ExprRight : Expr → Type 0
    ExprRight (integer p) = IntegerAt p
    ExprRight (value p) = TokenRight p
    ExprRight (operation op l r) = ExprRight l × ExprRight r

    abbrev pub ConditionRight : WrittenCondition → Type 0
    ConditionRight (called p ps) = AllByRecursion TokenRight ps
    ConditionRight (compared op l r s) = ExprRight l × ExprRight r
    ConditionRight (equal p e s) = TokenRight p × ExprRight e
    ConditionRight (different p q s) = TokenRight p × TokenRight q

    abbrev pub RuleRight : ExpandedRule → Type 0
    RuleRight r = LevelRight r.head × AllByRecursion ConditionRight r.guard × LevelRight r.body

    -- the names of some parts are right
    pub record PartsRight (p : Parts) : Type 0 where
      pub leaves : AllByRecursion LeafRight p.leaves
      pub membranes : AllByRecursion LevelRight p.membranes
      pub contexts : AllByRecursion ContextRight p.contexts
      pub rule_contexts : AllByRecursion ContextRight p.rule_contexts
      pub table : AllByRecursion RuleRight p.table

    pub level_right : (p : Parts) → PartsRight p → LevelRight (level_from_parts p)
    level_right p h = (h.leaves, levels_right p.membranes h.membranes, h.contexts, h.rule_contexts)

    joined_right : (p q : Parts) → PartsRight p → PartsRight q → PartsRight (joined_parts p q)
    joined_right p q f g = record {
      leaves = all_append LeafRight p.leaves q.leaves f.leaves g.leaves;
      membranes = all_append LevelRight p.membranes q.membranes f.membranes g.membranes;
      contexts = all_append ContextRight p.contexts q.contexts f.contexts g.contexts;
      rule_contexts = all_append ContextRight p.rule_contexts q.rule_contexts f.rule_contexts g.rule_contexts;
      table = all_append RuleRight p.table q.table f.table g.table;
    }

    membrane_of_right : (p : Parts) → PartsRight p
        → PartsRight (record { leaves = []; membranes = level_from_parts p ∷ []; contexts = []; rule_contexts = []; rules = []; table = p.table })
    membrane_of_right p h = record { leaves = tt; membranes = (level_right p h, tt); contexts = tt; rule_contexts = tt; table = h.table }

    copied_right : (p : Parts) → PartsRight p → PartsRight (fresh_copy p)
    copied_right p h = record {
      leaves = leaves_renamed _ p.leaves h.leaves;
      membranes = each_renamed _ p.membranes h.membranes;
      contexts = h.contexts;
      rule_contexts = h.rule_contexts;
      table = h.table;
    }

    one_rule_right : (k : ℕ) (p q r : Parts) (cs : List WrittenCondition) (pos : Pos) → PartsRight p → PartsRight q → AllByRecursion ConditionRight cs → PartsRight r
        → PartsRight (record { leaves = []; membranes = []; contexts = []; rule_contexts = []; rules = k ∷ []; table = rule_of_parts p q cs r pos ∷ (p.table ++ (q.table ++ r.table)) })
    one_rule_right k p q r cs pos f g c h = record {
      leaves = tt;
      membranes = tt;
      contexts = tt;
      rule_contexts = tt;
      table = (
        (level_right (joined_parts p q) (joined_right p q f g), c, level_right (joined_parts (fresh_copy p) r) (joined_right (fresh_copy p) r (copied_right p f) h)),
        all_append RuleRight p.table (q.table ++ r.table) f.table (all_append RuleRight q.table r.table g.table h.table),
      );
    }

    nothing_right : PartsRight no_parts
    nothing_right = record { leaves = tt; membranes = tt; contexts = tt; rule_contexts = tt; table = tt }

    leaf_right : (k : ℕ) (l : ExpandedLeaf) → LeafRight l → PartsRight (one_leaf l k)
    leaf_right k l h = record { leaves = (h, tt); membranes = tt; contexts = tt; rule_contexts = tt; table = tt }

    -- parts from each first number
    abbrev AllRight : NumberedParts → Type 0
    AllRight f = (k : ℕ) → PartsRight (f k)

    then_right : (f g : NumberedParts) → AllRight f → AllRight g → AllRight (f ⊕ g)
    then_right f g a b k = let p = f k in joined_right p (g (k + length p.table)) (a k) (b (k + length p.table))

    -- The labels that are brought in, and those of tokens, may stand; so may the names of contexts; and integers are in range.
    pub record RightTokens (ts : List Token) : Type 0 where
      pub cell : L (named (codes "."))
      pub empty : L (named (codes "[]"))
      pub plus : L (named (codes "+"))
      pub equals : L (named (codes "="))
      pub label : (p : ℕ) → NameAt ts p → L (label_at words places p)
      pub number : (p : ℕ) → At ts p kind.Int → L (label_at words places p) × IntegerAt p
      pub context : (p : ℕ) → At ts p kind.Context → TokenRight p
      pub rule_context : (p : ℕ) → At ts p kind.RuleCtx → TokenRight p

    module _ (ts : List Token) (right : RightTokens ts) where
      context_here : (p : ℕ) → At ts p kind.Context → TokenRight p
      context_here p h = right.context p h

      label_here : (p : ℕ) → NameAt ts p → L (label_at words places p)
      label_here p h = right.label p h

      number_here : (p : ℕ) → At ts p kind.Int → L (label_at words places p)
      number_here p h = (right.number p h).0

      -- guards

      mutual
        sum_right : {e : Expr} {p q : ℕ} → IsSum ts e p q → ExprRight e
        sum_right (one_product h) = product_right h
        sum_right (plus op h s k) = (sum_right h, product_right k)

        product_right : {e : Expr} {p q : ℕ} → IsProduct ts e p q → ExprRight e
        product_right (one_factor h) = factor_right h
        product_right (times op h s k) = (product_right h, factor_right k)

        factor_right : {e : Expr} {p q : ℕ} → IsFactor ts e p q → ExprRight e
        factor_right (is_integer {p = p} h) = (right.number p h).1
        factor_right (is_value {p = p} h) = context_here p h
        factor_right (in_parentheses a h b) = sum_right h

      contexts_right : {xs : List ℕ} {p q : ℕ} → IsContexts ts xs p q → AllByRecursion TokenRight xs
      contexts_right (last_context {p = p} h) = (context_here p h, tt)
      contexts_right (more_contexts {p = p} h b g) = (context_here p h, contexts_right g)

      context_arguments_right : {xs : List ℕ} {p q : ℕ} → IsContextArguments ts xs p q → AllByRecursion TokenRight xs
      context_arguments_right no_contexts = tt
      context_arguments_right (some_contexts a h b) = contexts_right h

      condition_right : {c : WrittenCondition} {p q : ℕ} → IsCondition ts c p q → ConditionRight c
      condition_right (is_called n h) = context_arguments_right h
      condition_right (is_compared op h s k) = (sum_right h, sum_right k)
      condition_right (is_equal {p = p} a b h) = (context_here p a, sum_right h)
      condition_right (is_different {p = p} a b c) = (context_here p a, context_here (p + 2) c)

      guard_right : {cs : List WrittenCondition} {p q : ℕ} → IsWrittenGuard ts cs p q → AllByRecursion ConditionRight cs
      guard_right (last_condition h) = (condition_right h, tt)
      guard_right (more_conditions h a g) = (condition_right h, guard_right g)

      -- the tree
      mutual
        clauses_right : {cs : Clauses} {p q : ℕ} → IsClauses ts cs p q → (way : List ℕ) → AllRight (expanded_clauses words places way cs)
        clauses_right no_clauses way k = nothing_right
        clauses_right (last_clause h) way k = then_right _ _ (clause_right h (0 ∷ way)) (λ m. nothing_right) k
        clauses_right (more_clauses h d g) way k = then_right _ _ (clause_right h (0 ∷ way)) (clauses_right g (1 ∷ way)) k

        clause_right : {c : Clause} {p q : ℕ} → IsClause ts c p q → (way : List ℕ) → AllRight (expanded_clause words places way c)
        clause_right (named_rule a b h) way k = rule_right h way k
        clause_right (unnamed_rule h) way k = rule_right h way k
        clause_right (is_process h) way k = list_right h way k

        rule_right : {s : ℕ} {c : Clause} {p q : ℕ} → IsWrittenRule ts s c p q → (way : List ℕ) → AllRight (expanded_clause words places way c)
        rule_right (is_rule {kept = xs} {taken = ys} {body = zs} {guard = cs} {pos = pos} s h a b) way k =
            let p = expanded_items words places (0 ∷ way) xs (suc k) in
            let q = expanded_items words places (1 ∷ way) ys (suc k + length p.table) in
            let r = expanded_items words places (2 ∷ way) zs (suc k + length p.table + length q.table) in
            one_rule_right k p q r cs pos (kept_right h (0 ∷ way) (suc k)) (taken_right h (1 ∷ way) (suc k + length p.table)) (conditions_right b)
            (body_right b (2 ∷ way) (suc k + length p.table + length q.table))

        kept_right : {xs ys : Items} {p q : ℕ} → IsHeads ts xs ys p q → (way : List ℕ) → AllRight (expanded_items words places way xs)
        kept_right (all_taken h) way k = nothing_right
        kept_right (some_kept h a g) way k = opt_right h way k

        taken_right : {xs ys : Items} {p q : ℕ} → IsHeads ts xs ys p q → (way : List ℕ) → AllRight (expanded_items words places way ys)
        taken_right (all_taken h) way k = opt_right h way k
        taken_right (some_kept h a g) way k = opt_right g way k

        conditions_right : {cs : List WrittenCondition} {xs : Items} {p q : ℕ} → IsBody ts cs xs p q → AllByRecursion ConditionRight cs
        conditions_right (no_guard h) = tt
        conditions_right (empty_guard a h) = tt
        conditions_right (guarded g a h) = guard_right g

        body_right : {cs : List WrittenCondition} {xs : Items} {p q : ℕ} → IsBody ts cs xs p q → (way : List ℕ) → AllRight (expanded_items words places way xs)
        body_right (no_guard h) way k = opt_right h way k
        body_right (empty_guard a h) way k = opt_right h way k
        body_right (guarded g a h) way k = opt_right h way k

        opt_right : {xs : Items} {p q : ℕ} → IsOptList ts xs p q → (way : List ℕ) → AllRight (expanded_items words places way xs)
        opt_right no_list way k = nothing_right
        opt_right (some_list h) way k = list_right h way k

        list_right : {xs : Items} {p q : ℕ} → IsList ts xs p q → (way : List ℕ) → AllRight (expanded_items words places way xs)
        list_right (last_item h) way k = then_right _ _ (item_right h (0 ∷ way)) (λ m. nothing_right) k
        list_right (more_items h d g) way k = then_right _ _ (item_right h (0 ∷ way)) (list_right g (1 ∷ way)) k

        item_right : {x : Item} {p q : ℕ} → IsItem ts x p q → (way : List ℕ) → AllRight (expanded_item words places way x)
        item_right (is_atom_item {n = n} h) way k = then_right _ _ (λ m. leaf_right m _ (label_of_atom h)) (atom_right h (place_at words places n) way) k
        item_right (is_membrane_item h) way k = membrane_of_right _ (membrane_right h way k)
        item_right (is_context_item {p = p} a) way k = record { leaves = tt; membranes = tt; contexts = (context_here p a, tt); rule_contexts = tt; table = tt }
        item_right (is_closed {p = p} a b c) way k = record { leaves = tt; membranes = tt; contexts = (context_here p a, tt); rule_contexts = tt; table = tt }
        item_right (is_bracketed {p = p} a b c d) way k = leaf_right k _ (context_here p a)
        item_right (is_rule_context {p = p} a) way k =
            record { leaves = tt; membranes = tt; contexts = tt; rule_contexts = (right.rule_context p a, tt); table = tt }
        item_right (is_plus_link a b) way k = leaf_right k _ right.plus
        item_right (is_group a h b) way k = clause_right h way k
        item_right (is_equation {m = s} h d g) way k =
            let pos = place_at words places s in
            then_right _ _ (λ m. leaf_right m _ right.equals) (then_right _ _ (term_right h pos (0 ∷ way) (made (0 ∷ way))) (term_right g pos (1 ∷ way) (made (1 ∷ way)))) k

        membrane_right : {cs : Clauses} {p q : ℕ} → IsMembrane ts cs p q → (way : List ℕ) → AllRight (expanded_clauses words places way cs)
        membrane_right (in_braces a h b) way k = clauses_right h way k

        label_of_atom : {n : ℕ} {xs : Terms} {p q : ℕ} → IsWrittenAtom ts n xs p q → L (label_at words places n)
        label_of_atom (with_name {p = p} a h) = label_here p a
        label_of_atom (with_integer {p = p} a h) = number_here p a

        -- the terms of an atom
        atom_right : {n : ℕ} {xs : Terms} {p q : ℕ} → IsWrittenAtom ts n xs p q → (pos : Pos) (way : List ℕ) → AllRight (expanded_terms words places pos way xs)
        atom_right (with_name a h) pos way k = arguments_right h pos way k
        atom_right (with_integer a h) pos way k = arguments_right h pos way k

        arguments_right : {xs : Terms} {p q : ℕ} → IsArguments ts xs p q → (pos : Pos) (way : List ℕ) → AllRight (expanded_terms words places pos way xs)
        arguments_right no_parentheses pos way k = nothing_right
        arguments_right (no_arguments a b) pos way k = nothing_right
        arguments_right (some_arguments a h b) pos way k = terms_right h pos way k

        terms_right : {xs : Terms} {p q : ℕ} → IsTerms ts xs p q → (pos : Pos) (way : List ℕ) → AllRight (expanded_terms words places pos way xs)
        terms_right (last_term h) pos way k = then_right _ _ (term_right h pos (0 ∷ way) (made (0 ∷ way))) (λ m. nothing_right) k
        terms_right (more_terms h d g) pos way k = then_right _ _ (term_right h pos (0 ∷ way) (made (0 ∷ way))) (terms_right g pos (1 ∷ way)) k

        cells_right : {xs : Terms} {p q : ℕ} → IsTerms ts xs p q → (pos : Pos) (way : List ℕ) (end : Use) (x : Link) → AllRight (cells words places pos way end x xs)
        cells_right (last_term h) pos way end x k =
            then_right _ _ (λ m. leaf_right m _ right.cell) (then_right _ _ (term_right h pos (0 ∷ way) (made (0 ∷ way))) (λ m. nothing_right)) k
        cells_right (more_terms h d g) pos way end x k =
            then_right _ _ (λ m. leaf_right m _ right.cell) (then_right _ _ (term_right h pos (0 ∷ way) (made (0 ∷ way))) (cells_right g pos (1 ∷ way) end (made (1 ∷ way)))) k

        term_right : {t : Term} {p q : ℕ} → IsTerm ts t p q → (pos : Pos) (way : List ℕ) (x : Link) → AllRight (expanded_term words places pos way x t)
        term_right (is_link a) pos way x k = nothing_right
        term_right (is_atom {n = n} h) pos way x k = then_right _ _ (λ m. leaf_right m _ (label_of_atom h)) (atom_right h (place_at words places n) way) k
        term_right (is_context {p = p} a) pos way x k = leaf_right k _ (context_here p a)
        term_right (is_membrane h) pos way x k = membrane_of_right _ (then_right _ _ (λ m. leaf_right m _ right.plus) (membrane_right h way) k)
        term_right (is_list h) pos way x k = term_list_right h pos way x k

        term_list_right : {t : Term} {p q : ℕ} → IsTermList ts t p q → (pos : Pos) (way : List ℕ) (x : Link) → AllRight (expanded_term words places pos way x t)
        term_list_right (empty_list a b) pos way x k =
            then_right _ _ (λ m. nothing_right) (λ m. leaf_right m (atom_leaf (named (codes "[]")) (link_used words places x pos ∷ []) pos) right.empty) k
        term_list_right (closed_list {xs = xs} a h b) pos way x k =
            then_right _ _ (cells_right h pos (0 ∷ way) _ x)
            (λ m. leaf_right m (atom_leaf (named (codes "[]")) (link_used words places (last_link words places (1 ∷ way) x xs) pos ∷ []) pos) right.empty) k
        term_list_right (open_list a h b g c) pos way x k = then_right _ _ (cells_right h pos (0 ∷ way) _ x) (term_right g pos (1 ∷ way) (made (1 ∷ way))) k

      -- the names of what a tree gives to the top, and of its rules
      pub tree_right : {cs : Clauses} {p q : ℕ} → IsClauses ts cs p q → PartsRight (parts_of words places cs)
      tree_right h = clauses_right h [] 0
