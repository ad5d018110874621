-- An expansion has no more leaves and membranes outside its rules than its tree has tokens.
use Rattle.std.proofs.Common.{◌≡◌, ℕ, ◌+◌, ◌≤◌, List, [], ◌∷◌, ◌++◌, map, length, sum, refl, ap, ◌∙◌, arith}
use Rattle.std.specs.Prelude.{codes}
use Rattle.std.proofs.lemmas.List.{length-append, length-map}
use Rattle.std.proofs.lemmas.List.Sums.{sum_by-cons}
use Rattle.lmn_base.specs.declared.refusal.Pos.{Pos}
use Rattle.lmn_base.specs.declared.level.Level.TheFolds.{fold-roll-Level}
use Rattle.lmn_congruence.specs.Rules as tree
use Rattle.lmn_lexer.specs.declared.token.Token.{Token}
use Rattle.lmn_lexer.specs.Laying.{Word}
use Rattle.lmn_parser.specs.Syntax.{Expr, WrittenCondition, Term, Terms, Item, Items, Clause, Clauses}
use Rattle.lmn_parser.specs.Trees.{IsSum, one_product, plus, IsProduct, one_factor, times, IsFactor, is_integer, is_value, in_parentheses, IsContexts, last_context, more_contexts, IsContextArguments, no_contexts, some_contexts, IsCondition, is_called, is_compared, is_equal, is_different, IsWrittenGuard, last_condition, more_conditions, IsClauses, no_clauses, last_clause, more_clauses, IsClause, named_rule, unnamed_rule, is_process, IsWrittenRule, is_rule, IsHeads, all_taken, some_kept, IsBody, no_guard, empty_guard, guarded, IsOptList, no_list, some_list, IsList, last_item, more_items, IsItem, is_atom_item, is_membrane_item, is_context_item, is_closed, is_bracketed, is_rule_context, is_plus_link, is_group, is_equation, IsMembrane, in_braces, IsWrittenAtom, with_name, with_integer, IsArguments, no_parentheses, no_arguments, some_arguments, IsTerms, last_term, more_terms, IsTerm, is_link, is_atom, is_context, is_membrane, is_list, IsTermList, empty_list, closed_list, open_list}
use Rattle.lmn_flatten_plain.specs.Links.{Link, Use, made}
use Rattle.lmn_flatten_plain.specs.Expanded.{atom_leaf, ExpandedLevel, level, ExpandedLevels, no_level, level_and, expanded_levels}
use Rattle.lmn_flatten_plain.specs.Parts.{Parts, no_parts, joined_parts, level_from_parts, one_leaf}
use Rattle.lmn_flatten_plain.specs.Expansion.{link_used, last_link, argument, expanded_term, cells, expanded_terms, expanded_item, expanded_items, expanded_clause, expanded_clauses, parts_of}
use Rattle.lmn_flatten_plain.specs.Plains.{numbered_leaf, numbered, all_numbered}
use Rattle.lmn_flatten_plain.specs.Meanings.{place_at}
use Rattle.lmn_flatten_plain.specs.Sizes.{size_step, item_count_of_level}
use Rattle.lmn_flatten_plain.specs.Laws.{FewAtTop}

abbrev mutual
  pub level_size : ExpandedLevel → ℕ
  level_size (level leaves membranes contexts rule_contexts rules) = length leaves + levels_size membranes

  pub levels_size : ExpandedLevels → ℕ
  levels_size no_level = 0
  levels_size (level_and l ls) = 1 + level_size l + levels_size ls

-- numbers change nothing
module _ (names : List tree.Name) (number : Link → ℕ) where
  mutual
    pub size_numbered : (l : ExpandedLevel) → item_count_of_level (numbered names number l) ≡ level_size l
    size_numbered (level leaves membranes contexts rule_contexts rules) =
        fold-roll-Level ℕ size_step _ ∙ (let h = sizes_numbered membranes in let k = length-map leaves (numbered_leaf names number) in omega arith)

    sizes_numbered : (ls : ExpandedLevels) → length (map item_count_of_level (all_numbered names number ls)) + sum (map item_count_of_level (all_numbered names number ls)) ≡ levels_size ls
    sizes_numbered no_level = refl
    sizes_numbered (level_and l ls) =
        let h = size_numbered l in
        let k = sizes_numbered ls in
        let s = sum_by-cons (λ n. n) (item_count_of_level (numbered names number l)) (map item_count_of_level (all_numbered names number ls)) in
        omega arith

abbrev size : Parts → ℕ
size p = length p.leaves + levels_size (expanded_levels p.membranes)

levels_joined : (ls ms : List ExpandedLevel) → levels_size (expanded_levels (ls ++ ms)) ≡ levels_size (expanded_levels ls) + levels_size (expanded_levels ms)
levels_joined [] ms = omega arith
levels_joined (l ∷ ls) ms = let h = levels_joined ls ms in omega arith

size_joined : (p q : Parts) → size (joined_parts p q) ≡ size p + size q
size_joined p q = let h = length-append p.leaves q.leaves in let k = levels_joined p.membranes q.membranes in omega arith

-- Guards go on.

module _ {ts : List Token} where
  mutual
    sum_on : {e : Expr} {p q : ℕ} → IsSum ts e p q → p ≤ q
    sum_on (one_product h) = product_on h
    sum_on (plus op h s k) = let a = sum_on h in let b = product_on k in omega arith

    product_on : {e : Expr} {p q : ℕ} → IsProduct ts e p q → p ≤ q
    product_on (one_factor h) = factor_on h
    product_on (times op h s k) = let a = product_on h in let b = factor_on k in omega arith

    factor_on : {e : Expr} {p q : ℕ} → IsFactor ts e p q → p ≤ q
    factor_on (is_integer h) = omega arith
    factor_on (is_value h) = omega arith
    factor_on (in_parentheses a h b) = let c = sum_on h in omega arith

  contexts_on : {xs : List ℕ} {p q : ℕ} → IsContexts ts xs p q → p ≤ q
  contexts_on (last_context h) = omega arith
  contexts_on (more_contexts a b h) = let c = contexts_on h in omega arith

  context_arguments_on : {xs : List ℕ} {p q : ℕ} → IsContextArguments ts xs p q → p ≤ q
  context_arguments_on no_contexts = omega arith
  context_arguments_on (some_contexts a h b) = let c = contexts_on h in omega arith

  condition_on : {c : WrittenCondition} {p q : ℕ} → IsCondition ts c p q → p ≤ q
  condition_on (is_called n h) = let a = context_arguments_on h in omega arith
  condition_on (is_compared op h s k) = let a = sum_on h in let b = sum_on k in omega arith
  condition_on (is_equal a b h) = let c = sum_on h in omega arith
  condition_on (is_different a b c) = omega arith

  -- behind a guard one isn't before it
  pub guard_on : {cs : List WrittenCondition} {p q : ℕ} → IsWrittenGuard ts cs p q → p ≤ q
  guard_on (last_condition h) = condition_on h
  guard_on (more_conditions h a k) = let b = condition_on h in let c = guard_on k in omega arith

module _ (words : List Word) (places : List Pos) {ts : List Token} where
  mutual
    clauses_few : {cs : Clauses} {p q : ℕ} → IsClauses ts cs p q → (way : List ℕ) (k : ℕ) → size (expanded_clauses words places way cs k) + p ≤ q
    clauses_few no_clauses way k = omega arith
    clauses_few (last_clause {c = c} h) way k =
        let a = clause_few h (0 ∷ way) k in
        let s = size_joined (expanded_clause words places (0 ∷ way) c k) no_parts in
        omega arith
    clauses_few (more_clauses {c = c} {cs = cs} h d g) way k =
        let x = expanded_clause words places (0 ∷ way) c k in
        let a = clause_few h (0 ∷ way) k in
        let b = clauses_few g (1 ∷ way) (k + length x.table) in
        let s = size_joined x (expanded_clauses words places (1 ∷ way) cs (k + length x.table)) in
        omega arith

    clause_few : {c : Clause} {p q : ℕ} → IsClause ts c p q → (way : List ℕ) (k : ℕ) → size (expanded_clause words places way c k) + p ≤ q
    clause_few (named_rule a b h) way k = let c = rule_few h way k in omega arith
    clause_few (unnamed_rule h) way k = rule_few h way k
    clause_few (is_process h) way k = list_few h way k

    rule_few : {s : ℕ} {c : Clause} {p q : ℕ} → IsWrittenRule ts s c p q → (way : List ℕ) (k : ℕ) → size (expanded_clause words places way c k) + p ≤ q
    rule_few (is_rule s h a b) way k = let c = heads_on h in let d = body_on b in omega arith

    heads_on : {xs ys : Items} {p q : ℕ} → IsHeads ts xs ys p q → p ≤ q
    heads_on (all_taken h) = opt_on h
    heads_on (some_kept h a g) = let b = opt_on h in let c = opt_on g in omega arith

    body_on : {cs : List WrittenCondition} {xs : Items} {p q : ℕ} → IsBody ts cs xs p q → p ≤ q
    body_on (no_guard h) = opt_on h
    body_on (empty_guard a h) = let b = opt_on h in omega arith
    body_on (guarded g a h) = let b = guard_on g in let c = opt_on h in omega arith

    opt_on : {xs : Items} {p q : ℕ} → IsOptList ts xs p q → p ≤ q
    opt_on no_list = omega arith
    opt_on (some_list h) = let a = list_few h [] 0 in omega arith

    list_few : {xs : Items} {p q : ℕ} → IsList ts xs p q → (way : List ℕ) (k : ℕ) → size (expanded_items words places way xs k) + p ≤ q
    list_few (last_item {x = x} h) way k =
        let a = item_few h (0 ∷ way) k in
        let s = size_joined (expanded_item words places (0 ∷ way) x k) no_parts in
        omega arith
    list_few (more_items {x = x} {xs = xs} h d g) way k =
        let y = expanded_item words places (0 ∷ way) x k in
        let a = item_few h (0 ∷ way) k in
        let b = list_few g (1 ∷ way) (k + length y.table) in
        let s = size_joined y (expanded_items words places (1 ∷ way) xs (k + length y.table)) in
        omega arith

    item_few : {x : Item} {p q : ℕ} → IsItem ts x p q → (way : List ℕ) (k : ℕ) → size (expanded_item words places way x k) + p ≤ q
    item_few (is_atom_item {n = n} h) way k = let a = atom_few h (place_at words places n) way (k + 0) in omega arith
    item_few (is_membrane_item h) way k = let a = membrane_few h way k in omega arith
    item_few (is_context_item a) way k = omega arith
    item_few (is_closed a b c) way k = omega arith
    item_few (is_bracketed a b c d) way k = omega arith
    item_few (is_rule_context a) way k = omega arith
    item_few (is_plus_link a b) way k = omega arith
    item_few (is_group a h b) way k = let c = clause_few h way k in omega arith
    item_few (is_equation {l = l} {r = r} {m = s} h d g) way k =
        let pos = place_at words places s in
        let x = expanded_term words places pos (0 ∷ way) (made (0 ∷ way)) l (k + 0) in
        let a = term_few h pos (0 ∷ way) (made (0 ∷ way)) (k + 0) in
        let b = term_few g pos (1 ∷ way) (made (1 ∷ way)) (k + 0 + length x.table) in
        let s = size_joined x (expanded_term words places pos (1 ∷ way) (made (1 ∷ way)) r (k + 0 + length x.table)) in
        omega arith

    membrane_few : {cs : Clauses} {p q : ℕ} → IsMembrane ts cs p q → (way : List ℕ) (k : ℕ) → size (expanded_clauses words places way cs k) + p + 2 ≤ q
    membrane_few (in_braces a h b) way k = let c = clauses_few h way k in omega arith

    -- the terms of an atom, and the atom itself
    atom_few : {n : ℕ} {xs : Terms} {p q : ℕ} → IsWrittenAtom ts n xs p q → (pos : Pos) (way : List ℕ) (k : ℕ) → size (expanded_terms words places pos way xs k) + p + 1 ≤ q
    atom_few (with_name a h) pos way k = let b = arguments_few h pos way k in omega arith
    atom_few (with_integer a h) pos way k = let b = arguments_few h pos way k in omega arith

    arguments_few : {xs : Terms} {p q : ℕ} → IsArguments ts xs p q → (pos : Pos) (way : List ℕ) (k : ℕ) → size (expanded_terms words places pos way xs k) + p ≤ q
    arguments_few no_parentheses pos way k = omega arith
    arguments_few (no_arguments a b) pos way k = omega arith
    arguments_few (some_arguments a h b) pos way k = let c = terms_few h pos way k in omega arith

    terms_few : {xs : Terms} {p q : ℕ} → IsTerms ts xs p q → (pos : Pos) (way : List ℕ) (k : ℕ) → size (expanded_terms words places pos way xs k) + p ≤ q
    terms_few (last_term {t = t} h) pos way k =
        let a = term_few h pos (0 ∷ way) (made (0 ∷ way)) k in
        let s = size_joined (expanded_term words places pos (0 ∷ way) (made (0 ∷ way)) t k) no_parts in
        omega arith
    terms_few (more_terms {t = t} {xs = xs} h d g) pos way k =
        let x = expanded_term words places pos (0 ∷ way) (made (0 ∷ way)) t k in
        let a = term_few h pos (0 ∷ way) (made (0 ∷ way)) k in
        let b = terms_few g pos (1 ∷ way) (k + length x.table) in
        let s = size_joined x (expanded_terms words places pos (1 ∷ way) xs (k + length x.table)) in
        omega arith

    -- a cell for each element, and what the elements make
    cells_few : {xs : Terms} {p q : ℕ} → IsTerms ts xs p q → (pos : Pos) (way : List ℕ) (end : Use) (x : Link) (k : ℕ)
        → size (cells words places pos way end x xs k) + p ≤ q + 1
    cells_few (last_term {t = t} h) pos way end x k =
        let a = term_few h pos (0 ∷ way) (made (0 ∷ way)) (k + 0) in
        let s = size_joined (expanded_term words places pos (0 ∷ way) (made (0 ∷ way)) t (k + 0)) no_parts in
        omega arith
    cells_few (more_terms {t = t} {xs = xs} h d g) pos way end x k =
        let y = expanded_term words places pos (0 ∷ way) (made (0 ∷ way)) t (k + 0) in
        let a = term_few h pos (0 ∷ way) (made (0 ∷ way)) (k + 0) in
        let b = cells_few g pos (1 ∷ way) end (made (1 ∷ way)) (k + 0 + length y.table) in
        let s = size_joined y (cells words places pos (1 ∷ way) end (made (1 ∷ way)) xs (k + 0 + length y.table)) in
        omega arith

    term_few : {t : Term} {p q : ℕ} → IsTerm ts t p q → (pos : Pos) (way : List ℕ) (x : Link) (k : ℕ) → size (expanded_term words places pos way x t k) + p ≤ q
    term_few (is_link a) pos way x k = omega arith
    term_few (is_atom {n = n} h) pos way x k = let a = atom_few h (place_at words places n) way (k + 0) in omega arith
    term_few (is_context a) pos way x k = omega arith
    term_few (is_membrane h) pos way x k = let a = membrane_few h way (k + 0) in omega arith
    term_few (is_list h) pos way x k = term_list_few h pos way x k

    term_list_few : {t : Term} {p q : ℕ} → IsTermList ts t p q → (pos : Pos) (way : List ℕ) (x : Link) (k : ℕ) → size (expanded_term words places pos way x t k) + p ≤ q
    term_list_few (empty_list a b) pos way x k = omega arith
    term_list_few (closed_list {xs = xs} a h b) pos way x k =
        let end = link_used words places (made (1 ∷ way)) pos in
        let y = cells words places pos (0 ∷ way) end x xs k in
        let c = cells_few h pos (0 ∷ way) end x k in
        let nil : Parts = one_leaf (atom_leaf (tree.named (codes "[]")) (link_used words places (last_link words places (1 ∷ way) x xs) pos ∷ []) pos) (k + length y.table) in
        let s = size_joined y nil in
        omega arith
    term_list_few (open_list {xs = xs} {t = t} a h b g c) pos way x k =
        let end = argument words places pos (1 ∷ way) t in
        let y = cells words places pos (0 ∷ way) end x xs k in
        let d = cells_few h pos (0 ∷ way) end x k in
        let e = term_few g pos (1 ∷ way) (made (1 ∷ way)) (k + length y.table) in
        let s = size_joined y (expanded_term words places pos (1 ∷ way) (made (1 ∷ way)) t (k + length y.table)) in
        omega arith

-- the top of a plain has no more atoms and membranes than the text has tokens
pub few_at_top : FewAtTop
few_at_top tokens words places names t p is_tree plain =
    let few = clauses_few words places is_tree.1 [] 0 in
    let same = ap item_count_of_level plain.top ∙ size_numbered names plain.number (level_from_parts (parts_of words places t)) in
    omega (arith, few, same, is_tree.3)
