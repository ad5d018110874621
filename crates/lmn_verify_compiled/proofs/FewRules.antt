-- A tree has no more rules, at every depth, than tokens.
use Rattle.std.proofs.Common.{◌≡◌, ℕ, suc, ◌+◌, ◌≤◌, List, [], ◌∷◌, ◌++◌, length, arith}
use Rattle.std.specs.Prelude.{codes}
use Rattle.std.proofs.lemmas.List.{length-append}
use Rattle.lmn_base.specs.declared.refusal.Pos.{Pos}
use Rattle.lmn_congruence.specs.Rules as tree
use Rattle.lmn_lexer.specs.declared.token.Token.{Token}
use Rattle.lmn_lexer.specs.Laying.{Word}
use Rattle.lmn_parser.specs.Syntax.{WrittenCondition, Term, Terms, Item, Items, Clause, Clauses}
use Rattle.lmn_parser.specs.Trees.{IsClauses, no_clauses, last_clause, more_clauses, IsClause, named_rule, unnamed_rule, is_process, IsWrittenRule, is_rule, IsHeads, all_taken, some_kept, IsBody, no_guard, empty_guard, guarded, IsOptList, no_list, some_list, IsList, last_item, more_items, IsItem, is_atom_item, is_membrane_item, is_context_item, is_closed, is_bracketed, is_rule_context, is_plus_link, is_group, is_equation, IsMembrane, in_braces, IsWrittenAtom, with_name, with_integer, IsArguments, no_parentheses, no_arguments, some_arguments, IsTerms, last_term, more_terms, IsTerm, is_link, is_atom, is_context, is_membrane, is_list, IsTermList, empty_list, closed_list, open_list}
use Rattle.lmn_flatten_plain.specs.Links.{Link, Use, made}
use Rattle.lmn_flatten_plain.specs.Expanded.{atom_leaf, ExpandedRule}
use Rattle.lmn_flatten_plain.specs.Parts.{Parts, one_leaf}
use Rattle.lmn_flatten_plain.specs.Expansion.{link_used, last_link, argument, expanded_term, cells, expanded_terms, expanded_item, expanded_items, expanded_clause, expanded_clauses}
use Rattle.lmn_flatten_plain.specs.Meanings.{place_at}
use Rattle.lmn_base.specs.declared.rule.Plain.{Plain}
use Rattle.lmn_parser.specs.Trees.{IsProgram}
use Rattle.lmn_flatten_plain.specs.Plains.{IsPlainOf}
use Rattle.lmn_flatten_plain.proofs.FewItems.{guard_on}
use Rattle.lmn_flatten.proofs.EachLemmas.{each_length as as_many}

joined : (xs ys : List ExpandedRule) → length (xs ++ ys) ≡ length xs + length ys
joined xs ys = length-append xs ys

module _ (words : List Word) (places : List Pos) {ts : List Token} where
  mutual
    clauses_few : {cs : Clauses} {p q : ℕ} → IsClauses ts cs p q → (way : List ℕ) (k : ℕ) → length (expanded_clauses words places way cs k).table + p ≤ q
    clauses_few no_clauses way k = omega arith
    clauses_few (last_clause {c = c} h) way k =
        let a = clause_few h (0 ∷ way) k in
        let s = joined (expanded_clause words places (0 ∷ way) c k).table [] in
        omega arith
    clauses_few (more_clauses {c = c} {cs = cs} h d g) way k =
        let x = expanded_clause words places (0 ∷ way) c k in
        let a = clause_few h (0 ∷ way) k in
        let b = clauses_few g (1 ∷ way) (k + length x.table) in
        let s = joined x.table (expanded_clauses words places (1 ∷ way) cs (k + length x.table)).table in
        omega arith

    clause_few : {c : Clause} {p q : ℕ} → IsClause ts c p q → (way : List ℕ) (k : ℕ) → length (expanded_clause words places way c k).table + p ≤ q
    clause_few (named_rule a b h) way k = let c = rule_few h way k in omega arith
    clause_few (unnamed_rule h) way k = rule_few h way k
    clause_few (is_process h) way k = list_few h way k

    rule_few : {s : ℕ} {c : Clause} {p q : ℕ} → IsWrittenRule ts s c p q → (way : List ℕ) (k : ℕ) → length (expanded_clause words places way c k).table + p ≤ q
    rule_few (is_rule {kept = kept} {taken = taken} {body = body} s h a b) way k =
        let x = (expanded_items words places (0 ∷ way) kept (suc k)).table in
        let y = (expanded_items words places (1 ∷ way) taken (suc k + length x)).table in
        let z = (expanded_items words places (2 ∷ way) body (suc k + length x + length y)).table in
        let c = heads_few h way (suc k) in
        let d = body_few b way (suc k + length x + length y) in
        let s = joined x (y ++ z) in
        let t = joined y z in
        omega arith

    heads_few : {xs ys : Items} {p q : ℕ} → IsHeads ts xs ys p q → (way : List ℕ) (k : ℕ) →
        (let x = (expanded_items words places (0 ∷ way) xs k).table in length x + length (expanded_items words places (1 ∷ way) ys (k + length x)).table + p ≤ q)
    heads_few (all_taken h) way k = let a = opt_few h (1 ∷ way) (k + 0) in omega arith
    heads_few (some_kept {xs = xs} h a g) way k =
        let b = opt_few h (0 ∷ way) k in
        let c = opt_few g (1 ∷ way) (k + length (expanded_items words places (0 ∷ way) xs k).table) in
        omega arith

    body_few : {cs : List WrittenCondition} {xs : Items} {p q : ℕ} → IsBody ts cs xs p q → (way : List ℕ) (k : ℕ) → length (expanded_items words places (2 ∷ way) xs k).table + p ≤ q
    body_few (no_guard h) way k = opt_few h (2 ∷ way) k
    body_few (empty_guard a h) way k = let b = opt_few h (2 ∷ way) k in omega arith
    body_few (guarded g a h) way k = let b = guard_on g in let c = opt_few h (2 ∷ way) k in omega arith

    opt_few : {xs : Items} {p q : ℕ} → IsOptList ts xs p q → (way : List ℕ) (k : ℕ) → length (expanded_items words places way xs k).table + p ≤ q
    opt_few no_list way k = omega arith
    opt_few (some_list h) way k = list_few h way k

    list_few : {xs : Items} {p q : ℕ} → IsList ts xs p q → (way : List ℕ) (k : ℕ) → length (expanded_items words places way xs k).table + p ≤ q
    list_few (last_item {x = x} h) way k =
        let a = item_few h (0 ∷ way) k in
        let s = joined (expanded_item words places (0 ∷ way) x k).table [] in
        omega arith
    list_few (more_items {x = x} {xs = xs} h d g) way k =
        let y = expanded_item words places (0 ∷ way) x k in
        let a = item_few h (0 ∷ way) k in
        let b = list_few g (1 ∷ way) (k + length y.table) in
        let s = joined y.table (expanded_items words places (1 ∷ way) xs (k + length y.table)).table in
        omega arith

    item_few : {x : Item} {p q : ℕ} → IsItem ts x p q → (way : List ℕ) (k : ℕ) → length (expanded_item words places way x k).table + p ≤ q
    item_few (is_atom_item {n = n} h) way k = let a = atom_few h (place_at words places n) way (k + 0) in omega arith
    item_few (is_membrane_item h) way k = let a = membrane_few h way k in omega arith
    item_few (is_context_item a) way k = omega arith
    item_few (is_closed a b c) way k = omega arith
    item_few (is_bracketed a b c d) way k = omega arith
    item_few (is_rule_context a) way k = omega arith
    item_few (is_plus_link a b) way k = omega arith
    item_few (is_group a h b) way k = let c = clause_few h way k in omega arith
    item_few (is_equation {l = l} {r = r} {m = s} h d g) way k =
        let pos = place_at words places s in
        let x = expanded_term words places pos (0 ∷ way) (made (0 ∷ way)) l (k + 0) in
        let a = term_few h pos (0 ∷ way) (made (0 ∷ way)) (k + 0) in
        let b = term_few g pos (1 ∷ way) (made (1 ∷ way)) (k + 0 + length x.table) in
        let s = joined x.table (expanded_term words places pos (1 ∷ way) (made (1 ∷ way)) r (k + 0 + length x.table)).table in
        omega arith

    membrane_few : {cs : Clauses} {p q : ℕ} → IsMembrane ts cs p q → (way : List ℕ) (k : ℕ) → length (expanded_clauses words places way cs k).table + p + 2 ≤ q
    membrane_few (in_braces a h b) way k = let c = clauses_few h way k in omega arith

    -- the terms of an atom, and the atom itself
    atom_few : {n : ℕ} {xs : Terms} {p q : ℕ} → IsWrittenAtom ts n xs p q → (pos : Pos) (way : List ℕ) (k : ℕ) → length (expanded_terms words places pos way xs k).table + p + 1 ≤ q
    atom_few (with_name a h) pos way k = let b = arguments_few h pos way k in omega arith
    atom_few (with_integer a h) pos way k = let b = arguments_few h pos way k in omega arith

    arguments_few : {xs : Terms} {p q : ℕ} → IsArguments ts xs p q → (pos : Pos) (way : List ℕ) (k : ℕ) → length (expanded_terms words places pos way xs k).table + p ≤ q
    arguments_few no_parentheses pos way k = omega arith
    arguments_few (no_arguments a b) pos way k = omega arith
    arguments_few (some_arguments a h b) pos way k = let c = terms_few h pos way k in omega arith

    terms_few : {xs : Terms} {p q : ℕ} → IsTerms ts xs p q → (pos : Pos) (way : List ℕ) (k : ℕ) → length (expanded_terms words places pos way xs k).table + p ≤ q
    terms_few (last_term {t = t} h) pos way k =
        let a = term_few h pos (0 ∷ way) (made (0 ∷ way)) k in
        let s = joined (expanded_term words places pos (0 ∷ way) (made (0 ∷ way)) t k).table [] in
        omega arith
    terms_few (more_terms {t = t} {xs = xs} h d g) pos way k =
        let x = expanded_term words places pos (0 ∷ way) (made (0 ∷ way)) t k in
        let a = term_few h pos (0 ∷ way) (made (0 ∷ way)) k in
        let b = terms_few g pos (1 ∷ way) (k + length x.table) in
        let s = joined x.table (expanded_terms words places pos (1 ∷ way) xs (k + length x.table)).table in
        omega arith

    -- a cell for each element, and what the elements make
    cells_few : {xs : Terms} {p q : ℕ} → IsTerms ts xs p q → (pos : Pos) (way : List ℕ) (end : Use) (x : Link) (k : ℕ)
        → length (cells words places pos way end x xs k).table + p ≤ q + 1
    cells_few (last_term {t = t} h) pos way end x k =
        let a = term_few h pos (0 ∷ way) (made (0 ∷ way)) (k + 0) in
        let s = joined (expanded_term words places pos (0 ∷ way) (made (0 ∷ way)) t (k + 0)).table [] in
        omega arith
    cells_few (more_terms {t = t} {xs = xs} h d g) pos way end x k =
        let y = expanded_term words places pos (0 ∷ way) (made (0 ∷ way)) t (k + 0) in
        let a = term_few h pos (0 ∷ way) (made (0 ∷ way)) (k + 0) in
        let b = cells_few g pos (1 ∷ way) end (made (1 ∷ way)) (k + 0 + length y.table) in
        let s = joined y.table (cells words places pos (1 ∷ way) end (made (1 ∷ way)) xs (k + 0 + length y.table)).table in
        omega arith

    term_few : {t : Term} {p q : ℕ} → IsTerm ts t p q → (pos : Pos) (way : List ℕ) (x : Link) (k : ℕ) → length (expanded_term words places pos way x t k).table + p ≤ q
    term_few (is_link a) pos way x k = omega arith
    term_few (is_atom {n = n} h) pos way x k = let a = atom_few h (place_at words places n) way (k + 0) in omega arith
    term_few (is_context a) pos way x k = omega arith
    term_few (is_membrane h) pos way x k = let a = membrane_few h way (k + 0) in omega arith
    term_few (is_list h) pos way x k = term_list_few h pos way x k

    term_list_few : {t : Term} {p q : ℕ} → IsTermList ts t p q → (pos : Pos) (way : List ℕ) (x : Link) (k : ℕ) → length (expanded_term words places pos way x t k).table + p ≤ q
    term_list_few (empty_list a b) pos way x k = omega arith
    term_list_few (closed_list {xs = xs} a h b) pos way x k =
        let end = link_used words places (made (1 ∷ way)) pos in
        let y = cells words places pos (0 ∷ way) end x xs k in
        let c = cells_few h pos (0 ∷ way) end x k in
        let nil : Parts = one_leaf (atom_leaf (tree.named (codes "[]")) (link_used words places (last_link words places (1 ∷ way) x xs) pos ∷ []) pos) (k + length y.table) in
        let s = joined y.table nil.table in
        omega arith
    term_list_few (open_list {xs = xs} {t = t} a h b g c) pos way x k =
        let end = argument words places pos (1 ∷ way) t in
        let y = cells words places pos (0 ∷ way) end x xs k in
        let d = cells_few h pos (0 ∷ way) end x k in
        let e = term_few g pos (1 ∷ way) (made (1 ∷ way)) (k + length y.table) in
        let s = joined y.table (expanded_term words places pos (1 ∷ way) (made (1 ∷ way)) t (k + length y.table)).table in
        omega arith

-- the plain of a text has no more rules than the text has tokens
pub few_rules : (tokens : List Token) (words : List Word) (places : List Pos) (names : List tree.Name) (t : Clauses) (p : Plain) → IsProgram tokens t
    → IsPlainOf words places names t p → length p.rules ≤ length tokens
few_rules tokens words places names t p is_tree plain =
    let few = clauses_few words places is_tree.1 [] 0 in
    let same = as_many _ _ _ plain.rules in
    omega (arith, few, same, is_tree.3)
