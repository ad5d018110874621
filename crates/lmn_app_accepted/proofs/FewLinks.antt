-- No atom of the plain of a tree within the limits has too many links.
use Rattle.std.proofs.Common.{◌≡◌, ℕ, suc, ◌+◌, ◌≤◌, List, [], ◌∷◌, ◌++◌, map, length, refl, sym, ap, ◌∙◌, subst, arith}
use Rattle.std.specs.Prelude.{codes}
use Rattle.std.specs.List.{AllByRecursion, AllZip}
use Rattle.std.proofs.lemmas.List.{length-append, length-map}
use Rattle.lmn_parser_grammar.specs.Limits.{most_arguments, most_term_arguments}
use Rattle.lmn_base.specs.declared.level.Leaf as base
use Rattle.lmn_base.specs.declared.level.Level as base_level
use Rattle.lmn_base.specs.declared.refusal.Pos.{Pos}
use Rattle.lmn_base.specs.declared.rule.Plain.{Plain}
use Rattle.lmn_base.specs.declared.rule.RuleTree.{RuleTree}
use Rattle.lmn_base.specs.Levels.{leaves_of}
use Rattle.lmn_base.specs.Limits.{most_links}
use Rattle.lmn_congruence.specs.Rules as tree
use Rattle.lmn_compile_head.specs.Tables.{HasFewLinks}
use Rattle.lmn_lexer.specs.Laying.{Word}
use Rattle.lmn_parser.specs.Arities.{FitsTerm, FitsTerms, FitsItem, FitsItems, FitsClause, FitsClauses, number_of_terms}
use Rattle.lmn_parser.specs.Syntax.{WrittenCondition, Term, link, atom, list, list_onto, context, membrane, Terms, no_term, term_and, Item, atom_item, membrane_item, context_item, closed_item, bracketed, rule_context, plus_link, group, equation, Items, no_item, item_and, Clause, process, rule, Clauses, no_clause, clause_and}
use Rattle.lmn_flatten_plain.specs.Links.{Link, Use, made}
use Rattle.lmn_flatten_plain.specs.Expanded.{ExpandedLeaf, atom_leaf, typed_leaf, ExpandedLevel, level, ExpandedLevels, no_level, level_and, expanded_levels, ExpandedRule, renamed_use, renamed_leaf, renamed_level, all_renamed}
use Rattle.lmn_flatten_plain.specs.Parts.{Parts, no_parts, joined_parts, level_from_parts, NumberedParts, ◌⊕◌, one_leaf, fresh_copy, rule_of_parts}
use Rattle.lmn_flatten_plain.specs.Expansion.{link_used, expanded_arguments, last_link, expanded_term, cells, expanded_terms, expanded_item, expanded_items, expanded_clause, expanded_clauses, parts_of}
use Rattle.lmn_flatten_plain.specs.Plains.{numbered, numbered_leaf, numbered_use, IsRuleOf, IsPlainOf}
use Rattle.lmn_flatten_plain.proofs.NumberedLevels.{all_leaves, leaves_below, leaves_numbered}
use Rattle.lmn_base.proofs.Lists.{all_append, all_left as all_front, all_right as all_back}

abbrev FewUses : ExpandedLeaf → Type 0
FewUses (atom_leaf l us pos) = length us ≤ most_links
FewUses (typed_leaf n u pos) = Unit {0}

abbrev AllFew : List ExpandedLeaf → Type 0
AllFew ls = AllByRecursion FewUses ls

abbrev RuleFew : ExpandedRule → Type 0
RuleFew r = AllFew (all_leaves r.head) × AllFew (all_leaves r.body)

-- the atoms of some parts have few links
record Few (p : Parts) : Type 0 where
  leaves : AllFew p.leaves
  membranes : AllFew (leaves_below (expanded_levels p.membranes))
  table : AllByRecursion RuleFew p.table

below_joined : (ls ms : List ExpandedLevel) → AllFew (leaves_below (expanded_levels ls)) → AllFew (leaves_below (expanded_levels ms)) → AllFew (leaves_below (expanded_levels (ls ++ ms)))
below_joined [] ms h k = k
below_joined (l ∷ ls) ms h k =
    all_append FewUses (all_leaves l) (leaves_below (expanded_levels (ls ++ ms))) (all_front FewUses (all_leaves l) (leaves_below (expanded_levels ls)) h)
    (below_joined ls ms (all_back FewUses (all_leaves l) (leaves_below (expanded_levels ls)) h) k)

joined_few : (p q : Parts) → Few p → Few q → Few (joined_parts p q)
joined_few p q f g = record {
  leaves = all_append FewUses p.leaves q.leaves f.leaves g.leaves;
  membranes = below_joined p.membranes q.membranes f.membranes g.membranes;
  table = all_append RuleFew p.table q.table f.table g.table;
}

level_few : (p : Parts) → Few p → AllFew (all_leaves (level_from_parts p))
level_few p f = all_append FewUses p.leaves (leaves_below (expanded_levels p.membranes)) f.leaves f.membranes

membrane_few : (p : Parts) → Few p → Few (record { leaves = []; membranes = level_from_parts p ∷ []; contexts = []; rule_contexts = []; rules = []; table = p.table })
membrane_few p f = record { leaves = tt; membranes = all_append FewUses (all_leaves (level_from_parts p)) [] (level_few p f) tt; table = f.table }

-- other links leave their numbers

few_renamed : (f : Link → Link) (l : ExpandedLeaf) → FewUses l → FewUses (renamed_leaf f l)
few_renamed f (atom_leaf l us pos) h = subst (λ n. n ≤ most_links) (sym (length-map us (renamed_use f))) h
few_renamed f (typed_leaf n u pos) h = tt

all_few_renamed : (f : Link → Link) (ls : List ExpandedLeaf) → AllFew ls → AllFew (map (renamed_leaf f) ls)
all_few_renamed f [] h = tt
all_few_renamed f (l ∷ ls) h = (few_renamed f l h.0, all_few_renamed f ls h.1)

mutual
  level_renamed : (f : Link → Link) (l : ExpandedLevel) → AllFew (all_leaves l) → AllFew (all_leaves (renamed_level f l))
  level_renamed f (level ls ms cs os rs) h =
      all_append FewUses (map (renamed_leaf f) ls) (leaves_below (all_renamed f ms)) (all_few_renamed f ls (all_front FewUses ls (leaves_below ms) h))
      (levels_renamed f ms (all_back FewUses ls (leaves_below ms) h))

  levels_renamed : (f : Link → Link) (ls : ExpandedLevels) → AllFew (leaves_below ls) → AllFew (leaves_below (all_renamed f ls))
  levels_renamed f no_level h = tt
  levels_renamed f (level_and l ls) h =
      all_append FewUses (all_leaves (renamed_level f l)) (leaves_below (all_renamed f ls)) (level_renamed f l (all_front FewUses (all_leaves l) (leaves_below ls) h))
      (levels_renamed f ls (all_back FewUses (all_leaves l) (leaves_below ls) h))

below_renamed : (f : Link → Link) (ls : List ExpandedLevel) → AllFew (leaves_below (expanded_levels ls)) → AllFew (leaves_below (expanded_levels (map (renamed_level f) ls)))
below_renamed f [] h = tt
below_renamed f (l ∷ ls) h =
    all_append FewUses (all_leaves (renamed_level f l)) (leaves_below (expanded_levels (map (renamed_level f) ls))) (level_renamed f l (all_front FewUses (all_leaves l) (leaves_below (expanded_levels ls)) h))
    (below_renamed f ls (all_back FewUses (all_leaves l) (leaves_below (expanded_levels ls)) h))

copied_few : (p : Parts) → Few p → Few (fresh_copy p)
copied_few p f = record { leaves = all_few_renamed _ p.leaves f.leaves; membranes = below_renamed _ p.membranes f.membranes; table = f.table }

rule_few : (k : ℕ) (p q r : Parts) (cs : List WrittenCondition) (pos : Pos) → Few p → Few q → Few r
    → Few (record { leaves = []; membranes = []; contexts = []; rule_contexts = []; rules = k ∷ []; table = rule_of_parts p q cs r pos ∷ (p.table ++ (q.table ++ r.table)) })
rule_few k p q r cs pos f g h = record {
  leaves = tt;
  membranes = tt;
  table = (
    (level_few (joined_parts p q) (joined_few p q f g), level_few (joined_parts (fresh_copy p) r) (joined_few (fresh_copy p) r (copied_few p f) h)),
    all_append RuleFew p.table (q.table ++ r.table) f.table (all_append RuleFew q.table r.table g.table h.table),
  );
}

leaf_few : (k : ℕ) (l : ExpandedLeaf) → FewUses l → Few (one_leaf l k)
leaf_few k l h = record { leaves = (h, tt); membranes = tt; table = tt }

nothing_few : Few no_parts
nothing_few = record { leaves = tt; membranes = tt; table = tt }

-- parts from each first number
abbrev AllAreFew : NumberedParts → Type 0
AllAreFew f = (k : ℕ) → Few (f k)

then_few : (f g : NumberedParts) → AllAreFew f → AllAreFew g → AllAreFew (f ⊕ g)
then_few f g a b k = let p = f k in joined_few p (g (k + length p.table)) (a k) (b (k + length p.table))

module _ (words : List Word) (places : List Pos) where
  as_many : (pos : Pos) (way : List ℕ) (ts : Terms) → length (expanded_arguments words places pos way ts) ≡ number_of_terms ts
  as_many pos way no_term = refl
  as_many pos way (term_and t ts) = ap suc (as_many pos (1 ∷ way) ts)

  few_arguments : (pos : Pos) (way : List ℕ) (ts : Terms) → number_of_terms ts ≤ most_arguments → length (expanded_arguments words places pos way ts) ≤ most_links
  few_arguments pos way ts l = let e = as_many pos way ts in omega (arith, e, l)

  few_and_own : (pos : Pos) (way : List ℕ) (ts : Terms) (u : Use) → number_of_terms ts ≤ most_term_arguments → length (expanded_arguments words places pos way ts ++ u ∷ []) ≤ most_links
  few_and_own pos way ts u l = let e = as_many pos way ts in let f = length-append (expanded_arguments words places pos way ts) (u ∷ []) in omega (arith, e, f, l)

  mutual
    term_few : (t : Term) (pos : Pos) (way : List ℕ) (x : Link) → FitsTerm t → AllAreFew (expanded_term words places pos way x t)
    term_few (link p) pos way x h k = nothing_few
    term_few (atom n ts) pos way x h k = then_few _ _ (λ m. leaf_few m _ (few_and_own _ way ts _ h.0)) (terms_few ts _ way h.1) k
    term_few (context p) pos way x h k = leaf_few k _ tt
    term_few (membrane cs) pos way x h k = membrane_few _ (then_few _ _ (λ m. leaf_few m _ (omega arith)) (clauses_few cs way h) k)
    term_few (list ts) pos way x h k =
        then_few _ _ (cells_few ts pos (0 ∷ way) _ x h)
        (λ m. leaf_few m (atom_leaf (tree.named (codes "[]")) (link_used words places (last_link words places (1 ∷ way) x ts) pos ∷ []) pos) (omega arith)) k
    term_few (list_onto ts t) pos way x h k = then_few _ _ (cells_few ts pos (0 ∷ way) _ x h.0) (term_few t pos (1 ∷ way) (made (1 ∷ way)) h.1) k

    cells_few : (ts : Terms) (pos : Pos) (way : List ℕ) (end : Use) (x : Link) → FitsTerms ts → AllAreFew (cells words places pos way end x ts)
    cells_few no_term pos way end x h k = nothing_few
    cells_few (term_and t ts) pos way end x h k =
        then_few _ _ (λ m. leaf_few m _ (omega arith)) (then_few _ _ (term_few t pos (0 ∷ way) (made (0 ∷ way)) h.0) (cells_few ts pos (1 ∷ way) end (made (1 ∷ way)) h.1)) k

    terms_few : (ts : Terms) (pos : Pos) (way : List ℕ) → FitsTerms ts → AllAreFew (expanded_terms words places pos way ts)
    terms_few no_term pos way h k = nothing_few
    terms_few (term_and t ts) pos way h k = then_few _ _ (term_few t pos (0 ∷ way) (made (0 ∷ way)) h.0) (terms_few ts pos (1 ∷ way) h.1) k

    item_few : (i : Item) (way : List ℕ) → FitsItem i → AllAreFew (expanded_item words places way i)
    item_few (atom_item n ts) way h k = then_few _ _ (λ m. leaf_few m _ (few_arguments _ way ts h.0)) (terms_few ts _ way h.1) k
    item_few (membrane_item cs) way h k = membrane_few _ (clauses_few cs way h k)
    item_few (context_item p) way h k = record { leaves = tt; membranes = tt; table = tt }
    item_few (closed_item p) way h k = record { leaves = tt; membranes = tt; table = tt }
    item_few (bracketed p q) way h k = leaf_few k _ tt
    item_few (rule_context p) way h k = record { leaves = tt; membranes = tt; table = tt }
    item_few (plus_link p) way h k = leaf_few k _ (omega arith)
    item_few (group c) way h k = clause_few c way h k
    item_few (equation l s r) way h k =
        then_few _ _ (λ m. leaf_few m _ (omega arith)) (then_few _ _ (term_few l _ (0 ∷ way) (made (0 ∷ way)) h.0) (term_few r _ (1 ∷ way) (made (1 ∷ way)) h.1)) k

    items_few : (is : Items) (way : List ℕ) → FitsItems is → AllAreFew (expanded_items words places way is)
    items_few no_item way h k = nothing_few
    items_few (item_and i is) way h k = then_few _ _ (item_few i (0 ∷ way) h.0) (items_few is (1 ∷ way) h.1) k

    clause_few : (c : Clause) (way : List ℕ) → FitsClause c → AllAreFew (expanded_clause words places way c)
    clause_few (process xs) way h k = items_few xs way h k
    clause_few (rule xs ys cs zs pos) way h k =
        let p = expanded_items words places (0 ∷ way) xs (suc k) in
        let q = expanded_items words places (1 ∷ way) ys (suc k + length p.table) in
        let r = expanded_items words places (2 ∷ way) zs (suc k + length p.table + length q.table) in
        rule_few k p q r cs pos (items_few xs (0 ∷ way) h.0 (suc k)) (items_few ys (1 ∷ way) h.1 (suc k + length p.table))
        (items_few zs (2 ∷ way) h.3 (suc k + length p.table + length q.table))

    clauses_few : (cs : Clauses) (way : List ℕ) → FitsClauses cs → AllAreFew (expanded_clauses words places way cs)
    clauses_few no_clause way h k = nothing_few
    clauses_few (clause_and c cs) way h k = then_few _ _ (clause_few c (0 ∷ way) h.0) (clauses_few cs (1 ∷ way) h.1) k

  -- with numbers

  module _ (names : List tree.Name) where
    few_numbered : (number : Link → ℕ) (ls : List ExpandedLeaf) → AllFew ls → AllByRecursion HasFewLinks (map (numbered_leaf names number) ls)
    few_numbered number [] h = tt
    few_numbered number (atom_leaf l us pos ∷ ls) h = (subst (λ n. n ≤ most_links) (sym (length-map us (numbered_use names number))) h.0, few_numbered number ls h.1)
    few_numbered number (typed_leaf n u pos ∷ ls) h = (tt, few_numbered number ls h.1)

    few_in_level : (number : Link → ℕ) (l : ExpandedLevel) (b : base_level.Level) → b ≡ numbered names number l → AllFew (all_leaves l) → AllByRecursion HasFewLinks (leaves_of b)
    few_in_level number l b e h =
        let P : List base.Leaf → Type 0 = AllByRecursion HasFewLinks in
        subst P (sym (ap leaves_of e ∙ leaves_numbered names number l)) (few_numbered number (all_leaves l) h)

    -- the atoms of a rule have few links
    pub record RuleHasFew (t : RuleTree) : Type 0 where
      pub head : AllByRecursion HasFewLinks (leaves_of t.head)
      pub body : AllByRecursion HasFewLinks (leaves_of t.body)

    rules_few : (rs : List ExpandedRule) (ts : List RuleTree) → AllZip (IsRuleOf words places names) rs ts → AllByRecursion RuleFew rs → AllByRecursion RuleHasFew ts
    rules_few [] [] h f = tt
    rules_few [] (t ∷ ts) h f = absurd h
    rules_few (r ∷ rs) [] h f = absurd h
    rules_few (r ∷ rs) (t ∷ ts) h f =
        let one = h.0 in
        (record { head = few_in_level one.number r.head t.head one.head f.0.0; body = few_in_level one.number r.body t.body one.body f.0.1 }, rules_few rs ts h.1 f.1)

    pub few_links : (t : Clauses) (p : Plain) → IsPlainOf words places names t p → FitsClauses t → AllByRecursion RuleHasFew p.rules
    few_links t p h fits = let parts = parts_of words places t in let few = clauses_few t [] fits 0 in rules_few parts.table p.rules h.rules few.table

    -- and so have those of its top
    pub top_few : (t : Clauses) (p : Plain) → IsPlainOf words places names t p → FitsClauses t → AllByRecursion HasFewLinks (leaves_of p.top)
    top_few t p h fits = let parts = parts_of words places t in few_in_level h.number (level_from_parts parts) p.top h.top (level_few parts (clauses_few t [] fits 0))
