-- The numbers of rules in an expansion.
use Rattle.std.proofs.Common.{◌≡◌, ℕ, suc, ◌+◌, ◌<◌, ◌≤◌, List, [], ◌∷◌, ◌++◌, map, length, refl, sym, ap, ◌∙◌, subst, arith}
use Rattle.std.specs.Prelude.{codes}
use Rattle.std.specs.List.{AllByRecursion}
use Rattle.std.proofs.lemmas.List.{append_assoc, length-append}
use Rattle.lmn_base.specs.declared.refusal.Pos.{Pos}
use Rattle.lmn_congruence.specs.Rules as tree
use Rattle.lmn_lexer.specs.Laying.{Word}
use Rattle.lmn_parser.specs.Syntax.{WrittenCondition, Term, link, atom, list, list_onto, context, membrane, Terms, no_term, term_and, Item, atom_item, membrane_item, context_item, closed_item, bracketed, rule_context, plus_link, group, equation, Items, no_item, item_and, Clause, process, rule, Clauses, no_clause, clause_and}
use Rattle.lmn_flatten_plain.specs.Links.{Link, Use, made}
use Rattle.lmn_flatten_plain.specs.Expanded.{ExpandedLeaf, atom_leaf, ExpandedLevel, level, ExpandedLevels, no_level, level_and, expanded_levels, ExpandedRule, renamed_level, all_renamed}
use Rattle.lmn_flatten_plain.specs.Parts.{Parts, no_parts, joined_parts, level_from_parts, NumberedParts, ◌⊕◌, one_leaf, fresh_copy, rule_of_parts}
use Rattle.lmn_flatten_plain.specs.Expansion.{link_used, last_link, expanded_term, cells, expanded_terms, expanded_item, expanded_items, expanded_clause, expanded_clauses}
use Rattle.lmn_base.proofs.Lists.{all_append, all_left as all_front, all_right as all_back}

-- the numbers of the rules in a level, at every depth
abbrev mutual
  pub rule_numbers : ExpandedLevel → List ℕ
  rule_numbers (level leaves membranes contexts rule_contexts rules) = rules ++ numbers_in membranes

  pub numbers_in : ExpandedLevels → List ℕ
  numbers_in no_level = []
  numbers_in (level_and l ls) = rule_numbers l ++ numbers_in ls

-- each number is at least the first and below the second
abbrev pub Within : ℕ → ℕ → List ℕ → Type 0
Within low high ns = AllByRecursion (λ n. (low ≤ n) × (n < high)) ns

-- numbers within bounds are within wider ones
pub wider : {low high lower higher : ℕ} (ns : List ℕ) → lower ≤ low → high ≤ higher → Within low high ns → Within lower higher ns
wider [] a b h = tt
wider (n ∷ ns) a b h = let i = h.0 in ((omega (arith, a, i.0), omega (arith, b, i.1)), wider ns a b h.1)

within_both : (low high : ℕ) (ms ns : List ℕ) → Within low high ms → Within low high ns → Within low high (ms ++ ns)
within_both low high ms ns h k = all_append (λ n. (low ≤ n) × (n < high)) ms ns h k

-- in the rule with the number k and those behind it stand only greater numbers
abbrev pub TableFits : ℕ → ℕ → List ExpandedRule → Type 0
TableFits k high [] = Unit {0}
TableFits k high (r ∷ rs) = Within (k + 1) high (rule_numbers r.head ++ rule_numbers r.body) × TableFits (k + 1) high rs

table_higher : {high higher : ℕ} (k : ℕ) (rs : List ExpandedRule) → high ≤ higher → TableFits k high rs → TableFits k higher rs
table_higher k [] b h = tt
table_higher k (r ∷ rs) b h = (wider (rule_numbers r.head ++ rule_numbers r.body) (omega arith) b h.0, table_higher (k + 1) rs b h.1)

table_at : (high : ℕ) {k m : ℕ} (rs : List ExpandedRule) → k ≡ m → TableFits k high rs → TableFits m high rs
table_at high rs e h = let P : ℕ → Type 0 = λ n. TableFits n high rs in subst P e h

table_both : (high k : ℕ) (rs ss : List ExpandedRule) → TableFits k high rs → TableFits (k + length rs) high ss → TableFits k high (rs ++ ss)
table_both high k [] ss h g = table_at high ss (omega arith) g
table_both high k (r ∷ rs) ss h g = (h.0, table_both high (k + 1) rs ss h.1 (table_at high ss (omega arith) g))

-- the numbers of parts whose first rule has the number k
pub record Fits (k : ℕ) (p : Parts) : Type 0 where
  pub rules : Within k (k + length p.table) p.rules
  pub membranes : Within k (k + length p.table) (numbers_in (expanded_levels p.membranes))
  pub table : TableFits k (k + length p.table) p.table

numbers_joined : (ls ms : List ExpandedLevel) → numbers_in (expanded_levels (ls ++ ms)) ≡ numbers_in (expanded_levels ls) ++ numbers_in (expanded_levels ms)
numbers_joined [] ms = refl
numbers_joined (l ∷ ls) ms = ap (λ ns. rule_numbers l ++ ns) (numbers_joined ls ms) ∙ sym (append_assoc (rule_numbers l) (numbers_in (expanded_levels ls)) (numbers_in (expanded_levels ms)))

joined_fits : (k : ℕ) (p q : Parts) → Fits k p → Fits (k + length p.table) q → Fits k (joined_parts p q)
joined_fits k p q f g =
    let size = length-append p.table q.table in
    let P : List ℕ → Type 0 = Within k (k + length (p.table ++ q.table)) in
    record {
      rules = within_both k (k + length (p.table ++ q.table)) p.rules q.rules (wider p.rules (omega arith) (omega arith) f.rules) (wider q.rules (omega arith) (omega arith) g.rules);
      membranes = subst P (sym (numbers_joined p.membranes q.membranes))
          (within_both k (k + length (p.table ++ q.table)) (numbers_in (expanded_levels p.membranes)) (numbers_in (expanded_levels q.membranes))
          (wider (numbers_in (expanded_levels p.membranes)) (omega arith) (omega arith) f.membranes) (wider (numbers_in (expanded_levels q.membranes)) (omega arith) (omega arith) g.membranes));
      table = table_both (k + length (p.table ++ q.table)) k p.table q.table (table_higher k p.table (omega arith) f.table) (table_higher (k + length p.table) q.table (omega arith) g.table);
    }

-- the rules of a level are within its table
pub level_within : (k : ℕ) (p : Parts) → Fits k p → Within k (k + length p.table) (rule_numbers (level_from_parts p))
level_within k p f = within_both k (k + length p.table) p.rules (numbers_in (expanded_levels p.membranes)) f.rules f.membranes

membrane_fits : (k : ℕ) (p : Parts) → Fits k p
    → Fits k (record { leaves = []; membranes = level_from_parts p ∷ []; contexts = []; rule_contexts = []; rules = []; table = p.table })
membrane_fits k p f = record {
  rules = tt;
  membranes = within_both k (k + length p.table) (rule_numbers (level_from_parts p)) [] (level_within k p f) tt;
  table = f.table;
}

-- other links leave the numbers
mutual
  renamed_numbers : (f : Link → Link) (l : ExpandedLevel) → rule_numbers (renamed_level f l) ≡ rule_numbers l
  renamed_numbers f (level leaves membranes contexts rule_contexts rules) = ap (λ ns. rules ++ ns) (all_renamed_numbers f membranes)

  all_renamed_numbers : (f : Link → Link) (ls : ExpandedLevels) → numbers_in (all_renamed f ls) ≡ numbers_in ls
  all_renamed_numbers f no_level = refl
  all_renamed_numbers f (level_and l ls) = ap (λ ns. ns ++ numbers_in (all_renamed f ls)) (renamed_numbers f l) ∙ ap (λ ns. rule_numbers l ++ ns) (all_renamed_numbers f ls)

renamed_all : (f : Link → Link) (ls : List ExpandedLevel) → numbers_in (expanded_levels (map (renamed_level f) ls)) ≡ numbers_in (expanded_levels ls)
renamed_all f [] = refl
renamed_all f (l ∷ ls) = ap (λ ns. ns ++ numbers_in (expanded_levels (map (renamed_level f) ls))) (renamed_numbers f l) ∙ ap (λ ns. rule_numbers l ++ ns) (renamed_all f ls)

copied_within : (low high : ℕ) (p q : Parts) → Within low high (rule_numbers (level_from_parts p)) → Within low high (rule_numbers (level_from_parts q))
    → (f : Link → Link) → Within low high ((p.rules ++ q.rules) ++ numbers_in (expanded_levels (map (renamed_level f) p.membranes ++ q.membranes)))
copied_within low high p q h g f =
    let P : ℕ → Type 0 = λ n. (low ≤ n) × (n < high) in
    let Q : List ℕ → Type 0 = Within low high in
    within_both low high (p.rules ++ q.rules) (numbers_in (expanded_levels (map (renamed_level f) p.membranes ++ q.membranes)))
    (within_both low high p.rules q.rules (all_front P p.rules (numbers_in (expanded_levels p.membranes)) h) (all_front P q.rules (numbers_in (expanded_levels q.membranes)) g))
    (subst Q (sym (numbers_joined (map (renamed_level f) p.membranes) q.membranes ∙ ap (λ ns. ns ++ numbers_in (expanded_levels q.membranes)) (renamed_all f p.membranes)))
    (within_both low high (numbers_in (expanded_levels p.membranes)) (numbers_in (expanded_levels q.membranes)) (all_back P p.rules (numbers_in (expanded_levels p.membranes)) h)
    (all_back P q.rules (numbers_in (expanded_levels q.membranes)) g)))

both_within : (low high : ℕ) (p q : Parts) → Within low high (rule_numbers (level_from_parts p)) → Within low high (rule_numbers (level_from_parts q))
    → Within low high (rule_numbers (level_from_parts (joined_parts p q)))
both_within low high p q h g =
    let P : ℕ → Type 0 = λ n. (low ≤ n) × (n < high) in
    let Q : List ℕ → Type 0 = Within low high in
    within_both low high (p.rules ++ q.rules) (numbers_in (expanded_levels (p.membranes ++ q.membranes)))
    (within_both low high p.rules q.rules (all_front P p.rules (numbers_in (expanded_levels p.membranes)) h) (all_front P q.rules (numbers_in (expanded_levels q.membranes)) g))
    (subst Q (sym (numbers_joined p.membranes q.membranes))
    (within_both low high (numbers_in (expanded_levels p.membranes)) (numbers_in (expanded_levels q.membranes)) (all_back P p.rules (numbers_in (expanded_levels p.membranes)) h)
    (all_back P q.rules (numbers_in (expanded_levels q.membranes)) g)))

rule_fits : (k : ℕ) (p q r : Parts) (cs : List WrittenCondition) (pos : Pos) → Fits (suc k) p → Fits (suc k + length p.table) q → Fits (suc k + length p.table + length q.table) r
    → Fits k (record { leaves = []; membranes = []; contexts = []; rule_contexts = []; rules = k ∷ []; table = rule_of_parts p q cs r pos ∷ (p.table ++ (q.table ++ r.table)) })
rule_fits k p q r cs pos f g h =
    let all = p.table ++ (q.table ++ r.table) in
    let more = length-append p.table (q.table ++ r.table) in
    let last = length-append q.table r.table in
    let high = k + length (rule_of_parts p q cs r pos ∷ all) in
    let p_in : Within (k + 1) high (rule_numbers (level_from_parts p)) = wider (rule_numbers (level_from_parts p)) (omega arith) (omega arith) (level_within (suc k) p f) in
    let q_in : Within (k + 1) high (rule_numbers (level_from_parts q)) =
    wider (rule_numbers (level_from_parts q)) (omega arith) (omega arith) (level_within (suc k + length p.table) q g) in
    let r_in : Within (k + 1) high (rule_numbers (level_from_parts r)) =
    wider (rule_numbers (level_from_parts r)) (omega arith) (omega arith) (level_within (suc k + length p.table + length q.table) r h) in
    record {
      rules = ((omega arith, omega arith), tt);
      membranes = tt;
      table = (
        within_both (k + 1) high (rule_numbers (level_from_parts (joined_parts p q))) (rule_numbers (level_from_parts (joined_parts (fresh_copy p) r))) (both_within (k + 1) high p q p_in q_in)
            (copied_within (k + 1) high p r p_in r_in _),
        table_both high (k + 1) p.table (q.table ++ r.table) (table_at high p.table (omega arith) (table_higher (suc k) p.table (omega arith) f.table))
            (table_both high (k + 1 + length p.table) q.table r.table
            (table_at high q.table (omega arith) (table_higher (suc k + length p.table) q.table (omega arith) g.table))
            (table_at high r.table (omega arith) (table_higher (suc k + length p.table + length q.table) r.table (omega arith) h.table))),
      );
    }

leaf_fits : (k : ℕ) (l : ExpandedLeaf) → Fits k (one_leaf l k)
leaf_fits k l = record { rules = tt; membranes = tt; table = tt }

nothing_fits : (k : ℕ) → Fits k no_parts
nothing_fits k = record { rules = tt; membranes = tt; table = tt }

-- parts from each first number
abbrev AllFit : NumberedParts → Type 0
AllFit f = (k : ℕ) → Fits k (f k)

then_fits : (f g : NumberedParts) → AllFit f → AllFit g → AllFit (f ⊕ g)
then_fits f g a b k = let p = f k in joined_fits k p (g (k + length p.table)) (a k) (b (k + length p.table))

module _ (words : List Word) (places : List Pos) where
  mutual
    term_fits : (t : Term) (pos : Pos) (way : List ℕ) (x : Link) → AllFit (expanded_term words places pos way x t)
    term_fits (link p) pos way x k = nothing_fits k
    term_fits (atom n ts) pos way x k = then_fits _ _ (λ m. leaf_fits m _) (terms_fit ts _ way) k
    term_fits (context p) pos way x k = leaf_fits k _
    term_fits (membrane cs) pos way x k = membrane_fits k _ (then_fits _ _ (λ m. leaf_fits m _) (clauses_fit cs way) k)
    term_fits (list ts) pos way x k = then_fits _ _ (cells_fit ts pos (0 ∷ way) _ x) (λ m. leaf_fits m (atom_leaf (tree.named (codes "[]")) (link_used words places (last_link words places (1 ∷ way) x ts) pos ∷ []) pos)) k
    term_fits (list_onto ts t) pos way x k = then_fits _ _ (cells_fit ts pos (0 ∷ way) _ x) (term_fits t pos (1 ∷ way) (made (1 ∷ way))) k

    cells_fit : (ts : Terms) (pos : Pos) (way : List ℕ) (end : Use) (x : Link) → AllFit (cells words places pos way end x ts)
    cells_fit no_term pos way end x k = nothing_fits k
    cells_fit (term_and t ts) pos way end x k =
        then_fits _ _ (λ m. leaf_fits m _) (then_fits _ _ (term_fits t pos (0 ∷ way) (made (0 ∷ way))) (cells_fit ts pos (1 ∷ way) end (made (1 ∷ way)))) k

    terms_fit : (ts : Terms) (pos : Pos) (way : List ℕ) → AllFit (expanded_terms words places pos way ts)
    terms_fit no_term pos way k = nothing_fits k
    terms_fit (term_and t ts) pos way k = then_fits _ _ (term_fits t pos (0 ∷ way) (made (0 ∷ way))) (terms_fit ts pos (1 ∷ way)) k

    item_fits : (i : Item) (way : List ℕ) → AllFit (expanded_item words places way i)
    item_fits (atom_item n ts) way k = then_fits _ _ (λ m. leaf_fits m _) (terms_fit ts _ way) k
    item_fits (membrane_item cs) way k = membrane_fits k _ (clauses_fit cs way k)
    item_fits (context_item p) way k = record { rules = tt; membranes = tt; table = tt }
    item_fits (closed_item p) way k = record { rules = tt; membranes = tt; table = tt }
    item_fits (bracketed p q) way k = leaf_fits k _
    item_fits (rule_context p) way k = record { rules = tt; membranes = tt; table = tt }
    item_fits (plus_link p) way k = leaf_fits k _
    item_fits (group c) way k = clause_fits c way k
    item_fits (equation l s r) way k =
        then_fits _ _ (λ m. leaf_fits m _) (then_fits _ _ (term_fits l _ (0 ∷ way) (made (0 ∷ way))) (term_fits r _ (1 ∷ way) (made (1 ∷ way)))) k

    items_fit : (is : Items) (way : List ℕ) → AllFit (expanded_items words places way is)
    items_fit no_item way k = nothing_fits k
    items_fit (item_and i is) way k = then_fits _ _ (item_fits i (0 ∷ way)) (items_fit is (1 ∷ way)) k

    clause_fits : (c : Clause) (way : List ℕ) → AllFit (expanded_clause words places way c)
    clause_fits (process xs) way k = items_fit xs way k
    clause_fits (rule xs ys cs zs pos) way k =
        let p = expanded_items words places (0 ∷ way) xs (suc k) in
        let q = expanded_items words places (1 ∷ way) ys (suc k + length p.table) in
        let r = expanded_items words places (2 ∷ way) zs (suc k + length p.table + length q.table) in
        rule_fits k p q r cs pos (items_fit xs (0 ∷ way) (suc k)) (items_fit ys (1 ∷ way) (suc k + length p.table))
        (items_fit zs (2 ∷ way) (suc k + length p.table + length q.table))

    pub clauses_fit : (cs : Clauses) (way : List ℕ) → AllFit (expanded_clauses words places way cs)
    clauses_fit no_clause way k = nothing_fits k
    clauses_fit (clause_and c cs) way k = then_fits _ _ (clause_fits c (0 ∷ way)) (clauses_fit cs (1 ∷ way)) k
