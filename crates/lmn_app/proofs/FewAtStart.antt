-- The process of an accepted text has few items: no more than twice as many as the text has tokens.
use Rattle.std.proofs.Common.{◌≡◌, ◌+◌, ◌≤◌, inl, inr, ℕ, Bool, true, false, if◌then◌else◌, List, [], ◌∷◌, ◌++◌, map, length, sym, ap, ◌∙◌, subst, arith}
use Rattle.std.specs.Prelude.{Some, codes, sum}
use Rattle.std.proofs.lemmas.List.{length-append, length-map}
use Rattle.std.proofs.lemmas.List.Sums.{sum_by-cons}
use Rattle.lmn_base.specs.declared.level.Leaf.{Leaf}
use Rattle.lmn_base.specs.declared.level.Level.TheFolds.{fold-roll-Level}
use Rattle.lmn_base.specs.declared.refusal.Pos.{Pos}
use Rattle.lmn_base.specs.declared.rule.Plain.{Plain}
use Rattle.lmn_base.specs.declared.solid.Solid.{Solid}
use Rattle.lmn_base.specs.Solids.{item_count}
use Rattle.lmn_congruence.specs.Rules as tree
use Rattle.lmn_congruence.specs.SolidsOfPlains.{IsSolidOf}
use Rattle.lmn_flatten.proofs.EachLemmas.{each_length}
use Rattle.lmn_flatten_plain.proofs.FewItems.{few_at_top, level_size, levels_size, size_numbered}
use Rattle.lmn_flatten_plain.specs.Expanded.{ExpandedLeaf, ExpandedLevel, atom_leaf, ExpandedLevels, expanded_levels, level, level_and, no_level}
use Rattle.lmn_flatten_plain.specs.Expansion.{argument, cells, expanded_clause, expanded_clauses, expanded_item, expanded_items, expanded_term, expanded_terms, last_link, link_used, parts_of}
use Rattle.lmn_flatten_plain.specs.Links.{Link, Use, made}
use Rattle.lmn_flatten_plain.specs.Meanings.{place_at}
use Rattle.lmn_flatten_plain.specs.Parts.{Parts, joined_parts, level_from_parts, one_leaf}
use Rattle.lmn_flatten_plain.specs.Plains.{IsPlainOf, all_numbered, numbered, numbered_leaf}
use Rattle.lmn_flatten_plain.specs.Sizes.{item_count_of_level}
use Rattle.lmn_guards.specs.declared.plan.GuardPlan.{GuardPlan}
use Rattle.lmn_lexer.proofs.FewTokens.{few_tokens}
use Rattle.lmn_lexer.specs.Laying.{Word, words_of}
use Rattle.lmn_lexer.specs.declared.token.Token.{Token}
use Rattle.lmn_linkcheck.proofs.LinkedLemmas.{no_fault_is_linked}
use Rattle.lmn_parser.specs.Syntax.{Clause, Clauses, Item, Items, Term, Terms, atom, atom_item, bracketed, clause_and, closed_item, context, context_item, equation, group, item_and, link, list, list_onto, membrane, membrane_item, no_clause, no_item, no_term, plus_link, process, rule, rule_context, term_and}
use Rattle.lmn_schedule_loading.proofs.Items.{solid_items}
use Rattle.lmn_schedule_loading.specs.Loaded.{atoms_among, loaded_items, loaded_step, one_if_atom, stands}
use Rattle.lmn_verify_compiled.proofs.FewRules.{few_rules}
use Rattle.lmn_app.specs.Debugs.{session_size}
use Rattle.lmn_app.specs.SizeLaws.{AcceptedIsSmall, NoneIsLarge}
use Rattle.lmn_app_single.specs.Texts.{Accepts, IsTooLarge, by_reading, too_large, too_long}
use Rattle.lmn_app_single.proofs.PlainRegions.{solid_with_items}
use Rattle.lmn_app.proofs.TextLemmas.{fits_or_not, made as well_made}

-- ---- rules outside rules

-- the rules of a level, at every depth
abbrev mutual
  rules_in : ExpandedLevel → ℕ
  rules_in (level leaves membranes contexts rule_contexts rules) = length rules + rules_inside membranes

  rules_inside : ExpandedLevels → ℕ
  rules_inside no_level = 0
  rules_inside (level_and l ls) = rules_in l + rules_inside ls

-- each of them stands in the table
record IsListed (p : Parts) : Type 0 where
  pub few : length p.rules + rules_inside (expanded_levels p.membranes) ≤ length p.table

inside_joined : (ls ms : List ExpandedLevel) → rules_inside (expanded_levels (ls ++ ms)) ≡ rules_inside (expanded_levels ls) + rules_inside (expanded_levels ms)
inside_joined [] ms = omega arith
inside_joined (l ∷ ls) ms = let h = inside_joined ls ms in omega (arith, h)

both : {p q : Parts} → IsListed p → IsListed q → IsListed (joined_parts p q)
both {p} {q} h k =
    let a = h.few in
    let b = k.few in
    let rules = length-append p.rules q.rules in
    let table = length-append p.table q.table in
    let inside = inside_joined p.membranes q.membranes in
    record { few = omega (arith, a, b, rules, table, inside) }

leaf_listed : (l : ExpandedLeaf) (k : ℕ) → IsListed (one_leaf l k)
leaf_listed l k = record { few = omega arith }

module _ (words : List Word) (places : List Pos) where
  mutual
    term_listed : (t : Term) (pos : Pos) (way : List ℕ) (x : Link) (k : ℕ) → IsListed (expanded_term words places pos way x t k)
    term_listed (link p) pos way x k = record { few = omega arith }
    term_listed (atom n ts) pos way x k = record { few = (terms_listed ts (place_at words places n) way (k + 0)).few }
    term_listed (context p) pos way x k = record { few = omega arith }
    term_listed (membrane cs) pos way x k = let few = (clauses_listed cs way (k + 0)).few in record { few = omega (arith, few) }
    term_listed (list ts) pos way x k =
        let end = link_used words places (made (1 ∷ way)) pos in
        let y = cells words places pos (0 ∷ way) end x ts k in
        let nil = atom_leaf (tree.named (codes "[]")) (link_used words places (last_link words places (1 ∷ way) x ts) pos ∷ []) pos in
        let h = both (cells_listed ts pos (0 ∷ way) end x k) (leaf_listed nil (k + length y.table)) in
        record { few = h.few }
    term_listed (list_onto ts t) pos way x k =
        let end = argument words places pos (1 ∷ way) t in
        let y = cells words places pos (0 ∷ way) end x ts k in
        let h = both (cells_listed ts pos (0 ∷ way) end x k) (term_listed t pos (1 ∷ way) (made (1 ∷ way)) (k + length y.table)) in
        record { few = h.few }

    cells_listed : (ts : Terms) (pos : Pos) (way : List ℕ) (end : Use) (x : Link) (k : ℕ) → IsListed (cells words places pos way end x ts k)
    cells_listed no_term pos way end x k = record { few = omega arith }
    cells_listed (term_and t ts) pos way end x k =
        let y = expanded_term words places pos (0 ∷ way) (made (0 ∷ way)) t (k + 0) in
        let h = both (term_listed t pos (0 ∷ way) (made (0 ∷ way)) (k + 0)) (cells_listed ts pos (1 ∷ way) end (made (1 ∷ way)) (k + 0 + length y.table)) in
        record { few = h.few }

    terms_listed : (ts : Terms) (pos : Pos) (way : List ℕ) (k : ℕ) → IsListed (expanded_terms words places pos way ts k)
    terms_listed no_term pos way k = record { few = omega arith }
    terms_listed (term_and t ts) pos way k =
        let y = expanded_term words places pos (0 ∷ way) (made (0 ∷ way)) t k in
        let h = both (term_listed t pos (0 ∷ way) (made (0 ∷ way)) k) (terms_listed ts pos (1 ∷ way) (k + length y.table)) in
        record { few = h.few }

    item_listed : (i : Item) (way : List ℕ) (k : ℕ) → IsListed (expanded_item words places way i k)
    item_listed (atom_item n ts) way k = record { few = (terms_listed ts (place_at words places n) way (k + 0)).few }
    item_listed (membrane_item cs) way k = let few = (clauses_listed cs way k).few in record { few = omega (arith, few) }
    item_listed (context_item p) way k = record { few = omega arith }
    item_listed (closed_item p) way k = record { few = omega arith }
    item_listed (bracketed p q) way k = record { few = omega arith }
    item_listed (rule_context p) way k = record { few = omega arith }
    item_listed (plus_link p) way k = record { few = omega arith }
    item_listed (group c) way k = clause_listed c way k
    item_listed (equation l s r) way k =
        let pos = place_at words places s in
        let y = expanded_term words places pos (0 ∷ way) (made (0 ∷ way)) l (k + 0) in
        let h = both (term_listed l pos (0 ∷ way) (made (0 ∷ way)) (k + 0)) (term_listed r pos (1 ∷ way) (made (1 ∷ way)) (k + 0 + length y.table)) in
        record { few = h.few }

    items_listed : (is : Items) (way : List ℕ) (k : ℕ) → IsListed (expanded_items words places way is k)
    items_listed no_item way k = record { few = omega arith }
    items_listed (item_and i is) way k =
        let y = expanded_item words places (0 ∷ way) i k in
        let h = both (item_listed i (0 ∷ way) k) (items_listed is (1 ∷ way) (k + length y.table)) in
        record { few = h.few }

    clause_listed : (c : Clause) (way : List ℕ) (k : ℕ) → IsListed (expanded_clause words places way c k)
    clause_listed (process xs) way k = items_listed xs way k
    clause_listed (rule kept taken guard body pos) way k = record { few = omega arith }

    clauses_listed : (cs : Clauses) (way : List ℕ) (k : ℕ) → IsListed (expanded_clauses words places way cs k)
    clauses_listed no_clause way k = record { few = omega arith }
    clauses_listed (clause_and c cs) way k =
        let y = expanded_clause words places (0 ∷ way) c k in
        let h = both (clause_listed c (0 ∷ way) k) (clauses_listed cs (1 ∷ way) (k + length y.table)) in
        record { few = h.few }

-- ---- what is loaded

one_at_most : (l : Leaf) → one_if_atom l ≤ 1
one_at_most l = by (stands l)
  where
    by : (b : Bool) → (if b then 1 else 0) ≤ 1
    by true = omega arith
    by false = omega arith

few_atoms : (ls : List Leaf) → atoms_among ls ≤ length ls
few_atoms [] = omega arith
few_atoms (l ∷ ls) = let one = one_at_most l in let more = few_atoms ls in let s = sum_by-cons (λ (n : ℕ). n) (one_if_atom l) (map one_if_atom ls) in omega (arith, one, more, s)

module _ (names : List tree.Name) (number : Link → ℕ) where
  mutual
    few_loaded : (l : ExpandedLevel) → loaded_items (numbered names number l) ≤ level_size l + rules_in l
    few_loaded (level leaves membranes contexts rule_contexts rules) =
        let inner = map loaded_items (all_numbered names number membranes) in
        let e : loaded_items (numbered names number (level leaves membranes contexts rule_contexts rules)) ≡ atoms_among (map (numbered_leaf names number) leaves) + (length inner + (length rules + sum inner)) = fold-roll-Level ℕ loaded_step _ in
        let atoms = few_atoms (map (numbered_leaf names number) leaves) in
        let many = length-map leaves (numbered_leaf names number) in
        let inside = few_inside membranes in
        omega (arith, e, atoms, many, inside)

    few_inside : (ls : ExpandedLevels) → length (map loaded_items (all_numbered names number ls)) + sum (map loaded_items (all_numbered names number ls)) ≤ levels_size ls + rules_inside ls
    few_inside no_level = omega arith
    few_inside (level_and l ls) =
        let one = few_loaded l in
        let more = few_inside ls in
        let s = sum_by-cons (λ (n : ℕ). n) (loaded_items (numbered names number l)) (map loaded_items (all_numbered names number ls)) in
        omega (arith, one, more, s)

-- the top of a plain has as many items as its tree has tokens, and rules of its table
pub few_at_start : (words : List Word) (places : List Pos) (names : List tree.Name) (t : Clauses) (p : Plain) → IsPlainOf words places names t p
    → loaded_items p.top ≤ item_count_of_level p.top + length p.rules
few_at_start words places names t p plain =
    let parts = parts_of words places t in
    let loaded = few_loaded names plain.number (level_from_parts parts) in
    let here : loaded_items p.top ≤ level_size (level_from_parts parts) + rules_in (level_from_parts parts) = subst (λ l. loaded_items l ≤ level_size (level_from_parts parts) + rules_in (level_from_parts parts)) (sym plain.top) loaded in
    let same = ap item_count_of_level plain.top ∙ size_numbered names plain.number (level_from_parts parts) in
    let table = each_length _ _ _ plain.rules in
    let listed = (clauses_listed words places t [] 0).few in
    omega (arith, here, same, table, listed)

-- ---- the laws

-- the solid of an accepted text has few items
few_items : (text : List ℕ) (names : List tree.Name) (p : Plain) (plans : List GuardPlan) → Accepts text names p plans → (s : Solid) → IsSolidOf p s → item_count s ≤ 8388610
few_items text names p plans a s is =
    let short = a.short in
    let accepted = a.accepted in
    let r = accepted.reads in
    let places = map (λ (t : Token). t.pos) r.tokens in
    let tokens = few_tokens text r.tokens r.reads.cut in
    let items = few_at_top r.tokens (words_of text r.tokens) places names r.tree p r.reads.is_tree r.is_plain in
    let rules = few_rules r.tokens (words_of text r.tokens) places names r.tree p r.reads.is_tree r.is_plain in
    let start = few_at_start (words_of text r.tokens) places names r.tree p r.is_plain in
    let same = solid_items p s is in
    omega (arith, short, tokens, items, rules, start, same)

-- so it isn't too large
not_large : (text : List ℕ) (names : List tree.Name) (p : Plain) (plans : List GuardPlan) → Accepts text names p plans → ¬ (IsTooLarge (Some session_size) names p)
not_large text names p plans a (S, of, more) =
    let s = solid_with_items names p (well_made a.accepted) S of in
    let few = few_items text names p plans a s.0 s.1 in
    let same = s.2 in
    omega (arith, few, same, more)

-- an accepted program fits
pub accepted_is_small : AcceptedIsSmall
accepted_is_small text (names, p, plans, a, fits) =
    let accepted = a.accepted in
    let well = well_made accepted in
    let linked = (no_fault_is_linked p well).0 accepted.links in
    elim (fits_or_not (Some session_size) names p well linked.process) [
      | inl few ↦ (names, p, plans, a, few)
      | inr large ↦ absurd (not_large text names p plans a large)
    ]

-- and none is refused for its size
pub none_is_large : NoneIsLarge
none_is_large text refusal (too_long long is) = too_long long is
none_is_large text refusal (by_reading short names named h) = by_reading short names named h
none_is_large text refusal (too_large names p plans a large is) = absurd (not_large text names p plans a large)
