-- The rules of a plain stand by rising place.
use Rattle.std.proofs.Common.{◌≡◌, ℕ, zero, suc, ◌+◌, ◌<◌, ◌≤◌, ◌==◌, ◌⊎◌, Bool, true, false, cond, if◌then◌else◌, List, [], ◌∷◌, ◌++◌, length, map, AllPairs, refl, sym, ap, ◌∙◌, subst, inl, inr, arith}
use Rattle.std.specs.Prelude.{IsTrue, count_by}
use Rattle.std.specs.List.{All, AllZip}
use Rattle.std.proofs.lemmas.Bool.Decides.{nat_tests}
use Rattle.std.proofs.lemmas.List.{length-append}
use Rattle.std.proofs.lemmas.List.Elements.{All-nil, All-cons}
use Rattle.std.proofs.lemmas.List.Kept.{AllPairs-cons}
use Rattle.lmn_base.specs.PlaceOrder.{not_after}
use Rattle.lmn_base.specs.declared.refusal.Pos.{Pos}
use Rattle.lmn_base.specs.declared.rule.RuleTree.{RuleTree}
use Rattle.lmn_congruence.specs.Rules as tree
use Rattle.lmn_lexer.specs.Cutting.{Cutting, Cuts, Reaches, column_behind, onward, place, start, token_at}
use Rattle.lmn_lexer.specs.Laying.{Word, words_of}
use Rattle.lmn_lexer.specs.declared.token.Kind.TheVariants.{End}
use Rattle.lmn_lexer.specs.declared.token.Token.{Token}
use Rattle.lmn_lexer.proofs.OneCut.{Step, gap_step, step_longer, step_of, token_step}
use Rattle.lmn_lexer.proofs.Places.{place-append}
use Rattle.lmn_lexer.proofs.Runs.{count-cons}
use Rattle.lmn_parser.specs.Syntax.{Term, Terms, Item, Items, Clause, Clauses, WrittenCondition}
use Rattle.lmn_parser.specs.Trees.{IsClauses, no_clauses, last_clause, more_clauses, IsClause, named_rule, unnamed_rule, is_process, IsWrittenRule, is_rule, IsHeads, all_taken, some_kept, IsBody, no_guard, empty_guard, guarded, IsOptList, no_list, some_list, IsList, last_item, more_items, IsItem, is_atom_item, is_membrane_item, is_context_item, is_bracketed, is_closed, is_rule_context, is_plus_link, is_group, is_equation, IsMembrane, in_braces, IsWrittenAtom, with_name, with_integer, IsArguments, no_parentheses, no_arguments, some_arguments, IsTerms, last_term, more_terms, IsTerm, is_link, is_atom, is_context, is_membrane, is_list, IsTermList, empty_list, closed_list, open_list, StandsAt}
use Rattle.lmn_flatten_plain.specs.Expanded.{ExpandedRule}
use Rattle.lmn_flatten_plain.specs.Expansion.{cells, expanded_clause, expanded_clauses, expanded_item, expanded_items, expanded_term, expanded_terms}
use Rattle.lmn_flatten_plain.specs.Laws.{RulesByRisingPlace}
use Rattle.lmn_flatten_plain.specs.Links.{Link, Use}
use Rattle.lmn_flatten_plain.specs.Plains.{IsRuleOf}
use Rattle.lmn_flatten_plain.proofs.FewItems.{guard_on}
use Rattle.std.proofs.lemmas.Option.{same_Some}

-- ---- places

-- one place is before another
data Before (p q : Pos) : Type 0 where
  earlier_line : p.line < q.line → Before p q
  earlier_column : p.line ≡ q.line → p.column < q.column → Before p q

-- or is the same
data NoLater (p q : Pos) : Type 0 where
  same : p ≡ q → NoLater p q
  before : Before p q → NoLater p q

before_on : {p q r : Pos} → Before p q → Before q r → Before p r
before_on (earlier_line a) (earlier_line b) = earlier_line (omega (arith, a, b))
before_on (earlier_line a) (earlier_column e b) = earlier_line (omega (arith, a, e))
before_on (earlier_column e a) (earlier_line b) = earlier_line (omega (arith, e, b))
before_on (earlier_column e a) (earlier_column d b) = earlier_column (e ∙ d) (omega (arith, a, b))

before_so : {p q r : Pos} → Before p q → NoLater q r → Before p r
before_so {p = p} b (same e) = subst (Before p) e b
before_so b (before c) = before_on b c

no_later_on : {p q r : Pos} → NoLater p q → NoLater q r → NoLater p r
no_later_on {r = r} (same e) b = subst (λ k. NoLater k r) (sym e) b
no_later_on (before a) b = before (before_so a b)

-- a place that is before another isn't behind it
refuses : (p q : Pos) → Before p q → ¬ (IsTrue (not_after q p))
refuses p q (earlier_line a) = other_line p.line p.column q.line q.column a
  where
    other_line : (l c m d : ℕ) → l < m → ¬ (IsTrue (not_after (record { line = m; column = d }) (record { line = l; column = c })))
    other_line l c m d b t = grind (arith, nat_tests)
refuses p q (earlier_column e a) = same_line p.line p.column q.line q.column e a
  where
    same_line : (l c m d : ℕ) → l ≡ m → c < d → ¬ (IsTrue (not_after (record { line = m; column = d }) (record { line = l; column = c })))
    same_line l c m d e b t = grind (arith, nat_tests)

abbrev feeds : List ℕ → ℕ
feeds bytes = count_by (λ b. b == 10) bytes

-- behind some bytes the line is another, or the column is farther on by their number
goes_on : (column : ℕ) (bytes : List ℕ) → (0 < feeds bytes) ⊎ (column_behind column bytes ≡ column + length bytes)
goes_on column [] = inr (omega arith)
goes_on column (b ∷ bs) = go (b == 10) (count-cons (λ b. b == 10) b bs) (goes_on (column + 1) bs)
  where
    go : (t : Bool) → feeds (b ∷ bs) ≡ cond t 1 0 + feeds bs → (0 < feeds bs) ⊎ (column_behind (column + 1) bs ≡ column + 1 + length bs)
        → (0 < feeds (b ∷ bs)) ⊎ ((if t then column_behind 1 bs else column_behind (column + 1) bs) ≡ column + suc (length bs))
    go true e h = inl (omega (arith, e))
    go false e (inl h) = inl (omega (arith, e, h))
    go false e (inr h) = inr (omega (arith, h))

-- the place behind some bytes is farther on
place_before : (text bytes : List ℕ) → 0 < length bytes → Before (place text) (place (text ++ bytes))
place_before text bytes some = subst (Before (place text)) (sym (place-append text bytes)) (go (goes_on (place text).column bytes))
  where
    go : (0 < feeds bytes) ⊎ (column_behind (place text).column bytes ≡ (place text).column + length bytes)
        → Before (place text) (record { line = (place text).line + feeds bytes; column = column_behind (place text).column bytes })
    go (inl h) = earlier_line (omega arith)
    go (inr e) = by (feeds bytes)
      where
        by : (n : ℕ) → Before (place text) (record { line = (place text).line + n; column = column_behind (place text).column bytes })
        by zero = earlier_column (omega arith) (omega arith)
        by (suc n) = earlier_line (omega arith)

-- ---- tokens

-- tokens stand by rising place: the first at a place or behind it, each before the next, and the last before the other place
data Rise : Pos → List Token → Pos → Type 0 where
  none_rises : {p q : Pos} → NoLater p q → Rise p [] q
  one_rises : {p q r : Pos} {t : Token} {ts : List Token} → NoLater p t.pos → Before t.pos r → Rise r ts q → Rise p (t ∷ ts) q

rise_more : {p q r : Pos} {ts : List Token} → Rise p ts q → NoLater q r → Rise p ts r
rise_more (none_rises h) b = none_rises (no_later_on h b)
rise_more (one_rises a c h) b = one_rises a c (rise_more h b)

rise_add : {p q r : Pos} {ts : List Token} (t : Token) → Rise p ts q → NoLater q t.pos → Before t.pos r → Rise p (ts ++ t ∷ []) r
rise_add t (none_rises h) a b = one_rises (no_later_on h a) b (none_rises (same refl))
rise_add t (one_rises c d h) a b = one_rises c d (rise_add t h a b)

first_place : Pos
first_place = place []

tokens_rise : {text : List ℕ} {c : Cutting} → Reaches text c → Rise first_place c.tokens (place c.before)
unfolding first_place
tokens_rise start = none_rises (same refl)
tokens_rise (onward {c = c} {d = d} h s) = go (step_of s) (step_longer (step_of s)) (tokens_rise h)
  where
    go : Step c d → length c.before < length d.before → Rise first_place c.tokens (place c.before) → Rise first_place d.tokens (place d.before)
    go (gap_step bytes after x g p) longer r =
        let size = length-append c.before bytes in
        let whole = ap (λ (z : Cutting). length z.before) p in
        let some : 0 < length bytes = omega arith in
        let Q : Cutting → Type 0 = λ z. Rise first_place z.tokens (place z.before) in
        subst Q (sym p) (rise_more r (before (place_before c.before bytes some)))
    go (token_step kind bytes after t p) longer r =
        let size = length-append c.before bytes in
        let whole = ap (λ (z : Cutting). length z.before) p in
        let some : 0 < length bytes = omega arith in
        let Q : Cutting → Type 0 = λ z. Rise first_place z.tokens (place z.before) in
        subst Q (sym p) (rise_add (token_at kind c.before bytes) r (same refl) (place_before c.before bytes some))

-- the end of the text, which has no bytes, is the last token
cut_rises : {text : List ℕ} {ts : List Token} → Cuts text ts → Rise first_place ts (place (text ++ 0 ∷ []))
cut_rises {text = text} c =
    let P : List Token → Type 0 = λ us. Rise first_place us (place (text ++ 0 ∷ [])) in
    subst P (sym c.with_end) (rise_add (token_at End text []) (tokens_rise c.cut) (same refl) (place_before text (0 ∷ []) (omega arith)))

-- no token stands before the first place
none_earlier : {p q a : Pos} {ts : List Token} (n : ℕ) → Rise p ts q → StandsAt ts n a → NoLater p a
none_earlier n (none_rises h) s = absurd (cc)
none_earlier {p = p} zero (one_rises a b h) s = subst (NoLater p) (same_Some _ _ s) a
none_earlier (suc n) (one_rises a b h) s = no_later_on a (before (before_so b (none_earlier n h s)))

-- a token with a lower number stands before one with a higher
in_turn : {p q a b : Pos} {ts : List Token} (m n : ℕ) → Rise p ts q → m < n → StandsAt ts m a → StandsAt ts n b → Before a b
in_turn m n (none_rises h) l s t = absurd (cc)
in_turn m zero (one_rises c d h) l s t = absurd (omega (arith, l))
in_turn {b = b} zero (suc n) (one_rises c d h) l s t = subst (λ k. Before k b) (same_Some _ _ s) (before_so d (none_earlier n h t))
in_turn (suc m) (suc n) (one_rises c d h) l s t = in_turn m n h (omega (arith, l)) s t

-- ---- rules at tokens

-- Rules have the places of tokens with rising numbers, which are at least p and below q.
data Standing (ts : List Token) : ℕ → List ExpandedRule → ℕ → Type 0 where
  none_stands : {p q : ℕ} → p ≤ q → Standing ts p [] q
  one_stands : {p n q : ℕ} {r : ExpandedRule} {rs : List ExpandedRule} → p ≤ n → StandsAt ts n r.pos → Standing ts (suc n) rs q → Standing ts p (r ∷ rs) q

module _ {ts : List Token} where
  wider : {p p' q q' : ℕ} {rs : List ExpandedRule} → Standing ts p rs q → p' ≤ p → q ≤ q' → Standing ts p' rs q'
  wider (none_stands h) a b = none_stands (omega arith)
  wider (one_stands h s k) a b = one_stands (omega arith) s (wider k (omega arith) b)

  both : {p m q : ℕ} {rs ss : List ExpandedRule} → Standing ts p rs m → Standing ts m ss q → Standing ts p (rs ++ ss) q
  both (none_stands h) k = wider k h (omega arith)
  both (one_stands h s g) k = one_stands h s (both g k)

  end_there : {p q : ℕ} {rs : List ExpandedRule} → Standing ts p rs q → Standing ts p (rs ++ []) q
  end_there h = both h (none_stands (omega arith))

-- the rules that stand in the head of a rule
record HeadRules (ts : List Token) (p : ℕ) (kept taken : List ExpandedRule) (q : ℕ) : Type 0 where
  between : ℕ
  of_kept : Standing ts (suc p) kept (suc between)
  of_taken : Standing ts (suc between) taken (suc q)

module _ (words : List Word) (places : List Pos) {ts : List Token} where
  mutual
    clauses_stand : {cs : Clauses} {p q : ℕ} → IsClauses ts cs p q → (way : List ℕ) (k : ℕ) → Standing ts p (expanded_clauses words places way cs k).table (suc q)
    clauses_stand no_clauses way k = none_stands (omega arith)
    clauses_stand (last_clause h) way k = end_there (clause_stands h (0 ∷ way) k)
    clauses_stand (more_clauses {c = c} h d g) way k =
        both (clause_stands h (0 ∷ way) k) (wider (clauses_stand g (1 ∷ way) (k + length (expanded_clause words places (0 ∷ way) c k).table)) (omega arith) (omega arith))

    clause_stands : {c : Clause} {p q : ℕ} → IsClause ts c p q → (way : List ℕ) (k : ℕ) → Standing ts p (expanded_clause words places way c k).table (suc q)
    clause_stands (named_rule a b h) way k = rule_stands h (omega arith) way k
    clause_stands (unnamed_rule h) way k = rule_stands h (omega arith) way k
    clause_stands (is_process h) way k = wider (list_stands h way k) (omega arith) (omega arith)

    rule_stands : {s : ℕ} {c : Clause} {p q : ℕ} → IsWrittenRule ts s c p q → s ≤ p → (way : List ℕ) (k : ℕ) → Standing ts s (expanded_clause words places way c k).table (suc q)
    rule_stands (is_rule {kept = kept} {taken = taken} {q = stop} at h a b) l way k =
        let p = expanded_items words places (0 ∷ way) kept (suc k) in
        let q = expanded_items words places (1 ∷ way) taken (suc k + length p.table) in
        let head = heads_stand h (0 ∷ way) (suc k) (1 ∷ way) (suc k + length p.table) in
        let body = body_stands b (2 ∷ way) (suc k + length p.table + length q.table) in
        one_stands (omega arith) at (wider {q = suc stop} (both head.of_kept (both head.of_taken (wider body (omega arith) (omega arith)))) (omega arith) (omega arith))

    heads_stand : {xs ys : Items} {p q : ℕ} → IsHeads ts xs ys p q → (way : List ℕ) (k : ℕ) (other : List ℕ) (j : ℕ)
        → HeadRules ts p (expanded_items words places way xs k).table (expanded_items words places other ys j).table q
    heads_stand {p = p} (all_taken h) way k other j = record { between = p; of_kept = none_stands (omega arith); of_taken = opt_stands h other j }
    heads_stand (some_kept {m = m} h a g) way k other j =
        record { between = m; of_kept = opt_stands h way k; of_taken = wider (opt_stands g other j) (omega arith) (omega arith) }

    body_stands : {cs : List WrittenCondition} {xs : Items} {p q : ℕ} → IsBody ts cs xs p q → (way : List ℕ) (k : ℕ) → Standing ts (suc p) (expanded_items words places way xs k).table (suc q)
    body_stands (no_guard h) way k = opt_stands h way k
    body_stands (empty_guard a h) way k = wider (opt_stands h way k) (omega arith) (omega arith)
    body_stands (guarded g a h) way k = let on = guard_on g in wider (opt_stands h way k) (omega arith) (omega arith)

    opt_stands : {xs : Items} {p q : ℕ} → IsOptList ts xs p q → (way : List ℕ) (k : ℕ) → Standing ts (suc p) (expanded_items words places way xs k).table (suc q)
    opt_stands no_list way k = none_stands (omega arith)
    opt_stands (some_list h) way k = wider (list_stands h way k) (omega arith) (omega arith)

    list_stands : {xs : Items} {p q : ℕ} → IsList ts xs p q → (way : List ℕ) (k : ℕ) → Standing ts (suc p) (expanded_items words places way xs k).table q
    list_stands (last_item h) way k = end_there (item_stands h (0 ∷ way) k)
    list_stands (more_items {x = x} h d g) way k =
        both (item_stands h (0 ∷ way) k) (wider (list_stands g (1 ∷ way) (k + length (expanded_item words places (0 ∷ way) x k).table)) (omega arith) (omega arith))

    item_stands : {x : Item} {p q : ℕ} → IsItem ts x p q → (way : List ℕ) (k : ℕ) → Standing ts (suc p) (expanded_item words places way x k).table q
    item_stands (is_atom_item {n = n} h) way k = atom_stands h _ way (k + 0)
    item_stands (is_membrane_item h) way k = membrane_stands h way k
    item_stands (is_context_item a) way k = none_stands (omega arith)
    item_stands (is_bracketed a b c d) way k = none_stands (omega arith)
    item_stands (is_closed a b c) way k = none_stands (omega arith)
    item_stands (is_rule_context a) way k = none_stands (omega arith)
    item_stands (is_plus_link a b) way k = none_stands (omega arith)
    item_stands (is_group a h b) way k = wider (clause_stands h way k) (omega arith) (omega arith)
    item_stands (is_equation h d g) way k = both (term_stands h _ _ _ (k + 0)) (wider (term_stands g _ _ _ _) (omega arith) (omega arith))

    membrane_stands : {cs : Clauses} {p q : ℕ} → IsMembrane ts cs p q → (way : List ℕ) (k : ℕ) → Standing ts (suc p) (expanded_clauses words places way cs k).table q
    membrane_stands (in_braces a h b) way k = wider (clauses_stand h way k) (omega arith) (omega arith)

    atom_stands : {n : ℕ} {xs : Terms} {p q : ℕ} → IsWrittenAtom ts n xs p q → (pos : Pos) (way : List ℕ) (k : ℕ) → Standing ts (suc p) (expanded_terms words places pos way xs k).table q
    atom_stands (with_name a h) pos way k = wider (arguments_stand h pos way k) (omega arith) (omega arith)
    atom_stands (with_integer a h) pos way k = wider (arguments_stand h pos way k) (omega arith) (omega arith)

    arguments_stand : {xs : Terms} {p q : ℕ} → IsArguments ts xs p q → (pos : Pos) (way : List ℕ) (k : ℕ) → Standing ts p (expanded_terms words places pos way xs k).table q
    arguments_stand no_parentheses pos way k = none_stands (omega arith)
    arguments_stand (no_arguments a b) pos way k = none_stands (omega arith)
    arguments_stand (some_arguments a h b) pos way k = wider (terms_stand h pos way k) (omega arith) (omega arith)

    terms_stand : {xs : Terms} {p q : ℕ} → IsTerms ts xs p q → (pos : Pos) (way : List ℕ) (k : ℕ) → Standing ts (suc p) (expanded_terms words places pos way xs k).table q
    terms_stand (last_term h) pos way k = end_there (term_stands h pos _ _ k)
    terms_stand (more_terms h d g) pos way k = both (term_stands h pos _ _ k) (wider (terms_stand g pos _ _) (omega arith) (omega arith))

    cells_stand : {xs : Terms} {p q : ℕ} → IsTerms ts xs p q → (pos : Pos) (way : List ℕ) (end : Use) (x : Link) (k : ℕ)
        → Standing ts (suc p) (cells words places pos way end x xs k).table q
    cells_stand (last_term h) pos way end x k = end_there (term_stands h pos _ _ (k + 0))
    cells_stand (more_terms h d g) pos way end x k = both (term_stands h pos _ _ (k + 0)) (wider (cells_stand g pos _ _ _ _) (omega arith) (omega arith))

    term_stands : {t : Term} {p q : ℕ} → IsTerm ts t p q → (pos : Pos) (way : List ℕ) (x : Link) (k : ℕ) → Standing ts (suc p) (expanded_term words places pos way x t k).table q
    term_stands (is_link a) pos way x k = none_stands (omega arith)
    term_stands (is_atom h) pos way x k = atom_stands h _ way (k + 0)
    term_stands (is_context a) pos way x k = none_stands (omega arith)
    term_stands (is_membrane h) pos way x k = membrane_stands h way (k + 0)
    term_stands (is_list h) pos way x k = term_list_stands h pos way x k

    term_list_stands : {t : Term} {p q : ℕ} → IsTermList ts t p q → (pos : Pos) (way : List ℕ) (x : Link) (k : ℕ) → Standing ts (suc p) (expanded_term words places pos way x t k).table q
    term_list_stands (empty_list a b) pos way x k = none_stands (omega arith)
    term_list_stands (closed_list a h b) pos way x k = end_there (wider (cells_stand h pos _ _ x k) (omega arith) (omega arith))
    term_list_stands (open_list {m = bar} a h b g c) pos way x k =
        both {m = bar} (wider (cells_stand h pos _ _ x k) (omega arith) (omega arith)) (wider (term_stands g pos _ _ _) (omega arith) (omega arith))

-- ---- the rules of a plain

module _ (words : List Word) (places : List Pos) (names : List tree.Name) (ts : List Token) (first end : Pos) (rise : Rise first ts end) where
  all_later : {p q n : ℕ} {a : Pos} {rs : List ExpandedRule} (ss : List RuleTree) → StandsAt ts n a → n < p → Standing ts p rs q → AllZip (IsRuleOf words places names) rs ss
      → All (λ s. ¬ (IsTrue (not_after s.pos a))) ss
  all_later {a = a} [] at l h e = All-nil (λ s. ¬ (IsTrue (not_after s.pos a)))
  all_later (s ∷ ss) at l (none_stands h) e = absurd e
  all_later {n = n} {a = a} (s ∷ ss) at l (one_stands {n = m} {r = r} h there k) e =
      let one = e.0 in
      let before : Before a s.pos = subst (Before a) (sym one.pos) (in_turn n m rise (omega arith) at there) in
      All-cons (λ s. ¬ (IsTrue (not_after s.pos a))) s ss (refuses a s.pos before) (all_later ss at (omega arith) k e.1)

  all_rise : {p q : ℕ} {rs : List ExpandedRule} (ss : List RuleTree) → Standing ts p rs q → AllZip (IsRuleOf words places names) rs ss
      → AllPairs (λ r s. ¬ (IsTrue (not_after s.pos r.pos))) ss
  all_rise [] h e = λ i j d l k. absurd (omega (arith, k))
  all_rise (s ∷ ss) (none_stands h) e = absurd e
  all_rise (s ∷ ss) (one_stands {n = n} h at k) e =
      let one = e.0 in
      AllPairs-cons (λ r s. ¬ (IsTrue (not_after s.pos r.pos))) s ss (all_later ss (subst (StandsAt ts n) (sym one.pos) at) (omega arith) k e.1) (all_rise ss k e.1)

-- the rules of the plain of a text stand by rising place
pub rules_by_rising_place : RulesByRisingPlace
rules_by_rising_place text tokens tree names plain reads is_plain =
    let words = words_of text tokens in
    let places = map (λ t. t.pos) tokens in
    all_rise words places names tokens first_place (place (text ++ 0 ∷ [])) (cut_rises reads.cut) plain.rules
    (clauses_stand words places reads.is_tree.1 [] 0) is_plain.rules
