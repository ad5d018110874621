-- Tokens within the limits are a tree whose atoms have no more arguments than an arity holds, and whose sides have no more than
-- operators than it may have.
use Rattle.std.proofs.Common.{◌≡◌, ℕ, suc, ◌+◌, ◌≤◌, ◌<◌, true, false, List, [], ◌∷◌, ◌++◌, length, take, drop, slice_get, Some, refl, sym, ◌∙◌, ap, arith, subst, ◌⊎◌, inl, inr, append_assoc}
use Rattle.std.proofs.lemmas.Bool.{cases_lt}
use Rattle.std.proofs.lemmas.List.{take-append-drop}
use Rattle.lmn_base.specs.declared.guard.Arith.{Arith}
use Rattle.lmn_base.specs.declared.guard.Arith.TheVariants as op
use Rattle.std.specs.List.{AllByRecursion}
use Rattle.lmn_parser_grammar.specs.Grammar.{Ref, TermPart, Derives, by}
use Rattle.lmn_parser_grammar.specs.Limits.{ends_operand, may_be_operator, may_be_atom_name, continues_side, EndsWith, IsOperator, Side, begins, operand, operator, IsAtomName, Balanced, empty, comma, other, InArguments, begun, TermNext, behind_equal, in_arguments, in_list, of_any, of_term, left_of_equal, most_operators, most_arguments, most_term_arguments}
use Rattle.lmn_parser_grammar.specs.Refusing.{IsWithin}
use Rattle.lmn_parser_grammar.proofs.Arguments.{balanced_word}
use Rattle.lmn_parser_grammar.proofs.Counts.{balanced_both, last_is, side_less}
use Rattle.lmn_parser_grammar.proofs.Theory.{empty_right}
use Rattle.lmn_lexer.specs.declared.token.Kind.{Kind}
use Rattle.lmn_lexer.specs.declared.token.Kind.TheVariants.{Name, Quoted, Mod, Int, Context, LParen, RParen, LBracket, LBrace, Comma, Dot, Arrow, AtAt, Bar, Backslash, Equal, Plus, Minus, Star, Slash}
use Rattle.lmn_lexer.specs.declared.token.Token.{Token}
use Rattle.lmn_parser.specs.Arities.{number_of_terms, operators_of, FitsCondition, FitsTerm, FitsTerms, FitsItem, FitsItems, FitsClause, FitsClauses}
use Rattle.lmn_parser.specs.Parsing.{kinds_of}
use Rattle.lmn_parser.specs.Syntax as tree
use Rattle.lmn_parser.specs.Trees.{At, NameAt, TimesAt, PlusAt, IsSum, one_product, plus, IsProduct, one_factor, times, IsFactor, is_integer, is_value, in_parentheses, IsContexts, last_context, more_contexts, IsContextArguments, no_contexts, some_contexts, IsCondition, is_called, is_compared, is_equal, is_different, IsWrittenGuard, last_condition, more_conditions, IsClauses, no_clauses, last_clause, more_clauses, IsClause, named_rule, unnamed_rule, is_process, IsWrittenRule, is_rule, IsHeads, all_taken, some_kept, IsBody, no_guard, empty_guard, guarded, IsOptList, no_list, some_list, IsList, last_item, more_items, IsItem, is_atom_item, is_membrane_item, is_context_item, is_closed, is_bracketed, is_rule_context, is_plus_link, is_group, is_equation, IsMembrane, in_braces, IsWrittenAtom, with_name, with_integer, IsArguments, no_parentheses, no_arguments, some_arguments, IsTerms, last_term, more_terms, IsTerm, is_link, is_atom, is_context, is_membrane, is_list, IsTermList, empty_list, closed_list, open_list}
use Rattle.lmn_parser.specs.TreeLaws.{TreesFit}
use Rattle.lmn_parser.proofs.TreeWords.{drop_token, next_to, term_words}
use Rattle.lmn_base.proofs.Lists.{plus_nothing}
use Rattle.lmn_base.proofs.Truth.{false_not_true as clash}
use Rattle.lmn_base.proofs.Numbers.{at_most_by_not}

-- What stands before the token with a number; it isn't an operand, so that no operator can follow.
record Ready (ks : List Kind) (p : ℕ) : Type 0 where
  pub before : List Kind
  pub split : ks ≡ before ++ drop p ks
  pub free : ¬ (EndsWith ends_operand before)

nothing_ends : (u : List Kind) → u ≡ [] → ¬ (EndsWith ends_operand u)
nothing_ends u e h = never h.front h.last (sym e ∙ h.split)
  where
    never : (v : List Kind) (k : Kind) → [] ≡ v ++ k ∷ [] → ⊥
    never [] k h = cc
    never (a ∷ v) k h = cc

token_ends : (u : List Kind) (k : Kind) → ends_operand k ≡ false → ¬ (EndsWith ends_operand (u ++ k ∷ []))
token_ends u k h e = clash (sym h ∙ last_is ends_operand u k e)

token_ends_in : (u v : List Kind) (k : Kind) → ends_operand k ≡ false → ¬ (EndsWith ends_operand (u ++ (v ++ k ∷ [])))
token_ends_in u v k h e = let P : List Kind → Type 0 = EndsWith ends_operand in token_ends (u ++ v) k h (subst P (sym (append_assoc u v (k ∷ []))) e)

at_first : (ks : List Kind) → Ready ks 0
at_first ks = record { before = []; split = refl; free = nothing_ends [] refl }

abbrev token_ready : (ks : List Kind) (p : ℕ) (k : Kind) → slice_get ks p ≡ Some k → ends_operand k ≡ false → Ready ks (p + 1)
token_ready ks p k h e = record {
  before = take p ks ++ k ∷ [];
  split = sym (take-append-drop p ks) ∙ ap (λ z. take p ks ++ z) (drop_token ks p k h) ∙ sym (append_assoc (take p ks) (k ∷ []) (drop (p + 1) ks));
  free = token_ends (take p ks) k e;
}

-- A place in a list that begins with `start`, behind n commas.
record Spot (start : List Kind) (n : ℕ) (ks : List Kind) (p : ℕ) : Type 0 where
  pub inside : List Kind
  pub balanced : Balanced n inside
  pub split : ks ≡ (start ++ inside) ++ drop p ks
  pub free : ¬ (EndsWith ends_operand (start ++ inside))

-- The first token of the last part of a list, in which n commas stand.
record LastPart (start : List Kind) (n : ℕ) (ks : List Kind) : Type 0 where
  pub inside : List Kind
  pub balanced : Balanced n inside
  pub token : Kind
  pub rest : List Kind
  pub split : ks ≡ (start ++ inside) ++ token ∷ rest

-- The place behind a list, in which n commas stand.
record Ending (start : List Kind) (n : ℕ) (ks : List Kind) (q : ℕ) : Type 0 where
  pub inside : List Kind
  pub balanced : Balanced n inside
  pub split : ks ≡ (start ++ inside) ++ drop q ks

abbrev spot_ready : (start : List Kind) (n : ℕ) (ks : List Kind) (p : ℕ) → Spot start n ks p → Ready ks p
spot_ready start n ks p s = record { before = start ++ s.inside; split = s.split; free = s.free }

balanced_as : {n m : ℕ} {u : List Kind} → n ≡ m → Balanced n u → Balanced m u
balanced_as {u = u} e h = let P : ℕ → Type 0 = λ z. Balanced z u in subst P e h

onward : (s i w d : List Kind) → (s ++ i) ++ (w ++ d) ≡ (s ++ (i ++ w)) ++ d
onward s i w d = sym (append_assoc (s ++ i) w d) ∙ ap (λ z. z ++ d) (append_assoc s i w)

-- behind a part and the comma that follows it
next_spot : (start : List Kind) (n : ℕ) (ks : List Kind) (p m : ℕ) (word : List Kind) → Spot start n ks p → drop p ks ≡ word ++ drop m ks → Balanced 0 word → slice_get ks m ≡ Some Comma → Spot start (suc n) ks (m + 1)
next_spot start n ks p m word s e b h = record {
  inside = s.inside ++ (word ++ Comma ∷ []);
  balanced = balanced_as (omega arith) (balanced_both s.balanced (balanced_both b (comma empty)));
  split = s.split ∙ ap (λ z. (start ++ s.inside) ++ z) (e ∙ ap (λ z. word ++ z) (drop_token ks m Comma h) ∙ sym (append_assoc word (Comma ∷ []) (drop (m + 1) ks)))
      ∙ onward start s.inside (word ++ Comma ∷ []) (drop (m + 1) ks);
  free = let P : List Kind → Type 0 = λ z. ¬ (EndsWith ends_operand (start ++ z)) in
      subst P (append_assoc s.inside word (Comma ∷ [])) (token_ends_in start (s.inside ++ word) Comma refl);
}

ends_after : (start : List Kind) (n : ℕ) (ks : List Kind) (p q : ℕ) (word : List Kind) → Spot start n ks p → drop p ks ≡ word ++ drop q ks → Balanced 0 word → Ending start n ks q
ends_after start n ks p q word s e b = record {
  inside = s.inside ++ word;
  balanced = balanced_as (omega arith) (balanced_both s.balanced b);
  split = s.split ∙ ap (λ z. (start ++ s.inside) ++ z) e ∙ onward start s.inside word (drop q ks);
}

last_part : (start : List Kind) (n : ℕ) (ks : List Kind) (p : ℕ) (k : Kind) (rest : List Kind) → Spot start n ks p → drop p ks ≡ k ∷ rest → LastPart start n ks
last_part start n ks p k rest s e = record { inside = s.inside; balanced = s.balanced; token = k; rest = rest; split = s.split ∙ ap (λ z. (start ++ s.inside) ++ z) e }

-- a term has a first token, and no comma outside brackets
first_of : (w d : List Kind) → Derives (Ref TermPart) w → (k : Kind) × (rest : List Kind) × (w ++ d ≡ k ∷ rest)
first_of [] d h = absurd (clash (empty_right (Ref TermPart) [] h refl))
first_of (k ∷ w) d h = (k, w ++ d, refl)

record Part (ks : List Kind) (p q : ℕ) : Type 0 where
  pub word : List Kind
  pub split : drop p ks ≡ word ++ drop q ks
  pub balanced : Balanced 0 word
  pub first : (k : Kind) × (rest : List Kind) × (drop p ks ≡ k ∷ rest)

part : (ts : List Token) {t : tree.Term} {p q : ℕ} → IsTerm ts t p q → Part (kinds_of ts) p q
part ts {p = p} {q = q} d =
    let s = term_words ts d in
    let h : Derives (Ref TermPart) s.word = by TermPart s.word s.derived in
    let f = first_of s.word (drop q (kinds_of ts)) h in
    record { word = s.word; split = s.split; balanced = balanced_word (Ref TermPart) s.word h refl; first = (f.0, f.1, s.split ∙ f.2) }

-- Arguments of a word.
module _ (front : List Kind) (word : Kind) where
  abbrev arguments : List Kind
  arguments = front ++ word ∷ LParen ∷ []

  begun_in : IsAtomName front word → {n : ℕ} {u : List Kind} → Balanced n u → InArguments front (suc n) (arguments ++ u)
  begun_in h {n} {u} b = let P : List Kind → Type 0 = InArguments front (suc n) in subst P (sym (append_assoc front (word ∷ LParen ∷ []) u)) (begun word h b)

  first_spot : (ks : List Kind) (p : ℕ) → ks ≡ (front ++ word ∷ []) ++ drop p ks → slice_get ks p ≡ Some LParen → Spot arguments 0 ks (p + 1)
  first_spot ks p e h = record {
    inside = [];
    balanced = empty;
    split = e ∙ append_assoc front (word ∷ []) (drop p ks) ∙ ap (λ z. front ++ word ∷ z) (drop_token ks p LParen h)
        ∙ sym (append_assoc front (word ∷ LParen ∷ []) (drop (p + 1) ks)) ∙ ap (λ z. z ++ drop (p + 1) ks) (sym (plus_nothing arguments));
    free = let P : List Kind → Type 0 = λ z. ¬ (EndsWith ends_operand z) in
        subst P (append_assoc front (word ∷ []) (LParen ∷ []) ∙ sym (plus_nothing arguments)) (token_ends (front ++ word ∷ []) LParen refl);
  }

  any_fit : (ks : List Kind) (n : ℕ) → IsWithin ks → IsAtomName front word → LastPart arguments n ks → suc n ≤ most_arguments
  any_fit ks n w h l = at_most_by_not (suc n) most_arguments (λ lt. (w (arguments ++ l.inside) l.token l.rest l.split).1 (of_any (begun_in h l.balanced) lt))

  term_fit : (ks : List Kind) (n : ℕ) → IsWithin ks → IsAtomName front word → LastPart arguments n ks → TermNext front → suc n ≤ most_term_arguments
  term_fit ks n w h l t = at_most_by_not (suc n) most_term_arguments (λ lt. (w (arguments ++ l.inside) l.token l.rest l.split).1 (of_term (begun_in h l.balanced) t lt))

  equal_fit : (ks : List Kind) (n q : ℕ) → IsWithin ks → IsAtomName front word → Ending arguments n ks q → slice_get ks q ≡ Some RParen → slice_get ks (q + 1) ≡ Some Equal → suc n ≤ most_term_arguments
  equal_fit ks n q w h l c e =
      let split : ks ≡ ((arguments ++ l.inside) ++ RParen ∷ []) ++ Equal ∷ drop (q + 1 + 1) ks =
      l.split ∙ ap (λ z. (arguments ++ l.inside) ++ z) (drop_token ks q RParen c ∙ ap (λ z. RParen ∷ z) (drop_token ks (q + 1) Equal e))
      ∙ sym (append_assoc (arguments ++ l.inside) (RParen ∷ []) (Equal ∷ drop (q + 1 + 1) ks)) in
      at_most_by_not (suc n) most_term_arguments (λ lt. (w ((arguments ++ l.inside) ++ RParen ∷ []) Equal _ split).1 (left_of_equal (begun_in h l.balanced) lt))

-- Sides.
-- Behind a part of a side that has n operators up to there.
record Sided (ks : List Kind) (q n : ℕ) : Type 0 where
  pub before : List Kind
  pub split : ks ≡ before ++ drop q ks
  pub side : Side n before
  pub ends : EndsWith ends_operand before
  pub few : n ≤ most_operators

record SideStart (ks : List Kind) (p n : ℕ) : Type 0 where
  pub before : List Kind
  pub split : ks ≡ before ++ drop p ks
  pub side : Side n before
  pub few : n ≤ most_operators

side_as : {n m : ℕ} {u : List Kind} → n ≡ m → Side n u → Side m u
side_as {u = u} e h = let P : ℕ → Type 0 = λ z. Side z u in subst P e h

sided_as : (ks : List Kind) {q n m : ℕ} → n ≡ m → Sided ks q n → Sided ks q m
sided_as ks {q} e h = let P : ℕ → Type 0 = Sided ks q in subst P e h

side_begins : (ks : List Kind) (p : ℕ) → SideStart ks p 0
side_begins ks p = record { before = take p ks; split = sym (take-append-drop p ks); side = begins; few = omega arith }

-- the tokens before a place, with the one that stands there
pub behind_token : (ks : List Kind) (p : ℕ) (u : List Kind) (k : Kind) → ks ≡ u ++ drop p ks → slice_get ks p ≡ Some k → ks ≡ (u ++ k ∷ []) ++ drop (p + 1) ks
behind_token ks p u k e h = e ∙ ap (λ z. u ++ z) (drop_token ks p k h) ∙ sym (append_assoc u (k ∷ []) (drop (p + 1) ks))

one_operand : (ks : List Kind) (p n : ℕ) (k : Kind) → slice_get ks p ≡ Some k → continues_side k ≡ true → ends_operand k ≡ true → SideStart ks p n → Sided ks (p + 1) n
one_operand ks p n k h g e s = record {
  before = s.before ++ k ∷ [];
  split = behind_token ks p s.before k s.split h;
  side = operand k s.side g;
  ends = record { front = s.before; last = k; split = refl; is_one = e };
  few = s.few;
}

opens_round : (ks : List Kind) (p n : ℕ) → slice_get ks p ≡ Some LParen → SideStart ks p n → SideStart ks (p + 1) n
opens_round ks p n h s = record { before = s.before ++ LParen ∷ []; split = behind_token ks p s.before LParen s.split h; side = operand LParen s.side refl; few = s.few }

closes_round : (ks : List Kind) (q n : ℕ) → slice_get ks q ≡ Some RParen → Sided ks q n → Sided ks (q + 1) n
closes_round ks q n h s = one_operand ks q n RParen h refl refl (record { before = s.before; split = s.split; side = s.side; few = s.few })

-- an operator behind an operand is one more, and passes no limit
one_operator : (ks : List Kind) → IsWithin ks → (q n : ℕ) (k : Kind) → slice_get ks q ≡ Some k → may_be_operator k ≡ true → Sided ks q n → SideStart ks (q + 1) (n + 1)
one_operator ks w q n k h m s =
    let is : IsOperator s.before k = (m, s.ends) in
    let split : ks ≡ s.before ++ k ∷ drop (q + 1) ks = s.split ∙ ap (λ z. s.before ++ z) (drop_token ks q k h) in
    let lt : n < most_operators = elim (cases_lt n most_operators) [ inl l ↦ l | inr le ↦ absurd ((w s.before k (drop (q + 1) ks) split).0 (inr (is, side_less s.side most_operators le))) ] in
    record { before = s.before ++ k ∷ []; split = behind_token ks q s.before k s.split h; side = side_as (omega arith) (operator k s.side is); few = omega (arith, lt) }

-- the sign of a product may be an operator
pub times_is : (ts : List Token) (q : ℕ) (o : Arith) → TimesAt ts q o → (k : Kind) × At ts q k × (may_be_operator k ≡ true)
times_is ts q op.Mul h = (Star, h, refl)
times_is ts q op.Div h = (Slash, h, refl)
times_is ts q op.Mod h = (Mod, h, refl)
times_is ts q op.Add h = absurd h
times_is ts q op.Sub h = absurd h

-- and so may the sign of a sum
pub plus_is : (ts : List Token) (q : ℕ) (o : Arith) → PlusAt ts q o → (k : Kind) × At ts q k × (may_be_operator k ≡ true)
plus_is ts q op.Add h = (Plus, h, refl)
plus_is ts q op.Sub h = (Minus, h, refl)
plus_is ts q op.Mul h = absurd h
plus_is ts q op.Div h = absurd h
plus_is ts q op.Mod h = absurd h

-- operators of both sides and the one between them
pub joined : (n a b : ℕ) → n + a + 1 + b ≡ n + (a + b + 1)
joined n a b = omega arith

mutual
  sum_sided : (ts : List Token) → IsWithin (kinds_of ts) → {e : tree.Expr} {p q : ℕ} → IsSum ts e p q → (n : ℕ) → SideStart (kinds_of ts) p n → Sided (kinds_of ts) q (n + operators_of e)
  sum_sided ts w (one_product d) n s = product_sided ts w d n s
  sum_sided ts w (plus {l = l} {r = r} {m = m} o a h b) n s =
      let k = plus_is ts m o h in
      let x = one_operator (kinds_of ts) w m (n + operators_of l) k.0 k.1 k.2 (sum_sided ts w a n s) in
      sided_as (kinds_of ts) (joined n (operators_of l) (operators_of r)) (product_sided ts w b (n + operators_of l + 1) x)

  product_sided : (ts : List Token) → IsWithin (kinds_of ts) → {e : tree.Expr} {p q : ℕ} → IsProduct ts e p q → (n : ℕ) → SideStart (kinds_of ts) p n → Sided (kinds_of ts) q (n + operators_of e)
  product_sided ts w (one_factor d) n s = factor_sided ts w d n s
  product_sided ts w (times {l = l} {r = r} {m = m} o a h b) n s =
      let k = times_is ts m o h in
      let x = one_operator (kinds_of ts) w m (n + operators_of l) k.0 k.1 k.2 (product_sided ts w a n s) in
      sided_as (kinds_of ts) (joined n (operators_of l) (operators_of r)) (factor_sided ts w b (n + operators_of l + 1) x)

  factor_sided : (ts : List Token) → IsWithin (kinds_of ts) → {e : tree.Expr} {p q : ℕ} → IsFactor ts e p q → (n : ℕ) → SideStart (kinds_of ts) p n → Sided (kinds_of ts) q (n + operators_of e)
  factor_sided ts w (is_integer {p = p} h) n s = sided_as (kinds_of ts) (omega arith) (one_operand (kinds_of ts) p n Int h refl refl s)
  factor_sided ts w (is_value {p = p} h) n s = sided_as (kinds_of ts) (omega arith) (one_operand (kinds_of ts) p n Context h refl refl s)
  factor_sided ts w (in_parentheses {e = e} {p = p} {q = q} o d c) n s = closes_round (kinds_of ts) q (n + operators_of e) c (sum_sided ts w d n (opens_round (kinds_of ts) p n o s))

side_fits : (ts : List Token) → IsWithin (kinds_of ts) → {e : tree.Expr} {p q : ℕ} → IsSum ts e p q → operators_of e ≤ most_operators
side_fits ts w {p = p} d = let s = sum_sided ts w d 0 (side_begins (kinds_of ts) p) in let few = s.few in omega (arith, few)

-- Conditions.
record ContextsFit (xs : List ℕ) (start : List Kind) (n : ℕ) (ks : List Kind) : Type 0 where
  pub commas : ℕ
  pub count : suc commas ≡ n + length xs
  pub last : LastPart start commas ks

context_spot : (ks : List Kind) (start : List Kind) (n p : ℕ) → Spot start n ks p → slice_get ks p ≡ Some Context → slice_get ks (p + 1) ≡ Some Comma → Spot start (suc n) ks (p + 2)
context_spot ks start n p s h c = let P : ℕ → Type 0 = Spot start (suc n) ks in
    subst P (sym (next_to p)) (next_spot start n ks p (p + 1) (Context ∷ []) s (drop_token ks p Context h) (other Context refl empty) c)

contexts_fit : (ts : List Token) {xs : List ℕ} {p q : ℕ} → IsContexts ts xs p q → (start : List Kind) (n : ℕ) → Spot start n (kinds_of ts) p → ContextsFit xs start n (kinds_of ts)
contexts_fit ts (last_context {p = p} h) start n s = record { commas = n; count = omega arith; last = last_part start n (kinds_of ts) p Context _ s (drop_token (kinds_of ts) p Context h) }
contexts_fit ts (more_contexts {p = p} h c d) start n s =
    let r = contexts_fit ts d start (suc n) (context_spot (kinds_of ts) start n p s h c) in
    let count = r.count in
    record { commas = r.commas; count = omega (arith, count); last = r.last }

-- the word that stands there
behind_word : (ks : List Kind) (p : ℕ) (k : Kind) (r : Ready ks p) → slice_get ks p ≡ Some k → ks ≡ (r.before ++ k ∷ []) ++ drop (p + 1) ks
behind_word ks p k r h = r.split ∙ ap (λ z. r.before ++ z) (drop_token ks p k h) ∙ sym (append_assoc r.before (k ∷ []) (drop (p + 1) ks))

is_word : (ks : List Kind) (p : ℕ) (k : Kind) (r : Ready ks p) → may_be_atom_name k ≡ true → IsAtomName r.before k
is_word ks p k r h = (h, λ o. r.free o.1)

called_fit : (ts : List Token) → IsWithin (kinds_of ts) → {xs : List ℕ} {p q : ℕ} → IsContextArguments ts xs (p + 1) q → (k : Kind) → may_be_atom_name k ≡ true → At ts p k → Ready (kinds_of ts) p → length xs ≤ most_arguments
called_fit ts w d k m h r = by_contexts ts w d refl k m h r
  where
    by_contexts : (ts : List Token) → IsWithin (kinds_of ts) → {xs : List ℕ} {s p q : ℕ} → IsContextArguments ts xs s q → s ≡ p + 1 → (k : Kind) → may_be_atom_name k ≡ true → At ts p k → Ready (kinds_of ts) p → length xs ≤ most_arguments
    by_contexts ts w no_contexts e k m h r = omega arith
    by_contexts ts w {p = p} (some_contexts {p = s} o d c) e k m h r =
        let ks = kinds_of ts in
        let split : ks ≡ (r.before ++ k ∷ []) ++ drop s ks = behind_word ks p k r h ∙ ap (λ z. (r.before ++ k ∷ []) ++ drop z ks) (sym e) in
        let f = contexts_fit ts d (arguments r.before k) 0 (first_spot r.before k ks s split o) in
        let count = f.count in
        let most = any_fit r.before k ks f.commas w (is_word ks p k r m) f.last in
        omega (arith, count, most)

name_fit : (ts : List Token) (p : ℕ) → NameAt ts p → (k : Kind) × (may_be_atom_name k ≡ true) × At ts p k
name_fit ts p (inl h) = (Name, refl, h)
name_fit ts p (inr (inl h)) = (Quoted, refl, h)
name_fit ts p (inr (inr h)) = (Mod, refl, h)

condition_fits : (ts : List Token) → IsWithin (kinds_of ts) → {x : tree.WrittenCondition} {p q : ℕ} → IsCondition ts x p q → Ready (kinds_of ts) p → FitsCondition x
condition_fits ts w (is_called {p = p} h d) r = let k = name_fit ts p h in called_fit ts w d k.0 k.1 k.2 r
condition_fits ts w (is_compared o a h b) r = (side_fits ts w a, side_fits ts w b)
condition_fits ts w (is_equal h e b) r = side_fits ts w b
condition_fits ts w (is_different h e c) r = tt

guard_fits : (ts : List Token) → IsWithin (kinds_of ts) → {xs : List tree.WrittenCondition} {p q : ℕ} → IsWrittenGuard ts xs p q → Ready (kinds_of ts) p → AllByRecursion FitsCondition xs
guard_fits ts w (last_condition d) r = (condition_fits ts w d r, tt)
guard_fits ts w (more_conditions {m = m} d h e) r = (condition_fits ts w d r, guard_fits ts w e (token_ready (kinds_of ts) m Comma h refl))

-- Terms, items and clauses.
record TermsFit (xs : tree.Terms) (start : List Kind) (n : ℕ) (ks : List Kind) (q : ℕ) : Type 0 where
  pub commas : ℕ
  pub count : suc commas ≡ n + number_of_terms xs
  pub last : LastPart start commas ks
  pub ending : Ending start commas ks q
  pub fits : FitsTerms xs

-- an atom's arguments, where it is an item, and where it is a term by its place or by the '=' behind it
record AtomFits (xs : tree.Terms) (is_term : Type 0) : Type 0 where
  pub any : number_of_terms xs ≤ most_arguments
  pub term : is_term → number_of_terms xs ≤ most_term_arguments
  pub fits : FitsTerms xs

abbrev IsTermAt : List Token → (before : List Kind) → ℕ → Type 0
IsTermAt ts before q = TermNext before ⊎ At ts q Equal

none_fits : (n m : ℕ) → n ≡ 0 → n ≤ m
none_fits n m h = omega (arith, h)

fewer : (n c m : ℕ) → suc c ≡ 0 + n → suc c ≤ m → n ≤ m
fewer n c m h g = omega (arith, h, g)

in_brackets : (start : List Kind) {n : ℕ} {u : List Kind} → Balanced n u → TermNext ((start ++ LBracket ∷ []) ++ u)
in_brackets start {n} {u} b = let P : List Kind → Type 0 = TermNext in subst P (sym (append_assoc start (LBracket ∷ []) u)) (in_list start b)

list_spot : (ks : List Kind) (p : ℕ) → slice_get ks p ≡ Some LBracket → Spot (take p ks ++ LBracket ∷ []) 0 ks (p + 1)
list_spot ks p h =
    let r = token_ready ks p LBracket h refl in
    let P : List Kind → Type 0 = λ z. ¬ (EndsWith ends_operand z) in
    record { inside = []; balanced = empty; split = r.split ∙ ap (λ z. z ++ drop (p + 1) ks) (sym (plus_nothing r.before)); free = subst P (sym (plus_nothing r.before)) r.free }

-- behind the '|' of a list
abbrev bar_ready : (start : List Kind) (n : ℕ) (ks : List Kind) (m : ℕ) → Ending start n ks m → slice_get ks m ≡ Some Bar → Ready ks (m + 1)
bar_ready start n ks m e h = record {
  before = start ++ (e.inside ++ Bar ∷ []);
  split = e.split ∙ ap (λ z. (start ++ e.inside) ++ z) (drop_token ks m Bar h) ∙ onward start e.inside (Bar ∷ []) (drop (m + 1) ks);
  free = token_ends_in start e.inside Bar refl;
}

mutual
  clauses_fit : (ts : List Token) → IsWithin (kinds_of ts) → {x : tree.Clauses} {p q : ℕ} → IsClauses ts x p q → Ready (kinds_of ts) p → FitsClauses x
  clauses_fit ts w no_clauses r = tt
  clauses_fit ts w (last_clause d) r = (clause_fits ts w d r, tt)
  clauses_fit ts w (more_clauses {m = m} d h e) r = (clause_fits ts w d r, clauses_fit ts w e (token_ready (kinds_of ts) m Dot h refl))

  clause_fits : (ts : List Token) → IsWithin (kinds_of ts) → {x : tree.Clause} {p q : ℕ} → IsClause ts x p q → Ready (kinds_of ts) p → FitsClause x
  clause_fits ts w (named_rule {p = p} h a d) r = let P : ℕ → Type 0 = Ready (kinds_of ts) in
      rule_fits ts w d (subst P (sym (next_to p)) (token_ready (kinds_of ts) (p + 1) AtAt a refl))
  clause_fits ts w (unnamed_rule d) r = rule_fits ts w d r
  clause_fits ts w (is_process d) r = list_fits ts w d r

  rule_fits : (ts : List Token) → IsWithin (kinds_of ts) → {s : ℕ} {x : tree.Clause} {p q : ℕ} → IsWrittenRule ts s x p q → Ready (kinds_of ts) p → FitsClause x
  rule_fits ts w (is_rule {m = m} s d h e) r =
      let heads = heads_fit ts w d r in let body = body_fits ts w e (token_ready (kinds_of ts) m Arrow h refl) in (heads.0, heads.1, body.0, body.1)

  heads_fit : (ts : List Token) → IsWithin (kinds_of ts) → {x y : tree.Items} {p q : ℕ} → IsHeads ts x y p q → Ready (kinds_of ts) p → FitsItems x × FitsItems y
  heads_fit ts w (all_taken d) r = (tt, opt_list_fits ts w d r)
  heads_fit ts w (some_kept {m = m} d h e) r = (opt_list_fits ts w d r, opt_list_fits ts w e (token_ready (kinds_of ts) m Backslash h refl))

  body_fits : (ts : List Token) → IsWithin (kinds_of ts) → {g : List tree.WrittenCondition} {x : tree.Items} {p q : ℕ} → IsBody ts g x p q → Ready (kinds_of ts) p → AllByRecursion FitsCondition g × FitsItems x
  body_fits ts w (no_guard d) r = (tt, opt_list_fits ts w d r)
  body_fits ts w (empty_guard {p = p} h d) r = (tt, opt_list_fits ts w d (token_ready (kinds_of ts) p Bar h refl))
  body_fits ts w (guarded {m = m} g h d) r = (guard_fits ts w g r, opt_list_fits ts w d (token_ready (kinds_of ts) m Bar h refl))

  opt_list_fits : (ts : List Token) → IsWithin (kinds_of ts) → {x : tree.Items} {p q : ℕ} → IsOptList ts x p q → Ready (kinds_of ts) p → FitsItems x
  opt_list_fits ts w no_list r = tt
  opt_list_fits ts w (some_list d) r = list_fits ts w d r

  list_fits : (ts : List Token) → IsWithin (kinds_of ts) → {x : tree.Items} {p q : ℕ} → IsList ts x p q → Ready (kinds_of ts) p → FitsItems x
  list_fits ts w (last_item d) r = (item_fits ts w d r, tt)
  list_fits ts w (more_items {m = m} d h e) r = (item_fits ts w d r, list_fits ts w e (token_ready (kinds_of ts) m Comma h refl))

  item_fits : (ts : List Token) → IsWithin (kinds_of ts) → {x : tree.Item} {p q : ℕ} → IsItem ts x p q → Ready (kinds_of ts) p → FitsItem x
  item_fits ts w (is_atom_item d) r = let a = atom_fits ts w d r in (a.any, a.fits)
  item_fits ts w (is_membrane_item d) r = membrane_fits ts w d
  item_fits ts w (is_context_item h) r = tt
  item_fits ts w (is_closed h o c) r = tt
  item_fits ts w (is_bracketed h o d c) r = tt
  item_fits ts w (is_rule_context h) r = tt
  item_fits ts w (is_plus_link h d) r = tt
  item_fits ts w (is_group {p = p} o d c) r = clause_fits ts w d (token_ready (kinds_of ts) p LParen o refl)
  item_fits ts w (is_equation {m = m} a h b) r =
      (term_fits ts w a r (inr h), term_fits ts w b (token_ready (kinds_of ts) m Equal h refl) (inl (behind_equal (take m (kinds_of ts)))))

  membrane_fits : (ts : List Token) → IsWithin (kinds_of ts) → {x : tree.Clauses} {p q : ℕ} → IsMembrane ts x p q → FitsClauses x
  membrane_fits ts w (in_braces {p = p} o d c) = clauses_fit ts w d (token_ready (kinds_of ts) p LBrace o refl)

  atom_fits : (ts : List Token) → IsWithin (kinds_of ts) → {n : ℕ} {x : tree.Terms} {p q : ℕ} → IsWrittenAtom ts n x p q → (r : Ready (kinds_of ts) p) → AtomFits x (IsTermAt ts r.before q)
  atom_fits ts w (with_name {p = p} h d) r = let k = name_fit ts p h in
      arguments_fit ts w d r.before k.0 (is_word (kinds_of ts) p k.0 r k.1) (behind_word (kinds_of ts) p k.0 r k.2)
  atom_fits ts w (with_integer {p = p} h d) r = arguments_fit ts w d r.before Int (is_word (kinds_of ts) p Int r refl) (behind_word (kinds_of ts) p Int r h)

  arguments_fit : (ts : List Token) → IsWithin (kinds_of ts) → {x : tree.Terms} {p q : ℕ} → IsArguments ts x p q →
      (front : List Kind) (k : Kind) → IsAtomName front k → kinds_of ts ≡ (front ++ k ∷ []) ++ drop p (kinds_of ts) → AtomFits x (IsTermAt ts front q)
  arguments_fit ts w no_parentheses front k h e = record { any = none_fits 0 most_arguments refl; term = λ t. none_fits 0 most_term_arguments refl; fits = tt }
  arguments_fit ts w (no_arguments o c) front k h e = record { any = none_fits 0 most_arguments refl; term = λ t. none_fits 0 most_term_arguments refl; fits = tt }
  arguments_fit ts w (some_arguments {xs = xs} {p = p} {q = q} o d c) front k h e =
      let ks = kinds_of ts in
      let f = terms_fit ts w d (arguments front k) 0 (first_spot front k ks p e o) (λ m u b. in_arguments (begun_in front k h b)) in
      record {
        any = fewer (number_of_terms xs) f.commas most_arguments f.count (any_fit front k ks f.commas w h f.last);
        term = λ t. fewer (number_of_terms xs) f.commas most_term_arguments f.count (elim t [ inl n ↦ term_fit front k ks f.commas w h f.last n | inr g ↦ equal_fit front k ks f.commas q w h f.ending c g ]);
        fits = f.fits;
      }

  terms_fit : (ts : List Token) → IsWithin (kinds_of ts) → {x : tree.Terms} {p q : ℕ} → IsTerms ts x p q → (start : List Kind) (n : ℕ) → Spot start n (kinds_of ts) p →
      ((m : ℕ) (u : List Kind) → Balanced m u → TermNext (start ++ u)) → TermsFit x start n (kinds_of ts) q
  terms_fit ts w (last_term {p = p} {q = q} d) start n s next =
      let ks = kinds_of ts in let x = part ts d in
      record {
        commas = n;
        count = omega arith;
        last = last_part start n ks p x.first.0 x.first.1 s x.first.2;
        ending = ends_after start n ks p q x.word s x.split x.balanced;
        fits = (term_fits ts w d (spot_ready start n ks p s) (inl (next n s.inside s.balanced)), tt);
      }
  terms_fit ts w (more_terms {p = p} {m = m} d h e) start n s next =
      let ks = kinds_of ts in let x = part ts d in
      let f = terms_fit ts w e start (suc n) (next_spot start n ks p m x.word s x.split x.balanced h) next in
      let count = f.count in
      record {
        commas = f.commas;
        count = omega (arith, count);
        last = f.last;
        ending = f.ending;
        fits = (term_fits ts w d (spot_ready start n ks p s) (inl (next n s.inside s.balanced)), f.fits);
      }

  term_fits : (ts : List Token) → IsWithin (kinds_of ts) → {x : tree.Term} {p q : ℕ} → IsTerm ts x p q → (r : Ready (kinds_of ts) p) → IsTermAt ts r.before q → FitsTerm x
  term_fits ts w (is_link h) r t = tt
  term_fits ts w (is_atom d) r t = let a = atom_fits ts w d r in (a.term t, a.fits)
  term_fits ts w (is_context h) r t = tt
  term_fits ts w (is_membrane d) r t = membrane_fits ts w d
  term_fits ts w (is_list d) r t = term_list_fits ts w d

  term_list_fits : (ts : List Token) → IsWithin (kinds_of ts) → {x : tree.Term} {p q : ℕ} → IsTermList ts x p q → FitsTerm x
  term_list_fits ts w (empty_list o c) = tt
  term_list_fits ts w (closed_list {p = p} o d c) =
      let ks = kinds_of ts in (terms_fit ts w d (take p ks ++ LBracket ∷ []) 0 (list_spot ks p o) (λ m u b. in_brackets (take p ks) b)).fits
  term_list_fits ts w (open_list {p = p} {m = m} o d h e c) =
      let ks = kinds_of ts in
      let f = terms_fit ts w d (take p ks ++ LBracket ∷ []) 0 (list_spot ks p o) (λ m u b. in_brackets (take p ks) b) in (
        f.fits,
        term_fits ts w e (bar_ready (take p ks ++ LBracket ∷ []) f.commas ks m f.ending h)
            (inl (in_brackets (take p ks) (balanced_both f.ending.balanced (other Bar refl empty)))),
      )

-- a tree whose tokens are within the limits fits
pub trees_fit : TreesFit
trees_fit ts tree (q, d, e, l) w = clauses_fit ts w d (at_first (kinds_of ts))
