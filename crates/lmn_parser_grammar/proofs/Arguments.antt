-- What a derived word is to the counts, and how many brackets, operators and arguments there may be.
use Rattle.std.proofs.Common.{◌≡◌, ℕ, zero, suc, ◌+◌, ◌≤◌, Bool, true, false, ◌&&◌, ◌||◌, List, [], ◌∷◌, ◌++◌, refl, sym, ◌∙◌, ap, arith, subst, inl, inr, append_assoc}
use Rattle.lmn_parser_grammar.specs.Grammar.{Exp, Tok, Seq, Alt, Opt, Many, Within, Ref, Bracket, Round, Square, Curly, opener, closer, Part, TermPart, SumPart, ClausePart, ClausesPart, part_expression, Derives, here, both, left, right, without, with, no_more, one_more, inside, by}
use Rattle.lmn_parser_grammar.specs.Limits.{is_opener, is_closer, is_comma, Balanced, empty, comma, other, closed, Open, Side, operand, operator, begun, of_any, of_term, most_brackets, most_operators, most_arguments, most_term_arguments}
use Rattle.lmn_parser_grammar.specs.Limits as limits
use Rattle.lmn_parser_grammar.specs.Refusing.{IsWithin}
use Rattle.lmn_parser_grammar.specs.Laws.{BracketsWithin, OperatorsWithin, TermsWithCommas, ArgumentsWithin}
use Rattle.lmn_lexer.specs.declared.token.Kind.{Kind}
use Rattle.lmn_lexer.specs.declared.token.Kind.TheVariants.{LParen, Comma}
use Rattle.lmn_parser_grammar.proofs.Counts.{balanced_both}
use Rattle.lmn_parser_grammar.proofs.Scans.{within_front}
use Rattle.lmn_parser_grammar.proofs.Theory.{empty_right}
use Rattle.lmn_base.proofs.Truth.{and_true, false_not_true as clash}
use Rattle.lmn_base.proofs.Numbers.{at_most_by_not}

-- no bracket stands alone in a word
abbrev paired : Exp → Bool
paired (Tok k) = elim (is_opener k || is_closer k) [ true ↦ false | false ↦ true ]
paired (Seq a b) = paired a && paired b
paired (Alt a b) = paired a && paired b
paired (Opt a) = paired a
paired (Many a) = paired a
paired (Within b a) = paired a
paired (Ref m) = true

-- and no comma outside brackets
abbrev no_comma : Exp → Bool
no_comma (Tok k) = elim (is_opener k || is_closer k || is_comma k) [ true ↦ false | false ↦ true ]
no_comma (Seq a b) = no_comma a && no_comma b
no_comma (Alt a b) = no_comma a && no_comma b
no_comma (Opt a) = no_comma a
no_comma (Many a) = no_comma a
no_comma (Within b a) = paired a
no_comma (Ref TermPart) = true
no_comma (Ref SumPart) = true
no_comma (Ref ClausePart) = false
no_comma (Ref ClausesPart) = false

meaning_paired : (m : Part) → paired (part_expression m) ≡ true
meaning_paired TermPart = refl
meaning_paired SumPart = refl
meaning_paired ClausePart = refl
meaning_paired ClausesPart = refl

meaning_no_comma : (m : Part) → no_comma (Ref m) ≡ true → no_comma (part_expression m) ≡ true
meaning_no_comma TermPart h = refl
meaning_no_comma SumPart h = refl
meaning_no_comma ClausePart h = absurd (clash h)
meaning_no_comma ClausesPart h = absurd (clash h)

balanced_along : {n : ℕ} (u v : List Kind) → u ≡ v → Balanced n v → Balanced n u
balanced_along {n} u v e h = let P : List Kind → Type 0 = Balanced n in subst P (sym e) h

opens : (b : Bracket) → is_opener (opener b) ≡ true
opens Round = refl
opens Square = refl
opens Curly = refl

closes : (b : Bracket) → is_closer (closer b) ≡ true
closes Round = refl
closes Square = refl
closes Curly = refl

enclosed : {n : ℕ} (b : Bracket) {u : List Kind} → Balanced n u → Balanced 0 (opener b ∷ (u ++ closer b ∷ []))
enclosed b h = closed (opener b) (closer b) (opens b) (closes b) h empty

-- what holds turned round doesn't hold
pub flipped : (b : Bool) → elim b [ true ↦ false | false ↦ true ] ≡ true → b ≡ false
flipped true h = absurd (clash h)
flipped false h = refl

one_token : (k : Kind) → (is_opener k || is_closer k) ≡ false → (n : ℕ) × Balanced n (k ∷ [])
one_token k h = by_comma (is_comma k) refl
  where
    only_comma : (k : Kind) → is_comma k ≡ true → k ≡ Comma
    only_comma Comma h = refl
    only_comma _ h = absurd (clash h)

    none_of : (a b c : Bool) → (a || b) ≡ false → c ≡ false → (a || b || c) ≡ false
    none_of true b c h g = absurd (clash (sym h))
    none_of false true c h g = absurd (clash (sym h))
    none_of false false c h g = g

    by_comma : (b : Bool) → is_comma k ≡ b → (n : ℕ) × Balanced n (k ∷ [])
    by_comma true e = (1, balanced_along (k ∷ []) (Comma ∷ []) (ap (λ z. z ∷ []) (only_comma k e)) (comma empty))
    by_comma false e = (0, other k (none_of (is_opener k) (is_closer k) (is_comma k) h e) empty)

paired_balanced : (e : Exp) (u : List Kind) → Derives e u → paired e ≡ true → (n : ℕ) × Balanced n u
paired_balanced _ _ (here k) h = one_token k (flipped (is_opener k || is_closer k) h)
paired_balanced _ _ (both a b u v w e da db) h =
    let c = and_true (paired a) (paired b) h in let x = paired_balanced a u da c.0 in let y = paired_balanced b v db c.1 in (x.0 + y.0, balanced_along w (u ++ v) e (balanced_both x.1 y.1))
paired_balanced _ _ (left a b w d) h = paired_balanced a w d (and_true (paired a) (paired b) h).0
paired_balanced _ _ (right a b w d) h = paired_balanced b w d (and_true (paired a) (paired b) h).1
paired_balanced _ _ (without a) h = (0, empty)
paired_balanced _ _ (with a w d) h = paired_balanced a w d h
paired_balanced _ _ (no_more a) h = (0, empty)
paired_balanced _ _ (one_more a u v w e da dm) h =
    let x = paired_balanced a u da h in let y = paired_balanced (Many a) v dm h in (x.0 + y.0, balanced_along w (u ++ v) e (balanced_both x.1 y.1))
paired_balanced _ _ (inside b a u w e d) h = (0, balanced_along w _ e (enclosed b (paired_balanced a u d h).1))
paired_balanced _ _ (by m w d) h = paired_balanced (part_expression m) w d (meaning_paired m)

-- A word with no comma outside brackets.
pub balanced_word : (e : Exp) (u : List Kind) → Derives e u → no_comma e ≡ true → Balanced 0 u
balanced_word _ _ (here k) h = other k (flipped (is_opener k || is_closer k || is_comma k) h) empty
balanced_word _ _ (both a b u v w e da db) h =
    let c = and_true (no_comma a) (no_comma b) h in balanced_along w (u ++ v) e (balanced_both (balanced_word a u da c.0) (balanced_word b v db c.1))
balanced_word _ _ (left a b w d) h = balanced_word a w d (and_true (no_comma a) (no_comma b) h).0
balanced_word _ _ (right a b w d) h = balanced_word b w d (and_true (no_comma a) (no_comma b) h).1
balanced_word _ _ (without a) h = empty
balanced_word _ _ (with a w d) h = balanced_word a w d h
balanced_word _ _ (no_more a) h = empty
balanced_word _ _ (one_more a u v w e da dm) h = balanced_along w (u ++ v) e (balanced_both (balanced_word a u da h) (balanced_word (Many a) v dm h))
balanced_word _ _ (inside b a u w e d) h = balanced_along w _ e (enclosed b (paired_balanced a u d h).1)
balanced_word _ _ (by m w d) h = balanced_word (part_expression m) w d (meaning_no_comma m h)

-- Brackets and operators.
open_within : {n : ℕ} {u : List Kind} → Open n u → IsWithin u → n ≡ most_brackets + 1 → ⊥
open_within limits.none w e = absurd (omega (arith, e))
open_within (limits.one_more k {n = n} {before = u} {inside = v} d h b) w e =
    let P : ℕ → Type 0 = λ z. Open z u in
    let same : n ≡ most_brackets = omega (arith, e) in (w u k v refl).0 (inl (h, subst P same d))

-- within the limits no more brackets are open than may be
pub brackets_within : BracketsWithin
brackets_within u w d = open_within d w refl

side_within : {n : ℕ} {u : List Kind} → Side n u → IsWithin u → n ≡ most_operators + 1 → ⊥
side_within limits.begins w e = absurd (omega (arith, e))
side_within (operand k {before = u} d h) w e = side_within d (within_front u (k ∷ []) w) e
side_within (operator k {n = n} {before = u} d h) w e =
    let P : ℕ → Type 0 = λ z. Side z u in
    let same : n ≡ most_operators = omega (arith, e) in (w u k [] refl).0 (inr (h, subst P same d))

-- within the limits no side has more operators than it may have
pub operators_within : OperatorsWithin
operators_within u w d = side_within d w refl

-- Arguments: where the last of them begins.
record LastTerm (n : ℕ) (w : List Kind) : Type 0 where
  pub front : List Kind
  pub first : Kind
  pub behind : List Kind
  pub split : w ≡ front ++ first ∷ behind
  pub balanced : Balanced n front

last_term : (n : ℕ) (w : List Kind) → TermsWithCommas n w → LastTerm n w
last_term zero w d = begins w d
  where
    begins : (w : List Kind) → Derives (Ref TermPart) w → LastTerm 0 w
    begins [] d = absurd (clash (empty_right (Ref TermPart) [] d refl))
    begins (k ∷ w) d = record { front = []; first = k; behind = w; split = refl; balanced = empty }
last_term (suc n) w (u, v, e, d, more) =
    let t = last_term n v more in
    let P : ℕ → Type 0 = λ z. Balanced z (u ++ Comma ∷ t.front) in
    record {
      front = u ++ Comma ∷ t.front;
      first = t.first;
      behind = t.behind;
      split = e ∙ ap (λ z. u ++ Comma ∷ z) t.split ∙ sym (append_assoc u (Comma ∷ t.front) (t.first ∷ t.behind));
      balanced = subst P (omega arith) (balanced_both (balanced_word (Ref TermPart) u d refl) (comma t.balanced));
    }

-- within the limits no atom has more arguments than it may have, and one that is a term one fewer
pub arguments_within : ArgumentsWithin
arguments_within before arguments behind word n h d w =
    let t = last_term n arguments d in
    let list = before ++ word ∷ LParen ∷ t.front in
    let split : before ++ word ∷ LParen ∷ (arguments ++ behind) ≡ list ++ t.first ∷ (t.behind ++ behind) =
    ap (λ z. before ++ word ∷ LParen ∷ z) (ap (λ z. z ++ behind) t.split ∙ append_assoc t.front (t.first ∷ t.behind) behind)
    ∙ sym (append_assoc before (word ∷ LParen ∷ t.front) (t.first ∷ (t.behind ++ behind))) in
    let none = (w list t.first (t.behind ++ behind) split).1 in
    let is_in = begun word h t.balanced in
    let any : suc n ≤ most_arguments = at_most_by_not (suc n) most_arguments (λ lt. none (of_any is_in lt)) in
    (omega (arith, any), λ next. let term : suc n ≤ most_term_arguments = at_most_by_not (suc n) most_term_arguments (λ lt. none (of_term is_in next lt)) in omega (arith, term))
