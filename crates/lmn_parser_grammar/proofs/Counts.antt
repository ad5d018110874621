-- What passes a limit by counts is what the scan finds, both ways.
use Rattle.std.proofs.Common.{◌≡◌, ℕ, zero, suc, ◌+◌, ◌≤◌, ◌<◌, Bool, true, false, ◌&&◌, ◌||◌, if◌then◌else◌, nat_le, List, [], ◌∷◌, ◌++◌, length, Option, Some, None, refl, sym, ◌∙◌, ap, arith, subst, ◌⊎◌, inl, inr, append_assoc}
use Rattle.lmn_parser_grammar.specs.Limits.{is_opener, is_closer, is_comma, may_be_operator, may_be_atom_name, ends_operand, continues_side, EndsWith, IsOperator, IsAtomName, Balanced, empty, comma, other, closed, Open, none, one_more, Side, begins, operand, operator, TooDeep, InArguments, begun, TermNext, behind_equal, in_arguments, in_list, TooManyArguments, of_any, of_term, left_of_equal, Passes, PassesNone, most_brackets, most_operators, most_arguments, most_term_arguments}
use Rattle.lmn_parser_grammar.specs.Scan.{Opened, Arguments, Terms, Group, Last, Equals, Word, Digits, Closed, Operand, Other, Scan, scan_at_start, was_operand, is_operator, limit_in, limit_behind, limit_here, round_behind, one_more_begun, without_first, opened_after, closed_by_round, last_after, scan_after, scan_from, scan, is_too_deep, has_too_many, is_full, is_equal, passes, is_equals_last}
use Rattle.lmn_lexer.specs.declared.token.Kind.{Kind}
use Rattle.lmn_lexer.specs.declared.token.Kind.TheVariants.{Name, Quoted, Mod, Int, LParen, RParen, LBracket, RBracket, LBrace, RBrace, Comma, Equal}
use Rattle.lmn_base.proofs.Lists.{plus_nothing}
use Rattle.lmn_base.proofs.Numbers.{test_at_most as at_most, is_less as is_lower, lower}
use Rattle.lmn_base.proofs.Truth.{and_true, either_true as or_true, false_not_true as clash}
use Rattle.lmn_parser_grammar.proofs.Theory.{cons_same}
use Rattle.std.proofs.lemmas.Bool.{and_from, or_right, or_left}

-- tokens are scanned one part after the other
pub scan_append : (s : Scan) (u v : List Kind) → scan_from s (u ++ v) ≡ scan_from (scan_from s u) v
scan_append s [] v = refl
scan_append s (k ∷ u) v = scan_append (scan_after s k) u v

-- a scan goes on token by token
pub scan_more : (u : List Kind) (k : Kind) → scan (u ++ k ∷ []) ≡ scan_after (scan u) k
scan_more u k = scan_append scan_at_start u (k ∷ [])

-- By the last token.
from_left : (P : List Kind → Type 0) → P [] → ((u : List Kind) (k : Kind) → P u → P (u ++ k ∷ [])) → (u : List Kind) → P u
from_left P z s u = go [] u z
  where
    go : (before u : List Kind) → P before → P (before ++ u)
    go before [] h = subst P (sym (plus_nothing before)) h
    go before (k ∷ u) h = subst P (append_assoc before (k ∷ []) u) (go (before ++ k ∷ []) u (s before k h))

never : (u : List Kind) (k : Kind) → [] ≡ u ++ k ∷ [] → ⊥
never [] k h = cc
never (a ∷ u) k h = cc

same_last : (u v : List Kind) (k t : Kind) → u ++ k ∷ [] ≡ v ++ t ∷ [] → k ≡ t
same_last [] [] k t e = (cons_same k t [] [] e).0
same_last [] (b ∷ v) k t e = absurd (never v t (cons_same k b [] (v ++ t ∷ []) e).1)
same_last (a ∷ u) [] k t e = absurd (never u k (sym (cons_same a t (u ++ k ∷ []) [] e).1))
same_last (a ∷ u) (b ∷ v) k t e = same_last u v k t (cons_same a b (u ++ k ∷ []) (v ++ t ∷ []) e).1

-- of tokens that end with one of a kind the last is of that kind
pub last_is : (test : Kind → Bool) (u : List Kind) (k : Kind) → EndsWith test (u ++ k ∷ []) → test k ≡ true
last_is test u k e = ap test (same_last u e.front k e.last e.split) ∙ e.is_one

ends : (test : Kind → Bool) (u : List Kind) (k : Kind) → test k ≡ true → EndsWith test (u ++ k ∷ [])
ends test u k h = record { front = u; last = k; split = refl; is_one = h }

-- Operands and operators.
closed_operand : (o : List Opened) → was_operand (closed_by_round o) ≡ true
closed_operand [] = refl
closed_operand (Arguments l n ∷ o) = refl
closed_operand (Terms ∷ o) = refl
closed_operand (Group ∷ o) = refl

mod_operand : (b : Bool) (l : ℕ) → was_operand (if b then Other else Word l) ≡ false
mod_operand true l = refl
mod_operand false l = refl

same_operand : (s : Scan) (k : Kind) → was_operand (last_after s k) ≡ ends_operand k
same_operand s RParen = closed_operand s.opened
same_operand s Mod = mod_operand (was_operand s.last) (limit_here s)
same_operand s _ = refl

operand_last : (u : List Kind) (k : Kind) → was_operand (scan (u ++ k ∷ [])).last ≡ ends_operand k
operand_last u k = ap (λ s. was_operand s.last) (scan_more u k) ∙ same_operand (scan u) k

scan_operand : (u : List Kind) → was_operand (scan u).last ≡ true → EndsWith ends_operand u
scan_operand u = from_left (λ u. was_operand (scan u).last ≡ true → EndsWith ends_operand u)
    (λ h. absurd (clash h)) (λ u k i h. ends ends_operand u k (sym (operand_last u k) ∙ h)) u

operand_scan : (u : List Kind) → EndsWith ends_operand u → was_operand (scan u).last ≡ true
operand_scan u e = ap (λ z. was_operand (scan z).last) e.split ∙ operand_last e.front e.last ∙ e.is_one

-- what the scan takes for an operator is one
pub scan_operator : (u : List Kind) (k : Kind) → is_operator (scan u) k ≡ true → IsOperator u k
scan_operator u k h = let p = and_true (may_be_operator k) (was_operand (scan u).last) h in (p.0, scan_operand u p.1)

-- the scan sees each operator
pub operator_scan : (u : List Kind) (k : Kind) → IsOperator u k → is_operator (scan u) k ≡ true
operator_scan u k h = and_from (may_be_operator k) (was_operand (scan u).last) h.0 (operand_scan u h.1)

-- Sides.
side_step : (n m : ℕ) (is_one goes : Bool) → n ≤ m → goes ≡ true → n ≤ (if is_one then m + 1 else if goes then m else 0)
side_step n m true goes h e = omega (arith, h)
side_step n m false true h e = h
side_step n m false false h e = absurd (clash e)

side_more : (n m : ℕ) (is_one : Bool) (x : ℕ) → n ≤ m → is_one ≡ true → suc n ≤ (if is_one then m + 1 else x)
side_more n m true x h e = omega (arith, h)
side_more n m false x h e = absurd (clash e)

-- the scan counts at least as many operators as a side has
pub side_scan : {n : ℕ} {u : List Kind} → Side n u → n ≤ (scan u).operators
side_scan begins = omega arith
side_scan (operand k {n = n} {before = u} d h) =
    let P : Scan → Type 0 = λ s. n ≤ s.operators in
    subst P (sym (scan_more u k)) (side_step n (scan u).operators (is_operator (scan u) k) (continues_side k) (side_scan d) h)
side_scan (operator k {n = n} {before = u} d h) =
    let P : Scan → Type 0 = λ s. suc n ≤ s.operators in
    subst P (sym (scan_more u k)) (side_more n (scan u).operators (is_operator (scan u) k) _ (side_scan d) (operator_scan u k h))

side_after : (u : List Kind) (k : Kind) (n : ℕ) → Side n u → (is_one goes : Bool) → is_operator (scan u) k ≡ is_one → continues_side k ≡ goes
    → Side (if is_one then n + 1 else if goes then n else 0) (u ++ k ∷ [])
side_after u k n d true goes e g = let P : ℕ → Type 0 = λ m. Side m (u ++ k ∷ []) in subst P (omega arith) (operator k d (scan_operator u k e))
side_after u k n d false true e g = operand k d g
side_after u k n d false false e g = begins

-- the operators that it counts are those of a side
pub scan_side : (u : List Kind) → Side (scan u).operators u
scan_side u = from_left (λ u. Side (scan u).operators u) begins
    (λ u k d. let P : Scan → Type 0 = λ s. Side s.operators (u ++ k ∷ []) in
    subst P (sym (scan_more u k)) (side_after u k (scan u).operators d (is_operator (scan u) k) (continues_side k) refl refl)) u

-- a side with n operators is one with fewer
pub side_less : {n : ℕ} {u : List Kind} → Side n u → (m : ℕ) → m ≤ n → Side m u
side_less {u = u} begins m h = let P : ℕ → Type 0 = λ z. Side z u in subst P (omega (arith, h)) begins
side_less (operand k d g) m h = operand k (side_less d m h) g
side_less (operator k d g) zero h = begins
side_less (operator k d g) (suc m) h = operator k (side_less d m (omega (arith, h))) g

-- Brackets.
-- so many arguments more are begun of the innermost list
abbrev pub added : ℕ → List Opened → List Opened
added n [] = []
added n (Arguments l m ∷ o) = Arguments l (m + n) ∷ o
added n (Terms ∷ o) = Terms ∷ o
added n (Group ∷ o) = Group ∷ o

-- no argument added changes nothing
pub added_none : (o : List Opened) → added 0 o ≡ o
added_none [] = refl
added_none (Arguments l m ∷ o) = ap (λ z. Arguments l z ∷ o) (omega arith)
added_none (Terms ∷ o) = refl
added_none (Group ∷ o) = refl

-- one more argument begun is one added
pub added_one : (o : List Opened) → one_more_begun o ≡ added 1 o
added_one [] = refl
added_one (Arguments l m ∷ o) = refl
added_one (Terms ∷ o) = refl
added_one (Group ∷ o) = refl

-- arguments added one after the other are added together
pub added_twice : (m n : ℕ) (o : List Opened) → added n (added m o) ≡ added (m + n) o
added_twice m n [] = refl
added_twice m n (Arguments l k ∷ o) = ap (λ z. Arguments l z ∷ o) (omega arith)
added_twice m n (Terms ∷ o) = refl
added_twice m n (Group ∷ o) = refl

plain_token : (s : Scan) (k : Kind) → (is_opener k || is_closer k || is_comma k) ≡ false → opened_after s k ≡ s.opened
plain_token s LParen h = absurd (clash (sym h))
plain_token s LBracket h = absurd (clash (sym h))
plain_token s LBrace h = absurd (clash (sym h))
plain_token s RParen h = absurd (clash (sym h))
plain_token s RBracket h = absurd (clash (sym h))
plain_token s RBrace h = absurd (clash (sym h))
plain_token s Comma h = absurd (clash (sym h))
plain_token s _ h = refl

opens_one : (s : Scan) (k : Kind) → is_opener k ≡ true → (x : Opened) × (opened_after s k ≡ x ∷ s.opened)
opens_one s LParen h = (round_behind s.last, refl)
opens_one s LBracket h = (Terms, refl)
opens_one s LBrace h = (Group, refl)
opens_one s _ h = absurd (clash h)

closes_one : (s : Scan) (k : Kind) → is_closer k ≡ true → opened_after s k ≡ without_first s.opened
closes_one s RParen h = refl
closes_one s RBracket h = refl
closes_one s RBrace h = refl
closes_one s _ h = absurd (clash h)

without_added : (n : ℕ) (x : Opened) (o : List Opened) → without_first (added n (x ∷ o)) ≡ o
without_added n (Arguments l m) o = refl
without_added n Terms o = refl
without_added n Group o = refl

-- Balanced tokens count the arguments that begin in them, and leave all other brackets as they are.
pub balanced_scan : {n : ℕ} {w : List Kind} → Balanced n w → (s : Scan) → (scan_from s w).opened ≡ added n s.opened
balanced_scan empty s = sym (added_none s.opened)
balanced_scan (comma {n = n} {tokens = w} d) s =
    balanced_scan d (scan_after s Comma) ∙ ap (added n) (added_one s.opened) ∙ added_twice 1 n s.opened ∙ ap (λ z. added z s.opened) (omega arith)
balanced_scan (other k {n = n} d h) s = balanced_scan h (scan_after s k) ∙ ap (added n) (plain_token s k d)
balanced_scan (closed f l {m = m} {n = n} {inside = u} {behind = v} a b c d) s =
    let x = opens_one s f a in
    ap (λ z. z.opened) (scan_append (scan_after s f) u (l ∷ v))
    ∙ balanced_scan d (scan_after (scan_from (scan_after s f) u) l)
    ∙ ap (added n) (closes_one (scan_from (scan_after s f) u) l b ∙ ap without_first (balanced_scan c (scan_after s f) ∙ ap (added m) x.1) ∙ without_added m x.0 s.opened)

length_added : (n : ℕ) (o : List Opened) → length (added n o) ≡ length o
length_added n [] = refl
length_added n (Arguments l m ∷ o) = refl
length_added n (Terms ∷ o) = refl
length_added n (Group ∷ o) = refl

-- it has at least as many open brackets as are open
pub open_scan : {n : ℕ} {u : List Kind} → Open n u → n ≤ length (scan u).opened
open_scan none = omega arith
open_scan (one_more f {m = m} {n = n} {before = u} {inside = w} d h b) =
    let x = opens_one (scan u) f h in
    let e : length (scan (u ++ f ∷ w)).opened ≡ suc (length (scan u).opened) =
    ap (λ z. length z.opened) (scan_append scan_at_start u (f ∷ w)) ∙ ap length (balanced_scan b (scan_after (scan u) f)) ∙ length_added m _ ∙ ap length x.1 in
    omega (arith, e, open_scan d)

-- balanced tokens one after the other are balanced, with the commas of both
pub balanced_both : {m n : ℕ} {u v : List Kind} → Balanced m u → Balanced n v → Balanced (m + n) (u ++ v)
balanced_both {n = n} {v = v} empty b = let P : ℕ → Type 0 = λ z. Balanced z v in subst P (omega arith) b
balanced_both {n = n} {v = v} (comma {n = m} {tokens = w} d) b =
    let P : ℕ → Type 0 = λ z. Balanced z (Comma ∷ (w ++ v)) in subst P (omega arith) (comma (balanced_both d b))
balanced_both (other k h d) b = other k h (balanced_both d b)
balanced_both {n = n} {v = v} (closed f l {n = k} {inside = x} {behind = y} g h c d) b =
    let P : List Kind → Type 0 = λ z. Balanced (k + n) (f ∷ z) in
    subst P (sym (append_assoc x (l ∷ y) v)) (closed f l g h c (balanced_both d b))

-- The innermost bracket of a scan, where it stands, and what stands in it.
record Innermost (x : Opened) (o : List Opened) (u : List Kind) : Type 0 where
  pub front : List Kind
  pub first : Kind
  pub inside : List Kind
  pub commas : ℕ
  pub split : u ≡ front ++ first ∷ inside
  pub opens : is_opener first ≡ true
  pub balanced : Balanced commas inside
  pub state : x ∷ o ≡ added commas (opened_after (scan front) first)

abbrev Stacked : List Opened → List Kind → Type 0
Stacked [] u = Unit {0}
Stacked (x ∷ o) u = (i : Innermost x o u) × Stacked o i.front

longer_innermost : {m : ℕ} {w : List Kind} → Balanced m w → (x y : Opened) (o : List Opened) (u : List Kind) → (i : Innermost x o u) → Stacked o i.front → y ∷ o ≡ added m (x ∷ o) → Stacked (y ∷ o) (u ++ w)
longer_innermost {m} {w} b x y o u i t e = (
  record {
    front = i.front;
    first = i.first;
    inside = i.inside ++ w;
    commas = i.commas + m;
    split = ap (λ z. z ++ w) i.split ∙ append_assoc i.front (i.first ∷ i.inside) w;
    opens = i.opens;
    balanced = balanced_both i.balanced b;
    state = e ∙ ap (added m) i.state ∙ added_twice i.commas m _;
  },
  t,
)

longer : {m : ℕ} {w : List Kind} → Balanced m w → (o : List Opened) (u : List Kind) → Stacked o u → Stacked (added m o) (u ++ w)
longer b [] u h = tt
longer {m} b (Arguments l n ∷ o) u (i, t) = longer_innermost b (Arguments l n) (Arguments l (n + m)) o u i t refl
longer b (Terms ∷ o) u (i, t) = longer_innermost b Terms Terms o u i t refl
longer b (Group ∷ o) u (i, t) = longer_innermost b Group Group o u i t refl

stacked_same : {o p : List Opened} {u v : List Kind} → o ≡ p → u ≡ v → Stacked o u → Stacked p v
stacked_same {o} {p} {u} {v} e f h =
    let P : List Opened → Type 0 = λ z. Stacked z v in
    let Q : List Kind → Type 0 = λ z. Stacked o z in subst P e (subst Q f h)

opened_more : (u : List Kind) (k : Kind) → is_opener k ≡ true → Stacked (scan u).opened u → Stacked (opened_after (scan u) k) (u ++ k ∷ [])
opened_more u k h t =
    let x = opens_one (scan u) k h in
    stacked_same (sym x.1) refl (record { front = u; first = k; inside = []; commas = 0; split = refl; opens = h; balanced = empty; state = sym x.1 ∙ sym (added_none _) }, t)

closed_more : (u : List Kind) (k : Kind) → is_closer k ≡ true → (o : List Opened) → Stacked o u → Stacked (without_first o) (u ++ k ∷ [])
closed_more u k h [] t = tt
closed_more u k h (x ∷ o) (i, t) =
    stacked_same (added_none o) (sym (ap (λ z. z ++ k ∷ []) i.split ∙ append_assoc i.front (i.first ∷ i.inside) (k ∷ [])))
    (longer (closed i.first k i.opens h i.balanced empty) o i.front t)

stacked_more : (u : List Kind) (k : Kind) → Stacked (scan u).opened u → Stacked (opened_after (scan u) k) (u ++ k ∷ [])
stacked_more u LParen t = opened_more u LParen refl t
stacked_more u LBracket t = opened_more u LBracket refl t
stacked_more u LBrace t = opened_more u LBrace refl t
stacked_more u RParen t = closed_more u RParen refl (scan u).opened t
stacked_more u RBracket t = closed_more u RBracket refl (scan u).opened t
stacked_more u RBrace t = closed_more u RBrace refl (scan u).opened t
stacked_more u Comma t = stacked_same (sym (added_one (scan u).opened)) refl (longer (comma empty) (scan u).opened u t)
stacked_more u k t = stacked_same (added_none (scan u).opened) refl (longer (other k refl empty) (scan u).opened u t)

stacked : (u : List Kind) → Stacked (scan u).opened u
stacked u = from_left (λ u. Stacked (scan u).opened u) tt
    (λ u k t. stacked_same (ap (λ s. s.opened) (sym (scan_more u k))) refl (stacked_more u k t)) u

stacked_open : (n : ℕ) (o : List Opened) (u : List Kind) → Stacked o u → n ≤ length o → Open n u
stacked_open zero o u t h = none
stacked_open (suc n) [] u t h = absurd (omega (arith, h))
stacked_open (suc n) (x ∷ o) u (i, t) h =
    let P : List Kind → Type 0 = Open (suc n) in
    subst P (sym i.split) (one_more i.first (stacked_open n o i.front t (omega (arith, h))) i.opens i.balanced)

-- the scan has at most as many open brackets as are open
pub scan_open : (n : ℕ) (u : List Kind) → n ≤ length (scan u).opened → Open n u
scan_open n u h = stacked_open n (scan u).opened u (stacked u) h

-- Words, and what their arguments may be.
record Named (limit : ℕ) (u : List Kind) : Type 0 where
  pub front : List Kind
  pub word : Kind
  pub split : u ≡ front ++ word ∷ []
  pub is_word : IsAtomName front word
  pub most : limit ≡ limit_here (scan front)

same_some : (l m : ℕ) → Some l ≡ Some m → l ≡ m
same_some l m h = cc

-- the limit that the last token gives to arguments behind it
abbrev limit_of : Last → Option ℕ
limit_of (Word l) = Some l
limit_of (Digits l) = Some l
limit_of _ = None

is_named : (u : List Kind) (k : Kind) (l : ℕ) → IsAtomName u k → limit_of (last_after (scan u) k) ≡ Some (limit_here (scan u)) → limit_of (last_after (scan u) k) ≡ Some l → Named l (u ++ k ∷ [])
is_named u k l w e h = record { front = u; word = k; split = refl; is_word = w; most = same_some l (limit_here (scan u)) (sym h ∙ e) }

none_some : (l : ℕ) → None ≡ Some l → ⊥
none_some l h = cc

not_operator : (u : List Kind) (k : Kind) → may_be_operator k ≡ false → ¬ (IsOperator u k)
not_operator u k h o = clash (sym h ∙ o.0)

closed_limit : (o : List Opened) (l : ℕ) → limit_of (closed_by_round o) ≡ Some l → ⊥
closed_limit [] l h = none_some l h
closed_limit (Arguments a b ∷ o) l h = none_some l h
closed_limit (Terms ∷ o) l h = none_some l h
closed_limit (Group ∷ o) l h = none_some l h

mod_named : (u : List Kind) (l : ℕ) (b : Bool) → was_operand (scan u).last ≡ b → limit_of (if b then Other else Word (limit_here (scan u))) ≡ Some l → Named l (u ++ Mod ∷ [])
mod_named u l true e h = absurd (none_some l h)
mod_named u l false e h = record {
  front = u;
  word = Mod;
  split = refl;
  is_word = (refl, λ o. clash (sym e ∙ operand_scan u o.1));
  most = same_some l (limit_here (scan u)) (sym h);
}

named_more : (u : List Kind) (k : Kind) (l : ℕ) → limit_of (last_after (scan u) k) ≡ Some l → Named l (u ++ k ∷ [])
named_more u Name l h = is_named u Name l (refl, not_operator u Name refl) refl h
named_more u Quoted l h = is_named u Quoted l (refl, not_operator u Quoted refl) refl h
named_more u Int l h = is_named u Int l (refl, not_operator u Int refl) refl h
named_more u Mod l h = mod_named u l (was_operand (scan u).last) refl h
named_more u RParen l h = absurd (closed_limit (scan u).opened l h)
named_more u _ l h = absurd (none_some l h)

named : (u : List Kind) (l : ℕ) → limit_of (scan u).last ≡ Some l → Named l u
named u l = from_left (λ u. limit_of (scan u).last ≡ Some l → Named l u) (λ h. absurd (none_some l h))
    (λ u k i h. named_more u k l (ap (λ s. limit_of s.last) (sym (scan_more u k)) ∙ h)) u

mod_limit : (u : List Kind) (b : Bool) → was_operand (scan u).last ≡ b → ¬ (IsOperator u Mod) → limit_of (if b then Other else Word (limit_here (scan u))) ≡ Some (limit_here (scan u))
mod_limit u true e h = absurd (h (refl, scan_operand u e))
mod_limit u false e h = refl

word_limit : (u : List Kind) (k : Kind) → IsAtomName u k → limit_of (last_after (scan u) k) ≡ Some (limit_here (scan u))
word_limit u Name h = refl
word_limit u Quoted h = refl
word_limit u Int h = refl
word_limit u Mod h = mod_limit u (was_operand (scan u).last) refl h.1
word_limit u _ h = absurd (clash h.0)

-- Arguments.
round_of : (last : Last) (l : ℕ) → limit_of last ≡ Some l → round_behind last ≡ Arguments l 1
round_of (Word m) l h = ap (λ z. Arguments z 1) (same_some m l h)
round_of (Digits m) l h = ap (λ z. Arguments z 1) (same_some m l h)
round_of Equals l h = absurd (none_some l h)
round_of (Closed n) l h = absurd (none_some l h)
round_of Operand l h = absurd (none_some l h)
round_of Other l h = absurd (none_some l h)

word_plain : (s : Scan) (k : Kind) → may_be_atom_name k ≡ true → opened_after s k ≡ s.opened
word_plain s Name h = refl
word_plain s Quoted h = refl
word_plain s Mod h = refl
word_plain s Int h = refl
word_plain s _ h = absurd (clash h)

-- in an argument list it has the number of arguments that are begun
pub arguments_scan : {n : ℕ} {front u : List Kind} → InArguments front n u → (scan u).opened ≡ Arguments (limit_here (scan front)) n ∷ (scan front).opened
arguments_scan {front = f} (begun k {commas = n} {inside = w} h b) =
    let behind = scan_after (scan f) k in
    let opened : (scan_after behind LParen).opened ≡ Arguments (limit_here (scan f)) 1 ∷ (scan f).opened =
    ap (λ z. z ∷ opened_after (scan f) k) (round_of (last_after (scan f) k) _ (word_limit f k h)) ∙ ap (λ z. Arguments (limit_here (scan f)) 1 ∷ z) (word_plain (scan f) k h.0) in
    ap (λ z. z.opened) (scan_append scan_at_start f (k ∷ LParen ∷ w)) ∙ balanced_scan b (scan_after behind LParen) ∙ ap (added n) opened
    ∙ ap (λ z. Arguments (limit_here (scan f)) z ∷ (scan f).opened) (omega arith)

-- what the scan says of an innermost list of arguments
record Listed (limit n : ℕ) (u : List Kind) : Type 0 where
  pub front : List Kind
  pub is_in : InArguments front n u
  pub most : limit ≡ limit_here (scan front)

first_same : (l m n k : ℕ) (o p : List Opened) → Arguments l m ∷ o ≡ Arguments n k ∷ p → (l ≡ n) × (m ≡ k)
first_same l m n k o p h = (cc, cc)

listed_named : (l n m commas : ℕ) (o p : List Opened) (u front inside : List Kind) → u ≡ front ++ LParen ∷ inside → Balanced commas inside → Named m front →
    Arguments l n ∷ o ≡ added commas (Arguments m 1 ∷ p) → Listed l n u
listed_named l n m commas o p u front inside e b d h =
    let same = first_same l n m (1 + commas) o p h in
    let P : List Kind → Type 0 = InArguments d.front n in
    let Q : ℕ → Type 0 = λ z. InArguments d.front z (d.front ++ d.word ∷ LParen ∷ inside) in
    record {
      front = d.front;
      is_in = subst P (sym (append_assoc d.front (d.word ∷ []) (LParen ∷ inside)) ∙ ap (λ z. z ++ LParen ∷ inside) (sym d.split) ∙ sym e) (subst Q (omega (arith, same.1)) (begun d.word d.is_word b));
      most = same.0 ∙ d.most;
    }

apart_group : (l n commas : ℕ) (o p : List Opened) → Arguments l n ∷ o ≡ added commas (Group ∷ p) → ⊥
apart_group l n commas o p h = cc

apart_terms : (l n commas : ℕ) (o p : List Opened) → Arguments l n ∷ o ≡ added commas (Terms ∷ p) → ⊥
apart_terms l n commas o p h = cc

listed_round : (l n commas : ℕ) (o p : List Opened) (u front inside : List Kind) → u ≡ front ++ LParen ∷ inside → Balanced commas inside → (last : Last) → (scan front).last ≡ last →
    Arguments l n ∷ o ≡ added commas (round_behind last ∷ p) → Listed l n u
listed_round l n commas o p u front inside e b (Word m) f h = listed_named l n m commas o p u front inside e b (named front m (ap limit_of f)) h
listed_round l n commas o p u front inside e b (Digits m) f h = listed_named l n m commas o p u front inside e b (named front m (ap limit_of f)) h
listed_round l n commas o p u front inside e b Equals f h = absurd (apart_group l n commas o p h)
listed_round l n commas o p u front inside e b (Closed m) f h = absurd (apart_group l n commas o p h)
listed_round l n commas o p u front inside e b Operand f h = absurd (apart_group l n commas o p h)
listed_round l n commas o p u front inside e b Other f h = absurd (apart_group l n commas o p h)

listed_open : (l n commas : ℕ) (o : List Opened) (u front inside : List Kind) (k : Kind) → u ≡ front ++ k ∷ inside → is_opener k ≡ true → Balanced commas inside →
    Arguments l n ∷ o ≡ added commas (opened_after (scan front) k) → Listed l n u
listed_open l n commas o u front inside LParen e i b h = listed_round l n commas o (scan front).opened u front inside e b (scan front).last refl h
listed_open l n commas o u front inside LBracket e i b h = absurd (apart_terms l n commas o (scan front).opened h)
listed_open l n commas o u front inside LBrace e i b h = absurd (apart_group l n commas o (scan front).opened h)
listed_open l n commas o u front inside _ e i b h = absurd (clash i)

scan_arguments : (l n : ℕ) (o : List Opened) (u : List Kind) → (scan u).opened ≡ Arguments l n ∷ o → Listed l n u
scan_arguments l n o u e =
    let P : List Opened → Type 0 = λ z. Stacked z u in
    let i = (subst P e (stacked u)).0 in
    listed_open l n i.commas o u i.front i.inside i.first i.split i.opens i.balanced i.state

-- Terms.
not_terms : (commas : ℕ) (o p : List Opened) → Terms ∷ o ≡ added commas (Group ∷ p) → ⊥
not_terms commas o p h = cc

not_terms_arguments : (commas l : ℕ) (o p : List Opened) → Terms ∷ o ≡ added commas (Arguments l 1 ∷ p) → ⊥
not_terms_arguments commas l o p h = cc

terms_round : (commas : ℕ) (o p : List Opened) (last : Last) → Terms ∷ o ≡ added commas (round_behind last ∷ p) → ⊥
terms_round commas o p (Word l) h = not_terms_arguments commas l o p h
terms_round commas o p (Digits l) h = not_terms_arguments commas l o p h
terms_round commas o p Equals h = not_terms commas o p h
terms_round commas o p (Closed n) h = not_terms commas o p h
terms_round commas o p Operand h = not_terms commas o p h
terms_round commas o p Other h = not_terms commas o p h

terms_open : (commas : ℕ) (o : List Opened) (u front inside : List Kind) (k : Kind) → u ≡ front ++ k ∷ inside → is_opener k ≡ true → Balanced commas inside →
    Terms ∷ o ≡ added commas (opened_after (scan front) k) → TermNext u
terms_open commas o u front inside LBracket e i b h = let P : List Kind → Type 0 = TermNext in subst P (sym e) (in_list front b)
terms_open commas o u front inside LParen e i b h = absurd (terms_round commas o (scan front).opened (scan front).last h)
terms_open commas o u front inside LBrace e i b h = absurd (not_terms commas o (scan front).opened h)
terms_open commas o u front inside _ e i b h = absurd (clash i)

-- what stands innermost, and what it says of the next atom
inner_term : (o : List Opened) (u : List Kind) → (scan u).opened ≡ o → (limit_in o ≡ most_arguments) ⊎ ((limit_in o ≡ most_term_arguments) × TermNext u)
inner_term [] u e = inl refl
inner_term (Arguments l n ∷ o) u e = inr (refl, in_arguments (scan_arguments l n o u e).is_in)
inner_term (Terms ∷ o) u e =
    let P : List Opened → Type 0 = λ z. Stacked z u in
    let i = (subst P e (stacked u)).0 in
    inr (refl, terms_open i.commas o u i.front i.inside i.first i.split i.opens i.balanced i.state)
inner_term (Group ∷ o) u e = inl refl

mod_equals : (b : Bool) (l : ℕ) → is_equals_last (if b then Other else Word l) ≡ false
mod_equals true l = refl
mod_equals false l = refl

closed_equals : (o : List Opened) → is_equals_last (closed_by_round o) ≡ false
closed_equals [] = refl
closed_equals (Arguments l n ∷ o) = refl
closed_equals (Terms ∷ o) = refl
closed_equals (Group ∷ o) = refl

equals_only : (s : Scan) (k : Kind) → is_equals_last (last_after s k) ≡ true → k ≡ Equal
equals_only s Equal h = refl
equals_only s Mod h = absurd (clash (sym (mod_equals (was_operand s.last) (limit_here s)) ∙ h))
equals_only s RParen h = absurd (clash (sym (closed_equals s.opened) ∙ h))
equals_only s _ h = absurd (clash h)

behind_equals : (u : List Kind) → is_equals_last (scan u).last ≡ true → TermNext u
behind_equals u = from_left (λ u. is_equals_last (scan u).last ≡ true → TermNext u) (λ h. absurd (clash h))
    (λ u k i h. let P : Kind → Type 0 = λ z. TermNext (u ++ z ∷ []) in
    subst P (sym (equals_only (scan u) k (ap (λ s. is_equals_last s.last) (sym (scan_more u k)) ∙ h))) (behind_equal u)) u

-- an atom that begins here is a term exactly where its limit is that of terms
pub term_limit : (u : List Kind) → (limit_here (scan u) ≡ most_arguments) ⊎ ((limit_here (scan u) ≡ most_term_arguments) × TermNext u)
term_limit u = by_last (scan u).last refl
  where
    inner : (last : Last) → (scan u).last ≡ last → limit_behind last (scan u).opened ≡ limit_in (scan u).opened → (limit_here (scan u) ≡ most_arguments) ⊎ ((limit_here (scan u) ≡ most_term_arguments) × TermNext u)
    inner last e i = let same : limit_here (scan u) ≡ limit_in (scan u).opened = ap (λ l. limit_behind l (scan u).opened) e ∙ i in
        elim (inner_term (scan u).opened u refl) [ inl h ↦ inl (same ∙ h) | inr h ↦ inr (same ∙ h.0, h.1) ]

    by_last : (last : Last) → (scan u).last ≡ last → (limit_here (scan u) ≡ most_arguments) ⊎ ((limit_here (scan u) ≡ most_term_arguments) × TermNext u)
    by_last Equals e = inr (ap (λ l. limit_behind l (scan u).opened) e, behind_equals u (ap is_equals_last e))
    by_last (Word l) e = inner (Word l) e refl
    by_last (Digits l) e = inner (Digits l) e refl
    by_last (Closed n) e = inner (Closed n) e refl
    by_last Operand e = inner Operand e refl
    by_last Other e = inner Other e refl

inside_term : (last : Last) (o : List Opened) → limit_in o ≡ most_term_arguments → limit_behind last o ≡ most_term_arguments
inside_term Equals o h = refl
inside_term (Word l) o h = h
inside_term (Digits l) o h = h
inside_term (Closed n) o h = h
inside_term Operand o h = h
inside_term Other o h = h

-- where a term comes next it has the limit of a term
pub term_scan : {u : List Kind} → TermNext u → limit_here (scan u) ≡ most_term_arguments
term_scan (behind_equal u) = ap limit_here (scan_more u Equal)
term_scan {u} (in_arguments d) = inside_term (scan u).last (scan u).opened (ap limit_in (arguments_scan d))
term_scan {u} (in_list f {n = n} {inside = w} b) =
    inside_term (scan u).last (scan u).opened (ap (λ s. limit_in s.opened) (scan_append scan_at_start f (LBracket ∷ w)) ∙ ap limit_in (balanced_scan b (scan_after (scan f) LBracket)))

is_at_most : (n m : ℕ) → nat_le n m ≡ true → n ≤ m
is_at_most n m h = grind arith

abbrev many : List Kind → Kind → Bool
many u k = has_too_many (scan u).opened || (is_equal k && is_full (scan u).last)

more_than : {n : ℕ} {front u : List Kind} (k : Kind) → InArguments front n u → limit_here (scan front) < n → many u k ≡ true
more_than {n} {front} {u} k d h =
    or_left (has_too_many (scan u).opened) (is_equal k && is_full (scan u).last) (ap has_too_many (arguments_scan d) ∙ lower (limit_here (scan front)) n h)

-- the scan sees each argument too many
pub many_scan : {u : List Kind} {k : Kind} → TooManyArguments u k → many u k ≡ true
many_scan {k = k} (of_any {front = f} d h) = more_than k d (elim (term_limit f) [ inl e ↦ omega (arith, e, h) | inr e ↦ omega (arith, e.0, h) ])
many_scan {k = k} (of_term {front = f} d t h) = more_than k d (let e = term_scan t in omega (arith, e, h))
many_scan (left_of_equal {n = n} {before = u} d h) =
    or_right (has_too_many (scan (u ++ RParen ∷ [])).opened) (is_full (scan (u ++ RParen ∷ [])).last)
    (ap (λ s. is_full s.last) (scan_more u RParen) ∙ ap (λ o. is_full (closed_by_round o)) (arguments_scan d) ∙ at_most most_arguments n (omega (arith, h)))

equal_only : (k : Kind) → is_equal k ≡ true → k ≡ Equal
equal_only Equal h = refl
equal_only _ h = absurd (clash h)

begun_too_many : (u : List Kind) (k : Kind) (o : List Opened) → (scan u).opened ≡ o → has_too_many o ≡ true → TooManyArguments u k
begun_too_many u k [] e h = absurd (clash h)
begun_too_many u k (Arguments l n ∷ o) e h =
    let d = scan_arguments l n o u e in
    let lt = is_lower l n h in
    elim (term_limit d.front) [ inl f ↦ of_any d.is_in (omega (arith, f, lt, d.most)) | inr f ↦ of_term d.is_in f.1 (let f0 = f.0 in omega (arith, f0, lt, d.most)) ]
begun_too_many u k (Terms ∷ o) e h = absurd (clash h)
begun_too_many u k (Group ∷ o) e h = absurd (clash h)

mod_full : (b : Bool) (l : ℕ) → is_full (if b then Other else Word l) ≡ false
mod_full true l = refl
mod_full false l = refl

full_round : (u : List Kind) (o : List Opened) → (scan u).opened ≡ o → is_full (closed_by_round o) ≡ true → TooManyArguments (u ++ RParen ∷ []) Equal
full_round u [] e h = absurd (clash h)
full_round u (Arguments l n ∷ o) e h = let le = is_at_most most_arguments n h in left_of_equal (scan_arguments l n o u e).is_in (omega (arith, le))
full_round u (Terms ∷ o) e h = absurd (clash h)
full_round u (Group ∷ o) e h = absurd (clash h)

full_more : (u : List Kind) (k : Kind) → is_full (last_after (scan u) k) ≡ true → TooManyArguments (u ++ k ∷ []) Equal
full_more u RParen h = full_round u (scan u).opened refl h
full_more u Mod h = absurd (clash (sym (mod_full (was_operand (scan u).last) (limit_here (scan u))) ∙ h))
full_more u _ h = absurd (clash h)

full : (u : List Kind) → is_full (scan u).last ≡ true → TooManyArguments u Equal
full u = from_left (λ u. is_full (scan u).last ≡ true → TooManyArguments u Equal) (λ h. absurd (clash h))
    (λ u k i h. full_more u k (ap (λ s. is_full s.last) (sym (scan_more u k)) ∙ h)) u

-- what it takes for an argument too many is one
pub scan_many : (u : List Kind) (k : Kind) → many u k ≡ true → TooManyArguments u k
scan_many u k h = elim (or_true (has_too_many (scan u).opened) (is_equal k && is_full (scan u).last) h) [
  | inl a ↦ begun_too_many u k (scan u).opened refl a
  | inr a ↦ let b = and_true (is_equal k) (is_full (scan u).last) a in let P : Kind → Type 0 = TooManyArguments u in subst P (sym (equal_only k b.0)) (full u b.1)
]

-- Too deep.
pub deep_scan : (u : List Kind) (k : Kind) → TooDeep u k → is_too_deep (scan u) k ≡ true
deep_scan u k (inl (h, o)) =
    or_left (is_opener k && nat_le most_brackets (length (scan u).opened)) (is_operator (scan u) k && nat_le most_operators (scan u).operators)
    (and_from (is_opener k) (nat_le most_brackets (length (scan u).opened)) h (at_most most_brackets (length (scan u).opened) (open_scan o)))
deep_scan u k (inr (h, d)) =
    or_right (is_opener k && nat_le most_brackets (length (scan u).opened)) (is_operator (scan u) k && nat_le most_operators (scan u).operators)
    (and_from (is_operator (scan u) k) (nat_le most_operators (scan u).operators) (operator_scan u k h) (at_most most_operators (scan u).operators (side_scan d)))

-- what it takes for too deep is so
pub scan_deep : (u : List Kind) (k : Kind) → is_too_deep (scan u) k ≡ true → TooDeep u k
scan_deep u k h = elim (or_true (is_opener k && nat_le most_brackets (length (scan u).opened)) (is_operator (scan u) k && nat_le most_operators (scan u).operators) h) [
  | inl a ↦ let b = and_true (is_opener k) (nat_le most_brackets (length (scan u).opened)) a in inl (b.0, scan_open most_brackets u (is_at_most most_brackets (length (scan u).opened) b.1))
  | inr a ↦ let b = and_true (is_operator (scan u) k) (nat_le most_operators (scan u).operators) a in
      inr (scan_operator u k b.0, side_less (scan_side u) most_operators (is_at_most most_operators (scan u).operators b.1))
]

-- The answer of the scan.
abbrev answer : Bool → Bool → Option ℕ
answer deep many = if deep then Some 11 else if many then Some 12 else None

answered : (u : List Kind) (k : Kind) (c : ℕ) (a b : Bool) → is_too_deep (scan u) k ≡ a → many u k ≡ b → answer a b ≡ Some c → Passes c u k
answered u k c true b d m h = inl (sym (same_some 11 c h), scan_deep u k d)
answered u k c false true d m h = inr (sym (same_some 12 c h), (λ t. clash (sym d ∙ deep_scan u k t)), scan_many u k m)
answered u k c false false d m h = absurd (none_some c h)

-- what the scan says passes a limit passes it
pub scan_passes : (u : List Kind) (k : Kind) (c : ℕ) → passes (scan u) k ≡ Some c → Passes c u k
scan_passes u k c h = answered u k c (is_too_deep (scan u) k) (many u k) refl refl h

nothing_passes : (u : List Kind) (k : Kind) (a b : Bool) → is_too_deep (scan u) k ≡ a → many u k ≡ b → answer a b ≡ None → PassesNone u k
nothing_passes u k true b d m h = absurd (none_some 11 (sym h))
nothing_passes u k false true d m h = absurd (none_some 12 (sym h))
nothing_passes u k false false d m h = ((λ t. clash (sym d ∙ deep_scan u k t)), λ t. clash (sym m ∙ many_scan t))

-- where it names no code the token passes none
pub scan_none : (u : List Kind) (k : Kind) → passes (scan u) k ≡ None → PassesNone u k
scan_none u k h = nothing_passes u k (is_too_deep (scan u) k) (many u k) refl refl h
