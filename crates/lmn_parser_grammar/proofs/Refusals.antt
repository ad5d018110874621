-- Refusals: there is one at most, and where reading stops is one.
use Rattle.std.proofs.Common.{◌≡◌, ℕ, suc, ◌+◌, ◌<◌, ◌≤◌, List, [], ◌∷◌, ◌++◌, length, drop, take, slice_get, Some, refl, sym, ◌∙◌, ap, arith, subst, inl, inr, append_assoc, length-append}
use Rattle.std.proofs.lemmas.Bool.{cases_lt}
use Rattle.lmn_parser_grammar.specs.Grammar.{program, Derives}
use Rattle.lmn_parser_grammar.specs.Reading.{Owed, stop, stop_at}
use Rattle.lmn_parser_grammar.specs.Limits.{Passes, PassesNone}
use Rattle.lmn_parser_grammar.specs.Refusing.{BeginsProgram, IsWithin, Refuses, IsRefused}
use Rattle.lmn_parser_grammar.specs.Laws.{OneRefusedPlace, RefusedDeriveNothing}
use Rattle.lmn_lexer.specs.declared.token.Kind.{Kind}
use Rattle.lmn_parser_grammar.proofs.Theory.{Found, cons_same}
use Rattle.lmn_parser_grammar.proofs.Tells.{Tells, tells, one_alive, found_one, one_found, longer_front}
use Rattle.lmn_parser_grammar.proofs.Scans.{within_front, take_more, cut_at, length_take}
use Rattle.lmn_parser_grammar.proofs.Spans.{append_same}
use Rattle.lmn_base.proofs.Lists.{plus_nothing}

-- what is owed at the front of a text
abbrev pub start : List Owed
start = (program ∷ []) ∷ []

-- A word of a program.
derived : (w : List Kind) → Found start w → Derives program w
derived w f = let d = found_one (program ∷ []) w f in
    let D : List Kind → Type 0 = Derives program in
    subst D (sym (plus_nothing d.0) ∙ ap (λ z. d.0 ++ z) (sym d.4) ∙ sym d.2) d.3

started : (w : List Kind) → Derives program w → Found start w
started w d = one_found (program ∷ []) w (w, [], sym (plus_nothing w), d, refl)

-- of any language

-- A front of what begins a program begins one.
pub begins_front : (P : List Kind → Type 0) (u v : List Kind) → BeginsProgram P (u ++ v) → BeginsProgram P u
begins_front P u v (rest, d) = (v ++ rest, subst P (append_assoc u v rest) d)

-- the same tokens begin a program
pub begins_same : (P : List Kind → Type 0) (u v : List Kind) → u ≡ v → BeginsProgram P u → BeginsProgram P v
begins_same P u v e b = let B : List Kind → Type 0 = BeginsProgram P in subst B e b

-- What reading takes begins a program, and with one more token it doesn't.
pub taken_begins : (w : List Kind) (r : ℕ) (t : Tells start 0 w r) → BeginsProgram (Derives program) t.taken
taken_begins w r t = (t.rest, derived (t.taken ++ t.rest) t.goes_on)

-- with the token at which reading stops no program begins
pub no_more_begins : (w : List Kind) (r : ℕ) (t : Tells start 0 w r) (x : Kind) (v : List Kind) → t.left ≡ x ∷ v → BeginsProgram (Derives program) (t.taken ++ x ∷ []) → ⊥
no_more_begins w r t x v e (rest, d) =
    let D : List Kind → Type 0 = Derives program in
    t.no_farther x v e rest (started (t.taken ++ x ∷ rest) (subst D (append_assoc t.taken (x ∷ []) rest) d))

-- two fronts of one length
pub same_front : (u v u' v' : List Kind) → u ++ v ≡ u' ++ v' → length u ≡ length u' → u ≡ u'
same_front u v u' v' e l =
    let le : length u ≤ length u' = omega (arith, l) in
    let x = longer_front u v u' v' e le in
    let n : length x.0 ≡ 0 = omega (arith, l, ap length x.1 ∙ length-append u x.0) in
    sym (plus_nothing u) ∙ ap (λ z. u ++ z) (sym (empty x.0 n)) ∙ sym x.1
  where
    empty : (x : List Kind) → length x ≡ 0 → x ≡ []
    empty [] h = refl
    empty (a ∷ x) h = cc

-- what reading takes to the end begins a program
pub all_begins : (u : List Kind) → stop 0 start u ≡ length u → BeginsProgram (Derives program) u
all_begins u s =
    let P : ℕ → Type 0 = Tells start 0 u in
    let t = subst P s (tells u 0 start (one_alive (program ∷ []))) in
    let same : t.taken ≡ u = same_front t.taken t.left u [] (sym t.split ∙ sym (plus_nothing u)) (omega (arith, t.count)) in
    begins_same (Derives program) t.taken u same (taken_begins u (length u) t)

-- a refusal comes at no token that is followed by more within the limits
stays : (P : List Kind → Type 0) (before : List Kind) (token : Kind) (c : ℕ) → Refuses P c before token → BeginsProgram P (before ++ token ∷ []) → PassesNone before token → ⊥
stays P before token c (inl r) b n = r.1 b
stays P before token c (inr (b0, inl d)) b n = n.0 d.1
stays P before token c (inr (b0, inr m)) b n = n.1 m.2

refused_not_before : (P : List Kind → Type 0) (kinds : List Kind) (p q c d : ℕ) → IsRefused P kinds p c → IsRefused P kinds q d → p < q → ⊥
refused_not_before P kinds p q c d a b lt =
    let size : length (a.before ++ a.token ∷ []) ≡ length a.before + 1 = length-append a.before (a.token ∷ []) in
    let le : length (a.before ++ a.token ∷ []) ≤ length b.before = omega (arith, size, a.is_there, b.is_there, lt) in
    let x = longer_front (a.before ++ a.token ∷ []) a.rest b.before (b.token ∷ b.rest) (append_assoc a.before (a.token ∷ []) a.rest ∙ sym a.split ∙ b.split) le in
    stays P a.before a.token c a.refuses
    (begins_front P (a.before ++ a.token ∷ []) x.0 (begins_same P b.before _ x.1 b.begins))
    (b.within a.before a.token x.0 (x.1 ∙ append_assoc a.before (a.token ∷ []) x.0))

one_code : (P : List Kind → Type 0) (before : List Kind) (token : Kind) (c d : ℕ) → Refuses P c before token → Refuses P d before token → c ≡ d
one_code P before token c d (inl a) (inl b) = a.0 ∙ sym b.0
one_code P before token c d (inl a) (inr b) = absurd (a.1 b.0)
one_code P before token c d (inr a) (inl b) = absurd (b.1 a.0)
one_code P before token c d (inr a) (inr b) = one_limit a.1 b.1
  where
    one_limit : Passes c before token → Passes d before token → c ≡ d
    one_limit (inl x) (inl y) = x.0 ∙ sym y.0
    one_limit (inl x) (inr y) = absurd (y.1 x.1)
    one_limit (inr x) (inl y) = absurd (x.1 y.1)
    one_limit (inr x) (inr y) = x.0 ∙ sym y.0

refuses_along : (P : List Kind → Type 0) (u u' : List Kind) (t t' : Kind) (c : ℕ) → u ≡ u' → t ≡ t' → Refuses P c u t → Refuses P c u' t'
refuses_along P u u' t t' c e e' r =
    let U : List Kind → Type 0 = λ z. Refuses P c z t in
    let T : Kind → Type 0 = λ z. Refuses P c u' z in
    subst T e' (subst U e r)

-- a list of kinds is refused at one place and by one code at most
pub refused_once : (P : List Kind → Type 0) (kinds : List Kind) (p q c d : ℕ) → IsRefused P kinds p c → IsRefused P kinds q d → (p ≡ q) × (c ≡ d)
refused_once P kinds p q c d a b = (place, code)
  where
    place : p ≡ q
    place = elim (cases_lt p q) [
      | inl lt ↦ absurd (refused_not_before P kinds p q c d a b lt)
      | inr le ↦ elim (cases_lt q p) [ inl lt ↦ absurd (refused_not_before P kinds q p d c b a lt) | inr le' ↦ omega (arith, le, le') ]
    ]

    before : a.before ≡ b.before
    before = same_front a.before (a.token ∷ a.rest) b.before (b.token ∷ b.rest) (sym a.split ∙ b.split) (omega (arith, a.is_there, b.is_there, place))

    behind : a.token ∷ a.rest ≡ b.token ∷ b.rest
    behind = append_same b.before (a.token ∷ a.rest) (b.token ∷ b.rest) (ap (λ z. z ++ a.token ∷ a.rest) (sym before) ∙ sym a.split ∙ b.split)

    code : c ≡ d
    code = one_code P b.before b.token c d (refuses_along P a.before b.before a.token b.token c before (cons_same a.token b.token a.rest b.rest behind).0 a.refuses) b.refuses

-- what is refused is no program within the limits
pub refused_is_none : (P : List Kind → Type 0) (kinds : List Kind) (p c : ℕ) → IsRefused P kinds p c → P kinds → IsWithin kinds → ⊥
refused_is_none P kinds p c r d w =
    stays P r.before r.token c r.refuses (r.rest, subst P (r.split ∙ sym (append_assoc r.before (r.token ∷ []) r.rest)) d) (w r.before r.token r.rest r.split)

-- Two languages with the same programs refuse the same.
refuses_alike : (P Q : List Kind → Type 0) → ((u : List Kind) → P u → Q u) → ((u : List Kind) → Q u → P u) → (c : ℕ) (before : List Kind) (token : Kind) → Refuses P c before token → Refuses Q c before token
refuses_alike P Q to from c before token (inl r) = inl (r.0, λ b. r.1 (b.0, from _ b.1))
refuses_alike P Q to from c before token (inr (b, passes)) = inr ((b.0, to _ b.1), passes)

-- two languages with the same programs refuse alike
pub refused_alike : (P Q : List Kind → Type 0) → ((u : List Kind) → P u → Q u) → ((u : List Kind) → Q u → P u) → (kinds : List Kind) (p c : ℕ) → IsRefused P kinds p c → IsRefused Q kinds p c
refused_alike P Q to from kinds p c r = record {
  before = r.before;
  token = r.token;
  rest = r.rest;
  split = r.split;
  is_there = r.is_there;
  begins = let b = r.begins in (b.0, to _ b.1);
  within = r.within;
  refuses = refuses_alike P Q to from c r.before r.token r.refuses;
}

-- of the grammar

-- tokens are refused at one place and by one code at most
pub one_refusal : OneRefusedPlace
one_refusal = refused_once (Derives program)

-- what is refused derives no program within the limits
pub refused_derive_nothing : RefusedDeriveNothing
refused_derive_nothing = refused_is_none (Derives program)

-- Where reading stops within the limits, the token there isn't expected.
pub refused_unexpected : (cut more : List Kind) (j : ℕ) → stop 0 start cut ≡ j → j < length cut → ((u v : List Kind) → cut ≡ u ++ v → length u ≡ j → IsWithin u) → IsRefused (Derives program) (cut ++ more) j 10
refused_unexpected cut more j s lt w =
    let P : ℕ → Type 0 = Tells start 0 cut in
    go (subst P s (tells cut 0 start (one_alive (program ∷ []))))
  where
    none_left : (u : List Kind) → cut ≡ u ++ [] → j ≡ 0 + length u → ⊥
    none_left u e c = let l : length cut ≡ length u + 0 = ap length e ∙ length-append u [] in omega (arith, l, c, lt)

    go : Tells start 0 cut j → IsRefused (Derives program) (cut ++ more) j 10
    go t = by_left t.left refl
      where
        by_left : (v : List Kind) → t.left ≡ v → IsRefused (Derives program) (cut ++ more) j 10
        by_left [] e = absurd (none_left t.taken (t.split ∙ ap (λ z. t.taken ++ z) e) t.count)
        by_left (x ∷ v) e = record {
          before = t.taken;
          token = x;
          rest = v ++ more;
          split = ap (λ z. z ++ more) (t.split ∙ ap (λ z. t.taken ++ z) e) ∙ append_assoc t.taken (x ∷ v) more;
          is_there = omega (arith, t.count);
          begins = taken_begins cut j t;
          within = w t.taken t.left t.split (omega (arith, t.count));
          refuses = inl (refl, no_more_begins cut j t x v e);
        }

-- All tokens are within the limits.
pub refused_plain : (kinds : List Kind) (j : ℕ) → IsWithin kinds → stop_at kinds 0 start ≡ j → j < length kinds → IsRefused (Derives program) kinds j 10
refused_plain kinds j w s lt =
    let R : List Kind → Type 0 = λ z. IsRefused (Derives program) z j 10 in
    let W : List Kind → Type 0 = IsWithin in
    subst R (plus_nothing kinds) (refused_unexpected kinds [] j s lt (λ u v e l. within_front u v (subst W e w)))

-- The first token that passes a limit has the number m, and reading stops before it or at it.
pub refused_before_limit : (kinds : List Kind) (m j : ℕ) (token : Kind) → slice_get kinds m ≡ Some token → IsWithin (take m kinds) →
    stop_at (take (m + 1) kinds) 0 start ≡ j → j ≤ m → IsRefused (Derives program) kinds j 10
refused_before_limit kinds m j token h w s le =
    let cut = take m kinds ++ token ∷ [] in
    let more = drop (suc m) kinds in
    let R : List Kind → Type 0 = λ z. IsRefused (Derives program) z j 10 in
    let size : length cut ≡ length (take m kinds) + 1 = length-append (take m kinds) (token ∷ []) in
    let len : length (take m kinds) ≡ m = length_take kinds m token h in
    subst R (append_assoc (take m kinds) (token ∷ []) more ∙ sym (cut_at kinds m token h))
    (refused_unexpected cut more j (ap (stop 0 start) (sym (take_more kinds m token h)) ∙ s) (omega (arith, size, len, le)) (front len))
  where
    front : length (take m kinds) ≡ m → (u v : List Kind) → take m kinds ++ token ∷ [] ≡ u ++ v → length u ≡ j → IsWithin u
    front len u v e l =
        let x = longer_front u v (take m kinds) (token ∷ []) (sym e) (omega (arith, len, l, le)) in
        let W : List Kind → Type 0 = IsWithin in
        within_front u x.0 (subst W x.1 w)

-- The first token that passes a limit is taken by reading.
pub refused_by_limit : (kinds : List Kind) (m code : ℕ) (token : Kind) → slice_get kinds m ≡ Some token → IsWithin (take m kinds) →
    Passes code (take m kinds) token → stop_at (take (m + 1) kinds) 0 start ≡ m + 1 → IsRefused (Derives program) kinds m code
refused_by_limit kinds m code token h w c s =
    let before = take m kinds in
    let len : length before ≡ m = length_take kinds m token h in
    let size : length (before ++ token ∷ []) ≡ length before + 1 = length-append before (token ∷ []) in
    let all : BeginsProgram (Derives program) (before ++ token ∷ []) = all_begins (before ++ token ∷ []) (ap (stop 0 start) (sym (take_more kinds m token h)) ∙ s ∙ omega (arith, size, len)) in
    record {
      before = before;
      token = token;
      rest = drop (suc m) kinds;
      split = cut_at kinds m token h;
      is_there = sym len;
      begins = begins_front (Derives program) before (token ∷ []) all;
      within = w;
      refuses = inr (all, c);
    }
