-- A list that ends with 'End' derives a program within the limits, or is refused.
use Rattle.std.proofs.Common.{◌≡◌, ℕ, suc, ◌+◌, ◌<◌, ◌≤◌, Bool, true, false, ◌&&◌, List, [], ◌∷◌, ◌++◌, length, refl, sym, ◌∙◌, ap, arith, subst, ◌⊎◌, inl, inr, append_assoc, length-append}
use Rattle.std.proofs.lemmas.Bool.{cases_lt}
use Rattle.lmn_parser_grammar.specs.Grammar.{Exp, Tok, Seq, Alt, Opt, Many, Within, Ref, Bracket, Round, Square, Curly, opener, closer, Part, TermPart, SumPart, ClausePart, ClausesPart, part_expression, Derives, here, both, left, right, without, with, no_more, one_more, inside, by, program}
use Rattle.lmn_parser_grammar.specs.Reading.{is_kind}
use Rattle.lmn_parser_grammar.specs.Refusing.{BeginsProgram, IsWithin, IsRefused}
use Rattle.lmn_parser_grammar.specs.Laws.{DerivedOrRefused}
use Rattle.lmn_lexer.specs.declared.token.Kind.{Kind}
use Rattle.lmn_lexer.specs.declared.token.Kind.TheVariants.{End}
use Rattle.lmn_parser_grammar.proofs.Theory.{of_tok}
use Rattle.lmn_parser_grammar.proofs.SameLanguage.{seq_parts}
use Rattle.lmn_parser_grammar.proofs.Tells.{Tells, tells, one_alive, longer_front, last_split}
use Rattle.lmn_parser_grammar.proofs.Scans.{within_front, first_passing, FirstPassing}
use Rattle.lmn_parser_grammar.proofs.Refusals.{start, begins_front, begins_same, taken_begins, no_more_begins}
use Rattle.lmn_base.proofs.Lists.{plus_nothing}
use Rattle.lmn_base.proofs.Truth.{and_true, false_not_true as clash}
use Rattle.lmn_parser_grammar.proofs.Arguments.{flipped as not_end}

-- 'End' stands nowhere in the words of clauses.
abbrev lacks_end : Exp → Bool
lacks_end (Tok k) = elim (is_kind End k) [ true ↦ false | false ↦ true ]
lacks_end (Seq a b) = lacks_end a && lacks_end b
lacks_end (Alt a b) = lacks_end a && lacks_end b
lacks_end (Opt a) = lacks_end a
lacks_end (Many a) = lacks_end a
lacks_end (Within b a) = lacks_end a
lacks_end (Ref m) = true

meaning_lacks : (m : Part) → lacks_end (part_expression m) ≡ true
meaning_lacks TermPart = refl
meaning_lacks SumPart = refl
meaning_lacks ClausePart = refl
meaning_lacks ClausesPart = refl

abbrev NoEnd : List Kind → Type 0
NoEnd [] = Unit {0}
NoEnd (t ∷ u) = (is_kind End t ≡ false) × NoEnd u

no_end_both : (u v : List Kind) → NoEnd u → NoEnd v → NoEnd (u ++ v)
no_end_both [] v a b = b
no_end_both (t ∷ u) v a b = (a.0, no_end_both u v a.1 b)

no_end_along : (u v : List Kind) → u ≡ v → NoEnd v → NoEnd u
no_end_along u v e h = let N : List Kind → Type 0 = NoEnd in subst N (sym e) h

in_brackets : (b : Bracket) (u : List Kind) → NoEnd u → NoEnd (opener b ∷ (u ++ closer b ∷ []))
in_brackets Round u h = (refl, no_end_both u _ h (refl, tt))
in_brackets Square u h = (refl, no_end_both u _ h (refl, tt))
in_brackets Curly u h = (refl, no_end_both u _ h (refl, tt))

no_end : (e : Exp) (u : List Kind) → Derives e u → lacks_end e ≡ true → NoEnd u
no_end _ _ (here k) h = (not_end (is_kind End k) h, tt)
no_end _ _ (both a b x y w e da db) h = let c = and_true (lacks_end a) (lacks_end b) h in no_end_along w (x ++ y) e (no_end_both x y (no_end a x da c.0) (no_end b y db c.1))
no_end _ _ (left a b w d) h = no_end a w d (and_true (lacks_end a) (lacks_end b) h).0
no_end _ _ (right a b w d) h = no_end b w d (and_true (lacks_end a) (lacks_end b) h).1
no_end _ _ (without a) h = tt
no_end _ _ (with a w d) h = no_end a w d h
no_end _ _ (no_more a) h = tt
no_end _ _ (one_more a x y w e da dm) h = no_end_along w (x ++ y) e (no_end_both x y (no_end a x da h) (no_end (Many a) y dm h))
no_end _ _ (inside b a x w e d) h = no_end_along w _ e (in_brackets b x (no_end a x d h))
no_end _ _ (by m w d) h = no_end (part_expression m) w d (meaning_lacks m)

end_inside : (u y : List Kind) → NoEnd (u ++ End ∷ y) → ⊥
end_inside [] y h = clash (sym h.0)
end_inside (t ∷ u) y h = end_inside u y h.1

-- what begins a program and ends with 'End' is one
pub begun_to_end : (u : List Kind) → BeginsProgram (Derives program) (u ++ End ∷ []) → Derives program (u ++ End ∷ [])
begun_to_end u (rest, d) =
    let s = seq_parts (Ref ClausesPart) (Tok End) ((u ++ End ∷ []) ++ rest) d in
    let e : s.0 ++ End ∷ [] ≡ u ++ End ∷ rest = ap (λ z. s.0 ++ z) (sym (of_tok End s.1 s.4)) ∙ sym s.2 ∙ append_assoc u (End ∷ []) rest in
    let D : List Kind → Type 0 = Derives program in
    let N : List Kind → Type 0 = NoEnd in
    elim (last_split End End u s.0 rest e) [
      | inl h ↦ subst D (append_assoc u (End ∷ []) rest ∙ ap (λ z. u ++ End ∷ z) h.2) d
      | inr h ↦ absurd (end_inside u h.0 (subst N h.1 (no_end (Ref ClausesPart) s.0 s.3 refl)))
    ]

abbrev Settled : List Kind → Type 0
Settled u = (Derives program u × IsWithin u) ⊎ ((p : ℕ) × (c : ℕ) × IsRefused (Derives program) u p c)

-- reading stops at a token, in front of which no token passes a limit
unexpected : (u : List Kind) (r : ℕ) (t : Tells start 0 u r) (x : Kind) (v : List Kind) → t.left ≡ x ∷ v → IsWithin t.taken → IsRefused (Derives program) u (length t.taken) 10
unexpected u r t x v e w = record {
  before = t.taken;
  token = x;
  rest = v;
  split = t.split ∙ ap (λ z. t.taken ++ z) e;
  is_there = refl;
  begins = taken_begins u r t;
  within = w;
  refuses = inl (refl, no_more_begins u r t x v e);
}

within_limits : (kinds : List Kind) (r : ℕ) → Tells start 0 (kinds ++ End ∷ []) r → IsWithin (kinds ++ End ∷ []) → Settled (kinds ++ End ∷ [])
within_limits kinds r t w = go t.left refl
  where
    W : List Kind → Type 0
    W = IsWithin

    go : (v : List Kind) → t.left ≡ v → Settled (kinds ++ End ∷ [])
    go [] e = inl (begun_to_end kinds (begins_same (Derives program) t.taken (kinds ++ End ∷ []) (sym (plus_nothing t.taken) ∙ ap (λ z. t.taken ++ z) (sym e) ∙ sym t.split) (taken_begins _ r t)), w)
    go (x ∷ v) e = inr (length t.taken, 10, unexpected (kinds ++ End ∷ []) r t x v e (within_front t.taken t.left (let F : List Kind → Type 0 = IsWithin in subst F t.split w)))

beyond_limits : (u : List Kind) (r : ℕ) → Tells start 0 u r → FirstPassing u → Settled u
beyond_limits u r t (before, token, rest, code, e, w, c) = elim (cases_lt (length before) (length t.taken)) [ inl far ↦ inr (length before, code, taken far) | inr near ↦ inr (not_taken near) ]
  where
    F : List Kind → Type 0
    F = IsWithin

    taken : length before < length t.taken → IsRefused (Derives program) u (length before) code
    taken far =
        let size : length (before ++ token ∷ []) ≡ length before + 1 = length-append before (token ∷ []) in
        let x = longer_front (before ++ token ∷ []) rest t.taken t.left (append_assoc before (token ∷ []) rest ∙ sym e ∙ t.split) (omega (arith, size, far)) in
        let all : BeginsProgram (Derives program) (before ++ token ∷ []) = begins_front (Derives program) (before ++ token ∷ []) x.0 (begins_same (Derives program) t.taken _ x.1 (taken_begins u r t)) in
        record { before = before; token = token; rest = rest; split = e; is_there = refl; begins = begins_front (Derives program) before (token ∷ []) all; within = w; refuses = inr (all, c) }

    not_taken : length t.taken ≤ length before → (p : ℕ) × (d : ℕ) × IsRefused (Derives program) u p d
    not_taken near =
        let x = longer_front t.taken t.left before (token ∷ rest) (sym t.split ∙ e) near in
        go x.0 x.1 t.left refl
      where
        nothing_left : (x : List Kind) → before ≡ t.taken ++ x → t.left ≡ [] → ⊥
        nothing_left x s l =
            let size : length (before ++ token ∷ rest) ≡ length before + suc (length rest) = length-append before (token ∷ rest) in
            let whole : length u ≡ length t.taken + 0 = ap length t.split ∙ ap (λ z. length (t.taken ++ z)) l ∙ length-append t.taken [] in
            let same : length u ≡ length (before ++ token ∷ rest) = ap length e in
            omega (arith, size, whole, same, near)

        go : (x : List Kind) → before ≡ t.taken ++ x → (v : List Kind) → t.left ≡ v → (p : ℕ) × (d : ℕ) × IsRefused (Derives program) u p d
        go x s [] l = absurd (nothing_left x s l)
        go x s (y ∷ v) l = (length t.taken, 10, unexpected u r t y v l (within_front t.taken x (subst F s w)))

-- what ends with `End` derives a program within the limits, or is refused
pub derived_or_refused : DerivedOrRefused
derived_or_refused kinds =
    let u = kinds ++ End ∷ [] in
    let t = tells u 0 start (one_alive (program ∷ [])) in
    elim (first_passing u) [ inl w ↦ within_limits kinds _ t w | inr f ↦ beyond_limits u _ t f ]
