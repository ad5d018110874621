-- A part that is read from one place to another derives the tokens between them.
use Rattle.std.proofs.Common.{◌≡◌, ℕ, zero, suc, ◌+◌, ◌≤◌, List, [], ◌∷◌, ◌++◌, length, drop, slice_get, Some, refl, sym, ◌∙◌, ap, arith, subst, inl, inr, append_assoc, length-append}
use Rattle.lmn_parser_grammar.specs.Grammar.{Exp, Tok, Derives}
use Rattle.lmn_parser_grammar.proofs.Theory.{DerivesAll, cons_same}
use Rattle.lmn_parser_grammar.specs.Reading.{stop_at}
use Rattle.lmn_lexer.specs.declared.token.Kind.{Kind}
use Rattle.lmn_parser_grammar.proofs.Stops.{drop_here}
use Rattle.lmn_parser_grammar.proofs.Theory.{Found, of_tok}
use Rattle.lmn_parser_grammar.proofs.Tells.{Tells, tells, one_alive, found_one, one_found, longer_front, last_split}
use Rattle.lmn_base.proofs.Lists.{plus_nothing}

drop_next : (ts : List Kind) (p : ℕ) (a : Kind) (w : List Kind) → drop p ts ≡ a ∷ w → drop (suc p) ts ≡ w
drop_next [] zero a w h = cc
drop_next [] (suc p) a w h = cc
drop_next (x ∷ ts) zero a w h = (cons_same x a ts w h).1
drop_next (x ∷ ts) (suc p) a w h = drop_next ts p a w h

-- behind the first part of what is left stands the second
pub drop_front : (u v ts : List Kind) (p : ℕ) → drop p ts ≡ u ++ v → drop (p + length u) ts ≡ v
drop_front [] v ts p h = let e : p + 0 ≡ p = omega arith in ap (λ n. drop n ts) e ∙ h
drop_front (a ∷ u) v ts p h =
    let e : p + suc (length u) ≡ suc p + length u = omega arith in
    ap (λ n. drop n ts) e ∙ drop_front u v ts (suc p) (drop_next ts p a (u ++ v) h)

-- the token at the end of a front
pub front_end : (ts u v : List Kind) (p q : ℕ) (t : Kind) → drop p ts ≡ u ++ v → q ≡ p + length u → slice_get ts q ≡ Some t → (v' : List Kind) × (v ≡ t ∷ v')
front_end ts u v p q t h e g = (drop (suc q) ts, sym (drop_front u v ts p h) ∙ ap (λ n. drop n ts) (sym e) ∙ drop_here ts q t g)

get_first : (ts : List Kind) (q : ℕ) (t : Kind) (v : List Kind) → drop q ts ≡ t ∷ v → slice_get ts q ≡ Some t
get_first [] zero t v h = cc
get_first [] (suc q) t v h = cc
get_first (x ∷ ts) zero t v h = ap Some (cons_same x t ts v h).0
get_first (x ∷ ts) (suc q) t v h = get_first ts q t v h

-- the token behind a part stands at its end
pub front_get : (ts u v : List Kind) (p q : ℕ) (t : Kind) → drop p ts ≡ u ++ t ∷ v → q ≡ p + length u → slice_get ts q ≡ Some t
front_get ts u v p q t h e = get_first ts q t v (ap (λ n. drop n ts) e ∙ drop_front u (t ∷ v) ts p h)

-- what goes on from the same front alike is the same
pub append_same : (u x y : List Kind) → u ++ x ≡ u ++ y → x ≡ y
append_same [] x y h = h
append_same (a ∷ u) x y h = append_same u x y (cons_same a a (u ++ x) (u ++ y) h).1

one_long : (t : Kind) (x v v' : List Kind) → t ∷ v ≡ x ++ v' → length x ≡ 1 → x ≡ t ∷ []
one_long t [] v v' e l = let n : zero ≡ suc zero = l in cc
one_long t (a ∷ []) v v' e l = ap (λ z. z ∷ []) (sym (cons_same t a v v' e).0)
one_long t (a ∷ b ∷ x) v v' e l = absurd (long (length x) l)
  where
    long : (n : ℕ) → suc (suc n) ≡ 1 → ⊥
    long n h = omega arith

-- what e, and then t, derives
then_tok : (e : Exp) (t : Kind) (w : List Kind) → DerivesAll (e ∷ Tok t ∷ []) w → (x : List Kind) × (w ≡ x ++ t ∷ []) × Derives e x
then_tok e t w (x, v, s, d, (a, b, s', da, n)) = (x, s ∙ ap (λ z. x ++ z) (s' ∙ ap (λ z. z ++ b) (of_tok t a da) ∙ ap (λ z. t ∷ z) n), d)

-- where nothing is owed behind e it is read to q and no farther, and where t is, which stands at q, to behind t
pub read_derives : (ts : List Kind) (p q : ℕ) (e : Exp) (t : Kind) → stop_at ts p ((e ∷ []) ∷ []) ≡ q → slice_get ts q ≡ Some t → stop_at ts p ((e ∷ Tok t ∷ []) ∷ []) ≡ q + 1 →
    (u : List Kind) × (v : List Kind) × (drop p ts ≡ u ++ t ∷ v) × (q ≡ p + length u) × Derives e u
read_derives ts p q e t r g r' =
    let P : ℕ → Type 0 = Tells ((e ∷ []) ∷ []) p (drop p ts) in
    let P' : ℕ → Type 0 = Tells ((e ∷ Tok t ∷ []) ∷ []) p (drop p ts) in
    go (subst P r (tells (drop p ts) p ((e ∷ []) ∷ []) (one_alive (e ∷ [])))) (subst P' r' (tells (drop p ts) p ((e ∷ Tok t ∷ []) ∷ []) (one_alive (e ∷ Tok t ∷ []))))
  where
    exactly : (u v rest : List Kind) → ((more : List Kind) → Found ((e ∷ []) ∷ []) (u ++ t ∷ more) → ⊥) → Found ((e ∷ Tok t ∷ []) ∷ []) ((u ++ t ∷ []) ++ rest) → Derives e u
    exactly u v rest none f =
        let d = then_tok e t ((u ++ t ∷ []) ++ rest) (found_one (e ∷ Tok t ∷ []) _ f) in
        let D : List Kind → Type 0 = Derives e in
        elim (last_split t t u d.0 rest (sym d.1 ∙ append_assoc u (t ∷ []) rest)) [
          | inl h ↦ subst D h.0 d.2
          | inr h ↦ absurd (none h.0 (one_found (e ∷ []) (u ++ t ∷ h.0) (u ++ t ∷ h.0, [], sym (plus_nothing (u ++ t ∷ h.0)), subst D h.1 d.2, refl)))
        ]

    go : Tells ((e ∷ []) ∷ []) p (drop p ts) q → Tells ((e ∷ Tok t ∷ []) ∷ []) p (drop p ts) (q + 1) → (u : List Kind) × (v : List Kind) × (drop p ts ≡ u ++ t ∷ v) × (q ≡ p + length u) × Derives e u
    go a b =
        let v = front_end ts a.taken a.left p q t a.split a.count g in
        let lens : length a.taken ≤ length b.taken = omega (arith, a.count, b.count) in
        let x = longer_front a.taken a.left b.taken b.left (sym a.split ∙ b.split) lens in
        let same : t ∷ v.0 ≡ x.0 ++ b.left = sym v.1 ∙ append_same a.taken a.left (x.0 ++ b.left) (sym a.split ∙ b.split ∙ ap (λ z. z ++ b.left) x.1 ∙ append_assoc a.taken x.0 b.left) in
        let sizes : length b.taken ≡ length a.taken + length x.0 = ap length x.1 ∙ length-append a.taken x.0 in
        let one : length x.0 ≡ 1 = omega (arith, a.count, b.count, sizes) in
        let F : List Kind → Type 0 = λ z. Found ((e ∷ Tok t ∷ []) ∷ []) (z ++ b.rest) in (
          a.taken,
          v.0,
          a.split ∙ ap (λ z. a.taken ++ z) v.1,
          a.count,
          exactly a.taken v.0 b.rest (λ more f. a.no_farther t v.0 v.1 more f) (subst F (x.1 ∙ ap (λ z. a.taken ++ z) (one_long t x.0 v.0 b.left same one)) b.goes_on),
        )
