-- What the token at which reading stops says about the grammar.
use Rattle.std.proofs.Common.{◌≡◌, ℕ, suc, ◌+◌, ◌≤◌, List, [], ◌∷◌, ◌++◌, length, refl, sym, ◌∙◌, ap, arith, subst, ◌⊎◌, inl, inr}
use Rattle.lmn_parser_grammar.proofs.Theory.{DerivesAll, cons_same}
use Rattle.lmn_parser_grammar.specs.Reading.{Owed, nexts, stop, unless_dead}
use Rattle.lmn_lexer.specs.declared.token.Kind.{Kind}
use Rattle.lmn_parser_grammar.proofs.Stops.{stop_cons, stop_none}
use Rattle.lmn_parser_grammar.proofs.Theory.{Found, complete_nexts, sound_nexts, all_completed}

-- Of the tokens w, the first of which is number p, reading takes the longest front with which some word of s begins,
-- and r is the number of the token behind it.
pub record Tells (s : List Owed) (p : ℕ) (w : List Kind) (r : ℕ) : Type 0 where
  pub taken : List Kind
  pub left : List Kind
  pub split : w ≡ taken ++ left
  pub count : r ≡ p + length taken
  pub rest : List Kind
  pub goes_on : Found s (taken ++ rest)
  pub no_farther : (t : Kind) (v : List Kind) → left ≡ t ∷ v → (more : List Kind) → Found s (taken ++ t ∷ more) → ⊥

-- some word is derived by what is owed
abbrev pub Alive : List Owed → Type 0
Alive s = (w : List Kind) × Found s w

-- no row derives nothing at all
pub nothing_found : (s : List Owed) (w : List Kind) → s ≡ [] → Found s w → ⊥
nothing_found s w e f = let P : List Owed → Type 0 = λ x. Found x w in (subst P e f).1

first_alive : (κ : Owed) (s : List Owed) → Alive (κ ∷ s)
first_alive κ s = let c = all_completed κ in (c.0, (κ, inl refl, c.1))

stops_here : (s : List Owed) (p : ℕ) (t : Kind) (w : List Kind) → nexts s t ≡ [] → Alive s → Tells s p (t ∷ w) p
stops_here s p t w e a = record {
  taken = [];
  left = t ∷ w;
  split = refl;
  count = omega arith;
  rest = a.0;
  goes_on = a.1;
  no_farther = λ x v h more f. let P : List Kind → Type 0 = λ z. Found s (z) in nothing_found (nexts s t) more e (complete_nexts s t more (subst P (ap (λ z. z ∷ more) (sym (cons_same t x w v h).0)) f));
}

goes_behind : (s : List Owed) (p : ℕ) (t : Kind) (w : List Kind) (r : ℕ) → Tells (nexts s t) (suc p) w r → Tells s p (t ∷ w) r
goes_behind s p t w r h = record {
  taken = t ∷ h.taken;
  left = h.left;
  split = ap (λ z. t ∷ z) h.split;
  count = omega (arith, h.count);
  rest = h.rest;
  goes_on = sound_nexts s t (h.taken ++ h.rest) h.goes_on;
  no_farther = λ x v e more f. h.no_farther x v e more (complete_nexts s t (h.taken ++ x ∷ more) f);
}

-- what the place at which reading stops says of the tokens
pub tells : (w : List Kind) (p : ℕ) (s : List Owed) → Alive s → Tells s p w (stop p s w)
tells [] p s a =
    let P : ℕ → Type 0 = Tells s p [] in
    subst P (sym (stop_none p s)) (record { taken = []; left = []; split = refl; count = omega arith; rest = a.0; goes_on = a.1; no_farther = λ x v h more f. nil_cons x v h })
  where
    nil_cons : (x : Kind) (v : List Kind) → [] ≡ x ∷ v → ⊥
    nil_cons x v h = cc
tells (t ∷ w) p s a =
    let P : ℕ → Type 0 = Tells s p (t ∷ w) in
    subst P (sym (stop_cons p s t w)) (go (nexts s t) refl (tells w (suc p) (nexts s t)))
  where
    go : (n : List Owed) → nexts s t ≡ n → (Alive (nexts s t) → Tells (nexts s t) (suc p) w (stop (suc p) (nexts s t) w)) → Tells s p (t ∷ w) (unless_dead p n (stop (suc p) (nexts s t) w))
    go [] e h = stops_here s p t w e a
    go (κ ∷ n) e h = let P : List Owed → Type 0 = Alive in goes_behind s p t w _ (h (subst P (sym e) (first_alive κ n)))

-- a row that is owed is one
pub one_alive : (κ : Owed) → Alive (κ ∷ [])
one_alive κ = first_alive κ []

-- tokens found by one row are derived by it
pub found_one : (κ : Owed) (w : List Kind) → Found (κ ∷ []) w → DerivesAll κ w
found_one κ w (k, inl e, d) = let P : Owed → Type 0 = λ x. DerivesAll x w in subst P e d
found_one κ w (k, inr i, d) = absurd i

-- what one row derives is found
pub one_found : (κ : Owed) (w : List Kind) → DerivesAll κ w → Found (κ ∷ []) w
one_found κ w d = (κ, inl refl, d)

-- Of two fronts of one list the longer one begins with the shorter one.
pub longer_front : (u v u' v' : List Kind) → u ++ v ≡ u' ++ v' → length u ≤ length u' → (x : List Kind) × (u' ≡ u ++ x)
longer_front [] v u' v' e l = (u', refl)
longer_front (a ∷ u) v [] v' e l = absurd (too_long (length u) l)
  where
    too_long : (n : ℕ) → suc n ≤ 0 → ⊥
    too_long n h = omega arith
longer_front (a ∷ u) v (b ∷ u') v' e l =
    let s = cons_same a b (u ++ v) (u' ++ v') e in
    let r = longer_front u v u' v' s.1 (less (length u) (length u') l) in
    (r.0, ap (λ z. b ∷ z) r.1 ∙ ap (λ z. z ∷ (u ++ r.0)) (sym s.0))
  where
    less : (n m : ℕ) → suc n ≤ suc m → n ≤ m
    less n m h = omega arith

-- A list with one token behind it, and another with a token and more behind it, are one list: the first is the second,
-- and the tokens are one; or the first goes on behind the second.
pub last_split : (t k : Kind) (u x rest : List Kind) → x ++ t ∷ [] ≡ u ++ k ∷ rest → ((x ≡ u) × (t ≡ k) × (rest ≡ [])) ⊎ ((y : List Kind) × (x ≡ u ++ k ∷ y))
last_split t k [] [] rest e = let s = cons_same t k [] rest e in inl (refl, s.0, sym s.1)
last_split t k [] (a ∷ x) rest e = inr (x, ap (λ z. z ∷ x) (cons_same a k (x ++ t ∷ []) rest e).0)
last_split t k (b ∷ u) [] rest e = absurd (never u (cons_same t b [] (u ++ k ∷ rest) e).1)
  where
    never : (u : List Kind) → [] ≡ u ++ k ∷ rest → ⊥
    never [] h = cc
    never (c ∷ u) h = cc
last_split t k (b ∷ u) (a ∷ x) rest e =
    let s = cons_same a b (x ++ t ∷ []) (u ++ k ∷ rest) e in
    elim (last_split t k u x rest s.1) [
      | inl h ↦ inl (ap (λ z. a ∷ z) h.0 ∙ ap (λ z. z ∷ u) s.0, h.1, h.2)
      | inr h ↦ inr (h.0, ap (λ z. a ∷ z) h.1 ∙ ap (λ z. z ∷ (u ++ k ∷ h.0)) s.0)
    ]
