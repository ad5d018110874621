-- What has the same words stops at the same token.
use Rattle.std.proofs.Common.{◌≡◌, ℕ, suc, max, List, [], ◌∷◌, ◌++◌, refl, sym, ◌∙◌, ap, subst, ◌⊎◌, inl, inr, append_assoc, drop}
use Rattle.lmn_parser_grammar.specs.Grammar.{Exp, Seq, Alt, Opt, Many, Ref, Part, part_expression, Derives, both, left, right, without, with, no_more, one_more, by}
use Rattle.lmn_parser_grammar.proofs.Theory.{DerivesAll, derives_along}
use Rattle.lmn_parser_grammar.specs.Reading.{Owed, nexts, stop, stop_at, unless_dead}
use Rattle.lmn_lexer.specs.declared.token.Kind.{Kind}
use Rattle.lmn_parser_grammar.proofs.Theory.{Found, complete_nexts, sound_nexts, all_completed}
use Rattle.lmn_parser_grammar.proofs.Stops.{stop_cons, stop_none}
use Rattle.lmn_parser_grammar.proofs.Union.{union_at}

-- two rows of what is owed derive the same words
abbrev pub SameWords : List Owed → List Owed → Type 0
SameWords s s' = (w : List Kind) → (Found s w → Found s' w) × (Found s' w → Found s w)

same_step : (p : ℕ) (n n' : List Owed) (a b : ℕ) → SameWords n n' → a ≡ b → unless_dead p n a ≡ unless_dead p n' b
same_step p [] [] a b h e = refl
same_step p [] (κ ∷ n') a b h e = let c = all_completed κ in absurd ((h c.0).1 (κ, inl refl, c.1)).1
same_step p (κ ∷ n) [] a b h e = let c = all_completed κ in absurd ((h c.0).0 (κ, inl refl, c.1)).1
same_step p (κ ∷ n) (κ' ∷ n') a b h e = e

-- so they are read alike
pub same_language : (w : List Kind) (p : ℕ) (s s' : List Owed) → SameWords s s' → stop p s w ≡ stop p s' w
same_language [] p s s' h = stop_none p s ∙ sym (stop_none p s')
same_language (t ∷ w) p s s' h =
    let n : SameWords (nexts s t) (nexts s' t) = λ v. (λ f. complete_nexts s' t v ((h (t ∷ v)).0 (sound_nexts s t v f)), λ f. complete_nexts s t v ((h (t ∷ v)).1 (sound_nexts s' t v f))) in
    stop_cons p s t w ∙ same_step p (nexts s t) (nexts s' t) _ _ n (same_language w (suc p) (nexts s t) (nexts s' t) n) ∙ sym (stop_cons p s' t w)

-- of one stack, and of one expression
abbrev pub SameOwed : Owed → Owed → Type 0
SameOwed κ κ' = (w : List Kind) → (DerivesAll κ w → DerivesAll κ' w) × (DerivesAll κ' w → DerivesAll κ w)

-- two expressions derive the same words
abbrev pub SameExp : Exp → Exp → Type 0
SameExp e e' = (w : List Kind) → (Derives e w → Derives e' w) × (Derives e' w → Derives e w)

one_found : (κ κ' : Owed) (w : List Kind) → (DerivesAll κ w → DerivesAll κ' w) → Found (κ ∷ []) w → Found (κ' ∷ []) w
one_found κ κ' w h (k, inl e, d) = let P : Owed → Type 0 = λ x. DerivesAll x w in (κ', inl refl, h (subst P e d))
one_found κ κ' w h (k, inr i, d) = absurd i

-- what derives the same words is read alike
pub owed_alike : (ts : List Kind) (p : ℕ) (κ κ' : Owed) → SameOwed κ κ' → stop_at ts p (κ ∷ []) ≡ stop_at ts p (κ' ∷ [])
owed_alike ts p κ κ' h = same_language (drop p ts) p (κ ∷ []) (κ' ∷ []) (λ w. (one_found κ κ' w (h w).0, one_found κ' κ w (h w).1))

-- in a row of expressions, the part behind the first
pub same_behind : (e : Exp) (κ κ' : Owed) → SameOwed κ κ' → SameOwed (e ∷ κ) (e ∷ κ')
same_behind e κ κ' h w = (λ d. (d.0, d.1, d.2, d.3, (h d.1).0 d.4), λ d. (d.0, d.1, d.2, d.3, (h d.1).1 d.4))

-- with the same owed behind them two expressions of the same words derive the same
pub same_first : (e e' : Exp) (κ : Owed) → SameExp e e' → SameOwed (e ∷ κ) (e' ∷ κ)
same_first e e' κ h w = (λ d. (d.0, d.1, d.2, (h d.0).0 d.3, d.4), λ d. (d.0, d.1, d.2, (h d.0).1 d.3, d.4))

-- expressions that derive the same words are read alike
pub exp_alike : (ts : List Kind) (p : ℕ) (e e' : Exp) (κ : Owed) → SameExp e e' → stop_at ts p ((e ∷ κ) ∷ []) ≡ stop_at ts p ((e' ∷ κ) ∷ [])
exp_alike ts p e e' κ h = owed_alike ts p (e ∷ κ) (e' ∷ κ) (same_first e e' κ h)

-- What a derivation is made of.
pub seq_parts : (a b : Exp) (w : List Kind) → Derives (Seq a b) w → (u : List Kind) × (v : List Kind) × (w ≡ u ++ v) × Derives a u × Derives b v
seq_parts _ _ _ (both a b u v w e da db) = (u, v, e, da, db)

-- one of two things is one of them
pub alt_parts : (a b : Exp) (w : List Kind) → Derives (Alt a b) w → Derives a w ⊎ Derives b w
alt_parts _ _ _ (left a b w d) = inl d
alt_parts _ _ _ (right a b w d) = inr d

-- a thing or nothing is one of them
pub opt_parts : (a : Exp) (w : List Kind) → Derives (Opt a) w → (w ≡ []) ⊎ Derives a w
opt_parts _ _ (without a) = inl refl
opt_parts _ _ (with a w d) = inr d

-- any number of a thing is nothing, or one and more
pub many_parts : (a : Exp) (w : List Kind) → Derives (Many a) w → (w ≡ []) ⊎ ((u : List Kind) × (v : List Kind) × (w ≡ u ++ v) × Derives a u × Derives (Many a) v)
many_parts _ _ (no_more a) = inl refl
many_parts _ _ (one_more a u v w e da dm) = inr (u, v, e, da, dm)

-- a part by its name is its expression
pub ref_parts : (n : Part) (w : List Kind) → Derives (Ref n) w → Derives (part_expression n) w
ref_parts _ _ (by n w d) = d

-- A sequence is owed part by part.
pub seq_split : (a b : Exp) (κ : Owed) → SameOwed (Seq a b ∷ κ) (a ∷ b ∷ κ)
seq_split a b κ w = (to, back)
  where
    to : DerivesAll (Seq a b ∷ κ) w → DerivesAll (a ∷ b ∷ κ) w
    to (u, v, e, d, dk) = let s = seq_parts a b u d in (s.0, s.1 ++ v, e ∙ ap (λ z. z ++ v) s.2 ∙ append_assoc s.0 s.1 v, s.3, (s.1, v, refl, s.4, dk))

    back : DerivesAll (a ∷ b ∷ κ) w → DerivesAll (Seq a b ∷ κ) w
    back (u, v, e, da, (x, y, e', db, dk)) = (u ++ x, y, e ∙ ap (λ z. u ++ z) e' ∙ sym (append_assoc u x y), both a b u x (u ++ x) refl da db, dk)

-- one thing after the other is owed as both
pub seq : (ts : List Kind) (p : ℕ) (a b : Exp) (κ : Owed) → stop_at ts p ((Seq a b ∷ κ) ∷ []) ≡ stop_at ts p ((a ∷ b ∷ κ) ∷ [])
seq ts p a b κ = owed_alike ts p (Seq a b ∷ κ) (a ∷ b ∷ κ) (seq_split a b κ)

-- and three things as all three
pub seq3 : (ts : List Kind) (p : ℕ) (a b c : Exp) (κ : Owed) → stop_at ts p ((Seq a (Seq b c) ∷ κ) ∷ []) ≡ stop_at ts p ((a ∷ b ∷ c ∷ κ) ∷ [])
seq3 ts p a b c κ = seq ts p a (Seq b c) κ ∙ owed_alike ts p (a ∷ Seq b c ∷ κ) (a ∷ b ∷ c ∷ κ) (same_behind a (Seq b c ∷ κ) (b ∷ c ∷ κ) (seq_split b c κ))

-- a part by its name is read as its expression
pub ref : (ts : List Kind) (p : ℕ) (n : Part) (κ : Owed) → stop_at ts p ((Ref n ∷ κ) ∷ []) ≡ stop_at ts p ((part_expression n ∷ κ) ∷ [])
ref ts p n κ = exp_alike ts p (Ref n) (part_expression n) κ (λ w. (ref_parts n w, by n w))

-- A choice is two readings.
two_found : (κ κ1 κ2 : Owed) (w : List Kind) → (DerivesAll κ w → DerivesAll κ1 w ⊎ DerivesAll κ2 w) → Found (κ ∷ []) w → Found (κ1 ∷ κ2 ∷ []) w
two_found κ κ1 κ2 w h (k, inr i, d) = absurd i
two_found κ κ1 κ2 w h (k, inl e, d) = let P : Owed → Type 0 = λ x. DerivesAll x w in go (h (subst P e d))
  where
    go : DerivesAll κ1 w ⊎ DerivesAll κ2 w → Found (κ1 ∷ κ2 ∷ []) w
    go (inl a) = (κ1, inl refl, a)
    go (inr b) = (κ2, inr (inl refl), b)

found_two : (κ κ1 κ2 : Owed) (w : List Kind) → (DerivesAll κ1 w → DerivesAll κ w) → (DerivesAll κ2 w → DerivesAll κ w) → Found (κ1 ∷ κ2 ∷ []) w → Found (κ ∷ []) w
found_two κ κ1 κ2 w f g (k, inl e, d) = let P : Owed → Type 0 = λ x. DerivesAll x w in (κ, inl refl, f (subst P e d))
found_two κ κ1 κ2 w f g (k, inr (inl e), d) = let P : Owed → Type 0 = λ x. DerivesAll x w in (κ, inl refl, g (subst P e d))
found_two κ κ1 κ2 w f g (k, inr (inr i), d) = absurd i

-- what is owed in two ways is read as far as one of them goes
pub two_ways : (ts : List Kind) (p : ℕ) (κ κ1 κ2 : Owed) → ((w : List Kind) → DerivesAll κ w → DerivesAll κ1 w ⊎ DerivesAll κ2 w) →
    ((w : List Kind) → DerivesAll κ1 w → DerivesAll κ w) → ((w : List Kind) → DerivesAll κ2 w → DerivesAll κ w) →
    stop_at ts p (κ ∷ []) ≡ max (stop_at ts p (κ1 ∷ [])) (stop_at ts p (κ2 ∷ []))
two_ways ts p κ κ1 κ2 h f g = same_language (drop p ts) p (κ ∷ []) (κ1 ∷ κ2 ∷ []) (λ w. (two_found κ κ1 κ2 w (h w), found_two κ κ1 κ2 w (f w) (g w))) ∙ union_at ts p κ1 κ2

-- of two things the one that is read farther counts
pub alt : (ts : List Kind) (p : ℕ) (a b : Exp) (κ : Owed) → stop_at ts p ((Alt a b ∷ κ) ∷ []) ≡ max (stop_at ts p ((a ∷ κ) ∷ [])) (stop_at ts p ((b ∷ κ) ∷ []))
alt ts p a b κ = two_ways ts p (Alt a b ∷ κ) (a ∷ κ) (b ∷ κ) to (λ w d. (d.0, d.1, d.2, left a b d.0 d.3, d.4)) (λ w d. (d.0, d.1, d.2, right a b d.0 d.3, d.4))
  where
    to : (w : List Kind) → DerivesAll (Alt a b ∷ κ) w → DerivesAll (a ∷ κ) w ⊎ DerivesAll (b ∷ κ) w
    to w (u, v, e, d, dk) = elim (alt_parts a b u d) [ inl x ↦ inl (u, v, e, x, dk) | inr y ↦ inr (u, v, e, y, dk) ]

-- of a thing or nothing too
pub opt : (ts : List Kind) (p : ℕ) (a : Exp) (κ : Owed) → stop_at ts p ((Opt a ∷ κ) ∷ []) ≡ max (stop_at ts p ((a ∷ κ) ∷ [])) (stop_at ts p (κ ∷ []))
opt ts p a κ = two_ways ts p (Opt a ∷ κ) (a ∷ κ) κ to (λ w d. (d.0, d.1, d.2, with a d.0 d.3, d.4)) (λ w d. ([], w, refl, without a, d))
  where
    to : (w : List Kind) → DerivesAll (Opt a ∷ κ) w → DerivesAll (a ∷ κ) w ⊎ DerivesAll κ w
    to w (u, v, e, d, dk) = elim (opt_parts a u d) [ inl x ↦ inr (derives_along κ v w (sym (e ∙ ap (λ z. z ++ v) x)) dk) | inr y ↦ inl (u, v, e, y, dk) ]

-- any number of a thing is read as one and more, or as none
pub many : (ts : List Kind) (p : ℕ) (a : Exp) (κ : Owed) → stop_at ts p ((Many a ∷ κ) ∷ []) ≡ max (stop_at ts p ((a ∷ Many a ∷ κ) ∷ [])) (stop_at ts p (κ ∷ []))
many ts p a κ = two_ways ts p (Many a ∷ κ) (a ∷ Many a ∷ κ) κ to more (λ w d. ([], w, refl, no_more a, d))
  where
    to : (w : List Kind) → DerivesAll (Many a ∷ κ) w → DerivesAll (a ∷ Many a ∷ κ) w ⊎ DerivesAll κ w
    to w (u, v, e, d, dk) = elim (many_parts a u d) [
      | inl x ↦ inr (derives_along κ v w (sym (e ∙ ap (λ z. z ++ v) x)) dk)
      | inr y ↦ inl (y.0, y.1 ++ v, e ∙ ap (λ z. z ++ v) y.2 ∙ append_assoc y.0 y.1 v, y.3, (y.1, v, refl, y.4, dk))
    ]

    more : (w : List Kind) → DerivesAll (a ∷ Many a ∷ κ) w → DerivesAll (Many a ∷ κ) w
    more w (u, v, e, da, (x, y, e', dm, dk)) = (u ++ x, y, e ∙ ap (λ z. u ++ z) e' ∙ sym (append_assoc u x y), one_more a u x (u ++ x) refl da dm, dk)

-- with or without b in the middle
pub opt_behind : (ts : List Kind) (p : ℕ) (a b : Exp) (κ : Owed) → stop_at ts p ((a ∷ Opt b ∷ κ) ∷ []) ≡ max (stop_at ts p ((a ∷ b ∷ κ) ∷ [])) (stop_at ts p ((a ∷ κ) ∷ []))
opt_behind ts p a b κ = two_ways ts p (a ∷ Opt b ∷ κ) (a ∷ b ∷ κ) (a ∷ κ) to
    (λ w d. (d.0, d.1, d.2, d.3, (d.4.0, d.4.1, d.4.2, with b d.4.0 d.4.3, d.4.4))) (λ w d. (d.0, d.1, d.2, d.3, ([], d.1, refl, without b, d.4)))
  where
    to : (w : List Kind) → DerivesAll (a ∷ Opt b ∷ κ) w → DerivesAll (a ∷ b ∷ κ) w ⊎ DerivesAll (a ∷ κ) w
    to w (u, v, e, da, (x, y, e', d, dk)) = elim (opt_parts b x d)
        [ inl n ↦ inr (u, v, e, da, derives_along κ y v (sym (e' ∙ ap (λ z. z ++ y) n)) dk) | inr d' ↦ inl (u, v, e, da, (x, y, e', d', dk)) ]
