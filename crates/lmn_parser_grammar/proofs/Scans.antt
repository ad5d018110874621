-- The scan for limits, one token more at a time.
use Rattle.std.proofs.Common.{◌≡◌, ℕ, zero, suc, ◌+◌, Bool, true, false, List, [], ◌∷◌, ◌++◌, length, take, drop, slice_get, Option, Some, None, refl, sym, ◌∙◌, ap, subst, ◌⊎◌, inl, inr, append_assoc, add-one}
use Rattle.lmn_parser_grammar.specs.Limits.{Passes, PassesNone}
use Rattle.lmn_parser_grammar.specs.Scan.{Scan, scan, scan_after, passes}
use Rattle.lmn_parser_grammar.specs.Refusing.{IsWithin}
use Rattle.lmn_lexer.specs.declared.token.Kind.{Kind}
use Rattle.lmn_parser_grammar.proofs.Counts.{scan_more, scan_none, scan_passes}
use Rattle.lmn_parser_grammar.proofs.Stops.{same_some}
use Rattle.lmn_parser_grammar.proofs.Tells.{last_split}
use Rattle.lmn_base.proofs.Lists.{plus_nothing}
use Rattle.lmn_base.proofs.Truth.{false_not_true as clash}

never : (before rest : List Kind) (token : Kind) → [] ≡ before ++ token ∷ rest → ⊥
never [] rest token h = cc
never (a ∷ before) rest token h = cc

-- no token is within the limits
pub within_none : IsWithin []
within_none before token rest e = absurd (never before rest token e)

-- what is within the limits begins within them
pub within_front : (u v : List Kind) → IsWithin (u ++ v) → IsWithin u
within_front u v w before token rest e = w before token (rest ++ v) (ap (λ z. z ++ v) e ∙ append_assoc before (token ∷ rest) v)

-- one more token that passes none is within them too
pub within_more : (u : List Kind) (k : Kind) → IsWithin u → PassesNone u k → IsWithin (u ++ k ∷ [])
within_more u k w n before token rest e =
    elim (last_split k token before u rest e) [
      | inl h ↦ let P : Kind → Type 0 = PassesNone before in let Q : List Kind → Type 0 = λ z. PassesNone z k in subst P h.1 (subst Q h.0 n)
      | inr h ↦ w before token h.0 h.1
    ]

-- By numbers: the token with number m.
pub take_more : (ks : List Kind) (m : ℕ) (k : Kind) → slice_get ks m ≡ Some k → take (m + 1) ks ≡ take m ks ++ k ∷ []
take_more ks m k h = ap (λ n. take n ks) (add-one m) ∙ go ks m h
  where
    go : (ks : List Kind) (m : ℕ) → slice_get ks m ≡ Some k → take (suc m) ks ≡ take m ks ++ k ∷ []
    go [] zero h = cc
    go [] (suc m) h = cc
    go (a ∷ ks) zero h = ap (λ z. z ∷ []) (same_some a k h)
    go (a ∷ ks) (suc m) h = ap (λ z. a ∷ z) (go ks m h)

-- tokens are those before one of them, it, and those behind
pub cut_at : (ks : List Kind) (m : ℕ) (k : Kind) → slice_get ks m ≡ Some k → ks ≡ take m ks ++ k ∷ drop (suc m) ks
cut_at [] zero k h = cc
cut_at [] (suc m) k h = cc
cut_at (a ∷ ks) zero k h = ap (λ z. z ∷ ks) (same_some a k h)
cut_at (a ∷ ks) (suc m) k h = ap (λ z. a ∷ z) (cut_at ks m k h)

-- before the token with number m stand m tokens
pub length_take : (ks : List Kind) (m : ℕ) (k : Kind) → slice_get ks m ≡ Some k → length (take m ks) ≡ m
length_take [] zero k h = refl
length_take [] (suc m) k h = cc
length_take (a ∷ ks) zero k h = refl
length_take (a ∷ ks) (suc m) k h = ap suc (length_take ks m k h)

-- the scan of one token more
pub scan_take : (ks : List Kind) (m : ℕ) (k : Kind) → slice_get ks m ≡ Some k → scan (take (m + 1) ks) ≡ scan_after (scan (take m ks)) k
scan_take ks m k h = ap scan (take_more ks m k h) ∙ scan_more (take m ks) k

-- one token more is within the limits where the scan names no code for it
pub within_take : (ks : List Kind) (m : ℕ) (k : Kind) → slice_get ks m ≡ Some k → IsWithin (take m ks) → passes (scan (take m ks)) k ≡ None → IsWithin (take (m + 1) ks)
within_take ks m k h w n = let W : List Kind → Type 0 = IsWithin in subst W (sym (take_more ks m k h)) (within_more (take m ks) k w (scan_none (take m ks) k n))

-- Tokens are within the limits, or there is a first one that passes one.
abbrev pub FirstPassing : List Kind → Type 0
FirstPassing u = (before : List Kind) × (token : Kind) × (rest : List Kind) × (code : ℕ) × (u ≡ before ++ token ∷ rest) × IsWithin before × Passes code before token

-- tokens are within the limits, or a first one passes a limit
pub first_passing : (u : List Kind) → IsWithin u ⊎ FirstPassing u
first_passing u = go [] u within_none
  where
    go : (before u : List Kind) → IsWithin before → IsWithin (before ++ u) ⊎ FirstPassing (before ++ u)
    go before [] w = let W : List Kind → Type 0 = IsWithin in inl (subst W (sym (plus_nothing before)) w)
    go before (t ∷ u) w = by_token (passes (scan before) t) refl (λ e. go (before ++ t ∷ []) u (within_more before t w (scan_none before t e)))
      where
        by_token : (o : Option ℕ) → passes (scan before) t ≡ o → (passes (scan before) t ≡ None → IsWithin ((before ++ t ∷ []) ++ u) ⊎ FirstPassing ((before ++ t ∷ []) ++ u)) →
            IsWithin (before ++ t ∷ u) ⊎ FirstPassing (before ++ t ∷ u)
        by_token None e h = let P : List Kind → Type 0 = λ z. IsWithin z ⊎ FirstPassing z in subst P (append_assoc before (t ∷ []) u) (h e)
        by_token (Some c) e h = inr (before, t, u, c, refl, w, scan_passes before t c e)

-- Whether no token passes a limit.
abbrev pub none_passes : Scan → List Kind → Bool
none_passes s [] = true
none_passes s (k ∷ u) = elim (passes s k) [ None ↦ none_passes (scan_after s k) u | Some c ↦ false ]

-- tokens of which the scan finds none to pass are within the limits
pub within_scanned : (u : List Kind) → none_passes (scan []) u ≡ true → IsWithin u
within_scanned u h = go [] u within_none h
  where
    go : (before u : List Kind) → IsWithin before → none_passes (scan before) u ≡ true → IsWithin (before ++ u)
    go before [] w h = let W : List Kind → Type 0 = IsWithin in subst W (sym (plus_nothing before)) w
    go before (t ∷ u) w h = by_token (passes (scan before) t) refl h (λ w' h'. go (before ++ t ∷ []) u w' h')
      where
        by_token : (o : Option ℕ) → passes (scan before) t ≡ o → elim o [ None ↦ none_passes (scan_after (scan before) t) u | Some c ↦ false ] ≡ true →
            (IsWithin (before ++ t ∷ []) → none_passes (scan (before ++ t ∷ [])) u ≡ true → IsWithin ((before ++ t ∷ []) ++ u)) → IsWithin (before ++ t ∷ u)
        by_token None e h on =
            let W : List Kind → Type 0 = IsWithin in
            subst W (append_assoc before (t ∷ []) u) (on (within_more before t w (scan_none before t e)) (ap (λ s. none_passes s u) (scan_more before t) ∙ h))
        by_token (Some c) e h on = absurd (clash h)
