-- Two lists whose elements are related one by one.
use Rattle.std.proofs.Common.{ℕ, zero, suc, ◌≡◌, ◌<◌, List, [], ◌∷◌, ◌++◌, map, length, Some, refl, ap, subst, inl, inr, arith}
use Rattle.std.specs.Prelude.{slice_get, take, drop}
use Rattle.std.proofs.lemmas.Option.{same_Some}
use Rattle.lmn_congruence.specs.Orders.{Among, at_head, further}
use Rattle.lmn_adequacy_choices.specs.Laws.{EachWith, each_none, each_and}
use Rattle.lmn_base.specs.Lists.{In}

-- what has a smaller number is in the front
pub got_front : (xs : List ℕ) (n i k : ℕ) → i < n → slice_get xs i ≡ Some k → In k (take n xs)
got_front [] n i k l e = absurd (cc)
got_front (x ∷ xs) zero i k l e = absurd (omega (arith, l))
got_front (x ∷ xs) (suc n) zero k l e = inl (same_Some x k e)
got_front (x ∷ xs) (suc n) (suc i) k l e = inr (got_front xs n i k (omega (arith, l)) e)

module _ {A B : Type 0} (R : A → B → Type 0) where
  pub each_many : {xs : List A} {ys : List B} → EachWith R xs ys → length xs ≡ length ys
  each_many each_none = refl
  each_many (each_and r e) = ap suc (each_many e)

  pub each_both : {xs us : List A} {ys vs : List B} → EachWith R xs ys → EachWith R us vs → EachWith R (xs ++ us) (ys ++ vs)
  each_both each_none f = f
  each_both (each_and r e) f = each_and r (each_both e f)

  pub each_drop : (n : ℕ) {xs : List A} {ys : List B} → EachWith R xs ys → EachWith R (drop n xs) (drop n ys)
  each_drop zero e = e
  each_drop (suc n) each_none = each_none
  each_drop (suc n) (each_and r e) = each_drop n e

  pub each_take : (n : ℕ) {xs : List A} {ys : List B} → EachWith R xs ys → EachWith R (take n xs) (take n ys)
  each_take zero e = each_none
  each_take (suc n) each_none = each_none
  each_take (suc n) (each_and r e) = each_and r (each_take n e)

  -- where the second list is cut at an element, so is the first
  pub record CutAt (xs : List A) (before : List B) (y : B) : Type 0 where
    pub earlier : List A
    pub at : A
    pub later : List A
    pub order : xs ≡ earlier ++ (at ∷ later)
    pub each : EachWith R earlier before
    pub here : R at y

  pub cut_at : (before : List B) (y : B) (after : List B) {xs : List A} {ys : List B} → EachWith R xs ys → ys ≡ before ++ (y ∷ after) → CutAt xs before y
  cut_at [] y after each_none e = absurd (cc)
  cut_at [] y after (each_and {x = x} {y = z} {xs = xs} r es) e =
      let same : z ≡ y = cc in
      record { earlier = []; at = x; later = xs; order = refl; each = each_none; here = subst (R x) same r }
  cut_at (b ∷ before) y after each_none e = absurd (cc)
  cut_at (b ∷ before) y after (each_and {x = x} {y = z} {ys = ys} r es) e =
      let same : z ≡ b = cc in
      let tail : ys ≡ before ++ (y ∷ after) = cc in
      let u = cut_at before y after es tail in
      record { earlier = x ∷ u.earlier; at = u.at; later = u.later; order = λ i. x ∷ u.order i; each = each_and (subst (R x) same r) u.each; here = u.here }

-- each element of the first list is related to one of the second
pub each_among : {A : Type 0} (R : A → ℕ → Type 0) {xs : List A} {ys : List ℕ} → EachWith R xs ys → (x : A) → Among x xs → (y : ℕ) × In y ys × R x y
each_among R each_none x a = elim a [ ]
each_among R (each_and {y = y} r e) x at_head = (y, inl refl, r)
each_among R (each_and r e) x (further p) = let u = each_among R e x p in (u.0, inr u.1, u.2)

-- one list changed element by element
pub each_changed : {A B C : Type 0} (R : A → B → Type 0) (Q : C → B → Type 0) (f : A → C) → ((x : A) (y : B) → R x y → Q (f x) y) → {xs : List A} {ys : List B} → EachWith R xs ys → EachWith Q (map f xs) ys
each_changed R Q f g each_none = each_none
each_changed R Q f g (each_and {x = x} {y = y} r e) = each_and (g x y r) (each_changed R Q f g e)
