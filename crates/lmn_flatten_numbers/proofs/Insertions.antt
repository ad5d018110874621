-- Places by rising place, with one place more.
use Rattle.std.proofs.Common.{◌≡◌, ℕ, ◌<◌, ◌≤◌, ◌⊎◌, ◌==◌, ◌&&◌, ◌||◌, Bool, true, false, if◌then◌else◌, List, [], ◌∷◌, ◌++◌, slice_get, Option, Some, None, AllPairs, refl, sym, ap, ◌∙◌, subst, arith}
use Rattle.std.specs.List.Sorted.{IsPermutation}
use Rattle.std.specs.Prelude.{nat_lt, nat_le}
use Rattle.std.proofs.lemmas.Bool.Decides.{nat_tests}
use Rattle.std.proofs.lemmas.List.Kept.{AllPairs-cons}
use Rattle.std.proofs.lemmas.List.Sorted.{IsPermutation-refl, IsPermutation-trans, IsPermutation-cons, IsPermutation-append_comm, All-permutation}
use Rattle.lmn_base.specs.declared.refusal.Pos.{Pos}
use Rattle.lmn_base.specs.LinkUses.{NotAfter}
use Rattle.lmn_base.specs.PlaceOrder.{not_after}
use Rattle.lmn_flatten_numbers.specs.declared.tally.FirstPlaces.{FirstPlaces}
use Rattle.lmn_flatten_numbers.specs.Tallies.{comes_before, Rising, AreFirstThree, AreFirst}
use Rattle.lmn_base.proofs.Common.{all_cons, first_before_all as head_first, pairs_tail as tail_rises, swapped_places as swapped, all_after}

-- ---- the order of places

is_before : (p q : Pos) → not_after p q ≡ true → NotAfter p q
is_before p q h = of_tests p.line q.line p.column q.column h
  where
    of_tests : (a b c d : ℕ) → (nat_lt a b || ((a == b) && nat_le c d)) ≡ true → (a < b) ⊎ ((a ≡ b) × (c ≤ d))
    of_tests a b c d h = grind (arith, nat_tests)

is_behind : (p q : Pos) → not_after p q ≡ false → NotAfter q p
is_behind p q h = of_tests p.line q.line p.column q.column h
  where
    of_tests : (a b c d : ℕ) → (nat_lt a b || ((a == b) && nat_le c d)) ≡ false → (b < a) ⊎ ((b ≡ a) × (d ≤ c))
    of_tests a b c d h = grind (arith, nat_tests)

-- ---- one place is put where it belongs

abbrev put : Pos → List Pos → List Pos
put p [] = p ∷ []
put p (q ∷ qs) = if not_after p q then p ∷ q ∷ qs else q ∷ put p qs

put_front : (p : Pos) (ps : List Pos) → comes_before p (slice_get ps 0) ≡ true → put p ps ≡ p ∷ ps
put_front p [] h = refl
put_front p (q ∷ qs) h = ap (λ t. if t then p ∷ q ∷ qs else q ∷ put p qs) h

put_behind : (p q : Pos) (qs : List Pos) → comes_before p (slice_get (q ∷ qs) 0) ≡ false → put p (q ∷ qs) ≡ q ∷ put p qs
put_behind p q qs h = ap (λ t. if t then p ∷ q ∷ qs else q ∷ put p qs) h

same_places : (p : Pos) (ps : List Pos) → IsPermutation (p ∷ ps) (put p ps)
same_places p [] = IsPermutation-refl (p ∷ [])
same_places p (q ∷ qs) = go (not_after p q) refl (same_places p qs)
  where
    go : (t : Bool) → not_after p q ≡ t → IsPermutation (p ∷ qs) (put p qs) → IsPermutation (p ∷ q ∷ qs) (if t then p ∷ q ∷ qs else q ∷ put p qs)
    go true e more = IsPermutation-refl (p ∷ q ∷ qs)
    go false e more = IsPermutation-trans (p ∷ q ∷ qs) (q ∷ p ∷ qs) (q ∷ put p qs) (swapped p q qs) (IsPermutation-cons q (p ∷ qs) (put p qs) more)

still_rise : (p : Pos) (ps : List Pos) → AllPairs NotAfter ps → AllPairs NotAfter (put p ps)
still_rise p [] h = λ i j d l m. absurd (omega (arith, l, m))
still_rise p (q ∷ qs) h = go (not_after p q) refl (still_rise p qs (tail_rises q qs h))
  where
    go : (t : Bool) → not_after p q ≡ t → AllPairs NotAfter (put p qs) → AllPairs NotAfter (if t then p ∷ q ∷ qs else q ∷ put p qs)
    go true e more = AllPairs-cons NotAfter p (q ∷ qs) (all_after p q qs (is_before p q e) h) h
    go false e more =
        AllPairs-cons NotAfter q (put p qs) (All-permutation (NotAfter q) (p ∷ qs) (put p qs) (same_places p qs) (all_cons (NotAfter q) p qs (is_behind p q e) (head_first q qs h))) more

put_rising : (p : Pos) (places ps : List Pos) → Rising places ps → Rising (places ++ p ∷ []) (put p ps)
put_rising p places ps r = record {
  same = IsPermutation-trans (places ++ p ∷ []) (p ∷ places) (put p ps) (IsPermutation-append_comm places (p ∷ []))
      (IsPermutation-trans (p ∷ places) (p ∷ ps) (put p ps) (IsPermutation-cons p places ps r.same) (same_places p ps));
  rise = still_rise p ps r.rise;
}

-- ---- the first three of the places

absurd_front : (p : Pos) (o : Option Pos) → o ≡ None → comes_before p o ≡ false → ⊥
absurd_front p o e h = let f : comes_before p o ≡ true = ap (comes_before p) e in absurd (cc)

put_first : (p : Pos) (ps : List Pos) (f : FirstPlaces) → AreFirstThree ps f → comes_before p f.first ≡ true → AreFirstThree (put p ps) (record { first = Some p; second = f.first; third = f.second })
put_first p ps f h a =
    let P : List Pos → Type 0 = λ qs. AreFirstThree qs (record { first = Some p; second = f.first; third = f.second }) in
    subst P (sym (put_front p ps (ap (comes_before p) (sym h.first) ∙ a))) (record { first = refl; second = h.first; third = h.second })

put_second : (p : Pos) (ps : List Pos) (f : FirstPlaces) → AreFirstThree ps f → comes_before p f.first ≡ false → comes_before p f.second ≡ true
    → AreFirstThree (put p ps) (record { first = f.first; second = Some p; third = f.second })
put_second p [] f h a b = absurd (absurd_front p f.first h.first a)
put_second p (q ∷ qs) f h a b =
    let P : List Pos → Type 0 = λ xs. AreFirstThree xs (record { first = f.first; second = Some p; third = f.second }) in
    let e = put_behind p q qs (ap (comes_before p) (sym h.first) ∙ a) ∙ ap (λ xs. q ∷ xs) (put_front p qs (ap (comes_before p) (sym h.second) ∙ b)) in
    subst P (sym e) (record { first = h.first; second = refl; third = h.second })

put_third : (p : Pos) (ps : List Pos) (f : FirstPlaces) → AreFirstThree ps f → comes_before p f.first ≡ false → comes_before p f.second ≡ false → comes_before p f.third ≡ true
    → AreFirstThree (put p ps) (record { first = f.first; second = f.second; third = Some p })
put_third p [] f h a b c = absurd (absurd_front p f.first h.first a)
put_third p (q ∷ []) f h a b c = absurd (absurd_front p f.second h.second b)
put_third p (q ∷ r ∷ qs) f h a b c =
    let P : List Pos → Type 0 = λ xs. AreFirstThree xs (record { first = f.first; second = f.second; third = Some p }) in
    let e = put_behind p q (r ∷ qs) (ap (comes_before p) (sym h.first) ∙ a)
    ∙ ap (λ xs. q ∷ xs) (put_behind p r qs (ap (comes_before p) (sym h.second) ∙ b) ∙ ap (λ xs. r ∷ xs) (put_front p qs (ap (comes_before p) (sym h.third) ∙ c))) in
    subst P (sym e) (record { first = h.first; second = h.second; third = refl })

put_later : (p : Pos) (ps : List Pos) (f : FirstPlaces) → AreFirstThree ps f → comes_before p f.first ≡ false → comes_before p f.second ≡ false → comes_before p f.third ≡ false
    → AreFirstThree (put p ps) f
put_later p [] f h a b c = absurd (absurd_front p f.first h.first a)
put_later p (q ∷ []) f h a b c = absurd (absurd_front p f.second h.second b)
put_later p (q ∷ r ∷ []) f h a b c = absurd (absurd_front p f.third h.third c)
put_later p (q ∷ r ∷ s ∷ qs) f h a b c =
    let P : List Pos → Type 0 = λ xs. AreFirstThree xs f in
    let e = put_behind p q (r ∷ s ∷ qs) (ap (comes_before p) (sym h.first) ∙ a)
    ∙ ap (λ xs. q ∷ xs) (put_behind p r (s ∷ qs) (ap (comes_before p) (sym h.second) ∙ b) ∙ ap (λ xs. r ∷ xs) (put_behind p s qs (ap (comes_before p) (sym h.third) ∙ c))) in
    subst P (sym e) (record { first = h.first; second = h.second; third = h.third })

-- the first three with one place more, by where it belongs
put_in : (p : Pos) (ps : List Pos) (f g : FirstPlaces) → AreFirst ps f → ((qs : List Pos) → AreFirstThree qs f → AreFirstThree (put p qs) g) → AreFirst (ps ++ p ∷ []) g
put_in p ps f g h k = record { rising = put p h.rising; sorted = put_rising p ps h.rising h.sorted; first = k h.rising h.first }

module _ (p : Pos) (f : FirstPlaces) where
  pub first_more : comes_before p f.first ≡ true → (ps : List Pos) → AreFirst ps f → AreFirst (ps ++ p ∷ []) (record { first = Some p; second = f.first; third = f.second })
  first_more a ps h = put_in p ps f _ h (λ qs k. put_first p qs f k a)

  pub second_more : comes_before p f.first ≡ false → comes_before p f.second ≡ true → (ps : List Pos) → AreFirst ps f
      → AreFirst (ps ++ p ∷ []) (record { first = f.first; second = Some p; third = f.second })
  second_more a b ps h = put_in p ps f _ h (λ qs k. put_second p qs f k a b)

  pub third_more : comes_before p f.first ≡ false → comes_before p f.second ≡ false → comes_before p f.third ≡ true → (ps : List Pos) → AreFirst ps f
      → AreFirst (ps ++ p ∷ []) (record { first = f.first; second = f.second; third = Some p })
  third_more a b c ps h = put_in p ps f _ h (λ qs k. put_third p qs f k a b c)

  pub none_more : comes_before p f.first ≡ false → comes_before p f.second ≡ false → comes_before p f.third ≡ false → (ps : List Pos) → AreFirst ps f → AreFirst (ps ++ p ∷ []) f
  none_more a b c ps h = put_in p ps f f h (λ qs k. put_later p qs f k a b c)
