-- Numbers that links get, one link after another.
use Rattle.std.proofs.Common.{◌≡◌, ℕ, zero, suc, ◌+◌, ◌^◌, ◌<◌, ◌⊎◌, inl, inr, List, [], ◌∷◌, ◌++◌, length, set, slice_get, replicate, Option, Some, None, refl, sym, ap, ◌∙◌, subst, arith}
use Rattle.std.proofs.lemmas.List.{map-append, length-set, length-replicate}
use Rattle.std.proofs.lemmas.List.Elements.{All-append, All-nil, All-cons, All-weaker}
use Rattle.std.proofs.lemmas.Option.{same_Some}
use Rattle.lmn_base.specs.Links.{Numbers, no_more, known, new}
use Rattle.lmn_flatten_numbers.specs.declared.numbering.Numbering.{Numbering}
use Rattle.lmn_flatten_numbers.specs.Numberings.{keys_left, HasNumber, IsNumbering, IsNewNumbering, FollowsNumbering, GivesNumbers}
use Rattle.lmn_base.proofs.Common.{numbers_both as numbers_append}

-- ---- a table with one more number

-- what stands in a list after a write
pub read_same : {A : Type 0} (xs : List A) (k : ℕ) (a b : A) → slice_get xs k ≡ Some b → slice_get (set xs k a) k ≡ Some a
read_same [] k a b h = absurd (cc)
read_same (x ∷ xs) zero a b h = refl
read_same (x ∷ xs) (suc k) a b h = read_same xs k a b h

-- another number is as it was
pub read_other : {A : Type 0} (xs : List A) (k j : ℕ) (a : A) → (j ≡ k → ⊥) → slice_get (set xs k a) j ≡ slice_get xs j
read_other [] k j a h = refl
read_other (x ∷ xs) zero zero a h = absurd (h refl)
read_other (x ∷ xs) zero (suc j) a h = refl
read_other (x ∷ xs) (suc k) zero a h = refl
read_other (x ∷ xs) (suc k) (suc j) a h = read_other xs k j a (λ e. h (ap suc e))

-- two numbers are the same or they are not
pub same_or_other : (j k : ℕ) → (j ≡ k) ⊎ (j ≡ k → ⊥)
same_or_other j k = grind arith

one_less : (ns : List (Option ℕ)) (k m : ℕ) → slice_get ns k ≡ Some None → keys_left ns ≡ suc (keys_left (set ns k (Some m)))
one_less [] k m h = absurd (cc)
one_less (None ∷ ns) zero m h = refl
one_less (Some n ∷ ns) zero m h = absurd (cc)
one_less (None ∷ ns) (suc k) m h = ap suc (one_less ns k m h)
one_less (Some n ∷ ns) (suc k) m h = one_less ns k m h

-- at first all keys are left
pub left_none : (n : ℕ) → keys_left (replicate n None) ≡ n
left_none zero = refl
left_none (suc n) = ap suc (left_none n)

no_number : (size key n : ℕ) → slice_get (replicate size None) key ≡ Some (Some n) → ⊥
no_number zero key n h = absurd (cc)
no_number (suc size) zero n h = absurd (cc)
no_number (suc size) (suc key) n h = no_number size key n h

-- a table with no number
pub new_numbering : (size : ℕ) (numbers : List (Option ℕ)) → numbers ≡ replicate size None → size < 2 ^ 32 → IsNewNumbering size (record { numbers = numbers; count = 0 })
new_numbering size numbers e fits =
    let P : List (Option ℕ) → Type 0 = λ ns. IsNewNumbering size (record { numbers = ns; count = 0 }) in
    let nothing : Option ℕ = None in
    let size_is = length-replicate size nothing in
    let left_is = left_none size in
    subst P (sym e) (record {
      valid = record {
        below = λ key n h. absurd (no_number size key n h);
        apart = λ key other n h g. absurd (no_number size key n h);
        left = omega (arith, size_is, left_is);
        fits = omega (arith, size_is, fits);
      };
      keys = size_is;
      none = refl;
    })

-- ---- links get numbers

-- no link occurs
pub gives_none : (t : Numbering) → IsNumbering t → GivesNumbers [] t t
gives_none t v = record { valid = v; keys = refl; kept = λ key n h. h; numbered = All-nil (λ key. (n : ℕ) × HasNumber t key n); order = λ to a. no_more }

-- a link that has a number
pub gives_known : (t : Numbering) (key n : ℕ) → IsNumbering t → HasNumber t key n → GivesNumbers (key ∷ []) t t
gives_known t key n v h = record {
  valid = v;
  keys = refl;
  kept = λ key n h. h;
  numbered = All-cons (λ key. (n : ℕ) × HasNumber t key n) key [] (n, h) (All-nil (λ key. (n : ℕ) × HasNumber t key n));
  order = λ to a. let e = a key n h in let l = v.below key n h in known (omega (arith, e, l)) no_more;
}

-- what agrees after some links agrees before them
pub agrees_before : (links : List ℕ) (t u : Numbering) (to : ℕ → ℕ) → GivesNumbers links t u → FollowsNumbering to u → FollowsNumbering to t
agrees_before links t u to g a key n h = a key n (g.kept key n h)

-- a link that has none
module _ (t : Numbering) (key : ℕ) (v : IsNumbering t) (free : slice_get t.numbers key ≡ Some None) where
  abbrev after : Numbering
  after = record { numbers = set t.numbers key (Some t.count); count = t.count + 1 }

  here : HasNumber after key t.count
  here = read_same t.numbers key (Some t.count) None free

  elsewhere : (other n : ℕ) → (other ≡ key → ⊥) → HasNumber after other n → HasNumber t other n
  elsewhere other n ne h = sym (read_other t.numbers key other (Some t.count) ne) ∙ h

  it_is : (n : ℕ) → HasNumber after key n → n ≡ t.count
  it_is n h = let e = same_Some (Some n) (Some t.count) (sym h ∙ here) in same_Some n t.count e

  pub room : t.count < length t.numbers
  room = let l = v.left in let m = one_less t.numbers key 0 free in omega (arith, l, m)

  valid_after : IsNumbering after
  valid_after = record {
    below = λ other n h. go_below other n h (same_or_other other key);
    apart = λ a b n h g. go_apart a b n h g (same_or_other a key) (same_or_other b key);
    left = let l = v.left in let m = one_less t.numbers key t.count free in let s = length-set t.numbers key (Some t.count) in omega (arith, l, m, s);
    fits = let f = v.fits in let s = length-set t.numbers key (Some t.count) in omega (arith, f, s);
  }
    where
      go_below : (other n : ℕ) → HasNumber after other n → (other ≡ key) ⊎ (other ≡ key → ⊥) → n < t.count + 1
      go_below other n h (inl e) = let i = it_is n (subst (λ k. HasNumber after k n) e h) in omega (arith, i)
      go_below other n h (inr ne) = let l = v.below other n (elsewhere other n ne h) in omega (arith, l)

      go_apart : (a b n : ℕ) → HasNumber after a n → HasNumber after b n → (a ≡ key) ⊎ (a ≡ key → ⊥) → (b ≡ key) ⊎ (b ≡ key → ⊥) → a ≡ b
      go_apart a b n h g (inl e) (inl f) = e ∙ sym f
      go_apart a b n h g (inl e) (inr f) =
          let i = it_is n (subst (λ k. HasNumber after k n) e h) in
          let l = v.below b n (elsewhere b n f g) in absurd (omega (arith, i, l))
      go_apart a b n h g (inr e) (inl f) =
          let i = it_is n (subst (λ k. HasNumber after k n) f g) in
          let l = v.below a n (elsewhere a n e h) in absurd (omega (arith, i, l))
      go_apart a b n h g (inr e) (inr f) = v.apart a b n (elsewhere a n e h) (elsewhere b n f g)

  pub gives_new : GivesNumbers (key ∷ []) t after
  gives_new = record {
    valid = valid_after;
    keys = length-set t.numbers key (Some t.count);
    kept = λ other n h. go other n h (same_or_other other key);
    numbered = All-cons (λ key. (n : ℕ) × HasNumber after key n) key [] (t.count, here) (All-nil (λ key. (n : ℕ) × HasNumber after key n));
    order = λ to a. next (to key) (a key t.count here);
  }
    where
      go : (other n : ℕ) → HasNumber t other n → (other ≡ key) ⊎ (other ≡ key → ⊥) → HasNumber after other n
      go other n h (inl e) = absurd (not_both (subst (λ k. HasNumber t k n) e h))
        where
          not_both : HasNumber t key n → ⊥
          not_both g = let e = same_Some None (Some n) (sym free ∙ g) in absurd (cc)
      go other n h (inr ne) = read_other t.numbers key other (Some t.count) ne ∙ h

      next : (x : ℕ) → x ≡ t.count → Numbers t.count (x ∷ []) (t.count + 1)
      next x e =
          let P : ℕ → Type 0 = λ y. Numbers t.count (y ∷ []) (t.count + 1) in
          let Q : ℕ → Type 0 = λ m. Numbers t.count (t.count ∷ []) m in
          let m : suc t.count ≡ t.count + 1 = omega arith in
          subst P (sym e) (subst Q m (new no_more))

  -- what agrees gives this link the number
  pub number_is : (to : ℕ → ℕ) → FollowsNumbering to after → t.count ≡ to key
  number_is to a = sym (a key t.count here)

-- some links, and then others
pub gives_more : (ks js : List ℕ) (t u v : Numbering) → GivesNumbers ks t u → GivesNumbers js u v → GivesNumbers (ks ++ js) t v
gives_more ks js t u v g h = record {
  valid = h.valid;
  keys = h.keys ∙ g.keys;
  kept = λ key n i. h.kept key n (g.kept key n i);
  numbered = All-append (λ key. (n : ℕ) × HasNumber v key n) ks js
      (All-weaker (λ key. (n : ℕ) × HasNumber u key n) (λ key. (n : ℕ) × HasNumber v key n) (λ key i. (i.0, h.kept key i.0 i.1)) ks g.numbered) h.numbered;
  order = λ to a.
      let P : List ℕ → Type 0 = λ xs. Numbers t.count xs v.count in
      subst P (sym (map-append to ks js)) (numbers_append (g.order to (agrees_before js u v to h a)) (h.order to a));
}

-- the same, as the code has it
module _ (t : Numbering) (key : ℕ) (was : Option ℕ) (numbers : List (Option ℕ)) (v : IsNumbering t) (read : slice_get t.numbers key ≡ Some was) where
  pub gives_old : (n : ℕ) → was ≡ Some n → GivesNumbers (key ∷ []) t t
  gives_old n e = gives_known t key n v (read ∙ ap Some e)

  pub room_left : was ≡ None → t.count < length t.numbers
  room_left e = room t key v (read ∙ ap Some e)

  pub gives_next : was ≡ None → numbers ≡ set t.numbers key (Some t.count) → GivesNumbers (key ∷ []) t (record { numbers = numbers; count = t.count + 1 })
  gives_next e w =
      let P : List (Option ℕ) → Type 0 = λ ns. GivesNumbers (key ∷ []) t (record { numbers = ns; count = t.count + 1 }) in
      subst P (sym w) (gives_new t key v (read ∙ ap Some e))

  pub next_is : was ≡ None → numbers ≡ set t.numbers key (Some t.count) → (to : ℕ → ℕ) → FollowsNumbering to (record { numbers = numbers; count = t.count + 1 }) → t.count ≡ to key
  next_is e w to a =
      let P : List (Option ℕ) → Type 0 = λ ns. FollowsNumbering to (record { numbers = ns; count = t.count + 1 }) in
      number_is t key v (read ∙ ap Some e) to (subst P w a)
