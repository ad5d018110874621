-- Places of bytes in texts, and texts that have none of a byte.
use Rattle.std.proofs.Common.{◌≡◌, ◌≢◌, ◌<◌, ◌≤◌, ◌+◌, ◌^◌, ◌⊎◌, inl, inr, ◌==◌, not, zero, suc, ℕ, ℤ, pos, negsuc, true, List, [], ◌∷◌, ◌++◌, length, get_or, drop, take, refl, sym, ap, ◌∙◌, arith, true≢false}
use Rattle.std.specs.List.{list_all}
use Rattle.std.specs.Fmt.{decimal, signed_decimal}
use Rattle.std.specs.Str.Parse.{AllDigits}
use Rattle.std.proofs.lemmas.Bool.{and_parts, cases_lt}
use Rattle.std.proofs.lemmas.Bool.Decides.{Decides-eqb}
use Rattle.std.proofs.lemmas.List.{length-append, length-take-le, get_or_append_left, get_or-take, get_or_at, take_at, drop_at}
use Rattle.std.proofs.lemmas.Fmt.{decimal_is_IsNumeral}
use Rattle.std.proofs.lemmas.Str.Parse.{digit_from_value}
use Rattle.lmn_instr_reading.specs.Reading.{IsIn64Bits}
use Rattle.lmn_verify_listing.specs.Lines.{HasNo, IsPlaceOf}

-- of a text without a byte none is it
pub has_no_at : (byte : ℕ) (text : List ℕ) (k : ℕ) → HasNo byte text → k < length text → get_or text k 0 ≢ byte
has_no_at byte [] k h l = absurd (omega (arith, l))
has_no_at byte (b ∷ bs) zero h l = h.0
has_no_at byte (b ∷ bs) (suc k) h l = has_no_at byte bs k h.1 (omega (arith, l))

-- nothing stands behind, or this byte first
abbrev pub IsBehind : ℕ → List ℕ → Type 0
IsBehind byte rest = (rest ≡ []) ⊎ ((more : List ℕ) × (rest ≡ byte ∷ more))

-- a text without the byte, and behind it nothing or the byte: the place is where it ends
pub place_is : (byte : ℕ) (text t rest : List ℕ) (at : ℕ) → IsPlaceOf byte text at → HasNo byte t → IsBehind byte rest → t ++ rest ≡ text → at ≡ length t
place_is byte text t rest at p h b e = go (cases_lt at (length t)) (cases_lt (length t) at)
  where
    size : length text ≡ length t + length rest
    size = ap length (sym e) ∙ length-append t rest

    before : at < length t → ⊥
    before l =
        let here : get_or text at 0 ≡ get_or t at 0 = ap (λ z. get_or z at 0) (sym e) ∙ get_or_append_left t rest 0 at l in
        has_no_at byte t at h l (sym here ∙ p.there (omega (arith, size)))

    behind : IsBehind byte rest → length t < at → ⊥
    behind (inl n) l = let none : length rest ≡ 0 = ap length n in let w = p.within in omega (arith, size)
    behind (inr (more, n)) l =
        let here : get_or text (length t) 0 ≡ byte = ap (λ z. get_or z (length t) 0) (sym e ∙ ap (λ z. t ++ z) n) ∙ get_or_at t byte more 0 (length t) refl in
        let long = length-take-le at text p.within in
        has_no_at byte (take at text) (length t) p.before (omega arith) (get_or-take at text (length t) 0 l ∙ here)

    go : (at < length t) ⊎ (length t ≤ at) → (length t < at) ⊎ (at ≤ length t) → at ≡ length t
    go (inl l) m = absurd (before l)
    go (inr l) (inl m) = absurd (behind b m)
    go (inr l) (inr m) = omega arith

-- so it is cut there
pub cut_there : (byte : ℕ) (text t rest : List ℕ) (at : ℕ) → IsPlaceOf byte text at → HasNo byte t → IsBehind byte rest → t ++ rest ≡ text → (take at text ≡ t) × (drop at text ≡ rest)
cut_there byte text t rest at p h b e =
    let n = place_is byte text t rest at p h b e in
    (ap (take at) (sym e) ∙ take_at t rest at (sym n), ap (drop at) (sym e) ∙ drop_at t rest at (sym n))

-- the test that no byte is this one
pub has_no_by_test : (byte : ℕ) (text : List ℕ) → list_all (λ b. not (b == byte)) text ≡ true → HasNo byte text
has_no_by_test byte [] h = tt
has_no_by_test byte (b ∷ bs) h =
    let parts = and_parts _ _ h in
    ((λ e. true≢false (sym parts.0 ∙ ap not ((Decides-eqb b byte).1 e))), has_no_by_test byte bs parts.1)

-- digits are none of the lesser bytes
pub has_no_digits : (byte : ℕ) (ds : List ℕ) → byte < 48 → AllDigits 10 ds → HasNo byte ds
has_no_digits byte [] l h = tt
has_no_digits byte (c ∷ cs) l h = ((λ e. (let r = digit_from_value c h.0 in omega (arith, r.0, r.1))), has_no_digits byte cs l h.1)

pub has_no_decimal : (byte n : ℕ) → byte < 48 → n < 2 ^ 64 → HasNo byte (decimal n)
has_no_decimal byte n l small = has_no_digits byte (decimal n) l (decimal_is_IsNumeral n small).0.1

-- a `-` neither
pub has_no_signed : (byte : ℕ) (z : ℤ) → byte < 45 → IsIn64Bits z → HasNo byte (signed_decimal z)
has_no_signed byte (pos n) l small = has_no_decimal byte n (omega arith) (omega arith)
has_no_signed byte (negsuc n) l small = (omega arith, has_no_decimal byte (suc n) (omega arith) (omega arith))
