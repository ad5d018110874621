-- A name has a text that no other has, nor an integer.
use Rattle.std.proofs.Common.{ℕ, ℤ, pos, negsuc, ◌≡◌, ◌<◌, ◌≤◌, ◌⊎◌, inl, inr, Bool, true, false, List, [], ◌∷◌, ◌++◌, length, refl, sym, ap, ◌∙◌, arith, if◌then◌else◌}
use Rattle.std.specs.Char.{is_ascii_lowercase}
use Rattle.std.specs.Fmt.{decimal, signed_decimal}
use Rattle.std.specs.Int.{is_in_range}
use Rattle.std.specs.List.{flat_map, list_all}
use Rattle.std.specs.Str.Parse.{AllDigits}
use Rattle.std.proofs.lemmas.Bool.{leb-true}
use Rattle.std.proofs.lemmas.Fmt.{decimal_is_IsNumeral, decimal_nonempty}
use Rattle.std.proofs.lemmas.List.{append_cancel_left, append_cancel_right}
use Rattle.std.proofs.lemmas.Str.Parse.{digit_from_value}
use Rattle.lmn_base.proofs.Lists.{head_is, tail_is}
use Rattle.lmn_base.proofs.Truth.{and_true}
use Rattle.lmn_instr_reading.proofs.QuotedLemmas.{first_of_name, quoted_begins}
use Rattle.lmn_instr_reading.specs.Reading.{IsIn64Bits}
use Rattle.lmn_lexer.proofs.Common.{bare_unquoted}
use Rattle.lmn_lexer.specs.NameText.{name_text, quoted, quoted_byte}
use Rattle.lmn_lexer.specs.Spelling.{goes_on, is_bare_name}

-- bytes between quotes are those of one name
pub quoted_one : (a b : List ℕ) → flat_map quoted_byte a ≡ flat_map quoted_byte b → a ≡ b
quoted_one [] [] e = refl
quoted_one [] (y ∷ b) e = absurd (let z = e ∙ ap (λ t. t ++ flat_map quoted_byte b) (quoted_begins y).1 in cc)
quoted_one (x ∷ a) b e =
    let q = quoted_begins x in
    let front : flat_map quoted_byte b ≡ x ∷ (q.0 ++ flat_map quoted_byte a) = sym e ∙ ap (λ t. t ++ flat_map quoted_byte a) q.1 in
    let f = first_of_name b (q.0 ++ flat_map quoted_byte a) x front in
    let rest : quoted_byte x ++ flat_map quoted_byte a ≡ quoted_byte x ++ flat_map quoted_byte f.0 = ap (λ t. t ++ flat_map quoted_byte a) q.1 ∙ sym f.2 in
    ap (λ t. x ∷ t) (quoted_one a f.0 (append_cancel_left (quoted_byte x) _ _ rest)) ∙ sym f.1

-- a text is that of one name
pub one_name : (a b : List ℕ) → name_text a ≡ name_text b → a ≡ b
one_name a b = by (is_bare_name a) (is_bare_name b) refl refl
  where
    by : (p q : Bool) → is_bare_name a ≡ p → is_bare_name b ≡ q → (if p then a else quoted a) ≡ (if q then b else quoted b) → a ≡ b
    by true true h k e = e
    by true false h k e = absurd (bare_unquoted a _ h e)
    by false true h k e = absurd (bare_unquoted b _ k (sym e))
    by false false h k e = quoted_one a b (append_cancel_right _ _ (39 ∷ []) (tail_is e))

-- it begins with a quote or a small letter
abbrev BeginsName : List ℕ → Type 0
BeginsName text = (c : ℕ) × (rest : List ℕ) × (text ≡ c ∷ rest) × ((c ≡ 39) ⊎ (97 ≤ c))

name_begins : (name : List ℕ) → BeginsName (name_text name)
name_begins name = by (is_bare_name name) refl
  where
    bare : (bytes : List ℕ) → is_bare_name bytes ≡ true → BeginsName bytes
    bare [] h = absurd (cc)
    bare (b ∷ bs) h =
        let low = (and_true (is_ascii_lowercase b) (list_all goes_on bs) h).0 in
        (b, bs, refl, inr (at_least b low))
      where
        at_least : (b : ℕ) → is_in_range 97 122 b ≡ true → 97 ≤ b
        at_least b e = leb-true 97 b (and_true _ _ e).0

    by : (p : Bool) → is_bare_name name ≡ p → BeginsName (if p then name else quoted name)
    by true h = bare name h
    by false h = (39, _, refl, inl refl)

-- the text of an integer begins with a `-` or a digit
abbrev BeginsInteger : List ℕ → Type 0
BeginsInteger text = (c : ℕ) × (rest : List ℕ) × (text ≡ c ∷ rest) × ((c ≡ 45) ⊎ ((48 ≤ c) × (c ≤ 57)))

integer_begins : (z : ℤ) → IsIn64Bits z → BeginsInteger (signed_decimal z)
integer_begins (pos n) h = digits (decimal n) (decimal_nonempty n (omega (arith, h))) (decimal_is_IsNumeral n (omega (arith, h))).0.1
  where
    digits : (bytes : List ℕ) → 0 < length bytes → AllDigits 10 bytes → BeginsInteger bytes
    digits [] l d = absurd (omega (arith, l))
    digits (c ∷ cs) l d = let r = digit_from_value c d.0 in (c, cs, refl, inr (r.0, r.1))
integer_begins (negsuc n) h = (45, _, refl, inl refl)

-- so no name has the text of an integer
pub name_no_integer : (name : List ℕ) (z : ℤ) → IsIn64Bits z → name_text name ≡ signed_decimal z → ⊥
name_no_integer name z h e =
    let a = name_begins name in
    let b = integer_begins z h in
    let same : a.0 ≡ b.0 = head_is (sym a.2 ∙ e ∙ b.2) in
    apart a.0 b.0 same a.3 b.3
  where
    apart : (c d : ℕ) → c ≡ d → (c ≡ 39) ⊎ (97 ≤ c) → (d ≡ 45) ⊎ ((48 ≤ d) × (d ≤ 57)) → ⊥
    apart c d e (inl q) (inl m) = absurd (omega (arith, e, q, m))
    apart c d e (inl q) (inr (l, m)) = absurd (omega (arith, e, q, l))
    apart c d e (inr q) (inl m) = absurd (omega (arith, e, q, m))
    apart c d e (inr q) (inr (l, m)) = absurd (omega (arith, e, q, m))
