-- Numbers and integers in decimal, as a text spells them.
use Rattle.std.proofs.Common.{◌≡◌, ℕ, zero, suc, ◌+◌, ◌-◌, ◌*◌, ◌/◌, ◌%◌, ◌<◌, ◌≤◌, ◌^◌, ◌==◌, Bool, true, false, if◌then◌else◌, List, [], ◌∷◌, ◌++◌, ℤ, pos, negsuc, FitsSigned, w64, inl, inr, refl, sym, ap, ◌∙◌, arith}
use Rattle.std.specs.Char.{is_ascii_digit}
use Rattle.std.specs.Fmt.{decimal, signed_decimal}
use Rattle.std.specs.Prelude.{nat_lt}
use Rattle.std.proofs.lemmas.Bool.{ltb-true, ltb-false}
use Rattle.std.proofs.lemmas.Bool.Decides.{nat_tests}
use Rattle.std.proofs.lemmas.Fmt.{decimal_by_steps, decimal_digit, decimal_step_wide}
use Rattle.lmn_lexer.specs.Faults.{value_behind, SpelledInRange}
use Rattle.lmn_lexer.specs.Spelling.{IsDigits, IsIntegerSpelling, AllPass}
use Rattle.lmn_lexer.specs.Values.{integer_of, minus_of}
use Rattle.lmn_flatten_plain.specs.Numerals.{last_digits, numeral}

-- the byte of a digit is one
pub digit_passes : (n : ℕ) → n < 10 → is_ascii_digit (48 + n) ≡ true
digit_passes n h = grind (arith, nat_tests)

not_minus : (b : ℕ) → is_ascii_digit b ≡ true → (b == 45) ≡ false
not_minus b h = grind (arith, nat_tests)

-- one byte more that passes the test
pub passes_more : (test : ℕ → Bool) (ds : List ℕ) (d : ℕ) → AllPass test ds → test d ≡ true → AllPass test (ds ++ d ∷ [])
passes_more test [] d h k = (k, tt)
passes_more test (c ∷ ds) d h k = (h.0, passes_more test ds d h.1 k)

digits_more : (ds : List ℕ) (d : ℕ) → IsDigits ds → is_ascii_digit d ≡ true → IsDigits (ds ++ d ∷ [])
digits_more [] d h k = absurd h
digits_more (c ∷ ds) d h k = (h.0, passes_more is_ascii_digit ds d h.1 k)

value_more : (m : ℕ) (ds : List ℕ) (d : ℕ) → value_behind m (ds ++ d ∷ []) ≡ value_behind m ds * 10 + (d - 48)
value_more m [] d = refl
value_more m (c ∷ ds) d = value_more (m * 10 + (c - 48)) ds d

-- the digits write the number
abbrev Writes : ℕ → List ℕ → Type 0
Writes n ds = IsDigits ds × (value_behind 0 ds ≡ n)

one_digit : (n : ℕ) → n < 10 → Writes n ((48 + n) ∷ [])
one_digit n h = ((digit_passes n h, tt), omega arith)

more_digits : (n : ℕ) (ds : List ℕ) → 10 ≤ n → Writes (n / 10) ds → Writes n (ds ++ (48 + n % 10) ∷ [])
more_digits n ds h w =
    let last : n % 10 < 10 = omega arith in
    (digits_more ds (48 + n % 10) w.0 (digit_passes (n % 10) last), value_more 0 ds (48 + n % 10) ∙ omega (arith, w.1))

decimal_writes : (n : ℕ) → n < 2 ^ 64 → Writes n (decimal n)
decimal_writes n h = decimal_by_steps Writes one_digit more_digits n h

-- What holds of one digit, and of a number's digits with one more behind them, holds of each numeral.
module _ (P : ℕ → List ℕ → Type 0) (one : (n : ℕ) → n < 10 → P n ((48 + n) ∷ []))
    (more : (n : ℕ) (ds : List ℕ) → 10 ≤ n → P (n / 10) ds → P n (ds ++ (48 + n % 10) ∷ [])) where
  one_step : (most n : ℕ) (b : Bool) → nat_lt n 10 ≡ b → (10 ≤ n → P (n / 10) (last_digits most (n / 10)))
      → P n (if b then (48 + n) ∷ [] else last_digits most (n / 10) ++ (48 + n % 10) ∷ [])
  one_step most n true e before = one n (ltb-true n 10 e)
  one_step most n false e before = let large = ltb-false n 10 e in more n (last_digits most (n / 10)) large (before large)

  by_steps : (most n : ℕ) → n < most → P n (last_digits most n)
  by_steps zero n h = absurd (omega (arith, h))
  by_steps (suc most) n h = one_step most n (nat_lt n 10) refl (λ large. by_steps most (n / 10) (omega (arith, large, h)))

  pub numeral_by_steps : (n : ℕ) → P n (numeral n)
  unfolding numeral
  numeral_by_steps n = by_steps (suc n) n (omega arith)

-- a numeral writes its number
pub numeral_writes : (n : ℕ) → Writes n (numeral n)
numeral_writes n = numeral_by_steps Writes one_digit more_digits n

-- numbers with one numeral are one
pub numeral_same : (m n : ℕ) → numeral m ≡ numeral n → m ≡ n
numeral_same m n e = sym (numeral_writes m).1 ∙ ap (value_behind 0) e ∙ (numeral_writes n).1

-- with 64 digits at most it is what the library writes
pub numeral_is_decimal : (n : ℕ) → n < 10 ^ 64 → numeral n ≡ decimal n
numeral_is_decimal n small =
    numeral_by_steps (λ m ds. m < 10 ^ 64 → ds ≡ decimal m) (λ m h k. sym (decimal_digit m h))
    (λ m ds h e k. ap (λ ds. ds ++ (48 + m % 10) ∷ []) (e (omega (arith, k))) ∙ sym (decimal_step_wide m h k)) n small

-- the bytes spell the integer, and it is in range
pub record SpellsInteger (z : ℤ) (bytes : List ℕ) : Type 0 where
  pub spells : IsIntegerSpelling true bytes
  pub in_range : SpelledInRange bytes
  pub value : integer_of bytes ≡ z

natural_spelled : (n : ℕ) (ds : List ℕ) → n ≤ 2 ^ 63 - 1 → Writes n ds → SpellsInteger (pos n) ds
natural_spelled n [] h w = absurd w.0
natural_spelled n (d ∷ ds) h w =
    let sign = not_minus d w.0.0 in
    record {
      spells = inl w.0;
      in_range = inr (λ e. let k : (45 == 45) ≡ false = ap (λ b. b == 45) (sym e) ∙ sign in cc, omega (arith, w.1));
      value = ap (λ t. if t then minus_of (value_behind 0 ds) else pos (value_behind 0 (d ∷ ds))) sign ∙ ap pos w.1;
    }

negative_spelled : (n : ℕ) (ds : List ℕ) → suc n ≤ 2 ^ 63 → Writes (suc n) ds → SpellsInteger (negsuc n) (45 ∷ ds)
negative_spelled n ds h w = record { spells = inr (refl, refl, w.0); in_range = inl (refl, omega (arith, w.1)); value = ap minus_of w.1 }

-- an integer of 64 bits is spelled by its decimal digits
pub integer_spelled : (z : ℤ) → FitsSigned w64 z → SpellsInteger z (signed_decimal z)
integer_spelled (pos n) h = let fits = h.sfits in natural_spelled n (decimal n) (omega arith) (decimal_writes n (omega arith))
integer_spelled (negsuc n) h = let fits = h.sfits in negative_spelled n (decimal (suc n)) (omega arith) (decimal_writes (suc n) (omega arith))
