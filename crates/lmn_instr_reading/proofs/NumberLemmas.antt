-- Small numbers.
use Rattle.std.proofs.Common.{ℕ, ◌≡◌, ◌≤◌, ◌<◌, ◌&&◌, Bool, true, false, List, [], ◌∷◌, Some, None, length, refl, subst, arith, if◌then◌else◌}
use Rattle.std.specs.Prelude.{nat_le}
use Rattle.std.specs.Char.{is_ascii_digit}
use Rattle.std.specs.List.{list_all}
use Rattle.std.proofs.lemmas.Bool.{leb-true}
use Rattle.lmn_base.proofs.Truth.{and_true}
use Rattle.lmn_lexer.proofs.FaultLemmas.{value_grows}
use Rattle.lmn_lexer.specs.Faults.{value_behind}
use Rattle.lmn_instr_reading.specs.Lines.{HasNoSpace, are_digits, number_written, small_value}

-- a number that is written is written by digits
pub digits_of : (digits : List ℕ) (n : ℕ) → number_written digits ≡ Some n → (list_all is_ascii_digit digits ≡ true) × (small_value digits ≡ Some n)
digits_of digits n e = go (are_digits digits) refl e
  where
    go : (b : Bool) → are_digits digits ≡ b → (if b then small_value digits else None) ≡ Some n → (list_all is_ascii_digit digits ≡ true) × (small_value digits ≡ Some n)
    go true d h = ((and_true (nat_le (length digits) 7) (list_all is_ascii_digit digits) (and_true (nat_le 1 (length digits)) (nat_le (length digits) 7 && list_all is_ascii_digit digits) d).1).1, h)
    go false d h = absurd (cc)

-- digits are no spaces
pub no_space : (digits : List ℕ) → list_all is_ascii_digit digits ≡ true → HasNoSpace digits
no_space [] h = tt
no_space (d ∷ ds) h =
    let a = and_true (is_ascii_digit d) (list_all is_ascii_digit ds) h in
    ((λ e. no (subst (λ x. is_ascii_digit x ≡ true) e a.0)), no_space ds a.1)
  where
    no : is_ascii_digit 32 ≡ true → ⊥
    no e = absurd (cc)

-- what they write is small
pub small_number : (digits : List ℕ) (n : ℕ) → number_written digits ≡ Some n → n ≤ 1000000
small_number digits n e = go (value_behind 0 digits) (digits_of digits n e).1
  where
    go : (v : ℕ) → (if nat_le v 1000000 then Some v else None) ≡ Some n → n ≤ 1000000
    go v = by (nat_le v 1000000) refl
      where
        by : (b : Bool) → nat_le v 1000000 ≡ b → (if b then Some v else None) ≡ Some n → n ≤ 1000000
        by true h f = let same : v ≡ n = cc in let low = leb-true v 1000000 h in omega (arith, low, same)
        by false h f = absurd (cc)

-- a number that isn't small is none
not_small : (v : ℕ) → 1000000 < v → None ≡ (if nat_le v 1000000 then Some v else None)
not_small v h = go (nat_le v 1000000) refl
  where
    go : (b : Bool) → nat_le v 1000000 ≡ b → None ≡ (if b then Some v else None)
    go true e = absurd (let low = leb-true v 1000000 e in omega (arith, low, h))
    go false e = refl

-- digits of which the first write a large number write one
pub large_value : (digits : List ℕ) (n : ℕ) (rest : List ℕ) → value_behind 0 digits ≡ value_behind n rest → 1000000 < n → None ≡ small_value digits
large_value digits n rest e h = let grown = value_grows n rest in not_small (value_behind 0 digits) (omega (arith, e, grown, h))
