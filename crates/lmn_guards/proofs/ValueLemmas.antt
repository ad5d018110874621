-- What an operation on two 64-bit integers gives, from what the kit's calls answer.
use Rattle.std.proofs.Common.{◌≡◌, refl, sym, ◌∙◌, ap, Bool, true, false, zero, suc, ℤ, pos, negsuc, ◌+ℤ◌, ◌-ℤ◌, ◌*ℤ◌, Option, Some, None, ◌<◌, ◌≤◌, subst, arith}
use Rattle.std.specs.Prelude.{SomeIff, FitsSigned, int_div, int_rem, neg_ℤ, if◌then◌else◌, ◌^◌, ◌-◌, ◌%◌}
use Rattle.std.specs.Int.{w64, cast_signed, cast_unsigned, CanDivide, IsNonZero}
use Rattle.std.specs.Int.Signed.{mag, mag_rem}
use Rattle.std.proofs.lemmas.Int.{ints, to_z-of_z, quot-rem, rem_is}
use Rattle.lmn_base.proofs.Truth.{never_both}
use Rattle.lmn_base.proofs.Numbers.{above_zero}
use Rattle.lmn_base.specs.declared.guard.Arith.TheVariants.{Add, Sub, Mul, Div, Mod}
use Rattle.lmn_guards.specs.Values.{in_range, ranged, result_of, is_zero}

-- an integer as it is handed to a call
abbrev pub cast : ℤ → ℤ
cast z = cast_signed w64 (cast_unsigned w64 z)

pub uncast : (f : ℤ → ℤ → Option ℤ) (m n : ℤ) → FitsSigned w64 m → FitsSigned w64 n → f (cast m) (cast n) ≡ f m n
uncast f m n p q = λ i. f (to_z-of_z w64 m p i) (to_z-of_z w64 n q i)

-- to fit 64 bits is to be in range
fits_is : (z : ℤ) → FitsSigned w64 z → in_range z ≡ true
fits_is z f = grind (arith, ints)

range_fits : (z : ℤ) → in_range z ≡ true → FitsSigned w64 z
range_fits z e = grind (arith, ints)

-- a choice is told by its two sides
chosen : (b : Bool) (x : Option ℤ) (z : ℤ) → (b ≡ true → x ≡ Some z) → (b ≡ false → x ≡ None) → x ≡ (if b then Some z else None)
chosen true x z f g = f refl
chosen false x z f g = g refl

-- what is there exactly where an integer fits is the integer in range
pub ranged_is : (x : Option ℤ) (z : ℤ) → SomeIff x (FitsSigned w64 z) z → x ≡ ranged z
ranged_is None z unfit = chosen (in_range z) None z (λ e. absurd (unfit (range_fits z e))) (λ _. refl)
ranged_is (Some y) z h = chosen (in_range z) (Some y) z (λ _. ap Some h.1) (λ e. absurd (never_both (in_range z) (fits_is z h.0) e))

-- the sum, the difference and the product
pub sum_is : (x : Option ℤ) (m n : ℤ) → FitsSigned w64 m → FitsSigned w64 n → SomeIff x (FitsSigned w64 (cast m +ℤ cast n)) (cast m +ℤ cast n) → x ≡ result_of Add m n
sum_is x m n f g h = ranged_is x (cast m +ℤ cast n) h ∙ (λ i. ranged (to_z-of_z w64 m f i +ℤ to_z-of_z w64 n g i))

pub difference_is : (x : Option ℤ) (m n : ℤ) → FitsSigned w64 m → FitsSigned w64 n → SomeIff x (FitsSigned w64 (cast m -ℤ cast n)) (cast m -ℤ cast n) → x ≡ result_of Sub m n
difference_is x m n f g h = ranged_is x (cast m -ℤ cast n) h ∙ (λ i. ranged (to_z-of_z w64 m f i -ℤ to_z-of_z w64 n g i))

pub product_is : (x : Option ℤ) (m n : ℤ) → FitsSigned w64 m → FitsSigned w64 n → SomeIff x (FitsSigned w64 (cast m *ℤ cast n)) (cast m *ℤ cast n) → x ≡ result_of Mul m n
product_is x m n f g h = ranged_is x (cast m *ℤ cast n) h ∙ (λ i. ranged (to_z-of_z w64 m f i *ℤ to_z-of_z w64 n g i))

-- a divisor isn't zero
divisor_nonzero : (n : ℤ) → IsNonZero w64 n → is_zero n ≡ false
divisor_nonzero (pos k) h = grind (arith, ints)
divisor_nonzero (negsuc k) h = refl

nonzero_divides : (n : ℤ) → FitsSigned w64 n → is_zero n ≡ false → IsNonZero w64 n
nonzero_divides (pos k) f e = grind (arith, ints)
nonzero_divides (negsuc k) f e = let h : mag (negsuc k) < 2 ^ 63 = f.sfits in omega (arith, h)

divided : (b : Bool) (x : Option ℤ) (z : ℤ) (P : Type 0) → (P → b ≡ false) → (b ≡ false → P) → SomeIff x (P × FitsSigned w64 z) z → x ≡ (if b then None else ranged z)
divided true None z P there back unfit = refl
divided true (Some y) z P there back h = absurd (never_both true refl (there h.0.0))
divided false None z P there back unfit = ranged_is None z (λ f. unfit (back refl, f))
divided false (Some y) z P there back h = ranged_is (Some y) z (h.0.1, h.1)

-- the quotient
pub quotient_is : (x : Option ℤ) (m n : ℤ) → FitsSigned w64 m → FitsSigned w64 n → SomeIff x (CanDivide w64 (cast m) (cast n)) (int_div (cast m) (cast n)) → x ≡ result_of Div m n
quotient_is x m n f g h =
    divided (is_zero n) x (int_div m n) (IsNonZero w64 n) (divisor_nonzero n) (nonzero_divides n g)
    (subst (λ a. SomeIff x (CanDivide w64 a n) (int_div a n)) (to_z-of_z w64 m f) (subst (λ b. SomeIff x (CanDivide w64 (cast m) b) (int_div (cast m) b)) (to_z-of_z w64 n g) h))

rest_is : (a r m : ℤ) → a +ℤ r ≡ m → m -ℤ a ≡ r
rest_is a r m e = omega (arith, ints, e)

rest_fits : (m n : ℤ) → FitsSigned w64 m → FitsSigned w64 (int_rem m n)
rest_fits m n f =
    let h : mag (int_rem m n) ≤ mag m = mag_rem m n in
    let k : mag m < 2 ^ 63 = f.sfits in
    record { sfits = omega (arith, h, k) }

-- the remainder by what isn't zero
pub remainder_is : (m n : ℤ) → FitsSigned w64 m → is_zero n ≡ false → Some (int_rem m n) ≡ result_of Mod m n
remainder_is m n f e =
    ranged_is (Some (int_rem m n)) (int_rem m n) (rest_fits m n f, refl)
    ∙ (ap ranged (sym (rest_is (int_div m n *ℤ n) (int_rem m n) m (quot-rem m n)))
    ∙ sym (ap (λ (b : Bool). if b then None else ranged (m -ℤ (int_div m n *ℤ n))) e))

-- there is none by zero, as a test on the bits of the divisor tells it
pub by_zero_is : (m n : ℤ) → FitsSigned w64 n → cast_unsigned w64 n ≡ 0 → None ≡ result_of Mod m n
by_zero_is m (pos zero) f e = refl
by_zero_is m (pos (suc k)) f e = absurd (omega (arith, e))
by_zero_is m (negsuc k) f e = let h : mag (negsuc k) < 2 ^ 63 = f.sfits in absurd (omega (arith, h, e))

-- by -1 it is 0
by_less_one : (m : ℤ) → int_rem m (negsuc 0) ≡ pos 0
by_less_one (pos a) = let e : a % 1 ≡ 0 = omega arith in ap (λ k. pos k) e
by_less_one (negsuc a) = let e : suc a % 1 ≡ 0 = omega arith in ap (λ k. neg_ℤ (pos k)) e

pub by_less_one_is : (m n : ℤ) → FitsSigned w64 m → FitsSigned w64 n → cast_unsigned w64 n ≡ 2 ^ 64 - 1 → Some (pos 0) ≡ result_of Mod m n
by_less_one_is m (pos k) f g e = let h : mag (pos k) < 2 ^ 63 = g.sfits in absurd (omega (arith, h, e))
by_less_one_is m (negsuc zero) f g e = sym (ap (λ z. Some z) (by_less_one m)) ∙ remainder_is m (negsuc 0) f refl
by_less_one_is m (negsuc (suc k)) f g e = let h : mag (negsuc (suc k)) < 2 ^ 63 = g.sfits in absurd (omega (arith, h, e))

-- and what the operator leaves, by any other
pub rest_of_is : (m n : ℤ) → FitsSigned w64 m → FitsSigned w64 n → (cast_unsigned w64 n ≡ 0 → ⊥) → Some (cast (int_rem (cast m) (cast n))) ≡ result_of Mod m n
rest_of_is m n f g d = ap (λ z. Some z) (rem_is w64 m n f g) ∙ remainder_is m n f (divisor_nonzero n (above_zero (cast_unsigned w64 n) d))

-- the same of the call that wraps, which asks for a divisor
pub divisor_is : (n : ℤ) → FitsSigned w64 n → (cast_unsigned w64 n ≡ 0 → ⊥) → IsNonZero w64 (cast n)
divisor_is n g d = subst (IsNonZero w64) (sym (to_z-of_z w64 n g)) (above_zero (cast_unsigned w64 n) d)

pub wrapped_rest_is : (x m n : ℤ) → FitsSigned w64 m → FitsSigned w64 n → (cast_unsigned w64 n ≡ 0 → ⊥) → x ≡ int_rem (cast m) (cast n) → Some (cast x) ≡ result_of Mod m n
wrapped_rest_is x m n f g d e = ap (λ z. Some (cast z)) e ∙ rest_of_is m n f g d
