-- General lemmas on numbers.
use Rattle.lmn_base.proofs.Truth.{Decided}
use Rattle.std.proofs.Common.{suc, zero, ℕ, ◌+◌, arith, true, ◌==◌, ◌≡◌, inl, inr, ◌<◌, ◌∙◌, ◌≤◌, ◌⊎◌, ◌≢◌, false, Bool, refl, nat_le, replicate, subst, sym, ap, [], ◌-◌}
use Rattle.std.proofs.Math.Nat.{min-eq_left, min_comm}
use Rattle.std.proofs.lemmas.Bool.{cases_lt, eqb-true, cases_eq, ltb-true}
use Rattle.std.proofs.lemmas.Bool.Decides.{nat_tests, leb_tells}
use Rattle.std.specs.Prelude.{min, nat_lt, slice_index_or, if◌then◌else◌, take}

-- the sum of the numbers up to n
abbrev pub triangle : ℕ → ℕ
triangle zero = 0
triangle (suc n) = triangle n + suc n

-- a number passes the test against itself
pub equal_itself : (x : ℕ) → (x == x) ≡ true
equal_itself x = grind (arith, nat_tests)

-- the less of two numbers is one of them
pub min_is_one : (a b : ℕ) → (min a b ≡ a) ⊎ (min a b ≡ b)
min_is_one a b = elim (cases_lt a b) [
  | inl l ↦ inl (min-eq_left (weak a b l))
  | inr g ↦ inr (min_comm a b ∙ min-eq_left g)
]
  where
    weak : (a b : ℕ) → a < b → a ≤ b
    weak a b l = omega arith

-- numbers that pass the test are equal
pub equal_when : (a b : ℕ) → (a == b) ≡ true → a ≡ b
equal_when a b h = grind (arith, nat_tests)

-- two numbers are equal or they are not
pub same_or_not : (x y : ℕ) → (x ≡ y) ⊎ (x ≢ y)
same_or_not x y = grind arith

-- numbers that can't be equal don't pass the test
pub unequal : (a b : ℕ) → (a ≡ b → ⊥) → (a == b) ≡ false
unequal a b h = grind (arith, nat_tests)

-- a number that can't be above another is at most that
pub at_most_by_not : (a b : ℕ) → (b < a → ⊥) → a ≤ b
at_most_by_not a b h = elim (cases_lt b a) [
  | inl l ↦ absurd (h l)
  | inr l ↦ l
]

-- where the test says not below, the other is at most that
pub at_most_by_test : (m n : ℕ) → nat_lt m n ≡ false → n ≤ m
at_most_by_test m n e = grind (arith, nat_tests)

-- of two numbers with a sum that is not zero one is not zero
pub one_not_zero : (m n : ℕ) → m + n ≢ 0 → (m ≢ 0) ⊎ (n ≢ 0)
one_not_zero m n d = grind arith

-- below zero and more is below that
pub below_zero_plus : (g k : ℕ) → g < 0 + k → g < k
below_zero_plus g k h = omega arith

-- a number below the next of n is below n, or n
pub below_next : (i n : ℕ) → i < suc n → (i < n) ⊎ (i ≡ n)
below_next i n h = grind arith

-- a number below n + 1 is below n, or n
pub below_next2 : (p j : ℕ) → p < j + 1 → (p < j) ⊎ (p ≡ j)
below_next2 p j l = grind arith

-- below a number is below zero and that
pub zero_plus_below : (g k : ℕ) → g < k → g < 0 + k
zero_plus_below g k h = omega arith

-- below is at most
pub less_at_most : (x y : ℕ) → x < y → x ≤ y
less_at_most x y h = omega arith

-- different numbers don't pass the test
pub not_equal : (x y : ℕ) → x ≢ y → (x == y) ≡ false
not_equal x y d = by (x == y) refl
  where
    by : (t : Bool) → (x == y) ≡ t → t ≡ false
    by true e = absurd (d (eqb-true x y e))
    by false e = refl

-- a number that is at most another passes the test
pub test_at_most : (n m : ℕ) → n ≤ m → nat_le n m ≡ true
test_at_most n m h = grind arith

-- each of some zeros is zero, and what is behind them too
pub zeros_at : (n i : ℕ) → ◌≡◌ {A = ℕ} (slice_index_or (replicate n 0) i 0) 0
zeros_at zero zero = refl
zeros_at zero (suc i) = refl
zeros_at (suc n) zero = refl
zeros_at (suc n) (suc i) = zeros_at n i

-- zero is at most any number
pub zero_least : (g : ℕ) → 0 ≤ g
zero_least g = omega arith

-- a sum is below the next one by more than its last number
pub triangle_less : (s t : ℕ) → s < t → triangle s + s < triangle t
triangle_less s zero l = absurd (omega (arith, l))
triangle_less s (suc t) l = elim (cases_eq s t) [
  | inl e ↦ subst (λ z. triangle z + z < triangle t + suc t) (sym e) (omega arith)
  | inr d ↦ (let i = triangle_less s t (less s t l d) in omega (arith, i))
]
  where
    less : (s t : ℕ) → s < suc t → s ≢ t → s < t
    less s t l d = omega (arith, l, d)

-- whether a number is below another is decided
pub less_decided : (m n : ℕ) → Decided (m < n)
less_decided m n = elim (leb_tells n m) [ inl h ↦ inr (λ l. let le = h.1 in omega (arith, l)) | inr h ↦ inl (h.1) ]

-- a choice by a test of equality, where the numbers are equal and where they are not
pub chosen_there : (x n k z : ℕ) → z ≡ x → (if z == x then n else k) ≡ n
chosen_there x n k z e = grind arith

-- a choice at one number is the other value at every other
pub chosen_elsewhere : (x n k z : ℕ) → z ≢ x → (if z == x then n else k) ≡ k
chosen_elsewhere x n k z d = grind arith

-- x is below n, or from n on
pub below_or_from : (x n : ℕ) → (x < n) ⊎ (n ≤ x)
below_or_from x n = grind arith

-- x is below n, or n, or above n
pub three_ways : (x n : ℕ) → (x < n) ⊎ ((x ≡ n) ⊎ (n < x))
three_ways x n = grind arith

-- a sum is not 0 where a part of it isn't
pub left_not_zero : (m n : ℕ) → m ≢ 0 → m + n ≢ 0
left_not_zero m n h = grind arith

-- a sum is not zero where the second part is not
pub right_not_zero : (m n : ℕ) → n ≢ 0 → m + n ≢ 0
right_not_zero m n h = grind arith

-- what isn't 0 is above it
pub above_zero : (n : ℕ) → (n ≡ 0 → ⊥) → 0 < n
above_zero zero d = absurd (d refl)
above_zero (suc n) d = omega arith

-- what is one is not zero
pub not_zero_if_one : (n : ℕ) → n ≡ 1 → n ≢ 0
not_zero_if_one n e = grind arith

-- what is zero or two is not one
pub not_one_if_even : (n : ℕ) → (n ≡ 0) ⊎ (n ≡ 2) → n ≢ 1
not_one_if_even n e = grind arith

-- a number below K is none of those from K on
pub below_not_above : (K x y : ℕ) → x < K → x ≢ y + K
below_not_above K x y c = omega arith

-- numbers that a test finds different are different
pub unequal_when : (a b : ℕ) → (a == b) ≡ false → a ≡ b → ⊥
unequal_when a b h e = grind (arith, nat_tests)

-- two numbers are equal, or one is less
pub in_order : (n k : ℕ) → (n ≡ k) ⊎ ((n < k) ⊎ (k < n))
in_order n k = grind arith

-- a port is another one or isn't
pub is_port : (a i : ℕ) (root : ℕ × ℕ) → ((a ≡ root.0) × (i ≡ root.1)) ⊎ (◌≢◌ {A = ℕ × ℕ} (a, i) root)
is_port a i root = elim (cases_eq a root.0) [
  | inl e ↦ elim (cases_eq i root.1) [
    | inl f ↦ inl (e, f)
    | inr d ↦ inr (λ q. d (ap (λ p. p.1) q))
  ]
  | inr d ↦ inr (λ q. d (ap (λ p. p.0) q))
]

-- nothing and k is k
pub no_more : (k : ℕ) → 0 + k ≡ k
no_more k = omega arith

-- a byte above 10 is no line feed
pub no_feed : (b : ℕ) → 10 < b → b ≡ 10 → ⊥
no_feed b l e = omega (arith, l, e)

-- of no list nothing is taken
pub take_none : (k : ℕ) → take {A = ℕ} k [] ≡ []
take_none zero = refl
take_none (suc k) = refl

-- one is not zero
pub one_is_not_zero : ◌≢◌ {A = ℕ} 1 0
one_is_not_zero = omega arith

pub is_less : (m n : ℕ) → nat_lt m n ≡ true → m < n
is_less m n e = ltb-true m n e

pub lower : (n m : ℕ) → n < m → nat_lt n m ≡ true
lower n m h = grind arith

pub split_at : (s a : ℕ) → s ≤ a → (j : ℕ) × (a ≡ s + j)
split_at s a l = (a - s, omega (arith, l))

pub not_lower : (n m : ℕ) → m ≤ n → nat_lt n m ≡ false
not_lower n m h = grind arith

pub none_more : (n : ℕ) → n + 0 ≡ n
none_more n = omega arith
