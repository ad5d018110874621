-- Sums over the numbers below a bound.
use Rattle.std.proofs.Common.{ℕ, zero, suc, ◌≡◌, ◌≢◌, ◌+◌, ◌≤◌, ◌<◌, ◌⊎◌, refl, sym, ◌∙◌, inl, inr, arith}
use Rattle.lmn_congruence.specs.FreeLinks.{sum_below}
use Rattle.lmn_congruence.proofs.Counts.{less_apart}
use Rattle.lmn_base.proofs.Numbers.{same_or_not}

-- sums of the same numbers are the same
pub total_same : (n : ℕ) (f g : ℕ → ℕ) → ((z : ℕ) → z < n → f z ≡ g z) → sum_below n f ≡ sum_below n g
total_same zero f g h = refl
total_same (suc n) f g h = omega (arith, h n (omega arith), total_same n f g (λ z b. h z (omega arith)))

below : (n x : ℕ) → x < suc n → x ≢ n → x < n
below n x b e = grind arith

-- where they differ at one number alone
pub total_one : (n x : ℕ) (f g : ℕ → ℕ) → x < n → ((z : ℕ) → z < n → z ≢ x → f z ≡ g z) → sum_below n f + g x ≡ sum_below n g + f x
total_one zero x f g b h = absurd (go b)
  where
    go : ¬ (x < 0)
    go = omega arith
total_one (suc n) x f g b h = go (same_or_not x n) (λ c. total_one n x f g c (λ z k p. h z (omega arith) p))
  where
    go : (x ≡ n) ⊎ (x ≢ n) → (x < n → sum_below n f + g x ≡ sum_below n g + f x) → f n + sum_below n f + g x ≡ g n + sum_below n g + f x
    go (inl e) i = rw e (omega (arith, total_same n f g (λ z c. h z (omega arith) (λ q. less_apart z n c (q ∙ e)))))
    go (inr e) i = omega (arith, i (below n x b e), h n (omega arith) (λ q. e (sym q)))

alone : (n x y : ℕ) (f g : ℕ → ℕ) → x ≡ n → y < n → ((z : ℕ) → z ≢ x → z ≢ y → f z ≡ g z) → f n + sum_below n f + (g x + g y) ≡ g n + sum_below n g + (f x + f y)
alone n x y f g e c h = rw e (omega (arith, total_one n y f g c (λ z b p. h z (λ q. less_apart z n b (q ∙ e)) p)))

-- sums that differ at two numbers alone differ by these
pub total_two : (n x y : ℕ) (f g : ℕ → ℕ) → x ≢ y → x < n → y < n → ((z : ℕ) → z ≢ x → z ≢ y → f z ≡ g z) → sum_below n f + (g x + g y) ≡ sum_below n g + (f x + f y)
total_two zero x y f g d b c h = absurd (go b)
  where
    go : ¬ (x < 0)
    go = omega arith
total_two (suc n) x y f g d b c h = go (same_or_not x n) (same_or_not y n) (λ b c. total_two n x y f g d b c h)
  where
    go : (x ≡ n) ⊎ (x ≢ n) → (y ≡ n) ⊎ (y ≢ n) → (x < n → y < n → sum_below n f + (g x + g y) ≡ sum_below n g + (f x + f y)) → f n + sum_below n f + (g x + g y) ≡ g n + sum_below n g + (f x + f y)
    go (inl e) (inl e') i = absurd (d (e ∙ sym e'))
    go (inl e) (inr e') i = alone n x y f g e (below n y c e') h
    go (inr e) (inl e') i = omega (arith, alone n y x f g e' (below n x b e) (λ z p q. h z q p))
    go (inr e) (inr e') i = omega (arith, i (below n x b e) (below n y c e'), h n (λ q. e (sym q)) (λ q. e' (sym q)))

-- what lies past a bound adds nothing
pub total_past : (n m : ℕ) (f : ℕ → ℕ) → n ≤ m → ((z : ℕ) → n ≤ z → f z ≡ 0) → sum_below m f ≡ sum_below n f
total_past n zero f b h = let e : n ≡ 0 = omega arith in rw e refl
total_past n (suc m) f b h = go (same_or_not n (suc m)) (λ c. total_past n m f c h)
  where
    go : (n ≡ suc m) ⊎ (n ≢ suc m) → (n ≤ m → sum_below m f ≡ sum_below n f) → f m + sum_below m f ≡ sum_below n f
    go (inl e) i = rw e refl
    go (inr e) i = let c : n ≤ m = omega arith in omega (arith, i c, h m c)

-- the sum of two is the sum of both sums
pub total_sum : (n : ℕ) (f g : ℕ → ℕ) → sum_below n (λ y. f y + g y) ≡ sum_below n f + sum_below n g
total_sum zero f g = refl
total_sum (suc n) f g = omega (arith, total_sum n f g)

-- a sum of zeros is zero
pub total_zero : (n : ℕ) (f : ℕ → ℕ) → ((y : ℕ) → f y ≡ 0) → sum_below n f ≡ 0
total_zero zero f h = refl
total_zero (suc n) f h = omega (arith, h n, total_zero n f h)

-- a sum of numbers that are at most others is at most their sum
pub total_at_most : (n : ℕ) (f g : ℕ → ℕ) → ((y : ℕ) → f y ≤ g y) → sum_below n f ≤ sum_below n g
total_at_most zero f g h = omega arith
total_at_most (suc n) f g h = omega (arith, h n, total_at_most n f g h)

-- each image of a number below n is below the sum of all of them, each with one more
pub highest : (n : ℕ) (v : ℕ → ℕ) (y : ℕ) → y < n → v y < sum_below n (λ y. suc (v y))
highest zero v y b = absurd (go b)
  where
    go : ¬ (y < 0)
    go = omega arith
highest (suc n) v y b = go (same_or_not y n) (λ c. highest n v y c)
  where
    go : (y ≡ n) ⊎ (y ≢ n) → (y < n → v y < sum_below n (λ y. suc (v y))) → v y < suc (v n) + sum_below n (λ y. suc (v y))
    go (inl e) i = rw e (omega arith)
    go (inr e) i = let p = i (omega arith) in omega arith

-- a sum includes each of its terms
pub total_includes : (n : ℕ) (f : ℕ → ℕ) (y : ℕ) → y < n → f y ≤ sum_below n f
total_includes zero f y b = absurd (go b)
  where
    go : ¬ (y < 0)
    go = omega arith
total_includes (suc n) f y b = go (same_or_not y n) (λ c. total_includes n f y c)
  where
    go : (y ≡ n) ⊎ (y ≢ n) → (y < n → f y ≤ sum_below n f) → f y ≤ f n + sum_below n f
    go (inl p) i = rw p (omega arith)
    go (inr p) i = let q = i (omega arith) in omega arith

-- a sum with one term
pub total_single : (n x : ℕ) (f : ℕ → ℕ) → x < n → ((z : ℕ) → z ≢ x → f z ≡ 0) → sum_below n f ≡ f x
total_single n x f b h = let t = total_one n x f (λ z. 0) b (λ z c p. h z p) in omega (arith, t, total_zero n (λ z. 0) (λ y. refl))
