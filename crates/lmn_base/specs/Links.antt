-- Lists of links: where each stands twice, and where they are numbered by first occurrence.
use Rattle.std.specs.Prelude.{ℕ, suc, ◌≡◌, ◌<◌, ◌⊎◌, ◌==◌, List, [], ◌∷◌, count_by}

-- each link that stands in the list stands there exactly twice
abbrev pub EachTwice : List ℕ → Type 0
EachTwice xs = (x : ℕ) → let n = count_by (λ y. x == y) xs in (n ≡ 0) ⊎ (n ≡ 2)

-- n links have occurred, and m once those of the list have too. Each link of the list is one of those that
-- have occurred, or it is new and has the next number.
pub data Numbers : ℕ → List ℕ → ℕ → Type 0 where
  no_more : {n : ℕ} → Numbers n [] n
  known : {n m x : ℕ} {xs : List ℕ} → x < n → Numbers n xs m → Numbers n (x ∷ xs) m
  new : {n m : ℕ} {xs : List ℕ} → Numbers (suc n) xs m → Numbers n (n ∷ xs) m

-- the links of the list are numbered from 0 by first occurrence, and there are n of them
abbrev pub NumbersLinks : List ℕ → ℕ → Type 0
NumbersLinks xs n = Numbers 0 xs n
