-- Numbers in decimal, of any size. The library's `decimal` writes the last 64 digits alone.
use Rattle.std.specs.Prelude.{ℕ, zero, suc, ◌+◌, ◌/◌, ◌%◌, nat_lt, if◌then◌else◌, List, [], ◌∷◌, ◌++◌}

-- the digits of a number, the last `most` at most
abbrev pub last_digits : ℕ → ℕ → List ℕ
last_digits zero n = []
last_digits (suc most) n = if nat_lt n 10 then (48 + n) ∷ [] else last_digits most (n / 10) ++ (48 + n % 10) ∷ []

-- a number in decimal: n has no more than n + 1 digits
unfoldable pub numeral : ℕ → List ℕ
numeral n = last_digits (suc n) n
