-- Which number each order chooses, of m, after t commits.
use Rattle.std.specs.Prelude.{ℕ, ◌+◌, ◌*◌, ◌/◌, ◌%◌, ◌^◌, List, slice_index_or}
use Rattle.lmn_order.specs.declared.order.Order.{Order}
use Rattle.lmn_order.specs.declared.order.Order.TheVariants.{First, Turn, Seed}

-- A seed gives the state of a linear congruential generator of 64 bits, made of the sum of the seed and t; `x >> 33` is x
-- divided by 2 ^ 33.
abbrev pub chosen : Order → ℕ → ℕ → ℕ
chosen First t m = 0
chosen Turn t m = t % m
chosen (Seed seed) t m = ((((seed + t) * 6364136223846793005 + 1442695040888963407) % 2 ^ 64) / 2 ^ 33) % m

-- the number of a list at the place t, taken modulo m, and 0 behind its end
abbrev pub followed : List ℕ → ℕ → ℕ → ℕ
followed numbers t m = slice_index_or numbers t 0 % m
