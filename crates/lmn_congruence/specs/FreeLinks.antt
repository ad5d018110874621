-- No public contract cites these words: the number of free links as a sum over the numbers below a bound.
use Rattle.std.specs.Prelude.{ℕ, zero, suc, ◌+◌, ◌==◌, cond, List, [], ◌∷◌}
use Rattle.lmn_congruence.specs.Process.{Process, nothing, connector, atom, pair, membrane, rule, occurrences}

-- the sum of f over the numbers below n
abbrev pub sum_below : ℕ → (ℕ → ℕ) → ℕ
sum_below zero f = 0
sum_below (suc n) f = f n + sum_below n f

-- a number above each link
abbrev pub above_all : List ℕ → ℕ
above_all [] = 0
above_all (x ∷ xs) = suc x + above_all xs

abbrev pub link_bound : Process → ℕ
link_bound nothing = 0
link_bound (connector x y) = suc x + suc y
link_bound (atom a xs) = above_all xs
link_bound (pair P Q) = link_bound P + link_bound Q
link_bound (membrane P) = link_bound P
link_bound (rule r) = 0

-- 1 where a link is free, and else 0
abbrev pub one_if_once : ℕ → ℕ
one_if_once n = cond (n == 1) 1 0

abbrev pub one_if_free : Process → ℕ → ℕ
one_if_free P x = one_if_once (occurrences x P)
