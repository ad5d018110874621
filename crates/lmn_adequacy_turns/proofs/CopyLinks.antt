-- Raw links inside copies, and a map of raw links that is known at them.
use Rattle.std.proofs.Common.{ℕ, zero, suc, cond, ltb, ◌≡◌, ◌+◌, ◌-◌, ◌<◌, ◌≤◌, refl, sym, ap, ◌∙◌, arith}
use Rattle.lmn_adequacy.proofs.Skeleton.{at_even, at_odd, by_parity}
use Rattle.lmn_congruence_splice.specs.Splice.{of_rule, of_solid}
use Rattle.lmn_congruence_splice.proofs.Fusions.{apart_rule as even_not_odd, rule_once as even_differs, solid_once as odd_differs}

-- a number for link y of copy k
abbrev pub code : ℕ → ℕ → ℕ
code zero y = of_rule y
code (suc k) y = of_solid (code k y)

-- a link of a copy has one number, and the number tells the copy and the link
pub code_apart : (k y j z : ℕ) → code k y ≡ code j z → (k ≡ j) × (y ≡ z)
code_apart zero y zero z e = (refl, even_differs y z e)
code_apart zero y (suc j) z e = absurd (even_not_odd y (code j z) e)
code_apart (suc k) y zero z e = absurd (even_not_odd z (code k y) (sym e))
code_apart (suc k) y (suc j) z e = let u = code_apart k y j z (odd_differs (code k y) (code j z) e) in (ap suc u.0, u.1)

-- the maps of the first n copies as one
abbrev pub spread : ℕ → (ℕ → ℕ → ℕ) → ℕ → ℕ
spread zero F z = z
spread (suc n) F z = by_parity (F 0) (spread n (λ k. F (suc k))) z

spread_is : (n : ℕ) (F : ℕ → ℕ → ℕ) (k y : ℕ) → k < n → spread n F (code k y) ≡ F k y
spread_is zero F k y l = absurd (omega (arith, l))
spread_is (suc n) F zero y l = at_even (F 0) (spread n (λ k. F (suc k))) y
spread_is (suc n) F (suc k) y l = at_odd (F 0) (spread n (λ k. F (suc k))) (code k y) ∙ spread_is n (λ k. F (suc k)) k y (omega (arith, l))

-- a number from N on that belongs to copy k
abbrev pub Block : ℕ → ℕ → ℕ → Type 0
Block N k L = (y : ℕ) × (L ≡ N + code k y)

-- it belongs to one copy
pub block_one : (N j k L : ℕ) → Block N j L → Block N k L → j ≡ k
block_one N j k L (y, d) (z, e) = (code_apart j y k z (omega (arith, d, e))).0

-- and lies above what all links of the solid lie below
pub block_above : (n N k L : ℕ) → n ≤ N → Block N k L → n ≤ L
block_above n N k L b (y, e) = omega (arith, b, e)

-- the raw link that link y of copy k has, where all links of the solid are below N
abbrev pub copy_link : ℕ → ℕ → ℕ → ℕ
copy_link N k y = of_solid (N + code k y)

-- a map of raw links, and maps of the links of n copies
abbrev pub over : (ℕ → ℕ) → ℕ → ℕ → (ℕ → ℕ → ℕ) → ℕ → ℕ
over to N n F = by_parity (λ x. to (of_rule x)) (λ L. cond (ltb L N) (to (of_solid L)) (spread n F (L - N)))

module _ (to : ℕ → ℕ) (N n : ℕ) (F : ℕ → ℕ → ℕ) where
  -- at a link of the rule
  pub over_rule : (x : ℕ) → over to N n F (of_rule x) ≡ to (of_rule x)
  over_rule x = at_even (λ x. to (of_rule x)) (λ L. cond (ltb L N) (to (of_solid L)) (spread n F (L - N))) x

  low_is : (L a b : ℕ) → L < N → cond (ltb L N) a b ≡ a
  low_is L a b l = grind arith

  high_is : (L a b : ℕ) → N ≤ L → cond (ltb L N) a b ≡ b
  high_is L a b l = grind arith

  -- at a link of the solid
  pub over_solid : (L : ℕ) → L < N → over to N n F (of_solid L) ≡ to (of_solid L)
  over_solid L l = at_odd (λ x. to (of_rule x)) (λ L. cond (ltb L N) (to (of_solid L)) (spread n F (L - N))) L ∙ low_is L (to (of_solid L)) (spread n F (L - N)) l

  -- at a link of a copy
  pub over_copy : (k y : ℕ) → k < n → over to N n F (of_solid (N + code k y)) ≡ F k y
  over_copy k y l =
      let z : (N + code k y) - N ≡ code k y = omega arith in
      at_odd (λ x. to (of_rule x)) (λ L. cond (ltb L N) (to (of_solid L)) (spread n F (L - N))) (N + code k y)
      ∙ high_is (N + code k y) (to (of_solid (N + code k y))) (spread n F ((N + code k y) - N)) (omega arith)
      ∙ ap (spread n F) z ∙ spread_is n F k y l
