-- Numbers of the table and raw links of the calculus: links of the solid, then those of the rule, then those of copies.
use Rattle.std.proofs.Common.{ℕ, ◌≡◌, ◌⊎◌, ◌+◌, ◌-◌, ◌<◌, ◌≤◌, inl, inr, refl, ap, ◌∙◌, arith}
use Rattle.lmn_base.proofs.Numbers.{below_or_from}
use Rattle.lmn_adequacy.proofs.Skeleton.{by_parity, at_even, at_odd}
use Rattle.lmn_congruence_splice.specs.Splice.{of_rule, of_solid}

abbrev pick_by : {z n : ℕ} → (z < n) ⊎ (n ≤ z) → ℕ → ℕ → ℕ
pick_by (inl l) a b = a
pick_by (inr l) a b = b

-- one number below n, another from n on
abbrev pub pick : ℕ → ℕ → ℕ → ℕ → ℕ
pick z n a b = pick_by (below_or_from z n) a b

pick_below : (z n a b : ℕ) → z < n → pick z n a b ≡ a
pick_below z n a b l = by (below_or_from z n)
  where
    by : (d : (z < n) ⊎ (n ≤ z)) → pick_by d a b ≡ a
    by (inl m) = refl
    by (inr m) = absurd (omega (arith, l, m))

pick_from : (z n a b : ℕ) → n ≤ z → pick z n a b ≡ b
pick_from z n a b l = by (below_or_from z n)
  where
    by : (d : (z < n) ⊎ (n ≤ z)) → pick_by d a b ≡ b
    by (inl m) = absurd (omega (arith, l, m))
    by (inr m) = refl

-- the solid has links below F, and the rule so many
module _ (F R : ℕ) where
  -- the raw link for which a number stands
  abbrev pub raw_link : ℕ → ℕ
  raw_link z = pick z F (of_solid z) (pick z (F + R) (of_rule (z - F)) (of_solid (z - R)))

  -- and back
  abbrev pub number_of : ℕ → ℕ
  number_of = by_parity (λ x. F + x) (λ x. pick x F x (x + R))

  pub of_kept : (y : ℕ) → y < F → raw_link y ≡ of_solid y
  of_kept y l = pick_below y F (of_solid y) (pick y (F + R) (of_rule (y - F)) (of_solid (y - R))) l

  of_made : (z : ℕ) → F ≤ z → z < F + R → raw_link z ≡ of_rule (z - F)
  of_made z l m = pick_from z F (of_solid z) (pick z (F + R) (of_rule (z - F)) (of_solid (z - R))) l ∙ pick_below z (F + R) (of_rule (z - F)) (of_solid (z - R)) m

  of_fresh : (z : ℕ) → F + R ≤ z → raw_link z ≡ of_solid (z - R)
  of_fresh z l = pick_from z F (of_solid z) (pick z (F + R) (of_rule (z - F)) (of_solid (z - R))) (omega (arith, l)) ∙ pick_from z (F + R) (of_rule (z - F)) (of_solid (z - R)) l

  -- a link of the rule, and one of a copy
  pub of_own : (x : ℕ) → x < R → raw_link (F + x) ≡ of_rule x
  of_own x l = let e : (F + x) - F ≡ x = omega arith in of_made (F + x) (omega arith) (omega (arith, l)) ∙ ap of_rule e

  pub of_copy : (next y : ℕ) → F + R ≤ next → raw_link (next + y) ≡ of_solid ((next - R) + y)
  of_copy next y l = let e : (next + y) - R ≡ (next - R) + y = omega (arith, l) in of_fresh (next + y) (omega (arith, l)) ∙ ap of_solid e

  -- each number is found again
  pub found_again : (z : ℕ) → number_of (raw_link z) ≡ z
  found_again z = by (below_or_from z F) (below_or_from z (F + R))
    where
      by : (z < F) ⊎ (F ≤ z) → (z < F + R) ⊎ (F + R ≤ z) → number_of (raw_link z) ≡ z
      by (inl l) d = ap number_of (of_kept z l) ∙ at_odd (λ x. F + x) (λ x. pick x F x (x + R)) z ∙ pick_below z F z (z + R) l
      by (inr l) (inl m) = let e : F + (z - F) ≡ z = omega (arith, l) in ap number_of (of_made z l m) ∙ at_even (λ x. F + x) (λ x. pick x F x (x + R)) (z - F) ∙ e
      by (inr l) (inr m) =
          let e : (z - R) + R ≡ z = omega (arith, m) in
          ap number_of (of_fresh z m) ∙ at_odd (λ x. F + x) (λ x. pick x F x (x + R)) (z - R) ∙ pick_from (z - R) F (z - R) ((z - R) + R) (omega (arith, m)) ∙ e
