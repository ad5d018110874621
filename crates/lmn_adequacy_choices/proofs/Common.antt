-- Lemmas that several crates above cite.
use Rattle.lmn_base.proofs.Numbers.{not_equal}
use Rattle.lmn_congruence_splice.specs.Splice.{IsOneOf}
use Rattle.lmn_solid_heads.specs.Heads.{times}
use Rattle.std.proofs.Common.{List, [], ap, arith, cond, inl, inr, refl, ℕ, ◌+◌, ◌∙◌, ◌∷◌, ◌≡◌}

-- a link that doesn't stand in a list stands there no time
pub never_there : (x : ℕ) (xs : List ℕ) → (IsOneOf x xs → ⊥) → times x xs ≡ 0
never_there x [] o = refl
never_there x (y ∷ xs) o = ap (λ b. (cond b 1 0) + times x xs) (not_equal y x (λ e. o (inl e))) ∙ (let rest = never_there x xs (λ i. o (inr i)) in omega (arith, rest))
