-- The integers and contexts of the conditions that are left.
use Rattle.std.proofs.Common.{ℕ, zero, suc, ◌≡◌, ◌+◌, ◌<◌, List, [], ◌∷◌, length, drop, get_or, sym, ap, ◌∙◌, arith}
use Rattle.std.specs.Prelude.{sum_by}
use Rattle.std.proofs.lemmas.List.Sums.{sum_by-cons}
use Rattle.lmn_base.specs.declared.guard.Cond.{Cond}
use Rattle.lmn_base_walks.specs.RuleCodes.{condition_tokens}

-- those of one condition, and of the conditions behind it
pub tokens_next : (guard : List Cond) (i : ℕ) (c : Cond) → i < length guard → c ≡ get_or guard i c
    → sum_by condition_tokens (drop i guard) ≡ condition_tokens c + sum_by condition_tokens (drop (i + 1) guard)
tokens_next [] i c within e = absurd (omega (arith, within))
tokens_next (d ∷ guard) zero c within e = sum_by-cons condition_tokens d guard ∙ ap (λ x. condition_tokens x + sum_by condition_tokens guard) (sym e)
tokens_next (d ∷ guard) (suc i) c within e =
    let t : suc i + 1 ≡ suc (i + 1) = omega arith in
    tokens_next guard i c (omega (arith, within)) e ∙ ap (λ k. condition_tokens c + sum_by condition_tokens (drop k (d ∷ guard))) (sym t)
