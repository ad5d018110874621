-- Numbers that are as others on what is there, and take what is made to what is made.
use Rattle.std.proofs.Common.{◌≡◌, ◌≢◌, ◌∙◌, ℕ, List, [], ◌∷◌, length, map, refl, sym, subst, inl, inr, arith}
use Rattle.lmn_base.specs.Lists.{In}
use Rattle.lmn_base.proofs.Common.{map_same}
use Rattle.lmn_store_heap.specs.Heap.{Distinct}
use Rattle.lmn_store_heap.proofs.ListLemmas.{each_in}
use Rattle.lmn_verify_renaming.specs.Renamed.{Numbering}
use Rattle.lmn_verify_renaming.proofs.Lists.{swap_else, swap_first, swapped, swapping}
use Rattle.lmn_verify_renaming.proofs.Numbers.{in_there, one_to_one}

-- Numbers that are q on the old ones, and take one list to another, which share nothing with the old ones.
pub numbering_beside : (old : ℕ → Type 0) (q : Numbering) (xs ys : List ℕ) → Distinct xs → Distinct ys → length xs ≡ length ys
    → ((z : ℕ) → old z → In z xs → ⊥) → ((z : ℕ) → old z → In (q.to z) ys → ⊥)
    → (p : Numbering) × ((z : ℕ) → old z → p.to z ≡ q.to z) × (map p.to xs ≡ ys)
unfolding swapping
numbering_beside old q [] [] d e l f g = (q, (λ z o. refl), refl)
numbering_beside old q [] (y ∷ ys) d e l f g = absurd (omega (arith, l))
numbering_beside old q (x ∷ xs) [] d e l f g = absurd (omega (arith, l))
numbering_beside old q (x ∷ xs) (y ∷ ys) d e l f g =
    let w = numbering_beside old q xs ys d.1 e.1 (omega (arith, l)) (λ z o i. f z o (inr i)) (λ z o i. g z o (inr i)) in
    let n = w.0 in
    let there : (z : ℕ) → In z xs → In (n.to z) ys = λ z i. subst (In (n.to z)) w.2 (in_there n z xs i) in
    let kept : (z : ℕ) → In z xs → swapped (n.to x) y (n.to z) ≡ n.to z = λ z i. swap_else (n.to x) y (n.to z)
    (λ same. each_in (λ b. x ≢ b) xs z d.0 i (sym (one_to_one n z x same)))
    (λ same. each_in (λ b. y ≢ b) ys (n.to z) e.0 (there z i) (sym same)) in
    let stays : (z : ℕ) → old z → swapped (n.to x) y (n.to z) ≡ q.to z = λ z o. swap_else (n.to x) y (n.to z)
    (λ same. f z o (inl (sym (one_to_one n z x same))))
    (λ same. g z o (inl (sym same ∙ w.1 z o))) ∙ w.1 z o in
    (swapping n (n.to x) y, stays, (λ i. swap_first (n.to x) y i ∷ (map_same (λ z. swapped (n.to x) y (n.to z)) n.to xs kept ∙ w.2) i))
