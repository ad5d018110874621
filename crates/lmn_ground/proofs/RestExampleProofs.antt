-- A small heap with rests.
use Rattle.std.proofs.Common.{◌≡◌, ℕ, zero, suc, List, [], ◌∷◌, Some, refl, sym, ap, inl, inr, arith}
use Rattle.lmn_base.proofs.Lists.{head_is}
use Rattle.std.proofs.Common.{subst}
use Rattle.lmn_store_heap.specs.Heap.{link_of}
use Rattle.lmn_store_heap.specs.Sound.{bare, mem}
use Rattle.lmn_ground_parts.specs.Rests.{NoneLeaves}
use Rattle.lmn_ground.specs.RestExamples.{RestsStand, nested}

pub rests_stand : RestsStand
rests_stand = record {
  whole = record { forest = mem 2 bare bare; forms = ([], refl, refl, refl); preorder = refl; once = (tt, tt); outside = λ i. elim i [ inl e ↦ (let f = e in absurd (omega (arith, f))) | inr j ↦ absurd j ]; in_order = refl };
  inner = record { forest = bare; forms = refl; preorder = refl; once = tt; outside = λ i. absurd i; in_order = refl };
  other_order = λ r. let e = r.in_order in absurd (omega (arith, first e));
  stays = stays;
  leaves = λ none. elim (none 1 0 0 0 (inl refl) refl) [ inl e ↦ (let f = e in absurd (omega (arith, f))) | inr j ↦ absurd j ];
}
  where
    first : {xs ys : List ℕ} → ◌≡◌ {A = List ℕ} (1 ∷ xs) (0 ∷ ys) → ◌≡◌ {A = ℕ} 1 0
    first e = head_is e

    stays : NoneLeaves nested (0 ∷ 1 ∷ [])
    stays a zero b j (inl e) link = inr (inl (let f : link_of nested 0 0 ≡ Some (b, j) = subst (λ z. link_of nested z 0 ≡ Some (b, j)) (sym e) link in let g : ◌≡◌ {A = ℕ × ℕ} (1, 0) (b, j) = (cc) in ap (λ (p : ℕ × ℕ). p.0) g))
    stays a (suc i) b j (inl e) link = absurd (let f : link_of nested 0 (suc i) ≡ Some (b, j) = subst (λ z. link_of nested z (suc i) ≡ Some (b, j)) (sym e) link in cc)
    stays a zero b j (inr (inl e)) link = inl (let f : link_of nested 1 0 ≡ Some (b, j) = subst (λ z. link_of nested z 0 ≡ Some (b, j)) (sym e) link in let g : ◌≡◌ {A = ℕ × ℕ} (0, 0) (b, j) = (cc) in ap (λ (p : ℕ × ℕ). p.0) g)
    stays a (suc i) b j (inr (inl e)) link = absurd (let f : link_of nested 1 (suc i) ≡ Some (b, j) = subst (λ z. link_of nested z (suc i) ≡ Some (b, j)) (sym e) link in cc)
    stays a i b j (inr (inr bad)) link = absurd bad
