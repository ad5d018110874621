-- A part of two atoms has its copy.
use Rattle.std.proofs.Common.{ℕ, zero, suc, ◌≡◌, true, List, [], ◌∷◌, Option, Some, None, refl, sym, ap, subst, ◌∙◌, inl, inr, arith, ◌≢◌}
use Rattle.lmn_base.specs.declared.functor.Functor.{Functor}
use Rattle.lmn_store_heap.specs.Heap.{functor_of, link_of}
use Rattle.lmn_ground_parts.specs.Walks.{ends, passes, finds, net, neighbour, IsPartInDepth}
use Rattle.lmn_ground_parts.specs.Copies.{answer, moved}
use Rattle.lmn_ground_parts.proofs.WalkLaws.{determined}
use Rattle.lmn_solid_bodies.specs.CopyExamples.{binary_f, whole, with_copy, PartHasCopy}
use Rattle.lmn_base.specs.Graphs.{Port}
use Rattle.lmn_congruence_splice.proofs.Joining.{same_some as some_pair}
use Rattle.lmn_base.specs.Lists.{In}

abbrev parted : List ℕ
parted = 1 ∷ 2 ∷ []

abbrev leads : Port → Option ℕ
leads = neighbour (net whole) (1, 0) (λ _. true)

back : (x : ℕ) → ◌≡◌ {A = Option ℕ} (Some 1) (Some x) → In x parted
back x e = let s : ◌≡◌ {A = ℕ} 1 x = (cc) in inl s

part : IsPartInDepth whole (1, 0) parted
part = passes (λ b e. absurd (cc)) (finds refl (λ i. elim i [ inl e ↦ absurd (omega (arith, e)) | inr v ↦ v ]) (passes back ends))

functors : (x : ℕ) → In x parted → functor_of with_copy (answer parted (3 ∷ 4 ∷ []) x) ≡ functor_of whole x
functors x (inl e) = subst (λ z. functor_of with_copy (answer parted (3 ∷ 4 ∷ []) z) ≡ functor_of whole z) e refl
functors x (inr (inl e)) = subst (λ z. functor_of with_copy (answer parted (3 ∷ 4 ∷ []) z) ≡ functor_of whole z) e refl
functors x (inr (inr v)) = absurd v

abbrev Inner : ℕ → ℕ → ℕ → ℕ → Type 0
Inner x i y j = In y parted × (link_of with_copy (answer parted (3 ∷ 4 ∷ []) x) i ≡ Some (answer parted (3 ∷ 4 ∷ []) y, j))

of_first : (i y j : ℕ) → ◌≢◌ {A = Port} (1, i) (1, 0) → link_of whole 1 i ≡ Some (y, j) → Inner 1 i y j
of_first zero y j d e = absurd (d refl)
of_first (suc zero) y j d e =
    let s : ◌≡◌ {A = Port} (2, 0) (y, j) = some_pair (2, 0) (y, j) e in
    subst (λ (p : Port). Inner 1 1 p.0 p.1) s (inr (inl refl), refl)
of_first (suc (suc i)) y j d e = absurd (cc)

of_second : (i y j : ℕ) → link_of whole 2 i ≡ Some (y, j) → Inner 2 i y j
of_second zero y j e =
    let s : ◌≡◌ {A = Port} (1, 1) (y, j) = some_pair (1, 1) (y, j) e in
    subst (λ (p : Port). Inner 2 0 p.0 p.1) s (inl refl, refl)
of_second (suc i) y j e = absurd (cc)

inner : (x i y j : ℕ) → In x parted → ◌≢◌ {A = Port} (x, i) (1, 0) → link_of whole x i ≡ Some (y, j) → Inner x i y j
inner x i y j (inl e) d l =
    subst (λ z. Inner z i y j) e (of_first i y j (λ q. d (subst (λ z. ◌≡◌ {A = Port} (z, i) (1, 0)) e q)) (subst (λ z. link_of whole z i ≡ Some (y, j)) (sym e) l))
inner x i y j (inr (inl e)) d l = subst (λ z. Inner z i y j) e (of_second i y j (subst (λ z. link_of whole z i ≡ Some (y, j)) (sym e) l))
inner x i y j (inr (inr v)) d l = absurd v

-- in the example a part has its copy
pub part_has_copy : PartHasCopy
part_has_copy = record {
  is = record { atoms = parted; part = part; long = refl; entered = refl; functors = functors; inner = inner };
  other_order = λ k.
      let same : k.atoms ≡ parted = determined (net whole).arity leads k.part part in
      let e : ◌≡◌ {A = Port} (3, 0) (4, 0) = k.entered ∙ ap (λ xs. moved (answer xs (4 ∷ 3 ∷ [])) (1, 0)) same in
      three_four (ap (λ (p : Port). p.0) e);
  not_made = λ k.
      let same : k.atoms ≡ parted = determined (net whole).arity leads k.part part in
      no_functor binary_f (k.functors 1 (subst (In 1) (sym same) (inl refl))) (ap (λ xs. functor_of whole (answer xs (3 ∷ 4 ∷ []) 1)) same);
}
  where
    three_four : ◌≡◌ {A = ℕ} 3 4 → ⊥
    three_four e = omega (arith, e)

    no_functor : (g : Functor) {o : Option Functor} → o ≡ Some g → o ≡ None → ⊥
    no_functor g e n = let z : ◌≡◌ {A = Option Functor} (Some g) None = sym e ∙ n in cc
