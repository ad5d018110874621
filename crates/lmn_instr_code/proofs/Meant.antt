-- The code of a small head on a small heap.
use Rattle.std.proofs.Common.{ℕ, ◌≡◌, ◌≢◌, ◌⊎◌, [], ◌∷◌, refl, sym, subst, inl, inr, ◌∙◌, arith}
use Rattle.lmn_store_heap.specs.Heap.{atoms_in}
use Rattle.lmn_solid_heads.specs.Embeddings.{ListNotAfter, index_of}
use Rattle.lmn_instr_code.specs.Running.{HeadRegisters, Succeeds, choices}
use Rattle.lmn_instr_code.specs.Meant.{HeadCodeIsMeant, holding, two_atoms, two_different}
use Rattle.lmn_base.specs.Lists.{In}
use Rattle.lmn_base.proofs.Numbers.{one_is_not_zero as one_not_zero}

zero_not_one : ◌≢◌ {A = ℕ} 0 1
zero_not_one = omega arith

in_order : Succeeds two_atoms two_different 0 (holding 0 1)
in_order = record { here = refl; all = ((inl refl, refl), ((inr (inl refl), refl), (one_not_zero, (tt, tt)))) }

turned_round : Succeeds two_atoms two_different 0 (holding 1 0)
turned_round = record { here = refl; all = ((inr (inl refl), refl), ((inl refl, refl), (zero_not_one, (tt, tt)))) }

-- one of the two atoms
abbrev IsOne : ℕ → Type 0
IsOne n = (n ≡ 0) ⊎ (n ≡ 1)

one : {n : ℕ} → In n (0 ∷ 1 ∷ []) → IsOne n
one (inl e) = inl (sym e)
one (inr (inl e)) = inr (sym e)
one (inr (inr e)) = absurd e

-- the positions of two different atoms are not before the first and the second
least : (x y : ℕ) → IsOne x → IsOne y → y ≢ x → ListNotAfter (0 ∷ 1 ∷ []) (index_of x (0 ∷ 1 ∷ []) ∷ index_of y (0 ∷ 1 ∷ []) ∷ [])
least x y (inl e) (inl f) d = absurd (d (f ∙ sym e))
least x y (inl e) (inr f) d = rw (e, f) (inr (refl, inr (refl, tt)))
least x y (inr e) k d = rw e (inl (omega arith))

-- whatever registers succeed
not_before : (s : HeadRegisters) → Succeeds two_atoms two_different 0 s → ListNotAfter (choices two_atoms (holding 0 1) two_different) (choices two_atoms s two_different)
not_before s w =
    let inside : (n : ℕ) → In n (atoms_in two_atoms (s.images.membrane 0)) → IsOne n = λ n i. one (subst (λ m. In n (atoms_in two_atoms m)) w.here i) in
    rw w.here (least (s.images.atom 0) (s.images.atom 1) (inside (s.images.atom 0) w.all.0.0) (inside (s.images.atom 1) w.all.1.0.0) w.all.1.1.0)

pub head_code_is_meant : HeadCodeIsMeant
head_code_is_meant = record {
  first = record { succeeds = in_order; first = not_before };
  other = turned_round;
  not_first = λ w. later (w.first (holding 0 1) in_order);
  same = λ w. w.all.1.1.0 refl;
}
  where
    later : ListNotAfter (1 ∷ 0 ∷ []) (0 ∷ 1 ∷ []) → ⊥
    later (inl e) = omega (arith, e)
    later (inr e) = one_not_zero e.0
