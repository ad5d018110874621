-- What holds of the examples of numbered links.
use Rattle.std.proofs.Common.{◌≡◌, ℕ, zero, suc, ◌+◌, ◌<◌, ◌⊎◌, inl, inr, [], ◌∷◌, length, Option, None, refl, sym, subst, arith}
use Rattle.std.proofs.lemmas.Bool.{cases_eq}
use Rattle.std.specs.Prelude.{slice_index_or}
use Rattle.lmn_store_heap.specs.Heap.{HeapAtom, partners_of, marks_of}
use Rattle.lmn_print_plain.specs.NumberExamples.{wholly_told, BothPortsTell, OnePortTellsNothing}
use Rattle.lmn_base.proofs.Numbers.{not_equal as apart_test}

atom_cases : (x : ℕ) → (x ≡ 0) ⊎ ((x ≡ 1) ⊎ (wholly_told.atoms x ≡ None))
atom_cases x = elim (cases_eq x 0) [
  | inl e ↦ inl e
  | inr d ↦ elim (cases_eq x 1) [ inl e ↦ inr (inl e) | inr f ↦ inr (inr (rw (apart_test x 0 d, apart_test x 1 f) refl)) ]
]

each_atom : (P : Option HeapAtom → Type 0) → P (wholly_told.atoms 0) → P (wholly_told.atoms 1) → P None → (x : ℕ) → P (wholly_told.atoms x)
each_atom P p q n x = elim (atom_cases x) [
  | inl e ↦ subst (λ y. P (wholly_told.atoms y)) (sym e) p
  | inr w ↦ elim w [ inl e ↦ subst (λ y. P (wholly_told.atoms y)) (sym e) q | inr e ↦ subst P (sym e) n ]
]

one_mark : (i : ℕ) → i < 1 → ◌≡◌ {A = ℕ} (slice_index_or (1 ∷ 0 ∷ []) i 0) 1
one_mark zero l = refl
one_mark (suc i) l = absurd (omega (arith, l))

-- in the example both ports of a link tell its number
pub both_ports_tell : BothPortsTell
both_ports_tell a i l =
    each_atom (λ o. i < length (partners_of o) → slice_index_or (marks_of o) i 0 ≡ 1) (one_mark i) (one_mark i) (λ k. absurd (let z : i < 0 = k in omega (arith, z))) a l

-- and one alone tells nothing
pub one_port_tells_nothing : OnePortTellsNothing
one_port_tells_nothing name told = let e : ◌≡◌ {A = ℕ} 0 (name 1 0 + 1) = told 1 0 (omega arith) in absurd (omega (arith, e))
