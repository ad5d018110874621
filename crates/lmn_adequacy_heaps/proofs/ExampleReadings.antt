-- A small heap can be read.
use Rattle.std.proofs.Common.{ℕ, zero, suc, ◌≡◌, ◌<◌, ◌⊎◌, List, [], ◌∷◌, length, Some, None, refl, sym, ap, subst, ◌∙◌, inl, inr, arith}
use Rattle.std.proofs.lemmas.Bool.{cases_eq}
use Rattle.std.proofs.lemmas.Option.{same_Some}
use Rattle.lmn_base.specs.declared.functor.Functor.{Functor}
use Rattle.lmn_base.specs.Names.{HasNames, label_names}
use Rattle.lmn_store_heap.specs.Examples.{functor_a, functor_b, across}
use Rattle.lmn_store_heap.specs.Heap.{functor_of}
use Rattle.lmn_store_heap.proofs.ExampleProofs.{across_is_valid}
use Rattle.lmn_congruence.specs.Rules.{Name}
use Rattle.lmn_adequacy_heaps.specs.Examples.{AcrossIsRead, AcrossHasItsForest}
use Rattle.lmn_base.proofs.Numbers.{not_equal as apart_test}

one_name : (names : List Name) (n : ℕ) → n < length names → HasNames names (n ∷ [])
one_name names n l zero d k = l
one_name names n l (suc i) d k = absurd (omega (arith, k))

-- the functor of an atom is one of two
functor_cases : (x : ℕ) → (functor_of across x ≡ Some functor_a) ⊎ ((functor_of across x ≡ Some functor_b) ⊎ (functor_of across x ≡ None))
functor_cases x = elim (cases_eq x 0) [
  | inl e ↦ inl (ap (functor_of across) e)
  | inr d ↦ elim (cases_eq x 1) [ inl e ↦ inr (inl (ap (functor_of across) e)) | inr f ↦ inr (inr (rw (apart_test x 0 d, apart_test x 1 f) refl)) ]
]

no_functor : {f : Functor} → None ≡ Some f → ⊥
no_functor e = cc

names_known : (names : List Name) → 9 < length names → (x : ℕ) (f : Functor) → functor_of across x ≡ Some f → HasNames names (label_names f.label)
names_known names l x f e = elim (functor_cases x) [
  | inl k ↦ subst (λ f. HasNames names (label_names f.label)) (same_Some functor_a f (sym k ∙ e)) (one_name names 8 (omega (arith, l)))
  | inr w ↦ elim w [
    | inl k ↦ subst (λ f. HasNames names (label_names f.label)) (same_Some functor_b f (sym k ∙ e)) (one_name names 9 l)
    | inr k ↦ absurd (no_functor (sym k ∙ e))
  ]
]

-- it can be read with names enough, and with no fewer
pub across_is_read : AcrossIsRead
across_is_read name names rule naming list = (
  (λ l. record { valid = across_is_valid; naming = naming; names = list; known = names_known names l }),
  (λ l r. let k : 9 < length names = r.known 1 functor_b refl zero 0 (omega arith) in omega (arith, k, l)),
)

-- its forest is that of one membrane
pub across_has_its_forest : AcrossHasItsForest
across_has_its_forest = (
  record { forms = ([], refl, refl, refl); once = (((λ e. absurd (omega (arith, e))), tt), (tt, tt)) },
  (λ w. let e = w.forms in cc),
)
