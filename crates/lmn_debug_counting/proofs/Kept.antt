-- What is kept stays right while atoms come and go: of any functions of atoms.
use Rattle.std.proofs.Common.{ℕ, suc, ◌≡◌, ◌≢◌, ◌+◌, inl, inr, Bool, true, false, List, ◌∷◌, length, Option, Some, None, refl, sym, ap, subst, ◌∙◌, arith}
use Rattle.std.proofs.lemmas.Bool.{cases_eq}
use Rattle.lmn_base.specs.declared.functor.Functor.{Functor}
use Rattle.lmn_base.specs.Lists.{In}
use Rattle.lmn_base.proofs.Truth.{never_both}
use Rattle.lmn_store_heap.specs.Functors.{same_functor}
use Rattle.lmn_store_heap.specs.Heap.{HeapAtom}
use Rattle.lmn_store_heap.specs.Lists.{without}
use Rattle.lmn_store_heap.proofs.ListLemmas.{each_of, in_without}
use Rattle.lmn_store_heap.proofs.Listing.{distinct_without, in_without_of}
use Rattle.lmn_store_heap.proofs.Pigeonholes.{length_without}
use Rattle.lmn_store_heap.proofs.WithFunctor.{functor_is, functor_same}
use Rattle.lmn_debug_counting.specs.Tallies.{AreThose, Gains, IsKept, Loses, stands_as}
use Rattle.lmn_debug_counting.specs.declared.tally.Tally.{Tally}

-- a list of those of one function is one of those of another function that agrees with it
those_same : (u v : ℕ → Option HeapAtom) (f : Functor) → ((a : ℕ) → stands_as f (v a) ≡ stands_as f (u a)) → (xs : List ℕ) → AreThose v f xs → AreThose u f xs
those_same u v f e xs w = record { once = w.once; all = λ a. (λ i. sym (e a) ∙ (w.all a).0 i, λ s. (w.all a).1 (e a ∙ s)) }

-- where no atom comes or goes, all is kept
pub kept_same : (u v : ℕ → Option HeapAtom) (t : Option Tally) → ((f : Functor) (a : ℕ) → stands_as f (v a) ≡ stands_as f (u a)) → IsKept u t → IsKept v t
kept_same u v None e k = tt
kept_same u v (Some t) e k = λ xs w. k xs (those_same u v t.functor (e t.functor) xs w)

module _ (u v : ℕ → Option HeapAtom) (a : ℕ) (away : (f : Functor) (j : ℕ) → j ≢ a → stands_as f (v j) ≡ stands_as f (u j)) where
  -- of a functor that neither of two atoms has, no more and no fewer stand
  level : (f : Functor) → stands_as f (u a) ≡ false → stands_as f (v a) ≡ false → (j : ℕ) → stands_as f (v j) ≡ stands_as f (u j)
  level f before behind j = elim (cases_eq j a) [
    | inl e ↦ ap (λ i. stands_as f (v i)) e ∙ behind ∙ sym before ∙ sym (ap (λ i. stands_as f (u i)) e)
    | inr d ↦ away f j d
  ]

  -- of its functor one more stands,
  gained : (f : Functor) (n : ℕ) → stands_as f (u a) ≡ false → stands_as f (v a) ≡ true → ((xs : List ℕ) → AreThose u f xs → n ≡ length xs) → (xs : List ℕ) → AreThose v f xs → n + 1 ≡ length xs
  gained f n before behind k xs w =
      let here : In a xs = (w.all a).1 behind in
      let less = length_without a xs here in
      let e = k (without a xs) (record { once = distinct_without a xs w.once; all = λ j. (back j, forth j) }) in
      omega (arith, less, e)
    where
      back : (j : ℕ) → In j (without a xs) → stands_as f (u j) ≡ true
      back j i = let r = in_without_of a j xs w.once i in sym (away f j r.1) ∙ (w.all j).0 r.0

      forth : (j : ℕ) → stands_as f (u j) ≡ true → In j (without a xs)
      forth j s = elim (cases_eq j a) [
        | inl e ↦ absurd (never_both _ s (ap (λ i. stands_as f (u i)) e ∙ before))
        | inr d ↦ in_without a j xs ((w.all j).1 (away f j d ∙ s)) d
      ]

  -- or one fewer
  lost : (f : Functor) (n k : ℕ) → stands_as f (u a) ≡ true → stands_as f (v a) ≡ false → ((xs : List ℕ) → AreThose u f xs → n ≡ length xs) → k + 1 ≡ n → (xs : List ℕ) → AreThose v f xs → k ≡ length xs
  lost f n k before behind counts less xs w =
      let e : n ≡ suc (length xs) = counts (a ∷ xs) (record { once = (each_of (λ y. a ≢ y) xs (λ y i. apart y i), w.once); all = λ j. (back j, forth j) }) in
      omega (arith, e, less)
    where
      apart : (y : ℕ) → In y xs → a ≢ y
      apart y i e = never_both _ ((w.all y).0 i) (ap (λ j. stands_as f (v j)) (sym e) ∙ behind)

      back : (j : ℕ) → In j (a ∷ xs) → stands_as f (u j) ≡ true
      back j (inl e) = ap (λ i. stands_as f (u i)) (sym e) ∙ before
      back j (inr i) = sym (away f j (λ e. apart j i (sym e))) ∙ (w.all j).0 i

      forth : (j : ℕ) → stands_as f (u j) ≡ true → In j (a ∷ xs)
      forth j s = elim (cases_eq j a) [
        | inl e ↦ inl (sym e)
        | inr d ↦ inr ((w.all j).1 (away f j d ∙ s))
      ]

  -- What is kept behind an atom that came,
  pub kept_gained : (g : Functor) (old new : Option Tally) → ((f : Functor) → stands_as f (u a) ≡ false) → ((f : Functor) → stands_as f (v a) ≡ same_functor g f) → Gains (Some g) old new → IsKept u old → IsKept v new
  kept_gained g old None before behind w k = tt
  kept_gained g None (Some t) before behind w k = absurd w
  kept_gained g (Some s) (Some t) before behind w k = by (same_functor g s.functor) refl
    where
      by : (b : Bool) → same_functor g s.functor ≡ b → (xs : List ℕ) → AreThose v t.functor xs → t.count ≡ length xs
      by true e xs l = w.one (functor_is g s.functor e) ∙ gained s.functor s.count (before s.functor) (behind s.functor ∙ e) k xs (subst (λ f. AreThose v f xs) w.functor l)
      by false e xs l =
          w.other (λ same. never_both _ (ap (λ f. same_functor f s.functor) same ∙ functor_same s.functor) e)
          ∙ k xs (those_same u v s.functor (level s.functor (before s.functor) (behind s.functor ∙ e)) xs (subst (λ f. AreThose v f xs) w.functor l))

  -- and behind one that went
  pub kept_lost : (g : Functor) (old new : Option Tally) → ((f : Functor) → stands_as f (u a) ≡ same_functor g f) → ((f : Functor) → stands_as f (v a) ≡ false) → Loses (Some g) old new → IsKept u old → IsKept v new
  kept_lost g old None before behind w k = tt
  kept_lost g None (Some t) before behind w k = absurd w
  kept_lost g (Some s) (Some t) before behind w k = by (same_functor g s.functor) refl
    where
      by : (b : Bool) → same_functor g s.functor ≡ b → (xs : List ℕ) → AreThose v t.functor xs → t.count ≡ length xs
      by true e xs l = lost s.functor s.count t.count (before s.functor ∙ e) (behind s.functor) k (w.one (functor_is g s.functor e)) xs (subst (λ f. AreThose v f xs) w.functor l)
      by false e xs l =
          w.other (λ same. never_both _ (ap (λ f. same_functor f s.functor) same ∙ functor_same s.functor) e)
          ∙ k xs (those_same u v s.functor (level s.functor (before s.functor ∙ e) (behind s.functor)) xs (subst (λ f. AreThose v f xs) w.functor l))
