-- Parts that stand whole.
use Rattle.std.proofs.Common.{◌≡◌, ◌≢◌, ◌∙◌, ◌⊎◌, ℕ, zero, suc, ◌+◌, ◌<◌, ◌≤◌, List, [], ◌∷◌, take, length, slice_index_or, Option, Some, sym, subst, inl, inr, arith}
use Rattle.std.proofs.lemmas.Option.{same_Some}
use Rattle.lmn_base.specs.Lists.{In}
use Rattle.lmn_base.specs.Graphs.{Port}
use Rattle.lmn_store_heap.specs.Heap.{Heap, home_of}
use Rattle.lmn_store_heap.specs.Sound.{Valid}
use Rattle.lmn_solid_search.specs.Walking.{IsGathered, StandsApart, Fits}

-- what stands in a longer beginning of a list
pub in_longer : (a : ℕ) (xs : List ℕ) (i : ℕ) → i < length xs → In a (take (i + 1) xs) → In a (take i xs) ⊎ (slice_index_or xs i 0 ≡ a)
in_longer a [] i l k = absurd (omega (arith, l))
in_longer a (y ∷ xs) zero l (inl g) = inr g
in_longer a (y ∷ xs) zero l (inr k) = absurd k
in_longer a (y ∷ xs) (suc i) l k = by (in_longer a xs i (omega (arith, l))) (let e : suc i + 1 ≡ suc (i + 1) = omega arith in subst (λ (n : ℕ). In a (take n (y ∷ xs))) e k)
  where
    by : (In a (take (i + 1) xs) → In a (take i xs) ⊎ (slice_index_or xs i 0 ≡ a)) → In a (take (suc (i + 1)) (y ∷ xs)) → In a (take (suc i) (y ∷ xs)) ⊎ (slice_index_or xs i 0 ≡ a)
    by h (inl g) = inl (inl g)
    by h (inr m) = elim (h m) [ inl n ↦ inl (inr n) | inr g ↦ inr g ]

-- an item more that isn't a, and one more of which P holds
pub not_so_far : (a : ℕ) (xs : List ℕ) (i : ℕ) → i < length xs → slice_index_or xs i 0 ≢ a → (In a (take i xs) → ⊥) → In a (take (i + 1) xs) → ⊥
not_so_far a xs i l d h k = elim (in_longer a xs i l k) [ inl m ↦ h m | inr e ↦ d e ]

pub all_so_far : (P : ℕ → Type 0) (xs : List ℕ) (i : ℕ) → i < length xs → P (slice_index_or xs i 0) → ((a : ℕ) → In a (take i xs) → P a) → (a : ℕ) → In a (take (i + 1) xs) → P a
all_so_far P xs i l p h a k = elim (in_longer a xs i l k) [ inl m ↦ h a m | inr e ↦ subst P e p ]

pub in_whole : (a : ℕ) (xs : List ℕ) (i : ℕ) → length xs ≤ i → In a xs → In a (take i xs)
in_whole a [] i l k = absurd k
in_whole a (x ∷ xs) zero l k = absurd (omega (arith, l))
in_whole a (x ∷ xs) (suc i) l (inl e) = inl e
in_whole a (x ∷ xs) (suc i) l (inr k) = inr (in_whole a xs i (omega (arith, l)) k)

-- all atoms of a part fit
pub all_fit : (h : Heap) (root : Port) (home : ℕ) (images atoms : List ℕ) (marks : List (Option ℕ)) → Valid h → ((a : ℕ) → In a atoms → Fits h home images a) → IsGathered h root marks atoms → StandsApart h root home images
all_fit h root home images atoms marks v fit g = (
  record {
    at_home = λ a r. (fit a (g.all a r)).0;
    no_other_end = λ a i f r e l d. v.full a i (let s = v.sound.shaped.ports a f e in omega (arith, l, s));
  },
  λ b r. (fit b (g.all b r)).1,
)

-- one of them doesn't
pub one_misfits : (h : Heap) (root : Port) (home : ℕ) (images atoms : List ℕ) (marks : List (Option ℕ)) (a : ℕ) → In a atoms → (Fits h home images a → ⊥) → IsGathered h root marks atoms → StandsApart h root home images → ⊥
one_misfits h root home images atoms marks a i misfit g s = misfit (s.0.at_home a (g.reached a i), s.1 a (g.reached a i))

pub misfit_home : (h : Heap) (home n : ℕ) (images : List ℕ) (a : ℕ) → home_of h a ≡ Some n → n ≢ home → Fits h home images a → ⊥
misfit_home h home n images a e d f = d (same_Some _ _ (sym e ∙ f.0))

pub in_part : (a : ℕ) (qs : List ℕ) (j : ℕ) → In a (take j qs) → In a qs
in_part a [] zero k = absurd k
in_part a [] (suc j) k = absurd k
in_part a (q ∷ qs) zero k = absurd k
in_part a (q ∷ qs) (suc j) (inl e) = inl e
in_part a (q ∷ qs) (suc j) (inr k) = inr (in_part a qs j k)
