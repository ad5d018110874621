-- Examples of which membranes are awake.
use Rattle.std.proofs.Common.{ℕ, zero, suc, ◌≡◌, ◌<◌, [], ◌∷◌, Some, refl, sym, subst, arith}
use Rattle.std.specs.Prelude.{slice_get}
use Rattle.lmn_store_heap.specs.Heap.{mem_mark_of, mem_marked}
use Rattle.lmn_store_heap.specs.Examples.{across}
use Rattle.lmn_store_trait.specs.Examples.{InnerIsNext, BothSleep}

-- where two have a mark that isn't 0, so has each that stands there
two_sleep : (P : ℕ → Type 0) → P 0 → P 1 → (i m : ℕ) → slice_get (0 ∷ 1 ∷ []) i ≡ Some m → P m
two_sleep P p q zero m e = let s : 0 ≡ m = (cc) in subst P s p
two_sleep P p q (suc zero) m e = let s : 1 ≡ m = (cc) in subst P s q
two_sleep P p q (suc (suc i)) m e = absurd (cc)

pub inner_is_next : InnerIsNext
inner_is_next = (
  record {
    least = omega arith;
    is = refl;
    awake = refl;
    none = λ i m low high e z. first i m high e z;
  },
  λ w. w.none 0 0 (omega arith) (omega arith) refl refl,
)
  where
    first : (i m : ℕ) → i < 1 → slice_get (0 ∷ 1 ∷ []) i ≡ Some m → mem_mark_of (mem_marked across 0 1) m ≡ 0 → ⊥
    first zero m high e z =
        let s : 0 ≡ m = (cc) in
        let k : mem_mark_of (mem_marked across 0 1) 0 ≡ 0 = subst (λ x. mem_mark_of (mem_marked across 0 1) x ≡ 0) (sym s) z in
        let o : ◌≡◌ {A = ℕ} 1 0 = k in absurd (omega (arith, o))
    first (suc i) m high e z = absurd (omega (arith, high))

pub both_sleep : BothSleep
both_sleep = (
  λ i m low high e. two_sleep (λ x. mem_mark_of (mem_marked (mem_marked across 0 1) 1 1) x ≡ 0 → ⊥) (λ k. one k) (λ k. one k) i m e,
  λ w. w 1 1 (omega arith) (omega arith) refl refl,
)
  where
    one : ◌≡◌ {A = ℕ} 1 0 → ⊥
    one o = absurd (omega (arith, o))
