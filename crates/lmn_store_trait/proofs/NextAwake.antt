-- Which membranes are awake, one after the other.
use Rattle.std.proofs.Common.{ℕ, ◌≡◌, ◌≢◌, ◌≤◌, ◌+◌, List, length, Some, None, inl, inr, sym, subst, ◌∙◌, arith}
use Rattle.std.specs.Prelude.{slice_get}
use Rattle.std.proofs.lemmas.Bool.{cases_eq}
use Rattle.lmn_store_heap.specs.Heap.{Heap, mem_mark_of}
use Rattle.lmn_store_trait.specs.Awake.{NoneAwake}
use Rattle.lmn_store_trait.proofs.Numbers.{is_past}

module _ (h : Heap) (ms : List ℕ) (from : ℕ) where
  -- none of no membranes is awake
  pub none_awake : NoneAwake h ms from from
  none_awake i m low high e = absurd (omega (arith, low, high))

  -- nor is one more that isn't
  pub none_awake_on : (n m : ℕ) → NoneAwake h ms from n → slice_get ms n ≡ Some m → mem_mark_of h m ≢ 0 → NoneAwake h ms from (n + 1)
  none_awake_on n m none is asleep i k low high e = elim (cases_eq i n) [
    | inl same ↦ (λ z. asleep (subst (λ x. mem_mark_of h x ≡ 0) (let q : Some k ≡ Some m = sym e ∙ subst (λ x. slice_get ms x ≡ Some m) (sym same) is in cc) z))
    | inr differ ↦ none i k low (omega (arith, high, differ)) e
  ]

  -- where nothing stands behind them they are all
  pub none_awake_all : (n : ℕ) → NoneAwake h ms from n → slice_get ms n ≡ None → NoneAwake h ms from (length ms)
  none_awake_all n none end i m low high e = none i m low (let l = is_past ms n end in omega (arith, l, high)) e

  -- where the list ends before them there is none
  pub none_awake_past : length ms ≤ from → NoneAwake h ms from (length ms)
  none_awake_past past i m low high e = absurd (omega (arith, past, low, high))
