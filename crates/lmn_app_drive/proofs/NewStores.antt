-- A new store is empty.
use Rattle.std.proofs.Common.{ℕ, ◌≡◌, ◌≢◌, ◌⊎◌, false, true, true≢false, refl, sym, inl, inr}
use Rattle.std.proofs.lemmas.Bool.{cases_eq}
use Rattle.lmn_base.proofs.Numbers.{equal_itself, not_equal}
use Rattle.lmn_store_heap.specs.Heap.{IsMem}
use Rattle.lmn_schedule_loading.specs.Loaded.{IsEmpty}
use Rattle.lmn_store_web.specs.WebHeaps.{alone}

pub alone_is_empty : (r : ℕ) → IsEmpty (alone r)
alone_is_empty r = record {
  no_atom = λ a. refl;
  only_root = λ m i. by m i (cases_eq m r);
  no_rule = rw (equal_itself r) refl;
}
  where
    by : (m : ℕ) → IsMem (alone r) m → (m ≡ r) ⊎ (m ≢ r) → m ≡ r
    by m i (inl e) = e
    by m i (inr d) = let t : IsMem (alone r) m = i in let u : false ≡ true = (rw (not_equal m r d) at t) in absurd (true≢false (sym u))
