-- The path with a number leads to the membrane with this number.
use Rattle.std.proofs.Common.{ℕ, suc, ◌≡◌, ◌+◌, List, [], ◌∷◌, Some, refl, sym, subst, arith}
use Rattle.std.specs.Prelude.{slice_get}
use Rattle.lmn_store_heap.specs.Heap.{Heap, mems_in}
use Rattle.lmn_store_heap.specs.Sound.{Forest, bare, mem, flat, Forms}
use Rattle.lmn_adequacy.specs.Choice.{paths_from}
use Rattle.lmn_adequacy_heaps.specs.HeapRegions.{HeapReading, regions_at}
use Rattle.lmn_adequacy_heaps.proofs.Results.{root_forest}
use Rattle.lmn_adequacy_turns.specs.Turning.{Leads, stays, enters}
use Rattle.lmn_adequacy_choices.specs.Laws.{EachWith, each_none, each_and, MembranesAreNumberedAlike}
use Rattle.lmn_adequacy_choices.proofs.Lists.{each_many, each_both, each_drop, each_take, each_changed}
use Rattle.lmn_adequacy_choices.proofs.Paths.{one_path}
use Rattle.lmn_base.proofs.Lists.{plus_nothing}

module _ (h : Heap) (r : HeapReading) where
  -- the membranes of a list that begins at number n of those of x
  numbers_from : (x : ℕ) (f : Forest) (ms : List ℕ) (n : ℕ) → Forms h f ms → ((i y : ℕ) → slice_get ms i ≡ Some y → slice_get (mems_in h x) (n + i) ≡ Some y) →
      EachWith (λ path m. Leads h m path x) (paths_from n (regions_at h r f)) (flat f)
  numbers_from x bare ms n F g = each_none
  numbers_from x (mem k i f) ms n F g =
      let none : n + 0 ≡ n = omega arith in
      let here : slice_get (mems_in h x) n ≡ Some k = subst (λ z. slice_get (mems_in h x) z ≡ Some k) none (g 0 k (subst (λ z. slice_get z 0 ≡ Some k) (sym F.1) refl)) in
      let inside : EachWith (λ path m. Leads h m path k) ([] ∷ paths_from 0 (regions_at h r i)) (k ∷ flat i) =
      each_and stays (numbers_from k i (mems_in h k) 0 F.2 (λ j y e. let z : 0 + j ≡ j = omega arith in subst (λ w. slice_get (mems_in h k) w ≡ Some y) (sym z) e)) in
      let first = each_changed (λ path m. Leads h m path k) (λ path m. Leads h m path x) (λ path. n ∷ path) (λ path m l. enters {n = n} {x = x} {y = k} {path = path} here l) inside in
      let later = numbers_from x f F.0 (suc n) F.3 (λ j y e. let z : suc n + j ≡ n + suc j = omega arith in
      subst (λ w. slice_get (mems_in h x) w ≡ Some y) (sym z) (g (suc j) y (subst (λ w. slice_get w (suc j) ≡ Some y) (sym F.1) e))) in
      each_both (λ path m. Leads h m path x) first later

-- membranes have the same numbers in the tree of a heap and in its region
pub numbered_alike : MembranesAreNumberedAlike
numbered_alike h r inner tr =
    let R : List ℕ → ℕ → Type 0 = λ path m. Leads h m path h.root in
    let below = numbers_from h r h.root inner (mems_in h h.root) 0 tr.forms.2 (λ j y e. let z : 0 + j ≡ j = omega arith in subst (λ w. slice_get (mems_in h h.root) w ≡ Some y) (sym z) e) in
    let all = each_and {x = []} {y = h.root} stays (subst (EachWith R (paths_from 0 (regions_at h r inner))) (sym (plus_nothing (flat inner))) below) in
    record {
      numbers = all;
      many = each_many R all;
      asked = λ from. each_both R (each_drop R from all) (each_take R from all);
      one = λ m path other l k. one_path l k inner (root_forest h inner tr);
    }
