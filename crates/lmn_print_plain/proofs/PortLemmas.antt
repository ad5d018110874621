-- The links of an atom get their numbers.
use Rattle.std.proofs.Common.{◌≡◌, ℕ, zero, suc, ◌+◌, ◌≤◌, [], ◌∷◌, ◌++◌, sym, ap, ◌∙◌, arith}
use Rattle.lmn_store_heap.specs.Heap.{Heap}
use Rattle.lmn_store_heap.specs.Solid.{links_from}
use Rattle.lmn_print_plain.specs.Numbers.{Remarks, GoOn}
use Rattle.lmn_print_plain.proofs.MarkLemmas.{remarks_none, remarks_more}
use Rattle.lmn_print_plain.proofs.NumberLemmas.{go_none, go_more, go_as}

numbered_more : (name : ℕ → ℕ → ℕ) (a i n : ℕ) → links_from name a i (n + 1) ≡ links_from name a i n ++ (name a (i + n) ∷ [])
numbered_more name a i n = ap (links_from name a i) (let e : n + 1 ≡ suc n = omega arith in e) ∙ by i n
  where
    by : (i n : ℕ) → links_from name a i (suc n) ≡ links_from name a i n ++ (name a (i + n) ∷ [])
    by i zero = ap (λ k. name a k ∷ []) (let e : i ≡ i + 0 = omega arith in e)
    by i (suc n) = ap (λ xs. name a i ∷ xs) (by (i + 1) n ∙ ap (λ k. links_from name a (i + 1) n ++ (name a k ∷ [])) (let e : i + 1 + n ≡ i + suc n = omega arith in e))

numbered_last : (name : ℕ → ℕ → ℕ) (a k : ℕ) → links_from name a 0 (k + 1) ≡ links_from name a 0 k ++ (name a k ∷ [])
numbered_last name a k = numbered_more name a 0 k ∙ ap (λ m. links_from name a 0 k ++ (name a m ∷ [])) (let e : 0 + k ≡ k = omega arith in e)

-- The first ports of an atom have their numbers.
pub record Ports (s t : Heap) (a n m k : ℕ) : Type 0 where
  pub marks : Remarks s t
  pub numbers : GoOn s t n m (λ name. links_from name a 0 k)
  pub few : m ≤ n + k

-- at first no port of an atom has its number
pub ports_none : (s : Heap) (a n : ℕ) → Ports s s a n n 0
ports_none s a n = record { marks = remarks_none s; numbers = go_none s n; few = omega arith }

-- then one more
pub ports_more : (s t u : Heap) (a n m m' k : ℕ) → Ports s t a n m k → Remarks t u → GoOn t u m m' (λ name. name a k ∷ []) → m' ≤ m + 1 → Ports s u a n m' (k + 1)
ports_more s t u a n m m' k p r g l = record {
  marks = remarks_more s t u p.marks r;
  numbers = go_as s u n m' (λ name. links_from name a 0 k ++ (name a k ∷ [])) (λ name. links_from name a 0 (k + 1)) (λ name. sym (numbered_last name a k))
      (go_more s t u n m m' (λ name. links_from name a 0 k) (λ name. name a k ∷ []) p.marks p.numbers g);
  few = let f = p.few in omega (arith, f, l);
}
