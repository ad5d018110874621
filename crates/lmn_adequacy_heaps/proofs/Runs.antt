-- Lists by their indices, and the values of a map in a row.
use Rattle.std.proofs.Common.{ℕ, zero, suc, ◌≡◌, ◌≢◌, ◌+◌, ◌<◌, ◌≤◌, List, [], ◌∷◌, map, Some, refl, sym, ap, subst, ◌∙◌, inl, inr, arith}
use Rattle.std.specs.Prelude.{slice_get, slice_index_or}
use Rattle.std.proofs.lemmas.Bool.{cases_eq}
use Rattle.std.proofs.lemmas.Option.{same_Some}
use Rattle.lmn_store_heap.specs.Lists.{Distinct}
use Rattle.lmn_store_heap.proofs.ListLemmas.{in_left, in_right}
use Rattle.lmn_solid_heads.specs.Heads.{HeadMembrane}
use Rattle.lmn_congruence.specs.Links.{places}
use Rattle.lmn_adequacy_heaps.proofs.Forests.{find_in}
use Rattle.lmn_adequacy_heaps.proofs.PartsOut.{flattened}
use Rattle.lmn_adequacy_heaps.proofs.Walking.{run}
use Rattle.lmn_congruence.proofs.TranslatedLinks.{places_append as places_both}
use Rattle.lmn_base.specs.Lists.{In}
use Rattle.std.specs.List.{AllByRecursion}
use Rattle.lmn_base.proofs.Lists.{in_either}

-- a value of a row is in it
pub run_in : (f : ℕ → ℕ) (n k i : ℕ) → i < k → In (f (n + i)) (run f n k)
run_in f n zero i l = absurd (omega (arith, l))
run_in f n (suc k) zero l = let z : n + 0 ≡ n = omega arith in inl (ap f (sym z))
run_in f n (suc k) (suc i) l = let z : n + suc i ≡ (n + 1) + i = omega arith in inr (subst (λ w. In (f w) (run f (n + 1) k)) (sym z) (run_in f (n + 1) k i (omega (arith, l))))

-- what is in a row is a value
pub in_run : (f : ℕ → ℕ) (n k b : ℕ) → In b (run f n k) → (i : ℕ) × (i < k) × (f (n + i) ≡ b)
in_run f n zero b p = absurd p
in_run f n (suc k) b (inl e) = let z : n + 0 ≡ n = omega arith in (0, omega arith, rw z e)
in_run f n (suc k) b (inr p) =
    let u = in_run f (n + 1) k b p in
    let z : n + suc u.0 ≡ (n + 1) + u.0 = omega arith in
    (suc u.0, omega (arith, u.1), rw z u.2)

-- a row of different values has no repetition
pub run_distinct : (f : ℕ → ℕ) (n k : ℕ) → ((i j : ℕ) → i < k → j < k → f (n + i) ≡ f (n + j) → i ≡ j) → Distinct (run f n k)
run_distinct f n zero h = tt
run_distinct f n (suc k) h = (
  away (run f (n + 1) k) (λ b p. let u = in_run f (n + 1) k b p in u),
  run_distinct f (n + 1) k (λ i j l m e.
      let zi : n + suc i ≡ (n + 1) + i = omega arith in
      let zj : n + suc j ≡ (n + 1) + j = omega arith in
      let u = h (suc i) (suc j) (omega (arith, l)) (omega (arith, m)) (ap f zi ∙ e ∙ sym (ap f zj)) in
      omega (arith, u)),
)
  where
    away : (xs : List ℕ) → ((b : ℕ) → In b xs → (i : ℕ) × (i < k) × (f ((n + 1) + i) ≡ b)) → AllByRecursion (λ b. f n ≢ b) xs
    away [] g = tt
    away (x ∷ xs) g = (
      (λ e.
          let u = g x (inl refl) in
          let z : n + 0 ≡ n = omega arith in
          let zi : n + suc u.0 ≡ (n + 1) + u.0 = omega arith in
          let w = h 0 (suc u.0) (omega arith) (omega (arith, u.1)) (ap f z ∙ e ∙ sym u.2 ∙ sym (ap f zi)) in
          omega (arith, w)),
      away xs (λ b p. g b (inr p)),
    )

-- the membrane around one is found with it
pub get_inside : (ms : List HeadMembrane) (i : ℕ) (n : HeadMembrane) → slice_get ms i ≡ Some n → slice_index_or (map (λ m. m.inside) ms) i 0 ≡ n.inside
get_inside [] i n e = absurd (cc)
get_inside (m ∷ ms) zero n e = let z : m ≡ n = same_Some m n e in ap (λ k. k.inside) z
get_inside (m ∷ ms) (suc i) n e = get_inside ms i n e

-- ---- lists in a row

-- what is in lists in a row is in one of them
pub parts_in : (g : ℕ → List ℕ) (n k b : ℕ) → In b (flattened (run g n k)) → (i : ℕ) × (i < k) × In b (g (n + i))
parts_in g n zero b p = absurd p
parts_in g n (suc k) b p = elim (in_either b (g n) (flattened (run g (n + 1) k)) p) [
  | inl j ↦ (let z : n + 0 ≡ n = omega arith in (0, omega arith, subst (λ w. In b (g w)) (sym z) j))
  | inr j ↦ (let u = parts_in g (n + 1) k b j in
      let z : n + suc u.0 ≡ (n + 1) + u.0 = omega arith in
      (suc u.0, omega (arith, u.1), subst (λ w. In b (g w)) (sym z) u.2))
]

-- what is in one of them is in the row
pub in_parts : (g : ℕ → List ℕ) (n k b i : ℕ) → i < k → In b (g (n + i)) → In b (flattened (run g n k))
in_parts g n zero b i l p = absurd (omega (arith, l))
in_parts g n (suc k) b zero l p = let z : n + 0 ≡ n = omega arith in in_left b (g n) (flattened (run g (n + 1) k)) (subst (λ w. In b (g w)) z p)
in_parts g n (suc k) b (suc i) l p =
    let z : n + suc i ≡ (n + 1) + i = omega arith in
    in_right b (g n) (flattened (run g (n + 1) k)) (in_parts g (n + 1) k b i (omega (arith, l)) (subst (λ w. In b (g w)) z p))

-- lists without a common element have each element once
pub parts_once : (g : ℕ → List ℕ) (n k b : ℕ) → ((i : ℕ) → i < k → places b (g (n + i)) ≤ 1) → ((i j : ℕ) → i < k → j < k → In b (g (n + i)) → In b (g (n + j)) → i ≡ j) → places b (flattened (run g n k)) ≤ 1
parts_once g n zero b once same = omega arith
parts_once g n (suc k) b once same =
    let z : n + 0 ≡ n = omega arith in
    let others = flattened (run g (n + 1) k) in
    let both = places_both b (g n) (flattened (run g (n + 1) k)) in
    let first = subst (λ w. places b (g w) ≤ 1) z (once 0 (omega arith)) in
    let rest = parts_once g (n + 1) k b (λ i l. let y : n + suc i ≡ (n + 1) + i = omega arith in subst (λ w. places b (g w) ≤ 1) y (once (suc i) (omega (arith, l))))
    (λ i j l m p q.
    let yi : n + suc i ≡ (n + 1) + i = omega arith in
    let yj : n + suc j ≡ (n + 1) + j = omega arith in
    let u = same (suc i) (suc j) (omega (arith, l)) (omega (arith, m)) (subst (λ w. In b (g w)) (sym yi) p) (subst (λ w. In b (g w)) (sym yj) q) in
    omega (arith, u)) in
    elim (cases_eq (places b (g n)) 0) [
      | inl e ↦ omega (arith, e, rest, both)
      | inr d ↦ elim (cases_eq (places b (flattened (run g (n + 1) k))) 0) [
        | inl e ↦ omega (arith, e, first, both)
        | inr f ↦ absurd (
            let u = parts_in g (n + 1) k b (find_in b (flattened (run g (n + 1) k)) (omega (arith, f))) in
            let y : n + suc u.0 ≡ (n + 1) + u.0 = omega arith in
            let w = same 0 (suc u.0) (omega arith) (omega (arith, u.1)) (subst (λ w. In b (g w)) (sym z) (find_in b (g n) (omega (arith, d)))) (subst (λ w. In b (g w)) (sym y) u.2) in
            omega (arith, w))
      ]
    ]
