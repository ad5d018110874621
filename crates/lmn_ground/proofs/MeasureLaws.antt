-- How many items a rest has, and that these are few.
use Rattle.std.proofs.Common.{◌≡◌, ◌≢◌, ℕ, ◌+◌, ◌≤◌, ◌^◌, List, [], ◌∷◌, length, map, true, false, Bool, Option, Some, None, refl, sym, ap, ◌∙◌, inl, inr, arith, if◌then◌else◌, ◌==◌}
use Rattle.std.specs.Prelude.{sum}
use Rattle.std.proofs.lemmas.Bool.{eq-eqb, eqb-true}
use Rattle.lmn_store_heap.specs.Heap.{Heap, Distinct, after, from, without, rules_in}
use Rattle.lmn_store_heap.specs.Sound.{AtMost, Sound}
use Rattle.lmn_store_heap.proofs.ListLemmas.{each_in, in_without}
use Rattle.lmn_store_heap.proofs.Pigeonholes.{not_longer}
use Rattle.lmn_base.specs.Lists.{In}
use Rattle.lmn_ground.specs.Rests.{IsLeft}
use Rattle.lmn_ground.proofs.RestLaws.{atoms_once}
use Rattle.lmn_ground.proofs.GatherRestLaws.{rest_atom, rest_member}
use Rattle.lmn_base.proofs.Lists.{sum_cons}

-- a list weighs what one of its elements does and what the others do
weight_without : (f : ℕ → ℕ) (x : ℕ) (ys : List ℕ) → In x ys → sum (map f ys) ≡ f x + sum (map f (without x ys))
weight_without f x [] i = absurd i
weight_without f x (y ∷ ys) i = by (y == x) refl (weight_without f x ys) i
  where
    by : (b : Bool) → (y == x) ≡ b → (In x ys → sum (map f ys) ≡ f x + sum (map f (without x ys))) → In x (y ∷ ys) → sum (map f (y ∷ ys)) ≡ f x + sum (map f (if b then ys else y ∷ without x ys))
    by true t later j = let e : y ≡ x = (eqb-true y x t) in sum_cons f y ys ∙ ap (λ z. f z + sum (map f ys)) e
    by false t later (inl e) = let u = eq-eqb y x e in absurd (cc)
    by false t later (inr j) = let a = sum_cons f y ys in let b = later j in let c = sum_cons f y (without x ys) in omega (arith, a, b, c)

-- a list without repeats that lies in another isn't heavier
pub not_heavier : (f : ℕ → ℕ) (xs ys : List ℕ) → Distinct xs → ((b : ℕ) → In b xs → In b ys) → sum (map f xs) ≤ sum (map f ys)
not_heavier f [] ys d sub = omega arith
not_heavier f (x ∷ xs) ys d sub =
    let k = weight_without f x ys (sub x (inl refl)) in
    let l = not_heavier f xs (without x ys) d.1 (λ z t. in_without x z ys (sub z (inr t)) (λ e. each_in (λ y. x ≢ y) xs z d.0 t (sym e))) in
    let a = sum_cons f x xs in
    omega (arith, k, l, a)

-- one for each, and the rest
one_each : (f : ℕ → ℕ) (xs : List ℕ) → sum (map (λ n. 1 + f n) xs) ≡ length xs + sum (map f xs)
one_each f [] = refl
one_each f (x ∷ xs) =
    let a = sum_cons (λ n. 1 + f n) x xs in
    let b = sum_cons f x xs in
    let c = one_each f xs in
    omega (arith, a, b, c)

-- a rest has few items
pub few_left : (s : Heap) → Sound s → AtMost (2 ^ 48) s → (m : ℕ) (out atoms ms : List ℕ) → IsLeft s m out atoms ms → length atoms + sum (map (λ n. 1 + length (rules_in s n)) ms) ≤ 2 ^ 48
few_left s sound few m out atoms ms r =
    let a = not_longer atoms few.atoms (atoms_once s sound m _ _ atoms ms r) (λ b i. few.all_atoms b (rest_atom s sound m out atoms ms r b i)) in
    let b = not_heavier (λ n. 1 + length (rules_in s n)) ms few.mems r.once (λ n i. few.all_mems n (rest_member s sound m out atoms ms r n i)) in
    let c = one_each (λ n. length (rules_in s n)) few.mems in
    let all = few.few in
    omega (arith, a, b, c, all)

-- Counting.

-- nothing is counted at first
pub count_none : (o : Option ℕ) (all : List ℕ) → from o all ≡ all → 0 + length (from o all) ≡ length all
count_none o all e = let x = ap length e in omega (arith, x)

-- one more is
pub count_more : (k a : ℕ) (o o' : Option ℕ) (all : List ℕ) → o ≡ Some a → from o' all ≡ after a all → k + length (from o all) ≡ length all → (k + 1) + length (from o' all) ≡ length all
count_more k a o o' all e n h =
    let x = ap (λ z. length (from z all)) e in
    let y = ap length n in
    omega (arith, x, y, h)

pub count_below : (k a : ℕ) (o : Option ℕ) (all : List ℕ) → o ≡ Some a → k + length (from o all) ≡ length all → k + 1 ≤ length all
count_below k a o all e h = let x = ap (λ z. length (from z all)) e in omega (arith, x, h)

pub count_all : (k : ℕ) (o : Option ℕ) (all : List ℕ) → o ≡ None → k + length (from o all) ≡ length all → k ≡ length all
count_all k o all e h = let x = ap (λ z. length (from z all)) e in omega (arith, x, h)

-- The same of weights.
pub weigh_none : (f : ℕ → ℕ) (o : Option ℕ) (all : List ℕ) → from o all ≡ all → 0 + sum (map f (from o all)) ≡ sum (map f all)
weigh_none f o all e = let x = ap (λ zs. sum (map f zs)) e in omega (arith, x)

weigh_next : (f : ℕ → ℕ) (a : ℕ) (o : Option ℕ) (all : List ℕ) → o ≡ Some a → sum (map f (from o all)) ≡ f a + sum (map f (after a all))
weigh_next f a o all e = ap (λ z. sum (map f (from z all))) e ∙ sum_cons f a (after a all)

pub weigh_more : (f : ℕ → ℕ) (k a w : ℕ) (o o' : Option ℕ) (all : List ℕ) → o ≡ Some a → w ≡ f a → from o' all ≡ after a all → k + sum (map f (from o all)) ≡ sum (map f all) → (k + w) + sum (map f (from o' all)) ≡ sum (map f all)
weigh_more f k a w o o' all e g n h =
    let x = weigh_next f a o all e in
    let y = ap (λ zs. sum (map f zs)) n in
    omega (arith, x, y, g, h)

pub weigh_below : (f : ℕ → ℕ) (k a w : ℕ) (o : Option ℕ) (all : List ℕ) → o ≡ Some a → w ≡ f a → k + sum (map f (from o all)) ≡ sum (map f all) → k + w ≤ sum (map f all)
weigh_below f k a w o all e g h = let x = weigh_next f a o all e in omega (arith, x, g, h)

pub weigh_all : (f : ℕ → ℕ) (k : ℕ) (o : Option ℕ) (all : List ℕ) → o ≡ None → k + sum (map f (from o all)) ≡ sum (map f all) → k ≡ sum (map f all)
weigh_all f k o all e h = let x = ap (λ z. sum (map f (from z all))) e in let y : sum (map f []) ≡ 0 = refl in omega (arith, x, y, h)
