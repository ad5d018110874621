-- No process has fewer links across its membranes than it has when its connectors are fused.
use Rattle.std.proofs.Common.{ℕ, zero, suc, ◌≡◌, ◌≢◌, ◌+◌, ◌*◌, ◌≤◌, ◌<◌, ◌⊎◌, cond, eqb, List, [], ◌∷◌, map, refl, sym, ◌∙◌, ap, inl, inr, arith}
use Rattle.lmn_congruence.specs.Links.{one_if_same, places}
use Rattle.lmn_congruence.specs.Process.{Process, nothing, connector, atom, pair, membrane, rule, occurrences, Linked, renamed}
use Rattle.lmn_congruence.specs.Fused.{Joins, fused}
use Rattle.lmn_congruence.specs.LinkMaps.{SameCrossings}
use Rattle.lmn_congruence.specs.FreeLinks.{sum_below, above_all, link_bound, one_if_once, one_if_free}
use Rattle.lmn_congruence.proofs.Counts.{linked_left, linked_right, linked_inside}
use Rattle.lmn_congruence.proofs.Totals.{total_same, total_single, total_sum, total_zero, total_at_most, highest}
use Rattle.lmn_congruence.proofs.Crossings.{free_number_below, crossings}
use Rattle.lmn_base.proofs.Numbers.{same_or_not}
use Rattle.lmn_congruence.specs.FreeNumber.{free_number}
use Rattle.lmn_congruence.proofs.FreeNumbers.{free_total}

-- ---- the links that go to one link

-- f at the links that go to z
abbrev pub with_image : (ℕ → ℕ) → ℕ → (ℕ → ℕ) → ℕ → ℕ
with_image v z f y = cond (eqb (v y) z) (f y) 0

image_sum : (v : ℕ → ℕ) (z : ℕ) (f g : ℕ → ℕ) (y : ℕ) → with_image v z (λ y. f y + g y) y ≡ with_image v z f y + with_image v z g y
image_sum v z f g y = grind arith

-- what goes to one link of two counts together is the sum of what goes there of each
pub total_image_sum : (n : ℕ) (v : ℕ → ℕ) (z : ℕ) (f g : ℕ → ℕ) → sum_below n (with_image v z (λ y. f y + g y)) ≡ sum_below n (with_image v z f) + sum_below n (with_image v z g)
total_image_sum n v z f g = total_same n _ _ (λ y b. image_sum v z f g y) ∙ total_sum n (with_image v z f) (with_image v z g)

image_zero : (v : ℕ → ℕ) (z y : ℕ) → with_image v z (λ y. 0) y ≡ 0
image_zero v z y = grind arith

-- one link has one image
image_one : (n : ℕ) (v : ℕ → ℕ) (z x : ℕ) → x < n → sum_below n (with_image v z (λ y. one_if_same y x)) ≡ one_if_same z (v x)
image_one n v z x b = total_single n x (with_image v z (λ y. one_if_same y x)) b (λ y d. elsewhere (v y) y d) ∙ there (v x)
  where
    elsewhere : (k y : ℕ) → y ≢ x → cond (eqb k z) (one_if_same y x) 0 ≡ 0
    elsewhere k y d = grind arith

    there : (k : ℕ) → cond (eqb k z) (one_if_same x x) 0 ≡ one_if_same z k
    there k = grind arith

-- how often links that go to z stand in a list, and in a process
image_places : (n : ℕ) (v : ℕ → ℕ) (z : ℕ) (xs : List ℕ) → above_all xs ≤ n → sum_below n (with_image v z (λ y. places y xs)) ≡ places z (map v xs)
image_places n v z [] b = total_zero n _ (λ y. image_zero v z y)
image_places n v z (x ∷ xs) b = omega (arith, total_image_sum n v z (λ y. one_if_same y x) (λ y. places y xs), image_one n v z x (omega arith), image_places n v z xs (omega arith))

-- a link occurs in the renamed process as often as all links that go to it occurred
pub image_count : (n : ℕ) (v : ℕ → ℕ) (z : ℕ) (P : Process) → link_bound P ≤ n → sum_below n (with_image v z (λ y. occurrences y P)) ≡ occurrences z (renamed v P)
image_count n v z nothing b = total_zero n _ (λ y. image_zero v z y)
image_count n v z (connector x x') b = omega (arith, total_image_sum n v z (λ y. one_if_same y x) (λ y. one_if_same y x'), image_one n v z x (omega arith), image_one n v z x' (omega arith))
image_count n v z (atom a xs) b = image_places n v z xs b
image_count n v z (pair P Q) b = omega (arith, total_image_sum n v z (λ y. occurrences y P) (λ y. occurrences y Q), image_count n v z P (omega arith), image_count n v z Q (omega arith))
image_count n v z (membrane P) b = image_count n v z P b
image_count n v z (rule r) b = total_zero n _ (λ y. image_zero v z y)

-- the two links of a connector add an even number of places
pub image_even : (v : ℕ → ℕ) (z : ℕ) (P : Process) → Joins v P → (k : ℕ) × (occurrences z (renamed v P) ≡ occurrences z (fused v P) + k * 2)
image_even v z nothing h = (0, refl)
image_even v z (connector x y) h = (one_if_same z (v x), rw (← h) (omega arith))
image_even v z (atom a xs) h = (0, omega arith)
image_even v z (pair P Q) h = let i = image_even v z P h.0 in let j = image_even v z Q h.1 in (i.0 + j.0, omega (arith, i.1, j.1))
image_even v z (membrane P) h = image_even v z P h
image_even v z (rule r) h = (0, refl)

two_if : ℕ → ℕ
two_if n = cond (eqb n 2) 1 0

split_count : (n : ℕ) → n ≤ 2 → n ≡ one_if_once n + (two_if n + two_if n)
unfolding two_if
split_count n b = grind arith

odd_one : (a f t k : ℕ) → f + (t + t) ≡ a + k * 2 → one_if_once a ≤ f
odd_one a f t k e = go (same_or_not a 1)
  where
    go : (a ≡ 1) ⊎ (a ≢ 1) → one_if_once a ≤ f
    go (inl p) = let q : f + (t + t) ≡ 1 + k * 2 = e ∙ ap (λ n. n + k * 2) p in rw p (omega arith)
    go (inr p) = grind arith

-- an image that is free in the fused process has a free link
pub free_image : (v : ℕ → ℕ) (z : ℕ) (P : Process) → Joins v P → Linked P → one_if_once (occurrences z (fused v P)) ≤ sum_below (link_bound P) (with_image v z (one_if_free P))
free_image v z P h l =
    let n = link_bound P in
    let twos : ℕ → ℕ = λ y. two_if (occurrences y P) in
    let split : sum_below n (with_image v z (λ y. occurrences y P)) ≡ sum_below n (with_image v z (λ y. one_if_free P y + (twos y + twos y))) = total_same n _ _ (λ y b. ap (λ k. cond (eqb (v y) z) k 0) (split_count (occurrences y P) (l.at_most_twice y))) in
    let even = image_even v z P h in
    odd_one (occurrences z (fused v P)) (sum_below n (with_image v z (one_if_free P))) (sum_below n (with_image v z twos)) even.0
    (sym (total_image_sum n v z (one_if_free P) (λ y. twos y + twos y) ∙ ap (λ k. sum_below n (with_image v z (one_if_free P)) + k) (total_image_sum n v z twos twos)) ∙ sym split ∙ image_count n v z P (omega arith) ∙ even.1)

-- the sum over all images is the whole sum
pub image_pick : (n x k : ℕ) → x < n → sum_below n (λ z. cond (eqb x z) k 0) ≡ k
image_pick n x k b = total_single n x (λ z. cond (eqb x z) k 0) b (λ z d. elsewhere z d) ∙ there
  where
    elsewhere : (z : ℕ) → z ≢ x → cond (eqb x z) k 0 ≡ 0
    elsewhere z d = grind arith

    there : cond (eqb x x) k 0 ≡ k
    there = grind arith

-- the sum over all images is the sum over all links
pub all_images : (N n : ℕ) (v f : ℕ → ℕ) → ((y : ℕ) → y < n → v y < N) → sum_below N (λ z. sum_below n (with_image v z f)) ≡ sum_below n f
all_images N zero v f h = total_zero N _ (λ z. refl)
all_images N (suc n) v f h = omega (arith, total_sum N (λ z. with_image v z f n) (λ z. sum_below n (with_image v z f)), image_pick N (v n) (f n) (h n (omega arith)), all_images N n v f (λ y b. h y (omega arith)))

-- a map that joins connectors makes no more free links
pub free_number_fused : (v : ℕ → ℕ) (P : Process) → Joins v P → Linked P → free_number (fused v P) ≤ free_number P
free_number_fused v P h l =
    let n = link_bound P in
    let N = link_bound (fused v P) + sum_below n (λ y. suc (v y)) in
    let a = total_at_most N (one_if_free (fused v P)) (λ z. sum_below n (with_image v z (one_if_free P))) (λ z. free_image v z P h l) in
    let b = all_images N n v (one_if_free P) (λ y q. at y q) in
    omega (arith, a, b, free_number_below N (fused v P) (omega arith), free_total P)
  where
    at : (y : ℕ) → y < link_bound P → v y < link_bound (fused v P) + sum_below (link_bound P) (λ y. suc (v y))
    at y q = omega (arith, highest (link_bound P) v y q)

-- No process has fewer crossings than it has when its connectors are fused.
pub crossings_fused : (v : ℕ → ℕ) (P : Process) → Joins v P → Linked P → crossings (fused v P) ≤ crossings P
crossings_fused v nothing h l = omega arith
crossings_fused v (connector x y) h l = omega arith
crossings_fused v (atom a xs) h l = omega arith
crossings_fused v (pair P Q) h l = omega (arith, crossings_fused v P h.0 (linked_left l), crossings_fused v Q h.1 (linked_right l))
crossings_fused v (membrane P) h l = omega (arith, crossings_fused v P h (linked_inside l), (free_number_fused v P h (linked_inside l)))
crossings_fused v (rule r) h l = omega arith

-- the same number over all membranes is the same number at each
pub same_crossings_each : (v : ℕ → ℕ) (P : Process) → Joins v P → Linked P → crossings (fused v P) ≡ crossings P → SameCrossings v P
same_crossings_each v nothing h l e = tt
same_crossings_each v (connector x y) h l e = tt
same_crossings_each v (atom a xs) h l e = tt
same_crossings_each v (pair P Q) h l e =
    let p = crossings_fused v P h.0 (linked_left l) in
    let q = crossings_fused v Q h.1 (linked_right l) in
    (same_crossings_each v P h.0 (linked_left l) (omega arith), same_crossings_each v Q h.1 (linked_right l) (omega arith))
same_crossings_each v (membrane P) h l e =
    let p = crossings_fused v P h (linked_inside l) in
    let q = free_number_fused v P h (linked_inside l) in
    (omega arith, same_crossings_each v P h (linked_inside l) (omega arith))
same_crossings_each v (rule r) h l e = tt

-- where each membrane keeps its crossings they are as many in all
pub same_crossings_all : (v : ℕ → ℕ) (P : Process) → SameCrossings v P → crossings (fused v P) ≡ crossings P
same_crossings_all v nothing e = refl
same_crossings_all v (connector x y) e = refl
same_crossings_all v (atom a xs) e = refl
same_crossings_all v (pair P Q) e = omega (arith, same_crossings_all v P e.0, same_crossings_all v Q e.1)
same_crossings_all v (membrane P) e = omega (arith, same_crossings_all v P e.1, e.0)
same_crossings_all v (rule r) e = refl
