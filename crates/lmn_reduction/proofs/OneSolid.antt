-- Two solids of one plain differ by a renaming of links alone.
use Rattle.std.proofs.Common.{ℕ, zero, suc, ◌≡◌, ◌≢◌, ◌+◌, ◌*◌, ◌≤◌, ◌<◌, ◌⊎◌, cond, eqb, List, [], ◌∷◌, map, refl, sym, ◌∙◌, ap, subst, inl, inr, arith}
use Rattle.std.proofs.lemmas.List.{map-id}
use Rattle.lmn_congruence.specs.Links.{one_if_same, places}
use Rattle.lmn_congruence.specs.Process.{Process, nothing, connector, atom, pair, membrane, rule, occurrences, Linked, Closed, renamed, together}
use Rattle.lmn_congruence.specs.Rules.{Rule, Leaf, atom_leaf, connector_leaf, typed_leaf, Level, level, Levels, no_level, level_and, rules_list}
use Rattle.lmn_congruence.specs.Fused.{Joins, fused}
use Rattle.lmn_congruence.specs.FreeLinks.{sum_below, link_bound}
use Rattle.lmn_congruence.specs.Regions.{SolidAtom, Region, region, Regions, no_region, region_and, region_process, atom_process, regions_processes}
use Rattle.lmn_congruence.specs.Same.{renamed_atom, renamed_region, renamed_regions}
use Rattle.lmn_congruence.specs.Plains.{leaf_process, level_process, levels_processes, fused_leaves, fused_level, fused_levels}
use Rattle.lmn_reduction.specs.Laws.{SolidIsOne}
use Rattle.lmn_congruence.proofs.Counts.{one_if_equal, none_if_apart, one_least, map_after}
use Rattle.lmn_congruence.proofs.Totals.{total_same}
use Rattle.lmn_congruence.proofs.Crossings.{occurs_below}
use Rattle.lmn_congruence.proofs.RenamedRegions.{region_renamed}
use Rattle.lmn_congruence.proofs.Reordered.{reordered_count}
use Rattle.lmn_congruence.proofs.LinkMaps.{closed_leaves, closed_linked, one_to_one}
use Rattle.lmn_congruence.proofs.FewestCrossings.{with_image, total_image_sum, image_count, image_even}
use Rattle.lmn_reduction.proofs.Plains.{level_reordered}
use Rattle.lmn_base.proofs.Numbers.{triangle, triangle_less, same_or_not, left_not_zero, right_not_zero, three_ways}

-- ---- two numbers in one

abbrev both : ℕ → ℕ → ℕ
both m n = triangle (m + n) + n

sums_agree : (m n k l : ℕ) → both m n ≡ both k l → (m + n < k + l) ⊎ ((m + n ≡ k + l) ⊎ (k + l < m + n)) → m + n ≡ k + l
sums_agree m n k l e (inl c) = let t = triangle_less (m + n) (k + l) c in absurd (omega arith)
sums_agree m n k l e (inr (inl c)) = c
sums_agree m n k l e (inr (inr c)) = let t = triangle_less (k + l) (m + n) c in absurd (omega arith)

-- two pairs with one number are one pair
both_agree : (m n k l : ℕ) → both m n ≡ both k l → (m ≡ k) × (n ≡ l)
both_agree m n k l e =
    let s = sums_agree m n k l e (three_ways (m + n) (k + l)) in
    let t : triangle (m + n) ≡ triangle (k + l) = ap triangle s in
    let f : n ≡ l = omega arith in
    (omega arith, f)

-- ---- how often the image of a link occurs at atoms

-- how often a link occurs at the atoms of a process
abbrev at_atoms : ℕ → Process → ℕ
at_atoms x P = occurrences x (fused (λ y. y) P)

places_kept : (w : ℕ → ℕ) (x : ℕ) (ys : List ℕ) → places x (map (λ y. y) ys) ≤ places (w x) (map w ys)
places_kept w x [] = omega arith
places_kept w x (y ∷ ys) = omega (arith, one_least w x y, places_kept w x ys)

image_kept : (w : ℕ → ℕ) (x : ℕ) (P : Process) → at_atoms x P ≤ occurrences (w x) (fused w P)
image_kept w x nothing = omega arith
image_kept w x (connector y z) = omega arith
image_kept w x (atom a ys) = places_kept w x ys
image_kept w x (pair P Q) = omega (arith, image_kept w x P, image_kept w x Q)
image_kept w x (membrane P) = image_kept w x P
image_kept w x (rule r) = omega arith

-- a map that tells apart all that v tells apart
abbrev Finer : (ℕ → ℕ) → (ℕ → ℕ) → Type 0
Finer w v = (x y : ℕ) → w x ≡ w y → v x ≡ v y

module _ (w v : ℕ → ℕ) (finer : Finer w v) (x y : ℕ) (d : w x ≢ w y) (e : v x ≡ v y) where
  one_of_two : (z : ℕ) → one_if_same (w x) (w z) + one_if_same (w y) (w z) ≤ one_if_same (v x) (v z)
  one_of_two z = go (same_or_not (w x) (w z)) (same_or_not (w y) (w z))
    where
      go : (w x ≡ w z) ⊎ (w x ≢ w z) → (w y ≡ w z) ⊎ (w y ≢ w z) → one_if_same (w x) (w z) + one_if_same (w y) (w z) ≤ one_if_same (v x) (v z)
      go (inl p) (inl q) = absurd (d (p ∙ sym q))
      go (inl p) (inr q) = omega (arith, one_if_equal (w x) (w z) p, none_if_apart (w y) (w z) q, one_if_equal (v x) (v z) (finer x z p))
      go (inr p) (inl q) = omega (arith, none_if_apart (w x) (w z) p, one_if_equal (w y) (w z) q, one_if_equal (v x) (v z) (e ∙ finer y z q))
      go (inr p) (inr q) = omega (arith, none_if_apart (w x) (w z) p, none_if_apart (w y) (w z) q)

  two_in_links : (zs : List ℕ) → places (w x) (map w zs) + places (w y) (map w zs) ≤ places (v x) (map v zs)
  two_in_links [] = omega arith
  two_in_links (z ∷ zs) = omega (arith, one_of_two z, two_in_links zs)

  two_images : (P : Process) → occurrences (w x) (fused w P) + occurrences (w y) (fused w P) ≤ occurrences (v x) (fused v P)
  two_images nothing = omega arith
  two_images (connector z z') = omega arith
  two_images (atom a zs) = two_in_links zs
  two_images (pair P Q) = omega (arith, two_images P, two_images Q)
  two_images (membrane P) = two_images P
  two_images (rule r) = omega arith

-- ---- an image in a closed process stands in an even number of places

half : (n : ℕ) → (n ≡ 0) ⊎ (n ≡ 2) → n ≡ cond (eqb n 2) 1 0 + cond (eqb n 2) 1 0
half n c = grind arith

two_or_more : (a k t : ℕ) → a + k * 2 ≡ t + t → a ≢ 0 → 2 ≤ a
two_or_more a k t e n = omega arith

twice_or_more : (w : ℕ → ℕ) (z : ℕ) (P : Process) → Joins w P → Closed P → occurrences z (fused w P) ≢ 0 → 2 ≤ occurrences z (fused w P)
twice_or_more w z P j c o =
    let n = link_bound P in
    let h : ℕ → ℕ = λ y. cond (eqb (occurrences y P) 2) 1 0 in
    let split = total_same n (with_image w z (λ y. occurrences y P)) (with_image w z (λ y. h y + h y)) (λ y b. ap (λ k. cond (eqb (w y) z) k 0) (half (occurrences y P) (c y))) in
    let even = image_even w z P j in
    two_or_more (occurrences z (fused w P)) even.0 (sum_below n (with_image w z h)) (sym even.1 ∙ sym (image_count n w z P (omega arith)) ∙ split ∙ total_image_sum n w z h h) o

-- ---- links at atoms that one map joins are joined by the other one

too_many : (a b k : ℕ) → 2 ≤ a → 2 ≤ b → a + b ≤ k → k ≤ 2 → ⊥
too_many a b k p q r s = omega arith

module _ (v v' : ℕ → ℕ) where
  joins_both : (P : Process) → Joins v P → Joins v' P → Joins (λ x. both (v x) (v' x)) P
  joins_both nothing j j' = tt
  joins_both (connector x y) j j' = rw (j, j') refl
  joins_both (atom a xs) j j' = tt
  joins_both (pair P Q) j j' = (joins_both P j.0 j'.0, joins_both Q j.1 j'.1)
  joins_both (membrane P) j j' = joins_both P j j'
  joins_both (rule r) j j' = tt

module _ (P : Process) (c : Closed P) (v v' : ℕ → ℕ) (j : Joins v P) (j' : Joins v' P) (l : (z : ℕ) → occurrences z (fused v P) ≤ 2) where
  abbrev w : ℕ → ℕ
  w x = both (v x) (v' x)

  joined : (x y : ℕ) → at_atoms x P ≢ 0 → at_atoms y P ≢ 0 → v x ≡ v y → v' x ≡ v' y
  joined x y o o' e = go (same_or_not (w x) (w y))
    where
      occurs : (x : ℕ) → at_atoms x P ≢ 0 → occurrences (w x) (fused w P) ≢ 0
      occurs x o = λ q. o (omega (arith, image_kept w x P, q))

      go : (w x ≡ w y) ⊎ (w x ≢ w y) → v' x ≡ v' y
      go (inl q) = (both_agree (v x) (v' x) (v y) (v' y) q).1
      go (inr d) =
          let k = twice_or_more w (w x) P (joins_both v v' P j j') c (occurs x o) in
          let k' = twice_or_more w (w y) P (joins_both v v' P j j') c (occurs y o') in
          absurd (too_many (occurrences (w x) (fused w P)) (occurrences (w y) (fused w P)) (occurrences (v x) (fused v P)) k k' (two_images w v (λ x y q. (both_agree (v x) (v' x) (v y) (v' y) q).0) x y d e P) (l (v x)))

-- ---- the renaming

taken_first : (a m n : ℕ) → a ≡ 0 → cond (eqb a 0) m n ≡ m
taken_first a m n p = grind arith

taken_second : (a m n y z : ℕ) → a ≢ 0 → y ≡ z → cond (eqb a 0) m (cond (eqb y z) n m) ≡ n
taken_second a m n y z p q = grind arith

taken_third : (a m n y z : ℕ) → a ≢ 0 → y ≢ z → cond (eqb a 0) m (cond (eqb y z) n m) ≡ m
taken_third a m n y z p q = grind arith

-- the image by v' of a link below n at an atom that v takes to z
abbrev carried_to : Process → (ℕ → ℕ) → (ℕ → ℕ) → ℕ → ℕ → ℕ
carried_to P v v' zero z = 0
carried_to P v v' (suc n) z = cond (eqb (at_atoms n P) 0) (carried_to P v v' n z) (cond (eqb (v n) z) (v' n) (carried_to P v v' n z))

module _ (P : Process) (v v' : ℕ → ℕ) (z k : ℕ) (h : (y : ℕ) → at_atoms y P ≢ 0 → v y ≡ z → v' y ≡ k) where
  carried : (n x : ℕ) → x < n → at_atoms x P ≢ 0 → v x ≡ z → carried_to P v v' n z ≡ k
  carried zero x l o e = absurd (not_below x l)
    where
      not_below : (x : ℕ) → ¬ (x < 0)
      not_below x = omega arith
  carried (suc n) x l o e =
      go (same_or_not (at_atoms n P) 0) (same_or_not (v n) z) (same_or_not x n) (λ d. carried n x (less x n l d) o e)
    where
      less : (x n : ℕ) → x < suc n → x ≢ n → x < n
      less x n l d = grind arith

      go : (at_atoms n P ≡ 0) ⊎ (at_atoms n P ≢ 0) → (v n ≡ z) ⊎ (v n ≢ z) → (x ≡ n) ⊎ (x ≢ n) → (x ≢ n → carried_to P v v' n z ≡ k) → carried_to P v v' (suc n) z ≡ k
      go (inl p) q (inl r) i = absurd (o (ap (λ y. at_atoms y P) r ∙ p))
      go (inl p) q (inr r) i = taken_first (at_atoms n P) (carried_to P v v' n z) (cond (eqb (v n) z) (v' n) (carried_to P v v' n z)) p ∙ i r
      go (inr p) (inl q) r i = taken_second (at_atoms n P) (carried_to P v v' n z) (v' n) (v n) z p q ∙ h n p q
      go (inr p) (inr q) (inl r) i = absurd (q (ap v (sym r) ∙ e))
      go (inr p) (inr q) (inr r) i = taken_third (at_atoms n P) (carried_to P v v' n z) (v' n) (v n) z p q ∙ i r

-- the lists of a level: two maps that a third one takes to each other at the atoms
module _ (f v v' : ℕ → ℕ) where
  abbrev Takes : Process → Type 0
  Takes P = (x : ℕ) → at_atoms x P ≢ 0 → f (v x) ≡ v' x

  links_taken : (xs : List ℕ) → ((x : ℕ) → places x (map (λ y. y) xs) ≢ 0 → f (v x) ≡ v' x) → map f (map v xs) ≡ map v' xs
  links_taken xs h = map_after f v v' xs (λ x o. h x (rw (map-id xs) o))

  leaves_taken : (ls : List Leaf) → Takes (together (map leaf_process ls)) → map (renamed_atom f) (fused_leaves v ls) ≡ fused_leaves v' ls
  leaves_taken [] h = refl
  leaves_taken (atom_leaf a xs ∷ ls) h =
      let rest = together (map leaf_process ls) in
      rw (links_taken xs (λ x o. h x (left_not_zero (places x (map (λ y. y) xs)) (at_atoms x rest) o)), leaves_taken ls (λ x o. h x (right_not_zero (places x (map (λ y. y) xs)) (at_atoms x rest) o))) refl
  leaves_taken (connector_leaf x y ∷ ls) h = leaves_taken ls (λ z o. h z (right_not_zero 0 (at_atoms z (together (map leaf_process ls))) o))
  leaves_taken (typed_leaf p x ∷ ls) h = leaves_taken ls (λ z o. h z (right_not_zero 0 (at_atoms z (together (map leaf_process ls))) o))

  mutual
    pub level_taken : (l : Level) → Takes (level_process l) → renamed_region f (fused_level v l) ≡ fused_level v' l
    level_taken (level leaves membranes contexts rule_contexts rules) h =
        let here = together (map leaf_process leaves) in
        let inside = together (levels_processes membranes) in
        let behind = together (map rule (rules_list rules)) in
        rw (
          leaves_taken leaves (λ x o. h x (left_not_zero (at_atoms x here) (at_atoms x inside + at_atoms x behind) o)),
          levels_taken membranes (λ x o. h x (right_not_zero (at_atoms x here) (at_atoms x inside + at_atoms x behind) (left_not_zero (at_atoms x inside) (at_atoms x behind) o))),
        ) refl

    levels_taken : (ls : Levels) → Takes (together (levels_processes ls)) → renamed_regions f (fused_levels v ls) ≡ fused_levels v' ls
    levels_taken no_level h = refl
    levels_taken (level_and l ls) h =
        let inside = level_process l in
        let rest = together (levels_processes ls) in
        rw (
          level_taken l (λ x o. h x (left_not_zero (at_atoms x inside) (at_atoms x rest) o)),
          levels_taken ls (λ x o. h x (right_not_zero (at_atoms x inside) (at_atoms x rest) o)),
        ) refl

-- a plain's top has one solid, up to the numbers of links
pub solid_is_one : SolidIsOne
solid_is_one top S S' s s' =
    let P = level_process top in
    let A = fused (λ y. y) P in
    let l : (z : ℕ) → occurrences z (fused s.to P) ≤ 2 = λ z. rw (reordered_count (level_reordered s.to top) z) (subst (λ R. occurrences z (region_process R) ≤ 2) s.is ((closed_linked {P = region_process S} s.closed).at_most_twice z)) in
    let f = carried_to P s.to s'.to (link_bound A) in
    let takes : Takes f s.to s'.to P = λ x o. carried P s.to s'.to (s.to x) (s'.to x) (λ y o' e. joined P s.closed_top s.to s'.to s.joins s'.joins l y x o' o e) (link_bound A) x (occurs_below A x o) o refl in
    let is : S' ≡ renamed_region f S = s'.is ∙ sym (level_taken f s.to s'.to top takes) ∙ ap (renamed_region f) (sym s.is) in
    let linked : Linked (renamed f (region_process S)) = subst (λ Q. Linked Q) (region_renamed f S) (subst (λ R. Linked (region_process R)) is (closed_linked s'.closed)) in
    record { to = f; one_to_one = one_to_one f (region_process S) (closed_leaves f (region_process S) s.closed) linked; is = is }
