-- The connectors from a head's links to the links of the region, and how often a link stands at them.
use Rattle.std.proofs.Common.{ℕ, zero, suc, cond, eqb, ltb, Bool, true, false, refl, sym, ap, subst, inl, inr, arith, ◌≡◌, ◌≢◌, ◌+◌, ◌≤◌, ◌<◌, ◌⊎◌, ◌∙◌, ◌-◌}
use Rattle.lmn_congruence.specs.FreeLinks.{link_bound, one_if_once, sum_below}
use Rattle.lmn_congruence.specs.Fused.{Joins, fused}
use Rattle.lmn_congruence.specs.LinkedRules.{level_occurrences}
use Rattle.lmn_congruence.specs.Links.{one_if_same}
use Rattle.lmn_congruence.specs.Process.{Process, connector, nothing, occurrences, pair, renamed, Linked}
use Rattle.lmn_congruence.specs.Rules.{Level}
use Rattle.lmn_congruence.specs.UpToOrder.{Reordered, r_chain, r_same, r_unit}
use Rattle.lmn_reduction.specs.Assignments.{Assignment}
use Rattle.lmn_congruence.proofs.Counts.{none_if_apart, one_bound, one_if_equal}
use Rattle.lmn_congruence.proofs.Crossings.{occurrences_above}
use Rattle.lmn_congruence.proofs.FewestCrossings.{image_count, with_image}
use Rattle.lmn_congruence.proofs.Totals.{total_one, total_same, total_single, total_zero}
use Rattle.lmn_adequacy.proofs.RawProcesses.{head_wires}
use Rattle.lmn_adequacy.proofs.Skeleton.{Parity, even, odd, parity, place, place_rule, place_solid}
use Rattle.lmn_congruence_splice.specs.Splice.{of_rule, of_solid}
use Rattle.lmn_base.proofs.Numbers.{same_or_not, below_or_from}
use Rattle.lmn_congruence_splice.proofs.Fusions.{apart_rule as even_not_odd, rule_once as even_differs, solid_once as odd_differs}
use Rattle.lmn_adequacy.specs.Loose.{Plain}

-- the number is twice some number
abbrev pub IsEven : ℕ → Type 0
IsEven n = (k : ℕ) × (n ≡ k + k)

-- zero and two are even
pub zero_or_two_even : (n : ℕ) → (n ≡ 0) ⊎ (n ≡ 2) → IsEven n
zero_or_two_even n (inl e) = (0, e)
zero_or_two_even n (inr e) = (1, e)

-- none or two are at most two
pub at_most_two : (n : ℕ) → (n ≡ 0) ⊎ (n ≡ 2) → n ≤ 2
at_most_two n (inl e) = omega (arith, e)
at_most_two n (inr e) = omega (arith, e)

-- an even number up to two is zero or two
pub even_zero_or_two : (n k : ℕ) → n ≤ 2 → n ≡ k + k → (n ≡ 0) ⊎ (n ≡ 2)
even_zero_or_two n k b e = grind arith

-- what an even number has more than another even one is even
pub even_less : (n a b : ℕ) → n + (a + a) ≡ b + b → IsEven n
even_less n a b e = (b - a, half n a b e)
  where
    half : (n a b : ℕ) → n + (a + a) ≡ b + b → n ≡ (b - a) + (b - a)
    half n a b e = grind arith

-- a sum whose terms but one are even
total_even_but : (n : ℕ) (g : ℕ → ℕ) (z₀ : ℕ) → ((z : ℕ) → z ≢ z₀ → IsEven (g z)) → (k : ℕ) × (sum_below n g ≡ cond (ltb z₀ n) (g z₀) 0 + (k + k))
total_even_but zero g z₀ h = (0, zero_case (g z₀))
  where
    zero_case : (m : ℕ) → ◌≡◌ {A = ℕ} 0 (cond (ltb z₀ 0) m 0 + (0 + 0))
    zero_case m = grind arith
total_even_but (suc n) g z₀ h = go (same_or_not n z₀) (total_even_but n g z₀ h)
  where
    at_it : (n z m k t a : ℕ) → n ≡ z → t ≡ cond (ltb z n) m 0 + (k + k) → a ≡ m → a + t ≡ cond (ltb z (suc n)) m 0 + (k + k)
    at_it n z m k t a e f g = grind arith

    past_it : (n z m k t a j : ℕ) → n ≢ z → t ≡ cond (ltb z n) m 0 + (k + k) → a ≡ j + j → a + t ≡ cond (ltb z (suc n)) m 0 + ((k + j) + (k + j))
    past_it n z m k t a j e f g = grind arith

    go : (n ≡ z₀) ⊎ (n ≢ z₀) → (k : ℕ) × (sum_below n g ≡ cond (ltb z₀ n) (g z₀) 0 + (k + k)) → (k : ℕ) × (g n + sum_below n g ≡ cond (ltb z₀ (suc n)) (g z₀) 0 + (k + k))
    go (inl e) i = (i.0, at_it n z₀ (g z₀) i.0 (sum_below n g) (g n) e i.1 (ap g e))
    go (inr d) i = let j = h n d in (i.0 + j.0, past_it n z₀ (g z₀) i.0 (sum_below n g) (g n) j.0 d i.1 j.1)

total_more : (n m : ℕ) (f : ℕ → ℕ) → n ≤ m → sum_below n f ≤ sum_below m f
total_more n zero f b = let e : n ≡ 0 = omega arith in rw e (omega arith)
total_more n (suc m) f b = go (same_or_not n (suc m)) (λ c. total_more n m f c)
  where
    go : (n ≡ suc m) ⊎ (n ≢ suc m) → (n ≤ m → sum_below n f ≤ sum_below m f) → sum_below n f ≤ f m + sum_below m f
    go (inl e) i = rw e (omega arith)
    go (inr d) i = let c : n ≤ m = omega arith in omega (arith, i c)

abbrev double : ℕ → ℕ
double zero = zero
double (suc n) = suc (suc (double n))

double_is : (n : ℕ) → double n ≡ of_rule n
double_is zero = refl
double_is (suc n) = omega (arith, double_is n)

module _ (t : Assignment) (l : Level) where
  abbrev wire_terms : ℕ → ℕ → ℕ
  wire_terms z x = cond (eqb (level_occurrences x l) 1) (one_if_same z (of_rule x) + one_if_same z (of_solid (t.link_of x))) 0

  wires_count : (z n : ℕ) → occurrences z (head_wires t l n) ≡ sum_below n (wire_terms z)
  wires_count z zero = refl
  wires_count z (suc n) = go (eqb (level_occurrences n l) 1) (wires_count z n)
    where
      go : (b : Bool) → occurrences z (head_wires t l n) ≡ sum_below n (wire_terms z)
          → occurrences z (cond b (pair (connector (of_rule n) (of_solid (t.link_of n))) (head_wires t l n)) (head_wires t l n)) ≡ cond b (one_if_same z (of_rule n) + one_if_same z (of_solid (t.link_of n))) 0 + sum_below n (wire_terms z)
      go true i = omega (arith, i)
      go false i = omega (arith, i)

  pub wires_vanish : (v : ℕ → ℕ) (n : ℕ) → Reordered (fused v (head_wires t l n)) nothing
  wires_vanish v zero = r_same refl
  wires_vanish v (suc n) = go (eqb (level_occurrences n l) 1) (wires_vanish v n)
    where
      go : (b : Bool) → Reordered (fused v (head_wires t l n)) nothing → Reordered (fused v (cond b (pair (connector (of_rule n) (of_solid (t.link_of n))) (head_wires t l n)) (head_wires t l n))) nothing
      go true d = r_chain r_unit d
      go false d = d

  pub wires_join : (v : ℕ → ℕ) (n x : ℕ) → Joins v (head_wires t l n) → x < n → level_occurrences x l ≡ 1 → v (of_rule x) ≡ v (of_solid (t.link_of x))
  wires_join v zero x j b e = absurd (go b)
    where
      go : ¬ (x < 0)
      go = omega arith
  wires_join v (suc n) x j b e = go (same_or_not x n) (λ k c. wires_join v n x k c e)
    where
      first : (k : ℕ) → k ≡ 1 → (Q : Process) (c d : ℕ) → Joins v (cond (eqb k 1) (pair (connector c d) Q) Q) → v c ≡ v d
      first k f Q c d = rw f (λ i. i.0)

      others : (b : Bool) (Q : Process) (c d : ℕ) → Joins v (cond b (pair (connector c d) Q) Q) → Joins v Q
      others true Q c d i = i.1
      others false Q c d i = i

      below : (x n : ℕ) → x < suc n → x ≢ n → x < n
      below x n b d = grind arith

      go : (x ≡ n) ⊎ (x ≢ n) → (Joins v (head_wires t l n) → x < n → v (of_rule x) ≡ v (of_solid (t.link_of x))) → v (of_rule x) ≡ v (of_solid (t.link_of x))
      go (inl q) h = subst (λ k. v (of_rule k) ≡ v (of_solid (t.link_of k))) (sym q) (first (level_occurrences n l) (subst (λ k. level_occurrences k l ≡ 1) q e) (head_wires t l n) (of_rule n) (of_solid (t.link_of n)) j)
      go (inr d) h = h (others (eqb (level_occurrences n l) 1) (head_wires t l n) (of_rule n) (of_solid (t.link_of n)) j) (below x n b d)

  module _ (bound : ℕ) (bounded : (x : ℕ) → bound ≤ x → level_occurrences x l ≡ 0) where
    pub once_below : (x : ℕ) → level_occurrences x l ≡ 1 → x < bound
    once_below x e = go (below_or_from x bound)
      where
        no : (n : ℕ) → n ≡ 1 → n ≢ 0
        no n e = grind arith

        go : (x < bound) ⊎ (bound ≤ x) → x < bound
        go (inl b) = b
        go (inr b) = absurd (no (level_occurrences x l) e (bounded x b))

    -- a link of the rule stands at one connector, or at none
    pub wires_exact : (x : ℕ) → occurrences (of_rule x) (head_wires t l bound) ≡ one_if_once (level_occurrences x l)
    wires_exact x = wires_count (of_rule x) bound ∙ go (below_or_from x bound)
      where
        other_term : (n a b : ℕ) → a ≡ 0 → b ≡ 0 → cond (eqb n 1) (a + b) 0 ≡ 0
        other_term n a b e f = grind arith

        other : (z : ℕ) → z ≢ x → wire_terms (of_rule x) z ≡ 0
        other z d = other_term (level_occurrences z l) (one_if_same (of_rule x) (of_rule z)) (one_if_same (of_rule x) (of_solid (t.link_of z))) (none_if_apart (of_rule x) (of_rule z) (λ e. d (sym (even_differs x z e)))) (none_if_apart (of_rule x) (of_solid (t.link_of z)) (even_not_odd x (t.link_of z)))

        own_term : (n a b : ℕ) → a ≡ 1 → b ≡ 0 → cond (eqb n 1) (a + b) 0 ≡ one_if_once n
        own_term n a b e f = grind arith

        own : wire_terms (of_rule x) x ≡ one_if_once (level_occurrences x l)
        own = own_term (level_occurrences x l) (one_if_same (of_rule x) (of_rule x)) (one_if_same (of_rule x) (of_solid (t.link_of x))) (one_if_equal (of_rule x) (of_rule x) refl) (none_if_apart (of_rule x) (of_solid (t.link_of x)) (even_not_odd x (t.link_of x)))

        not_once : (n : ℕ) → n ≡ 0 → ◌≡◌ {A = ℕ} 0 (one_if_once n)
        not_once n e = grind arith

        go : (x < bound) ⊎ (bound ≤ x) → sum_below bound (wire_terms (of_rule x)) ≡ one_if_once (level_occurrences x l)
        go (inl b) = total_single bound x (wire_terms (of_rule x)) b other ∙ own
        go (inr b) = total_same bound (wire_terms (of_rule x)) (λ z. 0) (λ z c. other z (below_not z x bound c b)) ∙ total_zero bound (λ z. 0) (λ z. refl) ∙ not_once (level_occurrences x l) (bounded x b)
          where
            below_not : (z x n : ℕ) → z < n → n ≤ x → z ≢ x
            below_not z x n c b = grind arith

    -- ---- links of the region

    module _ (p : Plain t) (head : Process) (count : (x : ℕ) → occurrences (of_rule x) head ≡ level_occurrences x l) (linked : Linked head) where
      abbrev at : ℕ → ℕ
      at = place t p

      abbrev H⁺ : Process
      H⁺ = head_wires t l bound

      wires_even : (y n : ℕ) → IsEven (occurrences y (renamed at (head_wires t l n)))
      wires_even y zero = (0, refl)
      wires_even y (suc n) = go (eqb (level_occurrences n l) 1) (wires_even y n)
        where
          go : (b : Bool) → IsEven (occurrences y (renamed at (head_wires t l n))) → IsEven (occurrences y (renamed at (cond b (pair (connector (of_rule n) (of_solid (t.link_of n))) (head_wires t l n)) (head_wires t l n))))
          go true i =
              let e : one_if_same y (at (of_rule n)) ≡ one_if_same y (at (of_solid (t.link_of n))) = ap (one_if_same y) (place_rule t p n ∙ sym (place_solid t p (t.link_of n))) in
              (one_if_same y (at (of_rule n)) + i.0, omega (arith, e, i.1))
          go false i = i

      -- the odd link of y in the head and at its connectors, and the places of y
      pub same_parity : (y : ℕ) → (j : ℕ) × (k : ℕ) × (occurrences y (renamed at head) + (j + j) ≡ (occurrences (of_solid y) head + occurrences (of_solid y) H⁺) + (k + k))
      same_parity y =
          let D : Process = pair head H⁺ in
          let g : ℕ → ℕ = with_image at y (λ z. occurrences z D) in
          let s = total_even_but (link_bound D) g (of_solid y) (λ z d. term z d (parity z)) in
          let w = wires_even y bound in
          (w.0, s.0, omega (arith, image_count (link_bound D) at y D (omega arith), s.1, w.1, whole (below_or_from (of_solid y) (link_bound D))))
        where
          within : (z n a m : ℕ) → z < n → a ≡ y → cond (ltb z n) (cond (eqb a y) m 0) 0 ≡ m
          within z n a m b e = grind arith

          beyond : (z n m k : ℕ) → n ≤ z → k ≡ 0 → cond (ltb z n) m 0 ≡ k
          beyond z n m k b e = grind arith

          whole : (of_solid y < link_bound (pair head H⁺)) ⊎ (link_bound (pair head H⁺) ≤ of_solid y) → cond (ltb (of_solid y) (link_bound (pair head H⁺))) (with_image at y (λ z. occurrences z (pair head H⁺)) (of_solid y)) 0 ≡ occurrences (of_solid y) (pair head H⁺)
          whole (inl b) = within (of_solid y) (link_bound (pair head H⁺)) (at (of_solid y)) (occurrences (of_solid y) (pair head H⁺)) b (place_solid t p y)
          whole (inr b) = beyond (of_solid y) (link_bound (pair head H⁺)) (with_image at y (λ z. occurrences z (pair head H⁺)) (of_solid y)) (occurrences (of_solid y) (pair head H⁺)) b (occurrences_above (of_solid y) (pair head H⁺) b)

          completed : (n : ℕ) → n ≤ 2 → IsEven (n + one_if_once n)
          completed zero b = (0, refl)
          completed (suc zero) b = (1, refl)
          completed (suc (suc n)) b = (1, past n (omega (arith, b)))
            where
              past : (n : ℕ) → n ≡ 0 → suc (suc n) + cond (eqb (suc (suc n)) 1) 1 0 ≡ 1 + 1
              past n e = grind arith

          chosen : (b : Bool) (m : ℕ) → IsEven m → IsEven (cond b m 0)
          chosen true m i = i
          chosen false m i = (0, refl)

          not_chosen : (a m : ℕ) → a ≢ y → cond (eqb a y) m 0 ≡ 0 + 0
          not_chosen a m d = grind arith

          even_term : (x z : ℕ) → z ≡ of_rule x → IsEven (occurrences z head + occurrences z H⁺)
          even_term x z e =
              let k = completed (occurrences (of_rule x) head) (linked.at_most_twice (of_rule x)) in
              subst (λ i. IsEven (occurrences i head + occurrences i H⁺)) (sym e) (k.0, ap (λ i. occurrences (of_rule x) head + i) (wires_exact x ∙ ap one_if_once (sym (count x))) ∙ k.1)

          term : (z : ℕ) → z ≢ of_solid y → Parity z → IsEven (with_image at y (λ z. occurrences z (pair head H⁺)) z)
          term z d (even x e) = chosen (eqb (at z) y) (occurrences z (pair head H⁺)) (even_term x z e)
          term z d (odd x e) = (0, not_chosen (at z) (occurrences z (pair head H⁺)) (λ q. d (e ∙ ap of_solid (sym (place_solid t p x) ∙ ap at (sym e) ∙ q))))

      -- y has at least as many places as its odd link in the head and at its connectors
      pub places_enough : (y : ℕ) → occurrences (of_solid y) head + occurrences (of_solid y) H⁺ ≤ occurrences y (renamed at head)
      places_enough y =
          let s = of_solid y in
          let f : ℕ → ℕ = with_image at y (λ z. occurrences z head) in
          let g : ℕ → ℕ = λ z. cond (eqb z s) 0 (f z) in
          let M = (link_bound head + suc s) + double bound in
          let one : sum_below M f + g s ≡ sum_below M g + f s = total_one M s f g (omega arith) (λ z b d. not_there z s (f z) d) in
          omega (arith, image_count M at y head (omega arith), one, at_it s (f s), here, total_more (double bound) M g (omega arith), wires_below bound, wires_count s bound)
        where
          not_there : (z s m : ℕ) → z ≢ s → m ≡ cond (eqb z s) 0 m
          not_there z s m d = grind arith

          at_it : (s m : ℕ) → cond (eqb s s) 0 m ≡ 0
          at_it s m = grind arith

          own : (a m : ℕ) → a ≡ y → cond (eqb a y) m 0 ≡ m
          own a m e = grind arith

          here : with_image at y (λ z. occurrences z head) (of_solid y) ≡ occurrences (of_solid y) head
          here = own (at (of_solid y)) (occurrences (of_solid y) head) (place_solid t p y)

          term : (s z k m n c d : ℕ) → z ≢ s → n ≡ m → c ≡ 0 → d ≤ one_if_same y k → cond (eqb m 1) (c + d) 0 ≤ cond (eqb z s) 0 (cond (eqb k y) n 0)
          term s z k m n c d q e f g = grind arith

          one_odd : (k : ℕ) → one_if_same (of_solid y) (of_solid k) ≤ one_if_same y k
          one_odd k = odd_case (same_or_not y k)
            where
              odd_case : (y ≡ k) ⊎ (y ≢ k) → one_if_same (of_solid y) (of_solid k) ≤ one_if_same y k
              odd_case (inl e) = omega (arith, one_bound (of_solid y) (of_solid k), one_if_equal y k e)
              odd_case (inr d) = omega (arith, none_if_apart (of_solid y) (of_solid k) (λ e. d (odd_differs y k e)))

          even_term : (n : ℕ) → wire_terms (of_solid y) n ≤ cond (eqb (of_rule n) (of_solid y)) 0 (with_image at y (λ z. occurrences z head) (of_rule n))
          even_term n =
              term (of_solid y) (of_rule n) (at (of_rule n)) (level_occurrences n l) (occurrences (of_rule n) head) (one_if_same (of_solid y) (of_rule n)) (one_if_same (of_solid y) (of_solid (t.link_of n)))
              (even_not_odd n y) (count n) (none_if_apart (of_solid y) (of_rule n) (λ e. even_not_odd n y (sym e))) (subst (λ k. one_if_same (of_solid y) (of_solid (t.link_of n)) ≤ one_if_same y k) (sym (place_rule t p n)) (one_odd (t.link_of n)))

          wires_below : (n : ℕ) → sum_below n (wire_terms (of_solid y)) ≤ sum_below (double n) (λ z. cond (eqb z (of_solid y)) 0 (with_image at y (λ z. occurrences z head) z))
          wires_below zero = omega arith
          wires_below (suc n) =
              let h : wire_terms (of_solid y) n ≤ cond (eqb (double n) (of_solid y)) 0 (with_image at y (λ z. occurrences z head) (double n)) = subst (λ k. wire_terms (of_solid y) n ≤ cond (eqb k (of_solid y)) 0 (with_image at y (λ z. occurrences z head) k)) (sym (double_is n)) (even_term n) in
              omega (arith, h, wires_below n)
