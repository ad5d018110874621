-- A walk through what stands in a membrane, with copies beside it.
use Rattle.std.proofs.Common.{◌≡◌, ◌≢◌, ◌⊎◌, ℕ, ◌<◌, ◌-◌, ◌^◌, List, [], ◌∷◌, length, true, Option, Some, None, refl, sym, ap, subst, ◌∙◌, inl, inr, arith}
use Rattle.std.proofs.lemmas.Bool.{cases_eq}
use Rattle.lmn_store_heap.specs.Heap.{Heap, after, from, parent_of, mems_in}
use Rattle.lmn_store_heap.specs.Sound.{AtMost, Sound}
use Rattle.lmn_store_heap.proofs.Heights.{parent_place}
use Rattle.lmn_store_heap.proofs.ListLemmas.{in_right}
use Rattle.lmn_store_heap.proofs.Trees.{Left, tail_of}
use Rattle.lmn_base.specs.Lists.{In}
use Rattle.lmn_ground_parts.specs.Rests.{IsContent, keep}
use Rattle.lmn_ground.specs.Rests.{AreTwins}
use Rattle.lmn_ground.proofs.RestLaws.{bare_of, begins, climbs, enters, first_of_rest, found, found_top}
use Rattle.lmn_ground.proofs.DroppingLaws.{after_inner, after_top, all_once, behind_few, child_behind, child_in, found_is, less_behind, round_of}
use Rattle.lmn_store_heap.proofs.Common.{from_here}
use Rattle.lmn_ground_parts.proofs.Common.{keep_all}

-- a membrane has one content
pub content_one : (s : Heap) → Sound s → AtMost (2 ^ 48) s → (m : ℕ) (xs ms ys ns : List ℕ) → IsContent s m xs ms → IsContent s m ys ns → ms ≡ ns
content_one s sound few m xs ms ys ns r q = sym (found_is s sound m xs ms r few) ∙ found_is s sound m ys ns q few

-- one of these, told with the first apart
pub either_here : (m x : ℕ) (ms : List ℕ) → In x (m ∷ ms) → (x ≡ m) ⊎ In x ms
either_here m x ms (inl e) = inl (sym e)
either_here m x ms (inr i) = inr i

module _ (s : Heap) (sound : Sound s) (m : ℕ) (atoms ms : List ℕ) (r : IsContent s m atoms ms) where
  all_kept : (o : Option ℕ) (xs : List ℕ) → from o xs ≡ xs → from o (keep (λ _. true) xs) ≡ keep (λ _. true) xs
  all_kept o xs e = subst (λ zs. from o zs ≡ zs) (sym (keep_all xs)) e

  outer : (n : ℕ) → In n ms → from (Some n) (m ∷ ms) ≡ from (Some n) ms
  outer n i = ap (λ zs. n ∷ zs) (after_inner s sound m atoms ms r n i)

  -- the first membrane in one comes next
  pub steps_in : (at n : ℕ) → In at (m ∷ ms) → from (Some n) (mems_in s at) ≡ mems_in s at → from (Some n) (m ∷ ms) ≡ after at (m ∷ ms)
  steps_in at n i e = by (either_here m at ms i)
    where
      inside : In n ms
      inside = child_in s sound m atoms ms r at n (either_here m at ms i) (subst (In n) e (inl refl))

      by : (at ≡ m) ⊎ In at ms → from (Some n) (m ∷ ms) ≡ after at (m ∷ ms)
      by (inl q) =
          outer n inside ∙ first_of_rest s sound m (λ _. true) (λ _. true) atoms ms r (Some n) (all_kept (Some n) (mems_in s m) (subst (λ z. from (Some n) (mems_in s z) ≡ mems_in s z) q e))
          ∙ sym (ap (λ z. after z (m ∷ ms)) q ∙ after_top s sound m atoms ms r)
      by (inr j) = outer n inside ∙ enters s sound m (λ _. true) (λ _. true) atoms ms r at n j e ∙ sym (after_inner s sound m atoms ms r at j)

  -- All that is in `at` is done, and what is behind it is behind the start.
  abbrev pub Ahead : ℕ → ℕ → Type 0
  Ahead start at = ((at ≡ m) × (after start (m ∷ ms) ≡ [])) ⊎ (In start ms × In at ms × Left r.forest start at)

  -- nothing is in the start
  pub ahead_starts : (at : ℕ) → In at (m ∷ ms) → mems_in s at ≡ [] → Ahead at at
  ahead_starts at i e = by (either_here m at ms i)
    where
      by : (at ≡ m) ⊎ In at ms → Ahead at at
      by (inl q) =
          inl (
            q,
            ap (λ z. after z (m ∷ ms)) q ∙ after_top s sound m atoms ms r ∙ r.preorder
                ∙ bare_of s r.forest (keep (λ _. true) (mems_in s m)) r.forms (keep_all (mems_in s m) ∙ subst (λ z. mems_in s z ≡ []) q e),
          )
      by (inr j) = inr (j, j, begins s sound m (λ _. true) (λ _. true) atoms ms r at j e)

  -- the stand is the membrane itself or one in it
  pub ahead_in : (start at : ℕ) → Ahead start at → In at (m ∷ ms)
  ahead_in start at (inl q) = inl (sym q.0)
  ahead_in start at (inr q) = inr q.1

  -- at the membrane itself nothing is behind
  pub ahead_none : (start at : ℕ) → at ≡ m → Ahead start at → from None (m ∷ ms) ≡ after start (m ∷ ms)
  ahead_none start at e (inl q) = sym q.1
  ahead_none start at e (inr q) = absurd (r.outside (subst (λ z. In z ms) e q.1))

  -- the next one in the list comes next
  pub ahead_next : (start at p n : ℕ) → at ≢ m → parent_of s at ≡ Some p → from (Some n) (mems_in s p) ≡ after at (mems_in s p) → Ahead start at → from (Some n) (m ∷ ms) ≡ after start (m ∷ ms)
  ahead_next start at p n d e f (inl q) = absurd (d q.0)
  ahead_next start at p n d e f (inr q) =
      let here : (p ≡ m) ⊎ In p ms = (let w = round_of s sound m atoms ms r at q.1 in let g : Some w.0 ≡ Some p = sym w.1 ∙ e in let same : w.0 ≡ p = (cc) in subst (λ z. (z ≡ m) ⊎ In z ms) same w.2) in
      let listed : In at (mems_in s p) = (sound.listed.mems p at).1 (parent_place s at p e) in
      let inside : In n ms = child_in s sound m atoms ms r p n here (behind_in n at (mems_in s p) (subst (In n) f (inl refl))) in
      outer n inside ∙ by (cases_eq p m) ∙ sym (after_inner s sound m atoms ms r start q.0)
    where
      behind_in : (x y : ℕ) (xs : List ℕ) → In x (after y xs) → In x xs
      behind_in x y xs i = let t = tail_of y xs in subst (In x) (sym t.1) (in_right x t.0 (after y xs) i)

      by : (p ≡ m) ⊎ (p ≢ m) → from (Some n) ms ≡ after start ms
      by (inl g) =
          found_top s sound m (λ _. true) (λ _. true) atoms ms r start at q.2 (Some n) (e ∙ ap Some g)
          (all_kept (Some n) (after at (mems_in s m)) (subst (λ zs. from (Some n) zs ≡ zs) (subst (λ z. from (Some n) (mems_in s z) ≡ after at (mems_in s z)) g f) (from_here n (after n (mems_in s m)))))
      by (inr g) = found s sound m (λ _. true) (λ _. true) atoms ms r start at q.2 p n g e f

  -- behind the last one in a list comes what is behind the membrane round it
  pub ahead_up : (start at p : ℕ) → at ≢ m → parent_of s at ≡ Some p → from None (mems_in s p) ≡ after at (mems_in s p) → Ahead start at → Ahead start p
  ahead_up start at p d e f (inl q) = absurd (d q.0)
  ahead_up start at p d e f (inr q) = by (cases_eq p m)
    where
      here : (p ≡ m) ⊎ In p ms
      here = let w = round_of s sound m atoms ms r at q.1 in let g : Some w.0 ≡ Some p = sym w.1 ∙ e in let same : w.0 ≡ p = (cc) in subst (λ z. (z ≡ m) ⊎ In z ms) same w.2

      inner_of : (p ≡ m) ⊎ In p ms → p ≢ m → In p ms
      inner_of (inl g) o = absurd (o g)
      inner_of (inr i) o = i

      by : (p ≡ m) ⊎ (p ≢ m) → Ahead start p
      by (inl g) =
          inl (
            g,
            after_inner s sound m atoms ms r start q.0
                ∙ sym (found_top s sound m (λ _. true) (λ _. true) atoms ms r start at q.2 None (e ∙ ap Some g) (all_kept None (after at (mems_in s m)) (subst (λ z. from None (mems_in s z) ≡ after at (mems_in s z)) g f))),
          )
      by (inr g) = inr (q.0, inner_of here g, climbs s sound m (λ _. true) (λ _. true) atoms ms r start at q.2 p g e f)

  -- each but the membrane itself has one round it
  pub has_round : (at : ℕ) → at ≢ m → In at (m ∷ ms) → parent_of s at ≡ None → ⊥
  has_round at d i e = by (either_here m at ms i)
    where
      by : (at ≡ m) ⊎ In at ms → ⊥
      by (inl q) = d q
      by (inr j) = let w = round_of s sound m atoms ms r at j in let q : Some w.0 ≡ None = sym w.1 ∙ e in cc

  -- a step up is a step back
  pub nearer : (at p : ℕ) → at ≢ m → In at (m ∷ ms) → parent_of s at ≡ Some p → length (m ∷ ms) - length (after p (m ∷ ms)) < length (m ∷ ms) - length (after at (m ∷ ms))
  nearer at p d i e =
      let listed : In at (mems_in s p) = (sound.listed.mems p at).1 (parent_place s at p e) in
      let l = less_behind p at (m ∷ ms) (all_once s sound m atoms ms r) (child_behind s sound m atoms ms r p at (here (either_here m at ms i)) listed) in
      let f = behind_few p (m ∷ ms) in
      omega (arith, l, f)
    where
      here : (at ≡ m) ⊎ In at ms → (p ≡ m) ⊎ In p ms
      here (inl q) = absurd (d q)
      here (inr j) = let w = round_of s sound m atoms ms r at j in let g : Some w.0 ≡ Some p = sym w.1 ∙ e in let same : w.0 ≡ p = (cc) in subst (λ z. (z ≡ m) ⊎ In z ms) same w.2

-- the twin of the membrane round one is round its twin
pub twin_up : (s : Heap) (m : ℕ) (twin : ℕ → ℕ) (placed : List ℕ) (at p copy c : ℕ) → AreTwins s m twin placed → In at (m ∷ placed) → at ≢ m → twin at ≡ copy → parent_of s at ≡ Some p → parent_of s copy ≡ Some c
    → In p (m ∷ placed) × (twin p ≡ c)
twin_up s m twin placed at p copy c t (inl e) d f g h = absurd (d (sym e))
twin_up s m twin placed at p copy c t (inr i) d f g h =
    let w = t at i in
    let x : Some w.0 ≡ Some p = sym w.1 ∙ g in
    let same : w.0 ≡ p = (cc) in
    let y : Some (twin w.0) ≡ Some c = sym w.3 ∙ ap (parent_of s) f ∙ h in
    let one : twin w.0 ≡ c = (cc) in
    (subst (λ z. In z (m ∷ placed)) same w.2, subst (λ z. twin z ≡ c) same one)

-- and there is one
pub twin_round : (s : Heap) (m : ℕ) (twin : ℕ → ℕ) (placed : List ℕ) (at copy : ℕ) → AreTwins s m twin placed → In at (m ∷ placed) → at ≢ m → twin at ≡ copy → parent_of s copy ≡ None → ⊥
twin_round s m twin placed at copy t (inl e) d f h = d (sym e)
twin_round s m twin placed at copy t (inr i) d f h = let w = t at i in let y : Some (twin w.0) ≡ None = sym w.3 ∙ ap (parent_of s) f ∙ h in cc
