-- A membrane stands in one place of the tree.
use Rattle.std.proofs.Common.{◌≡◌, ◌≢◌, ◌⊎◌, ℕ, zero, suc, ◌+◌, ◌≤◌, ◌^◌, List, [], ◌∷◌, ◌++◌, length, Option, Some, None, refl, sym, ap, subst, ◌∙◌, inl, inr, arith, length-append}
use Rattle.lmn_store_heap.specs.Lists.{Distinct}
use Rattle.lmn_store_heap.specs.Heap.{Heap, top, parent_of, mems_in}
use Rattle.lmn_store_heap.specs.Sound.{Forest, bare, mem, flat, Forms, IsTree, Listed, Sound, AtMost}
use Rattle.lmn_store_heap.specs.Conditions.{Above}
use Rattle.lmn_store_heap.specs.Trees.{forest_of, tree_of}
use Rattle.lmn_store_heap.proofs.ListLemmas.{each_in, each_of}
use Rattle.lmn_store_heap.proofs.Pigeonholes.{not_longer}
use Rattle.lmn_store_heap.proofs.Trees.{parent_by, is_mem}
use Rattle.lmn_store_heap.proofs.Heights.{parent_is, above_more, one_above}
use Rattle.lmn_base.specs.Lists.{In}
use Rattle.lmn_base.proofs.Lists.{in_either}

-- x is n steps below a membrane without a parent
abbrev Depth : Heap → ℕ → ℕ → Type 0
Depth s zero x = parent_of s x ≡ None
Depth s (suc n) x = (p : ℕ) × (parent_of s x ≡ Some p) × Depth s n p

some_one : (o : Option ℕ) (p q : ℕ) → o ≡ Some p → o ≡ Some q → p ≡ q
some_one o p q e f = let w : Some p ≡ Some q = sym e ∙ f in cc

depth_one : (s : Heap) (m n x : ℕ) → Depth s m x → Depth s n x → m ≡ n
depth_one s zero zero x d e = refl
depth_one s zero (suc n) x d e = absurd (let w : None ≡ Some e.0 = sym d ∙ e.1 in cc)
depth_one s (suc m) zero x d e = absurd (let w : None ≡ Some d.0 = sym e ∙ d.1 in cc)
depth_one s (suc m) (suc n) x d e = ap suc (depth_one s m n e.0 (subst (Depth s m) (some_one (parent_of s x) d.0 e.0 d.1 e.1) d.2) e.2)

above_depth : (s : Heap) (k n a x : ℕ) → Above s k a x → Depth s n a → Depth s (k + n) x
above_depth s zero n a x h d = subst (λ j. Depth s j x) (let e : n ≡ 0 + n = omega arith in e) (subst (Depth s n) (sym h) d)
above_depth s (suc k) n a x h d = subst (λ j. Depth s j x) (let e : suc (k + n) ≡ suc k + n = omega arith in e) (h.0, h.1, above_depth s k n a h.0 h.2 d)

-- each membrane of a forest is below one of the list
below : (s : Heap) → Listed s → (f : Forest) (ms : List ℕ) → Forms s f ms → (x : ℕ) → In x (flat f) → (k : ℕ) × In k ms × (j : ℕ) × Above s j k x
below s h bare ms F x i = absurd i
below s h (mem k i r) ms F x (inl e) = (k, subst (In k) (sym F.1) (inl refl), 0, sym e)
below s h (mem k i r) ms F x (inr p) =
    inner (in_either x (flat i) (flat r) p) (λ q. below s h i (mems_in s k) F.2 x q) (λ q. below s h r F.0 F.3 x q)
  where
    inner : In x (flat i) ⊎ In x (flat r) → (In x (flat i) → (c : ℕ) × In c (mems_in s k) × (j : ℕ) × Above s j c x) → (In x (flat r) → (c : ℕ) × In c F.0 × (j : ℕ) × Above s j c x)
        → (c : ℕ) × In c ms × (j : ℕ) × Above s j c x
    inner (inl q) f g = let w = f q in (k, subst (In k) (sym F.1) (inl refl), suc w.2, above_more s w.2 k w.0 x (parent_is s h w.0 k w.1) w.3)
    inner (inr q) f g = let w = g q in (w.0, subst (In w.0) (sym F.1) (inr w.1), w.2, w.3)

-- two lists without repeats that share nothing make one without repeats
pub both_distinct : (xs ys : List ℕ) → Distinct xs → Distinct ys → ((a : ℕ) → In a xs → In a ys → ⊥) → Distinct (xs ++ ys)
both_distinct [] ys d e f = e
both_distinct (x ∷ xs) ys d e f = (
  each_of _ (xs ++ ys) (λ a i. elim (in_either a xs ys i) [
    | inl j ↦ each_in (λ z. x ≢ z) xs a d.0 j
    | inr j ↦ λ same. f x (inl refl) (subst (λ z. In z ys) (sym same) j)
  ]),
  both_distinct xs ys d.1 e (λ a i j. f a (inr i) j),
)

-- No membrane stands twice in the forest of a list of membranes at one depth.
pub flat_once : (s : Heap) → Listed s → (f : Forest) (ms : List ℕ) (n : ℕ) → ((x : ℕ) → In x ms → Depth s n x) → Distinct ms → Forms s f ms → Distinct (flat f)
flat_once s h bare ms n deep d F = tt
flat_once s h (mem k i r) ms n deep d F =
    let dk : Depth s n k = deep k (subst (In k) (sym F.1) (inl refl)) in
    let dr : (x : ℕ) → In x F.0 → Depth s n x = λ x j. deep x (subst (In x) (sym F.1) (inr j)) in
    let ds : Distinct (k ∷ F.0) = subst Distinct F.1 d in
    let di : (x : ℕ) → In x (mems_in s k) → Depth s (suc n) x = λ x j. (k, parent_is s h x k j, dk) in
    let inner = flat_once s h i (mems_in s k) (suc n) di (h.mems_once k) F.2 in
    let rest = flat_once s h r F.0 n dr ds.1 F.3 in
    let under : (x : ℕ) → In x (flat i) → (j : ℕ) × Above s (suc j) k x = λ x q. let w = below s h i (mems_in s k) F.2 x q in (w.2, above_more s w.2 k w.0 x (parent_is s h w.0 k w.1) w.3) in
    let not_inner : In k (flat i) → ⊥ = λ q. let w = under k q in let e = depth_one s (suc w.0 + n) n k (above_depth s (suc w.0) n k k w.1 dk) dk in absurd (omega arith) in
    let not_rest : In k (flat r) → ⊥ = λ q.
    let w = below s h r F.0 F.3 k q in
    let e = depth_one s (w.2 + n) n k (above_depth s w.2 n w.0 k w.3 (dr w.0 w.1)) dk in
    let z : w.2 ≡ 0 = omega arith in
    let same : k ≡ w.0 = subst (λ j. Above s j w.0 k) z w.3 in
    each_in (λ y. k ≢ y) F.0 w.0 ds.0 w.1 same in
    let not_both : (x : ℕ) → In x (flat i) → In x (flat r) → ⊥ = λ x p q.
    let u = under x p in
    let w = below s h r F.0 F.3 x q in
    let e = depth_one s (suc u.0 + n) (w.2 + n) x (above_depth s (suc u.0) n k x u.1 dk) (above_depth s w.2 n w.0 x w.3 (dr w.0 w.1)) in
    let z : w.2 ≡ suc u.0 = omega arith in
    let same : k ≡ w.0 = one_above s (suc u.0) k w.0 x u.1 (subst (λ j. Above s j w.0 x) z w.3) in
    each_in (λ y. k ≢ y) F.0 w.0 ds.0 w.1 same in (
      each_of _ (flat i ++ flat r) (λ x p same. elim (in_either x (flat i) (flat r) p) [
        | inl q ↦ not_inner (subst (λ z. In z (flat i)) (sym same) q)
        | inr q ↦ not_rest (subst (λ z. In z (flat r)) (sym same) q)
      ]),
      both_distinct (flat i) (flat r) inner rest not_both,
    )

-- the tree of the root
pub tree_once : (s : Heap) → Listed s → (f : Forest) → Forms s f (s.root ∷ []) → Distinct (flat f)
tree_once s h f F = flat_once s h f (s.root ∷ []) 0 (λ x i. elim i [ inl e ↦ subst (λ z. parent_of s z ≡ None) e (parent_by s s.root top ((h.root s.root).1 refl)) | inr j ↦ absurd j ]) (tt, tt) F

-- A forest is found with as much fuel as it has membranes.
pub forest_is : (s : Heap) (n : ℕ) (f : Forest) (ms : List ℕ) → Forms s f ms → length (flat f) ≤ n → forest_of s n ms ≡ f
forest_is s zero bare ms F h = refl
forest_is s (suc n) bare ms F h = ap (forest_of s (suc n)) F
forest_is s zero (mem k i r) ms F h = absurd (omega arith)
forest_is s (suc n) (mem k i r) ms F h =
    let a = length-append (flat i) (flat r) in
    let x = forest_is s n i (mems_in s k) F.2 (omega (arith, h)) in
    let y = forest_is s n r F.0 F.3 (omega (arith, h)) in
    ap (forest_of s (suc n)) F.1 ∙ (λ t. mem k (x t) (y t))

-- the tree of a store is a function of what it holds
pub tree_is : (s : Heap) (f : Forest) → Sound s → AtMost (2 ^ 48) s → IsTree s f → tree_of s ≡ f
unfolding tree_of
tree_is s f sound most t =
    let short = not_longer (flat f) most.mems t.once (λ x i. most.all_mems x (is_mem s sound f t x i)) in
    let few = most.few in
    forest_is s (2 ^ 48) f (s.root ∷ []) t.forms (omega (arith, short, few))
