-- Preorder: a membrane comes after those round it, so the images of the membranes of a head after that of the rule.
use Rattle.std.proofs.Common.{ℕ, zero, suc, ◌+◌, ◌<◌, ◌≤◌, ◌≡◌, ◌≢◌, ◌==◌, Bool, true, false, cond, List, [], ◌∷◌, ◌++◌, length, refl, sym, ap, subst, ◌∙◌, inl, inr, arith}
use Rattle.std.proofs.lemmas.Bool.{eq-eqb}
use Rattle.lmn_store_heap.specs.Heap.{Heap, mems_in, Distinct}
use Rattle.lmn_store_heap.specs.Sound.{Forest, flat, Valid}
use Rattle.lmn_store_heap.proofs.ListLemmas.{each_in, in_left, in_right}
use Rattle.lmn_store_heap.proofs.Trees.{find_at, split_at, around}
use Rattle.lmn_store_heap.proofs.Groves.{list_inside}
use Rattle.lmn_solid_heads.specs.declared.items.HeadItem.{HeadItem}
use Rattle.lmn_solid_heads.specs.Heads.{HeadMembrane, membranes_of}
use Rattle.lmn_solid_heads.specs.Embeddings.{HasMembrane, index_of, Lies}
use Rattle.lmn_congruence_splice.specs.Classes.{rising}
use Rattle.lmn_solid_bodies.specs.Running.{Registers}
use Rattle.lmn_solid_bodies.specs.Within.{membrane_images}
use Rattle.lmn_solid_bodies.proofs.HeadPorts.{of_map, in_map}
use Rattle.lmn_solid_bodies.proofs.Firing.{rising_below, heap_in_of, of_heap_in}
use Rattle.lmn_congruence_splice.proofs.EndLemmas.{in_rising}
use Rattle.lmn_store_heap.proofs.Heights.{mem_of_list}
use Rattle.lmn_base.proofs.Lists.{get_below, get_there as get_some}
use Rattle.lmn_base.proofs.Numbers.{not_equal as not_eq}
use Rattle.lmn_solid_bodies.specs.Rules.{HeadNests}
use Rattle.lmn_base.specs.Lists.{In}

-- Indices

-- the index of a number is at most the length
pub index_most : (x : ℕ) (xs : List ℕ) → index_of x xs ≤ length xs
index_most x [] = omega arith
index_most x (y ∷ ys) = let r = index_most x ys in by (y == x) r
  where
    by : (t : Bool) → index_of x ys ≤ length ys → cond t 0 (suc (index_of x ys)) ≤ suc (length ys)
    by true r = omega arith
    by false r = omega arith

-- and below it where the number stands in the list
pub index_in : (x : ℕ) (xs : List ℕ) → In x xs → index_of x xs < length xs
index_in x [] i = absurd i
index_in x (y ∷ ys) (inl e) = rw (eq-eqb y x e) (omega arith)
index_in x (y ∷ ys) (inr i) = let r = index_in x ys i in by (y == x) r
  where
    by : (t : Bool) → index_of x ys < length ys → cond t 0 (suc (index_of x ys)) < suc (length ys)
    by true r = omega arith
    by false r = omega arith

-- the index of what stands behind a front
pub index_split : (before : List ℕ) (m : ℕ) (rest : List ℕ) → Distinct (before ++ (m ∷ rest)) → index_of m (before ++ (m ∷ rest)) ≡ length before
index_split [] m rest d = rw (eq-eqb m m refl) refl
index_split (x ∷ before) m rest d =
    rw (not_eq x m (λ e. each_in (λ z. x ≢ z) (before ++ (m ∷ rest)) m d.0 (in_right m before (m ∷ rest) (inl refl)) e)) (ap (λ n. suc n) (index_split before m rest d.1))

-- a number behind another has a higher index
pub index_later : (before : List ℕ) (m : ℕ) (rest : List ℕ) (n : ℕ) → Distinct (before ++ (m ∷ rest)) → In n rest → length before < index_of n (before ++ (m ∷ rest))
index_later [] m rest n d i = rw (not_eq m n (λ e. each_in (λ z. m ≢ z) rest n d.0 i e)) (omega arith)
index_later (x ∷ before) m rest n d i =
    let r = index_later before m rest n d.1 i in
    rw (not_eq x n (λ e. each_in (λ z. x ≢ z) (before ++ (m ∷ rest)) n d.0 (in_right n before (m ∷ rest) (inr i)) e)) (omega arith)

-- the index of an element of a front
pub index_front : (x : ℕ) (xs ys : List ℕ) → In x xs → index_of x (xs ++ ys) < length xs
index_front x [] ys i = absurd i
index_front x (y ∷ xs) ys (inl e) = rw (eq-eqb y x e) (omega arith)
index_front x (y ∷ xs) ys (inr i) = let r = index_front x xs ys i in by (y == x) r
  where
    by : (t : Bool) → index_of x (xs ++ ys) < length xs → cond t 0 (suc (index_of x (xs ++ ys))) < suc (length xs)
    by true r = omega arith
    by false r = omega arith

-- the images of the membranes of a head
module _ (head : List HeadItem) (r : Registers) where
  abbrev K : ℕ
  K = length (membranes_of head)

  pub removed_is : (x : ℕ) → In x (membrane_images r head) → (k : ℕ) × (b : HeadMembrane) × HasMembrane head k b × (r.head.images.membrane k ≡ x)
  removed_is x i =
      let w = of_map r.head.images.membrane x (rising 1 K) (heap_in_of x (membrane_images r head) i) in
      let b = rising_below K 1 w.0 w.1 in
      go w.0 b.0 b.1 w.2
    where
      go : (k : ℕ) → 1 ≤ k → k < 1 + K → r.head.images.membrane k ≡ x → (k : ℕ) × (b : HeadMembrane) × HasMembrane head k b × (r.head.images.membrane k ≡ x)
      go zero l u e = absurd (off l)
        where
          off : 1 ≤ 0 → ⊥
          off l = omega arith
      go (suc k) l u e = let g = get_some (membranes_of head) k (less u) in (suc k, g.0, (k, refl, g.1), e)
        where
          less : suc k < 1 + K → k < K
          less u = omega arith

  pub is_removed : (i : ℕ) → i < K → In (r.head.images.membrane (suc i)) (membrane_images r head)
  is_removed i b = of_heap_in (r.head.images.membrane (suc i)) (membrane_images r head) (in_map r.head.images.membrane (suc i) (rising 1 K) (in_rising K 1 (suc i) (omega arith) (more b)))
    where
      more : i < K → suc i < 1 + K
      more b = omega arith

module _ (h : Heap) (valid : Valid h) where
  abbrev f : Forest
  f = valid.tree.0

  abbrev pub preorder : ℕ → ℕ
  preorder x = index_of x (flat valid.tree.0)

  abbrev idx : ℕ → ℕ
  idx = preorder

  pub later : (p x : ℕ) → In x (mems_in h p) → idx p < idx x
  later p x i =
      let a = find_at f p (valid.tree.1.all p (mem_of_list h p x i)) in
      let u = split_at f p a.0 a.1 a.2 a.3 in
      let w = around h f (h.root ∷ []) p a.0 a.1 a.2 valid.tree.1.forms a.3 in
      let inner : In x (flat a.0 ++ (flat a.1 ++ a.2)) = in_left x (flat a.0) (flat a.1 ++ a.2) (list_inside h a.0 (mems_in h p) w.inner x i) in
      let once : Distinct (u.0 ++ (p ∷ (flat a.0 ++ (flat a.1 ++ a.2)))) = subst Distinct u.1 valid.tree.1.once in
      let at : idx p ≡ length u.0 = ap (index_of p) u.1 ∙ index_split u.0 p (flat a.0 ++ (flat a.1 ++ a.2)) once in
      let later : length u.0 < idx x = subst (λ zs. length u.0 < index_of x zs) (sym u.1) (index_later u.0 p (flat a.0 ++ (flat a.1 ++ a.2)) x once inner) in
      omega arith

  module _ (head : List HeadItem) (m : ℕ) (r : Registers) (em : Lies h head m r.head.images) (head_nests : HeadNests head) where
    -- a membrane of the head is below that of the rule
    removed_below : (fuel k : ℕ) (b : HeadMembrane) → k < fuel → HasMembrane head k b → idx m < idx (r.head.images.membrane k)
    removed_below zero k b l w = absurd (off l)
      where
        off : k < 0 → ⊥
        off l = omega arith
    removed_below (suc fuel) k b l w =
        let here = later (r.head.images.membrane b.inside) (r.head.images.membrane k) (em.membranes_placed k b w) in
        by b.inside (head_nests k b w) here (λ j x g. removed_below fuel j x (omega arith))
      where
        some : (i : ℕ) → suc i < k → (x : HeadMembrane) × HasMembrane head (suc i) x
        some i g = let below = get_below (membranes_of head) w.0 b w.2 in let x = get_some (membranes_of head) i (less w.0 w.1 g below) in (x.0, (i, refl, x.1))
          where
            less : (j : ℕ) → k ≡ suc j → suc i < k → j < length (membranes_of head) → i < length (membranes_of head)
            less j e g l = omega arith

        by : (i : ℕ) → i < k → idx (r.head.images.membrane i) < idx (r.head.images.membrane k)
            → ((j : ℕ) (x : HeadMembrane) → j < k → HasMembrane head j x → idx m < idx (r.head.images.membrane j)) → idx m < idx (r.head.images.membrane k)
        by zero g here rec = subst (λ z. idx z < idx (r.head.images.membrane k)) em.here here
        by (suc i) g here rec = let x = some i g in let below = rec (suc i) x.0 g x.1 in omega arith

    pub below_home : (x : ℕ) → In x (membrane_images r head) → idx m < idx x
    below_home x i = let w = removed_is head r x i in subst (λ z. idx m < idx z) w.3 (removed_below (suc w.0) w.0 w.1 (omega arith) w.2)
