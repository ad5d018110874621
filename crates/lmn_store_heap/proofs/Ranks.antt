-- A tree from ranks: where each membrane has a greater rank than the one that it stands in, the membranes form a tree.
use Rattle.std.proofs.Common.{ℕ, zero, suc, ◌+◌, ◌<◌, ◌≤◌, ◌≡◌, ◌≢◌, ◌⊎◌, List, [], ◌∷◌, ◌++◌, Option, Some, None, IsSome, refl, sym, ap, subst, ◌∙◌, inl, inr, arith}
use Rattle.std.specs.Option.{option_map}
use Rattle.lmn_store_heap.specs.Heap.{Heap, HeapMem, Place, top, within, waiting, gone, mem_place_of, parent_of, mems_in, IsMem, Distinct}
use Rattle.lmn_store_heap.specs.Sound.{Listed, Forest, bare, mem, flat, Forms}
use Rattle.lmn_store_heap.specs.Conditions.{Above}
use Rattle.lmn_store_heap.proofs.ListLemmas.{each_in, each_of}
use Rattle.lmn_store_heap.proofs.Groves.{child_inside}
use Rattle.lmn_store_heap.proofs.Heights.{parent_is, parent_place, mem_of_list, mem_of_place, above_more}
use Rattle.lmn_store_heap.proofs.Depths.{both_distinct}
use Rattle.lmn_store_heap.proofs.Common.{nothing_in}
use Rattle.lmn_base.specs.Lists.{In}
use Rattle.lmn_base.proofs.Lists.{in_either}

-- a forest of a list, from a forest for what is in each
abbrev pub build_list : (ℕ → Forest) → List ℕ → Forest
build_list g [] = bare
build_list g (m ∷ ms) = mem m (g m) (build_list g ms)

-- the forest of a list, to a depth
abbrev pub build : Heap → ℕ → List ℕ → Forest
build v zero ms = bare
build v (suc k) ms = build_list (λ m. build v k (mems_in v m)) ms

-- of two membranes above one, one is above the other
above_order : (v : Heap) (i j a b x : ℕ) → Above v i a x → Above v j b x → ((k : ℕ) × Above v k b a) ⊎ ((k : ℕ) × Above v k a b)
above_order v zero j a b x p q = inl (j, subst (λ z. Above v j b z) p q)
above_order v (suc i) zero a b x p q = inr (suc i, subst (λ z. Above v (suc i) a z) q p)
above_order v (suc i) (suc j) a b x p q =
    let same : p.0 ≡ q.0 = one (p.0) (q.0) (sym p.1 ∙ q.1) in
    above_order v i j a b q.0 (subst (λ z. Above v i a z) same p.2) q.2
  where
    one : (x y : ℕ) → ◌≡◌ {A = Option ℕ} (Some x) (Some y) → x ≡ y
    one x y e = (cc)

module _ (v : Heap) (listed : Listed v) (rank : ℕ → ℕ) (most : ℕ) (bound : (m : ℕ) → IsMem v m → rank m ≤ most) (up : (m n : ℕ) → In n (mems_in v m) → rank m < rank n) where
  parent_list : (n p : ℕ) → parent_of v n ≡ Some p → In n (mems_in v p)
  parent_list n p e = (listed.mems p n).1 (parent_place v n p e)

  list_parent : (n p : ℕ) → In n (mems_in v p) → parent_of v n ≡ Some p
  list_parent n p i = parent_is v listed n p i

  above_rank : (k a x : ℕ) → Above v k a x → rank a ≤ rank x
  above_rank zero a x e = subst (λ z. rank a ≤ rank z) (sym e) (omega arith)
  above_rank (suc k) a x e = let l = above_rank k a e.0 e.2 in let u = up e.0 x (parent_list x e.0 e.1) in omega arith

  -- membranes in one membrane have nothing in common below
  apart : (p a b k : ℕ) → In a (mems_in v p) → In b (mems_in v p) → Above v k b a → a ≡ b
  apart p a b zero i j e = e
  apart p a b (suc k) i j e =
      let same : e.0 ≡ p = one e.0 p (sym e.1 ∙ list_parent a p i) in
      absurd (off (above_rank k b e.0 e.2) (up p b j) same)
    where
      one : (x y : ℕ) → ◌≡◌ {A = Option ℕ} (Some x) (Some y) → x ≡ y
      one x y f = (cc)

      off : {q : ℕ} → rank b ≤ rank q → rank p < rank b → q ≡ p → ⊥
      off {q = q} l u f = let g : rank q ≡ rank p = ap rank f in omega arith

  -- Forms

  abbrev Shallow : ℕ → List ℕ → Type 0
  Shallow k ms = (m : ℕ) → In m ms → IsMem v m × (most < rank m + k)

  children : (k m : ℕ) → most < rank m + suc k → Shallow k (mems_in v m)
  children k m h n i = (mem_of_place v n (within m) ((listed.mems m n).0 i), let u = up m n i in omega arith)

  forms_list : (k : ℕ) → ((m : ℕ) → most < rank m + suc k → Forms v (build v k (mems_in v m)) (mems_in v m)) → (ms : List ℕ) → Shallow (suc k) ms → Forms v (build_list (λ m. build v k (mems_in v m)) ms) ms
  forms_list k ih [] s = refl
  forms_list k ih (m ∷ ms) s = (ms, refl, ih m (s m (inl refl)).1, forms_list k ih ms (λ n i. s n (inr i)))

  -- a depth beyond all ranks is deep enough
  pub forms_build : (k : ℕ) (ms : List ℕ) → Shallow k ms → Forms v (build v k ms) ms
  forms_build zero ms s = nothing_in ms (λ m i. let w = s m i in let b = bound m w.0 in off m b w.1)
    where
      off : (m : ℕ) → rank m ≤ most → most < rank m + 0 → ⊥
      off m b h = omega arith
  forms_build (suc k) ms s = forms_list k (λ m h. forms_build k (mems_in v m) (children k m h)) ms s

  -- what is in the forest is below the list

  abbrev Below : List ℕ → ℕ → Type 0
  Below ms x = (t : ℕ) × In t ms × ((j : ℕ) × Above v j t x)

  below_list : (k : ℕ) → ((m x : ℕ) → In x (flat (build v k (mems_in v m))) → Below (mems_in v m) x) → (ms : List ℕ) (x : ℕ) → In x (flat (build_list (λ m. build v k (mems_in v m)) ms)) → Below ms x
  below_list k ih [] x i = absurd i
  below_list k ih (m ∷ ms) x (inl e) = (m, inl refl, (0, sym e))
  below_list k ih (m ∷ ms) x (inr i) = elim (in_either x (flat (build v k (mems_in v m))) (flat (build_list (λ m. build v k (mems_in v m)) ms)) i) [
    | inl j ↦ (let w = ih m x j in (m, inl refl, (suc w.2.0, above_more v w.2.0 m w.0 x (list_parent w.0 m w.1) w.2.1)))
    | inr j ↦ (let w = below_list k ih ms x j in (w.0, inr w.1, w.2))
  ]

  below : (k : ℕ) (ms : List ℕ) (x : ℕ) → In x (flat (build v k ms)) → Below ms x
  below zero ms x i = absurd i
  below (suc k) ms x i = below_list k (λ m y j. below k (mems_in v m) y j) ms x i

  -- no membrane stands twice in the forest

  abbrev Siblings : List ℕ → Type 0
  Siblings ms = (a b : ℕ) → In a ms → In b ms → (k : ℕ) → Above v k b a → a ≡ b

  once_list : (k : ℕ) → ((m : ℕ) → Distinct (flat (build v k (mems_in v m)))) → (ms : List ℕ) → Distinct ms → Siblings ms → Distinct (flat (build_list (λ m. build v k (mems_in v m)) ms))
  once_list k ih [] d s = tt
  once_list k ih (m ∷ ms) d s = (
    each_of (λ y. m ≢ y) (flat (build v k (mems_in v m)) ++ flat (build_list (λ m. build v k (mems_in v m)) ms)) (λ y i e. elim (in_either y (flat (build v k (mems_in v m))) (flat (build_list (λ m. build v k (mems_in v m)) ms)) i) [
      | inl j ↦ (let w = below k (mems_in v m) y j in let a = above_rank w.2.0 w.0 y w.2.1 in let u = up m w.0 w.1 in less y e (omega arith))
      | inr j ↦ (let w = below (suc k) ms y j in
          let same : m ≡ w.0 = s m w.0 (inl refl) (inr w.1) w.2.0 (subst (λ z. Above v w.2.0 w.0 z) (sym e) w.2.1) in
          each_in (λ z. m ≢ z) ms w.0 d.0 w.1 same)
    ]),
    both_distinct (flat (build v k (mems_in v m))) (flat (build_list (λ m. build v k (mems_in v m)) ms)) (ih m) (once_list k ih ms d.1 (λ a b i j. s a b (inr i) (inr j)))
        (λ x i j.
        let p = below k (mems_in v m) x i in
        let q = below (suc k) ms x j in
        let ups = above_more v p.2.0 m p.0 x (list_parent p.0 m p.1) p.2.1 in
        elim (above_order v (suc p.2.0) q.2.0 m q.0 x ups q.2.1) [
          | inl w ↦ each_in (λ z. m ≢ z) ms q.0 d.0 q.1 (s m q.0 (inl refl) (inr q.1) w.0 w.1)
          | inr w ↦ each_in (λ z. m ≢ z) ms q.0 d.0 q.1 (sym (s q.0 m (inr q.1) (inl refl) w.0 w.1))
        ]),
  )
    where
      less : (y : ℕ) → m ≡ y → rank m < rank y → ⊥
      less y e h = let f : rank m ≡ rank y = ap rank e in omega arith

  pub once_build : (k : ℕ) (ms : List ℕ) → Distinct ms → Siblings ms → Distinct (flat (build v k ms))
  once_build zero ms d s = tt
  once_build (suc k) ms d s = once_list k (λ m. once_build k (mems_in v m) (listed.mems_once m) (λ a b i j n e. apart m a b n i j e)) ms d s

  -- The tree of the root holds every membrane that isn't gone.
  module _ (here : IsMem v v.root) (empty : (m : ℕ) → mem_place_of v m ≡ Some gone → mems_in v m ≡ []) (no_line : v.new_mems ≡ []) where
    abbrev pub tree : Forest
    tree = build v (suc most) (v.root ∷ [])

    pub tree_forms : Forms v tree (v.root ∷ [])
    tree_forms = forms_build (suc most) (v.root ∷ []) (λ m i. elim i [ inl e ↦ (subst (IsMem v) e here, omega arith) | inr j ↦ absurd j ])

    pub tree_once : Distinct (flat tree)
    tree_once = once_build (suc most) (v.root ∷ []) (tt, tt) (λ a b i j k e. one a b i j)
      where
        one : (a b : ℕ) → In a (v.root ∷ []) → In b (v.root ∷ []) → a ≡ b
        one a b (inl e) (inl f) = sym e ∙ f
        one a b (inl e) (inr j) = absurd j
        one a b (inr i) j = absurd i

    stands : (m : ℕ) (P : Place) → mem_place_of v m ≡ Some P → (P ≡ gone → ⊥) → (m ≡ v.root) ⊎ ((p : ℕ) × In m (mems_in v p))
    stands m top e d = inl ((listed.root m).0 e)
    stands m (within p) e d = inr (p, (listed.mems p m).1 e)
    stands m waiting e d = absurd (subst (In m) no_line ((listed.new_mems m).1 e))
    stands m gone e d = absurd (d refl)

    place_some : (m : ℕ) → IsMem v m → (P : Place) × (mem_place_of v m ≡ Some P)
    place_some m i = by (v.mems m) i
      where
        by : (o : Option HeapMem) → IsSome o → (P : Place) × (option_map (λ x. x.place) o ≡ Some P)
        by None i = absurd (cc)
        by (Some x) i = (x.place, refl)

    in_tree : (fuel m : ℕ) → rank m < fuel → IsMem v m → (mem_place_of v m ≡ Some gone → ⊥) → In m (flat tree)
    in_tree zero m h i d = absurd (off h)
      where
        off : rank m < 0 → ⊥
        off h = omega arith
    in_tree (suc fuel) m h i d =
        let w = place_some m i in
        elim (stands m w.0 w.1 (λ e. d (w.1 ∙ ap (λ z. Some z) e))) [
          | inl e ↦ inl (sym e)
          | inr p ↦ child_inside v tree (v.root ∷ []) tree_forms p.0 m
              (in_tree fuel p.0 (let u = up p.0 m p.1 in omega arith) (mem_of_list v p.0 m p.1) (λ e. subst (In m) (empty p.0 e) p.1)) p.1
        ]

    pub tree_all : (m : ℕ) → IsMem v m → (mem_place_of v m ≡ Some gone → ⊥) → In m (flat tree)
    tree_all m i d = in_tree (suc (rank m)) m (omega arith) i d
