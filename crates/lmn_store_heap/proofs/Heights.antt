-- Ways up from a membrane, and how far membranes are below the root; in a valid heap none is inside itself.
use Rattle.std.proofs.Common.{ℕ, zero, suc, ◌≡◌, ◌≤◌, ◌+◌, inl, inr, List, [], ◌∷◌, ◌++◌, Option, Some, None, refl, arith, ap, sym, subst, ◌∙◌, length, length-append}
use Rattle.std.specs.Option.{option_map, option_and_then}
use Rattle.std.specs.Prelude.{IsSome}
use Rattle.lmn_store_heap.specs.Heap.{Heap, HeapMem, Place, top, within, waiting, gone, IsMem, mems_in, mems_by, mem_place_of, parent_of, home_by}
use Rattle.lmn_store_heap.specs.Sound.{Valid, Forest, bare, mem, flat, Forms, Listed}
use Rattle.lmn_store_heap.specs.Conditions.{Above}
use Rattle.lmn_store_heap.proofs.Trees.{parent_by}
use Rattle.lmn_base.specs.Lists.{In}
use Rattle.lmn_base.proofs.Lists.{in_either}

-- what is in a list has that membrane for its parent
pub parent_is : (h : Heap) (listed : Listed h) (n m : ℕ) → In n (mems_in h m) → parent_of h n ≡ Some m
parent_is h listed n m s = parent_by h n (within m) ((listed.mems m n).0 s)

-- a membrane with a parent stands in it
pub place_by_parent : (o : Option HeapMem) (m : ℕ) → option_and_then (λ x. home_by x.place) o ≡ Some m → option_map (λ x. x.place) o ≡ Some (within m)
place_by_parent None m e = absurd (cc)
place_by_parent (Some x) m e = by x.place e
  where
    by : (p : Place) → home_by p ≡ Some m → Some p ≡ Some (within m)
    by top e = absurd (cc)
    by (within k) e = let w : k ≡ m = (cc) in ap (λ z. Some (within z)) w
    by waiting e = absurd (cc)
    by gone e = absurd (cc)

-- a membrane with a parent stands in its list
pub parent_place : (h : Heap) (n m : ℕ) → parent_of h n ≡ Some m → mem_place_of h n ≡ Some (within m)
parent_place h n m e = place_by_parent (h.mems n) m e

-- a membrane in whose list something stands is one
pub mem_of_list : (h : Heap) (m n : ℕ) → In n (mems_in h m) → IsMem h m
mem_of_list h m n i = by (h.mems m) i
  where
    by : (o : Option HeapMem) → In n (mems_by o) → IsSome o
    by None i = absurd i
    by (Some x) i = refl

-- a number with a place names a membrane
pub mem_of_place : (h : Heap) (m : ℕ) (p : Place) → mem_place_of h m ≡ Some p → IsMem h m
mem_of_place h m p e = by (h.mems m) e
  where
    by : (o : Option HeapMem) → option_map (λ x. x.place) o ≡ Some p → IsSome o
    by None e = absurd (cc)
    by (Some x) e = refl

module _ (h : Heap) where
  -- of a way up, the first steps and the others
  pub climbs_first : (i j p m : ℕ) → Above h (i + j) p m → (q : ℕ) × Above h i q m × Above h j p q
  climbs_first zero j p m a = (m, refl, let z : 0 + j ≡ j = omega arith in subst (λ k. Above h k p m) z a)
  climbs_first (suc i) j p m a =
      let z : suc i + j ≡ suc (i + j) = omega arith in
      let b : Above h (suc (i + j)) p m = subst (λ k. Above h k p m) z a in
      let r = climbs_first i j p b.0 b.2 in
      (r.0, (b.0, b.1, r.1), r.2)

  -- two ways up, one after the other
  pub climbs_both : (i j p q m : ℕ) → Above h i q m → Above h j p q → Above h (i + j) p m
  climbs_both zero j p q m a b = let z : j ≡ 0 + j = omega arith in subst (λ k. Above h k p m) z (subst (λ k. Above h j p k) (sym a) b)
  climbs_both (suc i) j p q m a b =
      let z : suc (i + j) ≡ suc i + j = omega arith in
      subst (λ k. Above h k p m) z (a.0, a.1, climbs_both i j p q a.0 a.2 b)

  -- one step down from where a way begins makes it one longer
  pub above_more : (k a c x : ℕ) → parent_of h c ≡ Some a → Above h k c x → Above h (suc k) a x
  above_more zero a c x p w = (a, ap (parent_of h) w ∙ p, refl)
  above_more (suc k) a c x p w = (w.0, w.1, above_more k a c w.0 p w.2)

  -- two ways up of one length lead to one membrane
  pub one_above : (i p q m : ℕ) → Above h i p m → Above h i q m → p ≡ q
  one_above zero p q m a b = sym a ∙ b
  one_above (suc i) p q m a b = let same : a.0 ≡ b.0 = (let s = a.1 in let t = b.1 in cc) in one_above i p q b.0 (subst (λ k. Above h i p k) same a.2) b.2

  -- a membrane that is inside itself has ways up of every length
  round : (k m : ℕ) → Above h (suc k) m m → (n : ℕ) → (p : ℕ) × Above h n p m
  round k m a zero = (m, refl)
  round k m a (suc n) =
      let r = round k m a n in
      let z : suc k + n ≡ suc n + k = omega arith in
      let long : Above h (suc n + k) r.0 m = subst (λ i. Above h i r.0 m) z (climbs_both (suc k) n r.0 m m a r.1) in
      let s = climbs_first (suc n) k r.0 m long in (s.0, s.1)

  -- what is in a forest is below the root by no more steps than the list of the forest and its membranes allow
  pub rooted : (listed : Listed h) (root b : ℕ) (f : Forest) (ms : List ℕ) → Forms h f ms → ((x : ℕ) → In x ms → (d : ℕ) × Above h d root x × (d ≤ b)) → (m : ℕ) → In m (flat f) → (d : ℕ) × Above h d root m × (d ≤ b + length (flat f))
  rooted listed root b bare ms forms up m s = elim s [ ]
  rooted listed root b (mem n inner rest) ms forms up m (inl e) =
      let here = up m (subst (λ xs. In m xs) (sym forms.1) (inl e)) in let l = here.2 in (here.0, here.1, omega arith)
  rooted listed root b (mem n inner rest) ms forms up m (inr s) =
      let both : length (flat inner ++ flat rest) ≡ length (flat inner) + length (flat rest) = length-append (flat inner) (flat rest) in
      elim (in_either m (flat inner) (flat rest) s) [
        | inl t ↦ (let r = rooted listed root (b + 1) inner (mems_in h n) forms.2 (λ x u.
            let above = up n (subst (λ xs. In n xs) (sym forms.1) (inl refl)) in
            (suc above.0, (n, parent_is h listed x n u, above.1), (let l = above.2 in omega arith))) m t in
            let l = r.2 in (r.0, r.1, omega arith))
        | inr t ↦ (let r = rooted listed root b rest forms.0 forms.3 (λ x u. up x (subst (λ xs. In x xs) (sym forms.1) (inr u))) m t in
            let l = r.2 in (r.0, r.1, omega arith))
      ]

top_has_none : (o : Option HeapMem) → option_map (λ x. x.place) o ≡ Some top → option_and_then (λ x. home_by x.place) o ≡ None
top_has_none None e = absurd (cc)
top_has_none (Some x) e = let p : x.place ≡ top = cc in ap home_by p

-- what has a parent is a membrane
pub has_parent : (o : Option HeapMem) (p : ℕ) → option_and_then (λ x. home_by x.place) o ≡ Some p → IsSome o
has_parent None p e = absurd (cc)
has_parent (Some x) p e = refl

-- a membrane of a valid heap is below the root by fewer steps than there are membranes
pub depth_of : (h : Heap) (v : Valid h) (m : ℕ) → IsMem h m → (d : ℕ) × Above h d h.root m × (d ≤ length (flat v.tree.0))
depth_of h v m there =
    let r = rooted h v.sound.listed h.root 0 v.tree.0 (h.root ∷ []) v.tree.1.forms (λ x s. elim s [ inl e ↦ (0, sym e, omega arith) | inr t ↦ absurd t ]) m (v.tree.1.all m there) in
    let l = r.2 in (r.0, r.1, omega arith)

-- nothing is above the root
pub none_higher : (h : Heap) (v : Valid h) (m d p : ℕ) → Above h d h.root m → Above h (d + 1) p m → ⊥
none_higher h v m d p up over =
    let s = climbs_first h d 1 p m over in
    let same : s.0 ≡ h.root = one_above h d s.0 h.root m s.1 up in
    let parent : parent_of h h.root ≡ Some s.2.0 = subst (λ q. parent_of h q ≡ Some s.2.0) same s.2.1 in
    let none = top_has_none (h.mems h.root) ((v.sound.listed.root h.root).1 refl) in
    cc

-- no membrane of a valid heap is inside itself
pub valid_no_loop : (h : Heap) → Valid h → (m k : ℕ) → Above h (suc k) m m → ⊥
valid_no_loop h v m k a =
    let up = depth_of h v m (has_parent (h.mems m) a.0 a.1) in
    let over = round h k m a (up.0 + 1) in
    none_higher h v m up.0 over.0 up.1 over.1

forest_members : (h : Heap) (listed : Listed h) (f : Forest) (ms : List ℕ) → Forms h f ms → ((x : ℕ) → In x ms → IsMem h x) → (b : ℕ) → In b (flat f) → IsMem h b
forest_members h listed bare ms forms are b s = elim s [ ]
forest_members h listed (mem n inner rest) ms forms are b (inl e) = are b (subst (λ xs. In b xs) (sym forms.1) (inl e))
forest_members h listed (mem n inner rest) ms forms are b (inr s) =
    elim (in_either b (flat inner) (flat rest) s) [
      | inl t ↦ forest_members h listed inner (mems_in h n) forms.2 (λ x u. mem_of_place h x (within n) ((listed.mems n x).0 u)) b t
      | inr t ↦ forest_members h listed rest forms.0 forms.3 (λ x u. are x (subst (λ xs. In x xs) (sym forms.1) (inr u))) b t
    ]

-- the tree of a valid heap has nothing but its membranes
pub tree_members : (h : Heap) (v : Valid h) (b : ℕ) → In b (flat v.tree.0) → IsMem h b
tree_members h v b s =
    forest_members h v.sound.listed v.tree.0 (h.root ∷ []) v.tree.1.forms
    (λ x t. elim t [ inl e ↦ subst (λ y. IsMem h y) e (mem_of_place h h.root top ((v.sound.listed.root h.root).1 refl)) | inr u ↦ absurd u ]) b s
