-- Positions and numbers of two embeddings are in the same order.
use Rattle.std.proofs.Common.{ℕ, zero, suc, ◌≡◌, ◌≢◌, ◌+◌, ◌<◌, ◌⊎◌, ◌↔◌, length, List, [], ◌∷◌, ◌++◌, refl, sym, ap, subst, ◌∙◌, inl, inr, arith}
use Rattle.std.proofs.lemmas.Bool.{cases_eq, eq-eqb}
use Rattle.lmn_base.specs.declared.guard.Cond.{Cond}
use Rattle.lmn_base.specs.declared.level.Leaf.{Leaf}
use Rattle.lmn_base.specs.declared.level.Leaf.TheVariants as leaf
use Rattle.lmn_guards.specs.declared.plan.TypeKind.{TypeKind}
use Rattle.lmn_store_heap.specs.Heap.{Heap, atoms_in, mems_in}
use Rattle.lmn_store_heap.specs.Lists.{without, without_all}
use Rattle.lmn_store_heap.proofs.ListLemmas.{in_withouts}
use Rattle.lmn_solid_heads.specs.declared.items.HeadItem.{HeadItem}
use Rattle.lmn_solid_heads.specs.declared.items.HeadItem.TheVariants.{Atom, Typed, Membrane}
use Rattle.lmn_solid_heads.specs.Flattening.{leaf_items}
use Rattle.lmn_solid_heads.specs.Heads.{HeadAtom, HeadTyped, HeadMembrane, atoms_of, membranes_of}
use Rattle.lmn_solid_heads.specs.Embeddings.{Images, Embeds, index_of, positions, ListNotAfter}
use Rattle.lmn_adequacy.specs.Choice.{Before, less_here, less_behind}
use Rattle.lmn_adequacy_heaps.specs.Numbers.{numbers_left}
use Rattle.lmn_adequacy_heaps.specs.Laws.{NumbersLeftInOrder}
use Rattle.lmn_solid_heads.proofs.HeadTrees.{Head, Heads, head, no_head, head_and, size, flat_items, flat_membranes, head_at, items_flat}
use Rattle.lmn_adequacy_heaps.proofs.Walking.{Walk, walk_from, run, run_both, membranes_in_items, flat_size, no_leaf_membrane}
use Rattle.lmn_adequacy_heaps.proofs.Runs.{in_run}
use Rattle.lmn_base.proofs.Lists.{get_below}
use Rattle.lmn_base.proofs.Numbers.{not_equal as apart_test}
use Rattle.lmn_base.specs.Lists.{In}
use Rattle.lmn_solid_heads.proofs.Common.{same_index}

-- ---- places in a list

place_first : (x z : ℕ) (zs : List ℕ) → z ≡ x → index_of x (z ∷ zs) ≡ 0
place_first x z zs e = rw (eq-eqb z x e) refl

place_later : (x z : ℕ) (zs : List ℕ) → z ≢ x → index_of x (z ∷ zs) ≡ suc (index_of x zs)
place_later x z zs d = rw (apart_test z x d) refl

-- without another number the order stays
before_without : (c x y : ℕ) (L : List ℕ) → x ≢ c → y ≢ c → index_of x L < index_of y L → index_of x (without c L) < index_of y (without c L)
before_without c x y [] dx dy l = l
before_without c x y (z ∷ zs) dx dy l = elim (cases_eq z c) [
  | inl e ↦ (let u = place_later x z zs (λ q. dx (sym q ∙ e)) in
      let w = place_later y z zs (λ q. dy (sym q ∙ e)) in
      rw (eq-eqb z c e) (omega (arith, u, w, l)))
  | inr d ↦ rw (apart_test z c d) (elim (cases_eq z x) [
    | inl ex ↦ elim (cases_eq z y) [
      | inl ey ↦ absurd (omega (arith, l, place_first x z zs ex, place_first y z zs ey))
      | inr ny ↦ omega (arith, place_first x z (without c zs) ex, place_later y z (without c zs) ny)
    ]
    | inr nx ↦ elim (cases_eq z y) [
      | inl ey ↦ absurd (omega (arith, l, place_first y z zs ey))
      | inr ny ↦ (let r = before_without c x y zs dx dy (omega (arith, l, place_later x z zs nx, place_later y z zs ny)) in
          omega (arith, r, place_later x z (without c zs) nx, place_later y z (without c zs) ny))
    ]
  ])
]

before_all : (gone : List ℕ) (x y : ℕ) (L : List ℕ) → (In x gone → ⊥) → (In y gone → ⊥) → index_of x L < index_of y L → index_of x (without_all gone L) < index_of y (without_all gone L)
before_all [] x y L dx dy l = l
before_all (c ∷ gone) x y L dx dy l = before_all gone x y (without c L) (λ p. dx (inr p)) (λ p. dy (inr p)) (before_without c x y L (λ e. dx (inl (sym e))) (λ e. dy (inl (sym e))) l)

-- two numbers of a list, among those that are left and in the whole list
module _ (gone : List ℕ) (x y : ℕ) (L : List ℕ) (nx : In x gone → ⊥) (ny : In y gone → ⊥) (px : In x L) (py : In y L) where
  kept_order : index_of x L < index_of y L → index_of x (without_all gone L) < index_of y (without_all gone L)
  kept_order = before_all gone x y L nx ny

  order_back : index_of x (without_all gone L) < index_of y (without_all gone L) → index_of x L < index_of y L
  order_back l = elim (cases_eq (index_of x L) (index_of y L)) [
    | inl e ↦ (let w = ap (λ z. index_of z (without_all gone L)) (same_index x y L e px py) in absurd (omega (arith, w, l)))
    | inr d ↦ by l d
  ]
    where
      by : index_of x (without_all gone L) < index_of y (without_all gone L) → index_of x L ≢ index_of y L → index_of x L < index_of y L
      by l d = elim (cases_eq (index_of y L) (index_of x L)) [ inl e ↦ absurd (d (sym e)) | inr k ↦ less (index_of x L) (index_of y L) d (λ m. let w = before_all gone y x L ny nx m in omega (arith, w, l)) ]
        where
          less : (a b : ℕ) → a ≢ b → (b < a → ⊥) → a < b
          less zero zero n h = absurd (n refl)
          less zero (suc b) n h = omega arith
          less (suc a) zero n h = absurd (h (omega arith))
          less (suc a) (suc b) n h = let u = less a b (λ e. n (ap suc e)) (λ l. h (omega (arith, l))) in omega (arith, u)

  same_left : index_of x (without_all gone L) ≡ index_of y (without_all gone L) → x ≡ y
  same_left e = same_index x y (without_all gone L) e (in_withouts gone L x px nx) (in_withouts gone L y py ny)

-- ---- items whose membrane comes before them

abbrev Fresh : ℕ → List HeadItem → Type 0
Fresh k [] = Unit {0}
Fresh k (Atom fu ls i ∷ xs) = (i < k) × Fresh k xs
Fresh k (Typed x kd l i ∷ xs) = Fresh k xs
Fresh k (Membrane i c cl rc ∷ xs) = (i < k) × Fresh (k + 1) xs

fresh_both : (k : ℕ) (xs ys : List HeadItem) → Fresh k xs → Fresh (k + membranes_in_items xs) ys → Fresh k (xs ++ ys)
fresh_both k [] ys f g = subst (λ z. Fresh z ys) (omega arith) g
fresh_both k (Atom fu ls i ∷ xs) ys f g = (f.0, fresh_both k xs ys f.1 g)
fresh_both k (Typed x kd l i ∷ xs) ys f g = fresh_both k xs ys f g
fresh_both k (Membrane i c cl rc ∷ xs) ys f g = (f.0, fresh_both (k + 1) xs ys f.1 (subst (λ z. Fresh z ys) (omega arith) g))

fresh_leaves : (kind : ℕ → TypeKind) (cur k : ℕ) (ls : List Leaf) → cur < k → Fresh k (leaf_items kind cur ls)
fresh_leaves kind cur k [] l = tt
fresh_leaves kind cur k (leaf.Atom f os p ∷ ls) l = (l, fresh_leaves kind cur k ls l)
fresh_leaves kind cur k (leaf.Typed n o p ∷ ls) l = fresh_leaves kind cur k ls l

mutual
  fresh_level : (kind : ℕ → TypeKind) (cur next : ℕ) (hd : Head) → cur < next → Fresh next (flat_items kind cur next hd)
  fresh_level kind cur next (head leaves hs cs rcs rs) l =
      let first = leaf_items kind cur leaves in
      let z : next ≡ next + membranes_in_items first = omega (arith, no_leaf_membrane kind cur leaves) in
      fresh_both next first (flat_membranes kind cur next hs) (fresh_leaves kind cur next leaves l) (subst (λ k. Fresh k (flat_membranes kind cur next hs)) z (fresh_levels kind cur next hs l))

  fresh_levels : (kind : ℕ → TypeKind) (cur next : ℕ) (hs : Heads) → cur < next → Fresh next (flat_membranes kind cur next hs)
  fresh_levels kind cur next no_head l = tt
  fresh_levels kind cur next (head_and hd hs) l =
      let first = flat_items kind next (next + 1) hd in
      let behind = flat_membranes kind cur (next + 1 + size hd) hs in
      let z : next + 1 + size hd ≡ (next + 1) + membranes_in_items first = omega (arith, flat_size kind next (next + 1) hd) in
      (l, fresh_both (next + 1) first behind (fresh_level kind next (next + 1) hd (omega arith)) (subst (λ k. Fresh k behind) z (fresh_levels kind cur (next + 1 + size hd) hs (omega (arith, l)))))

-- ---- two embeddings

run_more : (f : ℕ → ℕ) (n j : ℕ) → run f n (j + 1) ≡ run f n j ++ f (n + j) ∷ []
run_more f n j = run_both f n j 1

module _ (h : Heap) (f : Images) where
  -- an image stands in its list and is none of the earlier ones
  abbrev pub NewAtom : ℕ → HeadAtom → Type 0
  NewAtom n a = In (f.atom n) (atoms_in h (f.membrane a.inside)) × (In (f.atom n) (run f.atom 0 n) → ⊥)

  abbrev pub NewMembrane : ℕ → HeadMembrane → Type 0
  NewMembrane k a = In (f.membrane k) (mems_in h (f.membrane a.inside)) × ((j : ℕ) → k ≡ 1 + j → In (f.membrane k) (run f.membrane 1 j) → ⊥)

  abbrev pub Any : ℕ → HeadTyped → Type 0
  Any n a = Unit {0}

  all_new : (items : List HeadItem) (guard : List Cond) (m : ℕ) → Embeds h items guard m f → Walk NewAtom Any NewMembrane 0 0 1 items
  all_new items guard m e = walk_from NewAtom Any NewMembrane items 0 0 1
      (λ i a g.
      let z : 0 + i ≡ i = omega arith in
      let low = get_below (atoms_of items) i a g in
      rw z (
        e.lies.atoms_placed i a g,
        λ p.
            let u = in_run f.atom 0 i (f.atom i) p in
            let y : 0 + u.0 ≡ u.0 = omega arith in
            let w = e.lies.atoms_differ u.0 i (omega (arith, u.1, low)) low (ap f.atom (sym y) ∙ u.2) in
            omega (arith, w, u.1),
      ))
      (λ i a g. tt)
      (λ i a g.
      let z : 1 + i ≡ suc i = omega arith in
      let low = get_below (membranes_of items) i a g in (
        e.lies.membranes_placed (1 + i) a (i, z, g),
        λ j q p.
            let u = in_run f.membrane 1 j (f.membrane (1 + i)) p in
            let y : 1 + u.0 ≡ suc u.0 = omega arith in
            let t : j ≡ i = omega (arith, q) in
            let w = e.lies.membranes_differ u.0 i (let s = u.1 in omega (arith, s, low, t)) low (ap f.membrane (sym y) ∙ u.2 ∙ ap f.membrane z) in
            let s = u.1 in
            omega (arith, w, s, t),
      ))

module _ (h : Heap) (f g : Images) where
  ordered : (xs : List HeadItem) (n t k j : ℕ) (gone out : List ℕ) → k ≡ 1 + j → Fresh k xs → Walk (NewAtom h f) (Any h f) (NewMembrane h f) n t k xs → Walk (NewAtom h g) (Any h g) (NewMembrane h g) n t k xs →
      gone ≡ run f.atom 0 n → gone ≡ run g.atom 0 n → out ≡ run f.membrane 1 j → out ≡ run g.membrane 1 j → ((i : ℕ) → i < k → f.membrane i ≡ g.membrane i) →
      ListNotAfter (positions h f n k xs) (positions h g n k xs) ↔ ListNotAfter (numbers_left h f n k gone out xs) (numbers_left h g n k gone out xs)
  ordered [] n t k j gone out ek fr u w ga gb oa ob same = ((λ x. x), (λ x. x))
  ordered (Typed x kd l i ∷ xs) n t k j gone out ek fr u w ga gb oa ob same = ordered xs n (t + 1) k j gone out ek fr u.1 w.1 ga gb oa ob same
  ordered (Atom fu ls i ∷ xs) n t k j gone out ek fr u w ga gb oa ob same =
      let a = f.atom n in
      let b = g.atom n in
      let L = atoms_in h (f.membrane i) in
      let e : L ≡ atoms_in h (g.membrane i) = ap (atoms_in h) (same i fr.0) in
      let pb = subst (In b) (sym e) w.0.0 in
      let na : In a gone → ⊥ = λ p. u.0.1 (subst (In a) ga p) in
      let nb : In b gone → ⊥ = λ p. w.0.1 (subst (In b) gb p) in
      let z : 0 + n ≡ n = omega arith in
      let more : (ab : a ≡ b) → ListNotAfter (positions h f (n + 1) k xs) (positions h g (n + 1) k xs) ↔ ListNotAfter (numbers_left h f (n + 1) k (gone ++ a ∷ []) out xs) (numbers_left h g (n + 1) k (gone ++ a ∷ []) out xs) = λ ab.
      ordered xs (n + 1) t k j (gone ++ a ∷ []) out ek fr.1 u.1 w.1
      ((λ q. ga q ++ f.atom (sym z q) ∷ []) ∙ sym (run_more f.atom 0 n)) ((λ q. gb q ++ ab q ∷ []) ∙ (λ q. run g.atom 0 n ++ g.atom (sym z q) ∷ []) ∙ sym (run_more g.atom 0 n)) oa ob same in
      let tail = numbers_left h g (n + 1) k in (
        (λ s. elim s [
          | inl l ↦ inl (let y : index_of a L < index_of b L = subst (λ M. index_of a L < index_of b M) (sym e) l in subst (λ M. index_of a (without_all gone L) < index_of b (without_all gone M)) e (kept_order gone a b L na nb u.0.0 pb y))
          | inr q ↦ (let y : index_of a L ≡ index_of b L = q.0 ∙ ap (index_of b) (sym e) in
              let ab = same_index a b L y u.0.0 pb in
              inr ((λ r. index_of (ab r) (without_all gone (e r))), subst (λ c. ListNotAfter (numbers_left h f (n + 1) k (gone ++ a ∷ []) out xs) (tail (gone ++ c ∷ []) out xs)) ab ((more ab).0 q.1)))
        ]),
        (λ s. elim s [
          | inl l ↦ inl (let y = subst (λ M. index_of a (without_all gone L) < index_of b (without_all gone M)) (sym e) l in subst (λ M. index_of a L < index_of b M) e (order_back gone a b L na nb u.0.0 pb y))
          | inr q ↦ (let y : index_of a (without_all gone L) ≡ index_of b (without_all gone L) = q.0 ∙ ap (λ M. index_of b (without_all gone M)) (sym e) in
              let ab = same_left gone a b L na nb u.0.0 pb y in
              inr ((λ r. index_of (ab r) (e r)), (more ab).1 (subst (λ c. ListNotAfter (numbers_left h f (n + 1) k (gone ++ a ∷ []) out xs) (tail (gone ++ c ∷ []) out xs)) (sym ab) q.1)))
        ]),
      )
  ordered (Membrane i c cl rc ∷ xs) n t k j gone out ek fr u w ga gb oa ob same =
      let a = f.membrane k in
      let b = g.membrane k in
      let L = mems_in h (f.membrane i) in
      let e : L ≡ mems_in h (g.membrane i) = ap (mems_in h) (same i fr.0) in
      let pb = subst (In b) (sym e) w.0.0 in
      let na : In a out → ⊥ = λ p. u.0.1 j ek (subst (In a) oa p) in
      let nb : In b out → ⊥ = λ p. w.0.1 j ek (subst (In b) ob p) in
      let agree : a ≡ b → (i : ℕ) → i < k + 1 → f.membrane i ≡ g.membrane i = λ ab i l. elim (cases_eq i k) [ inl q ↦ ap f.membrane q ∙ ab ∙ ap g.membrane (sym q) | inr d ↦ same i (omega (arith, l, d)) ] in
      let more : (ab : a ≡ b) → ListNotAfter (positions h f n (k + 1) xs) (positions h g n (k + 1) xs) ↔ ListNotAfter (numbers_left h f n (k + 1) gone (out ++ a ∷ []) xs) (numbers_left h g n (k + 1) gone (out ++ a ∷ []) xs) = λ ab.
      ordered xs n t (k + 1) (j + 1) gone (out ++ a ∷ []) (omega (arith, ek)) fr.1 u.1 w.1 ga gb
      ((λ q. oa q ++ f.membrane (ek q) ∷ []) ∙ sym (run_more f.membrane 1 j)) ((λ q. ob q ++ ab q ∷ []) ∙ (λ q. run g.membrane 1 j ++ g.membrane (ek q) ∷ []) ∙ sym (run_more g.membrane 1 j)) (agree ab) in
      let tail = numbers_left h g n (k + 1) in (
        (λ s. elim s [
          | inl l ↦ inl (let y : index_of a L < index_of b L = subst (λ M. index_of a L < index_of b M) (sym e) l in subst (λ M. index_of a (without_all out L) < index_of b (without_all out M)) e (kept_order out a b L na nb u.0.0 pb y))
          | inr q ↦ (let y : index_of a L ≡ index_of b L = q.0 ∙ ap (index_of b) (sym e) in
              let ab = same_index a b L y u.0.0 pb in
              inr ((λ r. index_of (ab r) (without_all out (e r))), subst (λ c. ListNotAfter (numbers_left h f n (k + 1) gone (out ++ a ∷ []) xs) (tail gone (out ++ c ∷ []) xs)) ab ((more ab).0 q.1)))
        ]),
        (λ s. elim s [
          | inl l ↦ inl (let y = subst (λ M. index_of a (without_all out L) < index_of b (without_all out M)) (sym e) l in subst (λ M. index_of a L < index_of b M) e (order_back out a b L na nb u.0.0 pb y))
          | inr q ↦ (let y : index_of a (without_all out L) ≡ index_of b (without_all out L) = q.0 ∙ ap (λ M. index_of b (without_all out M)) (sym e) in
              let ab = same_left out a b L na nb u.0.0 pb y in
              inr ((λ r. index_of (ab r) (e r)), (more ab).1 (subst (λ c. ListNotAfter (numbers_left h f n (k + 1) gone (out ++ a ∷ []) xs) (tail gone (out ++ c ∷ []) xs)) (sym ab) q.1)))
        ]),
      )

-- positions and numbers of two embeddings stand in the same order
pub numbers_ordered : NumbersLeftInOrder
numbers_ordered h kind l guard m f g ef eg =
    let e = items_flat kind l in
    let items = flat_items kind 0 1 (head_at l) in
    let zero_same : (i : ℕ) → i < 1 → f.membrane i ≡ g.membrane i = λ i k. let z : i ≡ 0 = omega (arith, k) in ap f.membrane z ∙ ef.lies.here ∙ sym eg.lies.here ∙ ap g.membrane (sym z) in
    subst (λ xs. ListNotAfter (positions h f 0 1 xs) (positions h g 0 1 xs) ↔ ListNotAfter (numbers_left h f 0 1 [] [] xs) (numbers_left h g 0 1 [] [] xs)) (sym e)
    (ordered h f g items 0 0 1 0 [] [] (omega arith) (fresh_level kind 0 1 (head_at l) (omega arith))
    (all_new h f items guard m (subst (λ xs. Embeds h xs guard m f) e ef)) (all_new h g items guard m (subst (λ xs. Embeds h xs guard m g) e eg)) refl refl refl refl zero_same)

-- ---- the order of lists of one length

-- of two lists of one length, one that isn't after the other is it or before it
pub not_after_is : (xs ys : List ℕ) → length xs ≡ length ys → ListNotAfter xs ys → (xs ≡ ys) ⊎ Before xs ys
not_after_is [] [] e n = inl refl
not_after_is [] (y ∷ ys) e n = absurd (omega (arith, e))
not_after_is (x ∷ xs) [] e n = absurd n
not_after_is (x ∷ xs) (y ∷ ys) e (inl l) = inr (less_here l)
not_after_is (x ∷ xs) (y ∷ ys) e (inr r) = elim (not_after_is xs ys (omega (arith, e)) r.1) [
  | inl s ↦ inl (λ i. r.0 i ∷ s i)
  | inr b ↦ inr (subst (λ z. Before (x ∷ xs) (z ∷ ys)) r.0 (less_behind b))
]

same_not_after : (xs : List ℕ) → ListNotAfter xs xs
same_not_after [] = tt
same_not_after (x ∷ xs) = inr (refl, same_not_after xs)

before_not_after : {xs ys : List ℕ} → Before xs ys → ListNotAfter xs ys
before_not_after (less_here l) = inl l
before_not_after (less_behind b) = inr (refl, before_not_after b)

-- and back
pub is_not_after : (xs ys : List ℕ) → (xs ≡ ys) ⊎ Before xs ys → ListNotAfter xs ys
is_not_after xs ys (inl e) = subst (ListNotAfter xs) e (same_not_after xs)
is_not_after xs ys (inr b) = before_not_after b

-- a head has as many numbers in each embedding
pub numbers_length : (h : Heap) (f g : Images) (n k : ℕ) (as' ms bs ks : List ℕ) (xs : List HeadItem) → length (numbers_left h f n k as' ms xs) ≡ length (numbers_left h g n k bs ks xs)
numbers_length h f g n k as' ms bs ks [] = refl
numbers_length h f g n k as' ms bs ks (Atom fu ls i ∷ xs) = ap suc (numbers_length h f g (n + 1) k (as' ++ f.atom n ∷ []) ms (bs ++ g.atom n ∷ []) ks xs)
numbers_length h f g n k as' ms bs ks (Typed x kd l i ∷ xs) = numbers_length h f g n k as' ms bs ks xs
numbers_length h f g n k as' ms bs ks (Membrane i c cl rc ∷ xs) = ap suc (numbers_length h f g n (k + 1) as' (ms ++ f.membrane k ∷ []) bs (ks ++ g.membrane k ∷ []) xs)
