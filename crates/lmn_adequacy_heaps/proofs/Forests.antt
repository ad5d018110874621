-- Forests of a heap: their first membranes, what is taken out of them, and what stands within a membrane.
use Rattle.std.proofs.Common.{ℕ, zero, suc, ◌≡◌, ◌≢◌, ◌+◌, ◌≤◌, List, [], ◌∷◌, ◌++◌, Option, Some, None, refl, sym, ap, subst, ◌∙◌, inl, inr, arith}
use Rattle.std.proofs.lemmas.Bool.{cases_eq}
use Rattle.std.specs.Option.{option_map, option_and_then}
use Rattle.lmn_store_heap.specs.Heap.{Heap, HeapAtom, HeapMem, IsAtom, Place, top, within, waiting, gone, home_by, atoms_in, mems_in, home_of, parent_of, mem_place_of}
use Rattle.lmn_store_heap.specs.Lists.{Distinct}
use Rattle.lmn_store_heap.specs.Conditions.{Above}
use Rattle.lmn_store_heap.specs.Sound.{Forest, bare, mem, flat, Forms, Valid}
use Rattle.lmn_store_heap.proofs.ListLemmas.{each_in, each_of, in_left, in_right}
use Rattle.lmn_store_heap.proofs.Heights.{parent_is, above_more}
use Rattle.lmn_congruence.specs.Links.{places}
use Rattle.lmn_solid_heads.specs.Embeddings.{StandsWithin}
use Rattle.lmn_adequacy_heaps.proofs.Counting.{forest_atoms, tree_atoms, list_atoms}
use Rattle.lmn_adequacy_heaps.proofs.Lying.{TakenTree, tree_first, tree_later}
use Rattle.lmn_congruence.proofs.Counts.{none_if_apart as apart_none, one_if_equal as same_one}
use Rattle.lmn_congruence.proofs.TranslatedLinks.{places_append as places_both}
use Rattle.lmn_store_heap.proofs.Common.{place_home as home_at}
use Rattle.lmn_base.specs.Lists.{In}
use Rattle.std.specs.List.{AllByRecursion}
use Rattle.lmn_base.proofs.Lists.{in_either, plus_nothing}

-- the membranes that stand first in a forest
abbrev pub tops : Forest → List ℕ
tops bare = []
tops (mem m i f) = m ∷ tops f

-- each membrane of the forest has its own forest inside
abbrev pub Grown : Heap → Forest → Type 0
Grown h bare = Unit {0}
Grown h (mem m i f) = ((tops i ≡ mems_in h m) × Grown h i) × Grown h f

-- a forest that a list forms has the list for its tops
pub forms_tops : (h : Heap) (f : Forest) (ms : List ℕ) → Forms h f ms → tops f ≡ ms
forms_tops h bare ms F = sym F
forms_tops h (mem m i f) ms F = ap (λ xs. m ∷ xs) (forms_tops h f F.0 F.3) ∙ sym F.1

-- and each of its trees has the membranes of its list
pub forms_grown : (h : Heap) (f : Forest) (ms : List ℕ) → Forms h f ms → Grown h f
forms_grown h bare ms F = tt
forms_grown h (mem m i f) ms F = ((forms_tops h i (mems_in h m) F.2, forms_grown h i (mems_in h m) F.2), forms_grown h f F.0 F.3)

-- ---- taking a tree out

-- a tree of a forest, and where it stands
pub record Picked (m : ℕ) (f : Forest) : Type 0 where
  pub place : ℕ
  pub inner : Forest
  pub others : Forest
  pub taken : TakenTree place m inner f others

-- each top has a tree
pub pick : (m : ℕ) (f : Forest) → In m (tops f) → Picked m f
pick m bare p = absurd p
pick m (mem k i f) (inl e) = subst (λ z. Picked z (mem k i f)) e (record { place = 0; inner = i; others = f; taken = tree_first })
pick m (mem k i f) (inr p) = let u = pick m f p in record { place = suc u.place; inner = u.inner; others = mem k i u.others; taken = tree_later u.taken }

-- what is taken out of a grown forest is grown, and so is what is left
pub taken_grown : (h : Heap) {n m : ℕ} {i f f' : Forest} → TakenTree n m i f f' → Grown h f → ((tops i ≡ mems_in h m) × Grown h i) × Grown h f'
taken_grown h tree_first g = g
taken_grown h (tree_later t) g = let u = taken_grown h t g.1 in (u.0, (g.0, u.1))

-- another top is left
pub taken_others : {n m : ℕ} {i f f' : Forest} → TakenTree n m i f f' → (b : ℕ) → In b (tops f) → m ≢ b → In b (tops f')
taken_others tree_first b (inl e) d = absurd (d e)
taken_others tree_first b (inr p) d = p
taken_others (tree_later t) b (inl e) d = inl e
taken_others (tree_later t) b (inr p) d = inr (taken_others t b p d)

-- what is left was there
pub taken_before : {n m : ℕ} {i f f' : Forest} → TakenTree n m i f f' → (b : ℕ) → In b (tops f') → In b (tops f)
taken_before tree_first b p = inr p
taken_before (tree_later t) b (inl e) = inl e
taken_before (tree_later t) b (inr p) = inr (taken_before t b p)

-- what is taken was there
pub taken_top : {n m : ℕ} {i f f' : Forest} → TakenTree n m i f f' → In m (tops f)
taken_top tree_first = inl refl
taken_top (tree_later t) = inr (taken_top t)

-- a top is a membrane of the forest
pub tops_flat : (f : Forest) (b : ℕ) → In b (tops f) → In b (flat f)
tops_flat bare b p = p
tops_flat (mem m i f) b (inl e) = inl e
tops_flat (mem m i f) b (inr p) = inr (in_right b (flat i) (flat f) (tops_flat f b p))

-- ---- places

-- what isn't in a list has no place in it
pub none_of : (b : ℕ) (xs : List ℕ) → (In b xs → ⊥) → places b xs ≡ 0
none_of b [] d = refl
none_of b (x ∷ xs) d = omega (arith, apart_none b x (λ e. d (inl (sym e))), none_of b xs (λ p. d (inr p)))

-- what is in a list has a place in it
pub some_of : (b : ℕ) (xs : List ℕ) → In b xs → 1 ≤ places b xs
some_of b [] i = absurd i
some_of b (x ∷ xs) (inl e) = omega (arith, same_one b x (sym e))
some_of b (x ∷ xs) (inr i) = omega (arith, some_of b xs i)

-- what has a place in a list is in it
pub find_in : (b : ℕ) (xs : List ℕ) → 1 ≤ places b xs → In b xs
find_in b [] h = absurd (omega (arith, h))
find_in b (x ∷ xs) h = elim (cases_eq b x) [
  | inl e ↦ inl (sym e)
  | inr d ↦ inr (find_in b xs (omega (arith, h, apart_none b x d)))
]

-- in a list without repetition each has at most one place
pub once_of : (b : ℕ) (xs : List ℕ) → Distinct xs → places b xs ≤ 1
once_of b [] d = omega arith
once_of b (x ∷ xs) d = elim (cases_eq b x) [
  | inl e ↦ omega (arith, same_one b x e, none_of b xs (λ p. each_in (λ y. x ≢ y) xs b d.0 p (sym e)))
  | inr k ↦ omega (arith, apart_none b x k, once_of b xs d.1)
]

-- a list in which each has at most one place has no repetition
pub distinct_of : (xs : List ℕ) → ((b : ℕ) → places b xs ≤ 1) → Distinct xs
distinct_of [] h = tt
distinct_of (x ∷ xs) h = (
  others xs (λ p. let u = h x in let w = some_of x xs p in omega (arith, u, w, same_one x x refl)),
  distinct_of xs (λ b. let u = h b in omega (arith, u)),
)
  where
    others : (ys : List ℕ) → (In x ys → ⊥) → AllByRecursion (λ y. x ≢ y) ys
    others [] n = tt
    others (y ∷ ys) n = ((λ e. n (inl (sym e))), others ys (λ p. n (inr p)))

places_taken : {n m : ℕ} {i f f' : Forest} → TakenTree n m i f f' → (b : ℕ) → places b (flat f) ≡ places b (flat (mem m i bare)) + places b (flat f')
places_taken (tree_first {m = m} {i = i} {f = f}) b = omega (arith, places_both b (flat i) (flat f), places_both b (flat i) [])
places_taken (tree_later {k = k} {j = j} {f = f} {f' = f'} t) b = omega (arith, places_taken t b, places_both b (flat j) (flat f), places_both b (flat j) (flat f'))

-- trees of a forest without repetition have none
pub taken_distinct : {n m : ℕ} {i f f' : Forest} → TakenTree n m i f f' → Distinct (flat f) → Distinct (flat (mem m i bare)) × Distinct (flat i) × Distinct (flat f')
taken_distinct {m = m} {i = i} {f = f} {f' = f'} t d =
    let u = distinct_of (flat (mem m i bare)) (λ b. omega (arith, places_taken t b, once_of b (flat f) d)) in
    (u, subst Distinct (plus_nothing (flat i)) u.1, distinct_of (flat f') (λ b. omega (arith, places_taken t b, once_of b (flat f) d)))

-- ---- homes

module _ (h : Heap) (v : Valid h) where
  -- an atom of a membrane's list is at home there
  pub home_in : (m a : ℕ) → In a (atoms_in h m) → home_of h a ≡ Some m
  home_in m a p = home_at h a m ((v.sound.listed.atoms m a).0 p)

  -- an atom stands in one list
  pub one_home : (m n a : ℕ) → In a (atoms_in h m) → In a (atoms_in h n) → m ≡ n
  one_home m n a p q = let e : Some m ≡ Some n = sym (home_in m a p) ∙ home_in n a q in cc

  -- an atom of one home stands at most as often as its home
  atom_once : (q a : ℕ) → In a (atoms_in h q) → (f : Forest) → places a (forest_atoms h f) ≤ places q (flat f)
  atom_once q a p bare = omega arith
  atom_once q a p (mem m i f) =
      let u = atom_once q a p i in
      let w = atom_once q a p f in
      let s = places_both a (atoms_in h m ++ forest_atoms h i) (forest_atoms h f) in
      let s' = places_both a (atoms_in h m) (forest_atoms h i) in
      let z = places_both q (flat i) (flat f) in
      elim (cases_eq q m) [
        | inl e ↦ omega (arith, u, w, s, s', z, same_one q m e, once_of a (atoms_in h m) (v.sound.listed.atoms_once m))
        | inr d ↦ omega (arith, u, w, s, s', z, none_of a (atoms_in h m) (λ k. d (one_home q m a p k)))
      ]

  no_home : (f : Forest) (a : ℕ) → In a (forest_atoms h f) → (q : ℕ) × In a (atoms_in h q)
  no_home bare a p = absurd p
  no_home (mem m i f) a p = elim (in_either a (atoms_in h m ++ forest_atoms h i) (forest_atoms h f) p) [
    | inl s ↦ elim (in_either a (atoms_in h m) (forest_atoms h i) s) [ inl k ↦ (m, k) | inr k ↦ no_home i a k ]
    | inr s ↦ no_home f a s
  ]

  -- each atom stands once in a forest of distinct membranes
  pub atoms_once : (f : Forest) → Distinct (flat f) → (a : ℕ) → places a (forest_atoms h f) ≤ 1
  atoms_once f d a = elim (cases_eq (places a (forest_atoms h f)) 0) [
    | inl e ↦ omega (arith, e)
    | inr k ↦ (let q = no_home f a (find_in a (forest_atoms h f) (omega (arith, k))) in
        let u = atom_once q.0 a q.1 f in
        let w = once_of q.0 (flat f) d in
        omega (arith, u, w))
  ]

  -- what stands in the forest of a membrane is within it
  forest_within : (m : ℕ) (f : Forest) → ((b : ℕ) → In b (tops f) → In b (mems_in h m)) → Grown h f → (a : ℕ) → In a (forest_atoms h f) → StandsWithin h a m
  forest_within m bare t g a p = absurd p
  forest_within m (mem c i f) t g a p = elim (in_either a (atoms_in h c ++ forest_atoms h i) (forest_atoms h f) p) [
    | inl s ↦ elim (in_either a (atoms_in h c) (forest_atoms h i) s) [
      | inl k ↦ (c, 1, home_in c a k, (m, parent_is h v.sound.listed c m (t c (inl refl)), refl))
      | inr k ↦ (let w = forest_within c i (λ b q. subst (In b) g.0.0 q) g.0.1 a k in (w.0, suc w.1, w.2, above_more h w.1 m c w.0 (parent_is h v.sound.listed c m (t c (inl refl))) w.3))
    ]
    | inr s ↦ forest_within m f (λ b q. t b (inr q)) g.1 a s
  ]

  -- an atom of a tree is within its membrane
  pub tree_within : (m : ℕ) (i : Forest) → tops i ≡ mems_in h m → Grown h i → (a : ℕ) → In a (tree_atoms h m i) → StandsWithin h a m
  tree_within m i e g a p = elim (in_either a (atoms_in h m) (forest_atoms h i) p) [
    | inl k ↦ (m, 0, home_in m a k, refl)
    | inr k ↦ forest_within m i (λ b q. subst (In b) e q) g a k
  ]

  -- an atom of a forest is within one of its first membranes
  pub within_top : (f : Forest) → Grown h f → (a : ℕ) → In a (forest_atoms h f) → (c : ℕ) × In c (tops f) × StandsWithin h a c
  within_top bare g a p = absurd p
  within_top (mem c i f) g a p = elim (in_either a (atoms_in h c ++ forest_atoms h i) (forest_atoms h f) p) [
    | inl s ↦ (c, inl refl, tree_within c i g.0.0 g.0.1 a s)
    | inr s ↦ (let w = within_top f g.1 a s in (w.0, inr w.1, w.2))
  ]

  -- ---- and the other way

  is_within : (h' : Heap) (n m : ℕ) → parent_of h' n ≡ Some m → mem_place_of h' n ≡ Some (within m)
  is_within h' n m e = by (h'.mems n) e
    where
      placed : (p : Place) → home_by p ≡ Some m → p ≡ within m
      placed top q = absurd (cc)
      placed (within k) q = let w : k ≡ m = cc in ap within w
      placed waiting q = absurd (cc)
      placed gone q = absurd (cc)

      by : (o : Option HeapMem) → option_and_then (λ x. home_by x.place) o ≡ Some m → option_map (λ x. x.place) o ≡ Some (within m)
      by None q = absurd (cc)
      by (Some x) q = ap Some (placed x.place q)

  -- an atom at home in a membrane stands in its list
  pub in_place : (a m : ℕ) → home_of h a ≡ Some m → In a (atoms_in h m)
  in_place a m e = (v.sound.listed.atoms m a).1 (by (h.atoms a) e)
    where
      placed : (p : Place) → home_by p ≡ Some m → p ≡ within m
      placed top q = absurd (cc)
      placed (within k) q = let w : k ≡ m = cc in ap within w
      placed waiting q = absurd (cc)
      placed gone q = absurd (cc)

      by : (o : Option HeapAtom) → option_and_then (λ x. home_by x.place) o ≡ Some m → option_map (λ x. x.place) o ≡ Some (within m)
      by None q = absurd (cc)
      by (Some x) q = ap Some (placed x.place q)

  -- a membrane stands in the list of its parent
  pub child_in : (n m : ℕ) → parent_of h n ≡ Some m → In n (mems_in h m)
  child_in n m e = (v.sound.listed.mems m n).1 (is_within h n m e)

  -- what stands in a membrane of the forest stands in the forest
  forest_child : (f : Forest) → Grown h f → (q x : ℕ) → In q (flat f) → In x (mems_in h q) → In x (flat f)
  forest_child bare g q x p i = absurd p
  forest_child (mem m i f) g q x (inl e) p = inr (in_left x (flat i) (flat f) (tops_flat i x (subst (In x) (sym g.0.0) (subst (λ z. In x (mems_in h z)) (sym e) p))))
  forest_child (mem m i f) g q x (inr j) p = elim (in_either q (flat i) (flat f) j) [
    | inl w ↦ inr (in_left x (flat i) (flat f) (forest_child i g.0.1 q x w p))
    | inr w ↦ inr (in_right x (flat i) (flat f) (forest_child f g.1 q x w p))
  ]

  -- an atom of a membrane of a forest is one of the forest
  pub forest_atom : (f : Forest) (q a : ℕ) → In q (flat f) → In a (atoms_in h q) → In a (forest_atoms h f)
  forest_atom bare q a p i = absurd p
  forest_atom (mem m i f) q a (inl e) p =
      in_left a (atoms_in h m ++ forest_atoms h i) (forest_atoms h f) (in_left a (atoms_in h m) (forest_atoms h i) (subst (λ z. In a (atoms_in h z)) (sym e) p))
  forest_atom (mem m i f) q a (inr j) p = elim (in_either q (flat i) (flat f) j) [
    | inl w ↦ in_left a (atoms_in h m ++ forest_atoms h i) (forest_atoms h f) (in_right a (atoms_in h m) (forest_atoms h i) (forest_atom i q a w p))
    | inr w ↦ in_right a (atoms_in h m ++ forest_atoms h i) (forest_atoms h f) (forest_atom f q a w p)
  ]

  -- what is below a membrane of a forest is in the forest
  pub below_in : (f : Forest) (m : ℕ) → Grown h f → In m (flat f) → (k n : ℕ) → Above h k m n → In n (flat f)
  below_in f m g p zero n a = subst (λ z. In z (flat f)) (sym a) p
  below_in f m g p (suc k) n a = forest_child f g a.0 n (below_in f m g p k a.0 a.2) (child_in n a.0 a.1)

  -- what is within a first membrane of a forest is an atom of the forest
  pub top_within : (f : Forest) → Grown h f → (c a : ℕ) → In c (tops f) → StandsWithin h a c → In a (forest_atoms h f)
  top_within f g c a p w = forest_atom f w.0 a (below_in f c g (tops_flat f c p) w.1 w.0 w.3) (in_place a w.0 w.2)

  -- what is within a membrane is an atom of its tree
  pub within_tree : (m : ℕ) (i : Forest) → tops i ≡ mems_in h m → Grown h i → (a : ℕ) → StandsWithin h a m → In a (tree_atoms h m i)
  within_tree m i e g a w =
      let q = below_in (mem m i bare) m ((e, g), tt) (inl refl) w.1 w.0 w.3 in
      elim (in_either a (atoms_in h m ++ forest_atoms h i) [] (forest_atom (mem m i bare) w.0 a q (in_place a w.0 w.2))) [ inl k ↦ k | inr k ↦ absurd k ]

  -- each atom stands once in a tree
  pub tree_once : (m : ℕ) (i : Forest) → Distinct (flat (mem m i bare)) → (a : ℕ) → places a (tree_atoms h m i) ≤ 1
  tree_once m i d a = let u = atoms_once (mem m i bare) d a in omega (arith, u, places_both a (tree_atoms h m i) [])

  -- all that a forest holds are atoms
  pub each_forest : (f : Forest) → AllByRecursion (IsAtom h) (forest_atoms h f)
  each_forest f = each_of (IsAtom h) (forest_atoms h f) (λ a p. let q = no_home f a p in each_in (IsAtom h) (atoms_in h q.0) a (list_atoms h v q.0) q.1)

  -- all that a tree holds are atoms
  pub each_tree : (m : ℕ) (i : Forest) → AllByRecursion (IsAtom h) (tree_atoms h m i)
  each_tree m i = each_of (IsAtom h) (tree_atoms h m i) (λ a p. elim (in_either a (atoms_in h m) (forest_atoms h i) p) [
    | inl k ↦ each_in (IsAtom h) (atoms_in h m) a (list_atoms h v m) k
    | inr k ↦ each_in (IsAtom h) (forest_atoms h i) a (each_forest i) k
  ])
