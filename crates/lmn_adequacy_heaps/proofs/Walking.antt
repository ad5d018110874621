-- What holds of each item of a head, by its number: item by item, and for all numbers.
use Rattle.std.proofs.Common.{ℕ, zero, suc, ◌≡◌, ◌+◌, ◌<◌, ◌≤◌, List, [], ◌∷◌, ◌++◌, length, Some, refl, ap, subst, ◌∙◌, arith}
use Rattle.std.specs.Prelude.{slice_get}
use Rattle.std.proofs.lemmas.Option.{same_Some}
use Rattle.lmn_base.specs.declared.level.Leaf.{Leaf}
use Rattle.lmn_base.specs.declared.level.Leaf.TheVariants as leaf
use Rattle.lmn_guards.specs.declared.plan.TypeKind.{TypeKind}
use Rattle.lmn_solid_heads.specs.declared.items.HeadItem.{HeadItem}
use Rattle.lmn_solid_heads.specs.declared.items.HeadItem.TheVariants.{Atom, Typed, Membrane}
use Rattle.lmn_solid_heads.specs.Flattening.{leaf_items}
use Rattle.lmn_solid_heads.specs.Heads.{HeadAtom, HeadTyped, HeadMembrane, atoms_of, typed_contexts_of, membranes_of}
use Rattle.lmn_solid_heads.proofs.HeadTrees.{Head, Heads, head, no_head, head_and, size, sizes, flat_items, flat_membranes}

-- how many atoms some items have
abbrev pub atoms_in_items : List HeadItem → ℕ
atoms_in_items xs = length (atoms_of xs)

-- how many typed contexts
abbrev pub typed_in_items : List HeadItem → ℕ
typed_in_items xs = length (typed_contexts_of xs)

-- how many membranes
abbrev pub membranes_in_items : List HeadItem → ℕ
membranes_in_items xs = length (membranes_of xs)

module _ (A : ℕ → HeadAtom → Type 0) (T : ℕ → HeadTyped → Type 0) (M : ℕ → HeadMembrane → Type 0) where
  -- the first atom has the number n, the first typed context t, the first membrane k
  abbrev pub Walk : ℕ → ℕ → ℕ → List HeadItem → Type 0
  Walk n t k [] = Unit {0}
  Walk n t k (Atom functor links inside ∷ xs) = A n (record { functor = functor; links = links; inside = inside }) × Walk (n + 1) t k xs
  Walk n t k (Typed name kind link inside ∷ xs) = T t (record { name = name; kind = kind; link = link; inside = inside }) × Walk n (t + 1) k xs
  Walk n t k (Membrane inside c cl rc ∷ xs) = M k (record { inside = inside; has_context = c; has_closed_context = cl; has_rule_context = rc }) × Walk n t (k + 1) xs

  walk_at : {n t k n' t' k' : ℕ} (xs : List HeadItem) → n ≡ n' → t ≡ t' → k ≡ k' → Walk n t k xs → Walk n' t' k' xs
  walk_at {n} {t} {k} {n'} {t'} {k'} xs e f g w = subst (λ z. Walk z t' k' xs) e (subst (λ z. Walk n z k' xs) f (subst (λ z. Walk n t z xs) g w))

  -- what holds of items in a row holds of the first and of the later ones
  pub walk_split : (xs ys : List HeadItem) (n t k : ℕ) → Walk n t k (xs ++ ys) →
      Walk n t k xs × Walk (n + atoms_in_items xs) (t + typed_in_items xs) (k + membranes_in_items xs) ys
  walk_split [] ys n t k w = (tt, walk_at ys (omega arith) (omega arith) (omega arith) w)
  walk_split (Atom f ls i ∷ xs) ys n t k w = let u = walk_split xs ys (n + 1) t k w.1 in ((w.0, u.0), walk_at ys (omega arith) refl refl u.1)
  walk_split (Typed x y l i ∷ xs) ys n t k w = let u = walk_split xs ys n (t + 1) k w.1 in ((w.0, u.0), walk_at ys refl (omega arith) refl u.1)
  walk_split (Membrane i c cl rc ∷ xs) ys n t k w = let u = walk_split xs ys n t (k + 1) w.1 in ((w.0, u.0), walk_at ys refl refl (omega arith) u.1)

  -- and back
  pub walk_join : (xs ys : List HeadItem) (n t k : ℕ) → Walk n t k xs → Walk (n + atoms_in_items xs) (t + typed_in_items xs) (k + membranes_in_items xs) ys → Walk n t k (xs ++ ys)
  walk_join [] ys n t k u w = walk_at ys (omega arith) (omega arith) (omega arith) w
  walk_join (Atom f ls i ∷ xs) ys n t k u w = (u.0, walk_join xs ys (n + 1) t k u.1 (walk_at ys (omega arith) refl refl w))
  walk_join (Typed x y l i ∷ xs) ys n t k u w = (u.0, walk_join xs ys n (t + 1) k u.1 (walk_at ys refl (omega arith) refl w))
  walk_join (Membrane i c cl rc ∷ xs) ys n t k u w = (u.0, walk_join xs ys n t (k + 1) u.1 (walk_at ys refl refl (omega arith) w))

  -- what holds of each item by its number holds along the items
  pub walk_from : (xs : List HeadItem) (n t k : ℕ) → ((i : ℕ) (a : HeadAtom) → slice_get (atoms_of xs) i ≡ Some a → A (n + i) a)
      → ((i : ℕ) (a : HeadTyped) → slice_get (typed_contexts_of xs) i ≡ Some a → T (t + i) a)
      → ((i : ℕ) (a : HeadMembrane) → slice_get (membranes_of xs) i ≡ Some a → M (k + i) a) → Walk n t k xs
  walk_from [] n t k f g m = tt
  walk_from (Atom fu ls j ∷ xs) n t k f g m = (
    subst (λ z. A z (record { functor = fu; links = ls; inside = j })) (omega arith) (f 0 (record { functor = fu; links = ls; inside = j }) refl),
    walk_from xs (n + 1) t k (λ i a e. subst (λ z. A z a) (omega arith) (f (suc i) a e)) g m,
  )
  walk_from (Typed x y l j ∷ xs) n t k f g m = (
    subst (λ z. T z (record { name = x; kind = y; link = l; inside = j })) (omega arith) (g 0 (record { name = x; kind = y; link = l; inside = j }) refl),
    walk_from xs n (t + 1) k f (λ i a e. subst (λ z. T z a) (omega arith) (g (suc i) a e)) m,
  )
  walk_from (Membrane j c cl rc ∷ xs) n t k f g m = (
    subst (λ z. M z (record { inside = j; has_context = c; has_closed_context = cl; has_rule_context = rc })) (omega arith) (m 0 (record { inside = j; has_context = c; has_closed_context = cl; has_rule_context = rc }) refl),
    walk_from xs n t (k + 1) f g (λ i a e. subst (λ z. M z a) (omega arith) (m (suc i) a e)),
  )

  -- and back, for an atom
  pub walk_atom : (xs : List HeadItem) (n t k : ℕ) → Walk n t k xs → (i : ℕ) (a : HeadAtom) → slice_get (atoms_of xs) i ≡ Some a → A (n + i) a
  walk_atom [] n t k w i a e = absurd (cc)
  walk_atom (Atom fu ls j ∷ xs) n t k w zero a e =
      let q : (record { functor = fu; links = ls; inside = j }) ≡ a = same_Some _ _ e in subst (A (n + 0)) q (subst (λ z. A z (record { functor = fu; links = ls; inside = j })) (omega arith) w.0)
  walk_atom (Atom fu ls j ∷ xs) n t k w (suc i) a e = subst (λ z. A z a) (omega arith) (walk_atom xs (n + 1) t k w.1 i a e)
  walk_atom (Typed x y l j ∷ xs) n t k w i a e = walk_atom xs n (t + 1) k w.1 i a e
  walk_atom (Membrane j c cl rc ∷ xs) n t k w i a e = walk_atom xs n t (k + 1) w.1 i a e

  -- for a typed context
  pub walk_typed : (xs : List HeadItem) (n t k : ℕ) → Walk n t k xs → (i : ℕ) (a : HeadTyped) → slice_get (typed_contexts_of xs) i ≡ Some a → T (t + i) a
  walk_typed [] n t k w i a e = absurd (cc)
  walk_typed (Atom fu ls j ∷ xs) n t k w i a e = walk_typed xs (n + 1) t k w.1 i a e
  walk_typed (Typed x y l j ∷ xs) n t k w zero a e =
      let q : (record { name = x; kind = y; link = l; inside = j }) ≡ a = same_Some _ _ e in subst (T (t + 0)) q (subst (λ z. T z (record { name = x; kind = y; link = l; inside = j })) (omega arith) w.0)
  walk_typed (Typed x y l j ∷ xs) n t k w (suc i) a e = subst (λ z. T z a) (omega arith) (walk_typed xs n (t + 1) k w.1 i a e)
  walk_typed (Membrane j c cl rc ∷ xs) n t k w i a e = walk_typed xs n t (k + 1) w.1 i a e

  -- for a membrane
  pub walk_membrane : (xs : List HeadItem) (n t k : ℕ) → Walk n t k xs → (i : ℕ) (a : HeadMembrane) → slice_get (membranes_of xs) i ≡ Some a → M (k + i) a
  walk_membrane [] n t k w i a e = absurd (cc)
  walk_membrane (Atom fu ls j ∷ xs) n t k w i a e = walk_membrane xs (n + 1) t k w.1 i a e
  walk_membrane (Typed x y l j ∷ xs) n t k w i a e = walk_membrane xs n (t + 1) k w.1 i a e
  walk_membrane (Membrane j c cl rc ∷ xs) n t k w zero a e =
      let q : (record { inside = j; has_context = c; has_closed_context = cl; has_rule_context = rc }) ≡ a = same_Some _ _ e in
      subst (M (k + 0)) q (subst (λ z. M z (record { inside = j; has_context = c; has_closed_context = cl; has_rule_context = rc })) (omega arith) w.0)
  walk_membrane (Membrane j c cl rc ∷ xs) n t k w (suc i) a e = subst (λ z. M z a) (omega arith) (walk_membrane xs n t (k + 1) w.1 i a e)

-- ---- images, in the order of the items

-- the values of a map in a row
abbrev pub run : {A : Type 0} → (ℕ → A) → ℕ → ℕ → List A
run f n zero = []
run f n (suc k) = f n ∷ run f (n + 1) k

-- two rows make one
pub run_both : {A : Type 0} (f : ℕ → A) (n j k : ℕ) → run f n (j + k) ≡ run f n j ++ run f (n + j) k
run_both f n zero k = let e : n + 0 ≡ n = omega arith in let d : 0 + k ≡ k = omega arith in rw (e, d) refl
run_both f n (suc j) k =
    let e : (n + 1) + j ≡ n + suc j = omega arith in
    let d : suc j + k ≡ suc (j + k) = omega arith in
    rw d (ap (λ ys. f n ∷ ys) (run_both f (n + 1) j k ∙ ap (λ z. run f (n + 1) j ++ run f z k) e))

-- ---- how many items of each kind

-- membranes of items in a row
pub membranes_both : (xs ys : List HeadItem) → membranes_in_items (xs ++ ys) ≡ membranes_in_items xs + membranes_in_items ys
membranes_both [] ys = omega arith
membranes_both (Atom f ls i ∷ xs) ys = membranes_both xs ys
membranes_both (Typed x y l i ∷ xs) ys = membranes_both xs ys
membranes_both (Membrane i c cl rc ∷ xs) ys = omega (arith, membranes_both xs ys)

-- atoms of items in a row
pub atoms_both : (xs ys : List HeadItem) → atoms_in_items (xs ++ ys) ≡ atoms_in_items xs + atoms_in_items ys
atoms_both [] ys = omega arith
atoms_both (Atom f ls i ∷ xs) ys = omega (arith, atoms_both xs ys)
atoms_both (Typed x y l i ∷ xs) ys = atoms_both xs ys
atoms_both (Membrane i c cl rc ∷ xs) ys = atoms_both xs ys

-- typed contexts of items in a row
pub typed_both : (xs ys : List HeadItem) → typed_in_items (xs ++ ys) ≡ typed_in_items xs + typed_in_items ys
typed_both [] ys = omega arith
typed_both (Atom f ls i ∷ xs) ys = typed_both xs ys
typed_both (Typed x y l i ∷ xs) ys = omega (arith, typed_both xs ys)
typed_both (Membrane i c cl rc ∷ xs) ys = typed_both xs ys

-- leaves have no membrane
pub no_leaf_membrane : (kind : ℕ → TypeKind) (inside : ℕ) (ls : List Leaf) → membranes_in_items (leaf_items kind inside ls) ≡ 0
no_leaf_membrane kind inside [] = refl
no_leaf_membrane kind inside (leaf.Atom f os p ∷ ls) = no_leaf_membrane kind inside ls
no_leaf_membrane kind inside (leaf.Typed n o p ∷ ls) = no_leaf_membrane kind inside ls

mutual
  -- the items of a head have as many membranes as the head
  pub flat_size : (kind : ℕ → TypeKind) (inside next : ℕ) (h : Head) → membranes_in_items (flat_items kind inside next h) ≡ size h
  flat_size kind inside next (head leaves hs cs rcs rs) =
      omega (arith, membranes_both (leaf_items kind inside leaves) (flat_membranes kind inside next hs), no_leaf_membrane kind inside leaves, flat_sizes kind inside next hs)

  -- and so for membranes
  pub flat_sizes : (kind : ℕ → TypeKind) (inside next : ℕ) (hs : Heads) → membranes_in_items (flat_membranes kind inside next hs) ≡ sizes hs
  flat_sizes kind inside next no_head = refl
  flat_sizes kind inside next (head_and h hs) = omega (
    arith,
    membranes_both (flat_items kind next (next + 1) h) (flat_membranes kind inside (next + 1 + size h) hs),
    flat_size kind next (next + 1) h,
    flat_sizes kind inside (next + 1 + size h) hs,
  )

-- ---- each item stands in a membrane that has a number below the bound

module _ (kind : ℕ → TypeKind) (B : ℕ) where
  abbrev AtomBelow : ℕ → HeadAtom → Type 0
  AtomBelow n a = a.inside < B

  abbrev TypedBelow : ℕ → HeadTyped → Type 0
  TypedBelow n a = a.inside < B

  abbrev MembraneBelow : ℕ → HeadMembrane → Type 0
  MembraneBelow n a = a.inside < B

  leaves_bound : (cur n t k : ℕ) (ls : List Leaf) → cur < B → Walk AtomBelow TypedBelow MembraneBelow n t k (leaf_items kind cur ls)
  leaves_bound cur n t k [] l = tt
  leaves_bound cur n t k (leaf.Atom f os p ∷ ls) l = (l, leaves_bound cur (n + 1) t k ls l)
  leaves_bound cur n t k (leaf.Typed m o p ∷ ls) l = (l, leaves_bound cur n (t + 1) k ls l)

  mutual
    -- each item stands in a membrane of the head
    pub inside_bound : (cur next n t k : ℕ) (hd : Head) → cur < B → next + size hd ≤ B → Walk AtomBelow TypedBelow MembraneBelow n t k (flat_items kind cur next hd)
    inside_bound cur next n t k (head leaves hs cs rcs rs) l m =
        let first = leaf_items kind cur leaves in
        walk_join AtomBelow TypedBelow MembraneBelow first (flat_membranes kind cur next hs) n t k (leaves_bound cur n t k leaves l)
        (insides_bound cur next (n + atoms_in_items first) (t + typed_in_items first) (k + membranes_in_items first) hs l m)

    insides_bound : (cur next n t k : ℕ) (hs : Heads) → cur < B → next + sizes hs ≤ B → Walk AtomBelow TypedBelow MembraneBelow n t k (flat_membranes kind cur next hs)
    insides_bound cur next n t k no_head l m = tt
    insides_bound cur next n t k (head_and hd hs) l m =
        let first = flat_items kind next (next + 1) hd in (
          l,
          walk_join AtomBelow TypedBelow MembraneBelow first (flat_membranes kind cur (next + 1 + size hd) hs) n t (k + 1) (inside_bound next (next + 1) n t (k + 1) hd (omega (arith, m)) (omega (arith, m)))
              (insides_bound cur (next + 1 + size hd) (n + atoms_in_items first) (t + typed_in_items first) ((k + 1) + membranes_in_items first) hs l (omega (arith, m))),
        )

-- ---- each membrane stands in one with a lesser number

module _ (kind : ℕ → TypeKind) where
  abbrev AnyAtom : ℕ → HeadAtom → Type 0
  AnyAtom n a = Unit {0}

  abbrev AnyTyped : ℕ → HeadTyped → Type 0
  AnyTyped n a = Unit {0}

  abbrev MembraneLess : ℕ → HeadMembrane → Type 0
  MembraneLess k a = a.inside < k

  leaves_less : (cur n t k : ℕ) (ls : List Leaf) → Walk AnyAtom AnyTyped MembraneLess n t k (leaf_items kind cur ls)
  leaves_less cur n t k [] = tt
  leaves_less cur n t k (leaf.Atom f os p ∷ ls) = (tt, leaves_less cur (n + 1) t k ls)
  leaves_less cur n t k (leaf.Typed m o p ∷ ls) = (tt, leaves_less cur n (t + 1) k ls)

  mutual
    -- each membrane stands in one of a lesser number
    pub inside_less : (cur next n t : ℕ) (hd : Head) → cur < next → Walk AnyAtom AnyTyped MembraneLess n t next (flat_items kind cur next hd)
    inside_less cur next n t (head leaves hs cs rcs rs) l =
        let first = leaf_items kind cur leaves in
        let behind = flat_membranes kind cur next hs in
        let q : next ≡ next + membranes_in_items first = omega (arith, no_leaf_membrane kind cur leaves) in
        walk_join AnyAtom AnyTyped MembraneLess first behind n t next (leaves_less cur n t next leaves)
        (subst (λ k. Walk AnyAtom AnyTyped MembraneLess (n + atoms_in_items first) (t + typed_in_items first) k behind) q (insides_less cur next (n + atoms_in_items first) (t + typed_in_items first) hs l))

    insides_less : (cur next n t : ℕ) (hs : Heads) → cur < next → Walk AnyAtom AnyTyped MembraneLess n t next (flat_membranes kind cur next hs)
    insides_less cur next n t no_head l = tt
    insides_less cur next n t (head_and hd hs) l =
        let first = flat_items kind next (next + 1) hd in
        let behind = flat_membranes kind cur (next + 1 + size hd) hs in
        let q : next + 1 + size hd ≡ (next + 1) + membranes_in_items first = omega (arith, flat_size kind next (next + 1) hd) in (
          l,
          walk_join AnyAtom AnyTyped MembraneLess first behind n t (next + 1) (inside_less next (next + 1) n t hd (omega arith))
              (subst (λ k. Walk AnyAtom AnyTyped MembraneLess (n + atoms_in_items first) (t + typed_in_items first) k behind) q (insides_less cur (next + 1 + size hd) (n + atoms_in_items first) (t + typed_in_items first) hs (omega (arith, l)))),
        )
