-- The items of a head are its leaves, each inside a membrane, and its membranes. What doesn't ask where an item stands
-- is a matter of the leaves alone.
use Rattle.std.proofs.Common.{ℕ, zero, suc, ◌≡◌, ◌≤◌, ◌+◌, inl, inr, List, [], ◌∷◌, ◌++◌, length, map, refl, sym, ap, subst, ◌∙◌, arith}
use Rattle.std.specs.Prelude.{Option, Some, Bool, true, false, ◌==◌, ◌||◌, if◌then◌else◌, Contains, IsSome, slice_get, count_by}
use Rattle.std.specs.List.{flat_map, list_any, AllByRecursion}
use Rattle.std.proofs.lemmas.Bool.Decides.{Decides-eqb, nat_tests}
use Rattle.std.proofs.lemmas.List.Sums.{sum_by-cons}
use Rattle.lmn_base.specs.declared.level.Occ.{Occ}
use Rattle.lmn_base.specs.declared.refusal.Pos.{Pos}
use Rattle.lmn_base.specs.Links.{EachTwice, Numbers, no_more, known, new, NumbersLinks}
use Rattle.lmn_base.specs.Uses.{is_some_place}
use Rattle.lmn_guards.specs.GuardCodes.{holds}
use Rattle.std.proofs.lemmas.List.{map-append, length-append}
use Rattle.lmn_base.specs.Items.{number_of_items}
use Rattle.lmn_base.specs.declared.level.Leaf.{Leaf}
use Rattle.lmn_base.specs.declared.level.Leaf.TheVariants as leaf
use Rattle.lmn_base.specs.declared.level.Level.{Level}
use Rattle.lmn_base.specs.Levels.{leaves_of, occurrences_of_leaf, links_of}
use Rattle.lmn_guards.specs.declared.plan.TypeKind.{TypeKind}
use Rattle.lmn_solid_heads.specs.declared.items.HeadItem.{HeadItem}
use Rattle.lmn_solid_heads.specs.declared.items.HeadItem.TheVariants.{Atom, Typed, Membrane}
use Rattle.lmn_solid_heads.specs.Heads.{HeadAtom, HeadTyped, typed_contexts_of, membranes_of, times}
use Rattle.lmn_solid_heads.specs.Heads as heads
use Rattle.lmn_solid_heads.specs.Guards.{typed_number}
use Rattle.lmn_solid_heads.specs.Flattening.{leaf_items, items_of_head, unnumbered}
use Rattle.lmn_solid_heads.specs.Embeddings.{HasAtom, HasTyped, HasLink}
use Rattle.lmn_solid_heads.proofs.HeadTrees.{Head, Heads, head, no_head, head_and, size, sizes, flat_items, flat_membranes, items_flat, head_at, head_number, heads_number, heads_length, same_number, same_size}
use Rattle.lmn_compile_head.specs.Heads.{EachInside}
use Rattle.lmn_compile_head.specs.Tables.{AllBelow, HeadFits, HasFewLinks}
use Rattle.lmn_solid_heads.proofs.HeadLinks.{bare, bare_items, head_links}
use Rattle.lmn_base.specs.Graphs.{Port}
use Rattle.lmn_base.proofs.Lists.{contains_behind as behind}
use Rattle.lmn_solid_heads.proofs.Common.{times_append}

-- ---- where items stand

membranes_append : (as' bs : List HeadItem) → length (membranes_of (as' ++ bs)) ≡ length (membranes_of as') + length (membranes_of bs)
membranes_append [] bs = let e : length (membranes_of bs) ≡ 0 + length (membranes_of bs) = omega arith in e
membranes_append (Atom f xs m ∷ is) bs = membranes_append is bs
membranes_append (Typed n k x m ∷ is) bs = membranes_append is bs
membranes_append (Membrane m c cl r ∷ is) bs = let e = membranes_append is bs in omega (arith, e)

inside_append : (i : ℕ) (as' bs : List HeadItem) → EachInside i as' → EachInside (i + length (membranes_of as')) bs → EachInside i (as' ++ bs)
inside_append i [] bs a b = let e : i + 0 ≡ i = omega arith in subst (λ k. EachInside k bs) e b
inside_append i (Atom f xs m ∷ is) bs a b = (a.0, inside_append i is bs a.1 b)
inside_append i (Typed n k x m ∷ is) bs a b = (a.0, inside_append i is bs a.1 b)
inside_append i (Membrane m c cl r ∷ is) bs a b =
    let e : i + suc (length (membranes_of is)) ≡ (i + 1) + length (membranes_of is) = omega arith in
    (a.0, inside_append (i + 1) is bs a.1 (subst (λ k. EachInside k bs) e b))

inside_leaves : (kind : ℕ → TypeKind) (inside i : ℕ) (ls : List Leaf) → inside ≤ i → EachInside i (leaf_items kind inside ls)
inside_leaves kind inside i [] l = tt
inside_leaves kind inside i (leaf.Atom f os p ∷ ls) l = (l, inside_leaves kind inside i ls l)
inside_leaves kind inside i (leaf.Typed n o p ∷ ls) l = (l, inside_leaves kind inside i ls l)

no_membranes : (kind : ℕ → TypeKind) (inside : ℕ) (ls : List Leaf) → length (membranes_of (leaf_items kind inside ls)) ≡ 0
no_membranes kind inside [] = refl
no_membranes kind inside (leaf.Atom f os p ∷ ls) = no_membranes kind inside ls
no_membranes kind inside (leaf.Typed n o p ∷ ls) = no_membranes kind inside ls

module _ (kind : ℕ → TypeKind) where
  mutual
    many_membranes : (inside next : ℕ) (h : Head) → length (membranes_of (flat_items kind inside next h)) ≡ size h
    many_membranes inside next (head leaves hs cs rcs rs) =
        let a = membranes_append (leaf_items kind inside leaves) (flat_membranes kind inside next hs) in
        let b = no_membranes kind inside leaves in
        let c = all_membranes inside next hs in
        omega (arith, a, b, c)

    pub all_membranes : (inside next : ℕ) (hs : Heads) → length (membranes_of (flat_membranes kind inside next hs)) ≡ sizes hs
    all_membranes inside next no_head = refl
    all_membranes inside next (head_and h hs) =
        let a = membranes_append (flat_items kind next (next + 1) h) (flat_membranes kind inside (next + 1 + size h) hs) in
        let b = many_membranes next (next + 1) h in
        let c = all_membranes inside (next + 1 + size h) hs in
        omega (arith, a, b, c)

  mutual
    each_inside : (inside i : ℕ) (h : Head) → inside ≤ i → EachInside i (flat_items kind inside (i + 1) h)
    each_inside inside i (head leaves hs cs rcs rs) l =
        inside_append i (leaf_items kind inside leaves) (flat_membranes kind inside (i + 1) hs) (inside_leaves kind inside i leaves l)
        (let z = no_membranes kind inside leaves in let e : i ≡ i + length (membranes_of (leaf_items kind inside leaves)) = omega (arith, z) in
        subst (λ k. EachInside k (flat_membranes kind inside (i + 1) hs)) e (all_inside inside i hs l))

    all_inside : (inside i : ℕ) (hs : Heads) → inside ≤ i → EachInside i (flat_membranes kind inside (i + 1) hs)
    all_inside inside i no_head l = tt
    all_inside inside i (head_and h hs) l =
        let first = flat_items kind (i + 1) (i + 1 + 1) h in
        let many = many_membranes (i + 1) (i + 1 + 1) h in
        let e : (i + 1 + size h) ≡ (i + 1) + length (membranes_of first) = omega (arith, many) in (
          l,
          inside_append (i + 1) first (flat_membranes kind inside (i + 1 + 1 + size h) hs) (each_inside (i + 1) (i + 1) h (omega arith))
              (subst (λ k. EachInside k (flat_membranes kind inside (i + 1 + 1 + size h) hs)) e
              (let t : (i + 1 + size h) + 1 ≡ i + 1 + 1 + size h = omega arith in
              subst (λ k. EachInside (i + 1 + size h) (flat_membranes kind inside k hs)) t (all_inside inside (i + 1 + size h) hs (omega arith)))),
        )

  -- each item of a head stands in an earlier membrane, or at the top
  pub items_inside : (l : Level) → EachInside 0 (items_of_head kind l)
  items_inside l = subst (EachInside 0) (sym (items_flat kind l)) (each_inside 0 0 (head_at l) (omega arith))

  -- ---- how many there are

  as_many : (inside : ℕ) (ls : List Leaf) → length (leaf_items kind inside ls) ≡ length ls
  as_many inside [] = refl
  as_many inside (leaf.Atom f os p ∷ ls) = let e = as_many inside ls in omega (arith, e)
  as_many inside (leaf.Typed n o p ∷ ls) = let e = as_many inside ls in omega (arith, e)

  mutual
    few_items : (inside next : ℕ) (h : Head) → length (flat_items kind inside next h) ≤ head_number h
    few_items inside next (head leaves hs cs rcs rs) =
        let a = length-append (leaf_items kind inside leaves) (flat_membranes kind inside next hs) in
        let b = as_many inside leaves in
        let c = all_few inside next hs in
        omega (arith, a, b, c)

    all_few : (inside next : ℕ) (hs : Heads) → length (flat_membranes kind inside next hs) ≤ heads_length hs + heads_number hs
    all_few inside next no_head = omega arith
    all_few inside next (head_and h hs) =
        let a = length-append (flat_items kind next (next + 1) h) (flat_membranes kind inside (next + 1 + size h) hs) in
        let b = few_items next (next + 1) h in
        let c = all_few inside (next + 1 + size h) hs in
        omega (arith, a, b, c)

  -- a head has at most as many flat items as items, and fewer membranes
  pub items_few : (l : Level) → length (items_of_head kind l) ≤ number_of_items l
  items_few l = let a = few_items 0 1 (head_at l) in let b = ap length (items_flat kind l) in let c = same_number l in omega (arith, a, b, c)

  pub size_few : (l : Level) → (unnumbered kind l).size ≤ number_of_items l
  size_few l =
      let a = membranes_few (items_of_head kind l) in
      let b = many_membranes 0 1 (head_at l) in
      let c = ap (λ is. length (membranes_of is)) (items_flat kind l) in
      let d = same_size kind l in
      let e = items_few l in
      omega (arith, a, b, c, d, e)
    where
      membranes_few : (is : List HeadItem) → length (membranes_of is) ≤ length is
      membranes_few [] = omega arith
      membranes_few (Atom f xs m ∷ is) = let e = membranes_few is in omega (arith, e)
      membranes_few (Typed n k x m ∷ is) = let e = membranes_few is in omega (arith, e)
      membranes_few (Membrane m c cl r ∷ is) = let e = membranes_few is in omega (arith, e)

-- ---- atoms and typed contexts

-- a typed context of a list of items is one of its leaves, wherever it stands
typed_bare : (is : List HeadItem) (n : ℕ) (t : HeadTyped) → HasTyped is n t → (u : HeadTyped) × HasTyped (bare is) n u × (u.name ≡ t.name) × (u.kind ≡ t.kind) × (u.link ≡ t.link)
typed_bare [] n t e = absurd (cc)
typed_bare (Atom f xs m ∷ is) n t e = typed_bare is n t e
typed_bare (Typed x k y m ∷ is) zero t e =
    let same : (record { name = x; kind = k; link = y; inside = m }) ≡ t = cc in
    (record { name = x; kind = k; link = y; inside = 0 }, refl, ap (λ (u : HeadTyped). u.name) same, ap (λ (u : HeadTyped). u.kind) same, ap (λ (u : HeadTyped). u.link) same)
typed_bare (Typed x k y m ∷ is) (suc n) t e = typed_bare is n t e
typed_bare (Membrane m c cl r ∷ is) n t e = typed_bare is n t e

bare_atom : (is : List HeadItem) (n : ℕ) (a : HeadAtom) → HasAtom (bare is) n a → (b : HeadAtom) × HasAtom is n b × (b.links ≡ a.links)
bare_atom [] n a e = absurd (cc)
bare_atom (Atom f xs m ∷ is) zero a e =
    let same : (record { functor = f; links = xs; inside = 0 }) ≡ a = cc in
    (record { functor = f; links = xs; inside = m }, refl, ap (λ (b : HeadAtom). b.links) same)
bare_atom (Atom f xs m ∷ is) (suc n) a e = bare_atom is n a e
bare_atom (Typed x k y m ∷ is) n a e = bare_atom is n a e
bare_atom (Membrane m c cl r ∷ is) n a e = bare_atom is n a e

module _ (kind : ℕ → TypeKind) where
  leaf_typed : (ls : List Leaf) (n : ℕ) (t : HeadTyped) → HasTyped (leaf_items kind 0 ls) n t → (o : Occ) × (p : Pos) × Contains ls (leaf.Typed t.name o p) × (t.link ≡ o.link) × (t.kind ≡ kind t.name)
  leaf_typed [] n t e = absurd (cc)
  leaf_typed (leaf.Atom f os p ∷ ls) n t e = let r = leaf_typed ls n t e in (r.0, r.1, behind (leaf.Atom f os p) ls (leaf.Typed t.name r.0 r.1) r.2, r.3, r.4)
  leaf_typed (leaf.Typed x o p ∷ ls) zero t e =
      let same : t ≡ (record { name = x; kind = kind x; link = o.link; inside = 0 }) = cc in
      let named : t.name ≡ x = ap (λ (u : HeadTyped). u.name) same in
      (o, p, subst (λ y. Contains (leaf.Typed x o p ∷ ls) (leaf.Typed y o p)) (sym named) (0, omega arith, refl), ap (λ (u : HeadTyped). u.link) same, ap (λ (u : HeadTyped). u.kind) same ∙ ap kind (sym named))
  leaf_typed (leaf.Typed x o p ∷ ls) (suc n) t e = let r = leaf_typed ls n t e in (r.0, r.1, behind (leaf.Typed x o p) ls (leaf.Typed t.name r.0 r.1) r.2, r.3, r.4)

  -- a typed context of a head is a leaf of it
  pub typed_leaf : (l : Level) (n : ℕ) (t : HeadTyped) → HasTyped (items_of_head kind l) n t
      → (o : Occ) × (p : Pos) × Contains (leaves_of l) (leaf.Typed t.name o p) × (t.link ≡ o.link) × (t.kind ≡ kind t.name)
  typed_leaf l n t e =
      let b = typed_bare (items_of_head kind l) n t e in
      let c = subst (λ is. HasTyped is n b.0) (bare_items kind l) b.1 in
      let d = leaf_typed (leaves_of l) n b.0 c in
      (d.0, d.1, subst (λ x. Contains (leaves_of l) (leaf.Typed x d.0 d.1)) b.2 d.2, sym b.4 ∙ d.3, sym b.3 ∙ (d.4 ∙ ap kind b.2))

  link_at : (x : ℕ) (os : List Occ) → list_any (λ o. o.link == x) os ≡ true → (i : ℕ) × (slice_get (map (λ o. o.link) os) i ≡ Some x)
  link_at x [] e = absurd (cc)
  link_at x (o ∷ os) e = by (o.link == x) refl (link_at x os)
    where
      by : (b : Bool) → (o.link == x) ≡ b → (list_any (λ o. o.link == x) os ≡ true → (i : ℕ) × (slice_get (map (λ o. o.link) os) i ≡ Some x)) → (i : ℕ) × (slice_get (map (λ o. o.link) (o ∷ os)) i ≡ Some x)
      by true f later = (0, ap Some ((Decides-eqb o.link x).0 f))
      by false f later = let r = later (ap (λ b. b || list_any (λ o. o.link == x) os) (sym f) ∙ e) in (suc r.0, r.1)

  leaf_port : (x : ℕ) (ls : List Leaf) → is_some_place (flat_map (holds x) ls) ≡ true → (p : Port) × HasLink (leaf_items kind 0 ls) x p
  leaf_port x [] e = absurd (cc)
  leaf_port x (leaf.Typed n o q ∷ ls) e = let r = leaf_port x ls e in (r.0, r.1)
  leaf_port x (leaf.Atom f os q ∷ ls) e = by (list_any (λ o. o.link == x) os) refl (leaf_port x ls)
    where
      by : (b : Bool) → list_any (λ o. o.link == x) os ≡ b → (is_some_place (flat_map (holds x) ls) ≡ true → (p : Port) × HasLink (leaf_items kind 0 ls) x p)
          → (p : Port) × HasLink (leaf_items kind 0 (leaf.Atom f os q ∷ ls)) x p
      by true g later = let r = link_at x os g in ((0, r.0), (record { functor = f; links = map (λ o. o.link) os; inside = 0 }, refl, r.1))
      by false g later =
          let place : Bool → List Pos = λ b. if b then q ∷ [] else [] in
          let r = later (ap (λ b. is_some_place (place b ++ flat_map (holds x) ls)) (sym g) ∙ e) in
          ((suc r.0.0, r.0.1), r.1)

  -- a link that stands at an atom's leaf stands at an atom of the items
  pub port_of_leaf : (l : Level) (x : ℕ) → is_some_place (flat_map (holds x) (leaves_of l)) ≡ true → (p : Port) × HasLink (items_of_head kind l) x p
  port_of_leaf l x e =
      let r = leaf_port x (leaves_of l) e in
      let a = subst (λ is. HasAtom is r.0.0 r.1.0) (sym (bare_items kind l)) r.1.1 in
      let b = bare_atom (items_of_head kind l) r.0.0 r.1.0 a in
      (r.0, (b.0, b.1, ap (λ xs. slice_get xs r.0.1) b.2 ∙ r.1.2))

-- ---- names of typed contexts

number_bare : (is : List HeadItem) (n x : ℕ) → typed_number (typed_contexts_of is) n x ≡ typed_number (typed_contexts_of (bare is)) n x
number_bare [] n x = refl
number_bare (Atom f xs m ∷ is) n x = number_bare is n x
number_bare (Typed y k z m ∷ is) n x = ap (λ r. if y == x then Some n else r) (number_bare is (n + 1) x)
number_bare (Membrane m c cl r ∷ is) n x = number_bare is n x

-- the typed context with a number that was found by its name
pub number_at : (ts : List HeadTyped) (n x g : ℕ) → typed_number ts n x ≡ Some g → (t : HeadTyped) × (i : ℕ) × (g ≡ n + i) × (slice_get ts i ≡ Some t) × (t.name ≡ x)
number_at [] n x g e = absurd (cc)
number_at (t ∷ ts) n x g e = by (t.name == x) refl (number_at ts (n + 1) x g)
  where
    by : (b : Bool) → (t.name == x) ≡ b → (typed_number ts (n + 1) x ≡ Some g → (u : HeadTyped) × (i : ℕ) × (g ≡ (n + 1) + i) × (slice_get ts i ≡ Some u) × (u.name ≡ x))
        → (u : HeadTyped) × (i : ℕ) × (g ≡ n + i) × (slice_get (t ∷ ts) i ≡ Some u) × (u.name ≡ x)
    by true f later = let h : ◌≡◌ {A = Option ℕ} (Some n) (Some g) = ap (λ b. if b then Some n else typed_number ts (n + 1) x) (sym f) ∙ e in let s : n ≡ g = cc in (t, 0, omega (arith, s), refl, (Decides-eqb t.name x).0 f)
    by false f later =
        let h : typed_number ts (n + 1) x ≡ Some g = ap (λ b. if b then Some n else typed_number ts (n + 1) x) (sym f) ∙ e in
        let r = later h in
        (r.0, suc r.1, (let k = r.2 in omega (arith, k)), r.3, r.4)

module _ (kind : ℕ → TypeKind) where
  leaf_number : (ls : List Leaf) (n x : ℕ) (o : Occ) (p : Pos) → Contains ls (leaf.Typed x o p) → IsSome (typed_number (typed_contexts_of (leaf_items kind 0 ls)) n x)
  leaf_number [] n x o p (k, within, e) = absurd (omega (arith, within))
  leaf_number (leaf.Atom f os q ∷ ls) n x o p (zero, within, e) = absurd (cc)
  leaf_number (leaf.Atom f os q ∷ ls) n x o p (suc k, within, e) = leaf_number ls n x o p (k, omega (arith, within), e)
  leaf_number (leaf.Typed y o' q ∷ ls) n x o p (zero, within, e) =
      let same : y ≡ x = cc in
      let test : (y == x) ≡ true = (Decides-eqb y x).1 same in
      subst (λ b. IsSome (if b then Some n else typed_number (typed_contexts_of (leaf_items kind 0 ls)) (n + 1) x)) (sym test) refl
  leaf_number (leaf.Typed y o' q ∷ ls) n x o p (suc k, within, e) = by (y == x) (leaf_number ls (n + 1) x o p (k, omega (arith, within), e))
    where
      by : (b : Bool) → IsSome (typed_number (typed_contexts_of (leaf_items kind 0 ls)) (n + 1) x) → IsSome (if b then Some n else typed_number (typed_contexts_of (leaf_items kind 0 ls)) (n + 1) x)
      by true later = refl
      by false later = later

  -- a leaf's name has a number
  pub number_of_leaf : (l : Level) (x : ℕ) (o : Occ) (p : Pos) → Contains (leaves_of l) (leaf.Typed x o p) → IsSome (typed_number (typed_contexts_of (items_of_head kind l)) 0 x)
  number_of_leaf l x o p c =
      subst (λ r. IsSome r) (sym (number_bare (items_of_head kind l) 0 x ∙ ap (λ is. typed_number (typed_contexts_of is) 0 x) (bare_items kind l))) (leaf_number (leaves_of l) 0 x o p c)

-- ---- the room of tables

fits_bare : (n : ℕ) (is : List HeadItem) → HeadFits n (bare is) → HeadFits n is
fits_bare n [] h = tt
fits_bare n (Atom f xs m ∷ is) h = (h.0, h.1, fits_bare n is h.2)
fits_bare n (Typed x k y m ∷ is) h = (h.0, fits_bare n is h.1)
fits_bare n (Membrane m c cl r ∷ is) h = fits_bare n is h

-- numbers below n in two lists joined are below n in the first
pub below_front : (n : ℕ) (xs ys : List ℕ) → AllBelow n (xs ++ ys) → AllBelow n xs
below_front n [] ys h = tt
below_front n (x ∷ xs) ys h = (h.0, below_front n xs ys h.1)

-- and in the second
pub below_back : (n : ℕ) (xs ys : List ℕ) → AllBelow n (xs ++ ys) → AllBelow n ys
below_back n [] ys h = h
below_back n (x ∷ xs) ys h = below_back n xs ys h.1

as_many_links : (os : List Occ) → length (map (λ o. o.link) os) ≡ length os
as_many_links [] = refl
as_many_links (o ∷ os) = let e = as_many_links os in omega (arith, e)

leaves_fit : (kind : ℕ → TypeKind) (n : ℕ) (ls : List Leaf) → AllByRecursion HasFewLinks ls → AllBelow n (map (λ o. o.link) (flat_map occurrences_of_leaf ls)) → HeadFits n (leaf_items kind 0 ls)
leaves_fit kind n [] few low = tt
leaves_fit kind n (leaf.Atom f os p ∷ ls) few low =
    let low' = subst (AllBelow n) (map-append (λ o. o.link) os (flat_map occurrences_of_leaf ls)) low in
    let many = as_many_links os in
    let few' = few.0 in
    (omega (arith, many, few'), below_front n (map (λ o. o.link) os) (map (λ o. o.link) (flat_map occurrences_of_leaf ls)) low', leaves_fit kind n ls few.1 (below_back n (map (λ o. o.link) os) (map (λ o. o.link) (flat_map occurrences_of_leaf ls)) low'))
leaves_fit kind n (leaf.Typed x o p ∷ ls) few low = (low.0, leaves_fit kind n ls few.1 low.1)

numbers_below : (n m : ℕ) (xs : List ℕ) → Numbers n xs m → (n ≤ m) × AllBelow m xs
numbers_below n m xs no_more = (omega arith, tt)
numbers_below n m xs (known l rest) = let r = numbers_below _ _ _ rest in let a = r.0 in (a, (omega (arith, l, a), r.1))
numbers_below n m xs (new rest) = let r = numbers_below _ _ _ rest in let a = r.0 in (omega (arith, a), (omega (arith, a), r.1))

-- the links of a head are below the length of its rule's table
pub head_fits : (kind : ℕ → TypeKind) (top body : Level) (n : ℕ) → AllByRecursion HasFewLinks (leaves_of top) → NumbersLinks (flat_map links_of (top ∷ (body ∷ []))) n → HeadFits n (items_of_head kind top)
head_fits kind top body n few numbers =
    fits_bare n (items_of_head kind top) (subst (HeadFits n) (sym (bare_items kind top)) (leaves_fit kind n (leaves_of top) few (below_front n (links_of top) (links_of body ++ []) (numbers_below 0 n _ numbers).1)))

-- ---- a link occurs at most twice

count_times : (x : ℕ) (xs : List ℕ) → count_by (λ y. x == y) xs ≡ times x xs
count_times x [] = refl
count_times x (y ∷ xs) = sum_by-cons (λ y. if x == y then 1 else 0) y xs ∙ (λ i. (if turned x y i then 1 else 0) + count_times x xs i)
  where
    turned : (a b : ℕ) → (a == b) ≡ (b == a)
    turned a b = grind (arith, nat_tests)

-- a link of a head stands there twice at most
pub at_most_twice : (kind : ℕ → TypeKind) (top body : Level) (x : ℕ) → EachTwice (links_of top ++ links_of body) → times x (heads.links_of_head (items_of_head kind top)) ≤ 2
at_most_twice kind top body x twice =
    let a = head_links kind top x in
    let b = times_append x (links_of top) (links_of body) in
    let c = count_times x (links_of top ++ links_of body) in
    elim (twice x) [ inl e ↦ omega (arith, a, b, c, e) | inr e ↦ omega (arith, a, b, c, e) ]
