-- The items of a head and its leaves have the same links, as often each.
use Rattle.std.proofs.Common.{ℕ, ◌≡◌, ◌+◌, List, [], ◌∷◌, ◌++◌, map, refl, sym, ap, ◌∙◌, arith}
use Rattle.std.specs.Prelude.{◌==◌, if◌then◌else◌}
use Rattle.std.specs.List.{flat_map}
use Rattle.std.proofs.lemmas.List.{map-append}
use Rattle.lmn_base.specs.declared.functor.Functor.{Functor}
use Rattle.lmn_base.specs.declared.level.Leaf.{Leaf}
use Rattle.lmn_base.specs.declared.level.Leaf.TheVariants as leaf
use Rattle.lmn_base.specs.declared.level.Level.{Level}
use Rattle.lmn_base.specs.Levels.{leaves_of, occurrences_of_leaf, links_of}
use Rattle.lmn_guards.specs.declared.plan.TypeKind.{TypeKind}
use Rattle.lmn_solid_heads.specs.declared.items.HeadItem.{HeadItem}
use Rattle.lmn_solid_heads.specs.declared.items.HeadItem.TheVariants.{Atom, Typed, Membrane}
use Rattle.lmn_solid_heads.specs.Heads.{HeadAtom, Occurrence, atoms_of, typed_contexts_of, at_ports, at_atoms, links_of_head, times}
use Rattle.lmn_solid_heads.specs.Flattening.{leaf_items, items_of_head}
use Rattle.lmn_solid_heads.proofs.Common.{port_links as ports_links, times_append}
use Rattle.lmn_solid_heads.proofs.HeadTrees.{Head, Heads, head, no_head, head_and, size, flat_items, flat_membranes, items_flat, head_at, head_leaves, heads_leaves, same_leaves}

-- the atoms and typed contexts of a list of items, as if all stood at the top
abbrev pub bare : List HeadItem → List HeadItem
bare [] = []
bare (Atom f xs m ∷ is) = Atom f xs 0 ∷ bare is
bare (Typed n k x m ∷ is) = Typed n k x 0 ∷ bare is
bare (Membrane m c cl r ∷ is) = bare is

bare_append : (as' bs : List HeadItem) → bare (as' ++ bs) ≡ bare as' ++ bare bs
bare_append [] bs = refl
bare_append (Atom f xs m ∷ is) bs = ap (λ k. Atom f xs 0 ∷ k) (bare_append is bs)
bare_append (Typed n k x m ∷ is) bs = ap (λ l. Typed n k x 0 ∷ l) (bare_append is bs)
bare_append (Membrane m c cl r ∷ is) bs = bare_append is bs

leaves_append : (kind : ℕ → TypeKind) (ls ms : List Leaf) → leaf_items kind 0 (ls ++ ms) ≡ leaf_items kind 0 ls ++ leaf_items kind 0 ms
leaves_append kind [] ms = refl
leaves_append kind (leaf.Atom f os p ∷ ls) ms = ap (λ k. Atom f (map (λ o. o.link) os) 0 ∷ k) (leaves_append kind ls ms)
leaves_append kind (leaf.Typed n o p ∷ ls) ms = ap (λ k. Typed n (kind n) o.link 0 ∷ k) (leaves_append kind ls ms)

bare_leaves : (kind : ℕ → TypeKind) (inside : ℕ) (ls : List Leaf) → bare (leaf_items kind inside ls) ≡ leaf_items kind 0 ls
bare_leaves kind inside [] = refl
bare_leaves kind inside (leaf.Atom f os p ∷ ls) = ap (λ k. Atom f (map (λ o. o.link) os) 0 ∷ k) (bare_leaves kind inside ls)
bare_leaves kind inside (leaf.Typed n o p ∷ ls) = ap (λ k. Typed n (kind n) o.link 0 ∷ k) (bare_leaves kind inside ls)

module _ (kind : ℕ → TypeKind) where
  mutual
    bare_head : (inside next : ℕ) (h : Head) → bare (flat_items kind inside next h) ≡ leaf_items kind 0 (head_leaves h)
    bare_head inside next (head leaves hs cs rcs rs) =
        bare_append (leaf_items kind inside leaves) (flat_membranes kind inside next hs)
        ∙ (λ i. bare_leaves kind inside leaves i ++ bare_heads inside next hs i)
        ∙ sym (leaves_append kind leaves (heads_leaves hs))

    bare_heads : (inside next : ℕ) (hs : Heads) → bare (flat_membranes kind inside next hs) ≡ leaf_items kind 0 (heads_leaves hs)
    bare_heads inside next no_head = refl
    bare_heads inside next (head_and h hs) =
        bare_append (flat_items kind next (next + 1) h) (flat_membranes kind inside (next + 1 + size h) hs)
        ∙ (λ i. bare_head next (next + 1) h i ++ bare_heads inside (next + 1 + size h) hs i)
        ∙ sym (leaves_append kind (head_leaves h) (heads_leaves hs))

  -- the leaves of a head's items are the leaves of the head
  pub bare_items : (l : Level) → bare (items_of_head kind l) ≡ leaf_items kind 0 (leaves_of l)
  bare_items l = ap bare (items_flat kind l) ∙ bare_head 0 1 (head_at l) ∙ ap (leaf_items kind 0) (sym (same_leaves l))

-- ---- how often a link occurs

-- the number that an atom has changes no link
atoms_links : (n m : ℕ) (as' : List HeadAtom) → map (λ o. o.link) (at_atoms n as') ≡ map (λ o. o.link) (at_atoms m as')
atoms_links n m [] = refl
atoms_links n m (a ∷ as') =
    map-append (λ (o : Occurrence). o.link) (at_ports n 0 a.links) (at_atoms (n + 1) as')
    ∙ (ap (λ k. k ++ map (λ o. o.link) (at_atoms (n + 1) as')) (ports_links n 0 a.links ∙ sym (ports_links m 0 a.links))
    ∙ (ap (λ k. map (λ o. o.link) (at_ports m 0 a.links) ++ k) (atoms_links (n + 1) (m + 1) as') ∙ sym (map-append (λ (o : Occurrence). o.link) (at_ports m 0 a.links) (at_atoms (m + 1) as'))))

-- how often a link occurs in items, one by one
pub atom_times : (x : ℕ) (f : Functor) (ls : List ℕ) (m : ℕ) (xs : List HeadItem) → times x (links_of_head (Atom f ls m ∷ xs)) ≡ times x ls + times x (links_of_head xs)
atom_times x f ls m xs =
    let ports = map (λ o. o.link) (at_atoms 0 (atoms_of xs)) in
    let later = map (λ o. o.link) (at_atoms 1 (atoms_of xs)) in
    let typed = map (λ t. t.link) (typed_contexts_of xs) in
    let whole : map (λ o. o.link) (at_ports 0 0 ls ++ at_atoms 1 (atoms_of xs)) ≡ ls ++ ports =
    map-append (λ (o : Occurrence). o.link) (at_ports 0 0 ls) (at_atoms 1 (atoms_of xs)) ∙ (ap (λ k. k ++ later) (ports_links 0 0 ls) ∙ ap (λ k. ls ++ k) (atoms_links 1 0 (atoms_of xs))) in
    let e : times x (map (λ o. o.link) (at_ports 0 0 ls ++ at_atoms 1 (atoms_of xs)) ++ typed) ≡ times x ((ls ++ ports) ++ typed) = ap (λ k. times x (k ++ typed)) whole in
    let a = times_append x (ls ++ ports) typed in
    let b = times_append x ls ports in
    let c = times_append x ports typed in
    omega (arith, e, a, b, c)

-- the link of a typed context of a head counts once among the links of the head
pub typed_times : (x n : ℕ) (k : TypeKind) (l m : ℕ) (xs : List HeadItem) → times x (links_of_head (Typed n k l m ∷ xs)) ≡ (if l == x then 1 else 0) + times x (links_of_head xs)
typed_times x n k l m xs =
    let ports = map (λ o. o.link) (at_atoms 0 (atoms_of xs)) in
    let typed = map (λ t. t.link) (typed_contexts_of xs) in
    let a = times_append x ports (l ∷ typed) in
    let c = times_append x ports typed in
    omega (arith, a, c)

bare_times : (x : ℕ) (is : List HeadItem) → times x (links_of_head is) ≡ times x (links_of_head (bare is))
bare_times x [] = refl
bare_times x (Atom f xs m ∷ is) = atom_times x f xs m is ∙ (ap (λ k. times x xs + k) (bare_times x is) ∙ sym (atom_times x f xs 0 (bare is)))
bare_times x (Typed n k y m ∷ is) = let a = typed_times x n k y m is in let b = typed_times x n k y 0 (bare is) in let c = bare_times x is in omega (arith, a, b, c)
bare_times x (Membrane m c cl r ∷ is) = bare_times x is

leaves_times : (kind : ℕ → TypeKind) (x : ℕ) (ls : List Leaf) → times x (links_of_head (leaf_items kind 0 ls)) ≡ times x (map (λ o. o.link) (flat_map occurrences_of_leaf ls))
leaves_times kind x [] = refl
leaves_times kind x (leaf.Atom f os p ∷ ls) =
    atom_times x f (map (λ o. o.link) os) 0 (leaf_items kind 0 ls) ∙ (ap (λ k. times x (map (λ o. o.link) os) + k) (leaves_times kind x ls)
    ∙ (sym (times_append x (map (λ o. o.link) os) (map (λ o. o.link) (flat_map occurrences_of_leaf ls))) ∙ ap (times x) (sym (map-append (λ o. o.link) os (flat_map occurrences_of_leaf ls)))))
leaves_times kind x (leaf.Typed n o p ∷ ls) =
    let a = typed_times x n (kind n) o.link 0 (leaf_items kind 0 ls) in let b = leaves_times kind x ls in omega (arith, a, b)

-- a link occurs as often in the items of a head as in the head
pub head_links : (kind : ℕ → TypeKind) (l : Level) (x : ℕ) → times x (links_of_head (items_of_head kind l)) ≡ times x (links_of l)
head_links kind l x = bare_times x (items_of_head kind l) ∙ (ap (λ is. times x (links_of_head is)) (bare_items kind l) ∙ leaves_times kind x (leaves_of l))
