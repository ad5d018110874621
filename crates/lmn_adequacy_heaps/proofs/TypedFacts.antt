-- Typed contexts of a head: in its tree and among its items.
use Rattle.std.proofs.Common.{ℕ, suc, ◌+◌, ◌⊎◌, List, [], ◌∷◌, ◌++◌, map, refl, subst, inl, inr}
use Rattle.lmn_base.specs.declared.level.Leaf.{Leaf}
use Rattle.lmn_base.specs.declared.level.Leaf.TheVariants as leaf
use Rattle.lmn_guards.specs.declared.plan.TypeKind.{TypeKind}
use Rattle.lmn_solid_heads.specs.declared.items.HeadItem.{HeadItem}
use Rattle.lmn_solid_heads.specs.declared.items.HeadItem.TheVariants.{Atom, Typed, Membrane}
use Rattle.lmn_solid_heads.specs.Flattening.{leaf_items}
use Rattle.lmn_solid_heads.specs.Heads.{HeadAtom, HeadTyped, HeadMembrane}
use Rattle.lmn_solid_heads.specs.Embeddings.{HasLink, HasTyped}
use Rattle.lmn_congruence.specs.Orders.{Among, at_head, further}
use Rattle.lmn_congruence.specs.Rules as tree
use Rattle.lmn_congruence.specs.Translation.{leaf_of}
use Rattle.lmn_adequacy.specs.Accepted.{EachLevel, EachOf, NoConnectorLeaf, own_leaves, typed_links_of, typed_links, typed_links_in, port_links_of, port_links, port_links_in}
use Rattle.lmn_solid_heads.proofs.HeadTrees.{Head, Heads, head, no_head, head_and, size, flat_items, flat_membranes}
use Rattle.lmn_adequacy_heaps.proofs.HeadTrees.{tree_of, trees_of}
use Rattle.lmn_adequacy_heaps.proofs.Laying.{only_atom}
use Rattle.lmn_adequacy_heaps.proofs.Walking.{Walk, walk_join, walk_typed, atoms_in_items, typed_in_items, membranes_in_items}
use Rattle.lmn_base.specs.Graphs.{Port}
use Rattle.lmn_congruence.proofs.Common.{among_left, among_right, among_apart}
use Rattle.lmn_base.specs.Lists.{In}
use Rattle.lmn_store_heap.proofs.Common.{position}

among_in : {x : ℕ} (xs : List ℕ) → Among x xs → In x xs
among_in [] k = elim k [ ]
among_in (y ∷ xs) at_head = inl refl
among_in (y ∷ xs) (further k) = inr (among_in xs k)

-- ---- the links of typed contexts

module _ (names : List tree.Name) (rule : ℕ → tree.Rule) (kind : ℕ → TypeKind) (P : ℕ → Type 0) where
  abbrev AnyAtom : ℕ → HeadAtom → Type 0
  AnyAtom n a = Unit {0}

  abbrev LinkIn : ℕ → HeadTyped → Type 0
  LinkIn n a = P a.link

  abbrev AnyMembrane : ℕ → HeadMembrane → Type 0
  AnyMembrane n a = Unit {0}

  leaf_links : (cur n t k : ℕ) (ls : List Leaf) → NoConnectorLeaf (map (leaf_of names) ls) → ((x : ℕ) → Among x (typed_links_of (map (leaf_of names) ls)) → P x) → Walk AnyAtom LinkIn AnyMembrane n t k (leaf_items kind cur ls)
  leaf_links cur n t k [] o p = tt
  leaf_links cur n t k (leaf.Atom f os q ∷ ls) o p =
      let c = only_atom names f.label (map (λ o. o.link) os) (map (leaf_of names) ls) o in
      let p' = subst (λ l. (x : ℕ) → Among x (typed_links_of (l ∷ map (leaf_of names) ls)) → P x) c.0 p in
      (tt, leaf_links cur (n + 1) t k ls c.1 p')
  leaf_links cur n t k (leaf.Typed m l q ∷ ls) o p = (p l.link at_head, leaf_links cur n (t + 1) k ls o (λ x j. p x (further j)))

  mutual
    level_links : (cur next n t k : ℕ) (hd : Head) → EachLevel (λ l. NoConnectorLeaf (own_leaves l)) (tree_of names rule hd) → ((x : ℕ) → Among x (typed_links (tree_of names rule hd)) → P x) → Walk AnyAtom LinkIn AnyMembrane n t k (flat_items kind cur next hd)
    level_links cur next n t k (head leaves hs cs rcs rs) o p =
        let first = leaf_items kind cur leaves in
        let ys = typed_links_of (map (leaf_of names) leaves) in
        walk_join AnyAtom LinkIn AnyMembrane first (flat_membranes kind cur next hs) n t k (leaf_links cur n t k leaves o.0 (λ x j. p x (among_left (typed_links_in (trees_of names rule hs)) j)))
        (levels_links cur next (n + atoms_in_items first) (t + typed_in_items first) (k + membranes_in_items first) hs o.1 (λ x j. p x (among_right ys j)))

    levels_links : (cur next n t k : ℕ) (hs : Heads) → EachOf (λ l. NoConnectorLeaf (own_leaves l)) (trees_of names rule hs) → ((x : ℕ) → Among x (typed_links_in (trees_of names rule hs)) → P x) → Walk AnyAtom LinkIn AnyMembrane n t k (flat_membranes kind cur next hs)
    levels_links cur next n t k no_head o p = tt
    levels_links cur next n t k (head_and hd hs) o p =
        let first = flat_items kind next (next + 1) hd in (
          tt,
          walk_join AnyAtom LinkIn AnyMembrane first (flat_membranes kind cur (next + 1 + size hd) hs) n t (k + 1)
              (level_links next (next + 1) n t (k + 1) hd o.0 (λ x j. p x (among_left (typed_links_in (trees_of names rule hs)) j)))
              (levels_links cur (next + 1 + size hd) (n + atoms_in_items first) (t + typed_in_items first) ((k + 1) + membranes_in_items first) hs o.1 (λ x j. p x (among_right (typed_links (tree_of names rule hd)) j))),
        )

-- ---- the links at ports

abbrev Holds : ℕ → List HeadItem → Type 0
Holds x [] = ⊥
Holds x (Atom f ls i ∷ xs) = In x ls ⊎ Holds x xs
Holds x (Typed n k l i ∷ xs) = Holds x xs
Holds x (Membrane i c cl rc ∷ xs) = Holds x xs

holds_left : (x : ℕ) (xs ys : List HeadItem) → Holds x xs → Holds x (xs ++ ys)
holds_left x [] ys w = absurd w
holds_left x (Atom f ls i ∷ xs) ys (inl p) = inl p
holds_left x (Atom f ls i ∷ xs) ys (inr w) = inr (holds_left x xs ys w)
holds_left x (Typed n k l i ∷ xs) ys w = holds_left x xs ys w
holds_left x (Membrane i c cl rc ∷ xs) ys w = holds_left x xs ys w

holds_right : (x : ℕ) (xs ys : List HeadItem) → Holds x ys → Holds x (xs ++ ys)
holds_right x [] ys w = w
holds_right x (Atom f ls i ∷ xs) ys w = inr (holds_right x xs ys w)
holds_right x (Typed n k l i ∷ xs) ys w = holds_right x xs ys w
holds_right x (Membrane i c cl rc ∷ xs) ys w = holds_right x xs ys w

holds_link : (x : ℕ) (xs : List HeadItem) → Holds x xs → (p : Port) × HasLink xs x p
holds_link x [] w = absurd w
holds_link x (Atom f ls i ∷ xs) (inl p) = let u = position ls x p in ((0, u.0), (record { functor = f; links = ls; inside = i }, refl, u.1))
holds_link x (Atom f ls i ∷ xs) (inr w) = let u = holds_link x xs w in ((suc u.0.0, u.0.1), u.1)
holds_link x (Typed n k l i ∷ xs) w = holds_link x xs w
holds_link x (Membrane i c cl rc ∷ xs) w = holds_link x xs w

module _ (names : List tree.Name) (rule : ℕ → tree.Rule) (kind : ℕ → TypeKind) (x : ℕ) where
  leaf_holds : (cur : ℕ) (ls : List Leaf) → NoConnectorLeaf (map (leaf_of names) ls) → Among x (port_links_of (map (leaf_of names) ls)) → Holds x (leaf_items kind cur ls)
  leaf_holds cur [] o p = elim p [ ]
  leaf_holds cur (leaf.Atom f os q ∷ ls) o p =
      let ys = map (λ o. o.link) os in
      let c = only_atom names f.label ys (map (leaf_of names) ls) o in
      elim (among_apart ys (port_links_of (map (leaf_of names) ls)) (subst (λ l. Among x (port_links_of (l ∷ map (leaf_of names) ls))) c.0 p)) [
        | inl j ↦ inl (among_in ys j)
        | inr j ↦ inr (leaf_holds cur ls c.1 j)
      ]
  leaf_holds cur (leaf.Typed m l q ∷ ls) o p = leaf_holds cur ls o p

  mutual
    level_holds : (cur next : ℕ) (hd : Head) → EachLevel (λ l. NoConnectorLeaf (own_leaves l)) (tree_of names rule hd) → Among x (port_links (tree_of names rule hd)) → Holds x (flat_items kind cur next hd)
    level_holds cur next (head leaves hs cs rcs rs) o p = elim (among_apart (port_links_of (map (leaf_of names) leaves)) (port_links_in (trees_of names rule hs)) p) [
      | inl j ↦ holds_left x (leaf_items kind cur leaves) (flat_membranes kind cur next hs) (leaf_holds cur leaves o.0 j)
      | inr j ↦ holds_right x (leaf_items kind cur leaves) (flat_membranes kind cur next hs) (levels_hold cur next hs o.1 j)
    ]

    levels_hold : (cur next : ℕ) (hs : Heads) → EachOf (λ l. NoConnectorLeaf (own_leaves l)) (trees_of names rule hs) → Among x (port_links_in (trees_of names rule hs)) → Holds x (flat_membranes kind cur next hs)
    levels_hold cur next no_head o p = elim p [ ]
    levels_hold cur next (head_and hd hs) o p = elim (among_apart (port_links (tree_of names rule hd)) (port_links_in (trees_of names rule hs)) p) [
      | inl j ↦ holds_left x (flat_items kind next (next + 1) hd) (flat_membranes kind cur (next + 1 + size hd) hs) (level_holds next (next + 1) hd o.0 j)
      | inr j ↦ holds_right x (flat_items kind next (next + 1) hd) (flat_membranes kind cur (next + 1 + size hd) hs) (levels_hold cur (next + 1 + size hd) hs o.1 j)
    ]

-- the link of each typed context stands at a port
pub typed_held : (names : List tree.Name) (rule : ℕ → tree.Rule) (kind : ℕ → TypeKind) (hd : Head) → EachLevel (λ l. NoConnectorLeaf (own_leaves l)) (tree_of names rule hd) →
    ((x : ℕ) → Among x (typed_links (tree_of names rule hd)) → Among x (port_links (tree_of names rule hd))) → (n : ℕ) (u : HeadTyped) → HasTyped (flat_items kind 0 1 hd) n u → (p : Port) × HasLink (flat_items kind 0 1 hd) u.link p
typed_held names rule kind hd o held n u k =
    let P : ℕ → Type 0 = λ x. (p : Port) × HasLink (flat_items kind 0 1 hd) x p in
    walk_typed (λ n a. Unit {0}) (λ n a. P a.link) (λ n a. Unit {0}) (flat_items kind 0 1 hd) 0 0 1
    (level_links names rule kind P 0 1 0 0 1 hd o (λ x j. holds_link x (flat_items kind 0 1 hd) (level_holds names rule kind x 0 1 hd o (held x j)))) n u k
