-- Conditions on types, and what the names of typed contexts stand for.
use Rattle.std.proofs.Common.{ℕ, zero, suc, ◌≡◌, ◌≢◌, ◌+◌, List, [], ◌∷◌, ◌++◌, map, Some, refl, sym, ap, subst, ◌∙◌, inl, inr, arith}
use Rattle.std.specs.Prelude.{slice_get}
use Rattle.std.proofs.lemmas.Bool.{cases_eq, eq-eqb}
use Rattle.std.proofs.lemmas.Option.{same_Some}
use Rattle.lmn_base.specs.declared.level.Leaf.{Leaf}
use Rattle.lmn_base.specs.declared.level.Leaf.TheVariants as leaf
use Rattle.lmn_guards.specs.declared.plan.TypeKind.{TypeKind}
use Rattle.lmn_solid_heads.specs.declared.items.HeadItem.{HeadItem}
use Rattle.lmn_solid_heads.specs.declared.items.HeadItem.TheVariants.{Atom, Typed, Membrane}
use Rattle.lmn_solid_heads.specs.Flattening.{leaf_items}
use Rattle.lmn_solid_heads.specs.Guards.{typed_number}
use Rattle.lmn_solid_heads.specs.Heads.{HeadTyped, typed_contexts_of}
use Rattle.lmn_congruence.specs.Orders.{Among, at_head, further}
use Rattle.lmn_congruence.specs.Rules as tree
use Rattle.lmn_congruence.specs.Translation.{leaf_of, name_of}
use Rattle.lmn_reduction.specs.Firing.{typed_contexts, typed_leaves, typed_contexts_in as typed_in_levels}
use Rattle.lmn_reduction.specs.Parts.{Rooted}
use Rattle.lmn_adequacy.specs.Accepted.{EachLevel, EachOf, NoConnectorLeaf, own_leaves}
use Rattle.lmn_solid_heads.proofs.HeadTrees.{Head, Heads, head, no_head, head_and, size, flat_items, flat_membranes}
use Rattle.lmn_adequacy_heaps.proofs.HeadTrees.{tree_of, trees_of}
use Rattle.lmn_adequacy_heaps.proofs.Laying.{only_atom}
use Rattle.lmn_base.proofs.Numbers.{not_equal as apart_test}

-- ---- the typed contexts of the tree, by name and in their order

-- the typed contexts of two heads joined are those of both
pub typed_more : (xs ys : List HeadItem) → typed_contexts_of (xs ++ ys) ≡ typed_contexts_of xs ++ typed_contexts_of ys
typed_more [] ys = refl
typed_more (Atom f ls i ∷ xs) ys = typed_more xs ys
typed_more (Typed n k l i ∷ xs) ys = ap (λ z. (record { name = n; kind = k; link = l; inside = i }) ∷ z) (typed_more xs ys)
typed_more (Membrane i c cl rc ∷ xs) ys = typed_more xs ys

names_more : (names : List tree.Name) (xs ys : List HeadTyped) → map (λ u. name_of names u.name) (xs ++ ys) ≡ map (λ u. name_of names u.name) xs ++ map (λ u. name_of names u.name) ys
names_more names [] ys = refl
names_more names (x ∷ xs) ys = ap (λ z. name_of names x.name ∷ z) (names_more names xs ys)

module _ (names : List tree.Name) (rule : ℕ → tree.Rule) (kind : ℕ → TypeKind) where
  abbrev Names : List HeadItem → List tree.Name
  Names xs = map (λ u. name_of names u.name) (typed_contexts_of xs)

  both_named : (xs ys : List HeadItem) → Names (xs ++ ys) ≡ Names xs ++ Names ys
  both_named xs ys = ap (map (λ u. name_of names u.name)) (typed_more xs ys) ∙ names_more names (typed_contexts_of xs) (typed_contexts_of ys)

  leaf_named : (cur : ℕ) (ls : List Leaf) → NoConnectorLeaf (map (leaf_of names) ls) → Names (leaf_items kind cur ls) ≡ typed_leaves (map (leaf_of names) ls)
  leaf_named cur [] o = refl
  leaf_named cur (leaf.Atom f os q ∷ ls) o =
      let c = only_atom names f.label (map (λ o. o.link) os) (map (leaf_of names) ls) o in
      leaf_named cur ls c.1 ∙ ap (λ l. typed_leaves (l ∷ map (leaf_of names) ls)) (sym c.0)
  leaf_named cur (leaf.Typed m l q ∷ ls) o = ap (λ z. name_of names m ∷ z) (leaf_named cur ls o)

  mutual
    -- the typed contexts of a head are those of its tree, in order
    pub level_named : (cur next : ℕ) (hd : Head) → EachLevel (λ l. NoConnectorLeaf (own_leaves l)) (tree_of names rule hd) → map (λ u. name_of names u.name) (typed_contexts_of (flat_items kind cur next hd)) ≡ typed_contexts (tree_of names rule hd)
    level_named cur next (head leaves hs cs rcs rs) o =
        both_named (leaf_items kind cur leaves) (flat_membranes kind cur next hs) ∙ (λ j. leaf_named cur leaves o.0 j ++ levels_named cur next hs o.1 j)

    levels_named : (cur next : ℕ) (hs : Heads) → EachOf (λ l. NoConnectorLeaf (own_leaves l)) (trees_of names rule hs) → map (λ u. name_of names u.name) (typed_contexts_of (flat_membranes kind cur next hs)) ≡ typed_in_levels (trees_of names rule hs)
    levels_named cur next no_head o = refl
    levels_named cur next (head_and hd hs) o =
        both_named (flat_items kind next (next + 1) hd) (flat_membranes kind cur (next + 1 + size hd) hs) ∙ (λ j. level_named next (next + 1) hd o.0 j ++ levels_named cur (next + 1 + size hd) hs o.1 j)

-- ---- the number of a typed context

-- a number of a typed context is one with that name
pub number_is : (ts : List HeadTyped) (n x k : ℕ) → typed_number ts n x ≡ Some k → (i : ℕ) × (u : HeadTyped) × (slice_get ts i ≡ Some u) × (u.name ≡ x) × (k ≡ n + i)
number_is [] n x k e = absurd (cc)
number_is (t ∷ ts) n x k e = elim (cases_eq t.name x) [
  | inl q ↦ (let s : Some n ≡ Some k = sym (found q) ∙ e in (0, t, refl, q, sym (same_Some n k s) ∙ plus_none))
  | inr d ↦ (let u = number_is ts (n + 1) x k (sym (missed d) ∙ e) in (suc u.0, u.1, u.2, u.3, omega (arith, u.4)))
]
  where
    plus_none : n ≡ n + 0
    plus_none = omega arith

    found : t.name ≡ x → typed_number (t ∷ ts) n x ≡ Some n
    found q = rw (eq-eqb t.name x q) refl

    missed : t.name ≢ x → typed_number (t ∷ ts) n x ≡ typed_number ts (n + 1) x
    missed d = rw (apart_test t.name x d) refl

-- a typed context with a name has a number
pub has_number : (ts : List HeadTyped) (n x i : ℕ) (u : HeadTyped) → slice_get ts i ≡ Some u → u.name ≡ x → (k : ℕ) × (typed_number ts n x ≡ Some k)
has_number [] n x i u e q = absurd (cc)
has_number (t ∷ ts) n x i u e q = elim (cases_eq t.name x) [
  | inl s ↦ (n, rw (eq-eqb t.name x s) refl)
  | inr d ↦ by i e d (λ j w. has_number ts (n + 1) x j u w q)
]
  where
    by : (i : ℕ) → slice_get (t ∷ ts) i ≡ Some u → t.name ≢ x → ((j : ℕ) → slice_get ts j ≡ Some u → (k : ℕ) × (typed_number ts (n + 1) x ≡ Some k)) → (k : ℕ) × (typed_number (t ∷ ts) n x ≡ Some k)
    by zero e d later = absurd (d (ap (λ z. z.name) (same_Some t u e) ∙ q))
    by (suc j) e d later = let w = later j e in (w.0, rw (apart_test t.name x d) w.1)

among_map : (names : List tree.Name) (ts : List HeadTyped) {p : tree.Name} {ps : List tree.Name} → Among p ps → ps ≡ map (λ u. name_of names u.name) ts → (i : ℕ) × (u : HeadTyped) × (slice_get ts i ≡ Some u) × (name_of names u.name ≡ p)
among_map names [] at_head e = absurd (cc)
among_map names [] (further k) e = absurd (cc)
among_map names (t ∷ ts) {p = p} at_head e = let q : p ≡ name_of names t.name = cc in (0, t, refl, sym q)
among_map names (t ∷ ts) (further {ys = ys} k) e = let q : ys ≡ map (λ u. name_of names u.name) ts = cc in let w = among_map names ts k q in (suc w.0, w.1, w.2, w.3)

-- a name among those of typed contexts is that of one
pub among_named : (names : List tree.Name) (ts : List HeadTyped) (p : tree.Name) → Among p (map (λ u. name_of names u.name) ts) → (i : ℕ) × (u : HeadTyped) × (slice_get ts i ≡ Some u) × (name_of names u.name ≡ p)
among_named names ts p k = among_map names ts k refl

-- the name of a typed context is among them
pub among_of : (names : List tree.Name) (ts : List HeadTyped) (i : ℕ) (u : HeadTyped) → slice_get ts i ≡ Some u → Among (name_of names u.name) (map (λ u. name_of names u.name) ts)
among_of names [] i u e = absurd (cc)
among_of names (t ∷ ts) zero u e = let q = same_Some t u e in subst (λ z. Among (name_of names z.name) (map (λ u. name_of names u.name) (t ∷ ts))) q at_head
among_of names (t ∷ ts) (suc i) u e = further (among_of names ts i u e)

-- ---- parts by name

-- parts under the names of typed contexts
abbrev pub named_parts : List tree.Name → (ℕ → Rooted) → ℕ → List HeadTyped → List (tree.Name × Rooted)
named_parts names g n [] = []
named_parts names g n (t ∷ ts) = (name_of names t.name, g n) ∷ named_parts names g (n + 1) ts

-- their names are those of the typed contexts
pub named_parts_names : (names : List tree.Name) (g : ℕ → Rooted) (n : ℕ) (ts : List HeadTyped) → map (λ e. e.0) (named_parts names g n ts) ≡ map (λ u. name_of names u.name) ts
named_parts_names names g n [] = refl
named_parts_names names g n (t ∷ ts) = ap (λ z. name_of names t.name ∷ z) (named_parts_names names g (n + 1) ts)

-- the part of a typed context stands under its name
pub named_part : (names : List tree.Name) (g : ℕ → Rooted) (n : ℕ) (ts : List HeadTyped) (i : ℕ) (u : HeadTyped) → slice_get ts i ≡ Some u → Among {A = tree.Name × Rooted} (name_of names u.name, g (n + i)) (named_parts names g n ts)
named_part names g n [] i u e = absurd (cc)
named_part names g n (t ∷ ts) zero u e = let q = same_Some t u e in let z : n + 0 ≡ n = omega arith in
    subst (λ w. Among {A = tree.Name × Rooted} w (named_parts names g n (t ∷ ts))) (λ j. (name_of names (q j).name, g (sym z j))) at_head
named_part names g n (t ∷ ts) (suc i) u e = let z : (n + 1) + i ≡ n + suc i = omega arith in
    further (subst (λ w. Among {A = tree.Name × Rooted} (name_of names u.name, g w) (named_parts names g (n + 1) ts)) z (named_part names g (n + 1) ts i u e))
