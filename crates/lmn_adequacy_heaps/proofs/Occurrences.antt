-- The links of a flat list of items: how often each stands there, and where one first stands.
use Rattle.std.proofs.Common.{ℕ, zero, suc, ◌≡◌, ◌≢◌, ◌+◌, ◌≤◌, ◌⊎◌, ◌==◌, cond, List, [], ◌∷◌, ◌++◌, map, Some, refl, sym, ap, subst, ◌∙◌, inl, inr, arith}
use Rattle.std.specs.Prelude.{slice_get}
use Rattle.std.proofs.lemmas.Bool.{cases_eq, eq-eqb}
use Rattle.std.proofs.lemmas.Option.{same_Some}
use Rattle.lmn_base.specs.declared.level.Leaf.{Leaf}
use Rattle.lmn_base.specs.declared.level.Leaf.TheVariants as leaf
use Rattle.lmn_base.specs.declared.functor.Label.{Label}
use Rattle.lmn_base.specs.declared.functor.Label.TheVariants.{Name as ByName, Int as ByInt}
use Rattle.lmn_guards.specs.declared.plan.TypeKind.{TypeKind}
use Rattle.lmn_solid_heads.specs.declared.items.HeadItem.{HeadItem}
use Rattle.lmn_solid_heads.specs.declared.items.HeadItem.TheVariants.{Atom, Typed, Membrane}
use Rattle.lmn_solid_heads.specs.Flattening.{leaf_items}
use Rattle.lmn_solid_heads.specs.Heads.{HeadAtom, HeadTyped, Occurrence, at_ports, at_atoms, atoms_of, typed_contexts_of, links_of_head, times}
use Rattle.lmn_congruence.specs.Links.{one_if_same, places}
use Rattle.lmn_congruence.specs.LinkedRules.{leaf_occurrences, leaves_occurrences, level_occurrences, levels_occurrences}
use Rattle.lmn_congruence.specs.Rules as tree
use Rattle.lmn_congruence.specs.Translation.{leaf_of, atom_or_connector}
use Rattle.lmn_solid_heads.proofs.HeadTrees.{Head, Heads, head, no_head, head_and, size, flat_items, flat_membranes}
use Rattle.lmn_adequacy_heaps.proofs.HeadTrees.{tree_of, trees_of}
use Rattle.lmn_base.specs.Graphs.{Port}
use Rattle.lmn_base.proofs.Numbers.{not_equal as apart_test}
use Rattle.lmn_congruence.proofs.Counts.{one_if_equal as same_one}
use Rattle.lmn_congruence.proofs.TranslatedLinks.{places_append as places_both}
use Rattle.lmn_solid_heads.proofs.Common.{times_places}

-- ---- how often

abbrev item_times : ℕ → List HeadItem → ℕ
item_times x [] = 0
item_times x (Atom f ls i ∷ xs) = places x ls + item_times x xs
item_times x (Typed n k y i ∷ xs) = one_if_same x y + item_times x xs
item_times x (Membrane i c cl rc ∷ xs) = item_times x xs

item_both : (x : ℕ) (xs ys : List HeadItem) → item_times x (xs ++ ys) ≡ item_times x xs + item_times x ys
item_both x [] ys = omega arith
item_both x (Atom f ls i ∷ xs) ys = omega (arith, item_both x xs ys)
item_both x (Typed n k y i ∷ xs) ys = omega (arith, item_both x xs ys)
item_both x (Membrane i c cl rc ∷ xs) ys = item_both x xs ys

port_links : (x n i : ℕ) (ys : List ℕ) (os : List Occurrence) → places x (map (λ o. o.link) (at_ports n i ys ++ os)) ≡ places x ys + places x (map (λ o. o.link) os)
port_links x n i [] os = omega arith
port_links x n i (y ∷ ys) os = omega (arith, port_links x n (i + 1) ys os)

atom_links : (x n : ℕ) (xs : List HeadItem) → places x (map (λ o. o.link) (at_atoms n (atoms_of xs))) + places x (map (λ t. t.link) (typed_contexts_of xs)) ≡ item_times x xs
atom_links x n [] = omega arith
atom_links x n (Atom f ls i ∷ xs) = omega (arith, port_links x n 0 ls (at_atoms (n + 1) (atoms_of xs)), atom_links x (n + 1) xs)
atom_links x n (Typed m k y i ∷ xs) = omega (arith, atom_links x n xs)
atom_links x n (Membrane i c cl rc ∷ xs) = atom_links x n xs

-- a link that is got from a list stands in it
pub some_place : (x : ℕ) (ys : List ℕ) (j : ℕ) → slice_get ys j ≡ Some x → 1 ≤ places x ys
some_place x [] j e = absurd (cc)
some_place x (y ∷ ys) zero e = omega (arith, same_one x y (sym (same_Some y x e)))
some_place x (y ∷ ys) (suc j) e = omega (arith, some_place x ys j e)

atom_times : (names : List tree.Name) (x : ℕ) (l : Label) (ys : List ℕ) → leaf_occurrences x (atom_or_connector names l ys) ≡ places x ys
atom_times names x (ByName zero) [] = refl
atom_times names x (ByName zero) (a ∷ []) = refl
atom_times names x (ByName zero) (a ∷ (b ∷ [])) = omega arith
atom_times names x (ByName zero) (a ∷ (b ∷ (c ∷ ys))) = refl
atom_times names x (ByName (suc n)) ys = refl
atom_times names x (ByInt z) ys = refl

module _ (names : List tree.Name) (rule : ℕ → tree.Rule) (kind : ℕ → TypeKind) (x : ℕ) where
  leaf_times : (cur : ℕ) (ls : List Leaf) → leaves_occurrences x (map (leaf_of names) ls) ≡ item_times x (leaf_items kind cur ls)
  leaf_times cur [] = refl
  leaf_times cur (leaf.Atom f os p ∷ ls) = omega (arith, atom_times names x f.label (map (λ o. o.link) os), leaf_times cur ls)
  leaf_times cur (leaf.Typed n o p ∷ ls) = omega (arith, leaf_times cur ls)

  mutual
    head_times : (cur next : ℕ) (hd : Head) → level_occurrences x (tree_of names rule hd) ≡ item_times x (flat_items kind cur next hd)
    head_times cur next (head leaves hs cs rcs rs) = omega (arith, leaf_times cur leaves, heads_times cur next hs, item_both x (leaf_items kind cur leaves) (flat_membranes kind cur next hs))

    heads_times : (cur next : ℕ) (hs : Heads) → levels_occurrences x (trees_of names rule hs) ≡ item_times x (flat_membranes kind cur next hs)
    heads_times cur next no_head = refl
    heads_times cur next (head_and hd hs) = omega (
      arith,
      head_times next (next + 1) hd,
      heads_times cur (next + 1 + size hd) hs,
      item_both x (flat_items kind next (next + 1) hd) (flat_membranes kind cur (next + 1 + size hd) hs),
    )

  pub times_are : (cur next : ℕ) (hd : Head) → times x (links_of_head (flat_items kind cur next hd)) ≡ level_occurrences x (tree_of names rule hd)
  times_are cur next hd =
      let items = flat_items kind cur next hd in
      times_places x (links_of_head items)
      ∙ omega (arith, places_both x (map (λ o. o.link) (at_atoms 0 (atoms_of items))) (map (λ t. t.link) (typed_contexts_of items)), atom_links x 0 items, head_times cur next hd)

-- ---- ports and typed contexts

-- all links of items, those at ports and those of typed contexts
pub times_parts : (x : ℕ) (items : List HeadItem) → times x (links_of_head items) ≡ places x (map (λ o. o.link) (at_atoms 0 (atoms_of items))) + places x (map (λ t. t.link) (typed_contexts_of items))
times_parts x items = times_places x (links_of_head items) ∙ places_both x (map (λ o. o.link) (at_atoms 0 (atoms_of items))) (map (λ t. t.link) (typed_contexts_of items))

-- a link at a port of a head atom has a place among the links of atoms
pub port_counts : (x : ℕ) (xs : List HeadAtom) (n i j : ℕ) (a : HeadAtom) → slice_get xs i ≡ Some a → slice_get a.links j ≡ Some x → 1 ≤ places x (map (λ o. o.link) (at_atoms n xs))
port_counts x [] n i j a e g = absurd (cc)
port_counts x (b ∷ xs) n zero j a e g =
    let q : b ≡ a = same_Some b a e in
    let u = some_place x b.links j (subst (λ z. slice_get z.links j ≡ Some x) (sym q) g) in
    omega (arith, u, port_links x n 0 b.links (at_atoms (n + 1) xs))
port_counts x (b ∷ xs) n (suc i) j a e g = omega (arith, port_counts x xs (n + 1) i j a e g, port_links x n 0 b.links (at_atoms (n + 1) xs))

-- and one at a typed context has one among those of typed contexts
pub typed_counts : (x : ℕ) (ts : List HeadTyped) (i : ℕ) (a : HeadTyped) → slice_get ts i ≡ Some a → a.link ≡ x → 1 ≤ places x (map (λ t. t.link) ts)
typed_counts x [] i a e g = absurd (cc)
typed_counts x (b ∷ ts) zero a e g = let q : b ≡ a = same_Some b a e in omega (arith, same_one x b.link (sym (ap (λ z. z.link) q ∙ g)))
typed_counts x (b ∷ ts) (suc i) a e g = omega (arith, typed_counts x ts i a e g)

-- a link of two typed contexts has two places
pub two_typed : (x : ℕ) (ts : List HeadTyped) (i j : ℕ) (a b : HeadTyped) → slice_get ts i ≡ Some a → slice_get ts j ≡ Some b → a.link ≡ x → b.link ≡ x → i ≢ j → 2 ≤ places x (map (λ t. t.link) ts)
two_typed x [] i j a b e f g k d = absurd (cc)
two_typed x (c ∷ ts) zero zero a b e f g k d = absurd (d refl)
two_typed x (c ∷ ts) zero (suc j) a b e f g k d = let q : c ≡ a = same_Some c a e in omega (arith, same_one x c.link (sym (ap (λ z. z.link) q ∙ g)), typed_counts x ts j b f k)
two_typed x (c ∷ ts) (suc i) zero a b e f g k d = let q : c ≡ b = same_Some c b f in omega (arith, same_one x c.link (sym (ap (λ z. z.link) q ∙ k)), typed_counts x ts i a e g)
two_typed x (c ∷ ts) (suc i) (suc j) a b e f g k d = omega (arith, two_typed x ts i j a b e f g k (λ q. d (ap suc q)))

-- ---- where one first stands

-- the number given to the first port at which a link stands
abbrev pub first_name : (Port → ℕ) → List Occurrence → ℕ → ℕ
first_name g [] x = 0
first_name g (o ∷ os) x = cond (o.link == x) (g o.port) (first_name g os x)

-- a link stands at this port, if the first atom has the number n
abbrev pub StandsAt : ℕ → List HeadAtom → ℕ → Port → Type 0
StandsAt n as' x p = (i : ℕ) × (a : HeadAtom) × (p.0 ≡ n + i) × (slice_get as' i ≡ Some a) × (slice_get a.links p.1 ≡ Some x)

first_port : (g : Port → ℕ) (n k : ℕ) (ys : List ℕ) (os : List Occurrence) (x : ℕ) →
    ((j : ℕ) × (slice_get ys j ≡ Some x) × (first_name g (at_ports n k ys ++ os) x ≡ g (n, k + j))) ⊎ (((j : ℕ) → slice_get ys j ≢ Some x) × (first_name g (at_ports n k ys ++ os) x ≡ first_name g os x))
first_port g n k [] os x = inr ((λ j e. absurd (cc)), refl)
first_port g n k (y ∷ ys) os x = elim (cases_eq y x) [
  | inl e ↦ inl (0, ap Some e, (let z : k + 0 ≡ k = omega arith in rw (eq-eqb y x e) (rw z refl)))
  | inr d ↦ elim (first_port g n (k + 1) ys os x) [
    | inl u ↦ inl (suc u.0, u.1, (let z : k + suc u.0 ≡ (k + 1) + u.0 = omega arith in rw (apart_test y x d) (rw z u.2)))
    | inr u ↦ inr (later d u.0, rw (apart_test y x d) u.1)
  ]
]
  where
    later : y ≢ x → ((j : ℕ) → slice_get ys j ≢ Some x) → (j : ℕ) → slice_get (y ∷ ys) j ≢ Some x
    later d h zero e = d (same_Some y x e)
    later d h (suc j) e = h j e

-- the first name of a link is that of a port where it stands
pub first_found : (g : Port → ℕ) (n : ℕ) (as' : List HeadAtom) (x : ℕ) (p : Port) → StandsAt n as' x p → (q : Port) × StandsAt n as' x q × (first_name g (at_atoms n as') x ≡ g q)
first_found g n [] x p s = absurd (let e = s.3 in cc)
first_found g n (a ∷ as') x p s = elim (first_port g n 0 a.links (at_atoms (n + 1) as') x) [
  | inl u ↦ ((n, 0 + u.0), (0, a, omega arith, refl, (let z : 0 + u.0 ≡ u.0 = omega arith in rw z u.1)), u.2)
  | inr u ↦ (let r = first_found g (n + 1) as' x p (behind s.0 refl s.1 s.2 s.3 s.4 u.0) in (r.0, (suc r.1.0, r.1.1, omega (arith, r.1.2), r.1.3, r.1.4), u.1 ∙ r.2))
]
  where
    behind : (i : ℕ) → i ≡ i → (b : HeadAtom) → p.0 ≡ n + i → slice_get (a ∷ as') i ≡ Some b → slice_get b.links p.1 ≡ Some x → ((j : ℕ) → slice_get a.links j ≢ Some x) → StandsAt (n + 1) as' x p
    behind zero w b e f y none = let z : a ≡ b = same_Some a b f in absurd (none p.1 (subst (λ c. slice_get c.links p.1 ≡ Some x) (sym z) y))
    behind (suc i) w b e f y none = (i, b, omega (arith, e), f, y)
