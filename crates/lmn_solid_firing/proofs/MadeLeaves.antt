-- What the leaves of a body make is what the calculus says.
use Rattle.std.proofs.Common.{ℕ, ℤ, zero, suc, ◌≡◌, ◌≢◌, ◌⊎◌, ◌+◌, ◌-◌, ◌<◌, ◌≤◌, Bool, true, false, cond, List, [], ◌∷◌, ◌++◌, length, map, Option, Some, None, inl, inr, refl, sym, ap, subst, ◌∙◌, arith}
use Rattle.std.specs.Prelude.{◌==◌, ◌&&◌}
use Rattle.std.specs.List.{AllByRecursion}
use Rattle.std.proofs.lemmas.List.{length-map}
use Rattle.lmn_base.proofs.Lists.{map_append, map_itself}
use Rattle.lmn_base.proofs.Numbers.{equal_itself, not_equal, same_or_not}
use Rattle.lmn_base.specs.Solids.{connector}
use Rattle.lmn_base.specs.declared.functor.Functor.{Functor}
use Rattle.lmn_base.specs.declared.functor.Label.{Label}
use Rattle.lmn_base.specs.declared.functor.Label.TheVariants as label
use Rattle.lmn_base.specs.declared.level.Leaf.{Leaf}
use Rattle.lmn_base.specs.declared.level.Leaf.TheVariants as leaf
use Rattle.lmn_base.specs.declared.level.Occ.{Occ}
use Rattle.lmn_base.specs.declared.solid.SolidAtom.{SolidAtom}
use Rattle.lmn_congruence.specs.Orders.{Among, at_head, further}
use Rattle.lmn_congruence.specs.Plains.{fused_leaves}
use Rattle.lmn_congruence.specs.Regions as solid
use Rattle.lmn_congruence.specs.Rules as tree
use Rattle.lmn_congruence.specs.Rules.{Name}
use Rattle.lmn_congruence.specs.Same.{renamed_atom}
use Rattle.lmn_congruence.specs.Translation.{atom_or_connector, label_of, leaf_of, name_of}
use Rattle.lmn_adequacy.specs.Embedding.{Contents, IsPart}
use Rattle.lmn_adequacy.specs.Next.{DepthFirst, links_at, part_leaves}
use Rattle.lmn_adequacy.proofs.Depth.{renamed_links}
use Rattle.lmn_store_heap.specs.Functors.{same_functor}
use Rattle.lmn_solid_bodies.specs.Running.{integer_functor}
use Rattle.lmn_adequacy_heaps.specs.HeapRegions.{HeapReading, atoms_at}
use Rattle.lmn_congruence_splice.specs.Splice.{of_rule, of_solid}
use Rattle.lmn_adequacy_turns.proofs.Bodies.{fused_made, integer_atom, integer_first, integer_part}
use Rattle.lmn_adequacy_turns.proofs.CopiedParts.{renamed_depth_first, renamed_part}
use Rattle.lmn_solid_tables.specs.Flats.{heap_of, link_at}
use Rattle.lmn_solid_tables.specs.declared.flat.Flat.{Flat}
use Rattle.lmn_solid_firing.specs.declared.match_.Match.{Match}
use Rattle.lmn_solid_firing.specs.declared.match_.Part.{Part}
use Rattle.lmn_solid_firing.specs.declared.writing.Writing.TheVariants.{Rooted as Root}
use Rattle.lmn_solid_firing.specs.Making.{body_atom, integer_atoms, leaf_next, leaves_atoms, leaves_next, pair_of, pairs_of, typed_atoms, typed_next, written_atoms}
use Rattle.lmn_solid_firing.specs.Meant.{LeafFits, MeansPart, integer_named, part_named}
use Rattle.lmn_solid_firing.specs.Spelled.{leaf_connectors, mapped_pair}
use Rattle.lmn_solid_firing.proofs.NumberLemmas.{of_copy, of_own, raw_link}
use Rattle.lmn_solid_firing.proofs.LinksUnder.{atoms_under, renamed_among}
use Rattle.lmn_solid_firing.proofs.Ranges.{RangedLeaves, ranged_atom, ranged_connector, ranged_copy, ranged_none}
use Rattle.lmn_solid_firing.proofs.Reading.{atoms_read, leaves_fused, read_atom}

-- ---- connectors

pub connectors_both : (xs ys : List tree.Leaf) → leaf_connectors (xs ++ ys) ≡ leaf_connectors xs ++ leaf_connectors ys
connectors_both [] ys = refl
connectors_both (tree.atom_leaf a zs ∷ xs) ys = connectors_both xs ys
connectors_both (tree.connector_leaf a b ∷ xs) ys = ap (λ l. (a, b) ∷ l) (connectors_both xs ys)
connectors_both (tree.typed_leaf p x ∷ xs) ys = connectors_both xs ys

no_connector_made : (xs : List solid.SolidAtom) → leaf_connectors (part_leaves xs) ≡ []
no_connector_made [] = refl
no_connector_made (x ∷ xs) = no_connector_made xs

-- ---- an atom of a body

-- an atom that isn't a connector
other_atom : (b : Bool) (g : Functor) (zs : List ℕ) → length zs ≢ 2 → (body_atom b g zs ≡ (record { functor = g; links = zs }) ∷ []) × (pair_of b zs ≡ [])
other_atom true g [] d = (refl, refl)
other_atom true g (a ∷ []) d = (refl, refl)
other_atom true g (a ∷ (b ∷ [])) d = absurd (d refl)
other_atom true g (a ∷ (b ∷ (c ∷ zs))) d = (refl, refl)
other_atom false g zs d = (refl, refl)

plain_atom : (b : Bool) (g : Functor) (zs : List ℕ) → b ≡ false → (body_atom b g zs ≡ (record { functor = g; links = zs }) ∷ []) × (pair_of b zs ≡ [])
plain_atom b g zs e = subst (λ k. (body_atom k g zs ≡ (record { functor = g; links = zs }) ∷ []) × (pair_of k zs ≡ [])) (sym e) (refl, refl)

-- a leaf with the links ys is an atom or a connector, and so it is made, with links zs
abbrev pub IsMadeAs : List Name → Functor → List ℕ → Type 0
IsMadeAs names f ys =
    ((x : ℕ) × (y : ℕ) × (ys ≡ x ∷ (y ∷ [])) × (atom_or_connector names f.label ys ≡ tree.connector_leaf x y) × (same_functor f connector ≡ true))
    ⊎ ((atom_or_connector names f.label ys ≡ tree.atom_leaf (label_of names f.label) ys)
    × ((zs : List ℕ) → length zs ≡ length ys → (body_atom (same_functor f connector) f zs ≡ (record { functor = f; links = zs }) ∷ []) × (pair_of (same_functor f connector) zs ≡ [])))

pub made_as : (names : List Name) (f : Functor) (ys : List ℕ) → length ys ≡ f.arity → IsMadeAs names f ys
made_as names f ys e = by f.label f.arity ys e
  where
    by : (l : Label) (n : ℕ) (ys : List ℕ) → length ys ≡ n → IsMadeAs names (record { label = l; arity = n }) ys
    by (label.Name zero) n [] e = inr (refl, λ zs k. other_atom _ _ zs (λ q. omega (arith, q, k)))
    by (label.Name zero) n (a ∷ []) e = inr (refl, λ zs k. other_atom _ _ zs (λ q. omega (arith, q, k)))
    by (label.Name zero) n (a ∷ (b ∷ [])) e = inl (a, b, refl, refl, subst (λ k. same_functor (record { label = label.Name 0; arity = k }) connector ≡ true) e refl)
    by (label.Name zero) n (a ∷ (b ∷ (c ∷ ys))) e = inr (refl, λ zs k. other_atom _ _ zs (λ q. omega (arith, q, k)))
    by (label.Name (suc k)) n ys e = inr (refl, λ zs q. plain_atom (same_functor (record { label = label.Name (suc k); arity = n }) connector) (record { label = label.Name (suc k); arity = n }) zs (ap (λ b. b && (n == 2)) (not_equal (suc k) 0 (λ q. omega (arith, q)))))
    by (label.Int z) n ys e = inr (refl, λ zs q. plain_atom (same_functor (record { label = label.Int z; arity = n }) connector) (record { label = label.Int z; arity = n }) zs refl)

module _ (flat : Flat) (t : Match) (names : List Name) (rule : ℕ → tree.Rule) (R : ℕ) (c : Contents) (below : (a i : ℕ) → link_at flat a i < t.links) where
  abbrev reading : HeapReading
  reading = record { name = link_at flat; names = names; rule = rule }

  -- links of a rule behind those of the solid
  own_links : (os : List Occ) → AllByRecursion (λ o. o.link < R) os → map (raw_link t.links R) (map (λ o. t.links + o.link) os) ≡ map of_rule (map (λ o. o.link) os)
  own_links [] b = refl
  own_links (o ∷ os) b = λ i. of_own t.links R o.link b.0 i ∷ own_links os b.1 i

  -- ---- copies

  -- where the links of a copy go
  abbrev into : Part → ℕ → ℕ → ℕ → ℕ
  into p x next y = cond (y == p.link) (of_rule x) (of_solid ((next - R) + y))

  into_apart : (p : Part) (x next y z : ℕ) → into p x next y ≡ into p x next z → y ≡ z
  into_apart p x next y z = by (same_or_not y p.link) (same_or_not z p.link)
    where
      at_root : (u : ℕ) → u ≡ p.link → into p x next u ≡ of_rule x
      at_root u e = ap (λ b. cond b (of_rule x) (of_solid ((next - R) + u))) (ap (λ k. k == p.link) e ∙ equal_itself p.link)

      elsewhere : (u : ℕ) → u ≢ p.link → into p x next u ≡ of_solid ((next - R) + u)
      elsewhere u d = ap (λ b. cond b (of_rule x) (of_solid ((next - R) + u))) (not_equal u p.link d)

      by : (y ≡ p.link) ⊎ (y ≢ p.link) → (z ≡ p.link) ⊎ (z ≢ p.link) → into p x next y ≡ into p x next z → y ≡ z
      by (inl a) (inl b) e = a ∙ sym b
      by (inl a) (inr b) e = absurd (let q = sym (at_root y a) ∙ e ∙ elsewhere z b in omega (arith, q))
      by (inr a) (inl b) e = absurd (let q = sym (elsewhere y a) ∙ e ∙ at_root z b in omega (arith, q))
      by (inr a) (inr b) e = let q = sym (elsewhere y a) ∙ e ∙ elsewhere z b in omega (arith, q)

  into_root : (p : Part) (x next : ℕ) → into p x next p.link ≡ of_rule x
  into_root p x next = ap (λ b. cond b (of_rule x) (of_solid ((next - R) + p.link))) (equal_itself p.link)

  -- it is read so
  into_read : (p : Part) (x next : ℕ) → x < R → t.links + R ≤ next → (y : ℕ) → y < t.links → raw_link t.links R (cond (y == p.link) (t.links + x) (next + y)) ≡ into p x next y
  into_read p x next l m y k = by (y == p.link)
    where
      by : (b : Bool) → raw_link t.links R (cond b (t.links + x) (next + y)) ≡ cond b (of_rule x) (of_solid ((next - R) + y))
      by true = of_own t.links R x l
      by false = of_copy t.links R next y m

  -- the copy of a part
  abbrev copy : Part → ℕ → ℕ → List solid.SolidAtom
  copy p x next = map (renamed_atom (into p x next)) (atoms_at (heap_of flat) (record { name = link_at flat; names = names; rule = rule }) p.atoms)

  copy_read : (p : Part) (x next : ℕ) → x < R → t.links + R ≤ next → fused_leaves (λ z. z) (part_leaves (copy p x next)) ≡ map (read_atom names (raw_link t.links R)) (written_atoms flat (Root p.link (t.links + x) next) p.atoms)
  copy_read p x next l m =
      fused_made (λ z. z) (copy p x next)
      ∙ itself (copy p x next)
      ∙ sym (atoms_read flat names rule t.links below (raw_link t.links R) (into p x next) (Root p.link (t.links + x) next) (into_read p x next l m) p.atoms)
    where
      itself : (xs : List solid.SolidAtom) → map (renamed_atom (λ z. z)) xs ≡ xs
      itself [] = refl
      itself (a ∷ as') = λ i. record { label = a.label; links = map_itself a.links i } ∷ itself as' i

  -- ---- leaves

  -- what leaves make, as raw leaves, where the copies have links in a range
  pub record LeavesSpelt (a e : ℕ) (ls : List tree.Leaf) (xs : List SolidAtom) (ps : List (ℕ × ℕ)) : Type 0 where
    pub outs : List tree.Leaf
    pub makes : RangedLeaves c a e ls outs
    pub atoms : fused_leaves (λ z. z) outs ≡ map (read_atom names (raw_link t.links R)) xs
    pub pairs : leaf_connectors outs ≡ map (mapped_pair (raw_link t.links R)) ps

  -- one leaf more, which makes these
  more : (a b e : ℕ) (l : tree.Leaf) (ls : List tree.Leaf) (os : List tree.Leaf) (ys xs : List SolidAtom) (qs ps : List (ℕ × ℕ)) → ((outs : List tree.Leaf) → RangedLeaves c b e ls outs → RangedLeaves c a e (l ∷ ls) (os ++ outs)) →
      fused_leaves (λ z. z) os ≡ map (read_atom names (raw_link t.links R)) ys → leaf_connectors os ≡ map (mapped_pair (raw_link t.links R)) qs → LeavesSpelt b e ls xs ps → LeavesSpelt a e (l ∷ ls) (ys ++ xs) (qs ++ ps)
  more a b e l ls os ys xs qs ps f read p u = record {
    outs = os ++ u.outs;
    makes = f u.outs u.makes;
    atoms = leaves_fused os u.outs ∙ (λ i. read i ++ u.atoms i) ∙ sym (map_append (read_atom names (raw_link t.links R)) ys xs);
    pairs = connectors_both os u.outs ∙ (λ i. p i ++ u.pairs i) ∙ sym (map_append (mapped_pair (raw_link t.links R)) qs ps);
  }

  atom_more : (a e : ℕ) (f : Functor) (os : List Occ) (ls : List tree.Leaf) (xs : List SolidAtom) (ps : List (ℕ × ℕ)) → length os ≡ f.arity → AllByRecursion (λ o. o.link < R) os → LeavesSpelt a e ls xs ps →
      let zs = map (λ o. t.links + o.link) os in
      LeavesSpelt a e (atom_or_connector names f.label (map (λ o. o.link) os) ∷ ls) (body_atom (same_functor f connector) f zs ++ xs) (pair_of (same_functor f connector) zs ++ ps)
  atom_more a e f os ls xs ps long b u = by (made_as names f ys (length-map os (λ o. o.link) ∙ long))
    where
      ys : List ℕ
      ys = map (λ o. o.link) os

      zs : List ℕ
      zs = map (λ o. t.links + o.link) os

      as_long : length zs ≡ length ys
      as_long = length-map os (λ o. t.links + o.link) ∙ sym (length-map os (λ o. o.link))

      read : map (raw_link t.links R) zs ≡ map of_rule ys
      read = own_links os b

      two : (x y : ℕ) (us : List ℕ) → length us ≡ 2 → map (raw_link t.links R) us ≡ x ∷ (y ∷ []) → (k : Bool) → k ≡ true →
          (body_atom k f us ≡ []) × (map (mapped_pair (raw_link t.links R)) (pair_of k us) ≡ (x, y) ∷ [])
      two x y [] n e k is = absurd (omega (arith, n))
      two x y (a ∷ []) n e k is = absurd (omega (arith, n))
      two x y (a ∷ (d ∷ [])) n e k is =
          let first : raw_link t.links R a ≡ x = cc in
          let second : raw_link t.links R d ≡ y = cc in
          subst (λ z. (body_atom z f (a ∷ (d ∷ [])) ≡ []) × (map (mapped_pair (raw_link t.links R)) (pair_of z (a ∷ (d ∷ []))) ≡ (x, y) ∷ [])) (sym is) (refl, λ i. (first i, second i) ∷ [])
      two x y (a ∷ (d ∷ (g ∷ us))) n e k is = absurd (omega (arith, n))

      by : IsMadeAs names f ys → LeavesSpelt a e (atom_or_connector names f.label ys ∷ ls) (body_atom (same_functor f connector) f zs ++ xs) (pair_of (same_functor f connector) zs ++ ps)
      by (inl (x, y, is, tl, s)) =
          let w = two (of_rule x) (of_rule y) zs (as_long ∙ ap length is) (read ∙ ap (map of_rule) is) (same_functor f connector) s in
          more a a e (atom_or_connector names f.label ys) ls (tree.connector_leaf (of_rule x) (of_rule y) ∷ []) (body_atom (same_functor f connector) f zs) xs (pair_of (same_functor f connector) zs) ps
          (λ outs m. subst (λ z. RangedLeaves c a e (z ∷ ls) (tree.connector_leaf (of_rule x) (of_rule y) ∷ outs)) (sym tl) (ranged_connector m))
          (ap (map (read_atom names (raw_link t.links R))) (sym w.0)) (sym w.1) u
      by (inr (tl, w)) =
          let k = w zs as_long in
          more a a e (atom_or_connector names f.label ys) ls (tree.atom_leaf (label_of names f.label) (map of_rule ys) ∷ []) (body_atom (same_functor f connector) f zs) xs (pair_of (same_functor f connector) zs) ps
          (λ outs m. subst (λ z. RangedLeaves c a e (z ∷ ls) (tree.atom_leaf (label_of names f.label) (map of_rule ys) ∷ outs)) (sym tl) (ranged_atom m))
          ((λ i. record { label = label_of names f.label; links = (map_itself (map of_rule ys) ∙ sym read) i } ∷ []) ∙ ap (map (read_atom names (raw_link t.links R))) (sym k.0))
          (ap (map (mapped_pair (raw_link t.links R))) (sym k.1)) u

  -- an integer of the guard
  integers_are : (es : List (ℕ × ℤ)) (n x : ℕ) (z : ℤ) → integer_named es n ≡ Some z → integer_atoms es n x ≡ (record { functor = integer_functor z; links = x ∷ [] }) ∷ []
  integers_are [] n x z e = absurd (cc)
  integers_are (d ∷ es) n x z e = by (d.0 == n) e (λ q. integers_are es n x z q)
    where
      by : (b : Bool) → cond b (Some d.1) (integer_named es n) ≡ Some z → (integer_named es n ≡ Some z → integer_atoms es n x ≡ (record { functor = integer_functor z; links = x ∷ [] }) ∷ []) →
          cond b ((record { functor = integer_functor d.1; links = x ∷ [] }) ∷ []) (integer_atoms es n x) ≡ (record { functor = integer_functor z; links = x ∷ [] }) ∷ []
      by true q f = let same : d.1 ≡ z = cc in ap (λ k. (record { functor = integer_functor k; links = x ∷ [] }) ∷ []) same
      by false q f = f q

  -- what a typed context makes, by its part
  abbrev typed_by : Option Part → ℕ → ℕ → ℕ → List SolidAtom
  typed_by (Some p) n x next = written_atoms flat (Root p.link x next) p.atoms
  typed_by None n x next = integer_atoms t.integers n x

  typed_is : (ps : List Part) (n x next : ℕ) → typed_atoms flat ps t.integers n x next ≡ typed_by (part_named ps n) n x next
  typed_is [] n x next = refl
  typed_is (p ∷ ps) n x next = by (p.name == n) (typed_is ps n x next)
    where
      by : (b : Bool) → typed_atoms flat ps t.integers n x next ≡ typed_by (part_named ps n) n x next →
          cond b (written_atoms flat (Root p.link x next) p.atoms) (typed_atoms flat ps t.integers n x next) ≡ typed_by (cond b (Some p) (part_named ps n)) n x next
      by true e = refl
      by false e = e

  -- where the links of the copy behind it are
  abbrev next_by : Option Part → ℕ → ℕ
  next_by (Some p) next = next + t.links
  next_by None next = next

  next_is : (ps : List Part) (n next : ℕ) → typed_next t.links ps n next ≡ next_by (part_named ps n) next
  next_is [] n next = refl
  next_is (p ∷ ps) n next = by (p.name == n) (next_is ps n next)
    where
      by : (b : Bool) → typed_next t.links ps n next ≡ next_by (part_named ps n) next → cond b (next + t.links) (typed_next t.links ps n next) ≡ next_by (cond b (Some p) (part_named ps n)) next
      by true e = refl
      by false e = e

  -- a link of a copy is the one that holds it, or one of the range
  into_range : (p : Part) (x next y : ℕ) → t.links + R ≤ next → y < t.links → (into p x next y ≡ of_rule x) ⊎ ((L : ℕ) × (into p x next y ≡ of_solid L) × (next - R ≤ L) × (L < (next + t.links) - R))
  into_range p x next y m l = by (y == p.link)
    where
      by : (b : Bool) → (cond b (of_rule x) (of_solid ((next - R) + y)) ≡ of_rule x) ⊎ ((L : ℕ) × (cond b (of_rule x) (of_solid ((next - R) + y)) ≡ of_solid L) × (next - R ≤ L) × (L < (next + t.links) - R))
      by true = inl refl
      by false = inr ((next - R) + y, refl, omega arith, omega (arith, m, l))

  copy_range : (p : Part) (x next : ℕ) → t.links + R ≤ next → (z : ℕ) → Among z (links_at (copy p x next)) → (z ≡ of_rule x) ⊎ ((L : ℕ) × (z ≡ of_solid L) × (next - R ≤ L) × (L < (next + t.links) - R))
  copy_range p x next m z k =
      let kept = atoms_at (heap_of flat) reading p.atoms in
      let w = renamed_among (into p x next) z (links_at kept) (subst (Among z) (renamed_links (into p x next) kept) k) in
      let y : ℕ = w.0 in
      let e : z ≡ into p x next y = w.2 in
      elim (into_range p x next y m (atoms_under (heap_of flat) reading t.links below p.atoms y w.1)) [
        | inl i ↦ inl (e ∙ i)
        | inr (L, i, a, b) ↦ inr (L, e ∙ i, a, b)
      ]

  integer_range : (z x a b : ℕ) → (y : ℕ) → Among y (x ∷ []) → (y ≡ x) ⊎ ((L : ℕ) × (y ≡ of_solid L) × (a ≤ L) × (L < b))
  integer_range z x a b y at_head = inl refl
  integer_range z x a b y (further k) = elim k [ ]

  typed_more : (n x next e : ℕ) (ls : List tree.Leaf) (xs : List SolidAtom) (ps : List (ℕ × ℕ)) → x < R → t.links + R ≤ next → (o : Option Part) →
      MeansPart (heap_of flat) (record { name = link_at flat; names = names; rule = rule }) t c n o → LeavesSpelt (next_by o next - R) e ls xs ps → LeavesSpelt (next - R) e (tree.typed_leaf (name_of names n) x ∷ ls) (typed_by o n (t.links + x) next ++ xs) ps
  typed_more n x next e ls xs ps l m (Some p) s u =
      let one : (y z : ℕ) → Among y (links_at (atoms_at (heap_of flat) reading p.atoms)) → Among z (links_at (atoms_at (heap_of flat) reading p.atoms)) → into p x next y ≡ into p x next z → y ≡ z = λ y z i j. into_apart p x next y z in
      let is = renamed_part (into p x next) (c.typed_of (name_of names n)) p.link (atoms_at (heap_of flat) reading p.atoms) one s.is in
      let order = renamed_depth_first (into p x next) p.link (atoms_at (heap_of flat) reading p.atoms) one s.held s.in_order in
      more (next - R) ((next + t.links) - R) e (tree.typed_leaf (name_of names n) x) ls (part_leaves (copy p x next)) (written_atoms flat (Root p.link (t.links + x) next) p.atoms) xs [] ps
      (λ outs w. ranged_copy (subst (λ k. IsPart (c.typed_of (name_of names n)) k (copy p x next)) (into_root p x next) is) (subst (λ k. DepthFirst k (copy p x next)) (into_root p x next) order) (omega (arith, m)) (copy_range p x next m) w)
      (copy_read p x next l m) (no_connector_made (copy p x next)) u
  typed_more n x next end ls xs ps l m None (z, e, i) u =
      let atom = integer_atom z x in
      more (next - R) (next - R) end (tree.typed_leaf (name_of names n) x) ls (part_leaves (atom ∷ [])) (integer_atoms t.integers n (t.links + x)) xs [] ps
      (λ outs w. ranged_copy (integer_part z (c.typed_of (name_of names n)) x i) (integer_first z x) (omega arith) (integer_range 0 (of_rule x) (next - R) (next - R)) w)
      ((λ j. record { label = tree.integer z; links = sym (of_own t.links R x l) j ∷ [] } ∷ []) ∙ ap (map (read_atom names (raw_link t.links R))) (sym (integers_are t.integers n (t.links + x) z e)))
      refl u

  typed_grows : (ps : List Part) (n next : ℕ) → next ≤ typed_next t.links ps n next
  typed_grows [] n next = omega arith
  typed_grows (p ∷ ps) n next = by (p.name == n) (typed_grows ps n next)
    where
      by : (b : Bool) → next ≤ typed_next t.links ps n next → next ≤ cond b (next + t.links) (typed_next t.links ps n next)
      by true e = omega arith
      by false e = e

  leaf_grows : (l : Leaf) (next : ℕ) → next ≤ leaf_next t l next
  leaf_grows (leaf.Atom f os pos) next = omega arith
  leaf_grows (leaf.Typed n o pos) next = typed_grows t.parts n next

  pub leaves_grow : (ls : List Leaf) (next : ℕ) → next ≤ leaves_next t ls next
  leaves_grow [] next = omega arith
  leaves_grow (l ∷ ls) next = let a = leaf_grows l next in let b = leaves_grow ls (leaf_next t l next) in omega (arith, a, b)

  -- all leaves of a level
  pub leaves_spelt : (ls : List Leaf) (next : ℕ) → t.links + R ≤ next → AllByRecursion (LeafFits (heap_of flat) (record { name = link_at flat; names = names; rule = rule }) t c R) ls →
      LeavesSpelt (next - R) (leaves_next t ls next - R) (map (leaf_of names) ls) (leaves_atoms flat t next ls) (pairs_of t ls)
  leaves_spelt [] next m f = record { outs = []; makes = ranged_none; atoms = refl; pairs = refl }
  leaves_spelt (leaf.Atom g os pos ∷ ls) next m f = atom_more (next - R) (leaves_next t ls next - R) g os (map (leaf_of names) ls) (leaves_atoms flat t next ls) (pairs_of t ls) f.0.0 f.0.1 (leaves_spelt ls next m f.1)
  leaves_spelt (leaf.Typed n o pos ∷ ls) next m f =
      let further = leaf_grows (leaf.Typed n o pos) next in
      let after = leaf_next t (leaf.Typed n o pos) next in
      let end = leaves_next t ls (leaf_next t (leaf.Typed n o pos) next) - R in
      let rest = leaves_spelt ls after (omega (arith, m, further)) f.1 in
      subst (λ ys. LeavesSpelt (next - R) end (tree.typed_leaf (name_of names n) o.link ∷ map (leaf_of names) ls) (ys ++ leaves_atoms flat t after ls) (pairs_of t ls)) (sym (typed_is t.parts n (t.links + o.link) next))
      (typed_more n o.link next end (map (leaf_of names) ls) (leaves_atoms flat t after ls) (pairs_of t ls) f.0.0 m (part_named t.parts n) f.0.1
      (subst (λ k. LeavesSpelt (k - R) end (map (leaf_of names) ls) (leaves_atoms flat t after ls) (pairs_of t ls)) (next_is t.parts n next) rest))
