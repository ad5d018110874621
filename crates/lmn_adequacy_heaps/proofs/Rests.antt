-- What is left in the image of a membrane, and that no link leaves it exactly where its process is closed.
use Rattle.std.proofs.Common.{ℕ, ◌≡◌, ◌≢◌, ◌+◌, ◌<◌, ◌≤◌, ◌⊎◌, List, [], ◌∷◌, ◌++◌, map, Option, Some, None, IsSome, refl, sym, subst, ◌∙◌, inl, inr, arith}
use Rattle.std.proofs.lemmas.Bool.{cases_eq}
use Rattle.lmn_store_heap.specs.Heap.{Heap, IsAtom, arity_of, atoms_in, link_of, mems_in}
use Rattle.lmn_store_heap.specs.Solid.{IsNaming}
use Rattle.lmn_store_heap.specs.Sound.{Forest, Valid}
use Rattle.lmn_store_heap.proofs.ListLemmas.{each_in, each_of, in_left, in_right}
use Rattle.lmn_store_heap.proofs.Replacing.{port_within}
use Rattle.lmn_solid_heads.specs.declared.items.HeadItem.{HeadItem}
use Rattle.lmn_solid_heads.specs.Embeddings.{Images}
use Rattle.lmn_congruence.specs.Links.{one_if_same, places}
use Rattle.lmn_congruence.specs.Process.{Closed, occurrences}
use Rattle.lmn_congruence.specs.Regions.{region, region_process}
use Rattle.lmn_congruence.specs.Rules as tree
use Rattle.lmn_reduction.specs.Parts.{Rooted}
use Rattle.lmn_adequacy_heaps.specs.HeapRegions.{HeapReading, regions_at}
use Rattle.lmn_adequacy_heaps.proofs.Pieces.{atom_at}
use Rattle.lmn_adequacy_heaps.proofs.Counting.{ends_among, forest_atoms, in_atoms, in_regions, list_atoms, times_at, weigh_same}
use Rattle.lmn_adequacy_heaps.proofs.Forests.{Grown, each_forest, find_in, some_of, taken_others, top_within, tops, within_top}
use Rattle.lmn_adequacy_heaps.proofs.Laying.{LeftIn, NoneLeaves, all_atoms, all_membranes, all_parts}
use Rattle.lmn_adequacy_heaps.proofs.Lying.{Lies, LiesIn, lies, lies_and, lies_none}
use Rattle.lmn_adequacy_heaps.proofs.PartsOut.{flattened, parts_both}
use Rattle.lmn_adequacy_heaps.proofs.Weighing.{weigh_out}
use Rattle.lmn_adequacy_heaps.proofs.Ports.{find_place, port_named}
use Rattle.lmn_congruence.proofs.TranslatedLinks.{places_append as places_both}
use Rattle.lmn_base.proofs.Lists.{in_either, weigh, weigh_append}
use Rattle.lmn_base.specs.Lists.{In}
use Rattle.std.specs.List.{AllByRecursion}

-- each membrane that stands first is the image of one of the level, or is left
pub tops_taken : {h : Heap} {r : HeapReading} {link_of' : ℕ → ℕ} {typed_of : tree.Name → Rooted} {Q : tree.Level → ℕ → List ℕ → Forest → Forest → Type 0} {ls : tree.Levels} {bs ms ns : List ℕ} {ps : List (List ℕ)} {f f' : Forest}
    → LiesIn h r link_of' typed_of Q ls bs ps ms ns f f' → (b : ℕ) → In b (tops f) → In b ms ⊎ In b (tops f')
tops_taken lies_none b p = inr p
tops_taken (lies_and {m = m} {ms = ms} {ks = ks} k d q more) b p = elim (cases_eq m b) [
  | inl e ↦ inl (inl e)
  | inr n ↦ elim (tops_taken more b (taken_others k b p n)) [ inl w ↦ inl (inr (in_right b ms ks w)) | inr w ↦ inr w ]
]

-- so it is where a level lies
pub tops_of : {h : Heap} {r : HeapReading} {link_of' : ℕ → ℕ} {typed_of : tree.Name → Rooted} {Q : tree.Level → ℕ → List ℕ → Forest → Forest → Type 0} {l : tree.Level} {bs ms ns xs rest : List ℕ} {ps : List (List ℕ)} {f f' : Forest}
    → Lies h r link_of' typed_of Q l bs ps ms ns xs rest f f' → (b : ℕ) → In b (tops f) → In b ms ⊎ In b (tops f')
tops_of (lies fit d e out k) b p = tops_taken k b p

-- each atom of a membrane's list is left, or it is an image or of a part
pub taken_or_left : {h : Heap} {r : HeapReading} {link_of' : ℕ → ℕ} {typed_of : tree.Name → Rooted} {Q : tree.Level → ℕ → List ℕ → Forest → Forest → Type 0} {l : tree.Level} {bs ms ns xs rest : List ℕ} {ps : List (List ℕ)} {f f' : Forest}
    → Lies h r link_of' typed_of Q l bs ps ms ns xs rest f f' → (b : ℕ) → In b xs → In b rest ⊎ (1 ≤ weigh (one_if_same b) bs + weigh (one_if_same b) (flattened ps))
taken_or_left (lies {bs = bs} {as' = as'} {xs = xs} {rest = rest} {parts = parts} {ps = ps} fit d e out k) b p =
    let u = weigh_out (one_if_same b) bs xs d e out in
    elim (cases_eq (places b rest) 0) [
      | inl z ↦ inr (omega (arith, u, z, weigh_same b rest, weigh_same b xs, some_of b xs p, weigh_append (one_if_same b) bs as', parts_both (one_if_same b) parts ps))
      | inr z ↦ inl (find_in b rest (omega (arith, z)))
    ]

module _ (h : Heap) (r : HeapReading) (f : Images) (part_at : ℕ → List ℕ) (link_of' : ℕ → ℕ) (typed_of : tree.Name → Rooted) (items : List HeadItem) where
  -- What is left of a membrane: atoms of its list and membranes of its forest, no image and no part among them; and all others
  -- are left.
  pub record LeftApart (m : ℕ) (xs : List ℕ) (i i' : Forest) : Type 0 where
    pub atoms : (b : ℕ) → In b xs → In b (atoms_in h m) × (¬ (In b (all_atoms h r f part_at link_of' typed_of items))) × (¬ (In b (all_parts h r f part_at link_of' typed_of items)))
    pub membranes : (c : ℕ) → In c (tops i') → In c (tops i) × (¬ (In c (all_membranes h r f part_at link_of' typed_of items)))
    pub once : (b : ℕ) → places b xs + places b (forest_atoms h i') ≤ 1
    pub atoms_back : (b : ℕ) → In b (atoms_in h m) → ¬ (In b (all_atoms h r f part_at link_of' typed_of items)) → ¬ (In b (all_parts h r f part_at link_of' typed_of items)) → In b xs
    pub membranes_back : (c : ℕ) → In c (tops i) → ¬ (In c (all_membranes h r f part_at link_of' typed_of items)) → In c (tops i')

module _ (h : Heap) (v : Valid h) (r : HeapReading) (naming : IsNaming h r.name) (f : Images) (part_at : ℕ → List ℕ) (link_of' : ℕ → ℕ) (typed_of : tree.Name → Rooted) (items : List HeadItem)
    (m : ℕ) (xs : List ℕ) (i i' : Forest) (a : LeftApart h r f part_at link_of' typed_of items m xs i i') (e : tops i ≡ mems_in h m) (g : Grown h i') where
  abbrev all_left : List ℕ
  all_left = xs ++ forest_atoms h i'

  left_here : (b : ℕ) → In b all_left → LeftIn h r f part_at link_of' typed_of items m b
  left_here b p = elim (in_either b xs (forest_atoms h i') p) [
    | inl k ↦ inl (a.atoms b k)
    | inr k ↦ (let w = within_top h v i' g b k in
        let u = a.membranes w.0 w.1 in
        inr (w.0, subst (In w.0) e u.0, u.1, w.2))
  ]

  here_left : (b : ℕ) → LeftIn h r f part_at link_of' typed_of items m b → In b all_left
  here_left b (inl w) = in_left b xs (forest_atoms h i') (a.atoms_back b w.0 w.1 w.2)
  here_left b (inr w) = in_right b xs (forest_atoms h i') (top_within h v i' g w.0 b (a.membranes_back w.0 (subst (In w.0) (sym e) w.1) w.2) w.3)

  left_once : (b : ℕ) → places b all_left ≤ 1
  left_once b = omega (arith, a.once b, places_both b xs (forest_atoms h i'))

  left_atoms : AllByRecursion (IsAtom h) all_left
  left_atoms = each_of (IsAtom h) all_left (λ b p. elim (in_either b xs (forest_atoms h i') p) [
    | inl k ↦ each_in (IsAtom h) (atoms_in h m) b (list_atoms h v m) (a.atoms b k).0
    | inr k ↦ each_in (IsAtom h) (forest_atoms h i') b (each_forest h v i') k
  ])

  left_count : (x : ℕ) → occurrences x (region_process (region (map (atom_at h r) xs) (regions_at h r i') [])) ≡ weigh (times_at h r x) all_left
  left_count x = omega (arith, in_atoms h r v x xs, in_regions h r v x i', weigh_append (times_at h r x) xs (forest_atoms h i'))

  heavy_member : (x : ℕ) (ys : List ℕ) → weigh (times_at h r x) ys ≢ 0 → (c : ℕ) × In c ys × (times_at h r x c ≢ 0)
  heavy_member x [] z = absurd (z refl)
  heavy_member x (y ∷ ys) z = elim (cases_eq (times_at h r x y) 0) [
    | inl w ↦ (let u = heavy_member x ys (λ q. z (omega (arith, w, q))) in (u.0, inr u.1, u.2))
    | inr w ↦ (y, inl refl, w)
  ]

  -- where no link leaves what is left its process is closed
  pub closed_rest : NoneLeaves h r f part_at link_of' typed_of items m → Closed (region_process (region (map (atom_at h r) xs) (regions_at h r i') []))
  closed_rest none x = elim (cases_eq (weigh (times_at h r x) all_left) 0) [
    | inl z ↦ inl (left_count x ∙ z)
    | inr d ↦ (let c = heavy_member x all_left d in
        let p = find_place x (atom_at h r c.0).links c.2 in
        let q = port_named h v r c.0 p.0 x p.1 in
        inr (left_count x ∙ at c.0 p.0 c.1 q.0 q.1 (link_of h c.0 p.0) refl (v.full c.0 p.0 q.1)))
  ]
    where
      at : (c j : ℕ) → In c all_left → r.name c j ≡ x → j < arity_of h c → (o : Option (ℕ × ℕ)) → link_of h c j ≡ o → IsSome o → weigh (times_at h r x) all_left ≡ 2
      at c j k n l None q s = absurd (cc)
      at c j k n l (Some d) q s =
          let w = ends_among h r v naming c j d.0 d.1 l q all_left left_atoms in
          let u = here_left d.0 (none c j d (left_here c k) q) in
          subst (λ z. weigh (times_at h r z) all_left ≡ 2) n (omega (arith, w, some_of c all_left k, some_of d.0 all_left u, left_once c, left_once d.0))

  -- and where its process is closed no link leaves it
  pub none_leaves : Closed (region_process (region (map (atom_at h r) xs) (regions_at h r i') [])) → NoneLeaves h r f part_at link_of' typed_of items m
  none_leaves c b j p u q =
      let k = here_left b u in
      let l = port_within h b j p q in
      let w = ends_among h r v naming b j p.0 p.1 l q all_left left_atoms in
      let o = left_count (r.name b j) in
      let s = some_of b all_left k in
      let z = left_once b in
      left_here p.0 (find_in p.0 all_left (elim (c (r.name b j)) [
        | inl n ↦ absurd (omega (arith, n, o, w, s))
        | inr n ↦ omega (arith, n, o, w, s, z)
      ]))
