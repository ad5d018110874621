-- How many images the atoms and membranes of a head have.
use Rattle.std.proofs.Common.{ℕ, suc, ◌≡◌, ◌+◌, List, [], ◌∷◌, map, length, refl, ap, subst, ◌∙◌, arith}
use Rattle.std.proofs.lemmas.List.{length-append}
use Rattle.lmn_base.specs.declared.level.Leaf.{Leaf}
use Rattle.lmn_base.specs.declared.level.Leaf.TheVariants as leaf
use Rattle.lmn_guards.specs.declared.plan.TypeKind.{TypeKind}
use Rattle.lmn_store_heap.specs.Heap.{Heap}
use Rattle.lmn_store_heap.specs.Sound.{Forest}
use Rattle.lmn_solid_heads.specs.Flattening.{leaf_items}
use Rattle.lmn_congruence.specs.Rules as tree
use Rattle.lmn_congruence.specs.Translation.{leaf_of}
use Rattle.lmn_reduction.specs.Parts.{Rooted}
use Rattle.lmn_adequacy.specs.Accepted.{NoConnectorLeaf, EachLevel, EachOf, own_leaves}
use Rattle.lmn_adequacy_heaps.specs.HeapRegions.{HeapReading}
use Rattle.lmn_adequacy_heaps.proofs.Pieces.{atom_at}
use Rattle.lmn_solid_heads.proofs.HeadTrees.{Head, Heads, head, no_head, head_and, size, flat_items, flat_membranes}
use Rattle.lmn_adequacy_heaps.proofs.HeadTrees.{tree_of, trees_of}
use Rattle.lmn_adequacy_heaps.proofs.Lying.{FitLeaves, fit_none, fit_typed, Lies, lies, LiesIn, lies_none, lies_and}
use Rattle.lmn_adequacy_heaps.proofs.Walking.{atoms_in_items, typed_in_items, membranes_in_items, atoms_both, typed_both, membranes_both, no_leaf_membrane}
use Rattle.lmn_adequacy_heaps.proofs.Laying.{only_atom}
use Rattle.lmn_adequacy_heaps.proofs.Back.{fit_one}
use Rattle.lmn_adequacy_heaps.proofs.PartsOut.{PartsOut, parts_none, parts_typed, out_rest}

module _ (h : Heap) (r : HeapReading) (link_of' : ℕ → ℕ) (typed_of : tree.Name → Rooted) (Q : tree.Level → ℕ → List ℕ → Forest → Forest → Type 0) (kind : ℕ → TypeKind) where
  -- each atom has one image
  pub leaf_length : (cur : ℕ) (ls : List Leaf) (bs : List ℕ) → NoConnectorLeaf (map (leaf_of r.names) ls) → FitLeaves (atom_at h r) link_of' (map (leaf_of r.names) ls) bs → length bs ≡ atoms_in_items (leaf_items kind cur ls)
  leaf_length cur [] bs o fit_none = refl
  leaf_length cur (leaf.Typed y l q ∷ ls) bs o (fit_typed fit) = leaf_length cur ls bs o fit
  leaf_length cur (leaf.Atom fu os q ∷ ls) bs o fit =
      let ys = map (λ o. o.link) os in
      let c = only_atom r.names fu.label ys (map (leaf_of r.names) ls) o in
      let u = fit_one (subst (λ l. FitLeaves (atom_at h r) link_of' (l ∷ map (leaf_of r.names) ls) bs) c.0 fit) in
      ap length u.are ∙ ap suc (leaf_length cur ls u.others c.1 u.fit)

  typed_length : (cur : ℕ) (ls : List Leaf) (parts : List (List ℕ)) {xs rest : List ℕ} → NoConnectorLeaf (map (leaf_of r.names) ls) → PartsOut (atom_at h r) link_of' typed_of (map (leaf_of r.names) ls) parts xs rest → length parts ≡ typed_in_items (leaf_items kind cur ls)
  typed_length cur [] parts o parts_none = refl
  typed_length cur (leaf.Typed y l q ∷ ls) parts o (parts_typed {parts = later} ground is m out) = ap suc (typed_length cur ls later o out)
  typed_length cur (leaf.Atom fu os q ∷ ls) parts {xs} {rest} o out =
      let c = only_atom r.names fu.label (map (λ o. o.link) os) (map (leaf_of r.names) ls) o in
      typed_length cur ls parts c.1 (out_rest (subst (λ l. PartsOut (atom_at h r) link_of' typed_of (l ∷ map (leaf_of r.names) ls) parts xs rest) c.0 out))

  mutual
    -- a level has as many images and parts as items
    pub level_length : (cur next : ℕ) (hd : Head) {bs ms ns xs rest : List ℕ} {ps : List (List ℕ)} {F F' : Forest} → EachLevel (λ l. NoConnectorLeaf (own_leaves l)) (tree_of r.names r.rule hd) → Lies h r link_of' typed_of Q (tree_of r.names r.rule hd) bs ps ms ns xs rest F F' →
        (length bs ≡ atoms_in_items (flat_items kind cur next hd)) × (length ms ≡ membranes_in_items (flat_items kind cur next hd)) × (length ps ≡ typed_in_items (flat_items kind cur next hd))
    level_length cur next (head leaves hs cs rcs rs) o (lies {bs = bs} {as' = as'} {parts = parts} {ps = ps} fit d e out k) =
        let u = membranes_length cur next hs o.1 k in
        let w = leaf_length cur leaves bs o.0 fit in
        let y = typed_length cur leaves parts o.0 out in
        let first = leaf_items kind cur leaves in
        let behind = flat_membranes kind cur next hs in
        (omega (arith, u.0, w, length-append bs as', atoms_both first behind), omega (arith, u.1, membranes_both first behind, no_leaf_membrane kind cur leaves), omega (arith, u.2, y, length-append parts ps, typed_both first behind))

    -- and so have membranes
    pub membranes_length : (cur next : ℕ) (hs : Heads) {bs ms ns : List ℕ} {ps : List (List ℕ)} {F F' : Forest} → EachOf (λ l. NoConnectorLeaf (own_leaves l)) (trees_of r.names r.rule hs) → LiesIn h r link_of' typed_of Q (trees_of r.names r.rule hs) bs ps ms ns F F' →
        (length bs ≡ atoms_in_items (flat_membranes kind cur next hs)) × (length ms ≡ membranes_in_items (flat_membranes kind cur next hs)) × (length ps ≡ typed_in_items (flat_membranes kind cur next hs))
    membranes_length cur next no_head o lies_none = (refl, refl, refl)
    membranes_length cur next (head_and hd hs) o (lies_and {as' = as'} {ps = ps} {ms = ms} {bs = bs} {qs = qs} {ks = ks} k d q more) =
        let first = flat_items kind next (next + 1) hd in
        let behind = flat_membranes kind cur (next + 1 + size hd) hs in
        let u = level_length next (next + 1) hd o.0 d in
        let w = membranes_length cur (next + 1 + size hd) hs o.1 more in
        (omega (arith, u.0, w.0, length-append as' bs, atoms_both first behind), omega (arith, u.1, w.1, length-append ms ks, membranes_both first behind), omega (arith, u.2, w.2, length-append ps qs, typed_both first behind))
