-- The numbers of the places at which a head lies in the lists of a heap.
use Rattle.std.proofs.Common.{ℕ, zero, suc, ◌≡◌, ◌≢◌, ◌+◌, ◌≤◌, ◌==◌, false, List, [], ◌∷◌, ◌++◌, map, length, refl, sym, ap, subst, ◌∙◌, arith}
use Rattle.std.proofs.lemmas.Bool.{eq-eqb}
use Rattle.std.proofs.lemmas.List.{append_assoc, append-nil}
use Rattle.lmn_base.specs.declared.level.Leaf.{Leaf}
use Rattle.lmn_base.specs.declared.level.Leaf.TheVariants as leaf
use Rattle.lmn_guards.specs.declared.plan.TypeKind.{TypeKind}
use Rattle.lmn_store_heap.specs.Heap.{Heap, atoms_in, mems_in}
use Rattle.lmn_store_heap.specs.Lists.{Distinct, without, without_all}
use Rattle.lmn_store_heap.specs.Sound.{Forest, bare, mem, flat, Valid}
use Rattle.lmn_store_heap.proofs.ListLemmas.{each_in}
use Rattle.lmn_solid_heads.specs.declared.items.HeadItem.{HeadItem}
use Rattle.lmn_solid_heads.specs.declared.items.HeadItem.TheVariants.{Atom, Typed, Membrane}
use Rattle.lmn_solid_heads.specs.Flattening.{leaf_items}
use Rattle.lmn_solid_heads.specs.Embeddings.{Images, index_of}
use Rattle.lmn_congruence.specs.Links.{one_if_same}
use Rattle.lmn_congruence.specs.Rules as tree
use Rattle.lmn_reduction.specs.Parts.{Rooted}
use Rattle.lmn_congruence.specs.Translation.{leaf_of}
use Rattle.lmn_adequacy.specs.Accepted.{NoConnectorLeaf, EachLevel, EachOf, own_leaves}
use Rattle.lmn_adequacy_heaps.specs.HeapRegions.{HeapReading}
use Rattle.lmn_adequacy_heaps.specs.Numbers.{numbers_left}
use Rattle.lmn_adequacy_heaps.proofs.Pieces.{atom_at, numbers}
use Rattle.lmn_adequacy_heaps.proofs.Counting.{weigh_same, forest_atoms}
use Rattle.lmn_solid_heads.proofs.HeadTrees.{Head, Heads, head, no_head, head_and, size, flat_items, flat_membranes}
use Rattle.lmn_adequacy_heaps.proofs.HeadTrees.{tree_of, trees_of}
use Rattle.lmn_adequacy_heaps.proofs.Lying.{FitLeaves, fit_none, fit_typed, TakenTree, tree_first, tree_later, Lies, lies, LiesIn, lies_none, lies_and}
use Rattle.lmn_adequacy_heaps.proofs.Walking.{atoms_in_items, membranes_in_items, flat_size, no_leaf_membrane, run}
use Rattle.lmn_adequacy_heaps.proofs.Weighing.{heavy_taken, level_weighs, weigh_out, weigh_nothing}
use Rattle.lmn_adequacy_heaps.proofs.Forests.{tops, Grown, taken_grown, taken_top, some_of, distinct_of}
use Rattle.lmn_adequacy_heaps.proofs.Laying.{only_atom}
use Rattle.lmn_adequacy_heaps.proofs.PartsOut.{flattened}
use Rattle.lmn_adequacy_heaps.proofs.Back.{Reads, reads_split, fit_one}
use Rattle.lmn_adequacy_heaps.proofs.Lengths.{level_length, leaf_length}
use Rattle.lmn_base.proofs.Lists.{weigh, weigh_append}
use Rattle.lmn_base.proofs.Numbers.{not_equal as apart_test}
use Rattle.lmn_base.specs.Lists.{In}
use Rattle.lmn_store_heap.proofs.Common.{all_more}
use Rattle.lmn_solid_heads.proofs.Common.{without_none as all_absent}

-- ---- lists

-- the place of a tree in a forest
taken_place : {n m : ℕ} {i f f' : Forest} → TakenTree n m i f f' → Distinct (tops f) → (n ≡ index_of m (tops f)) × (tops f' ≡ without m (tops f))
taken_place (tree_first {m = m} {i = i} {f = f}) d = (rw (eq-eqb m m refl) refl, rw (eq-eqb m m refl) refl)
taken_place (tree_later {n = n} {m = m} {k = k} {f = f} t) d =
    let u = taken_place t d.1 in
    let s : (k == m) ≡ false = apart_test k m (each_in (λ b. k ≢ b) (tops f) m d.0 (taken_top t)) in
    (rw s (ap suc u.0), rw s (ap (λ z. k ∷ z) u.1))

-- ---- parts of the items

numbers_both : (h : Heap) (f : Images) (n k : ℕ) (as' ms : List ℕ) (xs ys : List HeadItem) → numbers_left h f n k as' ms (xs ++ ys) ≡
    numbers_left h f n k as' ms xs ++ numbers_left h f (n + atoms_in_items xs) (k + membranes_in_items xs) (as' ++ run f.atom n (atoms_in_items xs)) (ms ++ run f.membrane k (membranes_in_items xs)) ys
numbers_both h f n k as' ms [] ys =
    let zn : n + 0 ≡ n = omega arith in
    let zk : k + 0 ≡ k = omega arith in
    λ j. numbers_left h f (sym zn j) (sym zk j) (sym (append-nil as') j) (sym (append-nil ms) j) ys
numbers_both h f n k as' ms (Atom fu ls i ∷ xs) ys =
    let zn : (n + 1) + atoms_in_items xs ≡ n + suc (atoms_in_items xs) = omega arith in
    let tail = numbers_left h f (n + 1) k (as' ++ f.atom n ∷ []) ms xs in
    ap (λ z. index_of (f.atom n) (without_all as' (atoms_in h (f.membrane i))) ∷ z) (numbers_both h f (n + 1) k (as' ++ f.atom n ∷ []) ms xs ys
    ∙ (λ j. tail ++ numbers_left h f (zn j) (k + membranes_in_items xs) (append_assoc as' (f.atom n ∷ []) (run f.atom (n + 1) (atoms_in_items xs)) j) (ms ++ run f.membrane k (membranes_in_items xs)) ys))
numbers_both h f n k as' ms (Typed x kd l i ∷ xs) ys = numbers_both h f n k as' ms xs ys
numbers_both h f n k as' ms (Membrane i c cl rc ∷ xs) ys =
    let zk : (k + 1) + membranes_in_items xs ≡ k + suc (membranes_in_items xs) = omega arith in
    let tail = numbers_left h f n (k + 1) as' (ms ++ f.membrane k ∷ []) xs in
    ap (λ z. index_of (f.membrane k) (without_all ms (mems_in h (f.membrane i))) ∷ z) (numbers_both h f n (k + 1) as' (ms ++ f.membrane k ∷ []) xs ys
    ∙ (λ j. tail ++ numbers_left h f (n + atoms_in_items xs) (zk j) (as' ++ run f.atom n (atoms_in_items xs)) (append_assoc ms (f.membrane k ∷ []) (run f.membrane (k + 1) (membranes_in_items xs)) j) ys))

reads_run : (g : ℕ → ℕ) (n : ℕ) (bs : List ℕ) → Reads g n bs → run g n (length bs) ≡ bs
reads_run g n [] h = refl
reads_run g n (b ∷ bs) h = λ j. h.0 j ∷ reads_run g (n + 1) bs h.1 j

-- a row of values is read by its map
pub run_reads : (g : ℕ → ℕ) (n k : ℕ) → Reads g n (run g n k)
run_reads g n zero = tt
run_reads g n (suc k) = (refl, run_reads g (n + 1) k)

module _ (h : Heap) (v : Valid h) (r : HeapReading) (link_of' : ℕ → ℕ) (typed_of : tree.Name → Rooted) (Q : tree.Level → ℕ → List ℕ → Forest → Forest → Type 0) (f : Images) (kind : ℕ → TypeKind) where
  abbrev Tree : Head → tree.Level
  Tree = tree_of r.names r.rule

  abbrev Trees : Heads → tree.Levels
  Trees = trees_of r.names r.rule

  leaf_numbers : (cur n k : ℕ) (as' ms X : List ℕ) (ls : List Leaf) (bs : List ℕ) → NoConnectorLeaf (map (leaf_of r.names) ls) → FitLeaves (atom_at h r) link_of' (map (leaf_of r.names) ls) bs → Reads f.atom n bs →
      without_all as' (atoms_in h (f.membrane cur)) ≡ X → numbers_left h f n k as' ms (leaf_items kind cur ls) ≡ numbers bs X
  leaf_numbers cur n k as' ms X [] bs o fit_none g e = refl
  leaf_numbers cur n k as' ms X (leaf.Typed y l q ∷ ls) bs o (fit_typed fit) g e = leaf_numbers cur n k as' ms X ls bs o fit g e
  leaf_numbers cur n k as' ms X (leaf.Atom fu os q ∷ ls) bs o fit g e =
      let ys = map (λ o. o.link) os in
      let c = only_atom r.names fu.label ys (map (leaf_of r.names) ls) o in
      let u = fit_one (subst (λ l. FitLeaves (atom_at h r) link_of' (l ∷ map (leaf_of r.names) ls) bs) c.0 fit) in
      let g' = subst (Reads f.atom n) u.are g in
      let next : without_all (as' ++ f.atom n ∷ []) (atoms_in h (f.membrane cur)) ≡ without u.first X = all_more as' (f.atom n ∷ []) (atoms_in h (f.membrane cur)) ∙ (λ j. without (g'.0 j) (e j)) in
      let rest = leaf_numbers cur (n + 1) k (as' ++ f.atom n ∷ []) ms (without u.first X) ls u.others c.1 u.fit g'.1 next in
      (λ j. index_of (g'.0 j) (e j) ∷ rest j) ∙ ap (λ z. numbers z X) (sym u.are)

  foreign : (bs xs : List ℕ) → ((b : ℕ) → weigh (one_if_same b) bs + weigh (one_if_same b) xs ≤ 1) → (b : ℕ) → In b bs → In b xs → ⊥
  foreign bs xs d b p q = let u = d b in omega (arith, u, weigh_same b bs, weigh_same b xs, some_of b bs p, some_of b xs q)

  some_tops : (b : ℕ) (F : Forest) → weigh (one_if_same b) (tops F) ≤ weigh (one_if_same b) (flat F)
  some_tops b bare = omega arith
  some_tops b (mem m i F) = omega (arith, some_tops b F, weigh_append (one_if_same b) (flat i) (flat F))

  tops_distinct : (F : Forest) → ((b : ℕ) → weigh (one_if_same b) (flat F) ≤ 1) → Distinct (tops F)
  tops_distinct F d = distinct_of (tops F) (λ b. let u = d b in omega (arith, u, some_tops b F, weigh_same b (tops F)))

  mutual
    -- the numbers of a level are those of its images among what is left
    pub level_numbers : (cur next n : ℕ) (hd : Head) (M : ℕ) (gone out : List ℕ) {bs ms ns rest : List ℕ} {ps : List (List ℕ)} {F F' : Forest} → f.membrane cur ≡ M → EachLevel (λ l. NoConnectorLeaf (own_leaves l)) (Tree hd) →
        Lies h r link_of' typed_of Q (Tree hd) bs ps ms ns (atoms_in h M) rest F F' → Reads f.atom n bs → Reads f.membrane next ms → tops F ≡ mems_in h M → Grown h F →
        ((b : ℕ) → (weigh (one_if_same b) gone + weigh (one_if_same b) (atoms_in h M)) + weigh (one_if_same b) (forest_atoms h F) ≤ 1) → ((b : ℕ) → weigh (one_if_same b) out + weigh (one_if_same b) (flat F) ≤ 1) →
        numbers_left h f n next gone out (flat_items kind cur next hd) ≡ ns
    level_numbers cur next n (head leaves hs cs rcs rs) M gone out e o (lies {bs = bs} {as' = as'} {ms = ms} {ns = ns} {parts = parts} {f = F} fit d among taken k) ga gm tp g ra rm =
        let first = leaf_items kind cur leaves in
        let behind = flat_membranes kind cur next hs in
        let z : membranes_in_items first ≡ 0 = no_leaf_membrane kind cur leaves in
        let q : next + membranes_in_items first ≡ next = omega (arith, z) in
        let here = reads_split f.atom n bs as' ga in
        let len : length bs ≡ atoms_in_items first = leaf_length h r link_of' typed_of Q kind cur leaves bs o.0 fit in
        let X = atoms_in h M in
        let same : without_all gone (atoms_in h (f.membrane cur)) ≡ X = ap (λ y. without_all gone (atoms_in h y)) e ∙ all_absent gone X (foreign gone X (λ b. let u = ra b in omega (arith, u))) in
        let a = leaf_numbers cur n next gone out X leaves bs o.0 fit here.0 same in
        let ran : run f.atom n (atoms_in_items first) ≡ bs = ap (run f.atom n) (sym len) ∙ reads_run f.atom n bs here.0 in
        let outs : out ++ run f.membrane next (membranes_in_items first) ≡ out = ap (λ y. out ++ run f.membrane next y) z ∙ append-nil out in
        let b = membranes_numbers cur next (n + atoms_in_items first) hs M (gone ++ bs) out e o.1 k (subst (λ y. Reads f.atom y as') (ap (λ y. n + y) len) here.1) gm
        (ap (λ y. without_all out (mems_in h y)) e ∙ ap (without_all out) (sym tp) ∙ all_absent out (tops F) (foreign out (tops F) (λ b. let u = rm b in omega (arith, u, some_tops b F)))) g
        (λ b. let u = ra b in omega (arith, u, weigh_append (one_if_same b) gone bs, weigh_out (one_if_same b) bs X d among taken)) rm in
        numbers_both h f n next gone out first behind
        ∙ (λ j. a j ++ numbers_left h f (n + atoms_in_items first) (q j) (gone ++ ran j) (outs j) behind)
        ∙ ap (λ y. numbers bs X ++ y) b

    membranes_numbers : (cur next n : ℕ) (hs : Heads) (M : ℕ) (gone out : List ℕ) {bs ms ns : List ℕ} {ps : List (List ℕ)} {F F' : Forest} → f.membrane cur ≡ M → EachOf (λ l. NoConnectorLeaf (own_leaves l)) (Trees hs) →
        LiesIn h r link_of' typed_of Q (Trees hs) bs ps ms ns F F' → Reads f.atom n bs → Reads f.membrane next ms → without_all out (mems_in h (f.membrane cur)) ≡ tops F → Grown h F →
        ((b : ℕ) → weigh (one_if_same b) gone + weigh (one_if_same b) (forest_atoms h F) ≤ 1) → ((b : ℕ) → weigh (one_if_same b) out + weigh (one_if_same b) (flat F) ≤ 1) →
        numbers_left h f n next gone out (flat_membranes kind cur next hs) ≡ ns
    membranes_numbers cur next n no_head M gone out e o lies_none ga gm tp g ra rm = refl
    membranes_numbers cur next n (head_and hd hs) M gone out e o (lies_and {n = p} {m = m} {as' = as'} {ps = ps} {ms = ms} {ns = ns} {bs = bs} {ks = ks} {ns' = ns'} {f = F} {f' = F'} {i = i} {i' = i'} k d q more) ga gm tp g ra rm =
        let first = flat_items kind next (next + 1) hd in
        let behind = flat_membranes kind cur (next + 1 + size hd) hs in
        let z : (next + 1) + membranes_in_items first ≡ next + 1 + size hd = omega (arith, flat_size kind next (next + 1) hd) in
        let here = reads_split f.atom n as' bs ga in
        let under = reads_split f.membrane (next + 1) ms ks gm.1 in
        let grown = taken_grown h k g in
        let len = level_length h r link_of' typed_of Q kind next (next + 1) hd o.0 d in
        let place = taken_place k (tops_distinct F (λ b. let u = rm b in omega (arith, u))) in
        let out1 = out ++ f.membrane next ∷ [] in
        let room_in : (b : ℕ) → weigh (one_if_same b) out1 + (weigh (one_if_same b) (flat i) + weigh (one_if_same b) (flat F')) ≤ 1 = λ b.
        let u = rm b in
        let w = heavy_taken h (λ a. 0) (one_if_same b) k in
        let s : one_if_same b (f.membrane next) ≡ one_if_same b m = ap (one_if_same b) gm.0 in
        omega (arith, u, w, s, weigh_append (one_if_same b) out (f.membrane next ∷ []), weigh_nothing (forest_atoms h F), weigh_nothing (forest_atoms h F'), weigh_nothing (forest_atoms h i), weigh_nothing (atoms_in h m)) in
        let atoms_room : (b : ℕ) → weigh (one_if_same b) gone + ((weigh (one_if_same b) (atoms_in h m) + weigh (one_if_same b) (forest_atoms h i)) + weigh (one_if_same b) (forest_atoms h F')) ≤ 1 = λ b.
        let u = ra b in
        let w = heavy_taken h (one_if_same b) (λ a. 0) k in
        omega (arith, u, w, weigh_nothing (flat F), weigh_nothing (flat F'), weigh_nothing (flat i)) in
        let a = level_numbers next (next + 1) n hd m gone out1 gm.0 o.0 d here.0 under.0 grown.0.0 grown.0.1 (λ b. let u = atoms_room b in omega (arith, u)) (λ b. let u = room_in b in omega (arith, u)) in
        let ran : run f.atom n (atoms_in_items first) ≡ as' = ap (run f.atom n) (sym len.0) ∙ reads_run f.atom n as' here.0 in
        let ran' : run f.membrane (next + 1) (membranes_in_items first) ≡ ms = ap (run f.membrane (next + 1)) (sym len.1) ∙ reads_run f.membrane (next + 1) ms under.0 in
        let y' : (next + 1) + length ms ≡ next + 1 + size hd = let s = len.1 in omega (arith, s, z) in
        let fewer : (b : ℕ) → weigh (one_if_same b) ms ≤ weigh (one_if_same b) (flat i) = λ b.
        let w = level_weighs h (λ a. 0) (one_if_same b) d in
        omega (arith, w, weigh_nothing as', weigh_nothing (flattened ps), weigh_nothing (atoms_in h m), weigh_nothing (forest_atoms h i)) in
        let fewer_atoms : (b : ℕ) → weigh (one_if_same b) as' ≤ weigh (one_if_same b) (atoms_in h m) + weigh (one_if_same b) (forest_atoms h i) = λ b.
        let w = level_weighs h (one_if_same b) (λ a. 0) d in
        omega (arith, w, weigh_nothing ms, weigh_nothing (flat i)) in
        let tops' : without_all (out1 ++ ms) (mems_in h (f.membrane cur)) ≡ tops F' =
        all_more out1 ms (mems_in h (f.membrane cur))
        ∙ ap (without_all ms) (all_more out (f.membrane next ∷ []) (mems_in h (f.membrane cur)) ∙ (λ j. without (gm.0 j) (tp j)) ∙ sym place.1)
        ∙ all_absent ms (tops F') (foreign ms (tops F') (λ b. let u = room_in b in let w = fewer b in omega (arith, u, w, some_tops b F'))) in
        let b = membranes_numbers cur (next + 1 + size hd) (n + atoms_in_items first) hs M (gone ++ as') (out1 ++ ms) e o.1 more (subst (λ y. Reads f.atom y bs) (ap (λ y. n + y) len.0) here.1) (subst (λ y. Reads f.membrane y ks) y' under.1)
        tops' grown.1 (λ b. let u = atoms_room b in let w = fewer_atoms b in omega (arith, u, w, weigh_append (one_if_same b) gone as')) (λ b. let u = room_in b in let w = fewer b in omega (arith, u, w, weigh_append (one_if_same b) out1 ms)) in
        (λ j. index_of (gm.0 j) (tp j) ∷ numbers_left h f n (next + 1) gone out1 (first ++ behind))
        ∙ ap (λ y. index_of m (tops F) ∷ y) (numbers_both h f n (next + 1) gone out1 first behind ∙ (λ j. a j ++ numbers_left h f (n + atoms_in_items first) (z j) (gone ++ ran j) (out1 ++ ran' j) behind) ∙ ap (λ y. ns ++ y) b)
        ∙ (λ j. sym place.0 j ∷ (ns ++ ns'))
