-- An embedding in the region of a heap is one on the heap.
use Rattle.std.proofs.Common.{ℕ, zero, suc, ◌≡◌, ◌≢◌, ◌+◌, ◌<◌, ◌≤◌, List, [], ◌∷◌, map, length, Option, Some, None, refl, sym, ap, subst, ◌∙◌, inl, inr, arith}
use Rattle.std.specs.Prelude.{slice_get, slice_index_or, IsSome}
use Rattle.std.proofs.lemmas.List.{length-map}
use Rattle.lmn_base.specs.declared.guard.Cond.{Cond}
use Rattle.lmn_guards.specs.declared.plan.TypeKind.{TypeKind}
use Rattle.lmn_store_heap.specs.Heap.{Heap, IsAtom, atoms_in, mems_in, rules_in, arity_of, link_of, functor_of}
use Rattle.lmn_store_heap.specs.Lists.{Distinct}
use Rattle.lmn_store_heap.specs.Sound.{Forest, bare, flat, Forms, mem, Valid}
use Rattle.lmn_store_heap.proofs.ListLemmas.{each_in, in_left, in_right}
use Rattle.lmn_solid_heads.specs.declared.items.HeadItem.{HeadItem}
use Rattle.lmn_solid_heads.specs.Guards.{HoldsOnHeap, IsOfKindAt}
use Rattle.lmn_base.specs.Graphs.{at_root, StandsWhole, Port}
use Rattle.std.proofs.lemmas.Option.{same_Some}
use Rattle.lmn_store_heap.specs.Graphs.{atom_map}
use Rattle.lmn_solid_heads.specs.Heads.{HeadAtom, HeadTyped, HeadMembrane, atoms_of, typed_contexts_of, membranes_of, inside_of}
use Rattle.lmn_solid_heads.specs.Embeddings.{Images, Embeds, HasLink, HasAtom, HasTyped, HasMembrane, IsAtomImage, IsInPart, IsInRest, IsMembraneImage, meaning}
use Rattle.lmn_congruence.specs.LinkedRules.{level_occurrences}
use Rattle.lmn_congruence.specs.Links.{one_if_same, places}
use Rattle.lmn_congruence.specs.Regions.{Region, region}
use Rattle.lmn_congruence.specs.Translation.{name_of}
use Rattle.lmn_reduction.specs.Assignments.{Assignment}
use Rattle.lmn_adequacy.specs.Accepted.{NoConnectorLeaf, EachLevel, own_leaves}
use Rattle.lmn_adequacy.specs.Embedding.{IsPart}
use Rattle.lmn_adequacy.specs.Loose.{Plain, LevelImages}
use Rattle.lmn_store_heap.specs.Solid.{IsNaming}
use Rattle.lmn_adequacy_heaps.specs.HeapRegions.{HeapReading, regions_at, region_at}
use Rattle.lmn_adequacy_heaps.proofs.Pieces.{atom_at, atoms_each}
use Rattle.lmn_adequacy_heaps.proofs.Counting.{weigh_same, list_atoms, times_at, tree_atoms, forest_atoms}
use Rattle.lmn_solid_heads.proofs.HeadTrees.{Head, size, flat_items}
use Rattle.lmn_adequacy_heaps.proofs.HeadTrees.{tree_of}
use Rattle.lmn_adequacy_heaps.proofs.Lying.{Kept, Lies}
use Rattle.lmn_adequacy_heaps.proofs.Read.{FoundLevel, find_level}
use Rattle.lmn_adequacy_heaps.proofs.Walking.{Walk, run, walk_from, walk_atom, walk_typed, walk_membrane, inside_bound, flat_size, atoms_in_items, typed_in_items, membranes_in_items}
use Rattle.lmn_adequacy_heaps.proofs.Weighing.{level_weighs, weigh_nothing}
use Rattle.lmn_adequacy_heaps.proofs.Forests.{each_tree, forms_tops, forms_grown, once_of, none_of, some_of, one_home, tree_once, distinct_of}
use Rattle.lmn_adequacy_heaps.proofs.Ports.{port_named}
use Rattle.lmn_adequacy_heaps.proofs.Laying.{AtomLies, LeftIn, MembraneLies, TypedLies, all_atoms, all_parts, all_membranes, total}
use Rattle.lmn_adequacy_heaps.proofs.Contexts.{Few, NoRules}
use Rattle.lmn_adequacy_heaps.proofs.Occurrences.{times_are, times_parts, port_counts, typed_counts}
use Rattle.lmn_adequacy_heaps.proofs.Runs.{run_in, in_run, get_inside, parts_in, in_parts}
use Rattle.lmn_adequacy_heaps.proofs.Functors.{functor_read}
use Rattle.lmn_adequacy_heaps.proofs.PartsOut.{flattened}
use Rattle.lmn_adequacy_heaps.proofs.PartsLaid.{held_part}
use Rattle.lmn_adequacy_heaps.proofs.PartLaws.{ground_parts_stand_whole}
use Rattle.lmn_adequacy_heaps.specs.Parts.{IsGroundPart, HasPart}
use Rattle.lmn_adequacy_heaps.proofs.Back.{Placed, Reads, walk_level, Stood}
use Rattle.lmn_adequacy_heaps.proofs.Keeping.{carry_level, left_apart}
use Rattle.lmn_adequacy_heaps.proofs.Into.{two_ends}
use Rattle.lmn_adequacy_heaps.proofs.Lengths.{level_length}
use Rattle.lmn_adequacy_heaps.proofs.Numbering.{level_numbers}
use Rattle.lmn_adequacy_heaps.specs.Numbers.{numbers_left}
use Rattle.lmn_base.proofs.Lists.{get_below, get_there as get_some, weigh, weigh_append, in_either, get_map, plus_nothing}
use Rattle.lmn_congruence.proofs.TranslatedLinks.{places_append as places_both}
use Rattle.lmn_store_heap.proofs.Common.{same_port}
use Rattle.lmn_base.specs.declared.functor.Functor.{Functor}
use Rattle.lmn_base.specs.Names.{HasNames, IsNames, label_names}
use Rattle.lmn_adequacy_heaps.specs.Premises.{IsRead}
use Rattle.lmn_base.specs.Lists.{In}

-- ---- lists by their indices

-- a map that gives what stands at each place of a list gives the list
pub reads_index : {A : Type 0} (none : A) (xs : List A) (g : ℕ → A) (n : ℕ) → ((i : ℕ) → i < length xs → g (n + i) ≡ slice_index_or xs i none) → Reads g n xs
reads_index none [] g n h = tt
reads_index none (x ∷ xs) g n h =
    let z : n + 0 ≡ n = omega arith in
    (ap g (sym z) ∙ h 0 (omega arith), reads_index none xs g (n + 1) (λ i l. let y : (n + 1) + i ≡ n + suc i = omega arith in ap g y ∙ h (suc i) (omega (arith, l))))

-- and its row is the list
pub reads_run : {A : Type 0} (g : ℕ → A) (n : ℕ) (xs : List A) → Reads g n xs → run g n (length xs) ≡ xs
reads_run g n [] h = refl
reads_run g n (x ∷ xs) h = cc (h.0, reads_run g (n + 1) xs h.1)

-- ---- lists of lists

in_flattened : (ps : List (List ℕ)) (b : ℕ) → In b (flattened ps) → (i : ℕ) × (i < length ps) × In b (slice_index_or ps i [])
in_flattened [] b k = absurd k
in_flattened (p ∷ ps) b k = elim (in_either b p (flattened ps) k) [
  | inl j ↦ (0, omega arith, j)
  | inr j ↦ (let u = in_flattened ps b j in (suc u.0, omega (arith, u.1), u.2))
]

-- an atom of one part is one of the atoms of all parts
pub flattened_in : (ps : List (List ℕ)) (b n : ℕ) → In b (slice_index_or ps n []) → In b (flattened ps)
flattened_in [] b n k = absurd k
flattened_in (p ∷ ps) b zero k = in_left b p (flattened ps) k
flattened_in (p ∷ ps) b (suc n) k = in_right b p (flattened ps) (flattened_in ps b n k)

-- and stands in its part no more often than in all
pub places_part : (ps : List (List ℕ)) (b n : ℕ) → places b (slice_index_or ps n []) ≤ places b (flattened ps)
places_part [] b n = omega arith
places_part (p ∷ ps) b zero = omega (arith, places_both b p (flattened ps))
places_part (p ∷ ps) b (suc n) = omega (arith, places_part ps b n, places_both b p (flattened ps))

-- ---- lists by their indices

pub in_index : (xs : List ℕ) (b : ℕ) → In b xs → (i : ℕ) × (i < length xs) × (slice_index_or xs i 0 ≡ b)
in_index [] b p = absurd p
in_index (x ∷ xs) b (inl e) = (0, omega arith, e)
in_index (x ∷ xs) b (inr p) = let u = in_index xs b p in (suc u.0, omega (arith, u.1), u.2)

-- what stands at a place below the length stands in the list
pub index_in : (xs : List ℕ) (i : ℕ) → i < length xs → In (slice_index_or xs i 0) xs
index_in [] i l = absurd (omega (arith, l))
index_in (x ∷ xs) zero l = inl refl
index_in (x ∷ xs) (suc i) l = inr (index_in xs i (omega (arith, l)))

index_once : (xs : List ℕ) → Distinct xs → (i j : ℕ) → i < length xs → j < length xs → slice_index_or xs i 0 ≡ slice_index_or xs j 0 → i ≡ j
index_once [] d i j l k e = absurd (omega (arith, l))
index_once (x ∷ xs) d zero zero l k e = refl
index_once (x ∷ xs) d zero (suc j) l k e = absurd (each_in (λ y. x ≢ y) xs (slice_index_or xs j 0) d.0 (index_in xs j (omega (arith, k))) e)
index_once (x ∷ xs) d (suc i) zero l k e = absurd (each_in (λ y. x ≢ y) xs (slice_index_or xs i 0) d.0 (index_in xs i (omega (arith, l))) (sym e))
index_once (x ∷ xs) d (suc i) (suc j) l k e = let u = index_once xs d.1 i j (omega (arith, l)) (omega (arith, k)) e in omega (arith, u)

module _ (h : Heap) (v : Valid h) (r : HeapReading) (naming : IsNaming h r.name) (kind : ℕ → TypeKind) (hd : Head) (m : ℕ) (inner : Forest) (forms : Forms h inner (mems_in h m)) (once : Distinct (m ∷ flat inner))
    (t : Assignment) (plain : Plain t) (ns : List ℕ) (rest : Region) (images : LevelImages t (tree_of r.names r.rule hd) ns (region_at h r m inner) rest)
    (o : EachLevel (λ l. NoConnectorLeaf (own_leaves l)) (tree_of r.names r.rule hd)) (none : EachLevel NoRules (tree_of r.names r.rule hd)) (few : EachLevel Few (tree_of r.names r.rule hd)) (twice : (x : ℕ) → level_occurrences x (tree_of r.names r.rule hd) ≤ 2)
    (holds_typed : (n : ℕ) (u : HeadTyped) → HasTyped (flat_items kind 0 1 hd) n u → (p : Port) × HasLink (flat_items kind 0 1 hd) u.link p) where
  abbrev items : List HeadItem
  items = flat_items kind 0 1 hd

  -- the head lies in the lists of the heap
  pub found : FoundLevel h v r t (tree_of r.names r.rule hd) ns (atoms_in h m) inner (map r.rule (rules_in h m)) rest
  found = find_level h v r t (atoms_in h m) inner (map r.rule (rules_in h m)) (v.sound.listed.atoms_once m) images
      (λ j. region (atoms_each h r (atoms_in h m) (list_atoms h v m) j) (regions_at h r inner) (map r.rule (rules_in h m)))

  -- the atoms of the part of each typed context
  abbrev pub part_at : ℕ → List ℕ
  part_at n = slice_index_or found.parts n []

  abbrev image_of : ℕ → ℕ
  image_of n = slice_index_or found.atoms n 0

  abbrev root_of : Option Port → Port
  root_of None = (0, 0)
  root_of (Some p) = p

  -- a part is entered at the port that is joined to the image of a port with its link
  abbrev root_by : (n : ℕ) (o : Option HeadTyped) → slice_get (typed_contexts_of items) n ≡ o → Port
  root_by n None q = (0, 0)
  root_by n (Some u) q = let p = (holds_typed n u q).0 in root_of (link_of h (slice_index_or found.atoms p.0 0) p.1)

  abbrev pub part_root : ℕ → Port
  part_root n = root_by n (slice_get (typed_contexts_of items) n) refl

  abbrev pub images_at : Images
  images_at = record {
    atom = λ n. slice_index_or found.atoms n 0;
    membrane = λ k. slice_index_or (m ∷ found.membranes) k 0;
    part = part_root;
  }

  lengths : (length found.atoms ≡ atoms_in_items items) × (length found.membranes ≡ membranes_in_items items) × (length found.parts ≡ typed_in_items items)
  lengths = level_length h r t.link_of t.typed_of (Kept h r t) kind 0 1 hd o found.lying

  all_here : (b : ℕ) → In b found.atoms → In b (all_atoms h r images_at part_at t.link_of t.typed_of items)
  all_here b p =
      let u = in_index found.atoms b p in
      let z : 0 + u.0 ≡ u.0 = omega arith in
      subst (λ b. In b (all_atoms h r images_at part_at t.link_of t.typed_of items)) (ap (λ k. slice_index_or found.atoms k 0) z ∙ u.2) (run_in images_at.atom 0 (atoms_in_items items) u.0 (let q = lengths.0 in omega (arith, u.1, q)))

  parts_here : (b : ℕ) → In b (flattened found.parts) → In b (all_parts h r images_at part_at t.link_of t.typed_of items)
  parts_here b p =
      let u = in_flattened found.parts b p in
      let z : 0 + u.0 ≡ u.0 = omega arith in
      in_parts part_at 0 (typed_in_items items) b u.0 (let q = lengths.2 in omega (arith, u.1, q)) (subst (λ w. In b (part_at w)) (sym z) u.2)

  membranes_here : (b : ℕ) → In b found.membranes → In b (all_membranes h r images_at part_at t.link_of t.typed_of items)
  membranes_here b p =
      let u = in_index found.membranes b p in
      let z : 1 + u.0 ≡ suc u.0 = omega arith in
      subst (λ b. In b (all_membranes h r images_at part_at t.link_of t.typed_of items)) (ap (λ k. slice_index_or (m ∷ found.membranes) k 0) z ∙ u.2) (run_in images_at.membrane 1 (membranes_in_items items) u.0 (let q = lengths.1 in omega (arith, u.1, q)))

  typed_twice : (i : ℕ) (u : HeadTyped) → HasTyped items i u → total h r images_at part_at t.link_of t.typed_of items u.link ≢ 1
  typed_twice i u k q =
      let p = holds_typed i u k in
      omega (arith, q, times_parts u.link items, port_counts u.link (atoms_of items) 0 p.0.0 p.0.1 p.1.0 p.1.1 p.1.2, typed_counts u.link (typed_contexts_of items) i u k refl)

  facts : Walk (λ n a. Unit {0}) (λ n a. total h r images_at part_at t.link_of t.typed_of items a.link ≢ 1) (λ k n. (inside_of (membranes_of items) k ≡ n.inside) × (k ≤ length (membranes_of items))) 0 0 1 items
  facts = walk_from (λ n a. Unit {0}) (λ n a. total h r images_at part_at t.link_of t.typed_of items a.link ≢ 1) (λ k n. (inside_of (membranes_of items) k ≡ n.inside) × (k ≤ length (membranes_of items))) items 0 0 1
      (λ i a e. tt) (λ i a e. typed_twice i a e) (λ i n e. let z : 1 + i ≡ suc i = omega arith in (rw z (get_inside (membranes_of items) i n e), omega (arith, get_below (membranes_of items) i n e)))

  atoms_read : Reads images_at.atom 0 found.atoms
  atoms_read = reads_index 0 found.atoms images_at.atom 0 (λ i l. let z : 0 + i ≡ i = omega arith in ap images_at.atom z)

  parts_read : Reads part_at 0 found.parts
  parts_read = reads_index [] found.parts part_at 0 (λ i l. let z : 0 + i ≡ i = omega arith in ap part_at z)

  membranes_read : Reads images_at.membrane 1 found.membranes
  membranes_read = reads_index 0 found.membranes images_at.membrane 1 (λ i l. let z : 1 + i ≡ suc i = omega arith in ap images_at.membrane z)

  -- the numbers are those that earlier images have left
  pub numbers_are : numbers_left h images_at 0 1 [] [] (flat_items kind 0 1 hd) ≡ ns
  numbers_are = level_numbers h v r t.link_of t.typed_of (Kept h r t) images_at kind 0 1 0 hd m [] [] refl o found.lying atoms_read membranes_read (forms_tops h inner (mems_in h m) forms) (forms_grown h inner (mems_in h m) forms)
      (λ b.
      let whole = subst (λ z. Distinct (m ∷ z)) (sym (plus_nothing (flat inner))) once in
      let u = tree_once h v m inner whole b in
      omega (arith, u, weigh_append (one_if_same b) (atoms_in h m) (forest_atoms h inner), weigh_same b (tree_atoms h m inner)))
      (λ b. omega (arith, once_of b (flat inner) once.1, weigh_same b (flat inner)))

  -- in each membrane what is left is apart
  placed : Lies h r t.link_of t.typed_of (Placed h v r naming images_at part_at t plain items kind) (tree_of r.names r.rule hd) found.atoms found.parts found.membranes ns (atoms_in h m) found.left_atoms inner found.left_forest
  placed = carry_level h r images_at part_at t.link_of t.typed_of items (Kept h r t) (Placed h v r naming images_at part_at t plain items kind)
      (λ el ea em l m bs ps ms ns xs i i' d k x s. (k, left_apart h r images_at part_at t.link_of t.typed_of items el ea em d x))
      (λ x. 0) (λ b. 0) (λ b. 0) found.lying
      (record {
        link_room = λ x.
            let u = two_ends h v r naming (t.link_of x) (tree_atoms h m inner) (each_tree h v m inner) (tree_once h v m inner whole) in
            omega (arith, u, weigh_append (times_at h r (t.link_of x)) (atoms_in h m) (forest_atoms h inner));
        atom_room = λ b.
            let u = tree_once h v m inner whole b in
            omega (arith, u, weigh_append (one_if_same b) (atoms_in h m) (forest_atoms h inner), weigh_same b (tree_atoms h m inner));
        membrane_room = λ b. omega (arith, once_of b (flat inner) once.1, weigh_same b (flat inner));
        all_atoms_are = λ b. omega (arith, ap (weigh (one_if_same b)) atoms_run, ap (λ ps. weigh (one_if_same b) (flattened ps)) parts_run);
        all_membranes_are = λ b. omega (arith, ap (weigh (one_if_same b)) membranes_run);
      })
      (λ x. omega (arith, times_are r.names r.rule kind x 0 1 hd))
    where
      whole : Distinct (flat (mem m inner bare))
      whole = subst (λ z. Distinct (m ∷ z)) (sym (plus_nothing (flat inner))) once

      atoms_run : run images_at.atom 0 (atoms_in_items items) ≡ found.atoms
      atoms_run = ap (run images_at.atom 0) (sym lengths.0) ∙ reads_run images_at.atom 0 found.atoms atoms_read

      parts_run : run part_at 0 (typed_in_items items) ≡ found.parts
      parts_run = ap (run part_at 0) (sym lengths.2) ∙ reads_run part_at 0 found.parts parts_read

      membranes_run : run images_at.membrane 1 (membranes_in_items items) ≡ found.membranes
      membranes_run = ap (run images_at.membrane 1) (sym lengths.1) ∙ reads_run images_at.membrane 1 found.membranes membranes_read

  stood : Stood h v r naming images_at part_at t plain items kind 0 0 1 items found.atoms found.parts found.membranes
  stood = walk_level h v r naming images_at part_at t plain items kind 0 1 0 0 hd m refl (omega arith) o none few facts placed
      atoms_read parts_read membranes_read
      (forms_tops h inner (mems_in h m) forms) (forms_grown h inner (mems_in h m) forms) (inl refl)
      (λ x. omega (arith, times_are r.names r.rule kind x 0 1 hd)) all_here parts_here membranes_here

  -- ---- the embedding

  places_few : (b : ℕ) → places b found.atoms + places b (flattened found.parts) ≤ 1
  places_few b =
      let heavy = level_weighs h (one_if_same b) (λ a. 0) found.lying in
      let whole = subst (λ z. Distinct (m ∷ z)) (sym (plus_nothing (flat inner))) once in
      let u = tree_once h v m inner whole b in
      omega (arith, heavy, u, weigh_nothing found.membranes, weigh_nothing (flat inner), weigh_nothing (flat found.left_forest), weigh_same b found.atoms, weigh_same b (flattened found.parts), weigh_same b (tree_atoms h m inner), weigh_append (one_if_same b) (atoms_in h m) (forest_atoms h inner))

  membranes_few : (b : ℕ) → places b found.membranes ≤ 1
  membranes_few b =
      let heavy = level_weighs h (λ a. 0) (one_if_same b) found.lying in
      let u = once_of b (flat inner) once.1 in
      omega (arith, heavy, u, weigh_nothing found.atoms, weigh_nothing (flattened found.parts), weigh_nothing found.left_atoms, weigh_nothing (atoms_in h m), weigh_nothing (forest_atoms h inner), weigh_nothing (forest_atoms h found.left_forest), weigh_same b found.membranes, weigh_same b (flat inner))

  module _ (read : IsRead h r) (names : IsNames r.names) (heap_names : (a : ℕ) (g : Functor) → functor_of h a ≡ Some g → HasNames r.names (label_names g.label))
      (head_names : (n : ℕ) (a : HeadAtom) → HasAtom (flat_items kind 0 1 hd) n a → HasNames r.names (label_names a.functor.label))
      (fit : (n : ℕ) (a : HeadAtom) → HasAtom (flat_items kind 0 1 hd) n a → length a.links ≡ a.functor.arity) where
    atom_there : (n : ℕ) (a : HeadAtom) → HasAtom items n a → AtomLies h r images_at part_at t.link_of t.typed_of items n a
    atom_there n a k = let z : 0 + n ≡ n = omega arith in subst (λ z. AtomLies h r images_at part_at t.link_of t.typed_of items z a) z
        (walk_atom (AtomLies h r images_at part_at t.link_of t.typed_of items) (TypedLies h r images_at part_at t.link_of t.typed_of items) (MembraneLies h r images_at part_at t.link_of t.typed_of items) items 0 0 1 stood.walk n a k)

    membrane_there : (k : ℕ) (n : HeadMembrane) → HasMembrane items k n → MembraneLies h r images_at part_at t.link_of t.typed_of items k n
    membrane_there k n c = subst (λ z. MembraneLies h r images_at part_at t.link_of t.typed_of items z n) (let e = c.1 in omega (arith, e))
        (walk_membrane (AtomLies h r images_at part_at t.link_of t.typed_of items) (TypedLies h r images_at part_at t.link_of t.typed_of items) (MembraneLies h r images_at part_at t.link_of t.typed_of items) items 0 0 1 stood.walk c.0 n c.2)

    atom_is : (n : ℕ) (a : HeadAtom) → HasAtom items n a → IsAtom h (images_at.atom n)
    atom_is n a k = let w = atom_there n a k in each_in (IsAtom h) (atoms_in h (images_at.membrane a.inside)) (images_at.atom n) (list_atoms h v (images_at.membrane a.inside)) w.placed

    typed_there : (n : ℕ) (u : HeadTyped) → HasTyped items n u → TypedLies h r images_at part_at t.link_of t.typed_of items n u
    typed_there n u k = let z : 0 + n ≡ n = omega arith in subst (λ z. TypedLies h r images_at part_at t.link_of t.typed_of items z u) z
        (walk_typed (AtomLies h r images_at part_at t.link_of t.typed_of items) (TypedLies h r images_at part_at t.link_of t.typed_of items) (MembraneLies h r images_at part_at t.link_of t.typed_of items) items 0 0 1 stood.walk n u k)

    typed_below : (n : ℕ) (u : HeadTyped) → HasTyped items n u → u.inside < 1 + size hd
    typed_below n u k = walk_typed (λ n a. a.inside < 1 + size hd) (λ n a. a.inside < 1 + size hd) (λ n a. a.inside < 1 + size hd) items 0 0 1 (inside_bound kind (1 + size hd) 0 1 0 0 1 hd (omega arith) (omega arith)) n u k

    part_clash : (n b : ℕ) → n < length (typed_contexts_of items) → In b (part_at n) → (j : ℕ) → j < length (atoms_of items) → images_at.atom j ≡ b → ⊥
    part_clash n b l i j k e =
        let q = lengths in
        let a = subst (λ z. In z found.atoms) e (index_in found.atoms j (let s = q.0 in omega (arith, k, s))) in
        let c = flattened_in found.parts b n i in
        let w = places_few b in
        omega (arith, w, some_of b found.atoms a, some_of b (flattened found.parts) c)

    -- the membrane of the rule is no image
    root_apart : (k : ℕ) → k < length (membranes_of items) → images_at.membrane (suc k) ≡ m → ⊥
    root_apart k l e =
        let q = lengths.1 in
        let p = subst (λ z. In z found.membranes) e (index_in found.membranes k (omega (arith, l, q))) in
        let heavy = level_weighs h (λ a. 0) (one_if_same m) found.lying in
        let n = none_of m (flat inner) (λ w. each_in (λ b. m ≢ b) (flat inner) m once.0 w refl) in
        omega (arith, heavy, n, some_of m found.membranes p, weigh_nothing found.atoms, weigh_nothing (flattened found.parts), weigh_nothing found.left_atoms, weigh_nothing (atoms_in h m), weigh_nothing (forest_atoms h inner), weigh_nothing (forest_atoms h found.left_forest), weigh_same m found.membranes, weigh_same m (flat inner))

    same_membrane : (i k : ℕ) → i < 1 + size hd → k < length (membranes_of items) → images_at.membrane i ≡ images_at.membrane (suc k) → i ≡ suc k
    same_membrane zero k l n e = absurd (root_apart k n (sym e))
    same_membrane (suc i) k l n e =
        let q = lengths.1 in
        let s = flat_size kind 0 1 hd in
        ap suc (index_once found.membranes (distinct_of found.membranes membranes_few) i k (omega (arith, l, q, s)) (omega (arith, n, q)) e)

    port_of : (x : ℕ) (p : Port) → HasLink items x p → (r.name (images_at.atom p.0) p.1 ≡ t.link_of x) × (p.1 < arity_of h (images_at.atom p.0))
    port_of x p k =
        let w = atom_there p.0 k.0 k.1 in
        port_named h v r (images_at.atom p.0) p.1 (t.link_of x) (subst (λ z. slice_get z.links p.1 ≡ Some (t.link_of x)) (sym w.is) (get_map t.link_of k.0.links p.1 x k.2))

    -- the port at which a part is entered is joined to the image of a port with its link
    record Entered (n : ℕ) (u : HeadTyped) : Type 0 where
      port : Port
      has : HasLink items u.link port
      joined : link_of h (images_at.atom port.0) port.1 ≡ Some (images_at.part n)

    entered : (n : ℕ) (u : HeadTyped) → HasTyped items n u → Entered n u
    entered n u k = let w = by (slice_get (typed_contexts_of items) n) refl in record { port = w.0; has = w.1; joined = w.2 }
      where
        at : (o : Option Port) → IsSome o → o ≡ Some (root_of o)
        at None s = absurd (cc)
        at (Some p) s = refl

        by : (o : Option HeadTyped) (q : slice_get (typed_contexts_of items) n ≡ o) → (p : Port) × HasLink items u.link p × (link_of h (image_of p.0) p.1 ≡ Some (root_by n o q))
        by None q = absurd (let s : None ≡ Some u = sym q ∙ k in cc)
        by (Some w) q =
            let p = holds_typed n w q in
            let same : w ≡ u = same_Some w u (sym q ∙ k) in
            let has : HasLink items u.link p.0 = subst (λ z. HasLink items z.link p.0) same p.1 in
            let o = port_of u.link p.0 has in
            (p.0, has, at (link_of h (image_of p.0.0) p.0.1) (v.full (image_of p.0.0) p.0.1 o.1))

    -- the part of each typed context is ground
    pub ground_part : (n : ℕ) (u : HeadTyped) → HasTyped (flat_items kind 0 1 hd) n u → IsGroundPart h r (images_at.membrane u.inside) (images_at.part n) (part_at n) (t.typed_of (name_of r.names u.name))
    ground_part n u k =
        let w = typed_there n u k in
        let p = entered n u k in
        let o = port_of u.link p.port p.has in
        let G = t.typed_of (name_of r.names u.name) in
        held_part h r read (images_at.membrane u.inside) (images_at.part n) (images_at.atom p.port.0, p.port.1) (part_at n) G w.ground
        (subst (λ z. IsPart (t.typed_of (name_of r.names u.name)) z (map (atom_at h r) (part_at n))) (sym o.0) w.is)
        (distinct_of (part_at n) (λ b. let s = places_few b in omega (arith, s, places_part found.parts b n))) w.placed p.joined
        (λ i. part_clash n (images_at.atom p.port.0) (get_below (typed_contexts_of items) n u k) i p.port.0 (get_below (atoms_of items) p.port.0 p.has.0 p.has.1) refl)

    part_whole : (n : ℕ) (u : HeadTyped) → HasTyped items n u → StandsWhole (atom_map h) (images_at.part n) (images_at.membrane u.inside) × HasPart h (images_at.part n) (part_at n)
    part_whole n u k = ground_parts_stand_whole h r (images_at.membrane u.inside) (images_at.part n) (part_at n) (t.typed_of (name_of r.names u.name)) read (ground_part n u k)

    differ : (n k : ℕ) → n < length (atoms_of items) → k < length (atoms_of items) → images_at.atom n ≡ images_at.atom k → n ≡ k
    differ n k l j e = let q = lengths.0 in index_once found.atoms (distinct_of found.atoms (λ b. let w = places_few b in omega (arith, w))) n k (omega (arith, l, q)) (omega (arith, j, q)) e

    image_in : (b : ℕ) → IsAtomImage items images_at b → In b (all_atoms h r images_at part_at t.link_of t.typed_of items)
    image_in b w = let y : 0 + w.0 ≡ w.0 = omega arith in subst (λ b. In b (all_atoms h r images_at part_at t.link_of t.typed_of items)) (ap images_at.atom y ∙ w.2) (run_in images_at.atom 0 (length (atoms_of items)) w.0 w.1)

    in_image : (b : ℕ) → In b (all_atoms h r images_at part_at t.link_of t.typed_of items) → IsAtomImage items images_at b
    in_image b u = let w = in_run images_at.atom 0 (length (atoms_of items)) b u in let z : 0 + w.0 ≡ w.0 = omega arith in (w.0, w.1, ap images_at.atom (sym z) ∙ w.2)

    membrane_in : (b : ℕ) → IsMembraneImage items images_at b → In b (all_membranes h r images_at part_at t.link_of t.typed_of items)
    membrane_in b w = let y : 1 + w.0 ≡ suc w.0 = omega arith in subst (λ b. In b (all_membranes h r images_at part_at t.link_of t.typed_of items)) (ap images_at.membrane y ∙ w.2) (run_in images_at.membrane 1 (length (membranes_of items)) w.0 w.1)

    in_membrane : (b : ℕ) → In b (all_membranes h r images_at part_at t.link_of t.typed_of items) → IsMembraneImage items images_at b
    in_membrane b u = let w = in_run images_at.membrane 1 (length (membranes_of items)) b u in let z : 1 + w.0 ≡ suc w.0 = omega arith in (w.0, w.1, ap images_at.membrane (sym z) ∙ w.2)

    part_in : (k b : ℕ) → IsInPart h items images_at k b → In b (all_parts h r images_at part_at t.link_of t.typed_of items)
    part_in k b w = let y : 0 + w.0 ≡ w.0 = omega arith in
        in_parts part_at 0 (length (typed_contexts_of items)) b w.0 (get_below (typed_contexts_of items) w.0 w.1 w.2) (subst (λ z. In b (part_at z)) (sym y) (((part_whole w.0 w.1 w.2).1 b).1 w.4))

    in_part : (k : ℕ) (n : HeadMembrane) → HasMembrane items k n → (b : ℕ) → In b (atoms_in h (images_at.membrane k)) → In b (all_parts h r images_at part_at t.link_of t.typed_of items) → IsInPart h items images_at k b
    in_part k n c b p u =
        let w = parts_in part_at 0 (length (typed_contexts_of items)) b u in
        let z : 0 + w.0 ≡ w.0 = omega arith in
        let here : In b (part_at w.0) = subst (λ n. In b (part_at n)) z w.2 in
        let y = get_some (typed_contexts_of items) w.0 w.1 in
        let one = one_home h v (images_at.membrane y.0.inside) (images_at.membrane k) b ((typed_there w.0 y.0 y.1).placed b here) p in
        let ks : k ≡ suc c.0 = c.1 in (
          w.0,
          y.0,
          y.1,
          same_membrane y.0.inside c.0 (typed_below w.0 y.0 y.1) (get_below (membranes_of items) c.0 n c.2) (one ∙ ap images_at.membrane ks) ∙ sym ks,
          ((part_whole w.0 y.0 y.1).1 b).0 here,
        )

    -- the rest of a membrane is what is left in it
    left_there : (k : ℕ) (n : HeadMembrane) → HasMembrane items k n → (b : ℕ) → IsInRest h items images_at k b → LeftIn h r images_at part_at t.link_of t.typed_of items (images_at.membrane k) b
    left_there k n c b (inl w) = inl (w.0, (λ u. w.1 (in_image b u)), (λ u. w.2 (in_part k n c b w.0 u)))
    left_there k n c b (inr w) = inr (w.0, w.1, (λ u. w.2 (in_membrane w.0 u)), w.3)

    rest_there : (k : ℕ) (n : HeadMembrane) → HasMembrane items k n → (b : ℕ) → LeftIn h r images_at part_at t.link_of t.typed_of items (images_at.membrane k) b → IsInRest h items images_at k b
    rest_there k n c b (inl w) = inl (w.0, (λ u. w.1 (image_in b u)), (λ u. w.2 (part_in k b u)))
    rest_there k n c b (inr w) = inr (w.0, w.1, (λ u. w.2 (membrane_in w.0 u)), w.3)

    -- an embedding in the region is one on the heap
    pub embeds : (guard : List Cond) → ((n : ℕ) (u : HeadTyped) → HasTyped items n u → IsOfKindAt h u.kind (images_at.part n)) → HoldsOnHeap h (meaning items images_at) guard → Embeds h items guard m images_at
    embeds guard kinds holds = record {
      lies = record {
        here = refl;
        atoms_differ = differ;
        membranes_differ = λ n k l j e. let q = lengths.1 in index_once found.membranes (distinct_of found.membranes membranes_few) n k (omega (arith, l, q)) (omega (arith, j, q)) e;
        functors = λ n a k. let w = atom_there n a k in functor_read h r (images_at.atom n) a.functor a.links (map t.link_of a.links) (atom_is n a k) names (heap_names (images_at.atom n)) (head_names n a k) w.is (length-map a.links t.link_of ∙ fit n a k);
        atoms_placed = λ n a k. (atom_there n a k).placed;
        membranes_placed = λ k n c. (membrane_there k n c).placed;
        joined = λ x p q k j d.
            let u = port_of x p k in
            let w = port_of x q j in
            elim (naming.apart (images_at.atom p.0) p.1 (images_at.atom q.0) q.1 u.1 w.1 (u.0 ∙ sym w.0)) [
              | inl s ↦ absurd (d (λ i. (differ p.0 q.0 (get_below (atoms_of items) p.0 k.0 k.1) (get_below (atoms_of items) q.0 j.0 j.1) s.0 i, s.1 i)))
              | inr s ↦ s
            ];
        no_other_atom = λ k n b c none' p.
            elim (((membrane_there k n c).alone none').0 b p) [
              | inl u ↦ (let w = in_run images_at.atom 0 (length (atoms_of items)) b u in
                  let z : 0 + w.0 ≡ w.0 = omega arith in
                  inl (w.0, w.1, ap images_at.atom (sym z) ∙ w.2))
              | inr u ↦ (let w = parts_in part_at 0 (length (typed_contexts_of items)) b u in
                  let z : 0 + w.0 ≡ w.0 = omega arith in
                  let here : In b (part_at w.0) = subst (λ n. In b (part_at n)) z w.2 in
                  let y = get_some (typed_contexts_of items) w.0 w.1 in
                  let one = one_home h v (images_at.membrane y.0.inside) (images_at.membrane k) b ((typed_there w.0 y.0 y.1).placed b here) p in
                  let ks : k ≡ suc c.0 = c.1 in
                  inr (
                    w.0,
                    y.0,
                    y.1,
                    same_membrane y.0.inside c.0 (typed_below w.0 y.0 y.1) (get_below (membranes_of items) c.0 n c.2) (one ∙ ap images_at.membrane ks) ∙ sym ks,
                    ((part_whole w.0 y.0 y.1).1 b).0 here,
                  ))
            ];
        no_other_membrane = λ k n b c none' p.
            let u = ((membrane_there k n c).alone none').1 b p in
            let w = in_run images_at.membrane 1 (length (membranes_of items)) b u in
            let z : 1 + w.0 ≡ suc w.0 = omega arith in
            (w.0, w.1, ap images_at.membrane (sym z) ∙ w.2);
        no_rule = λ k n c none'. (membrane_there k n c).no_rule none';
        closed = λ k n b i p c z u q. rest_there k n c p.0 ((membrane_there k n c).closed z b i p (left_there k n c b u) q);
        parts = λ n u k.
            let root = entered n u k in
            let below = get_below (typed_contexts_of items) n u k in
            let whole = part_whole n u k in
            record {
              held = λ p j.
                  let a = port_of u.link p j in
                  let c = port_of u.link root.port root.has in
                  elim (naming.apart (images_at.atom p.0) p.1 (images_at.atom root.port.0) root.port.1 a.1 c.1 (a.0 ∙ sym c.0)) [
                    | inl s ↦ (λ i. link_of h (s.0 i) (s.1 i)) ∙ root.joined
                    | inr s ↦ absurd (
                        let same = same_port (sym (v.sound.paired.back (images_at.atom p.0) p.1 (images_at.atom root.port.0) root.port.1 s) ∙ root.joined) in
                        part_clash n (images_at.part n).0 below ((whole.1 (images_at.part n).0).1 at_root) p.0 (get_below (atoms_of items) p.0 j.0 j.1) same.0)
                  ];
              of_kind = kinds n u k;
              whole = whole.0;
              apart = λ b w j. part_clash n b below ((whole.1 b).1 w) j.0 j.1 j.2;
            };
      };
      outside = λ n i x a p k g one inside q w. (atom_there n a k).outside i x p g one inside q w;
      holds = holds;
    }
