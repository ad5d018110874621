-- An embedding in order, found on the heap: its images, links and parts are those of the heap's embedding.
use Rattle.std.proofs.Common.{ℕ, suc, ◌≡◌, ◌≢◌, ◌+◌, ◌≤◌, List, [], ◌∷◌, map, length, Some, refl, sym, ap, subst, ◌∙◌, inl, arith}
use Rattle.std.specs.Prelude.{slice_get, slice_index_or}
use Rattle.lmn_base.specs.declared.guard.Cond.{Cond}
use Rattle.lmn_guards.specs.declared.plan.TypeKind.{TypeKind}
use Rattle.lmn_store_heap.specs.Heap.{Heap, atoms_in, mems_in, rules_in}
use Rattle.lmn_store_heap.specs.Lists.{Distinct}
use Rattle.lmn_store_heap.specs.Sound.{Forest, bare, mem, flat, Forms, Valid}
use Rattle.lmn_solid_heads.specs.declared.items.HeadItem.{HeadItem}
use Rattle.lmn_solid_heads.specs.Heads.{HeadAtom, HeadTyped, atoms_of, typed_contexts_of, membranes_of, inside_of}
use Rattle.lmn_solid_heads.specs.Embeddings.{Images, Embeds, HasLink, HasAtom, HasTyped}
use Rattle.lmn_solid_heads.proofs.HeadTrees.{Head, flat_items}
use Rattle.lmn_congruence.specs.Links.{one_if_same, places}
use Rattle.lmn_congruence.specs.Regions.{Region, region}
use Rattle.lmn_congruence.specs.Translation.{name_of}
use Rattle.lmn_reduction.specs.Assignments.{Assignment}
use Rattle.lmn_adequacy.specs.Accepted.{NoConnectorLeaf, EachLevel, own_leaves}
use Rattle.lmn_adequacy.specs.Embedding.{IsPart, Contents, assignment_of}
use Rattle.lmn_adequacy.specs.Loose.{Plain, LevelImages, EachLeft}
use Rattle.lmn_compile_head.specs.Heads.{EachInside}
use Rattle.lmn_adequacy_heaps.specs.HeapRegions.{HeapReading, regions_at, region_at}
use Rattle.lmn_adequacy_heaps.specs.Numbers.{numbers_left}
use Rattle.lmn_adequacy_heaps.specs.Premises.{IsRead}
use Rattle.lmn_adequacy_heaps.specs.Parts.{HasPart, IsGroundPart}
use Rattle.lmn_adequacy_heaps.proofs.Back.{Placed, Reads, walk_level, Stood}
use Rattle.lmn_adequacy_heaps.proofs.Contexts.{Few, NoRules}
use Rattle.lmn_adequacy_heaps.proofs.Counting.{weigh_same, list_atoms, times_at, tree_atoms, forest_atoms}
use Rattle.lmn_adequacy_heaps.proofs.Forests.{each_tree, forms_tops, forms_grown, once_of, some_of, tree_once, distinct_of}
use Rattle.lmn_adequacy_heaps.proofs.HeadTrees.{tree_of}
use Rattle.lmn_adequacy_heaps.proofs.Laying.{AtomLies, MembraneLies, TypedLies, all_atoms, all_parts, all_membranes, total}
use Rattle.lmn_adequacy_heaps.proofs.Into.{two_ends}
use Rattle.lmn_adequacy_heaps.proofs.Keeping.{carry_level, left_apart}
use Rattle.lmn_adequacy_heaps.proofs.Lying.{Kept, Lies}
use Rattle.lmn_adequacy_heaps.proofs.Lengths.{level_length}
use Rattle.lmn_adequacy_heaps.proofs.Numbering.{level_numbers}
use Rattle.lmn_adequacy_heaps.proofs.Occurrences.{times_are, times_parts, port_counts, typed_counts}
use Rattle.lmn_adequacy_heaps.proofs.PartLaws.{ground_parts_stand_whole}
use Rattle.lmn_adequacy_heaps.proofs.PartsLaid.{held_part}
use Rattle.lmn_adequacy_heaps.proofs.PartsOut.{flattened}
use Rattle.lmn_adequacy_heaps.proofs.Pieces.{atom_at, atoms_each}
use Rattle.lmn_adequacy_heaps.proofs.Ports.{port_named}
use Rattle.lmn_adequacy_heaps.proofs.Runs.{get_inside}
use Rattle.lmn_adequacy_heaps.proofs.Walking.{Walk, walk_from, walk_atom, walk_typed, atoms_in_items, typed_in_items, membranes_in_items, run}
use Rattle.lmn_adequacy_heaps.proofs.Weighing.{level_weighs, weigh_nothing}
use Rattle.lmn_adequacy_turns.proofs.Held.{Held, HeldLevel, held_level, lies_kept}
use Rattle.lmn_adequacy_turns.proofs.Numbered.{SameImages, same_images, embedding_fresh}
use Rattle.lmn_base.specs.Graphs.{Port}
use Rattle.lmn_base.proofs.Lists.{weigh, get_below, weigh_append, get_map, plus_nothing}
use Rattle.lmn_adequacy_heaps.proofs.OutOf.{flattened_in, index_in, places_part, reads_index, reads_run}
use Rattle.lmn_base.specs.Lists.{In}

-- ---- lists by their indices

module _ (h : Heap) (r : HeapReading) (read : IsRead h r) (kind : ℕ → TypeKind) (hd : Head) (m : ℕ) (inner : Forest) (forms : Forms h inner (mems_in h m)) (once : Distinct (m ∷ flat inner))
    (c : Contents) (plain : Plain (assignment_of c)) (ns : List ℕ) (rest : Region) (images : LevelImages (assignment_of c) (tree_of r.names r.rule hd) ns (region_at h r m inner) rest) (left : EachLeft c images)
    (o : EachLevel (λ l. NoConnectorLeaf (own_leaves l)) (tree_of r.names r.rule hd)) (none : EachLevel NoRules (tree_of r.names r.rule hd)) (few : EachLevel Few (tree_of r.names r.rule hd))
    (holds_typed : (n : ℕ) (u : HeadTyped) → HasTyped (flat_items kind 0 1 hd) n u → (p : Port) × HasLink (flat_items kind 0 1 hd) u.link p) (inside : EachInside 0 (flat_items kind 0 1 hd))
    (guard : List Cond) (f : Images) (em : Embeds h (flat_items kind 0 1 hd) guard m f) (numbers : numbers_left h f 0 1 [] [] (flat_items kind 0 1 hd) ≡ ns) where
  abbrev items : List HeadItem
  items = flat_items kind 0 1 hd

  abbrev v : Valid h
  v = read.valid

  abbrev t : Assignment
  t = assignment_of c

  -- the head lies in the lists of the heap
  pub found : HeldLevel h read.valid r c (tree_of r.names r.rule hd) ns (atoms_in h m) inner (map r.rule (rules_in h m)) rest
  found = held_level h v r c (atoms_in h m) inner (map r.rule (rules_in h m)) (v.sound.listed.atoms_once m) images left
      (λ j. region (atoms_each h r (atoms_in h m) (list_atoms h v m) j) (regions_at h r inner) (map r.rule (rules_in h m)))

  -- the atoms of the part of each typed context
  abbrev pub part_at : ℕ → List ℕ
  part_at n = slice_index_or found.parts n []

  abbrev listed : Images
  listed = record {
    atom = λ n. slice_index_or found.atoms n 0;
    membrane = λ k. slice_index_or (m ∷ found.membranes) k 0;
    part = λ n. (0, 0);
  }

  lengths : (length found.atoms ≡ atoms_in_items items) × (length found.membranes ≡ membranes_in_items items) × (length found.parts ≡ typed_in_items items)
  lengths = level_length h r c.link_of c.typed_of (Held h v r c) kind 0 1 hd o found.lying

  pub whole_once : (b : ℕ) → weigh (one_if_same b) (atoms_in h m) + weigh (one_if_same b) (forest_atoms h inner) ≤ 1
  whole_once b =
      let whole = subst (λ z. Distinct (m ∷ z)) (sym (plus_nothing (flat inner))) once in
      let u = tree_once h v m inner whole b in
      omega (arith, u, weigh_append (one_if_same b) (atoms_in h m) (forest_atoms h inner), weigh_same b (tree_atoms h m inner))

  listed_numbers : numbers_left h listed 0 1 [] [] items ≡ ns
  listed_numbers = level_numbers h v r c.link_of c.typed_of (Held h v r c) listed kind 0 1 0 hd m [] [] refl o found.lying
      (reads_index 0 found.atoms listed.atom 0 (λ i l. let z : 0 + i ≡ i = omega arith in ap listed.atom z))
      (reads_index 0 found.membranes listed.membrane 1 (λ i l. let z : 1 + i ≡ suc i = omega arith in ap listed.membrane z))
      (forms_tops h inner (mems_in h m) forms) (forms_grown h inner (mems_in h m) forms)
      (λ b. omega (arith, whole_once b)) (λ b. omega (arith, once_of b (flat inner) once.1, weigh_same b (flat inner)))

  same : SameImages f listed 0 1 items
  same = same_images h f listed 0 0 1 [] [] items (omega arith) inside
      (λ j l. let z : j ≡ 0 = omega (arith, l) in subst (λ k. f.membrane k ≡ listed.membrane k) (sym z) em.lies.here)
      (embedding_fresh h items guard m f em) (numbers ∙ sym listed_numbers)

  atoms_read : Reads f.atom 0 found.atoms
  atoms_read = reads_index 0 found.atoms f.atom 0 (λ i l. let z : 0 + i ≡ i = omega arith in let q = lengths.0 in same.atoms i (omega (arith, l, q)) ∙ ap listed.atom z)

  pub membranes_read : Reads f.membrane 1 found.membranes
  membranes_read = reads_index 0 found.membranes f.membrane 1 (λ i l. let z : 1 + i ≡ suc i = omega arith in let q = lengths.1 in same.mems i (omega (arith, l, q)) ∙ ap listed.membrane z)

  parts_read : Reads part_at 0 found.parts
  parts_read = reads_index [] found.parts part_at 0 (λ i l. let z : 0 + i ≡ i = omega arith in ap part_at z)

  pub atoms_are : all_atoms h r f part_at c.link_of c.typed_of items ≡ found.atoms
  atoms_are = ap (run f.atom 0) (sym lengths.0) ∙ reads_run f.atom 0 found.atoms atoms_read

  pub membranes_are : all_membranes h r f part_at c.link_of c.typed_of items ≡ found.membranes
  membranes_are = ap (run f.membrane 1) (sym lengths.1) ∙ reads_run f.membrane 1 found.membranes membranes_read

  pub parts_are : all_parts h r f part_at c.link_of c.typed_of items ≡ flattened found.parts
  parts_are = ap flattened (ap (run part_at 0) (sym lengths.2) ∙ reads_run part_at 0 found.parts parts_read)

  typed_twice : (i : ℕ) (u : HeadTyped) → HasTyped items i u → total h r f part_at c.link_of c.typed_of items u.link ≢ 1
  typed_twice i u k q =
      let p = holds_typed i u k in
      omega (arith, q, times_parts u.link items, port_counts u.link (atoms_of items) 0 p.0.0 p.0.1 p.1.0 p.1.1 p.1.2, typed_counts u.link (typed_contexts_of items) i u k refl)

  facts : Walk (λ n a. Unit {0}) (λ n a. total h r f part_at c.link_of c.typed_of items a.link ≢ 1) (λ k n. (inside_of (membranes_of items) k ≡ n.inside) × (k ≤ length (membranes_of items))) 0 0 1 items
  facts = walk_from (λ n a. Unit {0}) (λ n a. total h r f part_at c.link_of c.typed_of items a.link ≢ 1) (λ k n. (inside_of (membranes_of items) k ≡ n.inside) × (k ≤ length (membranes_of items))) items 0 0 1
      (λ i a e. tt) (λ i a e. typed_twice i a e) (λ i n e. let z : 1 + i ≡ suc i = omega arith in (rw z (get_inside (membranes_of items) i n e), omega (arith, get_below (membranes_of items) i n e)))

  -- in each membrane what is left is apart
  placed : Lies h r c.link_of c.typed_of (Placed h v r read.naming f part_at t plain items kind) (tree_of r.names r.rule hd) found.atoms found.parts found.membranes ns (atoms_in h m) found.left_atoms inner found.left_forest
  placed = carry_level h r f part_at c.link_of c.typed_of items (Kept h r t) (Placed h v r read.naming f part_at t plain items kind)
      (λ el ea em' l m bs ps ms ns xs i i' d k x s. (k, left_apart h r f part_at c.link_of c.typed_of items el ea em' d x))
      (λ x. 0) (λ b. 0) (λ b. 0) (lies_kept h v r c found.lying)
      (record {
        link_room = λ x.
            let u = two_ends h v r read.naming (c.link_of x) (tree_atoms h m inner) (each_tree h v m inner) (tree_once h v m inner whole) in
            omega (arith, u, weigh_append (times_at h r (c.link_of x)) (atoms_in h m) (forest_atoms h inner));
        atom_room = λ b. omega (arith, whole_once b);
        membrane_room = λ b. omega (arith, once_of b (flat inner) once.1, weigh_same b (flat inner));
        all_atoms_are = λ b. omega (arith, ap (weigh (one_if_same b)) atoms_are, ap (weigh (one_if_same b)) parts_are);
        all_membranes_are = λ b. omega (arith, ap (weigh (one_if_same b)) membranes_are);
      })
      (λ x. omega (arith, times_are r.names r.rule kind x 0 1 hd))
    where
      whole : Distinct (flat (mem m inner bare))
      whole = subst (λ z. Distinct (m ∷ z)) (sym (plus_nothing (flat inner))) once

  stood : Stood h v r read.naming f part_at t plain items kind 0 0 1 items found.atoms found.parts found.membranes
  stood = walk_level h v r read.naming f part_at t plain items kind 0 1 0 0 hd m em.lies.here (omega arith) o none few facts placed
      atoms_read parts_read membranes_read
      (forms_tops h inner (mems_in h m) forms) (forms_grown h inner (mems_in h m) forms) (inl refl)
      (λ x. omega (arith, times_are r.names r.rule kind x 0 1 hd))
      (λ b p. subst (In b) (sym atoms_are) p) (λ b p. subst (In b) (sym parts_are) p) (λ b p. subst (In b) (sym membranes_are) p)

  atom_there : (n : ℕ) (a : HeadAtom) → HasAtom items n a → AtomLies h r f part_at c.link_of c.typed_of items n a
  atom_there n a k = let z : 0 + n ≡ n = omega arith in subst (λ z. AtomLies h r f part_at c.link_of c.typed_of items z a) z
      (walk_atom (AtomLies h r f part_at c.link_of c.typed_of items) (TypedLies h r f part_at c.link_of c.typed_of items) (MembraneLies h r f part_at c.link_of c.typed_of items) items 0 0 1 stood.walk n a k)

  typed_there : (n : ℕ) (u : HeadTyped) → HasTyped items n u → TypedLies h r f part_at c.link_of c.typed_of items n u
  typed_there n u k = let z : 0 + n ≡ n = omega arith in subst (λ z. TypedLies h r f part_at c.link_of c.typed_of items z u) z
      (walk_typed (AtomLies h r f part_at c.link_of c.typed_of items) (TypedLies h r f part_at c.link_of c.typed_of items) (MembraneLies h r f part_at c.link_of c.typed_of items) items 0 0 1 stood.walk n u k)

  -- a link of the head is that at the image of each of its ports
  pub link_is : (x : ℕ) (p : Port) → HasLink items x p → r.name (f.atom p.0) p.1 ≡ c.link_of x
  link_is x p k =
      let w = atom_there p.0 k.0 k.1 in
      (port_named h v r (f.atom p.0) p.1 (c.link_of x) (subst (λ z. slice_get z.links p.1 ≡ Some (c.link_of x)) (sym w.is) (get_map c.link_of k.0.links p.1 x k.2))).0

  places_few : (b : ℕ) → places b found.atoms + places b (flattened found.parts) ≤ 1
  places_few b =
      let heavy = level_weighs h (one_if_same b) (λ a. 0) found.lying in
      let u = whole_once b in
      omega (arith, heavy, u, weigh_nothing found.membranes, weigh_nothing (flat inner), weigh_nothing (flat found.left_forest), weigh_same b found.atoms, weigh_same b (flattened found.parts))

  -- the part of a typed context is ground
  pub part_ground : (n : ℕ) (u : HeadTyped) → HasTyped items n u → IsGroundPart h r (f.membrane u.inside) (f.part n) (part_at n) (c.typed_of (name_of r.names u.name))
  part_ground n u k =
      let w = typed_there n u k in
      let p = holds_typed n u k in
      let G = c.typed_of (name_of r.names u.name) in
      let q = lengths.0 in
      held_part h r read (f.membrane u.inside) (f.part n) (f.atom p.0.0, p.0.1) (part_at n) G w.ground
      (subst (λ z. IsPart (c.typed_of (name_of r.names u.name)) z (map (atom_at h r) (part_at n))) (sym (link_is u.link p.0 p.1)) w.is)
      (distinct_of (part_at n) (λ b. let s = places_few b in omega (arith, s, places_part found.parts b n))) w.placed ((em.lies.parts n u k).held p.0 p.1)
      (λ i.
      let l = get_below (atoms_of items) p.0.0 p.1.0 p.1.1 in
      let z : 0 + p.0.0 ≡ p.0.0 = omega arith in
      let here = subst (λ z. In z found.atoms) (sym (ap f.atom (sym z) ∙ same.atoms p.0.0 l ∙ ap listed.atom z)) (index_in found.atoms p.0.0 (omega (arith, l, q))) in
      let there = flattened_in found.parts (f.atom p.0.0) n i in
      let few = places_few (f.atom p.0.0) in
      omega (arith, few, some_of (f.atom p.0.0) found.atoms here, some_of (f.atom p.0.0) (flattened found.parts) there))

  -- it is what is reached on the heap
  pub part_is : (n : ℕ) (u : HeadTyped) → HasTyped items n u → HasPart h (f.part n) (part_at n)
  part_is n u k = (ground_parts_stand_whole h r (f.membrane u.inside) (f.part n) (part_at n) (c.typed_of (name_of r.names u.name)) read (part_ground n u k)).1
