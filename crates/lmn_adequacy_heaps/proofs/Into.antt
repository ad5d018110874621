-- An embedding on a heap is one in the region that stands for it.
use Rattle.std.proofs.Common.{ℕ, zero, suc, ◌≡◌, ◌≢◌, ◌+◌, ◌<◌, ◌≤◌, List, [], ◌∷◌, ◌++◌, map, length, Option, Some, None, refl, sym, ap, subst, ◌∙◌, inl, inr, arith}
use Rattle.std.specs.Prelude.{IsSome, slice_get}
use Rattle.std.proofs.lemmas.Bool.{cases_eq}
use Rattle.std.proofs.lemmas.Option.{same_Some}
use Rattle.lmn_guards.specs.declared.plan.TypeKind.{TypeKind}
use Rattle.lmn_store_heap.specs.Heap.{Heap, HeapAtom, IsAtom, atoms_in, mems_in, parent_of, rules_in, arity_of, link_of}
use Rattle.lmn_store_heap.proofs.Heights.{parent_is, valid_no_loop}
use Rattle.lmn_store_heap.specs.Conditions.{Above}
use Rattle.lmn_store_heap.specs.Lists.{Distinct}
use Rattle.lmn_store_heap.specs.Sound.{Forest, bare, mem, flat, Valid, Forms}
use Rattle.lmn_store_heap.specs.Solid.{IsNaming, links_from}
use Rattle.lmn_solid_heads.specs.declared.items.HeadItem.{HeadItem}
use Rattle.lmn_solid_heads.specs.Heads.{HeadAtom, HeadTyped, HeadMembrane, atoms_of, typed_contexts_of, membranes_of, at_atoms}
use Rattle.lmn_solid_heads.specs.Embeddings.{Images, HasLink, HasAtom, HasTyped, HasMembrane, Embeds, IsAtomImage, IsInPart, IsInRest, IsMembraneImage}
use Rattle.lmn_congruence.specs.Links.{one_if_same, places}
use Rattle.lmn_congruence.specs.LinkedRules.{level_occurrences}
use Rattle.lmn_congruence.specs.Process.{Closed, Free}
use Rattle.lmn_congruence.specs.Regions.{Region, region, no_region, region_process}
use Rattle.lmn_congruence.specs.Rules as tree
use Rattle.lmn_congruence.specs.Translation.{label_of, name_of}
use Rattle.lmn_reduction.specs.Assignments.{Assignment}
use Rattle.lmn_adequacy.specs.Accepted.{EachOf, own_membranes as inner_levels, contexts_in, rule_contexts_in, EachLevel, NoConnectorLeaf, own_leaves}
use Rattle.lmn_adequacy.specs.Embedding.{IsPart, Contents, assignment_of}
use Rattle.lmn_adequacy.specs.Loose.{Plain, LevelImages}
use Rattle.lmn_adequacy.proofs.InOrder.{contents_plain}
use Rattle.lmn_adequacy_heaps.specs.HeapRegions.{HeapReading, regions_at, region_at}
use Rattle.lmn_adequacy_heaps.proofs.Pieces.{atom_at, atom_by, atoms_each}
use Rattle.lmn_adequacy_heaps.proofs.Counting.{weigh_same, times_at, tree_atoms, forest_atoms, list_atoms, ends_among}
use Rattle.lmn_solid_heads.proofs.HeadTrees.{Head, flat_items, size}
use Rattle.lmn_adequacy_heaps.proofs.HeadTrees.{tree_of}
use Rattle.lmn_adequacy_heaps.proofs.Lying.{Lies, level_images_of}
use Rattle.lmn_adequacy_heaps.proofs.Walking.{Walk, atoms_in_items, flat_size, inside_bound, inside_less, membranes_in_items, walk_from, walk_membrane, walk_typed, run}
use Rattle.lmn_adequacy_heaps.proofs.Forests.{forms_tops, forms_grown, once_of, one_home, tree_once, each_tree, find_in}
use Rattle.lmn_adequacy_heaps.proofs.Ports.{find_place, port_named}
use Rattle.lmn_adequacy_heaps.specs.Parts.{HasPart, IsGroundPart}
use Rattle.lmn_adequacy_heaps.proofs.EmbeddedParts.{embedded_parts_are_apart}
use Rattle.lmn_adequacy_heaps.proofs.PartLaws.{ground_parts_stand_whole}
use Rattle.lmn_adequacy_heaps.proofs.PartsOut.{flattened}
use Rattle.lmn_adequacy_heaps.proofs.PartsLaid.{as_read}
use Rattle.lmn_adequacy_heaps.proofs.Runs.{run_in, in_run, run_distinct, get_inside, parts_in, in_parts, parts_once}
use Rattle.lmn_adequacy_heaps.proofs.Laying.{AtomLies, MembraneLies, TypedLies, Known, LeftIn, LaidLevel, lay_level, all_atoms, all_parts, all_membranes, total}
use Rattle.lmn_adequacy_heaps.proofs.Keeping.{Closes, Elsewhere, carry_level, keep_level, left_apart}
use Rattle.lmn_adequacy_heaps.proofs.Rests.{closed_rest}
use Rattle.lmn_adequacy.proofs.Lookups.{context_or_not, look, look_found, look_holds, name_or_not}
use Rattle.lmn_adequacy_heaps.proofs.Contexts.{Few, LeftClosed, NoRules, level_contents}
use Rattle.lmn_adequacy_heaps.specs.Numbers.{numbers_left}
use Rattle.lmn_adequacy_heaps.proofs.Numbering.{level_numbers, run_reads}
use Rattle.lmn_adequacy_heaps.proofs.Occurrences.{first_name, first_found, times_are, times_parts, port_counts, typed_counts, two_typed}
use Rattle.lmn_base.specs.Graphs.{Port}
use Rattle.lmn_congruence.specs.Orders.{EachOnce}
use Rattle.lmn_base.proofs.Lists.{weigh, get_below, get_there as get_some, weigh_append, plus_nothing}
use Rattle.lmn_base.specs.declared.guard.Cond.{Cond}
use Rattle.lmn_adequacy_heaps.specs.Premises.{IsRead}
use Rattle.lmn_reduction.specs.Parts.{Rooted}
use Rattle.lmn_base.specs.Lists.{In}
use Rattle.std.specs.List.{AllByRecursion}
use Rattle.lmn_base.proofs.Numbers.{is_port}

-- ---- links of an atom

-- the links of an atom are the images of a head atom's links
pub numbered_are : (name : ℕ → ℕ → ℕ) (g : ℕ → ℕ) (b k n : ℕ) (ys : List ℕ) → length ys ≡ n → ((j x : ℕ) → slice_get ys j ≡ Some x → name b (k + j) ≡ g x) → links_from name b k n ≡ map g ys
numbered_are name g b k zero [] e h = refl
numbered_are name g b k zero (y ∷ ys) e h = absurd (omega (arith, e))
numbered_are name g b k (suc n) [] e h = absurd (omega (arith, e))
numbered_are name g b k (suc n) (y ∷ ys) e h =
    let z : k + 0 ≡ k = omega arith in
    let first : name b k ≡ g y = rw z at (h 0 y refl) in
    let rest = numbered_are name g b (k + 1) n ys (omega (arith, e)) (λ j x s. let z : k + suc j ≡ (k + 1) + j = omega arith in rw z at (h (suc j) x s)) in
    λ i. first i ∷ rest i

-- ---- the ends of links

-- at most two ports have one number
pub two_ends : (h : Heap) (v : Valid h) (r : HeapReading) → IsNaming h r.name → (x : ℕ) (xs : List ℕ) → AllByRecursion (IsAtom h) xs → ((z : ℕ) → places z xs ≤ 1) → weigh (times_at h r x) xs ≤ 2
two_ends h v r naming x xs e once = elim (cases_eq (weigh (times_at h r x) xs) 0) [
  | inl z ↦ omega (arith, z)
  | inr z ↦ some z
]
  where
    heavy_one : (ys : List ℕ) → weigh (times_at h r x) ys ≢ 0 → (c : ℕ) × (times_at h r x c ≢ 0)
    heavy_one [] z = absurd (z refl)
    heavy_one (y ∷ ys) z = elim (cases_eq (times_at h r x y) 0) [
      | inl w ↦ heavy_one ys (λ q. z (omega (arith, w, q)))
      | inr w ↦ (y, w)
    ]

    at : (c i : ℕ) → r.name c i ≡ x → i < arity_of h c → (o : Option (ℕ × ℕ)) → link_of h c i ≡ o → IsSome o → weigh (times_at h r x) xs ≤ 2
    at c i n l None q s = absurd (cc)
    at c i n l (Some d) q s = let w = ends_among h r v naming c i d.0 d.1 l q xs e in rw (← n) (omega (arith, w, once c, once d.0))

    some : weigh (times_at h r x) xs ≢ 0 → weigh (times_at h r x) xs ≤ 2
    some z =
        let u = heavy_one xs z in
        let p = find_place x (atom_at h r u.0).links u.1 in
        let q = port_named h v r u.0 p.0 x p.1 in
        at u.0 p.0 q.0 q.1 (link_of h u.0 p.0) refl (v.full u.0 p.0 q.1)

-- ---- an embedding

module _ (h : Heap) (v : Valid h) (r : HeapReading) (naming : IsNaming h r.name) (kind : ℕ → TypeKind) (hd : Head) (f : Images) where
  abbrev items : List HeadItem
  items = flat_items kind 0 1 hd

  abbrev Tree : tree.Level
  Tree = tree_of r.names r.rule hd

  -- each link of the rule has the number of the link at the image of its first port
  abbrev pub link_name : ℕ → ℕ
  link_name = first_name (λ p. r.name (f.atom p.0) p.1) (at_atoms 0 (atoms_of items))

  module _ (guard : List Cond) (m : ℕ) (e : Embeds h (flat_items kind 0 1 hd) guard m f) (fit : (n : ℕ) (a : HeadAtom) → HasAtom (flat_items kind 0 1 hd) n a → length a.links ≡ a.functor.arity) where
    named : (x : ℕ) (p : Port) → HasLink items x p → r.name (f.atom p.0) p.1 ≡ link_name x
    named x p k =
        let u = first_found (λ p. r.name (f.atom p.0) p.1) 0 (atoms_of items) x p (p.0, k.0, omega arith, k.1, k.2) in
        let q = u.0 in
        let z : u.1.0 ≡ q.0 = omega (arith, u.1.2) in
        let s : HasLink items x q = (u.1.1, subst (λ i. slice_get (atoms_of items) i ≡ Some u.1.1) z u.1.3, u.1.4) in
        elim (cases_eq p.0 q.0) [
          | inl a ↦ elim (cases_eq p.1 q.1) [
            | inl b ↦ (λ i. r.name (f.atom (a i)) (b i)) ∙ sym u.2
            | inr d ↦ naming.joined (f.atom p.0) p.1 (f.atom q.0) q.1 (e.lies.joined x p q k s (λ w. d (ap (λ z. z.1) w))) ∙ sym u.2
          ]
          | inr d ↦ naming.joined (f.atom p.0) p.1 (f.atom q.0) q.1 (e.lies.joined x p q k s (λ w. d (ap (λ z. z.0) w))) ∙ sym u.2
        ]

    read_atom : (n : ℕ) (a : HeadAtom) → HasAtom items n a → atom_at h r (f.atom n) ≡ record { label = label_of r.names a.functor.label; links = map link_name a.links }
    read_atom n a k = by (h.atoms (f.atom n)) refl
      where
        by : (o : Option HeapAtom) → h.atoms (f.atom n) ≡ o → atom_by r (f.atom n) o ≡ record { label = label_of r.names a.functor.label; links = map link_name a.links }
        by None q = absurd (let w = e.lies.functors n a k in let s : None ≡ Some a.functor = rw q at w in cc)
        by (Some y) q =
            let w = e.lies.functors n a k in
            let s : y.functor ≡ a.functor = same_Some y.functor a.functor (rw q at w) in
            let len : length a.links ≡ y.functor.arity = fit n a k ∙ ap (λ g. g.arity) (sym s) in
            let ls = numbered_are r.name link_name (f.atom n) 0 y.functor.arity a.links len (λ j x g. let z : 0 + j ≡ j = omega arith in rw z (named x (n, j) (a, k, g))) in
            λ i. record { label = label_of r.names (s i).label; links = ls i }

    module _ (none : EachLevel (λ l. NoConnectorLeaf (own_leaves l)) (tree_of r.names r.rule hd)) (typed_of : tree.Name → Rooted)
        (holds : (n : ℕ) (t : HeadTyped) → HasTyped (flat_items kind 0 1 hd) n t → (p : Port) × HasLink (flat_items kind 0 1 hd) t.link p)
        (read : IsRead h r) (part_at : ℕ → List ℕ)
        (grounds : (n : ℕ) (t : HeadTyped) → HasTyped (flat_items kind 0 1 hd) n t → IsGroundPart h r (f.membrane t.inside) (f.part n) (part_at n) (typed_of (name_of r.names t.name)))
        (linked : (x : ℕ) → level_occurrences x (tree_of r.names r.rule hd) ≤ 2) where
      atom_lies : (n : ℕ) (a : HeadAtom) → HasAtom items n a → AtomLies h r f part_at link_name typed_of items n a
      atom_lies n a k = record {
        is = read_atom n a k;
        placed = e.lies.atoms_placed n a k;
        outside = λ i x p g one inner q w. e.outside n i x a p k g one inner q w;
      }

      part_name : (n : ℕ) (t : HeadTyped) → HasTyped items n t → r.name (f.part n).0 (f.part n).1 ≡ link_name t.link
      part_name n t k =
          let p = holds n t k in
          sym (naming.joined (f.atom p.0.0) p.0.1 (f.part n).0 (f.part n).1 ((e.lies.parts n t k).held p.0 p.1)) ∙ named t.link p.0 p.1

      total_ports : (n : ℕ) (t : HeadTyped) → HasTyped items n t → 1 ≤ places t.link (map (λ o. o.link) (at_atoms 0 (atoms_of items)))
      total_ports n t k = let p = holds n t k in port_counts t.link (atoms_of items) 0 p.0.0 p.0.1 p.1.0 p.1.1 p.1.2

      part_of_calculus : (n : ℕ) (t : HeadTyped) → HasTyped items n t → IsPart (typed_of (name_of r.names t.name)) (link_name t.link) (map (atom_at h r) (part_at n))
      part_of_calculus n t k = subst (λ z. IsPart (typed_of (name_of r.names t.name)) z (map (atom_at h r) (part_at n))) (part_name n t k)
          (as_read h r read (f.membrane t.inside) (f.part n) (part_at n) (typed_of (name_of r.names t.name)) (grounds n t k))

      typed_lies : (n : ℕ) (t : HeadTyped) → HasTyped items n t → TypedLies h r f part_at link_name typed_of items n t
      typed_lies n t k = record {
        ground = (grounds n t k).ground;
        is = part_of_calculus n t k;
        placed = (grounds n t k).inside;
        twice = λ q. omega (arith, q, times_parts t.link items, total_ports n t k, typed_counts t.link (typed_contexts_of items) n t k refl);
      }

      -- the part is what is reached on the heap
      part_is : (n : ℕ) (t : HeadTyped) → HasTyped items n t → HasPart h (f.part n) (part_at n)
      part_is n t k = (ground_parts_stand_whole h r (f.membrane t.inside) (f.part n) (part_at n) (typed_of (name_of r.names t.name)) read (grounds n t k)).1

      find_typed : (i : ℕ) → i < length (typed_contexts_of items) → (t : HeadTyped) × HasTyped items i t
      find_typed i l = get_some (typed_contexts_of items) i l

      -- parts of different typed contexts have no common atom
      parts_differ : (b i j : ℕ) → i < length (typed_contexts_of items) → j < length (typed_contexts_of items) → In b (part_at i) → In b (part_at j) → i ≡ j
      parts_differ b i j l lj ki kj = elim (cases_eq i j) [
        | inl s ↦ s
        | inr d ↦ absurd (by d)
      ]
        where
          by : i ≢ j → ⊥
          by d =
              let a = find_typed i l in
              let c = find_typed j lj in
              let pa = holds i a.0 a.1 in
              let pb = holds j c.0 c.1 in
              elim (is_port pa.0.0 pa.0.1 pb.0) [
                | inl s ↦ (let atom_same : pa.1.0 ≡ pb.1.0 = same_Some pa.1.0 pb.1.0 (sym pa.1.1 ∙ ap (slice_get (atoms_of items)) s.0 ∙ pb.1.1) in
                    let link_same : a.0.link ≡ c.0.link = same_Some a.0.link c.0.link (sym pa.1.2 ∙ (λ z. slice_get (atom_same z).links (s.1 z)) ∙ pb.1.2) in
                    let three = times_parts c.0.link items in
                    let two = two_typed c.0.link (typed_contexts_of items) i j a.0 c.0 a.1 c.1 link_same refl d in
                    let u = times_are r.names r.rule kind c.0.link 0 1 hd in
                    omega (arith, three, two, total_ports j c.0 c.1, u, linked c.0.link))
                | inr n ↦ embedded_parts_are_apart h r items guard m f i j a.0 c.0 pa.0 pb.0 read e a.1 c.1 pa.1 pb.1 n b ((part_is i a.0 a.1 b).0 ki) ((part_is j c.0 c.1 b).0 kj)
              ]

      atoms_apart : (b i : ℕ) → i < length (typed_contexts_of items) → In b (part_at i) → (j : ℕ) × (j < length (atoms_of items)) × (f.atom (0 + j) ≡ b) → ⊥
      atoms_apart b i l k w =
          let t = find_typed i l in
          let zj : 0 + w.0 ≡ w.0 = omega arith in
          (e.lies.parts i t.0 t.1).apart b ((part_is i t.0 t.1 b).0 k) (w.0, w.1, ap f.atom (sym zj) ∙ w.2)

      once_all : (b : ℕ) → places b (all_atoms h r f part_at link_name typed_of items) + places b (all_parts h r f part_at link_name typed_of items) ≤ 1
      once_all b =
          let count = length (typed_contexts_of items) in
          let da = once_of b (all_atoms h r f part_at link_name typed_of items) (run_distinct f.atom 0 (length (atoms_of items)) (λ i j l k g. let zi : 0 + i ≡ i = omega arith in let zj : 0 + j ≡ j = omega arith in e.lies.atoms_differ i j l k (ap f.atom (sym zi) ∙ g ∙ ap f.atom zj))) in
          let dp : places b (flattened (run part_at 0 (length (typed_contexts_of items)))) ≤ 1 = parts_once part_at 0 (length (typed_contexts_of items)) b
          (λ i l. let zi : 0 + i ≡ i = omega arith in let t = find_typed i l in subst (λ w. places b (part_at w) ≤ 1) (sym zi) (once_of b (part_at i) (grounds i t.0 t.1).once))
          (λ i j l k p q. let zi : 0 + i ≡ i = omega arith in let zj : 0 + j ≡ j = omega arith in parts_differ b i j l k (subst (λ w. In b (part_at w)) zi p) (subst (λ w. In b (part_at w)) zj q)) in
          elim (cases_eq (places b (flattened (run part_at 0 (length (typed_contexts_of items))))) 0) [
            | inl z ↦ omega (arith, da, z)
            | inr z ↦ elim (cases_eq (places b (all_atoms h r f part_at link_name typed_of items)) 0) [
              | inl y ↦ omega (arith, dp, y)
              | inr y ↦ absurd (
                  let p = parts_in part_at 0 (length (typed_contexts_of items)) b (find_in b (flattened (run part_at 0 (length (typed_contexts_of items)))) (omega (arith, z))) in
                  let zi : 0 + p.0 ≡ p.0 = omega arith in
                  atoms_apart b p.0 p.1 (subst (λ w. In b (part_at w)) zi p.2) (in_run f.atom 0 (length (atoms_of items)) b (find_in b (all_atoms h r f part_at link_name typed_of items) (omega (arith, y)))))
            ]
          ]

      image_in : (b : ℕ) → IsAtomImage items f b → In b (all_atoms h r f part_at link_name typed_of items)
      image_in b w = let y : 0 + w.0 ≡ w.0 = omega arith in subst (λ b. In b (all_atoms h r f part_at link_name typed_of items)) (ap f.atom y ∙ w.2) (run_in f.atom 0 (length (atoms_of items)) w.0 w.1)

      in_image : (b : ℕ) → In b (all_atoms h r f part_at link_name typed_of items) → IsAtomImage items f b
      in_image b p = let w = in_run f.atom 0 (length (atoms_of items)) b p in let y : 0 + w.0 ≡ w.0 = omega arith in (w.0, w.1, ap f.atom (sym y) ∙ w.2)

      membrane_in : (b : ℕ) → IsMembraneImage items f b → In b (all_membranes h r f part_at link_name typed_of items)
      membrane_in b w = let y : 1 + w.0 ≡ suc w.0 = omega arith in subst (λ b. In b (all_membranes h r f part_at link_name typed_of items)) (ap f.membrane y ∙ w.2) (run_in f.membrane 1 (length (membranes_of items)) w.0 w.1)

      in_membrane : (b : ℕ) → In b (all_membranes h r f part_at link_name typed_of items) → IsMembraneImage items f b
      in_membrane b p = let w = in_run f.membrane 1 (length (membranes_of items)) b p in let y : 1 + w.0 ≡ suc w.0 = omega arith in (w.0, w.1, ap f.membrane (sym y) ∙ w.2)

      part_in : (k b : ℕ) → IsInPart h items f k b → In b (all_parts h r f part_at link_name typed_of items)
      part_in k b w = let y : 0 + w.0 ≡ w.0 = omega arith in
          in_parts part_at 0 (length (typed_contexts_of items)) b w.0 (get_below (typed_contexts_of items) w.0 w.1 w.2) (subst (λ z. In b (part_at z)) (sym y) ((part_is w.0 w.1 w.2 b).1 w.4))

      -- a membrane of the head lies below the one of the rule
      above_step : (i : ℕ) (n : HeadMembrane) → slice_get (membranes_of items) i ≡ Some n → ((j : ℕ) (w : HeadMembrane) → j < i → slice_get (membranes_of items) j ≡ Some w → (d : ℕ) × Above h (suc d) (f.membrane 0) (f.membrane (suc j))) → (d : ℕ) × Above h (suc d) (f.membrane 0) (f.membrane (suc i))
      above_step i n g before =
          let q = walk_membrane (λ n a. Unit {0}) (λ n a. Unit {0}) (λ k a. a.inside < k) items 0 0 1 (inside_less kind 0 1 0 0 hd (omega arith)) i n g in
          by n.inside (omega (arith, q)) (parent_is h v.sound.listed (f.membrane (suc i)) (f.membrane n.inside) (e.lies.membranes_placed (suc i) n (i, refl, g)))
        where
          by : (j : ℕ) → j ≤ i → parent_of h (f.membrane (suc i)) ≡ Some (f.membrane j) → (d : ℕ) × Above h (suc d) (f.membrane 0) (f.membrane (suc i))
          by zero k up = (0, (f.membrane 0, up, refl))
          by (suc j) k up =
              let w = get_some (membranes_of items) j (omega (arith, k, get_below (membranes_of items) i n g)) in
              let u = before j w.0 (omega (arith, k)) w.1 in
              (suc u.0, (f.membrane (suc j), up, u.1))

      root_above : (b i : ℕ) → i ≤ b → (n : HeadMembrane) → slice_get (membranes_of items) i ≡ Some n → (d : ℕ) × Above h (suc d) (f.membrane 0) (f.membrane (suc i))
      root_above zero i l n g = above_step i n g (λ j w k q. absurd (omega (arith, l, k)))
      root_above (suc b) i l n g = above_step i n g (λ j w k q. root_above b j (omega (arith, l, k)) w q)

      -- what stands in a part, and in the image of a membrane of the head, is of a part that is written there
      in_part : (i : ℕ) (n : HeadMembrane) → slice_get (membranes_of items) i ≡ Some n → (b : ℕ) → In b (atoms_in h (f.membrane (1 + i))) → In b (all_parts h r f part_at link_name typed_of items) → IsInPart h items f (1 + i) b
      in_part i n g b p q =
          let w = parts_in part_at 0 (length (typed_contexts_of items)) b q in
          let z : 0 + w.0 ≡ w.0 = omega arith in
          let here : In b (part_at w.0) = subst (λ n. In b (part_at n)) z w.2 in
          let y = find_typed w.0 w.1 in
          let one = one_home h v (f.membrane y.0.inside) (f.membrane (1 + i)) b ((grounds w.0 y.0 y.1).inside b here) p in
          (w.0, y.0, y.1, same y.0.inside (typed_below w.0 y.0 y.1) one, ((part_is w.0 y.0 y.1 b).0 here))
        where
          z : 1 + i ≡ suc i
          z = omega arith

          typed_below : (n : ℕ) (u : HeadTyped) → HasTyped items n u → u.inside < 1 + size hd
          typed_below n u k = walk_typed (λ n a. a.inside < 1 + size hd) (λ n a. a.inside < 1 + size hd) (λ n a. a.inside < 1 + size hd) items 0 0 1 (inside_bound kind (1 + size hd) 0 1 0 0 1 hd (omega arith) (omega arith)) n u k

          same : (j : ℕ) → j < 1 + size hd → f.membrane j ≡ f.membrane (1 + i) → j ≡ 1 + i
          same zero l s =
              let u = root_above i i (omega arith) n g in
              absurd (valid_no_loop h v (f.membrane 0) u.0 (subst (λ k. Above h (suc u.0) (f.membrane 0) k) (sym (s ∙ ap f.membrane z)) u.1))
          same (suc j) l s = ap suc (e.lies.membranes_differ j i (let q = flat_size kind 0 1 hd in omega (arith, l, q)) (get_below (membranes_of items) i n g) (s ∙ ap f.membrane z)) ∙ sym z

      -- what is left in the image of a membrane is its rest
      rest_of : (i : ℕ) (n : HeadMembrane) → slice_get (membranes_of items) i ≡ Some n → (b : ℕ) → LeftIn h r f part_at link_name typed_of items (f.membrane (1 + i)) b → IsInRest h items f (1 + i) b
      rest_of i n g b (inl w) = inl (w.0, (λ u. w.1 (image_in b u)), (λ u. w.2 (part_in (1 + i) b u)))
      rest_of i n g b (inr w) = inr (w.0, w.1, (λ u. w.2 (membrane_in w.0 u)), w.3)

      left_of : (i : ℕ) (n : HeadMembrane) → slice_get (membranes_of items) i ≡ Some n → (b : ℕ) → IsInRest h items f (1 + i) b → LeftIn h r f part_at link_name typed_of items (f.membrane (1 + i)) b
      left_of i n g b (inl w) = inl (w.0, (λ u. w.1 (in_image b u)), (λ u. w.2 (in_part i n g b w.0 u)))
      left_of i n g b (inr w) = inr (w.0, w.1, (λ u. w.2 (in_membrane w.0 u)), w.3)

      membrane_lies : (i : ℕ) (n : HeadMembrane) → slice_get (membranes_of items) i ≡ Some n → MembraneLies h r f part_at link_name typed_of items (1 + i) n
      membrane_lies i n g =
          let z : 1 + i ≡ suc i = omega arith in
          let k : HasMembrane items (1 + i) n = (i, z, g) in
          record {
            placed = e.lies.membranes_placed (1 + i) n k;
            stands = rw z (get_inside (membranes_of items) i n g);
            counted = omega (arith, get_below (membranes_of items) i n g);
            alone = λ c. (
              (λ b p. elim (e.lies.no_other_atom (1 + i) n b k c p) [
                | inl w ↦ inl (let y : 0 + w.0 ≡ w.0 = omega arith in subst (λ b. In b (all_atoms h r f part_at link_name typed_of items)) (ap f.atom y ∙ w.2) (run_in f.atom 0 (length (atoms_of items)) w.0 w.1))
                | inr w ↦ inr (let y : 0 + w.0 ≡ w.0 = omega arith in
                    in_parts part_at 0 (length (typed_contexts_of items)) b w.0 (get_below (typed_contexts_of items) w.0 w.1 w.2) (subst (λ z. In b (part_at z)) (sym y) ((part_is w.0 w.1 w.2 b).1 w.4)))
              ]),
              (λ b p. let w = e.lies.no_other_membrane (1 + i) n b k c p in let y : 1 + w.0 ≡ suc w.0 = omega arith in subst (λ b. In b (all_membranes h r f part_at link_name typed_of items)) (ap f.membrane y ∙ w.2) (run_in f.membrane 1 (length (membranes_of items)) w.0 w.1)),
            );
            no_rule = λ c. e.lies.no_rule (1 + i) n k c;
            closed = λ c b j p w q. left_of i n g p.0 (e.lies.closed (1 + i) n b j p k c (rest_of i n g b w) q);
          }

      -- what holds of each item of an embedded head
      pub stands : Walk (AtomLies h r f part_at link_name typed_of items) (TypedLies h r f part_at link_name typed_of items) (MembraneLies h r f part_at link_name typed_of items) 0 0 1 items
      stands = walk_from (AtomLies h r f part_at link_name typed_of items) (TypedLies h r f part_at link_name typed_of items) (MembraneLies h r f part_at link_name typed_of items) items 0 0 1
          (λ i a g. let z : 0 + i ≡ i = omega arith in rw z (atom_lies i a g))
          (λ i t g. let z : 0 + i ≡ i = omega arith in rw z (typed_lies i t g))
          (λ i n g. membrane_lies i n g)

      module _ (inner : Forest) (forms : Forms h inner (mems_in h m)) (once : Distinct (m ∷ flat inner)) where
        here_root : mems_in h m ≡ mems_in h (f.membrane 0)
        here_root = ap (mems_in h) (sym e.lies.here)

        -- an embedded head lies in the lists of the heap
        pub laid : LaidLevel h v r naming f part_at link_name typed_of items kind 0 1 0 0 hd inner
        laid = lay_level h v r naming f part_at link_name typed_of items kind 0 1 0 0 hd inner (inl refl) (omega arith) none stands
            once_all
            (run_distinct f.membrane 1 (length (membranes_of items)) (λ i j l k g. let zi : 1 + i ≡ suc i = omega arith in let zj : 1 + j ≡ suc j = omega arith in e.lies.membranes_differ i j l k (ap f.membrane (sym zi) ∙ g ∙ ap f.membrane zj)))
            (forms_tops h inner (mems_in h m) forms ∙ here_root) (forms_grown h inner (mems_in h m) forms) once.1

        abbrev Knows : tree.Level → ℕ → List ℕ → Forest → Forest → Type 0
        Knows = Known h r f part_at link_name typed_of items

        -- what is left to a closed context is closed
        closes_here : (el ea em : ℕ → ℕ) (l : tree.Level) (m : ℕ) (bs : List ℕ) (ps : List (List ℕ)) (ms ns xs : List ℕ) (i i' : Forest) → Lies h r link_name typed_of (Known h r f part_at link_name typed_of items) l bs ps ms ns (atoms_in h m) xs i i' →
            Known h r f part_at link_name typed_of items l m xs i i' → Elsewhere h r f part_at link_name typed_of items el ea em (atoms_in h m) i bs ps ms → Closes h r l m xs i i'
        closes_here el ea em l m bs ps ms ns xs i i' d k x q a =
            closed_rest h v r naming f part_at link_name typed_of items m xs i i' (left_apart h r f part_at link_name typed_of items el ea em d x) k.grown k.left_grown (k.closed q a)

        -- the head lies in the region, at the numbers of its images
        pub record Result : Type 0 where
          pub assignment : Assignment
          pub numbers : List ℕ
          pub rest : Region
          pub are : numbers_left h f 0 1 [] [] (flat_items kind 0 1 hd) ≡ numbers
          pub plain : ((p : tree.Name) → Free (typed_of p).root (typed_of p).process) → Plain assignment
          pub typed : assignment.typed_of ≡ typed_of
          pub images : LevelImages assignment (tree_of r.names r.rule hd) numbers (region_at h r m inner) rest

        -- an embedding on the heap is one in the region
        pub result : EachOf Few (inner_levels Tree) → EachOf NoRules (inner_levels Tree) →
            EachOnce (contexts_in (inner_levels Tree)) → EachOnce (rule_contexts_in (inner_levels Tree)) → Result
        result few no_rules once_c once_r =
            let L = laid in
            let sum' : (x : ℕ) → 0 + level_occurrences x Tree ≡ total h r f part_at link_name typed_of items x = λ x. omega (arith, times_are r.names r.rule kind x 0 1 hd) in
            let M = f.membrane 0 in
            let whole : Distinct (flat (mem M inner bare)) = subst (λ z. Distinct (z ∷ (flat inner ++ []))) (sym e.lies.here) (subst (λ z. Distinct (m ∷ z)) (sym (plus_nothing (flat inner))) once) in
            let room : Elsewhere h r f part_at link_name typed_of items (λ x. 0) (λ b. 0) (λ b. 0) (atoms_in h M) inner (run f.atom 0 (atoms_in_items (flat_items kind 0 1 hd))) L.parts (run f.membrane 1 (membranes_in_items (flat_items kind 0 1 hd))) = record {
              link_room = λ x.
                  let u = two_ends h v r naming (link_name x) (tree_atoms h M inner) (each_tree h v M inner) (tree_once h v M inner whole) in
                  omega (arith, u, weigh_append (times_at h r (link_name x)) (atoms_in h M) (forest_atoms h inner));
              atom_room = λ b.
                  let u = tree_once h v M inner whole b in
                  omega (arith, u, weigh_append (one_if_same b) (atoms_in h M) (forest_atoms h inner), weigh_same b (tree_atoms h M inner));
              membrane_room = λ b. omega (arith, once_of b (flat inner) once.1, weigh_same b (flat inner));
              all_atoms_are = λ b. let u = L.same (one_if_same b) in omega (arith, u);
              all_membranes_are = λ b. omega arith;
            } in
            let lying = carry_level h r f part_at link_name typed_of items Knows (λ l m xs i i'. Knows l m xs i i' × Closes h r l m xs i i')
            (λ el ea em l m bs ps ms ns xs i i' d k x s. (k, closes_here el ea em l m bs ps ms ns xs i i' d k x))
            (λ x. 0) (λ b. 0) (λ b. 0) L.lying room sum' in
            let C = level_contents h r link_name typed_of (λ l m xs i i'. Knows l m xs i i' × Closes h r l m xs i i') (λ l m xs i i' q. q.1) few no_rules lying in
            let oc = subst EachOnce (sym C.names) once_c in
            let or = subst EachOnce (sym C.rule_names) once_r in
            let c : Contents = record {
              link_of = link_name;
              atoms_of = λ p. (look context_or_not p C.held ([], no_region)).0;
              membranes_of = λ p. (look context_or_not p C.held ([], no_region)).1;
              rules_of = λ q. look name_or_not q C.rules_held [];
              typed_of = typed_of;
            } in
            let t = assignment_of c in
            let told = C.agree t (λ p a k. ap (λ b. region_process (region b.0 b.1 [])) (look_found context_or_not C.held (p, a) ([], no_region) oc k)) (λ p a k. look_found name_or_not C.rules_held (p, a) [] or k) in
            let kept = keep_level h v r f part_at t items (λ x. let u = sum' x in let w = linked x in omega (arith, u, w)) (λ x. 0) (λ b. 0) (λ b. 0) told (record { link_room = room.link_room; atom_room = room.atom_room; membrane_room = room.membrane_room; all_atoms_are = room.all_atoms_are; all_membranes_are = room.all_membranes_are }) sum' in
            let closed : (q : tree.Name) → Closed (region_process (region (look context_or_not (tree.closed_context q) C.held ([], no_region)).0 (look context_or_not (tree.closed_context q) C.held ([], no_region)).1 [])) =
            λ q. look_holds context_or_not LeftClosed (tree.closed_context q) C.held ([], no_region) (λ w k. C.closed w.0 w.1 k) (λ x. inl refl) in
            let images = level_images_of h v r t kept (map r.rule (rules_in h M)) in
            record {
              assignment = t;
              numbers = L.places;
              rest = region (map (atom_at h r) L.rest) (regions_at h r L.left_forest) (map r.rule (rules_in h M));
              are = level_numbers h v r link_name typed_of Knows f kind 0 1 0 hd M [] [] refl none L.lying (run_reads f.atom 0 (length (atoms_of items))) (run_reads f.membrane 1 (length (membranes_of items)))
                  (forms_tops h inner (mems_in h m) forms ∙ here_root) (forms_grown h inner (mems_in h m) forms)
                  (λ b.
                  let u = tree_once h v M inner whole b in
                  omega (arith, u, weigh_append (one_if_same b) (atoms_in h M) (forest_atoms h inner), weigh_same b (tree_atoms h M inner)))
                  (λ b. omega (arith, once_of b (flat inner) once.1, weigh_same b (flat inner)));
              plain = λ free. contents_plain c closed free;
              typed = refl;
              images = subst (λ z. LevelImages t Tree L.places (region_at h r z inner) (region (map (atom_at h r) L.rest) (regions_at h r L.left_forest) (map r.rule (rules_in h M)))) e.lies.here
                  (subst (λ X. LevelImages t Tree L.places (region X (regions_at h r inner) (map r.rule (rules_in h M))) (region (map (atom_at h r) L.rest) (regions_at h r L.left_forest) (map r.rule (rules_in h M))))
                  (sym (atoms_each h r (atoms_in h M) (list_atoms h v M))) images);
            }
