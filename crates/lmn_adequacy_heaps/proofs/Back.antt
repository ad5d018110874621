-- What lies in the lists of a heap embeds on the heap: item by item.
use Rattle.std.proofs.Common.{ℕ, zero, suc, ◌≡◌, ◌≢◌, ◌+◌, ◌≤◌, ◌<◌, ◌⊎◌, ◌||◌, Bool, false, true, List, [], ◌∷◌, ◌++◌, map, length, Some, refl, sym, ap, subst, ◌∙◌, inl, inr, arith}
use Rattle.std.specs.Prelude.{slice_get}
use Rattle.std.proofs.lemmas.Bool.{cases_eq}
use Rattle.std.proofs.lemmas.List.{length-append}
use Rattle.lmn_base.specs.declared.level.Leaf.{Leaf}
use Rattle.lmn_base.specs.declared.level.Leaf.TheVariants as leaf
use Rattle.lmn_guards.specs.declared.plan.TypeKind.{TypeKind}
use Rattle.lmn_store_heap.specs.Heap.{Heap, atoms_in, mems_in, rules_in, link_of}
use Rattle.lmn_store_heap.specs.Lists.{Distinct, without_all}
use Rattle.lmn_store_heap.specs.Sound.{Forest, bare, mem, Valid}
use Rattle.lmn_store_heap.proofs.ListLemmas.{in_left, in_right}
use Rattle.lmn_solid_heads.specs.declared.items.HeadItem.{HeadItem}
use Rattle.lmn_solid_heads.specs.Flattening.{leaf_items}
use Rattle.lmn_solid_heads.specs.Heads.{HeadAtom, HeadTyped, HeadMembrane, membranes_of, inside_of, outermost}
use Rattle.lmn_solid_heads.specs.Embeddings.{Images, StandsWithin}
use Rattle.lmn_congruence.specs.Links.{one_if_same, places}
use Rattle.lmn_congruence.specs.LinkedRules.{leaf_occurrences, leaves_occurrences, level_occurrences, levels_occurrences}
use Rattle.lmn_congruence.specs.Regions.{SolidAtom, no_region}
use Rattle.lmn_congruence.specs.Rules as tree
use Rattle.lmn_reduction.specs.Assignments.{Assignment}
use Rattle.lmn_reduction.specs.Parts.{Rooted}
use Rattle.lmn_congruence.specs.Translation.{context_with, label_of, leaf_of, name_of}
use Rattle.lmn_adequacy.specs.Accepted.{NoConnectorLeaf, EachLevel, EachOf, own_leaves, own_contexts, own_rule_contexts, own_rules}
use Rattle.lmn_adequacy.specs.Embedding.{KeepsLinks, IsPart}
use Rattle.lmn_adequacy.specs.Loose.{Plain}
use Rattle.lmn_store_heap.specs.Solid.{IsNaming}
use Rattle.lmn_adequacy_heaps.specs.HeapRegions.{HeapReading, region_at, regions_at}
use Rattle.lmn_adequacy_heaps.proofs.Pieces.{atom_at}
use Rattle.lmn_adequacy_heaps.proofs.Counting.{weigh_same, times_at, tree_atoms, ends_among, in_region}
use Rattle.lmn_solid_heads.proofs.HeadTrees.{Head, Heads, head, no_head, head_and, size, flat_items, flat_membranes, has_closed_context, has_context, has_rule_context}
use Rattle.lmn_adequacy_heaps.proofs.HeadTrees.{tree_of, trees_of}
use Rattle.lmn_adequacy_heaps.proofs.Lying.{FitLeaves, fit_none, fit_atom, fit_typed, Lies, lies, LiesIn, lies_none, lies_and, Kept}
use Rattle.lmn_adequacy_heaps.proofs.Walking.{Walk, walk_split, walk_join, atoms_in_items, typed_in_items, membranes_in_items, atoms_both, typed_both, membranes_both, flat_size, no_leaf_membrane}
use Rattle.lmn_adequacy_heaps.proofs.Weighing.{left_grown, weigh_out, weigh_left}
use Rattle.lmn_adequacy_heaps.proofs.Rests.{LeftApart, none_leaves, tops_taken}
use Rattle.lmn_adequacy_heaps.proofs.PartsOut.{PartsOut, parts_none, parts_typed, flattened, flattened_left, flattened_right, out_rest, merged_first, merged_second}
use Rattle.lmn_adequacy_heaps.proofs.Forests.{tops, Grown, taken_top, taken_grown, taken_before, find_in, some_of, within_tree, each_tree, home_in}
use Rattle.lmn_store_heap.proofs.Heights.{parent_is}
use Rattle.lmn_adequacy_heaps.proofs.Ports.{port_named, Outer, outer_top, outer_in, outermost_is}
use Rattle.lmn_adequacy_heaps.proofs.Laying.{only_atom, AtomLies, MembraneLies, NoneLeaves, TypedLies, Below, all_atoms, all_parts, all_membranes, total}
use Rattle.lmn_adequacy_heaps.proofs.Contexts.{Few, NoRules}
use Rattle.lmn_adequacy_heaps.proofs.Empty.{closed_left, nothing_left, no_rule_left}
use Rattle.lmn_base.specs.Graphs.{Port}
use Rattle.lmn_base.proofs.Lists.{weigh, get_map}
use Rattle.lmn_base.specs.Lists.{In}
use Rattle.std.specs.List.{AllByRecursion}

-- ---- lists of images

-- a map gives these values, from n on
abbrev pub Reads : {A : Type 0} → (ℕ → A) → ℕ → List A → Type 0
Reads g n [] = Unit {0}
Reads g n (b ∷ bs) = (g n ≡ b) × Reads g (n + 1) bs

-- a map gives two lists in a row
pub reads_split : {A : Type 0} (g : ℕ → A) (n : ℕ) (xs ys : List A) → Reads g n (xs ++ ys) → Reads g n xs × Reads g (n + length xs) ys
reads_split g n [] ys h = let z : n + 0 ≡ n = omega arith in (tt, subst (λ k. Reads g k ys) (sym z) h)
reads_split g n (x ∷ xs) ys h =
    let u = reads_split g (n + 1) xs ys h.1 in
    let z : n + suc (length xs) ≡ (n + 1) + length xs = omega arith in
    ((h.0, u.0), subst (λ k. Reads g k ys) (sym z) u.1)

-- what images leave of a list is in it
left_in : (b : ℕ) (bs xs : List ℕ) → Distinct bs → AllByRecursion (λ b. In b xs) bs → In b (without_all bs xs) → In b xs
left_in b bs xs d e i = find_in b xs (omega (arith, weigh_left (one_if_same b) bs xs d e, weigh_same b bs, weigh_same b xs, weigh_same b (without_all bs xs), some_of b (without_all bs xs) i))

-- where nothing is left, each atom is an image or a part, and each membrane is an image
pub all_taken : {h : Heap} {r : HeapReading} {link_of' : ℕ → ℕ} {typed_of : tree.Name → Rooted} {Q : tree.Level → ℕ → List ℕ → Forest → Forest → Type 0} {l : tree.Level} {bs ms ns xs rest : List ℕ} {ps : List (List ℕ)} {f f' : Forest}
    → Lies h r link_of' typed_of Q l bs ps ms ns xs rest f f' → rest ≡ [] → (b : ℕ) → In b xs → In b bs ⊎ In b (flattened ps)
all_taken (lies {bs = bs} {as' = as'} {xs = xs} {rest = rest} {parts = parts} {ps = ps} fit d e out k) n b p =
    let u = weigh_out (one_if_same b) bs xs d e out in
    let w : weigh (one_if_same b) rest ≡ 0 = ap (weigh (one_if_same b)) n in
    elim (cases_eq (places b bs) 0) [
      | inl z ↦ inr (flattened_left b parts ps (find_in b (flattened parts) (omega (arith, u, w, z, weigh_same b bs, weigh_same b (flattened parts), weigh_same b xs, some_of b xs p))))
      | inr z ↦ inl (in_left b bs as' (find_in b bs (omega (arith, z))))
    ]

-- where no membrane is left, each is an image
pub all_tops_taken : {h : Heap} {r : HeapReading} {link_of' : ℕ → ℕ} {typed_of : tree.Name → Rooted} {Q : tree.Level → ℕ → List ℕ → Forest → Forest → Type 0} {l : tree.Level} {bs ms ns xs rest : List ℕ} {ps : List (List ℕ)} {f f' : Forest}
    → Lies h r link_of' typed_of Q l bs ps ms ns xs rest f f' → f' ≡ bare → (b : ℕ) → In b (tops f) → In b ms
all_tops_taken (lies fit d e out k) n b p = elim (tops_taken k b p) [ inl w ↦ w | inr w ↦ absurd (subst (λ z. In b (tops z)) n w) ]

-- a leaf that is an atom
pub record FitOne (g : ℕ → SolidAtom) (link_of' : ℕ → ℕ) (a : tree.Label) (ys : List ℕ) (ls : List tree.Leaf) (bs : List ℕ) : Type 0 where
  pub first : ℕ
  pub others : List ℕ
  pub are : bs ≡ first ∷ others
  pub is : g first ≡ record { label = a; links = map link_of' ys }
  pub fit : FitLeaves g link_of' ls others

-- the first leaf is an atom, and has an image
pub fit_one : {g : ℕ → SolidAtom} {link_of' : ℕ → ℕ} {a : tree.Label} {ys : List ℕ} {ls : List tree.Leaf} {bs : List ℕ} → FitLeaves g link_of' (tree.atom_leaf a ys ∷ ls) bs → FitOne g link_of' a ys ls bs
fit_one (fit_atom {b = b} {bs = bs} is f) = record { first = b; others = bs; are = refl; is = is; fit = f }

none_by_map : {A B : Type 0} (g : A → B) (xs : List A) → map g xs ≡ [] → xs ≡ []
none_by_map g [] e = refl
none_by_map g (x ∷ xs) e = absurd (cc)

bare_by : (h : Heap) (r : HeapReading) (f : Forest) → regions_at h r f ≡ no_region → f ≡ bare
bare_by h r bare e = refl
bare_by h r (mem m i f) e = absurd (cc)

abbrev EachRules : tree.Level → Type 0
EachRules = EachLevel NoRules

module _ (h : Heap) (v : Valid h) (r : HeapReading) (naming : IsNaming h r.name) (f : Images) (part_at : ℕ → List ℕ) (t : Assignment) (plain : Plain t) (items : List HeadItem) (kind : ℕ → TypeKind) where
  -- what is known of a membrane: what the calculus asks of it, and that what is left is apart
  abbrev pub Placed : tree.Level → ℕ → List ℕ → Forest → Forest → Type 0
  Placed l m xs i i' = Kept h r t l m xs i i' × LeftApart h r f part_at t.link_of t.typed_of items m xs i i'

  abbrev Items : ℕ → ℕ → ℕ → List HeadItem → Type 0
  Items = Walk (AtomLies h r f part_at t.link_of t.typed_of items) (TypedLies h r f part_at t.link_of t.typed_of items) (MembraneLies h r f part_at t.link_of t.typed_of items)

  abbrev Facts : ℕ → HeadMembrane → Type 0
  Facts k n = (inside_of (membranes_of items) k ≡ n.inside) × (k ≤ length (membranes_of items))

  abbrev Any : ℕ → HeadAtom → Type 0
  Any n a = Unit {0}

  -- the link of a typed context stands at a port too
  abbrev AnyTyped : ℕ → HeadTyped → Type 0
  AnyTyped n a = total h r f part_at t.link_of t.typed_of items a.link ≢ 1

  abbrev Known : ℕ → ℕ → ℕ → List HeadItem → Type 0
  Known = Walk Any AnyTyped Facts

  abbrev Tree : Head → tree.Level
  Tree = tree_of r.names r.rule

  abbrev Trees : Heads → tree.Levels
  Trees = trees_of r.names r.rule

  -- a membrane within the image of an outermost one, which keeps links
  pub record Watched (cur top : ℕ) : Type 0 where
    pub below : Below h r f part_at t.link_of t.typed_of items cur top
    pub level : tree.Level
    pub inner : Forest
    pub keeps : KeepsLinks t level (region_at h r (f.membrane top) inner)
    pub grown : (tops inner ≡ mems_in h (f.membrane top)) × Grown h inner
    pub small : (x : ℕ) → level_occurrences x level ≤ total h r f part_at t.link_of t.typed_of items x

  abbrev Place : ℕ → (ℕ → ℕ) → Type 0
  Place cur occ = (cur ≡ 0) ⊎ ((top : ℕ) × (w : Watched cur top) × ((x : ℕ) → occ x ≤ level_occurrences x w.level))

  less : (cur : ℕ) (occ occ' : ℕ → ℕ) → ((x : ℕ) → occ' x ≤ occ x) → Place cur occ → Place cur occ'
  less cur occ occ' l (inl e) = inl e
  less cur occ occ' l (inr p) = inr (p.0, p.1, λ x. let u = p.2 x in let w = l x in omega (arith, u, w))

  away : (cur n i x : ℕ) (p : Port) (top : ℕ) (w : Watched cur top) (a : tree.Label) (ys : List ℕ) → atom_at h r (f.atom n) ≡ record { label = a; links = map t.link_of ys } → In (f.atom n) (atoms_in h (f.membrane cur)) →
      slice_get ys i ≡ Some x → total h r f part_at t.link_of t.typed_of items x ≡ 1 → level_occurrences x w.level ≢ 0 → link_of h (f.atom n) i ≡ Some p → StandsWithin h p.0 (f.membrane (outermost (membranes_of items) cur)) → ⊥
  away cur n i x p top w a ys is j s one some l y =
      let b = f.atom n in
      let M = f.membrane top in
      let X = tree_atoms h M w.inner in
      let low = w.below.short in
      let high = w.below.counted in
      let o : outermost (membranes_of items) cur ≡ top = outermost_is (membranes_of items) w.below.chain (omega (arith, low, high)) in
      let here : In b X = within_tree h v M w.inner w.grown.0 w.grown.1 b (f.membrane cur, w.below.height, home_in h v (f.membrane cur) b j, w.below.above) in
      let there : In p.0 X = within_tree h v M w.inner w.grown.0 w.grown.1 p.0 (subst (λ z. StandsWithin h p.0 (f.membrane z)) o y) in
      let q = port_named h v r b i (t.link_of x) (subst (λ z. slice_get z.links i ≡ Some (t.link_of x)) (sym is) (get_map t.link_of ys i x s)) in
      let e = ends_among h r v naming b i p.0 p.1 q.1 l X (each_tree h v M w.inner) in
      let e' : weigh (times_at h r (t.link_of x)) X ≡ places b X + places p.0 X = subst (λ z. weigh (times_at h r z) X ≡ places b X + places p.0 X) q.0 e in
      let k = w.keeps.as_often x some in
      let k' = in_region h r v (t.link_of x) M w.inner in
      let z = w.small x in
      omega (arith, e', k, k', z, one, some_of b X here, some_of p.0 X there)

  -- what holds of each item, and how many images there are
  pub record Stood (n t' k : ℕ) (xs : List HeadItem) (bs : List ℕ) (ps : List (List ℕ)) (ms : List ℕ) : Type 0 where
    pub walk : Walk (AtomLies h r f part_at t.link_of t.typed_of items) (TypedLies h r f part_at t.link_of t.typed_of items) (MembraneLies h r f part_at t.link_of t.typed_of items) n t' k xs
    pub atoms : length bs ≡ atoms_in_items xs
    pub parts : length ps ≡ typed_in_items xs
    pub membranes : length ms ≡ membranes_in_items xs

  leaves_stand : (cur n t' k : ℕ) (ls : List Leaf) (bs : List ℕ) (parts : List (List ℕ)) {xs rest : List ℕ} → NoConnectorLeaf (map (leaf_of r.names) ls) → FitLeaves (atom_at h r) t.link_of (map (leaf_of r.names) ls) bs →
      PartsOut (atom_at h r) t.link_of t.typed_of (map (leaf_of r.names) ls) parts xs rest → Reads f.atom n bs → Reads part_at t' parts → AllByRecursion (λ b. In b (atoms_in h (f.membrane cur))) bs → ((b : ℕ) → In b xs → In b (atoms_in h (f.membrane cur))) →
      Place cur (λ x. leaves_occurrences x (map (leaf_of r.names) ls)) → Known n t' k (leaf_items kind cur ls) → Stood n t' k (leaf_items kind cur ls) bs parts []
  leaves_stand cur n t' k [] bs parts o fit_none parts_none g gt e et p w = record { walk = tt; atoms = refl; parts = refl; membranes = refl }
  leaves_stand cur n t' k (leaf.Typed y l q ∷ ls) bs parts o (fit_typed fit) (parts_typed {p = name} {parts = later} {part = part} ground is m out) g gt e et p w =
      let rest = leaves_stand cur n (t' + 1) k ls bs later o fit out g gt.1 e (λ b i. et b (merged_second m b i)) (less cur (λ x. leaves_occurrences x (map (leaf_of r.names) (leaf.Typed y l q ∷ ls))) (λ x. leaves_occurrences x (map (leaf_of r.names) ls)) (λ x. omega arith) p) w.1 in
      record {
        walk = (
          record {
            ground = ground;
            is = subst (λ c. IsPart (t.typed_of name) (t.link_of l.link) (map (atom_at h r) c)) (sym gt.0) is;
            placed = λ b i. et b (merged_first m b (subst (In b) gt.0 i));
            twice = w.0;
          },
          rest.walk,
        );
        atoms = rest.atoms;
        parts = ap suc rest.parts;
        membranes = rest.membranes;
      }
  leaves_stand cur n t' k (leaf.Atom fu os q ∷ ls) bs parts {xs} {rest = over} o fit out g gt e et p w =
      let ys = map (λ o. o.link) os in
      let c = only_atom r.names fu.label ys (map (leaf_of r.names) ls) o in
      let u = fit_one (subst (λ l. FitLeaves (atom_at h r) t.link_of (l ∷ map (leaf_of r.names) ls) bs) c.0 fit) in
      let out' = out_rest (subst (λ l. PartsOut (atom_at h r) t.link_of t.typed_of (l ∷ map (leaf_of r.names) ls) parts xs over) c.0 out) in
      let g' = subst (Reads f.atom n) u.are g in
      let e' = subst (AllByRecursion (λ b. In b (atoms_in h (f.membrane cur)))) u.are e in
      let same : (x : ℕ) → leaf_occurrences x (leaf_of r.names (leaf.Atom fu os q)) ≡ places x ys = λ x. ap (leaf_occurrences x) c.0 in
      let rest = leaves_stand cur (n + 1) t' k ls u.others parts c.1 u.fit out' g'.1 gt e'.1 et (less cur (λ x. leaves_occurrences x (map (leaf_of r.names) (leaf.Atom fu os q ∷ ls))) (λ x. leaves_occurrences x (map (leaf_of r.names) ls)) (λ x. omega arith) p) w.1 in
      let is' : atom_at h r (f.atom n) ≡ record { label = label_of r.names fu.label; links = map t.link_of ys } = ap (atom_at h r) g'.0 ∙ u.is in
      let placed : In (f.atom n) (atoms_in h (f.membrane cur)) = subst (λ b. In b (atoms_in h (f.membrane cur))) (sym g'.0) e'.0 in
      record {
        walk = (
          record {
            is = is';
            placed = placed;
            outside = λ i x port s one inner l y. elim p [
              | inl z ↦ inner z
              | inr w ↦ (let b = w.2 x in let d = same x in away cur n i x port w.0 w.1 (label_of r.names fu.label) ys is' placed s one (λ z. omega (arith, z, b, d, some_there ys i x s)) l y)
            ];
          },
          rest.walk,
        );
        atoms = ap length u.are ∙ ap suc rest.atoms;
        parts = rest.parts;
        membranes = rest.membranes;
      }
    where
      some_there : (ys : List ℕ) (i x : ℕ) → slice_get ys i ≡ Some x → 1 ≤ places x ys
      some_there ys i x s = some_of x ys (there ys i s)
        where
          there : (ys : List ℕ) (i : ℕ) → slice_get ys i ≡ Some x → In x ys
          there [] i s = absurd (cc)
          there (y ∷ ys) zero s = inl (cc)
          there (y ∷ ys) (suc i) s = inr (there ys i s)

  own_some : (hd : Head) → has_context hd ≡ false → own_contexts (Tree hd) ≡ []
  own_some (head leaves hs [] rcs rs) e = refl
  own_some (head leaves hs (c ∷ cs) rcs rs) e = absurd (cc)

  own_closed_one : (hd : Head) → EachLevel Few (Tree hd) → has_closed_context hd ≡ true → (p : tree.Name) × (own_contexts (Tree hd) ≡ tree.closed_context p ∷ [])
  own_closed_one (head leaves hs [] rcs rs) few e = absurd (cc)
  own_closed_one (head leaves hs (c ∷ []) rcs rs) few e = (name_of r.names c.name, ap (λ b. context_with b (name_of r.names c.name) ∷ []) (by c.closed e))
    where
      by : (b : Bool) → (b || false) ≡ true → b ≡ true
      by true e = refl
      by false e = e
  own_closed_one (head leaves hs (c ∷ (d ∷ cs)) rcs rs) few e = absurd few.0.0

  own_rules_some : (hd : Head) → has_rule_context hd ≡ false → own_rule_contexts (Tree hd) ≡ []
  own_rules_some (head leaves hs cs [] rs) e = refl
  own_rules_some (head leaves hs cs (c ∷ rcs) rs) e = absurd (cc)

  no_own_rules : (hd : Head) → EachRules (Tree hd) → own_rules (Tree hd) ≡ tree.no_rule
  no_own_rules (head leaves hs cs rcs rs) e = e.0

  -- into a membrane
  enters : (cur next m : ℕ) (hd : Head) (i : Forest) (occ : ℕ → ℕ) → cur < next → Facts next (record { inside = cur; has_context = has_context hd; has_closed_context = has_closed_context hd; has_rule_context = has_rule_context hd }) → f.membrane next ≡ m → In m (mems_in h (f.membrane cur)) →
      KeepsLinks t (Tree hd) (region_at h r m i) → (tops i ≡ mems_in h m) × Grown h i → ((x : ℕ) → level_occurrences x (Tree hd) ≤ occ x) → ((x : ℕ) → level_occurrences x (Tree hd) ≤ total h r f part_at t.link_of t.typed_of items x) →
      Place cur occ → Place next (λ x. level_occurrences x (Tree hd))
  enters cur next m hd i occ l facts e j keeps grown small all (inl z) = inr (
    next,
    record {
      below = record { steps = 0; chain = outer_top (facts.0 ∙ z); short = omega (arith, l, z); counted = facts.1; height = 0; above = refl };
      level = Tree hd;
      inner = i;
      keeps = subst (λ z. KeepsLinks t (Tree hd) (region_at h r z i)) (sym e) keeps;
      grown = subst (λ z. (tops i ≡ mems_in h z) × Grown h i) (sym e) grown;
      small = all;
    },
    λ x. omega arith,
  )
  enters cur next m hd i occ l facts e j keeps grown small all (inr p) =
      let w = p.1 in
      let b = w.below in
      let s = b.short in
      let q : inside_of (membranes_of items) next ≡ cur = facts.0 in
      let up : In (f.membrane next) (mems_in h (f.membrane cur)) = subst (λ z. In z (mems_in h (f.membrane cur))) (sym e) j in
      inr (
        p.0,
        record {
          below = record {
            steps = suc b.steps;
            chain = outer_in (λ z. omega (arith, z, q, s)) (subst (λ z. Outer (membranes_of items) z b.steps p.0) (sym q) b.chain);
            short = omega (arith, l, s);
            counted = facts.1;
            height = suc b.height;
            above = (f.membrane cur, parent_is h v.sound.listed (f.membrane next) (f.membrane cur) up, b.above);
          };
          level = w.level;
          inner = w.inner;
          keeps = w.keeps;
          grown = w.grown;
          small = w.small;
        },
        λ x. let u = p.2 x in let y = small x in omega (arith, u, y),
      )

  mutual
    -- what lies in the lists of a membrane holds item by item
    pub walk_level : (cur next n t' : ℕ) (hd : Head) (M : ℕ) {as' ms ns rest : List ℕ} {ps : List (List ℕ)} {F F' : Forest} → f.membrane cur ≡ M → cur < next → EachLevel (λ l. NoConnectorLeaf (own_leaves l)) (Tree hd) → EachRules (Tree hd) → EachLevel Few (Tree hd) →
        Known n t' next (flat_items kind cur next hd) → Lies h r t.link_of t.typed_of Placed (Tree hd) as' ps ms ns (atoms_in h M) rest F F' → Reads f.atom n as' → Reads part_at t' ps → Reads f.membrane next ms → tops F ≡ mems_in h M → Grown h F →
        Place cur (λ x. level_occurrences x (Tree hd)) → ((x : ℕ) → level_occurrences x (Tree hd) ≤ total h r f part_at t.link_of t.typed_of items x) →
        ((b : ℕ) → In b as' → In b (all_atoms h r f part_at t.link_of t.typed_of items)) → ((b : ℕ) → In b (flattened ps) → In b (all_parts h r f part_at t.link_of t.typed_of items)) → ((b : ℕ) → In b ms → In b (all_membranes h r f part_at t.link_of t.typed_of items)) → Stood n t' next (flat_items kind cur next hd) as' ps ms
    walk_level cur next n t' (head leaves hs cs rcs rs) M e l o none few w (lies {bs = bs} {as' = as'} {ms = ms} {parts = parts} {ps = ps} fit d among out k) ga gt gm tp g p small ia it im =
        let first = leaf_items kind cur leaves in
        let behind = flat_membranes kind cur next hs in
        let u = walk_split Any AnyTyped Facts first behind n t' next w in
        let z : membranes_in_items first ≡ 0 = no_leaf_membrane kind cur leaves in
        let q : next + membranes_in_items first ≡ next = omega (arith, z) in
        let occ : ℕ → ℕ = λ x. level_occurrences x (Tree (head leaves hs cs rcs rs)) in
        let here = reads_split f.atom n bs as' ga in
        let here_t = reads_split part_at t' parts ps gt in
        let placed = subst (λ z. AllByRecursion (λ b. In b (atoms_in h z)) bs) (sym e) among in
        let a = leaves_stand cur n t' next leaves bs parts o.0 fit out here.0 here_t.0 placed (λ b i. subst (λ z. In b (atoms_in h z)) (sym e) (left_in b bs (atoms_in h M) d among i)) (less cur occ (λ x. leaves_occurrences x (map (leaf_of r.names) leaves)) (λ x. omega arith) p) u.0 in
        let y : n + length bs ≡ n + atoms_in_items first = let s = a.atoms in omega (arith, s) in
        let yt : t' + length parts ≡ t' + typed_in_items first = let s = a.parts in omega (arith, s) in
        let b = walk_membranes cur next (n + atoms_in_items first) (t' + typed_in_items first) hs M e l o.1 none.1 few.1 (subst (λ k. Known (n + atoms_in_items first) (t' + typed_in_items first) k behind) q u.1) k
        (subst (λ z. Reads f.atom z as') y here.1) (subst (λ z. Reads part_at z ps) yt here_t.1) gm (λ b j. subst (In b) tp j) g (less cur occ (λ x. levels_occurrences x (Trees hs)) (λ x. omega arith) p) (λ x. let s = small x in omega (arith, s))
        (λ b j. ia b (in_right b bs as' j)) (λ b j. it b (flattened_right b parts ps j)) im in
        record {
          walk = walk_join (AtomLies h r f part_at t.link_of t.typed_of items) (TypedLies h r f part_at t.link_of t.typed_of items) (MembraneLies h r f part_at t.link_of t.typed_of items) first behind n t' next a.walk
              (subst (λ k. Items (n + atoms_in_items first) (t' + typed_in_items first) k behind) (sym q) b.walk);
          atoms = let s1 = a.atoms in let s2 = b.atoms in omega (arith, length-append bs as', atoms_both first behind, s1, s2);
          parts = let s1 = a.parts in let s2 = b.parts in omega (arith, length-append parts ps, typed_both first behind, s1, s2);
          membranes = let s2 = b.membranes in omega (arith, membranes_both first behind, z, s2);
        }

    walk_membranes : (cur next n t' : ℕ) (hs : Heads) (M : ℕ) {as' ms ns : List ℕ} {ps : List (List ℕ)} {F F' : Forest} → f.membrane cur ≡ M → cur < next → EachOf (λ l. NoConnectorLeaf (own_leaves l)) (Trees hs) → EachOf NoRules (Trees hs) → EachOf Few (Trees hs) →
        Known n t' next (flat_membranes kind cur next hs) → LiesIn h r t.link_of t.typed_of Placed (Trees hs) as' ps ms ns F F' → Reads f.atom n as' → Reads part_at t' ps → Reads f.membrane next ms → ((b : ℕ) → In b (tops F) → In b (mems_in h M)) → Grown h F →
        Place cur (λ x. levels_occurrences x (Trees hs)) → ((x : ℕ) → levels_occurrences x (Trees hs) ≤ total h r f part_at t.link_of t.typed_of items x) →
        ((b : ℕ) → In b as' → In b (all_atoms h r f part_at t.link_of t.typed_of items)) → ((b : ℕ) → In b (flattened ps) → In b (all_parts h r f part_at t.link_of t.typed_of items)) → ((b : ℕ) → In b ms → In b (all_membranes h r f part_at t.link_of t.typed_of items)) → Stood n t' next (flat_membranes kind cur next hs) as' ps ms
    walk_membranes cur next n t' no_head M e l o none few w lies_none ga gt gm tp g p small ia it im = record { walk = tt; atoms = refl; parts = refl; membranes = refl }
    walk_membranes cur next n t' (head_and hd hs) M e l o none few w (lies_and {m = m} {as' = as'} {ps = ps} {ms = ms} {bs = bs} {qs = qs} {ks = ks} {xs = xs} {i = i} {i' = i'} k d q more) ga gt gm tp g p small ia it im =
        let first = flat_items kind next (next + 1) hd in
        let behind = flat_membranes kind cur (next + 1 + size hd) hs in
        let u = walk_split Any AnyTyped Facts first behind n t' (next + 1) w.1 in
        let z : (next + 1) + membranes_in_items first ≡ next + 1 + size hd = omega (arith, flat_size kind next (next + 1) hd) in
        let occ : ℕ → ℕ = λ x. levels_occurrences x (Trees (head_and hd hs)) in
        let here = reads_split f.atom n as' bs ga in
        let here_t = reads_split part_at t' ps qs gt in
        let under = reads_split f.membrane (next + 1) ms ks gm.1 in
        let grown = taken_grown h k g in
        let j : In m (mems_in h (f.membrane cur)) = subst (λ z. In m (mems_in h z)) (sym e) (tp m (taken_top k)) in
        let p' = enters cur next m hd i occ l w.0 gm.0 j q.0.0 grown.0 (λ x. omega arith) (λ x. let s = small x in omega (arith, s)) p in
        let a = walk_level next (next + 1) n t' hd m gm.0 (omega arith) o.0 none.0 few.0 u.0 d here.0 here_t.0 under.0 grown.0.0 grown.0.1 p' (λ x. let s = small x in omega (arith, s)) (λ b s. ia b (in_left b as' bs s)) (λ b s. it b (flattened_left b ps qs s)) (λ b s. im b (inr (in_left b ms ks s))) in
        let y : n + length as' ≡ n + atoms_in_items first = let s = a.atoms in omega (arith, s) in
        let yt : t' + length ps ≡ t' + typed_in_items first = let s = a.parts in omega (arith, s) in
        let y' : (next + 1) + length ms ≡ next + 1 + size hd = let s = a.membranes in omega (arith, s, z) in
        let b = walk_membranes cur (next + 1 + size hd) (n + atoms_in_items first) (t' + typed_in_items first) hs M e (omega (arith, l)) o.1 none.1 few.1
        (subst (λ k. Known (n + atoms_in_items first) (t' + typed_in_items first) k behind) z u.1) more (subst (λ z. Reads f.atom z bs) y here.1) (subst (λ z. Reads part_at z qs) yt here_t.1) (subst (λ z. Reads f.membrane z ks) y' under.1)
        (λ b s. tp b (taken_before k b s)) grown.1 (less cur occ (λ x. levels_occurrences x (Trees hs)) (λ x. omega arith) p) (λ x. let s = small x in omega (arith, s))
        (λ b s. ia b (in_right b as' bs s)) (λ b s. it b (flattened_right b ps qs s)) (λ b s. im b (inr (in_right b ms ks s))) in
        let emptied : has_context hd ≡ false → (map (atom_at h r) xs ≡ []) × (regions_at h r i' ≡ no_region) = λ c. nothing_left t (Tree hd) (map (atom_at h r) xs) (regions_at h r i') (map r.rule (rules_in h m)) q.0.1 (own_some hd c) (no_own_rules hd none.0) in
        record {
          walk = (
            record {
              placed = subst (λ z. In z (mems_in h (f.membrane cur))) (sym gm.0) j;
              stands = w.0.0;
              counted = w.0.1;
              alone = λ c. (
                (λ b s. elim (all_taken d (none_by_map (atom_at h r) xs (emptied c).0) b (subst (λ z. In b (atoms_in h z)) gm.0 s)) [
                  | inl y ↦ inl (ia b (in_left b as' bs y))
                  | inr y ↦ inr (it b (flattened_left b ps qs y))
                ]),
                (λ b s. im b (inr (in_left b ms ks (all_tops_taken d (bare_by h r i' (emptied c).1) b (subst (In b) (sym grown.0.0) (subst (λ z. In b (mems_in h z)) gm.0 s)))))),
              );
              closed = λ c.
                  let one = own_closed_one hd few.0 c in
                  subst (NoneLeaves h r f part_at t.link_of t.typed_of items) (sym gm.0)
                  (none_leaves h v r naming f part_at t.link_of t.typed_of items m xs i i' q.1 grown.0.0 (left_grown d grown.0.1)
                  (closed_left t plain (Tree hd) (map (atom_at h r) xs) (regions_at h r i') (map r.rule (rules_in h m)) q.0.1 one.0 one.1));
              no_rule = λ c. subst (λ z. rules_in h z ≡ []) (sym gm.0) (none_by_map r.rule (rules_in h m) (no_rule_left t plain (Tree hd) (map (atom_at h r) xs) (regions_at h r i') (map r.rule (rules_in h m)) q.0.1 (own_rules_some hd c) (no_own_rules hd none.0)));
            },
            walk_join (AtomLies h r f part_at t.link_of t.typed_of items) (TypedLies h r f part_at t.link_of t.typed_of items) (MembraneLies h r f part_at t.link_of t.typed_of items) first behind n t' (next + 1) a.walk
                (subst (λ k. Items (n + atoms_in_items first) (t' + typed_in_items first) k behind) (sym z) b.walk),
          );
          atoms = let s1 = a.atoms in let s2 = b.atoms in omega (arith, length-append as' bs, atoms_both first behind, s1, s2);
          parts = let s1 = a.parts in let s2 = b.parts in omega (arith, length-append ps qs, typed_both first behind, s1, s2);
          membranes = let s1 = a.membranes in let s2 = b.membranes in omega (arith, length-append ms ks, membranes_both first behind, s1, s2);
        }
