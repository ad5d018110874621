-- A head that embeds on a heap lies in the lists of the heap.
use Rattle.std.proofs.Common.{ℕ, zero, suc, ◌≡◌, ◌≢◌, ◌+◌, ◌≤◌, ◌<◌, ◌⊎◌, ◌||◌, Bool, true, false, List, [], ◌∷◌, ◌++◌, map, length, Option, Some, None, IsSome, refl, sym, ap, subst, ◌∙◌, inl, inr, arith}
use Rattle.std.specs.Prelude.{slice_get}
use Rattle.std.proofs.lemmas.Bool.{cases_eq}
use Rattle.lmn_base.specs.declared.level.Leaf.{Leaf}
use Rattle.lmn_base.specs.declared.level.Leaf.TheVariants as leaf
use Rattle.lmn_base.specs.declared.functor.Label.{Label}
use Rattle.lmn_base.specs.declared.functor.Label.TheVariants.{Name as ByName, Int as ByInt}
use Rattle.lmn_guards.specs.declared.plan.TypeKind.{TypeKind}
use Rattle.lmn_store_heap.specs.Heap.{Heap, atoms_in, mems_in, rules_in, arity_of, link_of}
use Rattle.lmn_store_heap.specs.Lists.{Distinct, without_all}
use Rattle.lmn_store_heap.specs.Conditions.{Above}
use Rattle.lmn_store_heap.specs.Sound.{Forest, bare, mem, flat, Valid}
use Rattle.lmn_store_heap.proofs.ListLemmas.{each_in, each_of, in_right, distinct_left, distinct_right}
use Rattle.lmn_solid_heads.specs.declared.items.HeadItem.{HeadItem}
use Rattle.lmn_solid_heads.specs.Flattening.{leaf_items}
use Rattle.lmn_solid_heads.specs.Heads.{HeadAtom, HeadTyped, HeadMembrane, membranes_of, inside_of, outermost, links_of_head, times}
use Rattle.lmn_solid_heads.specs.Embeddings.{Images, StandsWithin, partner}
use Rattle.lmn_congruence.specs.Links.{places}
use Rattle.lmn_congruence.specs.LinkedRules.{leaf_occurrences, leaves_occurrences, level_occurrences, levels_occurrences}
use Rattle.lmn_congruence.specs.Rules as tree
use Rattle.lmn_reduction.specs.Parts.{Rooted, IsGround}
use Rattle.lmn_congruence.specs.Translation.{name_of, context_tree, context_with, label_of, leaf_of, atom_or_connector, names_of, rules}
use Rattle.lmn_adequacy.specs.Accepted.{EachLevel, EachOf, NoConnectorLeaf, own_leaves, own_contexts, own_rule_contexts}
use Rattle.lmn_store_heap.specs.Solid.{IsNaming}
use Rattle.lmn_adequacy_heaps.specs.HeapRegions.{HeapReading}
use Rattle.lmn_adequacy_heaps.proofs.Pieces.{atom_at, numbers}
use Rattle.lmn_adequacy_heaps.proofs.Counting.{weigh_same, times_at, tree_atoms, ends_among}
use Rattle.lmn_solid_heads.proofs.HeadTrees.{Head, Heads, head, no_head, head_and, size, flat_items, flat_membranes, has_closed_context, has_context, has_rule_context}
use Rattle.lmn_adequacy_heaps.proofs.HeadTrees.{tree_of, trees_of}
use Rattle.lmn_adequacy_heaps.proofs.Lying.{FitLeaves, fit_none, fit_atom, fit_typed, TakenTree, Lies, lies, LiesIn, lies_none, lies_and}
use Rattle.lmn_adequacy_heaps.proofs.Walking.{Walk, walk_split, run, run_both, atoms_in_items, typed_in_items, membranes_in_items, atoms_both, typed_both, membranes_both, flat_size, no_leaf_membrane}
use Rattle.lmn_adequacy_heaps.proofs.Forests.{tops, Grown, pick, taken_grown, taken_distinct, taken_others, find_in, some_of, tree_within, distinct_of, tree_once, each_tree}
use Rattle.lmn_store_heap.proofs.Heights.{parent_is, climbs_both}
use Rattle.lmn_adequacy_heaps.proofs.PartsOut.{flattened, parts_both, places_parts}
use Rattle.lmn_adequacy_heaps.proofs.PartsLaid.{GivenParts, given_none, given_atom, given_typed, lay_parts}
use Rattle.lmn_adequacy_heaps.proofs.Weighing.{left_grown, weigh_left}
use Rattle.lmn_congruence.specs.Links.{one_if_same}
use Rattle.lmn_adequacy.specs.Embedding.{IsPart}
use Rattle.lmn_adequacy_heaps.proofs.Ports.{find_place, port_named, Outer, outer_top, outer_in, outermost_is}
use Rattle.lmn_base.specs.Graphs.{Port}
use Rattle.lmn_base.proofs.Lists.{weigh, in_either, get_map}
use Rattle.lmn_congruence.proofs.Counts.{none_if_apart as apart_none}
use Rattle.lmn_congruence.proofs.TranslatedLinks.{places_append as places_both}
use Rattle.lmn_store_heap.proofs.Listing.{distinct_without_all}
use Rattle.lmn_base.specs.Lists.{In}
use Rattle.std.specs.List.{AllByRecursion, list_any}
use Rattle.lmn_base.specs.declared.level.CtxUse.{CtxUse}
use Rattle.lmn_congruence.specs.Orders.{Among, at_head, further}

-- ---- leaves as trees

-- an atom of a head is read as an atom or as a connector
pub atom_cases : (names : List tree.Name) (l : Label) (ys : List ℕ) → (atom_or_connector names l ys ≡ tree.atom_leaf (label_of names l) ys) ⊎ ((x : ℕ) × (y : ℕ) × (atom_or_connector names l ys ≡ tree.connector_leaf x y))
atom_cases names (ByName zero) [] = inl refl
atom_cases names (ByName zero) (a ∷ []) = inl refl
atom_cases names (ByName zero) (a ∷ (b ∷ [])) = inr (a, b, refl)
atom_cases names (ByName zero) (a ∷ (b ∷ (c ∷ ys))) = inl refl
atom_cases names (ByName (suc n)) ys = inl refl
atom_cases names (ByInt z) ys = inl refl

-- in a head without connectors it is an atom
pub only_atom : (names : List tree.Name) (l : Label) (ys : List ℕ) (ls : List tree.Leaf) → NoConnectorLeaf (atom_or_connector names l ys ∷ ls) → (atom_or_connector names l ys ≡ tree.atom_leaf (label_of names l) ys) × NoConnectorLeaf ls
only_atom names l ys ls o = elim (atom_cases names l ys) [
  | inl e ↦ (e, subst (λ z. NoConnectorLeaf (z ∷ ls)) e o)
  | inr e ↦ absurd (subst (λ z. NoConnectorLeaf (z ∷ ls)) e.2 o)
]

-- ---- what holds of each item

module _ (h : Heap) (r : HeapReading) (f : Images) (part_at : ℕ → List ℕ) (link_of' : ℕ → ℕ) (typed_of : tree.Name → Rooted) (items : List HeadItem) where
  -- the images of all atoms
  abbrev pub all_atoms : List ℕ
  all_atoms = run f.atom 0 (atoms_in_items items)

  -- the images of all membranes
  abbrev pub all_membranes : List ℕ
  all_membranes = run f.membrane 1 (membranes_in_items items)

  -- the atoms of all parts
  abbrev pub all_parts : List ℕ
  all_parts = flattened (run part_at 0 (typed_in_items items))

  -- An atom is left in a membrane: it stands there, and is no image and in no part, or it stands within a membrane there
  -- that is no image.
  abbrev pub LeftIn : ℕ → ℕ → Type 0
  LeftIn m b = (In b (atoms_in h m) × (¬ (In b all_atoms)) × (¬ (In b all_parts))) ⊎ ((c : ℕ) × In c (mems_in h m) × (¬ (In c all_membranes)) × StandsWithin h b c)

  -- no link leaves what is left in a membrane
  abbrev pub NoneLeaves : ℕ → Type 0
  NoneLeaves m = (b i : ℕ) (p : Port) → LeftIn m b → partner h (b, i) ≡ Some p → LeftIn m p.0

  -- how often a link stands in the head
  abbrev pub total : ℕ → ℕ
  total x = times x (links_of_head items)

  -- the image of an atom of the head
  pub record AtomLies (n : ℕ) (a : HeadAtom) : Type 0 where
    pub is : atom_at h r (f.atom n) ≡ record { label = label_of r.names a.functor.label; links = map link_of' a.links }
    pub placed : In (f.atom n) (atoms_in h (f.membrane a.inside))
    pub outside : (i x : ℕ) (p : Port) → slice_get a.links i ≡ Some x → total x ≡ 1 → a.inside ≢ 0 → partner h (f.atom n, i) ≡ Some p →
        StandsWithin h p.0 (f.membrane (outermost (membranes_of items) a.inside)) → ⊥

  -- the image of a membrane of the head
  pub record MembraneLies (k : ℕ) (n : HeadMembrane) : Type 0 where
    pub placed : In (f.membrane k) (mems_in h (f.membrane n.inside))
    pub stands : inside_of (membranes_of items) k ≡ n.inside
    pub counted : k ≤ length (membranes_of items)
    pub alone : n.has_context ≡ false → ((b : ℕ) → In b (atoms_in h (f.membrane k)) → In b all_atoms ⊎ In b all_parts) × ((b : ℕ) → In b (mems_in h (f.membrane k)) → In b all_membranes)
    pub no_rule : n.has_rule_context ≡ false → rules_in h (f.membrane k) ≡ []
    pub closed : n.has_closed_context ≡ true → NoneLeaves (f.membrane k)

  -- a typed context stands for some atoms of its membrane, a ground part held by its link
  pub record TypedLies (t : ℕ) (a : HeadTyped) : Type 0 where
    pub ground : IsGround (typed_of (name_of r.names a.name))
    pub is : IsPart (typed_of (name_of r.names a.name)) (link_of' a.link) (map (atom_at h r) (part_at t))
    pub placed : (b : ℕ) → In b (part_at t) → In b (atoms_in h (f.membrane a.inside))
    pub twice : total a.link ≢ 1

  -- what holds of each of some items
  abbrev pub Stands : ℕ → ℕ → ℕ → List HeadItem → Type 0
  Stands n t k xs = Walk AtomLies TypedLies MembraneLies n t k xs

  -- what is known of a membrane in which a level lies
  pub record Known (l : tree.Level) (m : ℕ) (xs : List ℕ) (i i' : Forest) : Type 0 where
    pub grown : tops i ≡ mems_in h m
    pub alone : own_contexts l ≡ [] → ((b : ℕ) → In b (atoms_in h m) → In b all_atoms ⊎ In b all_parts) × ((b : ℕ) → In b (mems_in h m) → In b all_membranes)
    pub no_rule : own_rule_contexts l ≡ [] → rules_in h m ≡ []
    pub closed : (q : tree.Name) → Among (tree.closed_context q) (own_contexts l) → NoneLeaves m
    pub left_grown : Grown h i'
    pub outside : (x : ℕ) → total x ≡ 1 → level_occurrences x l ≢ 0 → weigh (times_at h r (link_of' x)) (tree_atoms h m i) ≤ 1

  -- a membrane of the head stands within an outermost one
  pub record Below (cur top : ℕ) : Type 0 where
    pub steps : ℕ
    pub chain : Outer (membranes_of items) cur steps top
    pub short : steps < cur
    pub counted : cur ≤ length (membranes_of items)
    pub height : ℕ
    pub above : Above h height (f.membrane top) (f.membrane cur)

  -- an atom of the head with a link
  pub record Holding (x top : ℕ) : Type 0 where
    pub number : ℕ
    pub atom : HeadAtom
    pub index : ℕ
    pub has : slice_get atom.links index ≡ Some x
    pub lies : AtomLies number atom
    pub inside : atom.inside ≢ 0
    pub outer : outermost (membranes_of items) atom.inside ≡ top

module _ (h : Heap) (v : Valid h) (r : HeapReading) (naming : IsNaming h r.name) (f : Images) (part_at : ℕ → List ℕ) (link_of' : ℕ → ℕ) (typed_of : tree.Name → Rooted) (items : List HeadItem) (kind : ℕ → TypeKind) where
  abbrev Items : ℕ → ℕ → ℕ → List HeadItem → Type 0
  Items = Stands h r f part_at link_of' typed_of items

  abbrev Tree : Head → tree.Level
  Tree = tree_of r.names r.rule

  abbrev Trees : Heads → tree.Levels
  Trees = trees_of r.names r.rule

  abbrev ms : List HeadMembrane
  ms = membranes_of items

  enter : (cur next : ℕ) (c cl rc : Bool) → ((cur ≡ 0) ⊎ ((top : ℕ) × Below h r f part_at link_of' typed_of items cur top)) → cur < next → MembraneLies h r f part_at link_of' typed_of items next (record { inside = cur; has_context = c; has_closed_context = cl; has_rule_context = rc }) →
      (top : ℕ) × Below h r f part_at link_of' typed_of items next top
  enter cur next c cl rc (inl e) l m = (next, record { steps = 0; chain = outer_top (m.stands ∙ e); short = omega (arith, l, e); counted = m.counted; height = 0; above = refl })
  enter cur next c cl rc (inr b) l m =
      let u = b.1 in
      let s = u.short in
      let q : inside_of ms next ≡ cur = m.stands in (
        b.0,
        record {
          steps = suc u.steps;
          chain = outer_in (λ z. omega (arith, z, q, s)) (subst (λ z. Outer ms z u.steps b.0) (sym q) u.chain);
          short = omega (arith, l, s);
          counted = m.counted;
          height = suc u.height;
          above = (f.membrane cur, parent_is h v.sound.listed (f.membrane next) (f.membrane cur) m.placed, u.above);
        },
      )

  -- ---- a link of a level stands at an atom of it

  leaf_holds : (x cur n t k : ℕ) (top : ℕ) → Below h r f part_at link_of' typed_of items cur top → (ls : List Leaf) → NoConnectorLeaf (map (leaf_of r.names) ls) → Items n t k (leaf_items kind cur ls) →
      leaves_occurrences x (map (leaf_of r.names) ls) ≢ 0 → total h r f part_at link_of' typed_of items x ≡ 1 → Holding h r f part_at link_of' typed_of items x top
  leaf_holds x cur n t k top b [] o w d one = absurd (d refl)
  leaf_holds x cur n t k top b (leaf.Typed y l p ∷ ls) o w d one = elim (cases_eq x l.link) [
    | inl e ↦ absurd (w.0.twice (subst (λ z. total h r f part_at link_of' typed_of items z ≡ 1) e one))
    | inr z ↦ leaf_holds x cur n (t + 1) k top b ls o w.1 (λ s. d (omega (arith, s, apart_none x l.link z))) one
  ]
  leaf_holds x cur n t k top b (leaf.Atom fu os p ∷ ls) o w d one =
      let ys = map (λ o. o.link) os in
      let e = only_atom r.names fu.label ys (map (leaf_of r.names) ls) o in
      let q : leaf_occurrences x (atom_or_connector r.names fu.label ys) ≡ places x ys = ap (leaf_occurrences x) e.0 in
      elim (cases_eq (places x ys) 0) [
        | inl z ↦ leaf_holds x cur (n + 1) t k top b ls e.1 w.1 (λ s. d (omega (arith, q, z, s))) one
        | inr z ↦ (let u = find_place x ys z in
            let s = b.short in
            record {
              number = n;
              atom = record { functor = fu; links = ys; inside = cur };
              index = u.0;
              has = u.1;
              lies = w.0;
              inside = λ e. omega (arith, e, s);
              outer = outermost_is ms b.chain (let c = b.counted in omega (arith, c, s));
            })
      ]

  mutual
    level_holds : (x cur next n t : ℕ) (top : ℕ) → Below h r f part_at link_of' typed_of items cur top → cur < next → (hd : Head) → EachLevel (λ l. NoConnectorLeaf (own_leaves l)) (Tree hd) → Items n t next (flat_items kind cur next hd) →
        level_occurrences x (Tree hd) ≢ 0 → total h r f part_at link_of' typed_of items x ≡ 1 → Holding h r f part_at link_of' typed_of items x top
    level_holds x cur next n t top b l (head leaves hs cs rcs rs) o w d one =
        let z = walk_split (AtomLies h r f part_at link_of' typed_of items) (TypedLies h r f part_at link_of' typed_of items) (MembraneLies h r f part_at link_of' typed_of items) (leaf_items kind cur leaves) (flat_membranes kind cur next hs) n t next w in
        elim (cases_eq (leaves_occurrences x (map (leaf_of r.names) leaves)) 0) [
          | inl e ↦ (let q : next + membranes_in_items (leaf_items kind cur leaves) ≡ next = omega (arith, no_leaf_membrane kind cur leaves) in
              membranes_hold x cur next (n + atoms_in_items (leaf_items kind cur leaves)) (t + typed_in_items (leaf_items kind cur leaves)) top b l hs o.1
              (subst (λ k. Items (n + atoms_in_items (leaf_items kind cur leaves)) (t + typed_in_items (leaf_items kind cur leaves)) k (flat_membranes kind cur next hs)) q z.1) (λ s. d (omega (arith, e, s))) one)
          | inr e ↦ leaf_holds x cur n t next top b leaves o.0 z.0 e one
        ]

    membranes_hold : (x cur next n t : ℕ) (top : ℕ) → Below h r f part_at link_of' typed_of items cur top → cur < next → (hs : Heads) → EachOf (λ l. NoConnectorLeaf (own_leaves l)) (Trees hs) → Items n t next (flat_membranes kind cur next hs) →
        levels_occurrences x (Trees hs) ≢ 0 → total h r f part_at link_of' typed_of items x ≡ 1 → Holding h r f part_at link_of' typed_of items x top
    membranes_hold x cur next n t top b l no_head o w d one = absurd (d refl)
    membranes_hold x cur next n t top b l (head_and hd hs) o w d one =
        let inner = flat_items kind next (next + 1) hd in
        let u = walk_split (AtomLies h r f part_at link_of' typed_of items) (TypedLies h r f part_at link_of' typed_of items) (MembraneLies h r f part_at link_of' typed_of items) inner (flat_membranes kind cur (next + 1 + size hd) hs) n t (next + 1) w.1 in
        let c = b.chain in
        let s = b.short in
        let m = w.0 in
        let q : inside_of ms next ≡ cur = m.stands in
        let b' : Below h r f part_at link_of' typed_of items next top = record {
          steps = suc b.steps;
          chain = outer_in (λ z. omega (arith, z, q, s)) (subst (λ z. Outer ms z b.steps top) (sym q) c);
          short = omega (arith, l, s);
          counted = m.counted;
          height = suc b.height;
          above = (f.membrane cur, parent_is h v.sound.listed (f.membrane next) (f.membrane cur) m.placed, b.above);
        } in
        elim (cases_eq (level_occurrences x (Tree hd)) 0) [
          | inl e ↦ (let q : (next + 1) + membranes_in_items inner ≡ next + 1 + size hd = omega (arith, flat_size kind next (next + 1) hd) in
              membranes_hold x cur (next + 1 + size hd) (n + atoms_in_items inner) (t + typed_in_items inner) top b (omega (arith, l)) hs o.1
              (subst (λ k. Items (n + atoms_in_items inner) (t + typed_in_items inner) k (flat_membranes kind cur (next + 1 + size hd) hs)) q u.1) (λ z. d (omega (arith, e, z))) one)
          | inr e ↦ level_holds x next (next + 1) n t top b' (omega arith) hd o.0 u.0 e one
        ]

  -- a link that stands once in the head stands once in the image of its membrane
  once_there : (x cur top : ℕ) (i : Forest) → Below h r f part_at link_of' typed_of items cur top → Holding h r f part_at link_of' typed_of items x top → total h r f part_at link_of' typed_of items x ≡ 1 →
      tops i ≡ mems_in h (f.membrane cur) → Grown h i → Distinct (flat (mem (f.membrane cur) i bare)) → weigh (times_at h r (link_of' x)) (tree_atoms h (f.membrane cur) i) ≤ 1
  once_there x cur top i b k one e g d =
      let n = k.number in
      let a = f.atom n in
      let M = f.membrane cur in
      let X = tree_atoms h M i in
      let p = port_named h v r a k.index (link_of' x) (subst (λ z. slice_get z.links k.index ≡ Some (link_of' x)) (sym k.lies.is) (get_map link_of' k.atom.links k.index x k.has)) in
      go (link_of h a k.index) refl (v.full a k.index p.1) p
    where
      go : (o : Option (ℕ × ℕ)) → link_of h (f.atom k.number) k.index ≡ o → IsSome o → ((r.name (f.atom k.number) k.index ≡ link_of' x) × (k.index < arity_of h (f.atom k.number))) →
          weigh (times_at h r (link_of' x)) (tree_atoms h (f.membrane cur) i) ≤ 1
      go None q s p = absurd (cc)
      go (Some c) q s p =
          let a = f.atom k.number in
          let M = f.membrane cur in
          let X = tree_atoms h M i in
          let w = ends_among h r v naming a k.index c.0 c.1 p.1 q X (each_tree h v M i) in
          let once : (z : ℕ) → places z X ≤ 1 = λ z. tree_once h v M i d z in
          let out : In c.0 X → ⊥ = λ j. k.lies.outside k.index x c k.has one k.inside q (subst (λ z. StandsWithin h c.0 (f.membrane z)) (sym k.outer)
          (let y = tree_within h v M i e g c.0 j in (y.0, y.1 + b.height, y.2, climbs_both h y.1 b.height (f.membrane top) M y.0 y.3 b.above))) in
          rw (← p.0) (elim (cases_eq (places c.0 X) 0) [
            | inl z ↦ omega (arith, w, z, once a)
            | inr z ↦ absurd (out (find_in c.0 X (omega (arith, z))))
          ])

  -- ---- leaves

  leaves_fit : (cur n t k : ℕ) (ls : List Leaf) → NoConnectorLeaf (map (leaf_of r.names) ls) → Items n t k (leaf_items kind cur ls) →
      FitLeaves (atom_at h r) link_of' (map (leaf_of r.names) ls) (run f.atom n (atoms_in_items (leaf_items kind cur ls)))
      × AllByRecursion (λ b. In b (atoms_in h (f.membrane cur))) (run f.atom n (atoms_in_items (leaf_items kind cur ls)))
      × GivenParts (atom_at h r) link_of' typed_of (map (leaf_of r.names) ls) (run part_at t (typed_in_items (leaf_items kind cur ls)))
      × ((b : ℕ) → In b (flattened (run part_at t (typed_in_items (leaf_items kind cur ls)))) → In b (atoms_in h (f.membrane cur)))
  leaves_fit cur n t k [] o w = (fit_none, tt, given_none, λ b i. absurd i)
  leaves_fit cur n t k (leaf.Typed y l p ∷ ls) o w =
      let u = leaves_fit cur n (t + 1) k ls o w.1 in
      let rest = run part_at (t + 1) (typed_in_items (leaf_items kind cur ls)) in
      (fit_typed u.0, u.1, given_typed w.0.ground w.0.is u.2, λ b i. elim (in_either b (part_at t) (flattened rest) i) [ inl j ↦ w.0.placed b j | inr j ↦ u.3 b j ])
  leaves_fit cur n t k (leaf.Atom fu os p ∷ ls) o w =
      let e = only_atom r.names fu.label (map (λ o. o.link) os) (map (leaf_of r.names) ls) o in
      let u = leaves_fit cur (n + 1) t k ls e.1 w.1 in (
        subst (λ l. FitLeaves (atom_at h r) link_of' (l ∷ map (leaf_of r.names) ls) (run f.atom n (suc (atoms_in_items (leaf_items kind cur ls))))) (sym e.0) (fit_atom w.0.is u.0),
        (w.0.placed, u.1),
        subst (λ l. GivenParts (atom_at h r) link_of' typed_of (l ∷ map (leaf_of r.names) ls) (run part_at t (typed_in_items (leaf_items kind cur ls)))) (sym e.0) (given_atom u.2),
        u.3,
      )

  -- an atom that is no image is left
  in_left_over : (b : ℕ) (bs xs : List ℕ) → Distinct bs → AllByRecursion (λ b. In b xs) bs → places b bs ≡ 0 → In b xs → In b (without_all bs xs)
  in_left_over b bs xs d e z i = find_in b (without_all bs xs) (omega (arith, weigh_left (one_if_same b) bs xs d e, weigh_same b bs, weigh_same b xs, weigh_same b (without_all bs xs), z, some_of b xs i))

  -- ---- membranes

  -- the images of these membranes are first in a forest
  abbrev TopsIn : ℕ → Heads → Forest → Type 0
  TopsIn next no_head F = Unit {0}
  TopsIn next (head_and hd hs) F = In (f.membrane next) (tops F) × TopsIn (next + 1 + size hd) hs F

  tops_in : (cur next n t : ℕ) (hs : Heads) (F : Forest) → Items n t next (flat_membranes kind cur next hs) → tops F ≡ mems_in h (f.membrane cur) → TopsIn next hs F
  tops_in cur next n t no_head F w e = tt
  tops_in cur next n t (head_and hd hs) F w e =
      let inner = flat_items kind next (next + 1) hd in
      let u = walk_split (AtomLies h r f part_at link_of' typed_of items) (TypedLies h r f part_at link_of' typed_of items) (MembraneLies h r f part_at link_of' typed_of items) inner (flat_membranes kind cur (next + 1 + size hd) hs) n t (next + 1) w.1 in
      let q : (next + 1) + membranes_in_items inner ≡ next + 1 + size hd = omega (arith, flat_size kind next (next + 1) hd) in (
        subst (In (f.membrane next)) (sym e) w.0.placed,
        tops_in cur (next + 1 + size hd) (n + atoms_in_items inner) (t + typed_in_items inner) hs F
            (subst (λ k. Items (n + atoms_in_items inner) (t + typed_in_items inner) k (flat_membranes kind cur (next + 1 + size hd) hs)) q u.1) e,
      )

  tops_stay : {p m : ℕ} {i F F' : Forest} (cur next : ℕ) (hs : Heads) → TakenTree p m i F F' → TopsIn next hs F → AllByRecursion (λ b. m ≢ b) (run f.membrane next (membranes_in_items (flat_membranes kind cur next hs))) → TopsIn next hs F'
  tops_stay cur next no_head k t e = tt
  tops_stay {m = m} cur next (head_and hd hs) k t e =
      let inner = flat_items kind next (next + 1) hd in
      let behind = flat_membranes kind cur (next + 1 + size hd) hs in
      let z : membranes_in_items (inner ++ behind) ≡ membranes_in_items inner + membranes_in_items behind = membranes_both inner behind in
      let q : (next + 1) + membranes_in_items inner ≡ next + 1 + size hd = omega (arith, flat_size kind next (next + 1) hd) in
      let s : run f.membrane (next + 1) (membranes_in_items (inner ++ behind)) ≡ run f.membrane (next + 1) (membranes_in_items inner) ++ run f.membrane (next + 1 + size hd) (membranes_in_items behind) =
      ap (run f.membrane (next + 1)) z ∙ run_both f.membrane (next + 1) (membranes_in_items inner) (membranes_in_items behind) ∙ ap (λ y. run f.membrane (next + 1) (membranes_in_items inner) ++ run f.membrane y (membranes_in_items behind)) q in (
        taken_others k (f.membrane next) t.0 e.0,
        tops_stay cur (next + 1 + size hd) hs k t.1 (each_of (λ b. m ≢ b) (run f.membrane (next + 1 + size hd) (membranes_in_items behind))
            (λ b j. each_in (λ b. m ≢ b) (run f.membrane (next + 1) (membranes_in_items (inner ++ behind))) b e.1
            (subst (In b) (sym s) (in_right b (run f.membrane (next + 1) (membranes_in_items inner)) (run f.membrane (next + 1 + size hd) (membranes_in_items behind)) j)))),
      )

  own_none : (hd : Head) → own_contexts (Tree hd) ≡ [] → has_context hd ≡ false
  own_none (head leaves hs [] rcs rs) e = refl
  own_none (head leaves hs (c ∷ cs) rcs rs) e = absurd (cc)

  own_closed : (hd : Head) (q : tree.Name) → Among (tree.closed_context q) (own_contexts (Tree hd)) → has_closed_context hd ≡ true
  own_closed (head leaves hs cs rcs rs) q k = by cs k
    where
      is_closed : (u : CtxUse) (c : Bool) → u.closed ≡ c → tree.closed_context q ≡ context_with c (name_of r.names u.name) → c ≡ true
      is_closed u true e s = refl
      is_closed u false e s = absurd (cc)

      found : (b c : Bool) → b ≡ true → (b || c) ≡ true
      found true c e = refl
      found false c e = absurd (cc)

      later : (b c : Bool) → c ≡ true → (b || c) ≡ true
      later true c e = refl
      later false c e = e

      at : (u : CtxUse) (us : List CtxUse) {w : tree.Context} → Among w (map (context_tree r.names) (u ∷ us)) → w ≡ tree.closed_context q → (Among (tree.closed_context q) (map (context_tree r.names) us) → list_any (λ u. u.closed) us ≡ true) → list_any (λ u. u.closed) (u ∷ us) ≡ true
      at u us at_head e h = found u.closed (list_any (λ u. u.closed) us) (is_closed u u.closed refl (sym e))
      at u us (further i) e h = later u.closed (list_any (λ u. u.closed) us) (h (subst (λ z. Among z (map (context_tree r.names) us)) e i))

      by : (cs : List CtxUse) → Among (tree.closed_context q) (map (context_tree r.names) cs) → list_any (λ u. u.closed) cs ≡ true
      by [] k = elim k [ ]
      by (u ∷ us) k = at u us k refl (by us)

  own_rule_none : (hd : Head) → own_rule_contexts (Tree hd) ≡ [] → has_rule_context hd ≡ false
  own_rule_none (head leaves hs cs [] rs) e = refl
  own_rule_none (head leaves hs cs (c ∷ rcs) rs) e = absurd (cc)

  abbrev KnownHere : tree.Level → ℕ → List ℕ → Forest → Forest → Type 0
  KnownHere = Known h r f part_at link_of' typed_of items

  abbrev Within : ℕ → Type 0
  Within cur = (cur ≡ 0) ⊎ ((top : ℕ) × Below h r f part_at link_of' typed_of items cur top)

  -- a level lies in the lists of its membrane
  pub record LaidLevel (cur next n t : ℕ) (hd : Head) (F : Forest) : Type 0 where
    pub places : List ℕ
    pub rest : List ℕ
    pub left_forest : Forest
    pub parts : List (List ℕ)
    pub same : (w : ℕ → ℕ) → weigh w (flattened parts) ≡ weigh w (flattened (run part_at t (typed_in_items (flat_items kind cur next hd))))
    pub lying : Lies h r link_of' typed_of (Known h r f part_at link_of' typed_of items) (tree_of r.names r.rule hd) (run f.atom n (atoms_in_items (flat_items kind cur next hd)))
        parts (run f.membrane next (membranes_in_items (flat_items kind cur next hd))) places (atoms_in h (f.membrane cur)) rest F left_forest

  -- membranes of a level lie in a forest
  pub record LaidMembranes (cur next n t : ℕ) (hs : Heads) (F : Forest) : Type 0 where
    pub places : List ℕ
    pub left_forest : Forest
    pub parts : List (List ℕ)
    pub same : (w : ℕ → ℕ) → weigh w (flattened parts) ≡ weigh w (flattened (run part_at t (typed_in_items (flat_membranes kind cur next hs))))
    pub lying : LiesIn h r link_of' typed_of (Known h r f part_at link_of' typed_of items) (trees_of r.names r.rule hs) (run f.atom n (atoms_in_items (flat_membranes kind cur next hs)))
        parts (run f.membrane next (membranes_in_items (flat_membranes kind cur next hs))) places F left_forest

  runs : {A : Type 0} (g : ℕ → A) (n j k l : ℕ) → l ≡ j + k → run g n l ≡ run g n j ++ run g (n + j) k
  runs g n j k l e = ap (run g n) e ∙ run_both g n j k

  abbrev Once : List ℕ → List (List ℕ) → Type 0
  Once as' ps = (b : ℕ) → places b as' + places b (flattened ps) ≤ 1

  once_split : (as1 as2 : List ℕ) (ps1 ps2 : List (List ℕ)) → Once (as1 ++ as2) (ps1 ++ ps2) → Once as1 ps1 × Once as2 ps2
  once_split as1 as2 ps1 ps2 d = (
    (λ b. let u = d b in omega (arith, u, places_both b as1 as2, places_parts b ps1 ps2)),
    (λ b. let u = d b in omega (arith, u, places_both b as1 as2, places_parts b ps1 ps2)),
  )

  mutual
    -- items that stand in a heap lie in its lists
    pub lay_level : (cur next n t : ℕ) (hd : Head) (F : Forest) → Within cur → cur < next → EachLevel (λ l. NoConnectorLeaf (own_leaves l)) (Tree hd) → Items n t next (flat_items kind cur next hd) →
        Once (run f.atom n (atoms_in_items (flat_items kind cur next hd))) (run part_at t (typed_in_items (flat_items kind cur next hd))) → Distinct (run f.membrane next (membranes_in_items (flat_items kind cur next hd))) →
        tops F ≡ mems_in h (f.membrane cur) → Grown h F → Distinct (flat F) → LaidLevel cur next n t hd F
    lay_level cur next n t (head leaves hs cs rcs rs) F b l o w da dm e g df =
        let first = leaf_items kind cur leaves in
        let behind = flat_membranes kind cur next hs in
        let u = walk_split (AtomLies h r f part_at link_of' typed_of items) (TypedLies h r f part_at link_of' typed_of items) (MembraneLies h r f part_at link_of' typed_of items) first behind n t next w in
        let z : membranes_in_items first ≡ 0 = no_leaf_membrane kind cur leaves in
        let q : next + membranes_in_items first ≡ next = omega (arith, z) in
        let w' = subst (λ k. Items (n + atoms_in_items first) (t + typed_in_items first) k behind) q u.1 in
        let as1 = run f.atom n (atoms_in_items first) in
        let as2 = run f.atom (n + atoms_in_items first) (atoms_in_items behind) in
        let ps1 = run part_at t (typed_in_items first) in
        let ps2 = run part_at (t + typed_in_items first) (typed_in_items behind) in
        let ea : run f.atom n (atoms_in_items (first ++ behind)) ≡ as1 ++ as2 = runs f.atom n (atoms_in_items first) (atoms_in_items behind) (atoms_in_items (first ++ behind)) (atoms_both first behind) in
        let et : run part_at t (typed_in_items (first ++ behind)) ≡ ps1 ++ ps2 = runs part_at t (typed_in_items first) (typed_in_items behind) (typed_in_items (first ++ behind)) (typed_both first behind) in
        let em : membranes_in_items (first ++ behind) ≡ membranes_in_items behind = omega (arith, membranes_both first behind, z) in
        let d2 = once_split as1 as2 ps1 ps2 (λ b. let s = da b in subst (λ xs. places b xs + places b (flattened (ps1 ++ ps2)) ≤ 1) ea (subst (λ ys. places b (run f.atom n (atoms_in_items (first ++ behind))) + places b (flattened ys) ≤ 1) et s)) in
        let dm' = subst (λ k. Distinct (run f.membrane next k)) em dm in
        let fit = leaves_fit cur n t next leaves o.0 u.0 in
        let more = lay_membranes cur next (n + atoms_in_items first) (t + typed_in_items first) hs F b l o.1 w' d2.1 dm'
        (tops_in cur next (n + atoms_in_items first) (t + typed_in_items first) hs F w' e) g df in
        let X = atoms_in h (f.membrane cur) in
        let once : Distinct as1 = distinct_of as1 (λ b. let s = d2.0 b in omega (arith, s)) in
        let P = lay_parts (atom_at h r) link_of' typed_of (without_all as1 X) fit.2 (distinct_without_all as1 X (v.sound.listed.atoms_once (f.membrane cur)))
        (distinct_of (flattened ps1) (λ b. let s = d2.0 b in omega (arith, s)))
        (λ b i. in_left_over b as1 X once fit.1 (let s = d2.0 b in omega (arith, s, some_of b (flattened ps1) i)) (fit.3 b i)) in
        let it = lies {contexts = map (context_tree r.names) cs} {rule_contexts = names_of r.names rcs} {rules = rules (map r.rule rs)} fit.0 once fit.1 P.out more.lying in
        record {
          places = numbers as1 X ++ more.places;
          rest = P.rest;
          left_forest = more.left_forest;
          parts = P.parts ++ more.parts;
          same = λ w.
              let a = P.same w in
              let b = more.same w in
              let c : weigh w (flattened (run part_at t (typed_in_items (first ++ behind)))) ≡ weigh w (flattened (ps1 ++ ps2)) = ap (λ z. weigh w (flattened z)) et in
              omega (arith, a, b, c, parts_both w P.parts more.parts, parts_both w ps1 ps2);
          lying = subst (λ ys. Lies h r link_of' typed_of KnownHere (Tree (head leaves hs cs rcs rs)) ys (P.parts ++ more.parts) (run f.membrane next (membranes_in_items (first ++ behind))) (numbers as1 X ++ more.places) X P.rest F more.left_forest) (sym ea)
              (subst (λ k. Lies h r link_of' typed_of KnownHere (Tree (head leaves hs cs rcs rs)) (as1 ++ as2) (P.parts ++ more.parts) (run f.membrane next k) (numbers as1 X ++ more.places) X P.rest F more.left_forest) (sym em) it);
        }

    -- and so do membranes
    pub lay_membranes : (cur next n t : ℕ) (hs : Heads) (F : Forest) → Within cur → cur < next → EachOf (λ l. NoConnectorLeaf (own_leaves l)) (Trees hs) → Items n t next (flat_membranes kind cur next hs) →
        Once (run f.atom n (atoms_in_items (flat_membranes kind cur next hs))) (run part_at t (typed_in_items (flat_membranes kind cur next hs))) → Distinct (run f.membrane next (membranes_in_items (flat_membranes kind cur next hs))) →
        TopsIn next hs F → Grown h F → Distinct (flat F) → LaidMembranes cur next n t hs F
    lay_membranes cur next n t no_head F b l o w da dm tp g df = record { places = []; left_forest = F; parts = []; same = λ w. refl; lying = lies_none }
    lay_membranes cur next n t (head_and hd hs) F b l o w da dm tp g df =
        let first = flat_items kind next (next + 1) hd in
        let behind = flat_membranes kind cur (next + 1 + size hd) hs in
        let m = w.0 in
        let u = walk_split (AtomLies h r f part_at link_of' typed_of items) (TypedLies h r f part_at link_of' typed_of items) (MembraneLies h r f part_at link_of' typed_of items) first behind n t (next + 1) w.1 in
        let q : (next + 1) + membranes_in_items first ≡ next + 1 + size hd = omega (arith, flat_size kind next (next + 1) hd) in
        let w' = subst (λ k. Items (n + atoms_in_items first) (t + typed_in_items first) k behind) q u.1 in
        let as1 = run f.atom n (atoms_in_items first) in
        let as2 = run f.atom (n + atoms_in_items first) (atoms_in_items behind) in
        let ps1 = run part_at t (typed_in_items first) in
        let ps2 = run part_at (t + typed_in_items first) (typed_in_items behind) in
        let ms1 = run f.membrane (next + 1) (membranes_in_items first) in
        let ms2 = run f.membrane (next + 1 + size hd) (membranes_in_items behind) in
        let ea : run f.atom n (atoms_in_items (first ++ behind)) ≡ as1 ++ as2 = runs f.atom n (atoms_in_items first) (atoms_in_items behind) (atoms_in_items (first ++ behind)) (atoms_both first behind) in
        let et : run part_at t (typed_in_items (first ++ behind)) ≡ ps1 ++ ps2 = runs part_at t (typed_in_items first) (typed_in_items behind) (typed_in_items (first ++ behind)) (typed_both first behind) in
        let em : run f.membrane (next + 1) (membranes_in_items (first ++ behind)) ≡ ms1 ++ ms2 = runs f.membrane (next + 1) (membranes_in_items first) (membranes_in_items behind) (membranes_in_items (first ++ behind)) (membranes_both first behind)
        ∙ ap (λ y. run f.membrane (next + 1) (membranes_in_items first) ++ run f.membrane y (membranes_in_items behind)) q in
        let d2 = once_split as1 as2 ps1 ps2 (λ b. let s = da b in subst (λ xs. places b xs + places b (flattened (ps1 ++ ps2)) ≤ 1) ea (subst (λ ys. places b (run f.atom n (atoms_in_items (first ++ behind))) + places b (flattened ys) ≤ 1) et s)) in
        let dm' = subst Distinct em dm.1 in
        let p = pick (f.membrane next) F tp.0 in
        let grown = taken_grown h p.taken g in
        let dt = taken_distinct p.taken df in
        let b' = enter cur next (has_context hd) (has_closed_context hd) (has_rule_context hd) b l m in
        let it = lay_level next (next + 1) n t hd p.inner (inr b') (omega arith) o.0 u.0 d2.0 (distinct_left ms1 ms2 dm') grown.0.0 grown.0.1 dt.1 in
        let away = each_of (λ b. f.membrane next ≢ b) ms2 (λ b j. each_in (λ b. f.membrane next ≢ b) (run f.membrane (next + 1) (membranes_in_items (first ++ behind))) b dm.0 (subst (In b) (sym em) (in_right b ms1 ms2 j))) in
        let more = lay_membranes cur (next + 1 + size hd) (n + atoms_in_items first) (t + typed_in_items first) hs p.others b (omega (arith, l)) o.1 w' d2.1 (distinct_right ms1 ms2 dm')
        (tops_stay cur (next + 1 + size hd) hs p.taken tp.1 away) grown.1 dt.2 in
        let known : KnownHere (Tree hd) (f.membrane next) it.rest p.inner it.left_forest = record {
          grown = grown.0.0;
          alone = λ e. m.alone (own_none hd e);
          no_rule = λ e. m.no_rule (own_rule_none hd e);
          closed = λ q k. m.closed (own_closed hd q k);
          left_grown = left_grown it.lying grown.0.1;
          outside = λ x one some. once_there x next b'.0 p.inner b'.1 (level_holds x next (next + 1) n t b'.0 b'.1 (omega arith) hd o.0 u.0 some one) one grown.0.0 grown.0.1 dt.0;
        } in
        let whole = lies_and p.taken it.lying known more.lying in
        record {
          places = p.place ∷ (it.places ++ more.places);
          left_forest = more.left_forest;
          parts = it.parts ++ more.parts;
          same = λ w.
              let a = it.same w in
              let b = more.same w in
              let c : weigh w (flattened (run part_at t (typed_in_items (first ++ behind)))) ≡ weigh w (flattened (ps1 ++ ps2)) = ap (λ z. weigh w (flattened z)) et in
              omega (arith, a, b, c, parts_both w it.parts more.parts, parts_both w ps1 ps2);
          lying = subst (λ ys. LiesIn h r link_of' typed_of KnownHere (Trees (head_and hd hs)) ys (it.parts ++ more.parts) (f.membrane next ∷ run f.membrane (next + 1) (membranes_in_items (first ++ behind))) (p.place ∷ (it.places ++ more.places)) F more.left_forest) (sym ea)
              (subst (λ ks. LiesIn h r link_of' typed_of KnownHere (Trees (head_and hd hs)) (as1 ++ as2) (it.parts ++ more.parts) (f.membrane next ∷ ks) (p.place ∷ (it.places ++ more.places)) F more.left_forest) (sym em) whole);
        }
