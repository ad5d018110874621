-- A match of the least images of a rule is one of the embedding at these images.
use Rattle.std.proofs.Common.{ℕ, zero, suc, ◌≡◌, ◌≢◌, ◌<◌, ◌≤◌, ◌⊎◌, List, [], ◌∷◌, ◌++◌, map, length, Option, Some, None, inl, inr, refl, sym, ap, subst, ◌∙◌, arith}
use Rattle.std.specs.Prelude.{◌↔◌, Contains, flat_map, slice_index_or}
use Rattle.std.specs.List.{AllByRecursion}
use Rattle.std.specs.Option.{option_map}
use Rattle.std.proofs.lemmas.List.{map-append}
use Rattle.std.proofs.lemmas.List.Elements.{recursion_from_All, All-contains_itself}
use Rattle.lmn_base.specs.declared.level.CtxUse.{CtxUse}
use Rattle.lmn_base.specs.declared.level.Leaf.{Leaf}
use Rattle.lmn_base.specs.declared.level.Leaf.TheVariants.{Atom, Typed}
use Rattle.lmn_base.specs.declared.level.Occ.{Occ}
use Rattle.lmn_base.specs.declared.refusal.Pos.{Pos}
use Rattle.lmn_base.specs.declared.rule.RuleTree.{RuleTree}
use Rattle.lmn_base.specs.Graphs.{Reached}
use Rattle.lmn_base.specs.Levels.{contexts_of, leaves_of, links_of, occurrences_of_leaf, rule_contexts_of}
use Rattle.lmn_base.specs.LinkUses.{IsTableOf}
use Rattle.lmn_base.specs.Lists.{In}
use Rattle.lmn_base.specs.WellMade.{FitsArity}
use Rattle.lmn_base.proofs.Lists.{all_of_right, get_below, get_there as get_some}
use Rattle.lmn_guards.specs.declared.plan.GuardPlan.{GuardPlan}
use Rattle.lmn_store_heap.specs.Graphs.{atom_map}
use Rattle.lmn_store_heap.specs.Heap.{Heap, IsMem, atoms_in, rules_in, within}
use Rattle.lmn_store_heap.specs.Lists.{Distinct}
use Rattle.lmn_store_heap.specs.Sound.{Forest, Valid}
use Rattle.lmn_store_heap.proofs.Common.{decide_in}
use Rattle.lmn_store_heap.proofs.Heights.{mem_of_place}
use Rattle.lmn_store_heap.proofs.ListLemmas.{each_of}
use Rattle.lmn_solid_heads.specs.declared.items.HeadItem.{HeadItem}
use Rattle.lmn_solid_heads.specs.Embeddings.{Embeds, Images, IsMembraneImage, Lies, meaning}
use Rattle.lmn_solid_heads.specs.Heads.{links_of_head, membranes_of, times, typed_contexts_of}
use Rattle.lmn_solid_heads.proofs.HeadTrees.{head_at, items_flat as head_flat}
use Rattle.lmn_congruence_splice.specs.Classes.{rising}
use Rattle.lmn_congruence_splice.specs.Splice.{IsOneOf}
use Rattle.lmn_congruence_splice.proofs.EndLemmas.{in_rising}
use Rattle.lmn_compile_head.specs.Accepted.{AcceptedHeads, head_items}
use Rattle.lmn_compile_head.specs.Bindings.{part_numbers}
use Rattle.lmn_compile_head.specs.Heads.{kind_in}
use Rattle.lmn_compile_head.specs.Tables.{AllBelow}
use Rattle.lmn_compile_head.proofs.HeadLeaves.{below_back, below_front}
use Rattle.lmn_compile_body.specs.Accepted.{AcceptedNested, IsCompilable}
use Rattle.lmn_compile_body.specs.Naming.{numbered_contexts, numbered_rule_contexts}
use Rattle.lmn_compile_body.proofs.BodyTrees.{numbers_below}
use Rattle.lmn_compile_body.proofs.HeadContexts.{names_are, of_rules, untyped}
use Rattle.lmn_solid_bodies.specs.Fired.{images_of}
use Rattle.lmn_solid_bodies.specs.Flattening.{context_membrane, membrane_named, rule_context_membrane}
use Rattle.lmn_solid_bodies.specs.Rules.{IsHeadMembrane, PartAtoms}
use Rattle.lmn_solid_bodies.specs.Running.{Registers}
use Rattle.lmn_solid_bodies.specs.Within.{IsTakenAtom, membrane_images}
use Rattle.lmn_solid_bodies.proofs.Firing.{heap_in_of, of_heap_in, rising_below}
use Rattle.lmn_solid_bodies.proofs.HeadPorts.{in_map, of_map}
use Rattle.lmn_solid_bodies.proofs.Numbered.{contexts_of_heads}
use Rattle.lmn_congruence.specs.LinkedRules.{level_occurrences}
use Rattle.lmn_congruence.specs.Regions.{Region, region}
use Rattle.lmn_congruence.specs.Rules as tree
use Rattle.lmn_congruence.specs.Rules.{Name}
use Rattle.lmn_congruence.specs.Translation.{context_tree, name_of, rule_tree}
use Rattle.lmn_reduction.specs.Parts.{IsInteger}
use Rattle.lmn_adequacy.specs.Embedding.{Contents}
use Rattle.lmn_adequacy_heaps.specs.HeapRegions.{HeapReading, atoms_at, regions_at}
use Rattle.lmn_adequacy_heaps.specs.Parts.{IsGroundPart}
use Rattle.lmn_adequacy_heaps.specs.Premises.{IsRead, IsRule}
use Rattle.lmn_adequacy_heaps.proofs.HeadTrees.{level_tree}
use Rattle.lmn_adequacy_heaps.proofs.Occurrences.{times_are}
use Rattle.lmn_adequacy_turns.specs.Turning.{HasContents, IsLeft}
use Rattle.lmn_adequacy_turns.proofs.Contexts.{context_there, rule_context_there}
use Rattle.lmn_adequacy_turns.proofs.HeadLinks.{has_port}
use Rattle.lmn_solid_tables.specs.Flats.{heap_of, link_at, reading_of}
use Rattle.lmn_solid_tables.specs.declared.flat.Flat.{Flat}
use Rattle.lmn_solid_firing.specs.Laws.{HeadsLeave, IsMatch, PartsStand}
use Rattle.lmn_solid_firing.specs.Making.{LeftForms, left_of}
use Rattle.lmn_solid_firing.specs.Meant.{ContextFits, LeafFits, MeansPart, MeansTyped, RuleContextFits, part_named}
use Rattle.lmn_solid_firing.specs.declared.match_.Match.{Match}
use Rattle.lmn_solid_firing.specs.declared.match_.Part.{Part}
use Rattle.lmn_solid_search.specs.Finding.{images}
use Rattle.lmn_solid_search.specs.declared.embedding.Found.{Found}
use Rattle.lmn_solid_firing.specs.Matched.{IsMatched, IsPartOfName, names_of}
use Rattle.lmn_solid_next.specs.Choosing.{LiesLeast}
use Rattle.lmn_solid_next.specs.Firing.{HasMatch, MatchesAreOfEmbeddings, TellsIntegers}
use Rattle.lmn_solid_next.proofs.BoundValues.{body_name_is_bound, integer_bound}
use Rattle.lmn_solid_next.proofs.Rests.{in_taken, of_taken}
use Rattle.lmn_adequacy_turns.proofs.TurnsNext.{same_region}
use Rattle.lmn_adequacy_choices.proofs.Common.{never_there}
use Rattle.lmn_schedule_strategy.proofs.RestsFound.{in_parts}

-- ---- lists

-- a list with the same elements, each once
each_once : (xs : List ℕ) → (ys : List ℕ) × Distinct ys × ((a : ℕ) → In a ys ↔ In a xs)
each_once [] = ([], tt, λ a. ((λ i. i), (λ i. i)))
each_once (x ∷ xs) =
    let w = each_once xs in
    elim (decide_in x w.0) [
      | inl there ↦ (w.0, w.1, λ a. ((λ i. inr ((w.2 a).0 i)), (λ i. elim i [ inl e ↦ subst (λ z. In z w.0) e there | inr j ↦ (w.2 a).1 j ])))
      | inr new ↦ (
        x ∷ w.0,
        (each_of (λ y. x ≢ y) w.0 (λ a i e. new (subst (λ z. In z w.0) (sym e) i)), w.1),
        λ a. ((λ i. elim i [ inl e ↦ inl e | inr j ↦ inr ((w.2 a).0 j) ]), (λ i. elim i [ inl e ↦ inl e | inr j ↦ inr ((w.2 a).1 j) ])),
      )
    ]

-- the name of an entry is one of the names
named_in : (x y : ℕ) (es : List (ℕ × ℕ)) → IsOneOf {A = ℕ × ℕ} (x, y) es → In x (names_of es)
named_in x y es i = of_heap_in x (names_of es) (in_map (λ (e : ℕ × ℕ). e.0) (x, y) es i)

-- ---- what is taken

module _ (h : Heap) (valid : Valid h) (items : List HeadItem) (m : ℕ) (s : Registers) (lies : Lies h items m s.head.images) where
  abbrev Parts : List ℕ → Type 0
  Parts ps = (a : ℕ) → In a ps ↔ ((k : ℕ) × (k < length (typed_contexts_of items)) × Reached (atom_map h) (s.head.images.part k) a)

  -- the atoms of the parts, each once
  some_parts : (ps : List ℕ) × PartAtoms h items s.head.images ps × Parts ps
  some_parts =
      let w = in_parts h valid items m s lies in
      let u = each_once w.0 in
      let are : Parts u.0 = λ a. ((λ i. (w.1 a).0 ((u.2 a).0 i)), (λ q. (u.2 a).1 ((w.1 a).1 q))) in (
        u.0,
        record {
          once = u.1;
          are = λ a i. let v = (are a).0 i in let t = get_some (typed_contexts_of items) v.0 v.1 in (v.0, t.0, t.1, v.2);
          all = λ g t a e q. (are a).1 (g, get_below (typed_contexts_of items) g t e, q);
        },
        are,
      )

  -- the images of membranes
  images_are : (x : ℕ) → IsMembraneImage items s.head.images x ↔ In x (membrane_images s items)
  images_are x = (into, out)
    where
      into : IsMembraneImage items s.head.images x → In x (membrane_images s items)
      into w =
          let n = length (membranes_of items) in
          of_heap_in x (membrane_images s items) (subst (λ z. IsOneOf z (membrane_images s items)) w.2 (in_map s.head.images.membrane (suc w.0) (rising 1 n) (in_rising n 1 (suc w.0) (omega arith) (let l = w.1 in omega (arith, l)))))

      out : In x (membrane_images s items) → IsMembraneImage items s.head.images x
      out i =
          let n = length (membranes_of items) in
          let w = of_map s.head.images.membrane x (rising 1 n) (heap_in_of x (membrane_images s items) i) in
          let l = rising_below n 1 w.0 w.1 in
          by w.0 l.0 (let u = l.1 in omega (arith, u)) w.2
        where
          by : (k : ℕ) → 1 ≤ k → k ≤ length (membranes_of items) → s.head.images.membrane k ≡ x → IsMembraneImage items s.head.images x
          by zero low high e = absurd (omega (arith, low))
          by (suc k) low high e = (k, omega (arith, high), e)

  -- the image of a membrane of the head, or that of the rule, is there
  image_there : IsMem h m → (k : ℕ) → (k ≡ 0) ⊎ IsHeadMembrane (length (membranes_of items)) k → IsMem h (s.head.images.membrane k)
  image_there there k (inl e) = subst (IsMem h) (sym (ap s.head.images.membrane e ∙ lies.here)) there
  image_there there k (inr w) =
      let at = s.head.images.membrane in
      let b = get_some (membranes_of items) w.0 w.2 in
      mem_of_place h (at k) (within (at b.0.inside)) ((valid.sound.listed.mems (at b.0.inside) (at k)).0 (lies.membranes_placed k b.0 (w.0, w.1, b.1)))

-- ---- the leaves of a body

abbrev LinksBelow : ℕ → Leaf → Type 0
LinksBelow n l = AllByRecursion (λ o. o.link < n) (occurrences_of_leaf l)

occurrences_low : (n : ℕ) (os : List Occ) → AllBelow n (map (λ o. o.link) os) → AllByRecursion (λ o. o.link < n) os
occurrences_low n [] b = tt
occurrences_low n (o ∷ os) b = (b.0, occurrences_low n os b.1)

leaves_low : (n : ℕ) (ls : List Leaf) → AllBelow n (map (λ o. o.link) (flat_map occurrences_of_leaf ls)) → AllByRecursion (LinksBelow n) ls
leaves_low n [] b = tt
leaves_low n (l ∷ ls) b =
    let here = map (λ (o : Occ). o.link) (occurrences_of_leaf l) in
    let rest = map (λ (o : Occ). o.link) (flat_map occurrences_of_leaf ls) in
    let both = subst (AllBelow n) (map-append (λ (o : Occ). o.link) (occurrences_of_leaf l) (flat_map occurrences_of_leaf ls)) b in
    (occurrences_low n (occurrences_of_leaf l) (below_front n here rest both), leaves_low n ls (below_back n here rest both))

-- the links of a body are below the number of those of its rule
body_low : (rule : RuleTree) → IsTableOf (rule.head ∷ rule.body ∷ []) rule.links → AllByRecursion (LinksBelow (length rule.links)) (leaves_of rule.body)
body_low rule table =
    let n = length rule.links in
    let all = (numbers_below 0 n (flat_map links_of (rule.head ∷ rule.body ∷ [])) table.numbered).2 in
    leaves_low n (leaves_of rule.body) (below_front n (links_of rule.body) [] (below_back n (links_of rule.head) (links_of rule.body ++ []) all))

module _ (flat : Flat) (r : HeapReading) (t : Match) (c : Contents) (n : ℕ) where
  -- what is asked of a leaf that is a typed context
  abbrev Means : Leaf → Type 0
  Means (Atom functor links pos) = Unit {0}
  Means (Typed name o pos) = MeansTyped (heap_of flat) r t c name

  leaf_fits : (l : Leaf) → FitsArity l → LinksBelow n l → Means l → LeafFits (heap_of flat) r t c n l
  leaf_fits (Atom functor links pos) long low means = (long, low)
  leaf_fits (Typed name o pos) long low means = (low.0, means)

  leaves_fit : (ls : List Leaf) → AllByRecursion FitsArity ls → AllByRecursion (LinksBelow n) ls → AllByRecursion Means ls → AllByRecursion (LeafFits (heap_of flat) r t c n) ls
  leaves_fit [] long low means = tt
  leaves_fit (l ∷ ls) long low means = (leaf_fits l long.0 low.0 means.0, leaves_fit ls long.1 low.1 means.1)

-- ---- the match

module _ (heads : AcceptedHeads) (nested : AcceptedNested) (leave : HeadsLeave) (stand : PartsStand) (flat : Flat) (names : List Name) (table : List RuleTree) (rule : RuleTree) (plan : GuardPlan) (whole : IsCompilable table rule plan)
    (read : IsRead (heap_of flat) (reading_of names table flat)) (is_rule : IsRule (reading_of names table flat) rule) (m : ℕ) (inner : Forest) (there : IsMem (heap_of flat) m)
    (found : Found) (embeds : Embeds (heap_of flat) (head_items rule plan) rule.guard m (images m found)) (tells : TellsIntegers (heap_of flat) (head_items rule plan) rule.guard m found)
    (lies : LiesLeast (heap_of flat) (reading_of names table flat) rule plan m inner (images m found)) (t : Match) (is : IsMatched flat rule (head_items rule plan) m found t) where
  abbrev f : Images
  f = images m found

  abbrev h : Heap
  h = heap_of flat

  abbrev r : HeapReading
  r = reading_of names table flat

  abbrev items : List HeadItem
  items = head_items rule plan

  abbrev s : Registers
  s = lies.registers

  abbrev top : tree.Level
  top = tree.head_of (rule_tree names r.rule rule)

  -- by the images in the registers
  embeds_there : Embeds h items rule.guard m s.head.images
  embeds_there = subst (Embeds h items rule.guard m) (sym lies.images) embeds

  abbrev parts : (ps : List ℕ) × PartAtoms h items s.head.images ps × Parts h read.valid items m s embeds_there.lies ps
  parts = some_parts h read.valid items m s embeds_there.lies

  abbrev taken : List ℕ
  taken = images_of s items ++ parts.0

  both : HasContents h r rule plan s taken lies.embeds.contents × IsLeft h r taken (membrane_images s items) m lies.embeds.rest
  both = lies.of_registers parts.0 parts.1

  abbrev c : Contents
  c = lies.embeds.contents

  abbrev left : (left : ℕ → Forest) × LeftForms flat t left
      × ((x : ℕ) → IsMem (heap_of flat) x → (S : Region) → IsLeft (heap_of flat) r taken (membrane_images s items) x S →
      S ≡ region (atoms_at (heap_of flat) r (left_of t.atoms (atoms_in (heap_of flat) x))) (regions_at (heap_of flat) r (left x)) (map r.rule (rules_in (heap_of flat) x)))
  left = leave flat read.valid r t taken (membrane_images s items)
      (λ a. let u = subst (λ g. In a t.atoms ↔ IsTakenAtom h items g a) (sym lies.images) (is.atoms a) in ((λ i. in_taken h items s parts.0 parts.2 a (u.0 i)), (λ i. u.1 (of_taken h items s parts.0 parts.2 a i))))
      (λ x. let u = subst (λ g. In x t.membranes ↔ IsMembraneImage items g x) (sym lies.images) (is.membranes x) in let w = images_are h read.valid items m s embeds_there.lies x in ((λ i. w.0 (u.0 i)), (λ i. u.1 (w.1 i))))

  -- ---- contexts

  context_is : (u : CtxUse) → Contains (contexts_of rule.body) u → membrane_named t.contexts u.name ≡ s.head.images.membrane (context_membrane rule.head u.name)
  context_is u w =
      let x = u.name in
      let n = context_membrane rule.head x in
      let entry = subst (IsOneOf {A = ℕ × ℕ} (x, n)) (sym (names_are untyped rule.head)) (context_there r rule read.names is_rule u w) in
      is.contexts x (named_in x n ((numbered_contexts rule.head).names 0 1) entry) ∙ ap (λ (g : Images). g.membrane n) (sym lies.images)

  rule_context_is : (u : CtxUse) → Contains (rule_contexts_of rule.body) u → membrane_named t.rule_contexts u.name ≡ s.head.images.membrane (rule_context_membrane rule.head u.name)
  rule_context_is u w =
      let x = u.name in
      let n = rule_context_membrane rule.head x in
      let entry = subst (IsOneOf {A = ℕ × ℕ} (x, n)) (sym (names_are of_rules rule.head)) (rule_context_there r rule read.names is_rule u w) in
      is.rule_contexts x (named_in x n ((numbered_rule_contexts rule.head).names 0 1) entry) ∙ ap (λ (g : Images). g.membrane n) (sym lies.images)

  context_fits : (u : CtxUse) → Contains (contexts_of rule.body) u → ContextFits flat r t c left.0 u
  context_fits u w =
      let x = s.head.images.membrane (context_membrane rule.head u.name) in
      let x_there = image_there h read.valid items m s embeds_there.lies there (context_membrane rule.head u.name) (contexts_of_heads (kind_in plan.kinds) rule.head u.name).0 in
      subst (λ z. (c.atoms_of (context_tree names u) ≡ atoms_at h r (left_of t.atoms (atoms_in h z))) × (c.membranes_of (context_tree names u) ≡ regions_at h r (left.0 z))) (sym (context_is u w))
      (same_region (left.2 x x_there (region (c.atoms_of (context_tree names u)) (c.membranes_of (context_tree names u)) (map r.rule (rules_in h x))) (both.0.contexts u w)))

  rule_context_fits : (u : CtxUse) → Contains (rule_contexts_of rule.body) u → RuleContextFits flat r t c u
  rule_context_fits u w = both.0.rule_contexts u w ∙ ap (λ z. map r.rule (rules_in h z)) (sym (rule_context_is u w))

  -- ---- typed contexts

  means : (n : ℕ) (o : Occ) (p : Pos) → Contains (leaves_of rule.body) (Typed n o p) → MeansTyped h r t c n
  means n o p w = by (part_numbers items n) (part_named t.parts n) refl (is.parts n)
    where
      by : (q : Option ℕ) (v : Option Part) → part_numbers items n ≡ q → IsPartOfName flat f q v → MeansPart h r t c n v
      by None (Some part) e k = absurd k
      by (Some g) None e k = absurd k
      by (Some g) (Some part) e k =
          let u = both.0.parts n o p g w e in
          let ground = subst (λ (i : Images). IsGroundPart h r u.0 (i.part g) u.1 (c.typed_of (name_of names n))) lies.images u.2 in
          stand h r read u.0 (f.part g) u.1 (c.typed_of (name_of names n)) ground part k.link k.in_depth
      by None None e k =
          let z = body_name_is_bound h r read (kind_in plan.kinds) rule is_rule f n o p w e embeds.holds in (
            z.0,
            is.integers n ∙ sym (tells n) ∙ integer_bound h rule.guard (meaning items f) n z.0 (ap (option_map f.part) e) z.1,
            subst (λ k. IsInteger k (c.typed_of (name_of names n))) (lies.bound n z.0 z.1) (both.0.bound n o p w e),
          )

  means_leaf : (l : Leaf) → Contains (leaves_of rule.body) l → Means flat r t c (length rule.links) l
  means_leaf (Atom functor links pos) w = tt
  means_leaf (Typed n o p) w = means n o p w

  -- ---- links

  often : (x : ℕ) → times x (links_of_head items) ≡ level_occurrences x top
  often x = ap (λ z. times x (links_of_head z)) (head_flat (kind_in plan.kinds) rule.head) ∙ times_are names r.rule (kind_in plan.kinds) x 0 1 (head_at rule.head) ∙ ap (level_occurrences x) (sym (level_tree names r.rule rule.head))

  bounded : (x : ℕ) → length rule.links ≤ x → level_occurrences x top ≡ 0
  bounded x l = sym (often x) ∙ never_there x (links_of_head items) (λ i. let k = (nested table rule plan whole).atoms.below x (inl i) in omega (arith, k, l))

  wired : (x : ℕ) → level_occurrences x top ≡ 1 → c.link_of x < t.links
  wired x one =
      let p = has_port items (heads.head table rule plan whole.ready) x (often x ∙ one) in
      subst (λ z. z < t.links) (sym (both.0.links x p.0 p.1)) (is.links (s.head.images.atom p.0.0) p.0.1)

  is_match : IsMatch flat r t rule left.0 c lies.embeds.rest
  is_match = record {
    below = is.links;
    fits = record {
      leaves_fit = leaves_fit flat r t c (length rule.links) (leaves_of rule.body) (recursion_from_All FitsArity (leaves_of rule.body) (all_of_right FitsArity (leaves_of rule.head) (leaves_of rule.body) is_rule.well_made.arities))
          (body_low rule is_rule.well_made.table) (recursion_from_All (Means flat r t c (length rule.links)) (leaves_of rule.body) (λ k d l. means_leaf (slice_index_or (leaves_of rule.body) k d) (All-contains_itself (leaves_of rule.body) k d l)));
      contexts_fit = recursion_from_All (ContextFits flat r t c left.0) (contexts_of rule.body) (λ k d l. context_fits (slice_index_or (contexts_of rule.body) k d) (All-contains_itself (contexts_of rule.body) k d l));
      rule_contexts_fit = recursion_from_All (RuleContextFits flat r t c) (rule_contexts_of rule.body) (λ k d l. rule_context_fits (slice_index_or (rule_contexts_of rule.body) k d) (All-contains_itself (rule_contexts_of rule.body) k d l));
    };
    rest = left.2 t.home (subst (IsMem h) (sym is.home) there) lies.embeds.rest (subst (λ z. IsLeft h r taken (membrane_images s items) z lies.embeds.rest) (sym is.home) both.1);
    bounded = bounded;
    wired = wired;
  }

  pub match_of_embedding : HasMatch flat r rule plan (images m found) t lies.embeds.contents lies.embeds.rest
  match_of_embedding = record {
    left = left.0;
    forms = left.1;
    is = is_match;
    ports = λ x p k. both.0.links x p k ∙ ap (λ (g : Images). link_at flat (g.atom p.0) p.1) lies.images;
    often = often;
  }

pub matches_are_of_embeddings : AcceptedHeads → AcceptedNested → HeadsLeave → PartsStand → MatchesAreOfEmbeddings
matches_are_of_embeddings heads nested leave stand flat names table rule plan whole read is_rule m inner there found least tells lies t is =
    match_of_embedding heads nested leave stand flat names table rule plan whole read is_rule m inner there found least.embeds tells lies t is
