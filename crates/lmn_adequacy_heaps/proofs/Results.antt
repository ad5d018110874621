-- The laws, as they are stated.
use Rattle.std.proofs.Common.{ℕ, ◌≡◌, ◌≤◌, ◌<◌, ◌↔◌, List, [], ◌∷◌, ◌++◌, length, Some, All, refl, sym, ap, subst, ◌∙◌, inl, inr, arith}
use Rattle.std.specs.List.{flat_map}
use Rattle.std.proofs.lemmas.List.{length-map}
use Rattle.lmn_base.specs.declared.rule.RuleTree.{RuleTree}
use Rattle.lmn_base.specs.Levels.{leaves_of, contexts_of, rule_contexts_of}
use Rattle.lmn_base.specs.Names.{HasNames, label_names, leaf_names, context_names, condition_names, level_names}
use Rattle.lmn_base.specs.WellMade.{FitsArity}
use Rattle.lmn_guards.specs.declared.plan.TypeKind.{TypeKind}
use Rattle.lmn_guards.specs.declared.plan.TypeKind.TheVariants.{Int, Unary, Ground}
use Rattle.std.proofs.lemmas.Option.{same_Some}
use Rattle.lmn_adequacy_heaps.proofs.TypedFacts.{typed_held}
use Rattle.std.specs.Prelude.{Option, None, IsSome, slice_get}
use Rattle.lmn_store_heap.specs.Heap.{Heap, HeapMem, IsMem, rules_in, rules_by}
use Rattle.lmn_store_heap.specs.Lists.{Distinct}
use Rattle.lmn_store_heap.specs.Sound.{Forest, bare, mem, flat, IsTree}
use Rattle.lmn_solid_heads.specs.Embeddings.{Images, Embeds, HasAtom, HasTyped}
use Rattle.lmn_solid_heads.specs.Flattening.{items_of_head}
use Rattle.lmn_solid_heads.specs.Guards.{IsOfKindAt}
use Rattle.lmn_solid_heads.specs.Heads.{HeadAtom, HeadTyped, typed_contexts_of}
use Rattle.lmn_congruence.specs.LinkedRules.{level_occurrences}
use Rattle.lmn_congruence.specs.Rules as tree
use Rattle.lmn_congruence.specs.Translation.{name_of, rule_tree}
use Rattle.lmn_congruence.specs.Orders.{Among, EachOnce}
use Rattle.lmn_reduction.specs.Parts.{Rooted}
use Rattle.lmn_congruence.specs.Process.{Process}
use Rattle.lmn_reduction.specs.Commits.{Irreducible}
use Rattle.lmn_reduction.specs.Steps.{Step}
use Rattle.lmn_adequacy.specs.Accepted.{typed_links, port_links, EachLevel, EachOf, NoConnectorLeaf, own_leaves as tree_leaves, own_membranes, own_contexts, own_rule_contexts, all_contexts, all_rule_contexts, contexts_in, rule_contexts_in, AtMostOne}
use Rattle.lmn_adequacy.specs.Embedding.{EmbedsAt, HasEmbedding as EmbedsInRegion}
use Rattle.lmn_adequacy.specs.Loose.{LevelImages}
use Rattle.lmn_adequacy.proofs.Results.{steps_exactly, irreducible_exactly}
use Rattle.lmn_adequacy_heaps.specs.HeapRegions.{HeapReading, region_at}
use Rattle.lmn_adequacy_heaps.specs.Laws.{HeadsAlike, SomeRuleEmbeds, heap_process}
use Rattle.lmn_adequacy_heaps.specs.Premises.{IsRead, HasForest, HasRules, IsRule, HasKinds, IsOfTypeKind}
use Rattle.lmn_solid_heads.proofs.HeadTrees.{Head, head_at, items_flat, flat_items}
use Rattle.lmn_adequacy_heaps.proofs.HeadTrees.{tree_of, level_tree}
use Rattle.lmn_adequacy_heaps.proofs.HeadFacts.{leaf_holds}
use Rattle.lmn_adequacy_heaps.proofs.Contexts.{Few, NoRules}
use Rattle.lmn_adequacy_heaps.proofs.Into.{result}
use Rattle.lmn_adequacy_heaps.proofs.Wholes.{closed_heap, all_accepted, embeds_from, find_embeds}
use Rattle.lmn_adequacy_heaps.proofs.OutOf.{embeds, images_at, numbers_are, part_at, ground_part}
use Rattle.lmn_adequacy_heaps.proofs.OnePart.{unary_parts_alike, integer_parts_alike}
use Rattle.lmn_adequacy_heaps.specs.Parts.{IsGroundPart, TakesParts}
use Rattle.lmn_solid_heads.specs.declared.items.HeadItem.{HeadItem}
use Rattle.lmn_adequacy_heaps.specs.Numbers.{numbers_left}
use Rattle.lmn_base.specs.Graphs.{Port}
use Rattle.lmn_base.specs.Lists.{In}
use Rattle.lmn_base.proofs.Lists.{all_of_left, all_of_parts, plus_nothing}

-- what an accepted rule's head is like
module _ (r : HeapReading) (rule : RuleTree) (kind : ℕ → TypeKind) (k : IsRule r rule) where
  abbrev hd : Head
  hd = head_at rule.head

  abbrev T : tree.Rule
  T = rule_tree r.names r.rule rule

  pub is_tree : tree.head_of T ≡ tree_of r.names r.rule (head_at rule.head)
  is_tree = level_tree r.names r.rule rule.head

  -- each link of a rule stands at most twice in its head
  pub linked : (x : ℕ) → level_occurrences x (tree_of r.names r.rule (head_at rule.head)) ≤ 2
  linked x = subst (λ l. level_occurrences x l ≤ 2) is_tree (elim (k.accepted.linked x) [ inl e ↦ omega (arith, e) | inr e ↦ omega (arith, e) ])

  pub few : EachOf Few (own_membranes (tree_of r.names r.rule (head_at rule.head)))
  few = subst (λ l. EachOf Few (own_membranes l)) is_tree k.accepted.few

  few_of : (l : tree.Level) → own_contexts l ≡ [] → own_rule_contexts l ≡ [] → EachOf Few (own_membranes l) → EachLevel Few l
  few_of (tree.level leaves membranes cs qs rules) e f w = ((subst AtMostOne (sym e) tt, subst AtMostOne (sym f) tt), w)

  pub few_all : EachLevel Few (tree_of r.names r.rule (head_at rule.head))
  few_all = subst (EachLevel Few) is_tree (few_of (tree.head_of T) k.accepted.top_contexts k.accepted.top_rule_contexts k.accepted.few)

  pub no_rules : EachLevel NoRules (tree_of r.names r.rule (head_at rule.head))
  no_rules = subst (EachLevel NoRules) is_tree k.accepted.no_rules

  inner_rules : (l : tree.Level) → EachLevel NoRules l → EachOf NoRules (own_membranes l)
  inner_rules (tree.level leaves membranes contexts rule_contexts rules) e = e.1

  pub no_rules_inside : EachOf NoRules (own_membranes (tree_of r.names r.rule (head_at rule.head)))
  no_rules_inside = inner_rules (tree_of r.names r.rule (head_at rule.head)) no_rules

  inner_contexts : (l : tree.Level) → own_contexts l ≡ [] → all_contexts l ≡ contexts_in (own_membranes l)
  inner_contexts (tree.level leaves membranes contexts rule_contexts rules) e = ap (λ z. z ++ contexts_in membranes) e

  inner_rule_contexts : (l : tree.Level) → own_rule_contexts l ≡ [] → all_rule_contexts l ≡ rule_contexts_in (own_membranes l)
  inner_rule_contexts (tree.level leaves membranes contexts rule_contexts rules) e = ap (λ z. z ++ rule_contexts_in membranes) e

  pub once_contexts : EachOnce (contexts_in (own_membranes (tree_of r.names r.rule (head_at rule.head))))
  once_contexts = subst (λ l. EachOnce (contexts_in (own_membranes l))) is_tree (subst EachOnce (inner_contexts (tree.head_of T) k.accepted.top_contexts) k.accepted.once.0)

  pub once_rule_contexts : EachOnce (rule_contexts_in (own_membranes (tree_of r.names r.rule (head_at rule.head))))
  once_rule_contexts = subst (λ l. EachOnce (rule_contexts_in (own_membranes l))) is_tree (subst EachOnce (inner_rule_contexts (tree.head_of T) k.accepted.top_rule_contexts) k.accepted.once.1)

  -- a head atom has as many links as its arity
  pub arity_fits : (n : ℕ) (a : HeadAtom) → HasAtom (flat_items kind 0 1 (head_at rule.head)) n a → length a.links ≡ a.functor.arity
  arity_fits n a e =
      let u = leaf_holds FitsArity kind rule.head (all_of_left FitsArity (leaves_of rule.head) (leaves_of rule.body) k.well_made.arities) n a e in
      ap length u.links ∙ length-map u.occurrences (λ o. o.link) ∙ u.holds

  -- the name of a head atom stands in the list
  pub names_known : (n : ℕ) (a : HeadAtom) → HasAtom (flat_items kind 0 1 (head_at rule.head)) n a → HasNames r.names (label_names a.functor.label)
  names_known n a e =
      let P : ℕ → Type 0 = λ i. i < length r.names in
      let both = all_of_left P (level_names rule.head ++ flat_map condition_names rule.guard) (level_names rule.body) k.known in
      let here = all_of_left P (level_names rule.head) (flat_map condition_names rule.guard) both in
      let leaves = all_of_left P (flat_map leaf_names (leaves_of rule.head)) (context_names (contexts_of rule.head))
      (all_of_left P (flat_map leaf_names (leaves_of rule.head) ++ context_names (contexts_of rule.head)) (context_names (rule_contexts_of rule.head)) here) in
      (leaf_holds (λ l. All P (leaf_names l)) kind rule.head (all_of_parts P leaf_names (leaves_of rule.head) leaves) n a e).holds

-- the kind of a part on the heap and in the calculus
pub kind_alike : (h : Heap) (r : HeapReading) (m : ℕ) (root : Port) (part : List ℕ) (g : Rooted) (kind : TypeKind) → IsRead h r → IsGroundPart h r m root part g → IsOfKindAt h kind root ↔ IsOfTypeKind kind g
kind_alike h r m root part g Int read p = (
  (λ k. (k.0, (integer_parts_alike h r m root part g k.0 read p).0 k.1)),
  (λ k. (k.0, (integer_parts_alike h r m root part g k.0 read p).1 k.1)),
)
kind_alike h r m root part g Unary read p = unary_parts_alike h r m root part g read p
kind_alike h r m root part g Ground read p = ((λ k. p.ground), (λ k. tt))

-- the atoms of all parts, as a map
module _ (h : Heap) (r : HeapReading) (f : Images) (typed_of : tree.Name → Rooted) (items : List HeadItem)
    (takes : (n : ℕ) (u : HeadTyped) → HasTyped items n u → (part : List ℕ) × IsGroundPart h r (f.membrane u.inside) (f.part n) part (typed_of (name_of r.names u.name))) where
  abbrev part_by : (n : ℕ) (o : Option HeadTyped) → slice_get (typed_contexts_of items) n ≡ o → List ℕ
  part_by n None q = []
  part_by n (Some u) q = (takes n u q).0

  chosen : (n : ℕ) (u : HeadTyped) (k : HasTyped items n u) (o : Option HeadTyped) (q : slice_get (typed_contexts_of items) n ≡ o) → IsGroundPart h r (f.membrane u.inside) (f.part n) (part_by n o q) (typed_of (name_of r.names u.name))
  chosen n u k None q = absurd (let s : None ≡ Some u = sym q ∙ k in cc)
  chosen n u k (Some w) q =
      subst (λ z. IsGroundPart h r (f.membrane z.inside) (f.part n) (takes n w q).0 (typed_of (name_of r.names z.name))) (same_Some w u (sym q ∙ k)) (takes n w q).1

  chosen_parts : (part_at : ℕ → List ℕ) × ((n : ℕ) (u : HeadTyped) → HasTyped items n u → IsGroundPart h r (f.membrane u.inside) (f.part n) (part_at n) (typed_of (name_of r.names u.name)))
  chosen_parts = ((λ n. part_by n (slice_get (typed_contexts_of items) n) refl), (λ n u k. chosen n u k (slice_get (typed_contexts_of items) n) refl))

-- a head embeds on the heap exactly where it lies in the region
pub heads_alike : HeadsAlike
heads_alike h r m inner kind rule read forest is_rule ns typed_of free =
    let hd = head_at rule.head in
    let T = rule_tree r.names r.rule rule in
    let e = is_tree r rule kind is_rule in
    let only = subst (EachLevel (λ l. NoConnectorLeaf (tree_leaves l))) e is_rule.accepted.no_connectors in
    let items = items_flat kind rule.head in
    let held = subst (λ l. (x : ℕ) → Among x (typed_links l) → Among x (port_links l)) e is_rule.accepted.held in
    let holds = typed_held r.names r.rule kind hd only held in (
      (λ p.
          let q = subst (λ z. Embeds h z [] m p.0) items p.1 in
          let takes = subst (λ z. (n : ℕ) (u : HeadTyped) → HasTyped z n u → (part : List ℕ) × IsGroundPart h r (p.0.membrane u.inside) (p.0.part n) part (typed_of (name_of r.names u.name))) items p.3 in
          let c = chosen_parts h r p.0 typed_of (flat_items kind 0 1 hd) takes in
          let u = result h read.valid r read.naming kind hd p.0 [] m q (arity_fits r rule kind is_rule) only typed_of holds read c.0 c.1
          (linked r rule kind is_rule) inner forest.forms forest.once
          (few r rule kind is_rule) (no_rules_inside r rule kind is_rule) (once_contexts r rule kind is_rule) (once_rule_contexts r rule kind is_rule) in
          let same = sym u.are ∙ subst (λ z. numbers_left h p.0 0 1 [] [] z ≡ ns) items p.2 in (
            (λ n v k. let w = p.3 n v k in (kind_alike h r (p.0.membrane v.inside) (p.0.part n) w.0 (typed_of (name_of r.names v.name)) v.kind read w.1).0 (p.1.lies.parts n v k).of_kind),
            (
              u.assignment,
              u.typed,
              record {
                plain = u.plain free;
                rest = u.rest;
                images = subst (λ k. LevelImages u.assignment (tree.head_of T) k (region_at h r m inner) u.rest) same (subst (λ l. LevelImages u.assignment l u.numbers (region_at h r m inner) u.rest) (sym e) u.images);
              },
            ),
          )),
      (λ p.
          let t = p.1.0 in
          let L = p.1.2 in
          let kinds = subst (λ g. HasKinds r kind rule g) (sym p.1.1) p.0 in
          let images = subst (λ l. LevelImages t l ns (region_at h r m inner) L.rest) e L.images in
          let kinds' = subst (λ z. (n : ℕ) (u : HeadTyped) → HasTyped z n u → IsOfTypeKind u.kind (t.typed_of (name_of r.names u.name))) items kinds in
          let f = images_at h read.valid r read.naming kind hd m inner forest.forms forest.once t L.plain ns L.rest images only (no_rules r rule kind is_rule) (few_all r rule kind is_rule) (linked r rule kind is_rule) holds in
          let atoms = part_at h read.valid r read.naming kind hd m inner forest.forms forest.once t L.plain ns L.rest images only (no_rules r rule kind is_rule) (few_all r rule kind is_rule) (linked r rule kind is_rule) holds in
          let ground = ground_part h read.valid r read.naming kind hd m inner forest.forms forest.once t L.plain ns L.rest images only (no_rules r rule kind is_rule) (few_all r rule kind is_rule) (linked r rule kind is_rule) holds read read.names read.known (names_known r rule kind is_rule) (arity_fits r rule kind is_rule) in (
            f,
            subst (λ z. Embeds h z [] m f) (sym items)
                (embeds h read.valid r read.naming kind hd m inner forest.forms forest.once t L.plain ns L.rest images only (no_rules r rule kind is_rule) (few_all r rule kind is_rule) (linked r rule kind is_rule) holds read read.names read.known (names_known r rule kind is_rule) (arity_fits r rule kind is_rule) []
                (λ n u k. (kind_alike h r (f.membrane u.inside) (f.part n) (atoms n) (t.typed_of (name_of r.names u.name)) u.kind read (ground n u k)).1 (kinds' n u k)) tt),
            subst (λ z. numbers_left h f 0 1 [] [] z ≡ ns) (sym items) (numbers_are h read.valid r read.naming kind hd m inner forest.forms forest.once t L.plain ns L.rest images only (no_rules r rule kind is_rule) (few_all r rule kind is_rule) (linked r rule kind is_rule) holds),
            subst (TakesParts h r kind rule f) p.1.1 (λ n u k. (atoms n, ground n u (subst (λ z. HasTyped z n u) items k))),
          )),
    )

-- ---- whole heaps

-- the tree of a heap is the forest of its root
pub root_forest : (h : Heap) (inner : Forest) → IsTree h (mem h.root inner bare) → HasForest h h.root inner
root_forest h inner tr = record { forms = tr.forms.2; once = subst (λ z. Distinct (h.root ∷ z)) (plus_nothing (flat inner)) tr.once }

module _ (h : Heap) (r : HeapReading) (table : List RuleTree) (kinds : ℕ → ℕ → TypeKind) (inner : Forest) (read : IsRead h r) (tr : IsTree h (mem h.root inner bare)) (has : HasRules h r table)
    (alike : (m : ℕ) (i : Forest) (k : ℕ) (rule : RuleTree) → HasForest h m i → slice_get table k ≡ Some rule → IsRule r rule →
    ((f : Images) × Embeds h (items_of_head (kinds k) rule.head) rule.guard m f) ↔ ((ns : List ℕ) × EmbedsAt (rule_tree r.names r.rule rule) ns (region_at h r m i))) where
  into_region : SomeRuleEmbeds h table kinds → EmbedsInRegion (region_at h r h.root inner)
  into_region s =
      let p = subst (In s.membrane) (ap (λ z. h.root ∷ z) (plus_nothing (flat inner))) (tr.all s.membrane s.in_place) in
      embeds_from h r table kinds has alike h.root inner (root_forest h inner tr)
      (record { membrane = s.membrane; among = p; number = s.number; stands = s.stands; rule = s.rule; is = s.is; images = s.images; embeds = s.embeds }) p

  onto_heap : EmbedsInRegion (region_at h r h.root inner) → SomeRuleEmbeds h table kinds
  onto_heap e =
      let w = find_embeds h r table kinds has alike e h.root inner (root_forest h inner tr) refl in
      record { membrane = w.membrane; in_place = there w.membrane w.number w.stands; number = w.number; stands = w.stands; rule = w.rule; is = w.is; images = w.images; embeds = w.embeds }
    where
      there : (m k : ℕ) → In k (rules_in h m) → IsMem h m
      there m k p = by (h.mems m) p
        where
          by : (o : Option HeapMem) → In k (rules_by o) → IsSome o
          by None p = absurd p
          by (Some x) p = refl

  -- a step is possible exactly where a rule embeds on the heap
  pub heap_steps : ((Q : Process) × Step (heap_process h r inner) Q) ↔ SomeRuleEmbeds h table kinds
  heap_steps =
      let s = steps_exactly (region_at h r h.root inner) (closed_heap h r inner read tr) (all_accepted h r table has h.root inner) in
      ((λ q. onto_heap (s.0 q)), (λ e. s.1 (into_region e)))

  pub heap_irreducible : Irreducible (heap_process h r inner) ↔ (¬ (SomeRuleEmbeds h table kinds))
  heap_irreducible =
      let s = irreducible_exactly (region_at h r h.root inner) (closed_heap h r inner read tr) (all_accepted h r table has h.root inner) in
      ((λ q e. s.0 q (into_region e)), (λ n. s.1 (λ e. n (onto_heap e))))
