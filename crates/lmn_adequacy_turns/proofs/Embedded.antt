-- Where the head code of an accepted rule succeeds first, the rule embeds in order, and the embedding is that of the registers.
use Rattle.std.proofs.Common.{ℕ, zero, suc, ◌≡◌, ◌+◌, ◌<◌, ◌⊎◌, All, None, Some, List, [], ◌∷◌, ◌++◌, map, length, refl, sym, ap, subst, ◌∙◌, inl, inr, arith}
use Rattle.std.specs.Option.{option_map}
use Rattle.std.specs.Prelude.{Contains, flat_map}
use Rattle.lmn_base.specs.declared.level.Leaf.TheVariants as leaf
use Rattle.lmn_base.specs.declared.level.Occ.{Occ}
use Rattle.lmn_base.specs.declared.refusal.Pos.{Pos}
use Rattle.lmn_base.specs.declared.rule.RuleTree.{RuleTree}
use Rattle.lmn_base.specs.Levels.{leaves_of, contexts_of, rule_contexts_of}
use Rattle.lmn_guards.specs.declared.plan.GuardPlan.{GuardPlan}
use Rattle.lmn_guards.specs.declared.plan.TypeKind.{TypeKind}
use Rattle.lmn_store_heap.specs.Heap.{Heap, atoms_in, mems_in, rules_in}
use Rattle.lmn_store_heap.specs.Sound.{Forest, flat}
use Rattle.lmn_store_heap.proofs.ListLemmas.{in_left, in_right}
use Rattle.lmn_congruence.specs.Links.{one_if_same}
use Rattle.lmn_congruence.specs.Orders.{Among}
use Rattle.lmn_congruence.specs.Regions.{region}
use Rattle.lmn_congruence.specs.Rules as tree
use Rattle.lmn_congruence.specs.Translation.{context_tree, name_of, rule_tree}
use Rattle.lmn_adequacy.specs.Accepted.{NoConnectorLeaf, EachLevel, own_leaves as tree_leaves, own_contexts, own_rule_contexts, left_sides}
use Rattle.lmn_adequacy.specs.Embedding.{Contents, EmbedsAt, assignment_of}
use Rattle.lmn_adequacy.specs.Loose.{Plain, LevelImages, EachLeft}
use Rattle.lmn_adequacy.proofs.InOrder.{contents_plain, each_left_of, level_images_of}
use Rattle.lmn_solid_heads.specs.declared.items.HeadItem.{HeadItem}
use Rattle.lmn_solid_heads.specs.Heads.{HeadTyped, atoms_of, typed_contexts_of, membranes_of}
use Rattle.lmn_solid_heads.specs.Embeddings.{Embeds, HasLink, HasTyped, meaning}
use Rattle.lmn_solid_heads.proofs.HeadTrees.{Head, head, head_at, flat_items, items_flat, same_leaves}
use Rattle.lmn_congruence_splice.specs.Classes.{rising}
use Rattle.lmn_congruence_splice.specs.Splice as splice
use Rattle.lmn_base.specs.Names.{HasNames, leaf_names, level_names, context_names, condition_names}
use Rattle.lmn_compile_body.specs.Accepted.{rule_body_names}
use Rattle.lmn_base.specs.declared.level.CtxUse.{CtxUse}
use Rattle.lmn_base.specs.declared.level.Leaf.{Leaf}
use Rattle.lmn_compile_head.specs.Accepted.{AcceptedHeads, AcceptedLeast, IsReady, head_items, rule_head_code}
use Rattle.lmn_guards.proofs.AcceptedLemmas.{in_order}
use Rattle.lmn_compile_head.specs.Heads.{IsHead, EachInside, kind_in}
use Rattle.lmn_compile_body.proofs.HeadContexts.{head_contexts, heads_contexts, head_names, heads_names, untyped, of_rules}
use Rattle.lmn_instr_code.specs.Running.{IsFirstSuccess}
use Rattle.lmn_solid_bodies.specs.Fired.{images_of}
use Rattle.lmn_solid_bodies.specs.Flattening.{names_inside, context_membrane, rule_context_membrane}
use Rattle.lmn_solid_bodies.specs.Rules.{PartAtoms}
use Rattle.lmn_solid_bodies.specs.Running.{Registers}
use Rattle.lmn_solid_bodies.specs.Within.{membrane_images}
use Rattle.lmn_adequacy_heaps.specs.HeapRegions.{HeapReading, regions_at, region_at}
use Rattle.lmn_adequacy_heaps.specs.Laws.{EmbedsAlike}
use Rattle.lmn_adequacy_heaps.specs.Numbers.{numbers_left}
use Rattle.lmn_adequacy_heaps.specs.Parts.{HasPart, TakesParts}
use Rattle.lmn_adequacy_heaps.proofs.GroundGuards.{ground_parts}
use Rattle.lmn_adequacy_heaps.proofs.KindConditions.{guard_known}
use Rattle.lmn_adequacy_turns.specs.Bound.{BoundNames}
use Rattle.lmn_reduction.specs.Firing.{typed_contexts}
use Rattle.lmn_reduction.specs.Parts.{IsInteger}
use Rattle.lmn_adequacy_heaps.proofs.Weighing.{weigh_out}
use Rattle.lmn_adequacy_heaps.specs.Premises.{IsRead, HasForest, IsRule}
use Rattle.lmn_adequacy_heaps.proofs.Back.{Reads}
use Rattle.lmn_adequacy_heaps.proofs.Counting.{weigh_same}
use Rattle.lmn_adequacy_heaps.proofs.Forests.{Grown, forms_tops, forms_grown, once_of}
use Rattle.lmn_adequacy_heaps.proofs.HeadTrees.{tree_of, level_tree}
use Rattle.lmn_adequacy_heaps.proofs.Lying.{Lies, lies}
use Rattle.lmn_adequacy_heaps.proofs.PartsOut.{flattened, parts_both}
use Rattle.lmn_adequacy_heaps.proofs.Results.{is_tree, no_rules, few_all}
use Rattle.lmn_adequacy_heaps.proofs.Runs.{parts_in, in_parts}
use Rattle.lmn_adequacy_heaps.proofs.Walking.{run}
use Rattle.lmn_adequacy_turns.specs.Turning.{IsLeft, IsRegisters}
use Rattle.lmn_adequacy_turns.proofs.Adders.{at}
use Rattle.lmn_adequacy_turns.proofs.BoundIntegers.{typed_among, guard_binds}
use Rattle.lmn_adequacy_turns.proofs.Contexts.{context_there, one_context, rule_context_there}
use Rattle.lmn_adequacy_turns.proofs.Found.{found, part_at, whole_once, atoms_are, membranes_are, parts_are, membranes_read, link_is, part_is, part_ground}
use Rattle.lmn_adequacy_turns.proofs.Held.{Held, HeldLevel}
use Rattle.lmn_adequacy_turns.proofs.LeftOver.{Room, LeftThere, left_there, each_read, contexts_there, context_among, name_among}
use Rattle.lmn_adequacy_turns.proofs.PartNames.{part_named}
use Rattle.lmn_adequacy_turns.proofs.PlanTypes.{plan_types}
use Rattle.lmn_base.specs.Graphs.{Port}
use Rattle.lmn_base.proofs.Lists.{weigh, get_below, get_there as get_some, weigh_append, in_either, all_of_left, all_of_right}
use Rattle.lmn_congruence_splice.proofs.Common.{in_append, in_back}
use Rattle.lmn_base.specs.Lists.{In}

-- the images of numbers in a row
rising_run : (g : ℕ → ℕ) (a n : ℕ) → map g (rising a n) ≡ run g a n
rising_run g a zero = refl
rising_run g a (suc n) = let z : suc a ≡ a + 1 = omega arith in ap (λ xs. g a ∷ xs) (rising_run g (suc a) n ∙ ap (λ b. run g b n) z)

-- ---- what is found, at the root

module _ (h : Heap) (r : HeapReading) (read : IsRead h r) (c : Contents) (all_as all_ps all_ms taken ks : List ℕ)
    (takes_as : (b : ℕ) → In b all_as → In b taken) (takes_ps : (b : ℕ) → In b all_ps → In b taken) (takes_only : (b : ℕ) → In b taken → In b all_as ⊎ In b all_ps)
    (ms_are : (b : ℕ) → In b all_ms → In b ks) (ks_are : (b : ℕ) → In b ks → In b all_ms) (kind : ℕ → TypeKind) (at : ℕ → ℕ) where
  -- what the contexts of a head stand for
  pub record HeadThere (hd : Head) : Type 0 where
    pub contexts : (e : ℕ × ℕ) → splice.IsOneOf e (head_names untyped 0 1 hd) → (u : CtxUse) × splice.IsOneOf u (head_contexts untyped hd) × (u.name ≡ e.0)
        × IsLeft h r taken ks (at e.1) (region (c.atoms_of (context_tree r.names u)) (c.membranes_of (context_tree r.names u)) (map r.rule (rules_in h (at e.1))))
    pub rules : (e : ℕ × ℕ) → splice.IsOneOf e (head_names of_rules 0 1 hd) → c.rules_of (name_of r.names e.0) ≡ map r.rule (rules_in h (at e.1))

  pub head_there : (hd : Head) (m : ℕ) {ns xs : List ℕ} {ps : List (List ℕ)} {bs ms : List ℕ} {i i' : Forest} → EachLevel (λ l. NoConnectorLeaf (tree_leaves l)) (tree_of r.names r.rule hd) →
      own_contexts (tree_of r.names r.rule hd) ≡ [] → own_rule_contexts (tree_of r.names r.rule hd) ≡ [] →
      Lies h r c.link_of c.typed_of (Held h read.valid r c) (tree_of r.names r.rule hd) bs ps ms ns (atoms_in h m) xs i i' →
      Room h read.valid r c all_as all_ps all_ms taken ks takes_as takes_ps takes_only ms_are ks_are (λ b. 0) (λ b. 0) (atoms_in h m) i bs ps ms → Reads at 1 ms → Grown h i → HeadThere hd
  head_there (head leaves hs cs rcs rs) m {i = i} o no_c no_r (lies {bs = bs} {as' = as'} {ms = ms} {parts = parts} {ps = ps} fit dist among out inner) room reads grown =
      let deeper : Room h read.valid r c all_as all_ps all_ms taken ks takes_as takes_ps takes_only ms_are ks_are (λ b. 0 + (weigh (one_if_same b) bs + weigh (one_if_same b) (flattened parts))) (λ b. 0) [] i as' ps ms = record {
        atom_room = λ b. let u = room.atom_room b in omega (arith, u, weigh_out (one_if_same b) bs (atoms_in h m) dist among out);
        membrane_room = room.membrane_room;
        all_atoms_are = λ b. let u = room.all_atoms_are b in omega (arith, u, weigh_append (one_if_same b) bs as', parts_both (one_if_same b) parts ps);
        all_membranes_are = room.all_membranes_are;
      } in
      let below = contexts_there h read.valid r c all_as all_ps all_ms taken ks takes_as takes_ps takes_only ms_are ks_are kind at hs 1 (λ b. 0 + (weigh (one_if_same b) bs + weigh (one_if_same b) (flattened parts))) (λ b. 0) o.1 inner deeper reads grown in
      record {
        contexts = λ e w. elim (in_append e (names_inside 0 cs) (heads_names untyped 1 hs) w) [
          | inl a ↦ (let n = context_among r.names 0 cs e a in absurd (no_context_among (subst (Among (context_tree r.names n.0)) no_c n.3)))
          | inr b ↦ (let n = below.contexts e b in (n.0, in_back n.0 cs (heads_contexts untyped hs) n.1, n.2, n.3))
        ];
        rules = λ e w. elim (in_append e (names_inside 0 rcs) (heads_names of_rules 1 hs) w) [
          | inl a ↦ absurd (nothing_among (subst (Among (name_of r.names e.0)) no_r (name_among r.names 0 rcs e a).0))
          | inr b ↦ below.rules e b
        ];
      }
    where
      no_context_among : {p : tree.Context} → Among p [] → ⊥
      no_context_among k = elim k [ ]

      nothing_among : {p : tree.Name} → Among p [] → ⊥
      nothing_among k = elim k [ ]

leaf_known : (P : ℕ → Type 0) (n : ℕ) (o : Occ) (p : Pos) (ls : List Leaf) → All P (flat_map leaf_names ls) → Contains ls (leaf.Typed n o p) → All P (n ∷ [])
leaf_known P n o p [] a (k, within, e) = absurd (omega (arith, within))
leaf_known P n o p (l ∷ ls) a (zero, within, e) = let same : l ≡ leaf.Typed n o p = cc in subst (λ l. All P (leaf_names l)) same (all_of_left P (leaf_names l) (flat_map leaf_names ls) a)
leaf_known P n o p (l ∷ ls) a (suc k, within, e) = leaf_known P n o p ls (all_of_right P (leaf_names l) (flat_map leaf_names ls) a) (k, omega (arith, within), e)

-- the name of a typed context of a body is known
body_typed_known : (r : HeapReading) (rule : RuleTree) → IsRule r rule → (n : ℕ) (o : Occ) (p : Pos) → Contains (leaves_of rule.body) (leaf.Typed n o p) → HasNames r.names (n ∷ [])
body_typed_known r rule is n o p w =
    let P : ℕ → Type 0 = λ n. n < length r.names in
    let body = all_of_right P (level_names rule.head ++ flat_map condition_names rule.guard) (level_names rule.body) is.known in
    let leaves = all_of_left P (flat_map leaf_names (leaves_of rule.body)) (context_names (contexts_of rule.body))
    (all_of_left P (flat_map leaf_names (leaves_of rule.body) ++ context_names (contexts_of rule.body)) (context_names (rule_contexts_of rule.body)) body) in
    leaf_known P n o p (leaves_of rule.body) leaves w

-- ---- the embedding

module _ (head_law : AcceptedHeads) (least_law : AcceptedLeast) (alike : EmbedsAlike) (bound_law : BoundNames) (table : List RuleTree) (rule : RuleTree) (plan : GuardPlan) (ready : IsReady table rule plan)
    (h : Heap) (r : HeapReading) (read : IsRead h r) (is_rule : IsRule r rule) (m : ℕ) (mi : Forest) (forest : HasForest h m mi) (s : Registers) (first : IsFirstSuccess h (rule_head_code rule plan) m s.head) where
  abbrev kind : ℕ → TypeKind
  kind = kind_in plan.kinds

  abbrev items : List HeadItem
  items = head_items rule plan

  abbrev J : List HeadItem
  J = flat_items (kind_in plan.kinds) 0 1 (head_at rule.head)

  abbrev T : tree.Rule
  T = rule_tree r.names r.rule rule

  as_flat : items ≡ J
  as_flat = items_flat kind rule.head

  is_head : IsHead items
  is_head = head_law.head table rule plan ready

  embeds : Embeds h items rule.guard m s.head.images
  embeds = (least_law.least table rule plan h m s.head ready read.valid first).embeds

  abbrev pub numbers_at : List ℕ
  numbers_at = numbers_left h s.head.images 0 1 [] [] (head_items rule plan)

  pub ordered : EmbedsAt (rule_tree r.names r.rule rule) (numbers_left h s.head.images 0 1 [] [] (head_items rule plan)) (region_at h r m mi)
  ordered = (alike h r m mi kind rule read forest is_rule (plan_types table rule plan ready) numbers_at).0 (s.head.images, embeds, refl)

  abbrev c : Contents
  c = ordered.contents

  tree_is : tree.head_of T ≡ tree_of r.names r.rule (head_at rule.head)
  tree_is = is_tree r rule kind is_rule

  both : (i : LevelImages (assignment_of c) (tree_of r.names r.rule (head_at rule.head)) numbers_at (region_at h r m mi) ordered.rest) × EachLeft c i
  both = subst (λ l. (i : LevelImages (assignment_of c) l numbers_at (region_at h r m mi) ordered.rest) × EachLeft c i) tree_is (level_images_of ordered.lies, each_left_of ordered.lies)

  only : EachLevel (λ l. NoConnectorLeaf (tree_leaves l)) (tree_of r.names r.rule (head_at rule.head))
  only = subst (EachLevel (λ l. NoConnectorLeaf (tree_leaves l))) tree_is is_rule.accepted.no_connectors

  plain : Plain (assignment_of c)
  plain = contents_plain c ordered.closed ordered.root_is_free

  holds : (n : ℕ) (u : HeadTyped) → HasTyped J n u → (p : Port) × HasLink J u.link p
  holds = subst (λ xs. (n : ℕ) (u : HeadTyped) → HasTyped xs n u → (p : Port) × HasLink xs u.link p) as_flat is_head.held

  inside : EachInside 0 J
  inside = subst (EachInside 0) as_flat is_head.inside

  lies_at : Embeds h J rule.guard m s.head.images
  lies_at = subst (λ xs. Embeds h xs rule.guard m s.head.images) as_flat embeds

  numbers_are : numbers_left h s.head.images 0 1 [] [] J ≡ numbers_at
  numbers_are = ap (numbers_left h s.head.images 0 1 [] []) (sym as_flat)

  abbrev F : HeldLevel h read.valid r c (tree_of r.names r.rule (head_at rule.head)) numbers_at (atoms_in h m) mi (map r.rule (rules_in h m)) ordered.rest
  F = found h r read kind (head_at rule.head) m mi forest.forms forest.once c plain numbers_at ordered.rest both.0 both.1 only (no_rules r rule kind is_rule) (few_all r rule kind is_rule) holds inside rule.guard s.head.images lies_at numbers_are

  abbrev parts_of : ℕ → List ℕ
  parts_of = part_at h r read kind (head_at rule.head) m mi forest.forms forest.once c plain numbers_at ordered.rest both.0 both.1 only (no_rules r rule kind is_rule) (few_all r rule kind is_rule) holds inside rule.guard s.head.images lies_at numbers_are

  abbrev N : ℕ
  N = length (atoms_of J)

  module _ (parts : List ℕ) (are : PartAtoms h (flat_items (kind_in plan.kinds) 0 1 (head_at rule.head)) s.head.images parts) where
    abbrev taken : List ℕ
    taken = images_of s J ++ parts

    images_are : images_of s J ≡ F.atoms
    images_are = rising_run s.head.images.atom 0 N ∙ atoms_are h r read kind (head_at rule.head) m mi forest.forms forest.once c plain numbers_at ordered.rest both.0 both.1 only (no_rules r rule kind is_rule) (few_all r rule kind is_rule) holds inside rule.guard s.head.images lies_at numbers_are

    membranes_same : membrane_images s J ≡ F.membranes
    membranes_same = rising_run s.head.images.membrane 1 (length (membranes_of J)) ∙ membranes_are h r read kind (head_at rule.head) m mi forest.forms forest.once c plain numbers_at ordered.rest both.0 both.1 only (no_rules r rule kind is_rule) (few_all r rule kind is_rule) holds inside rule.guard s.head.images lies_at numbers_are

    parts_same : flattened (run parts_of 0 (length (typed_contexts_of J))) ≡ flattened F.parts
    parts_same = parts_are h r read kind (head_at rule.head) m mi forest.forms forest.once c plain numbers_at ordered.rest both.0 both.1 only (no_rules r rule kind is_rule) (few_all r rule kind is_rule) holds inside rule.guard s.head.images lies_at numbers_are

    has_part : (n : ℕ) (u : HeadTyped) → HasTyped J n u → HasPart h (s.head.images.part n) (parts_of n)
    has_part = part_is h r read kind (head_at rule.head) m mi forest.forms forest.once c plain numbers_at ordered.rest both.0 both.1 only (no_rules r rule kind is_rule) (few_all r rule kind is_rule) holds inside rule.guard s.head.images lies_at numbers_are

    takes_as : (b : ℕ) → In b F.atoms → In b (images_of s J ++ parts)
    takes_as b i = in_left b (images_of s J) parts (subst (In b) (sym images_are) i)

    takes_ps : (b : ℕ) → In b (flattened F.parts) → In b (images_of s J ++ parts)
    takes_ps b i =
        let w = parts_in parts_of 0 (length (typed_contexts_of J)) b (subst (In b) (sym parts_same) i) in
        let z : 0 + w.0 ≡ w.0 = omega arith in
        let u = get_some (typed_contexts_of J) w.0 w.1 in
        in_right b (images_of s J) parts (are.all w.0 u.0 b u.1 ((has_part w.0 u.0 u.1 b).0 (subst (λ k. In b (parts_of k)) z w.2)))

    takes_only : (b : ℕ) → In b (images_of s J ++ parts) → In b F.atoms ⊎ In b (flattened F.parts)
    takes_only b i = elim (in_either b (images_of s J) parts i) [
      | inl j ↦ inl (subst (In b) images_are j)
      | inr j ↦ (let w = are.are b j in
          let z : w.0 ≡ 0 + w.0 = omega arith in
          inr (subst (In b) parts_same (in_parts parts_of 0 (length (typed_contexts_of J)) b w.0 (get_below (typed_contexts_of J) w.0 w.1 w.2) (subst (λ k. In b (parts_of k)) z ((has_part w.0 w.1 w.2 b).1 w.3)))))
    ]

    ms_are : (b : ℕ) → In b F.membranes → In b (membrane_images s J)
    ms_are b i = subst (In b) (sym membranes_same) i

    ks_are : (b : ℕ) → In b (membrane_images s J) → In b F.membranes
    ks_are b i = subst (In b) membranes_same i

    room : Room h read.valid r c F.atoms (flattened F.parts) F.membranes taken (membrane_images s J) takes_as takes_ps takes_only ms_are ks_are (λ b. 0) (λ b. 0) (atoms_in h m) mi F.atoms F.parts F.membranes
    room = record {
      atom_room = λ b. omega (arith, whole_once h r read kind (head_at rule.head) m mi forest.forms forest.once c plain numbers_at ordered.rest both.0 both.1 only (no_rules r rule kind is_rule) (few_all r rule kind is_rule) holds inside rule.guard s.head.images lies_at numbers_are b);
      membrane_room = λ b. omega (arith, once_of b (flat mi) forest.once.1, weigh_same b (flat mi));
      all_atoms_are = λ b. omega arith;
      all_membranes_are = λ b. omega arith;
    }

    at_root : LeftThere h read.valid r c F.atoms (flattened F.parts) F.membranes taken (membrane_images s J) takes_as takes_ps takes_only ms_are ks_are m F.left_atoms F.left_forest
    at_root = left_there h read.valid r c F.atoms (flattened F.parts) F.membranes taken (membrane_images s J) takes_as takes_ps takes_only ms_are ks_are (λ b. 0) (λ b. 0) (tree_of r.names r.rule (head_at rule.head)) m F.lying room
        (forms_tops h mi (mems_in h m) forest.forms) (forms_grown h mi (mems_in h m) forest.forms)

    rest_left : IsLeft h r taken (membrane_images s J) m ordered.rest
    rest_left = record {
      forest = F.left_forest;
      forms = at_root.forms;
      is = F.is ∙ (λ j. region (each_read h read.valid r c F.atoms (flattened F.parts) F.membranes taken (membrane_images s J) takes_as takes_ps takes_only ms_are ks_are m F.left_atoms at_root.atoms j) (regions_at h r F.left_forest) (map r.rule (rules_in h m)));
    }

    in_head : HeadThere h r read c F.atoms (flattened F.parts) F.membranes taken (membrane_images s J) takes_as takes_ps takes_only ms_are ks_are kind (at s) (head_at rule.head)
    in_head = head_there h r read c F.atoms (flattened F.parts) F.membranes taken (membrane_images s J) takes_as takes_ps takes_only ms_are ks_are kind (at s) (head_at rule.head) m only
        (ap own_contexts (sym tree_is) ∙ is_rule.accepted.top_contexts) (ap own_rule_contexts (sym tree_is) ∙ is_rule.accepted.top_rule_contexts) F.lying room
        (membranes_read h r read kind (head_at rule.head) m mi forest.forms forest.once c plain numbers_at ordered.rest both.0 both.1 only (no_rules r rule kind is_rule) (few_all r rule kind is_rule) holds inside rule.guard s.head.images lies_at numbers_are)
        (forms_grown h mi (mems_in h m) forest.forms)

  -- ---- the names that the guard binds

  takes : TakesParts h r kind rule s.head.images c.typed_of
  takes n u k = (
    parts_of n,
    part_ground h r read kind (head_at rule.head) m mi forest.forms forest.once c plain numbers_at ordered.rest both.0 both.1 only (no_rules r rule kind is_rule) (few_all r rule kind is_rule) holds inside rule.guard s.head.images lies_at numbers_are n u
        (subst (λ xs. HasTyped xs n u) as_flat k),
  )

  bound_is : (n : ℕ) (o : Occ) (p : Pos) → Contains (leaves_of rule.body) (leaf.Typed n o p) → (rule_body_names rule plan).part n ≡ None → IsInteger (s.head.integer ((rule_body_names rule plan).integer n)) (c.typed_of (name_of r.names n))
  bound_is n o p w q =
      let parts = ground_parts h r read kind rule is_rule s.head.images (assignment_of c) takes in
      let none : (meaning items s.head.images).part_of n ≡ None = ap (option_map s.head.images.part) q in
      let kn = body_typed_known r rule is_rule n o p w in
      let among = subst (λ l. Among (name_of r.names n) (typed_contexts l)) (sym (level_tree r.names r.rule rule.body)) (typed_among r.names r.rule n o p (head_at rule.body) (subst (λ ls. Contains ls (leaf.Typed n o p)) (same_leaves rule.body) w)) in
      let side : Among (name_of r.names n) (left_sides (tree.guard_of T)) = elim (is_rule.accepted.known (name_of r.names n) among) [
        | inl a ↦ absurd (let g = parts.found n kn a in let y : None ≡ Some g.0 = sym none ∙ g.1 in cc)
        | inr b ↦ b
      ] in
      let u = guard_binds h read.valid r.names read.names read.known (typed_contexts (tree.head_of T)) (assignment_of c) n kn rule.guard (meaning items s.head.images) parts (λ x z e. absurd (cc)) none (guard_known r kind rule is_rule)
      ordered.guard embeds.holds (inr side) in
      subst (λ z. IsInteger z (c.typed_of (name_of r.names n))) (sym (bound_law table rule plan ready h m s.head first.succeeds n u.0 u.1)) u.2

  -- the embedding is that of the registers
  pub ordered_is : IsRegisters h r rule plan m mi s numbers_at ordered
  ordered_is parts are =
      let are' = subst (λ xs. PartAtoms h xs s.head.images parts) as_flat are in
      let back = sym as_flat in (
        record {
          links = λ x p k. sym (link_is h r read kind (head_at rule.head) m mi forest.forms forest.once c plain numbers_at ordered.rest both.0 both.1 only (no_rules r rule kind is_rule) (few_all r rule kind is_rule) holds inside rule.guard s.head.images lies_at numbers_are x p
              (subst (λ xs. HasLink xs x p) as_flat k));
          contexts = λ u w.
              let n = (in_head parts are').contexts (u.name, context_membrane rule.head u.name) (context_there r rule read.names is_rule u w) in
              subst (λ xs. IsLeft h r (images_of s xs ++ parts) (membrane_images s xs) (at s (context_membrane rule.head u.name)) (region (c.atoms_of (context_tree r.names u)) (c.membranes_of (context_tree r.names u)) (map r.rule (rules_in h (at s (context_membrane rule.head u.name)))))) back
              (subst (λ p. IsLeft h r (images_of s J ++ parts) (membrane_images s J) (at s (context_membrane rule.head u.name)) (region (c.atoms_of p) (c.membranes_of p) (map r.rule (rules_in h (at s (context_membrane rule.head u.name))))))
              (one_context table rule (in_order table rule ready.accepted) r.names n.0 u n.1 w n.2) n.3);
          rule_contexts = λ u w. (in_head parts are').rules (u.name, rule_context_membrane rule.head u.name) (rule_context_there r rule read.names is_rule u w);
          parts = λ n o p g w e. part_named h r kind rule s.head.images c.typed_of takes n g e;
          bound = bound_is;
        },
        subst (λ xs. IsLeft h r (images_of s xs ++ parts) (membrane_images s xs) m ordered.rest) back (rest_left parts are'),
      )
