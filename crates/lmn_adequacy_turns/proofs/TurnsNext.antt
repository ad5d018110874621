-- A turn on a heap is the next solid of the calculus.
use Rattle.std.proofs.Common.{ℕ, suc, Bool, true, false, cond, ◌≢◌, ◌≡◌, ◌+◌, ◌<◌, ◌≤◌, ◌⊎◌, List, [], ◌∷◌, ◌++◌, map, length, refl, sym, ap, subst, ◌∙◌, inl, inr, arith, Some}
use Rattle.std.specs.Prelude.{Contains, slice_get}
use Rattle.lmn_base.specs.declared.level.CtxUse.{CtxUse}
use Rattle.lmn_base.specs.declared.level.Leaf.{Leaf}
use Rattle.lmn_base.specs.declared.level.Leaf.TheVariants as leaf
use Rattle.lmn_base.specs.declared.rule.RuleTree.{RuleTree}
use Rattle.lmn_guards.specs.declared.plan.GuardPlan.{GuardPlan}
use Rattle.lmn_base.specs.declared.solid.SolidAtom.{SolidAtom}
use Rattle.lmn_store_heap.specs.Heap.{Heap, IsMem, atoms_in, mems_in, rules_in}
use Rattle.lmn_store_heap.specs.Lists.{Distinct, without_all}
use Rattle.lmn_store_heap.specs.Sound.{Forest, bare, mem, flat, Forms, IsTree}
use Rattle.lmn_congruence.specs.FreeLinks.{link_bound, sum_below}
use Rattle.lmn_congruence.proofs.Totals.{highest}
use Rattle.lmn_adequacy.proofs.Existence.{level_bound}
use Rattle.lmn_adequacy_heaps.specs.Parts.{IsGroundPart}
use Rattle.lmn_solid_bodies.specs.Made.{copies_of}
use Rattle.lmn_congruence.specs.LinkedRules.{level_occurrences}
use Rattle.lmn_congruence.specs.Plains.{fused_level, fused_levels, level_process}
use Rattle.lmn_congruence.specs.Process.{nothing, pair}
use Rattle.lmn_congruence.specs.Regions as solid
use Rattle.lmn_congruence.specs.Regions.{Region, Regions, no_region, region, region_and, region_process}
use Rattle.lmn_congruence.specs.Rules as tree
use Rattle.lmn_congruence.specs.Same.{renamed_atom, renamed_regions}
use Rattle.lmn_congruence.specs.Translation.{context_with, levels, name_of, rule_tree}
use Rattle.lmn_adequacy.specs.Embedding.{Taken, EmbedsAt}
use Rattle.lmn_adequacy.specs.Next.{kept_membranes}
use Rattle.lmn_adequacy.proofs.Commits.{beside_nothing, closed_as}
use Rattle.lmn_solid_heads.specs.declared.items.HeadItem.{HeadItem}
use Rattle.lmn_solid_heads.specs.Heads.{membranes_of, links_of_head, times}
use Rattle.lmn_solid_heads.proofs.HeadTrees.{Head, head_at, head_leaves, same_leaves, items_flat as head_flat}
use Rattle.lmn_congruence_splice.specs.Splice as splice
use Rattle.lmn_instr_code.specs.Running.{IsFirstSuccess}
use Rattle.lmn_compile_head.specs.Accepted.{AcceptedHeads, head_items, rule_head_code}
use Rattle.lmn_compile_head.specs.Heads.{IsHead, kind_in}
use Rattle.lmn_compile_body.specs.Accepted.{AcceptedNested, IsCompilable, rule_body_names, rule_body_items, rule_body_code}
use Rattle.lmn_compile_body.proofs.BodyTrees.{flat_body, items_flat}
use Rattle.lmn_solid_bodies.specs.declared.items.BodyItem.{BodyItem}
use Rattle.lmn_solid_bodies.specs.Added.{made_mems}
use Rattle.lmn_solid_bodies.specs.Fired.{images_of}
use Rattle.lmn_solid_bodies.specs.Flattening.{BodyNames, open_uses}
use Rattle.lmn_solid_bodies.specs.Items.{connectors, port_at}
use Rattle.lmn_solid_bodies.specs.Running.{Registers, RunsBody}
use Rattle.lmn_solid_bodies.specs.Within.{membrane_images, dropped_mems, removed_mems, rest_solid, FiresWithin, FiredSolid, HoldsRests}
use Rattle.lmn_solid_bodies.specs.CopiedSolid.{AreSolidRests}
use Rattle.lmn_solid_bodies.specs.RestCopies.{RestCopy}
use Rattle.lmn_solid_bodies.specs.Rules.{NestedRule, closed_rests}
use Rattle.lmn_solid_bodies.proofs.Contexts.{contexts_stand_there}
use Rattle.lmn_solid_bodies.proofs.Held.{Held, HoldsRest}
use Rattle.lmn_compile_body.proofs.HeadContexts.{is_in}
use Rattle.lmn_adequacy.proofs.Skeleton.{at_odd}
use Rattle.lmn_adequacy_turns.proofs.NamesKept.{left_kept}
use Rattle.lmn_adequacy_turns.proofs.CopyLinks.{code, over_copy}
use Rattle.lmn_adequacy_turns.proofs.RestMaps.{RestKnown}
use Rattle.lmn_base.specs.Levels.{contexts_of}
use Rattle.lmn_store_heap.proofs.ListLemmas.{each_in, in_right}
use Rattle.lmn_solid_bodies.proofs.Below.{is_removed}
use Rattle.lmn_solid_bodies.proofs.Committing.{in_withouts_of}
use Rattle.lmn_solid_bodies.proofs.Numbered.{contexts_of_heads}
use Rattle.lmn_adequacy_turns.specs.Accepted.{AcceptedFires, Fired}
use Rattle.lmn_adequacy_heaps.specs.HeapRegions.{HeapReading, atoms_at, regions_at, region_at}
use Rattle.lmn_adequacy_heaps.specs.Premises.{IsRead, HasForest, IsRule}
use Rattle.lmn_adequacy_heaps.proofs.HeadTrees.{level_tree}
use Rattle.lmn_adequacy_heaps.proofs.Occurrences.{times_are}
use Rattle.lmn_adequacy_heaps.proofs.Wholes.{closed_heap}
use Rattle.lmn_adequacy_turns.specs.Standing.{StandAs}
use Rattle.lmn_adequacy_turns.proofs.ReadAgain as again
use Rattle.lmn_adequacy_turns.proofs.ReadAgain.{body_fits, root_mem}
use Rattle.lmn_adequacy_turns.proofs.Leading.{taken_at}
use Rattle.lmn_adequacy_turns.specs.Turning.{HasNext, TurnIsNext, renumbered_reading, HasContents, IsLeft}
use Rattle.lmn_adequacy_turns.proofs.Standings.{stands_one}
use Rattle.lmn_adequacy_turns.proofs.Adders.{EachRest, at, rest_copy, rest_mems}
use Rattle.lmn_adequacy_turns.proofs.Bodies.{CopyAgrees, BodyAgrees}
use Rattle.lmn_adequacy_turns.proofs.Contents.{ContextFits, head_contexts, same_contexts, same_rule_contexts, body_agrees, all_fit, LeafFits}
use Rattle.lmn_adequacy_turns.proofs.CopyMaps.{CopyData, Copies, all_maps, raw_is, raw_order, raw_own_links, raw_atoms}
use Rattle.lmn_adequacy_turns.proofs.FiredMaps.{Known, copies_known, copy_of, count, data_of, rests_are_known, rests_of, map_fired, map_joins, map_of, map_rule, map_solid, part_of}
use Rattle.lmn_adequacy_turns.proofs.HeadLinks.{has_port, is_old}
use Rattle.lmn_adequacy_turns.proofs.LinksBelow.{links_limit}
use Rattle.lmn_adequacy_turns.proofs.Kept.{kept_stand}
use Rattle.lmn_adequacy_turns.proofs.Leavings.{listed_there, forest_there, left_free}
use Rattle.lmn_adequacy_turns.proofs.Paths.{RawFrom}
use Rattle.lmn_adequacy_turns.proofs.Turns.{FiredTo, Placing, LeavesRest, RestStands, rests_stand, left, left_read, untouched, fires_in_tree}
use Rattle.lmn_base.specs.Graphs.{Port}
use Rattle.lmn_congruence_splice.specs.Splice.{of_rule, of_solid}
use Rattle.lmn_base.specs.Lists.{In}
use Rattle.lmn_base.proofs.Numbers.{below_or_from}
use Rattle.lmn_base.proofs.Lists.{plus_nothing}

pub same_region : {as' bs : List solid.SolidAtom} {is js : Regions} {rs ss : List tree.Rule} → region as' is rs ≡ region bs js ss → (as' ≡ bs) × (is ≡ js)
same_region e = (cc, cc)

-- an open use of a context is among those that are open
open_use : (f : ℕ → ℕ) (us : List CtxUse) (u : CtxUse) → splice.IsOneOf u us → u.closed ≡ false → splice.IsOneOf (f u.name) (map (λ v. f v.name) (open_uses us))
open_use f [] u i e = absurd i
open_use f (v ∷ us) u i e = by v.closed refl i (λ j. open_use f us u j e)
  where
    by : (b : Bool) → v.closed ≡ b → splice.IsOneOf u (v ∷ us) → (splice.IsOneOf u us → splice.IsOneOf (f u.name) (map (λ w. f w.name) (open_uses us))) → splice.IsOneOf (f u.name) (map (λ w. f w.name) (cond b (open_uses us) (v ∷ open_uses us)))
    by true g (inl q) others = absurd (let z : true ≡ false = sym g ∙ ap (λ (w : CtxUse). w.closed) q ∙ e in cc)
    by true g (inr j) others = others j
    by false g (inl q) others = inl (ap (λ (w : CtxUse). f w.name) q)
    by false g (inr j) others = inr (others j)

module _ (firing : AcceptedFires) (head_law : AcceptedHeads) (nested : AcceptedNested) (table : List RuleTree) (rule : RuleTree) (plan : GuardPlan) (whole : IsCompilable table rule plan)
    (h : Heap) (r : HeapReading) (inner : Forest) (read : IsRead h r) (tr : IsTree h (mem h.root inner bare)) (is_rule : IsRule r rule)
    (m : ℕ) (mi : Forest) (there : IsMem h m) (forest : HasForest h m mi) (s : Registers) (first : IsFirstSuccess h (rule_head_code rule plan) m s.head) (rests : HoldsRests h s (head_items rule plan))
    (h' : Heap) (runs : RunsBody s (rule_body_code rule plan) h h') where
  abbrev items : List HeadItem
  items = head_items rule plan

  abbrev bn : BodyNames
  bn = rule_body_names rule plan

  abbrev hd : Head
  hd = head_at rule.body

  abbrev low : ℕ
  low = 1 + length (membranes_of (head_items rule plan))

  abbrev B : List BodyItem
  B = flat_body (rule_body_names rule plan) 0 (1 + length (membranes_of (head_items rule plan))) (head_at rule.body)

  abbrev c : Port → ℕ
  c p = r.name p.0 p.1

  body_is : rule_body_items rule plan ≡ B
  body_is = items_flat bn (length (membranes_of items)) rule.body

  abbrev pub fired : Fired rule plan h m s (λ p. r.name p.0 p.1) h'
  fired = again.fired firing head_law nested table rule plan whole h r read is_rule m mi there forest s first rests h' runs

  abbrev taken : List ℕ
  taken = images_of s items ++ fired.parts

  -- how the body fires, what its solid is, and its copies
  both : (f : FiresWithin h c s items B taken h') × FiredSolid h c s items B taken h' f × Copies h h' c f.number s (λ z. f.to (of_rule z)) (copies_of 0 B)
      × AreSolidRests h c h' f.number (λ k. without_all taken (atoms_in h k)) s f.rests B
  both = subst (λ b. (f : FiresWithin h c s items b taken h') × FiredSolid h c s items b taken h' f × Copies h h' c f.number s (λ z. f.to (of_rule z)) (copies_of 0 b)
      × AreSolidRests h c h' f.number (λ k. without_all taken (atoms_in h k)) s f.rests b) body_is (fired.fires, fired.solid, fired.copies, fired.rests)

  is_head : IsHead items
  is_head = head_law.head table rule plan whole.ready

  abbrev place : Placing h s (membrane_images s items) (made_mems s both.0.rests low B) taken m mi
  place = again.place firing head_law nested table rule plan whole h r read is_rule m mi there forest s first rests h' runs both.0

  abbrev removed : Placing h s (removed_mems s items) (made_mems s both.0.rests low B) taken m mi
  removed = again.place_removed firing head_law nested table rule plan whole h r read is_rule m mi there forest s first rests h' runs both.0

  abbrev nested_flat : NestedRule items B (length rule.links)
  nested_flat = again.nested_flat firing head_law nested table rule plan whole h r read is_rule m mi there forest s first rests h' runs

  -- what is asked of the rests that the rule drops
  abbrev holds : Held h read.valid items B m s fired.parts
  holds = again.holds firing head_law nested table rule plan whole h r read is_rule m mi there forest s first rests h' runs

  abbrev f : FiresWithin h c s items B taken h'
  f = both.0

  abbrev r' : HeapReading
  r' = renumbered_reading r both.0.number

  abbrev mems_at : ℕ → List ℕ
  mems_at x = without_all (membrane_images s items) (mems_in h x)

  -- the membrane of the rule is below none that is removed
  not_below : In m (flat mi) → ⊥
  not_below i = each_in (λ v. m ≢ v) (flat mi) m removed.apart.0 i refl

  -- it holds no rest that is dropped
  home_free : HoldsRest s items m → ⊥
  home_free w = not_below (removed.images_below m (holds.holds_removed m w))

  -- nor does the membrane of an open context
  open_free : (u : CtxUse) → Contains (contexts_of rule.body) u → u.closed ≡ false → HoldsRest s items (at s (bn.context u.name)) → ⊥
  open_free u w e =
      let i = contexts_stand_there bn (length (membranes_of items)) rule.body (bn.context u.name) (open_use bn.context (contexts_of rule.body) u (is_in u (contexts_of rule.body) w) e) in
      let b = (nested table rule plan whole).of_open (bn.context u.name) i in
      holds.open_holds (bn.context u.name) b.0 b.1 b.2

  -- a membrane of a rest that is copied is none of the head, nor that of the rule
  rest_out : (of : ℕ) → splice.IsOneOf of (closed_rests B) → (k : ℕ) → In k (s.left_membranes of) → In k (m ∷ membrane_images s items) → ⊥
  rest_out of i k l j =
      let d = again.copied_dropped firing head_law nested table rule plan whole h r read is_rule m mi there forest s first rests h' runs of i k l in
      elim j [
        | inl e ↦ not_below (removed.images_below m (in_right m (membrane_images s items) (dropped_mems s items) (subst (λ z. In z (dropped_mems s items)) (sym e) d)))
        | inr t ↦ holds.dms_apart k d t
      ]

  -- a membrane of a context
  register_inside : (k : ℕ) → (k ≡ 0) ⊎ ((i : ℕ) × (k ≡ suc i) × (i < length (membranes_of items))) → In (at s k) (m ∷ flat mi)
  register_inside k (inl e) = inl (sym (ap (at s) e ∙ place.at_home))
  register_inside k (inr w) = inr (subst (λ z. In (at s z) (flat mi)) (sym w.1) (place.images_below (at s (suc w.0)) (is_removed items s w.0 w.2)))

  module _ (ns : List ℕ) (e : EmbedsAt (rule_tree r.names r.rule rule) ns (region_at h r m mi)) (has : HasContents h r rule plan s taken e.contents) (rest : IsLeft h r taken (membrane_images s items) m e.rest) where
    -- ---- the map of raw links

    abbrev T : tree.Rule
    T = rule_tree r.names r.rule rule

    -- a number above the links of the head
    abbrev bound : ℕ
    bound = (level_bound (tree.head_of (rule_tree r.names r.rule rule))).0

    -- all links of the solid are below this number, and those that links of the head stand for
    abbrev limit : ℕ
    limit = (links_limit h r (flat (mem h.root inner bare)) + link_bound (region_process (region_at h r h.root inner))) + sum_below bound (λ x. suc (e.contents.link_of x))

    above : links_limit h r (flat (mem h.root inner bare)) ≤ limit
    above = omega arith

    abbrev to : ℕ → ℕ
    to = map_of h h' r s items B taken both.0 both.1 both.2 both.3 (flat (mem h.root inner bare)) tr.all limit above

    abbrev D : ℕ → CopyData
    D = data_of h h' r s items B taken both.0 both.1 both.2 both.3 (flat (mem h.root inner bare)) tr.all limit above

    abbrev copy : ℕ → List SolidAtom
    copy = copy_of h h' r s items B taken both.0 both.1 both.2 both.3 (flat (mem h.root inner bare)) tr.all limit above

    abbrev part : ℕ → ℕ → List solid.SolidAtom
    part = part_of h h' r s items B taken both.0 both.1 both.2 both.3 (flat (mem h.root inner bare)) tr.all limit above

    joined : (d : ℕ × ℕ) → splice.IsOneOf d (connectors B) → to (of_rule d.0) ≡ to (of_rule d.1)
    joined = map_joins h h' r s items B taken both.0 both.1 both.2 both.3 (flat (mem h.root inner bare)) tr.all limit above

    fired_to : FiredTo h c s both.0.rests items B taken h' (λ a i. both.0.number (a, i)) to copy
    fired_to = map_fired h h' r s items B taken both.0 both.1 both.2 both.3 (flat (mem h.root inner bare)) tr.all limit above

    abbrev left_at : ℕ → List SolidAtom
    left_at = left h h' r s items bn hd low taken both.0 to limit copy part joined fired_to refl m mi place removed nested_flat.placed

    -- ---- what the contents stand for

    -- what is left of a membrane that holds no dropped rest stands after the firing
    left_stands : (x : ℕ) → In x (m ∷ flat mi) → (HoldsRest s items x → ⊥) → (t : Forest) → Forms h t (mems_at x) → StandAs h' r' (mems_at x) (fused_levels to (levels (kept_membranes (regions_at h r t))))
    left_stands x i o t F =
        let free = left_free h read.valid s (removed_mems s items) (made_mems s both.0.rests low B) taken m mi removed x i t (mems_at x) F
        (λ z j. ((in_withouts_of (membrane_images s items) (mems_in h x) z (read.valid.sound.listed.mems_once x) j).0, left_kept h h' read.valid fired.valid c s items B m fired.parts holds both.0 x z o j)) in
        kept_stand h h' r (λ a i. both.0.number (a, i)) to t (mems_at x) F (λ y j. let w = free y j in untouched h h' r s items bn hd low taken both.0 to limit copy part joined fired_to refl m mi place removed nested_flat.placed y w.0 w.1)

    abbrev Stands : ℕ → ℕ → ℕ → Type 0
    Stands = Known h h' r s items B taken both.0 both.1 both.2 both.3 (flat (mem h.root inner bare)) tr.all limit above

    -- ---- copies of rests

    abbrev E : ℕ → ℕ → ℕ
    E = rests_of h h' r s items B taken both.0 both.1 both.2 both.3 (flat (mem h.root inner bare)) tr.all limit above

    -- a number above those of all copies
    abbrev copies : ℕ
    copies = count h h' r s items B taken both.0 both.1 both.2 both.3 (flat (mem h.root inner bare)) tr.all limit above

    known_rests : EachRest (RestKnown h h' (λ p. r.name p.0 p.1) both.0.number (λ k. without_all taken (atoms_in h k)) s both.0.rests E copies) 0 B
    known_rests = rests_are_known h h' r s items B taken both.0 both.1 both.2 both.3 (flat (mem h.root inner bare)) tr.all limit above

    goes : (t y : ℕ) → of_solid t < copies → to (of_solid (limit + code (of_solid t) y)) ≡ E t y
    goes t y l = over_copy both.0.to limit copies (all_maps D E) (of_solid t) y l ∙ at_odd (λ k. (D k).to y) (λ d. E d y) t

    abbrev RestsStand : ℕ → ℕ → ℕ → Type 0
    RestsStand = RestStands h h' r s items bn hd low taken both.0 to limit copy part joined fired_to refl m mi place removed nested_flat.placed E copies known_rests goes (λ of i. (holds.whole of i).outside) holds.lms_once rest_out (λ of i. (holds.whole of i).into_mems)

    -- what a copy of a rest adds to the atoms of the solid
    abbrev rest_adds : ℕ → ℕ → RestCopy → ℕ → List SolidAtom
    rest_adds = rest_solid h' both.0.number s (λ k. without_all taken (atoms_in h k))

    -- an open context stands for what is left of its membrane, and a copy of what a closed one stands for is what the body adds
    context_fits : (u : CtxUse) → Contains (head_contexts hd) u → ContextFits h h' r r' s bn e.contents left_at mems_at to limit copy part both.0.rests rest_adds Stands RestsStand u
    context_fits u w =
        let x = at s (bn.context u.name) in
        let there = subst (λ us. Contains us u) (sym (same_contexts rule.body)) w in
        let L = has.contexts u there in
        let same = same_region L.is in
        record {
          as_open = λ o.
              let is_open = ap (λ closed. context_with closed (name_of r.names u.name)) (sym o) in
              record {
                atoms = ap (map (renamed_atom (λ z. to (of_solid z)))) (ap e.contents.atoms_of is_open ∙ same.0) ∙ sym (left_read h h' r s items bn hd low taken both.0 to limit copy part joined fired_to refl m mi place removed nested_flat.placed x);
                membranes = subst (λ R. StandAs h' r' (mems_at x) (fused_levels to (levels (kept_membranes R)))) (sym (ap e.contents.membranes_of is_open ∙ same.1))
                    (left_stands x (register_inside (bn.context u.name) (contexts_of_heads (kind_in plan.kinds) rule.head u.name).0) (open_free u there o) L.forest L.forms);
              };
          as_closed = λ o t inside k.
              let is_closed = ap (λ closed. context_with closed (name_of r.names u.name)) (sym o) in
              record {
                atoms = ap (λ xs. map (renamed_atom (λ z. to (of_solid z))) (map (renamed_atom (λ y. limit + code (of_solid t) y)) xs)) (ap e.contents.atoms_of is_closed ∙ same.0) ∙ k.atoms;
                membranes = subst (λ R. StandAs h' r' (rest_mems s mems_at (bn.context u.name) inside (rest_copy both.0.rests t) (at s inside)) (fused_levels to (levels (kept_membranes (renamed_regions (λ y. limit + code (of_solid t) y) R)))))
                    (sym (ap e.contents.membranes_of is_closed ∙ same.1)) (k.membranes L.forest L.forms);
                rules = k.rules;
              };
        }

    -- the raw atoms of a copy are a copy of what its name stands for
    copy_agrees : (n g k x : ℕ) (m' : ℕ) (atoms : List ℕ) → IsGroundPart h r m' (s.head.images.part g) atoms (e.contents.typed_of (name_of r.names n)) → Stands k g x →
        CopyAgrees h h' r r' s bn e.contents left_at mems_at to limit copy part both.0.rests rest_adds k n x
    copy_agrees n g k x m' atoms ground known = record {
      is = raw_is h h' r read both.0.number s both.0.to limit copies D E k g x known m' atoms (e.contents.typed_of (name_of r.names n)) ground;
      order = raw_order h h' r read both.0.number s both.0.to limit copies D E k g x known m' atoms (e.contents.typed_of (name_of r.names n)) ground;
      own = raw_own_links h h' r read both.0.number s both.0.to limit copies D E k g x known;
      atoms = raw_atoms h h' r read both.0.number s both.0.to limit copies D E k g x known;
    }

    leaf_fits : (l : Leaf) → Contains (head_leaves hd) l → LeafFits h h' r r' s bn e.contents left_at mems_at to limit copy part both.0.rests rest_adds Stands RestsStand l
    leaf_fits (leaf.Atom fu os p) w = body_fits r rule is_rule (leaf.Atom fu os p) w
    leaf_fits (leaf.Typed n o p) w =
        let there = subst (λ ls. Contains ls (leaf.Typed n o p)) (sym (same_leaves rule.body)) w in (
          λ none. has.bound n o p there none,
          λ k g x i known. let u = has.parts n o p g there i in copy_agrees n g k x u.0 u.1 u.2 known,
        )

    agrees : BodyAgrees h h' r r' s bn e.contents left_at mems_at to limit copy part both.0.rests rest_adds 0 low 0 0 hd
    agrees = body_agrees h h' r r' s bn e.contents left_at mems_at to limit copy part both.0.rests rest_adds Stands RestsStand 0 low 0 0 hd leaf_fits context_fits
        (λ u w. has.rule_contexts u (subst (λ us. Contains us u) (sym (same_rule_contexts rule.body)) w))
        (copies_known h h' r s items B taken both.0 both.1 both.2 both.3 (flat (mem h.root inner bare)) tr.all limit above)
        (rests_stand h h' r s items bn hd low taken both.0 to limit copy part joined fired_to refl m mi place removed nested_flat.placed E copies known_rests goes (λ of i. (holds.whole of i).outside) holds.lms_once rest_out (λ of i. (holds.whole of i).into_mems))

    leaves_rest : LeavesRest h h' r s items bn hd low taken both.0 to limit copy part joined fired_to refl m mi place removed nested_flat.placed e.rest
    leaves_rest = record {
      atoms = atoms_at h r (without_all taken (atoms_in h m));
      membranes = regions_at h r rest.forest;
      rules = map r.rule (rules_in h m);
      is = rest.is;
      atoms_are = sym (left_read h h' r s items bn hd low taken both.0 to limit copy part joined fired_to refl m mi place removed nested_flat.placed m);
      membranes_are = left_stands m (inl refl) home_free rest.forest rest.forms;
      rules_are = refl;
    }

    -- a link that stands once in the head is below the bound
    head_below : (x : ℕ) → level_occurrences x (tree.head_of T) ≡ 1 → x < bound
    head_below x one = elim (below_or_from x bound) [
      | inl l ↦ l
      | inr l ↦ absurd (let z = (level_bound (tree.head_of T)).1 x l in omega (arith, z, one))
    ]

    -- and has one image with the link of the solid at its port
    wires : (x : ℕ) → level_occurrences x (tree.head_of (rule_tree r.names r.rule rule)) ≡ 1 → to (of_rule x) ≡ to (of_solid (e.contents.link_of x))
    wires x one =
        let kind = kind_in plan.kinds in
        let once : times x (links_of_head items) ≡ 1 = ap (λ is. times x (links_of_head is)) (head_flat kind rule.head) ∙ times_are r.names r.rule kind x 0 1 (head_at rule.head) ∙ ap (level_occurrences x) (sym (level_tree r.names r.rule rule.head)) ∙ one in
        let p = has_port items is_head x once in
        let low_link = highest bound e.contents.link_of x (head_below x one) in
        map_rule h h' r s items B taken both.0 both.1 both.2 both.3 (flat (mem h.root inner bare)) tr.all limit above x
        ∙ f.heads_fused (port_at p.0.0 p.0.1, x) (is_old items x p.0 once p.1) ∙ ap (λ z. f.to (of_solid z)) (sym (has.links x p.0 p.1))
        ∙ sym (map_solid h h' r s items B taken both.0 both.1 both.2 both.3 (flat (mem h.root inner bare)) tr.all limit above (e.contents.link_of x) (omega (arith, low_link)))

    module _ (index k : ℕ) (stands : slice_get (rules_in h m) index ≡ Some k) (rule_is : r.rule k ≡ rule_tree r.names r.rule rule) where
      in_tree : In m (h.root ∷ flat inner)
      in_tree = subst (In m) (ap (λ z. h.root ∷ z) (plus_nothing (flat inner))) (tr.all m there)

      raw : RawFrom h h' r (λ a i. both.0.number (a, i)) to index ns m h.root inner nothing
      raw =
          let w = taken_at r.rule (rules_in h m) index k stands in
          fires_in_tree h h' r s items bn hd low taken both.0 to limit copy part joined fired_to refl m mi place removed nested_flat.placed (rule_tree r.names r.rule rule) is_rule.accepted ns index w.0 (subst (λ z. Taken index z (map r.rule (rules_in h m)) w.0) rule_is w.1)
          (level_tree r.names r.rule rule.body) e leaves_rest agrees (all_fit h h' r r' s bn e.contents left_at mems_at to limit copy part both.0.rests rest_adds 0 low 0 0 hd agrees) wires
          inner tr.forms.2 (subst (λ z. Distinct (h.root ∷ z)) (plus_nothing (flat inner)) tr.once) in_tree
          (λ y j. elim j [ inl q ↦ subst (IsMem h) q (root_mem h read.valid) | inr q ↦ forest_there h read.valid inner (mems_in h h.root) tr.forms.2 (λ z u. listed_there h read.valid z h.root u) y q ])
          nothing (beside_nothing (region_process (region_at h r h.root inner)) (closed_heap h r inner read tr)) (omega arith)

      read_again : IsRead h' (renumbered_reading r both.0.number)
      read_again = again.read_again firing head_law nested table rule plan whole h r read is_rule m mi there forest s first rests h' runs both.0

      tree_again : (t : Forest) × IsTree h' (mem h'.root t bare)
      tree_again = again.tree_again firing head_law nested table rule plan whole h r read is_rule m mi there forest s first rests h' runs both.0

      same_root : h'.root ≡ h.root
      same_root = again.same_root firing head_law nested table rule plan whole h r read is_rule m mi there forest s first rests h' runs both.0

      first_region : {S S' : Region} → region_and S no_region ≡ region_and S' no_region → S ≡ S'
      first_region e = cc

      pub turned : HasNext h r inner rule m index ns h'
      turned =
          let is = first_region (stands_one h' (renumbered_reading r both.0.number) (mem h'.root tree_again.0 bare) (h'.root ∷ []) tree_again.1.forms
          (subst (λ z. StandAs h' (renumbered_reading r both.0.number) (z ∷ []) (region_and (fused_level to raw.raw) no_region)) (sym same_root) raw.stands)) in
          record {
            again = record {
              number = both.0.number;
              read = read_again;
              forest = tree_again.0;
              tree = tree_again.1;
              rules = again.rules_again firing head_law nested table rule plan whole h r read is_rule m mi there forest s first rests h' runs both.0;
            };
            path = raw.path;
            leads = raw.leads;
            next = record {
              raw = raw.raw;
              fires = raw.fires;
              fuses = record {
                closed_top = closed_as (pair (level_process raw.raw) nothing) (level_process raw.raw) (λ z. omega arith) raw.closed;
                to = to;
                joins = raw.joins;
                is = sym is;
                closed = closed_heap h' (renumbered_reading r both.0.number) tree_again.0 read_again tree_again.1;
              };
            };
          }

-- a turn on a heap is the next solid
pub turn_is_next : AcceptedFires → AcceptedHeads → AcceptedNested → TurnIsNext
turn_is_next firing head_law nested table rule plan whole h r inner read tr is_rule m mi there forest index k stands rule_is s first rests ns e regs h' runs =
    let fires = fired firing head_law nested table rule plan whole h r inner read tr is_rule m mi there forest s first rests h' runs in
    let both_are = regs fires.parts fires.are in
    turned firing head_law nested table rule plan whole h r inner read tr is_rule m mi there forest s first rests h' runs ns e both_are.0 both_are.1 index k stands rule_is
