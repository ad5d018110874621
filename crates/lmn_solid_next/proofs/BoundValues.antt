-- A name of a body that stands for no part of the head has the integer to which the guard binds it.
use Rattle.std.proofs.Common.{ℕ, ◌≡◌, ◌<◌, ◌⊎◌, List, [], ◌∷◌, ◌++◌, map, length, Option, Some, None, All, refl, sym, ap, subst, ◌∙◌, inl, inr, arith}
use Rattle.std.specs.Prelude.{ℤ, Contains, IsSome}
use Rattle.std.specs.List.{flat_map}
use Rattle.std.specs.Option.{option_map}
use Rattle.std.proofs.lemmas.Bool.{cases_eq, eq-eqb}
use Rattle.std.proofs.lemmas.List.Elements.{All-contains}
use Rattle.lmn_base.specs.declared.guard.Cond.{Cond}
use Rattle.lmn_base.specs.declared.guard.Cond.TheVariants.{Kind, Compare, Equal, Differ}
use Rattle.lmn_base.specs.declared.level.CtxUse.{CtxUse}
use Rattle.lmn_base.specs.declared.level.Leaf.TheVariants.{Typed}
use Rattle.lmn_base.specs.declared.level.Occ.{Occ}
use Rattle.lmn_base.specs.declared.refusal.Pos.{Pos}
use Rattle.lmn_base.specs.declared.rule.RuleTree.{RuleTree}
use Rattle.lmn_base.specs.Graphs.{Port}
use Rattle.lmn_base.specs.Levels.{contexts_of, leaves_of, rule_contexts_of}
use Rattle.lmn_base.specs.Names.{HasNames, condition_names, context_names, expression_names, leaf_names, level_names}
use Rattle.lmn_base.proofs.Lists.{all_of_left, all_of_parts, all_of_right, none_is_not}
use Rattle.lmn_base.proofs.Numbers.{not_equal as apart_test}
use Rattle.lmn_guards.specs.Values.{value}
use Rattle.lmn_guards.specs.declared.plan.TypeKind.{TypeKind}
use Rattle.lmn_store_heap.specs.Heap.{Heap}
use Rattle.lmn_solid_heads.specs.Embeddings.{Images, meaning}
use Rattle.lmn_solid_heads.specs.Flattening.{items_of_head}
use Rattle.lmn_solid_heads.specs.Guards.{EqualHolds, HoldsOnHeap, Meaning, bind, context_alone, integer_named, integer_or, part_alone, typed_number}
use Rattle.lmn_solid_heads.specs.Heads.{HeadTyped, typed_contexts_of}
use Rattle.lmn_solid_heads.proofs.HeadTrees.{head_at, same_leaves}
use Rattle.lmn_congruence.specs.Orders.{Among}
use Rattle.lmn_congruence.specs.Rules as tree
use Rattle.lmn_congruence.specs.Translation.{condition_of, name_of, rule_tree}
use Rattle.lmn_reduction.specs.Firing.{typed_contexts}
use Rattle.lmn_adequacy.specs.Accepted.{left_sides}
use Rattle.lmn_adequacy_turns.specs.Bound.{bound_all, bound_by}
use Rattle.lmn_adequacy_heaps.specs.HeapRegions.{HeapReading}
use Rattle.lmn_adequacy_heaps.specs.Premises.{IsRead, IsRule}
use Rattle.lmn_adequacy_heaps.proofs.HeadTrees.{level_tree}
use Rattle.lmn_adequacy_heaps.proofs.KindConditions.{guard_known, heads_are, same_number, typed_known}
use Rattle.lmn_adequacy_heaps.proofs.TypeConditions.{among_named, has_number}
use Rattle.lmn_adequacy_heaps.proofs.WholeGuards.{KnownIn}
use Rattle.lmn_adequacy_turns.proofs.BoundIntegers.{typed_among, among_either, no_side}
use Rattle.lmn_solid_search.specs.Binding.{after_all, bound_unless}

not_both : (o : Option ℕ) → o ≡ None → (k : ℕ) × (o ≡ Some k) → ⊥
not_both o e k = none_is_not o e (subst IsSome (sym k.1) refl)

module _ (h : Heap) (r : HeapReading) (read : IsRead h r) (x : ℕ) (kx : HasNames r.names (x ∷ [])) where
  -- the name is bound, or will be
  abbrev WillBe : Meaning → List Cond → Type 0
  WillBe s cs = ((z : ℤ) × (s.bound_to x ≡ Some z)) ⊎ Among (name_of r.names x) (left_sides (map (condition_of r.names) cs))

  abbrev IsBound : Meaning → Type 0
  IsBound s = (z : ℤ) × (s.bound_to x ≡ Some z)

  equal_binds : (s : Meaning) (l : CtxUse) (cs : List Cond) → s.part_of x ≡ None → HasNames r.names (l.name ∷ []) →
      ((s' : Meaning) → s'.part_of x ≡ None → HoldsOnHeap h s' cs → WillBe s' cs → IsBound (bound_all h s' cs)) →
      ((z : ℤ) × (s.bound_to x ≡ Some z)) ⊎ Among (name_of r.names x) (name_of r.names l.name ∷ left_sides (map (condition_of r.names) cs)) →
      (o1 o2 : Option Port) (z : Option ℤ) → s.part_of l.name ≡ o1 → EqualHolds h s o1 o2 l.name z (λ s'. HoldsOnHeap h s' cs) → IsBound (bound_all h (bound_by o1 s l.name z) cs)
  equal_binds s l cs none kl next will (Some p) None z e w = absurd w
  equal_binds s l cs none kl next will None o2 None e w = absurd w
  equal_binds s l cs none kl next will (Some p) (Some q) z e w = next s none w.1 (elim will [
    | inl k ↦ inl k
    | inr k ↦ elim (among_either k) [
      | inl same ↦ absurd (let d = same_number r.names x l.name read.names kx kl same in let y : None ≡ Some p = sym none ∙ ap s.part_of d ∙ e in cc)
      | inr j ↦ inr j
    ]
  ])
  equal_binds s l cs none kl next will None o2 (Some z) e w = next (bind s l.name z) none w (elim (cases_eq x l.name) [
    | inl d ↦ inl (z, rw (eq-eqb x l.name d) refl)
    | inr d ↦ elim will [
      | inl k ↦ inl (k.0, rw (apart_test x l.name d) k.1)
      | inr k ↦ elim (among_either k) [
        | inl same ↦ absurd (d (same_number r.names x l.name read.names kx kl same))
        | inr j ↦ inr j
      ]
    ]
  ])

  -- where a guard holds it binds each of its left sides that stands for no part
  pub side_is_bound : (cs : List Cond) (s : Meaning) → s.part_of x ≡ None → All (KnownIn r.names) cs → HoldsOnHeap h s cs → WillBe s cs → IsBound (bound_all h s cs)
  side_is_bound [] s none k w will = elim will [ inl y ↦ y | inr j ↦ elim j [ ] ]
  side_is_bound (Kind n args q ∷ cs) s none k w will = side_is_bound cs s none (all_of_right (KnownIn r.names) (Kind n args q ∷ []) cs k) w.1
      (elim will [ inl y ↦ inl y | inr j ↦ inr (subst (Among (name_of r.names x)) (no_side r.names n args (map (condition_of r.names) cs)) j) ])
  side_is_bound (Compare op l e q ∷ cs) s none k w will = side_is_bound cs s none (all_of_right (KnownIn r.names) (Compare op l e q ∷ []) cs k) w.1 will
  side_is_bound (Equal l e q ∷ cs) s none k w will =
      let kl = all_of_left (λ i. i < length r.names) (l.name ∷ []) (expression_names e) (k 0 (Equal l e q) (omega arith)) in
      let k' = all_of_right (KnownIn r.names) (Equal l e q ∷ []) cs k in
      equal_binds s l cs none kl (λ s' none' w' will'. side_is_bound cs s' none' k' w' will') will (s.part_of l.name) (part_alone s (context_alone e)) (value (integer_named h s) e) refl w
  side_is_bound (Differ l e q ∷ cs) s none k w will = side_is_bound cs s none (all_of_right (KnownIn r.names) (Differ l e q ∷ []) cs k) w.1 will

module _ (h : Heap) (r : HeapReading) (read : IsRead h r) (kind : ℕ → TypeKind) (rule : RuleTree) (is_rule : IsRule r rule) (f : Images) where
  abbrev contexts : List HeadTyped
  contexts = typed_contexts_of (items_of_head kind rule.head)

  -- the name of a typed context of the body is known
  known : (n : ℕ) (o : Occ) (p : Pos) → Contains (leaves_of rule.body) (Typed n o p) → HasNames r.names (n ∷ [])
  known n o p w =
      let P : ℕ → Type 0 = λ n. n < length r.names in
      let leaves = leaves_of rule.body in
      let body = all_of_right P (level_names rule.head ++ flat_map condition_names rule.guard) (level_names rule.body) is_rule.known in
      let of_leaves = all_of_left P (flat_map leaf_names leaves) (context_names (contexts_of rule.body)) (all_of_left P (flat_map leaf_names leaves ++ context_names (contexts_of rule.body)) (context_names (rule_contexts_of rule.body)) body) in
      All-contains (λ l. All P (leaf_names l)) leaves (Typed n o p) (all_of_parts P leaf_names leaves of_leaves) w

  -- a name of the body that stands for no part is bound
  pub body_name_is_bound : (n : ℕ) (o : Occ) (p : Pos) → Contains (leaves_of rule.body) (Typed n o p) → typed_number contexts 0 n ≡ None → HoldsOnHeap h (meaning (items_of_head kind rule.head) f) rule.guard →
      (z : ℤ) × ((bound_all h (meaning (items_of_head kind rule.head) f) rule.guard).bound_to n ≡ Some z)
  body_name_is_bound n o p w none holds =
      let kn = known n o p w in
      let among = subst (λ l. Among (name_of r.names n) (typed_contexts l)) (sym (level_tree r.names r.rule rule.body))
      (typed_among r.names r.rule n o p (head_at rule.body) (subst (λ ls. Contains ls (Typed n o p)) (same_leaves rule.body) w)) in
      let side : Among (name_of r.names n) (left_sides (tree.guard_of (rule_tree r.names r.rule rule))) = elim (is_rule.accepted.known (name_of r.names n) among) [
        | inl a ↦ absurd (
            let u = among_named r.names contexts (name_of r.names n) (subst (Among (name_of r.names n)) (sym (heads_are r kind rule is_rule)) a) in
            let same = same_number r.names u.1.name n read.names (typed_known r kind rule is_rule u.0 u.1 u.2) kn u.3 in
            not_both (typed_number contexts 0 n) none (has_number contexts 0 n u.0 u.1 u.2 same))
        | inr b ↦ b
      ] in
      side_is_bound h r read n kn rule.guard (meaning (items_of_head kind rule.head) f) (ap (option_map f.part) none) (guard_known r kind rule is_rule) holds (inr side)

-- ---- the two words for what a guard binds

after_equal : (s : Meaning) (o : Option Port) (x : ℕ) (z : Option ℤ) → bound_unless s o x z ≡ bound_by o s x z
after_equal s (Some p) x z = refl
after_equal s None x None = refl
after_equal s None x (Some z) = refl

after_is_bound : (h : Heap) (cs : List Cond) (s : Meaning) → after_all h s cs ≡ bound_all h s cs
after_is_bound h [] s = refl
after_is_bound h (Kind n args q ∷ cs) s = after_is_bound h cs s
after_is_bound h (Compare op l e q ∷ cs) s = after_is_bound h cs s
after_is_bound h (Equal l e q ∷ cs) s =
    ap (λ k. after_all h k cs) (after_equal s (s.part_of l.name) l.name (value (integer_named h s) e)) ∙ after_is_bound h cs (bound_by (s.part_of l.name) s l.name (value (integer_named h s) e))
after_is_bound h (Differ l e q ∷ cs) s = after_is_bound h cs s

-- binding names leaves the parts
parts_stay_by : (s : Meaning) (o : Option Port) (x : ℕ) (z : Option ℤ) (y : ℕ) → (bound_by o s x z).part_of y ≡ s.part_of y
parts_stay_by s (Some p) x z y = refl
parts_stay_by s None x None y = refl
parts_stay_by s None x (Some z) y = refl

parts_stay : (h : Heap) (cs : List Cond) (s : Meaning) (y : ℕ) → (bound_all h s cs).part_of y ≡ s.part_of y
parts_stay h [] s y = refl
parts_stay h (Kind n args q ∷ cs) s y = parts_stay h cs s y
parts_stay h (Compare op l e q ∷ cs) s y = parts_stay h cs s y
parts_stay h (Equal l e q ∷ cs) s y = parts_stay h cs (bound_by (s.part_of l.name) s l.name (value (integer_named h s) e)) y ∙ parts_stay_by s (s.part_of l.name) l.name (value (integer_named h s) e) y
parts_stay h (Differ l e q ∷ cs) s y = parts_stay h cs s y

-- a name that stands for no part, and is bound to an integer, has it
pub integer_bound : (h : Heap) (cs : List Cond) (s : Meaning) (x : ℕ) (z : ℤ) → s.part_of x ≡ None → (bound_all h s cs).bound_to x ≡ Some z → integer_named h (after_all h s cs) x ≡ Some z
integer_bound h cs s x z none e = ap (λ k. integer_named h k x) (after_is_bound h cs s) ∙ ap (λ o. integer_or h o ((bound_all h s cs).bound_to x)) (parts_stay h cs s x ∙ none) ∙ e
