-- Conditions on types, and what the names of typed contexts stand for.
use Rattle.std.specs.Prelude.{◌↔◌}
use Rattle.std.proofs.Common.{ℕ, zero, suc, ◌≡◌, ◌+◌, ◌<◌, ◌⊎◌, ◌==◌, Bool, true, false, cond, List, [], ◌∷◌, ◌++◌, map, length, Option, Some, None, All, refl, sym, ap, subst, ◌∙◌, arith}
use Rattle.std.specs.Prelude.{ℤ, slice_get}
use Rattle.std.specs.List.{flat_map}
use Rattle.lmn_base.specs.declared.guard.Cmp.{Cmp}
use Rattle.lmn_base.specs.declared.functor.TheConstants.{INT_NAME, UNARY_NAME, GROUND_NAME}
use Rattle.lmn_base.specs.declared.functor.Label.TheVariants.{Name as ByName}
use Rattle.lmn_base.specs.declared.guard.Cond.{Cond}
use Rattle.lmn_base.specs.declared.guard.Cond.TheVariants.{Kind}
use Rattle.lmn_base.specs.declared.level.CtxUse.{CtxUse}
use Rattle.lmn_base.specs.declared.rule.RuleTree.{RuleTree}
use Rattle.lmn_base.specs.Levels.{leaves_of as level_leaves, contexts_of, rule_contexts_of}
use Rattle.lmn_base.specs.Names.{IsNames, HasNames, leaf_names, context_names, condition_names, level_names}
use Rattle.lmn_guards.specs.declared.plan.TypeKind.{TypeKind}
use Rattle.lmn_guards.specs.declared.plan.TypeKind.TheVariants.{Int, Unary, Ground}
use Rattle.lmn_store_heap.specs.Heap.{Heap}
use Rattle.lmn_solid_heads.specs.Embeddings.{Images, Embeds, meaning}
use Rattle.lmn_solid_heads.specs.Flattening.{items_of_head}
use Rattle.lmn_solid_heads.specs.Guards.{HoldsOnHeap, Meaning, TypeHolds, KindHolds, with_part, integer_at, IsUnaryPart as UnaryOnHeap}
use Rattle.lmn_solid_heads.specs.declared.items.HeadItem.{HeadItem}
use Rattle.lmn_solid_heads.specs.Heads.{HeadTyped, typed_contexts_of}
use Rattle.lmn_congruence.specs.Orders.{Among}
use Rattle.lmn_congruence.specs.Process.{atom, Free}
use Rattle.lmn_congruence.specs.Rules as tree
use Rattle.lmn_congruence.specs.Translation.{name_of, rule_tree, condition_of}
use Rattle.lmn_reduction.specs.Assignments.{Assignment}
use Rattle.lmn_reduction.specs.Firing.{typed_contexts}
use Rattle.lmn_guards.specs.Values.{Ordered as StandInTree}
use Rattle.lmn_reduction.specs.Guards.{GuardHolds, Holds, of_kind, in_order, condition_and, IsOfKind as IsOfTreeKind}
use Rattle.lmn_reduction.specs.Parts.{Rooted, IsInteger, IsUnary, IsGround}
use Rattle.lmn_reduction.specs.Values.{Value}
use Rattle.lmn_congruence.proofs.TranslatedNames.{labels_apart}
use Rattle.lmn_adequacy.specs.Accepted.{EachLevel, NoConnectorLeaf, own_leaves, InTurn, kind_in_turn, comparison_in_turn, UsedIn}
use Rattle.lmn_adequacy_heaps.specs.HeapRegions.{HeapReading}
use Rattle.lmn_adequacy_heaps.specs.Premises.{IsRule}
use Rattle.lmn_solid_heads.proofs.HeadTrees.{head_at, items_flat}
use Rattle.lmn_adequacy_heaps.proofs.HeadTrees.{tree_of}
use Rattle.lmn_adequacy_heaps.proofs.HeadFacts.{typed_holds}
use Rattle.lmn_adequacy_heaps.proofs.Contexts.{look, same_name}
use Rattle.lmn_adequacy_heaps.proofs.TypeConditions.{level_named, named_parts}
use Rattle.lmn_adequacy_heaps.proofs.Results.{is_tree}
use Rattle.lmn_base.specs.Graphs.{Port}
use Rattle.lmn_base.proofs.Lists.{all_of_left, all_of_right, all_of_parts}

-- ---- conditions on types

-- what a name of a typed context stands for, on the heap and in the calculus
pub record StandsFor (h : Heap) (names : List tree.Name) (t : Assignment) (x : ℕ) (p : Port) : Type 0 where
  pub integer : (z : ℤ) → (integer_at h p ≡ Some z) ↔ IsInteger z (t.typed_of (name_of names x))
  pub unary : UnaryOnHeap h p ↔ IsUnary (t.typed_of (name_of names x))
  pub ground : IsGround (t.typed_of (name_of names x))

module _ (h : Heap) (names : List tree.Name) (heads : List tree.Name) (t : Assignment) (s : Meaning) where
  kind_holds : (b1 b2 b3 : Bool) (n : ℕ) (ps : List tree.Name) (x : ℕ) (p : Port) → StandsFor h names t x p →
      KindHolds h (cond b1 (Some Int) (cond b2 (Some Unary) (cond b3 (Some Ground) None))) p →
      Holds heads t (cond b1 (tree.is_kind tree.int (name_of names x)) (cond b2 (tree.is_kind tree.unary (name_of names x)) (cond b3 (tree.is_kind tree.grounded (name_of names x)) (tree.unknown (name_of names n) ps))))
  kind_holds true b2 b3 n ps x p w k = of_kind (k.0, (w.integer k.0).0 k.1)
  kind_holds false true b3 n ps x p w k = of_kind (w.unary.0 k)
  kind_holds false false true n ps x p w k = of_kind w.ground
  kind_holds false false false n ps x p w k = absurd k

  -- a type condition that holds on the heap holds in the calculus
  pub type_into : (n : ℕ) (args : List CtxUse) (q : _) → ((x : ℕ) (p : Port) → s.part_of x ≡ Some p → StandsFor h names t x p) → TypeHolds h s n args → Holds heads t (condition_of names (Kind n args q))
  type_into n [] q g w = absurd w
  type_into n (u ∷ []) q g w = by (s.part_of u.name) refl w
    where
      by : (o : Option Port) → s.part_of u.name ≡ o → with_part o (KindHolds h (cond (n == INT_NAME) (Some Int) (cond (n == UNARY_NAME) (Some Unary) (cond (n == GROUND_NAME) (Some Ground) None)))) → Holds heads t (condition_of names (Kind n (u ∷ []) q))
      by None e w = absurd w
      by (Some p) e w = kind_holds (n == INT_NAME) (n == UNARY_NAME) (n == GROUND_NAME) n (name_of names u.name ∷ []) u.name p (g u.name p e) w
  type_into n (u ∷ (v ∷ us)) q g w = absurd w

  -- ---- and back

  -- a context of the head has a part
  abbrev pub Found : ℕ → Type 0
  Found x = Among (name_of names x) heads → (p : Port) × (s.part_of x ≡ Some p) × StandsFor h names t x p

  holds_kind : {k : tree.Kind} {p : tree.Name} → Holds heads t (tree.is_kind k p) → IsOfTreeKind k (t.typed_of p)
  holds_kind (of_kind k) = k

  in_turn : {bound : List tree.Name} {k : tree.Kind} {p : tree.Name} {cs : List tree.Condition} → InTurn heads bound (tree.is_kind k p ∷ cs) → Among p heads × InTurn heads bound cs
  in_turn (kind_in_turn a i) = (a, i)

  not_known : {bound : List tree.Name} {n : tree.Name} {ps : List tree.Name} {cs : List tree.Condition} → InTurn heads bound (tree.unknown n ps ∷ cs) → ⊥
  not_known i = elim i [ ]

  kind_back_at : (b1 b2 b3 : Bool) (n : ℕ) (ps : List tree.Name) (x : ℕ) {bound : List tree.Name} {cs : List tree.Condition} → Found x →
      InTurn heads bound (cond b1 (tree.is_kind tree.int (name_of names x)) (cond b2 (tree.is_kind tree.unary (name_of names x)) (cond b3 (tree.is_kind tree.grounded (name_of names x)) (tree.unknown (name_of names n) ps))) ∷ cs) →
      Holds heads t (cond b1 (tree.is_kind tree.int (name_of names x)) (cond b2 (tree.is_kind tree.unary (name_of names x)) (cond b3 (tree.is_kind tree.grounded (name_of names x)) (tree.unknown (name_of names n) ps)))) →
      with_part (s.part_of x) (KindHolds h (cond b1 (Some Int) (cond b2 (Some Unary) (cond b3 (Some Ground) None)))) × InTurn heads bound cs
  kind_back_at true b2 b3 n ps x f i k =
      let a = in_turn i in
      let w = f a.0 in
      (subst (λ o. with_part o (KindHolds h (Some Int))) (sym w.1) (let n = holds_kind k in (n.0, (w.2.integer n.0).1 n.1)), a.1)
  kind_back_at false true b3 n ps x f i k =
      let a = in_turn i in
      let w = f a.0 in
      (subst (λ o. with_part o (KindHolds h (Some Unary))) (sym w.1) (w.2.unary.1 (holds_kind k)), a.1)
  kind_back_at false false true n ps x f i k =
      let a = in_turn i in
      let w = f a.0 in
      (subst (λ o. with_part o (KindHolds h (Some Ground))) (sym w.1) tt, a.1)
  kind_back_at false false false n ps x f i k = absurd (not_known i)

  -- and back
  pub type_back : (n : ℕ) (args : List CtxUse) (q : _) {bound : List tree.Name} {cs : List tree.Condition} → All (λ u. Found u.name) args → InTurn heads bound (condition_of names (Kind n args q) ∷ cs) → Holds heads t (condition_of names (Kind n args q)) →
      TypeHolds h s n args × InTurn heads bound cs
  type_back n [] q f i k = absurd (not_known i)
  type_back n (u ∷ []) q f i k = kind_back_at (n == INT_NAME) (n == UNARY_NAME) (n == GROUND_NAME) n (name_of names u.name ∷ []) u.name (f zero u (omega arith)) i k
  type_back n (u ∷ (v ∷ us)) q f i k = absurd (not_known i)

  pub holds_first : {c : tree.Condition} {cs : List tree.Condition} → GuardHolds heads t (c ∷ cs) → Holds heads t c × GuardHolds heads t cs
  holds_first (condition_and a b) = (a, b)

  -- a comparison that holds: both values, and that they stand so
  pub record Compared (c : Cmp) (e f : tree.Expression) : Type 0 where
    pub left : ℤ
    pub right : ℤ
    pub first : Value t e left
    pub second : Value t f right
    pub stand : StandInTree c left right

  pub compared : {c : Cmp} {e f : tree.Expression} → Holds heads t (tree.compares c e f) → Compared c e f
  compared (in_order a b s) = record { left = _; right = _; first = a; second = b; stand = s }

  pub turn_compared : {bound : List tree.Name} {c : Cmp} {e f : tree.Expression} {cs : List tree.Condition} → InTurn heads bound (tree.compares c e f ∷ cs) → ((p : tree.Name) → UsedIn p e ⊎ UsedIn p f → Among p heads ⊎ Among p bound) × InTurn heads bound cs
  turn_compared (comparison_in_turn a i) = (a, i)

-- ---- embeddings and names

-- an embedding with another guard
pub unguarded : {h : Heap} {items : List HeadItem} {g g' : List Cond} {m : ℕ} {f : Images} → HoldsOnHeap h (meaning items f) g' → Embeds h items g m f → Embeds h items g' m f
unguarded holds e = record { lies = e.lies; outside = e.outside; holds = holds }

-- one atom of arity 1
abbrev pub one_part : tree.Label → Rooted
one_part a = record { process = atom a (0 ∷ []); root = 0 }

-- the root of a part is free in it
abbrev pub FreeRoot : Rooted → Type 0
FreeRoot g = Free g.root g.process

-- what holds of all values holds of the one that is found
pub look_each : (P : Rooted → Type 0) (d : Rooted) (es : List (tree.Name × Rooted)) → P d → All (λ e. P e.1) es → (p : tree.Name) → P (look d es p)
look_each P d [] k a p = k
look_each P d (e ∷ es) k a p = by (same_name e.0 p) (a zero e (omega arith)) (look_each P d es k (all_of_right (λ e. P e.1) (e ∷ []) es a) p)
  where
    by : (b : Bool) → P e.1 → P (look d es p) → P (cond b e.1 (look d es p))
    by true u w = u
    by false u w = w

-- parts with free roots, by name
pub parts_free : (names : List tree.Name) (g : ℕ → Rooted) → ((n : ℕ) → FreeRoot (g n)) → (n : ℕ) (ts : List HeadTyped) → All (λ e. FreeRoot e.1) (named_parts names g n ts)
parts_free names g free n [] k d l = absurd (omega (arith, l))
parts_free names g free n (t ∷ ts) zero d l = free n
parts_free names g free n (t ∷ ts) (suc k) d l = parts_free names g free (n + 1) ts k d (omega (arith, l))

-- names of the list are one where their numbers are
pub same_number : (names : List tree.Name) (m n : ℕ) → IsNames names → HasNames names (m ∷ []) → HasNames names (n ∷ []) → name_of names m ≡ name_of names n → m ≡ n
same_number names m n i a b e = let q : ByName m ≡ ByName n = labels_apart names (ByName m) (ByName n) i both (ap tree.named e) in cc
  where
    both : HasNames names (m ∷ (n ∷ []))
    both zero d l = a zero d (omega arith)
    both (suc k) d l = b k d (omega (arith, l))

module _ (r : HeapReading) (kind : ℕ → TypeKind) (rule : RuleTree) (k : IsRule r rule) where
  pub no_connector : EachLevel (λ l. NoConnectorLeaf (own_leaves l)) (tree_of r.names r.rule (head_at rule.head))
  no_connector = subst (EachLevel (λ l. NoConnectorLeaf (own_leaves l))) (is_tree r rule kind k) k.accepted.no_connectors

  pub heads_are : map (λ u. name_of r.names u.name) (typed_contexts_of (items_of_head kind rule.head)) ≡ typed_contexts (tree.head_of (rule_tree r.names r.rule rule))
  heads_are = ap (λ xs. map (λ u. name_of r.names u.name) (typed_contexts_of xs)) (items_flat kind rule.head) ∙ level_named r.names r.rule kind 0 1 (head_at rule.head) no_connector ∙ ap typed_contexts (sym (is_tree r rule kind k))

  abbrev Below : ℕ → Type 0
  Below i = i < length r.names

  -- the name of a typed context stands in the list
  pub typed_known : (i : ℕ) (u : HeadTyped) → slice_get (typed_contexts_of (items_of_head kind rule.head)) i ≡ Some u → HasNames r.names (u.name ∷ [])
  typed_known i u e =
      let both = all_of_left Below (level_names rule.head ++ flat_map condition_names rule.guard) (level_names rule.body) k.known in
      let here = all_of_left Below (level_names rule.head) (flat_map condition_names rule.guard) both in
      let leaves = all_of_left Below (flat_map leaf_names (level_leaves rule.head)) (context_names (contexts_of rule.head))
      (all_of_left Below (flat_map leaf_names (level_leaves rule.head) ++ context_names (contexts_of rule.head)) (context_names (rule_contexts_of rule.head)) here) in
      (typed_holds (λ l. All Below (leaf_names l)) kind rule.head (all_of_parts Below leaf_names (level_leaves rule.head) leaves) i u (subst (λ xs. slice_get (typed_contexts_of xs) i ≡ Some u) (items_flat kind rule.head) e)).holds

  pub guard_known : All (λ c. All Below (condition_names c)) rule.guard
  guard_known =
      let both = all_of_left Below (level_names rule.head ++ flat_map condition_names rule.guard) (level_names rule.body) k.known in
      all_of_parts Below condition_names rule.guard (all_of_right Below (level_names rule.head) (flat_map condition_names rule.guard) both)

-- what holds of each name holds of each use
pub each_use : (P : ℕ → Type 0) (Q : ℕ → Type 0) → ((x : ℕ) → All P (x ∷ []) → Q x) → (us : List CtxUse) → All P (context_names us) → All (λ u. Q u.name) us
each_use P Q h [] a i d l = absurd (omega (arith, l))
each_use P Q h (u ∷ us) a zero d l = h u.name (all_of_left P (u.name ∷ []) (context_names us) a)
each_use P Q h (u ∷ us) a (suc i) d l = each_use P Q h us (all_of_right P (u.name ∷ []) (context_names us) a) i d (omega (arith, l))
