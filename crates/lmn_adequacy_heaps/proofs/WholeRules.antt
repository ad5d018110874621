-- Rules with any guard.
use Rattle.std.proofs.Common.{ℕ, zero, suc, ◌≡◌, ◌+◌, ◌<◌, ◌⊎◌, ◌↔◌, List, [], ◌∷◌, ◌++◌, map, length, Option, Some, None, All, refl, sym, ap, subst, ◌∙◌, inl, inr, arith}
use Rattle.std.specs.Prelude.{ℤ, pos, slice_get}
use Rattle.std.proofs.lemmas.List.{map-append}
use Rattle.std.proofs.lemmas.Option.{same_Some}
use Rattle.lmn_base.specs.declared.guard.Cond.{Cond}
use Rattle.lmn_base.specs.declared.guard.Cond.TheVariants.{Kind, Compare, Equal, Differ}
use Rattle.lmn_base.specs.declared.rule.RuleTree.{RuleTree}
use Rattle.lmn_base.specs.Names.{HasNames, condition_names, expression_names}
use Rattle.lmn_guards.specs.declared.plan.TypeKind.{TypeKind}
use Rattle.lmn_guards.specs.Values.{value}
use Rattle.lmn_store_heap.specs.Heap.{Heap, atoms_in}
use Rattle.lmn_store_heap.specs.Sound.{Forest}
use Rattle.lmn_solid_heads.specs.Embeddings.{Images, Embeds, HasTyped, HasLink, ListNotAfter, meaning}
use Rattle.lmn_solid_heads.specs.Flattening.{items_of_head}
use Rattle.lmn_solid_heads.specs.Guards.{Meaning, bind, integer_named}
use Rattle.lmn_solid_heads.specs.Heads.{HeadTyped, typed_contexts_of}
use Rattle.lmn_congruence.specs.Orders.{Among, at_head, further, EachOnce}
use Rattle.lmn_congruence.specs.Process.{nothing}
use Rattle.lmn_congruence.specs.Rules as tree
use Rattle.lmn_congruence.specs.Translation.{name_of, rule_tree, condition_of}
use Rattle.lmn_reduction.specs.Assignments.{Assignment}
use Rattle.lmn_reduction.specs.Firing.{typed_contexts}
use Rattle.lmn_reduction.specs.Parts.{Rooted, IsInteger, an_integer}
use Rattle.lmn_adequacy.specs.Accepted.{InTurn, kind_in_turn, comparison_in_turn, binding_in_turn, equality_in_turn, difference_in_turn, typed_links, port_links}
use Rattle.lmn_adequacy.specs.Embedding.{EmbedsAt}
use Rattle.lmn_adequacy.specs.Loose.{EmbedsLoosely}
use Rattle.lmn_adequacy.proofs.InOrder.{embeds_loosely}
use Rattle.lmn_adequacy.proofs.Literal.{embeds_in_order}
use Rattle.lmn_adequacy_heaps.specs.Bindings.{Binds, BindsAt}
use Rattle.lmn_adequacy_heaps.specs.HeapRegions.{HeapReading, region_at}
use Rattle.lmn_adequacy_heaps.specs.Laws.{EmbedsAlike, LeastAlike, HeapStepsExactly, HeapIrreducibleExactly}
use Rattle.lmn_adequacy_heaps.proofs.Order.{numbers_ordered, not_after_is, is_not_after, numbers_length}
use Rattle.lmn_adequacy_heaps.specs.Numbers.{numbers_left}
use Rattle.lmn_adequacy_heaps.specs.Premises.{IsRead, HasForest, IsRule, HasTypes}
use Rattle.lmn_adequacy_heaps.specs.Parts.{IsGroundPart, HasPart, TakesParts}
use Rattle.lmn_solid_heads.proofs.HeadTrees.{head_at, items_flat}
use Rattle.lmn_adequacy_heaps.proofs.Contexts.{look, looked}
use Rattle.lmn_adequacy_heaps.proofs.TypedFacts.{typed_held}
use Rattle.lmn_adequacy_heaps.proofs.TypeConditions.{named_parts, named_parts_names, named_part}
use Rattle.lmn_adequacy_heaps.proofs.Results.{is_tree, heads_alike, heap_steps, heap_irreducible}
use Rattle.lmn_adequacy_heaps.proofs.KindConditions.{heads_are, no_connector, guard_known, unguarded, one_part, FreeRoot, look_each, parts_free}
use Rattle.lmn_adequacy_heaps.proofs.KindsAsked.{kinds_are_asked}
use Rattle.lmn_adequacy_heaps.proofs.GroundGuards.{ground_parts, guards_alike}
use Rattle.lmn_adequacy_heaps.proofs.EmbeddedParts.{embedded_parts_are_ground}
use Rattle.lmn_adequacy_heaps.proofs.Forests.{in_place}
use Rattle.lmn_adequacy.specs.Embedding.{Merged}
use Rattle.lmn_solid_heads.specs.declared.items.HeadItem.{HeadItem}
use Rattle.lmn_base.specs.Graphs.{Port}
use Rattle.lmn_congruence.proofs.Common.{among_left, among_right}
use Rattle.std.proofs.lemmas.List.Elements.{All-append}
use Rattle.lmn_base.proofs.Lists.{all_of_left, all_of_right}

-- ---- what a guard binds

abbrev bound_at : Meaning → Option Port → ℕ → Option ℤ → (Meaning → List (ℕ × ℤ)) → List (ℕ × ℤ)
bound_at s (Some p) x z Rest = Rest s
bound_at s None x None Rest = []
bound_at s None x (Some z) Rest = (x, z) ∷ Rest (bind s x z)

abbrev bound_list : Heap → Meaning → List Cond → List (ℕ × ℤ)
bound_list h s [] = []
bound_list h s (Kind n args q ∷ cs) = bound_list h s cs
bound_list h s (Compare op l r q ∷ cs) = bound_list h s cs
bound_list h s (Equal l r q ∷ cs) = bound_at s (s.part_of l.name) l.name (value (integer_named h s) r) (λ s'. bound_list h s' cs)
bound_list h s (Differ l r q ∷ cs) = bound_list h s cs

abbrev integer_part : ℤ → Rooted
integer_part z = one_part (tree.integer z)

abbrev bound_entries : List tree.Name → List (ℕ × ℤ) → List (tree.Name × Rooted)
bound_entries names bs = map (λ b. (name_of names b.0, integer_part b.1)) bs

abbrev bound_names : List tree.Name → List (ℕ × ℤ) → List tree.Name
bound_names names bs = map (λ b. name_of names b.0) bs

entries_names : (names : List tree.Name) (bs : List (ℕ × ℤ)) → map (λ e. e.0) (bound_entries names bs) ≡ bound_names names bs
entries_names names [] = refl
entries_names names (b ∷ bs) = ap (λ z. name_of names b.0 ∷ z) (entries_names names bs)

entries_free : (names : List tree.Name) (bs : List (ℕ × ℤ)) → All (λ e. FreeRoot e.1) (bound_entries names bs)
entries_free names [] k d l = absurd (omega (arith, l))
entries_free names (b ∷ bs) zero d l = omega arith
entries_free names (b ∷ bs) (suc k) d l = entries_free names bs k d (omega (arith, l))

among_entry : (names : List tree.Name) (x : ℕ) (z : ℤ) (bs : List (ℕ × ℤ)) → Among {A = ℕ × ℤ} (x, z) bs → Among {A = tree.Name × Rooted} (name_of names x, integer_part z) (bound_entries names bs)
among_entry names x z (b ∷ bs) at_head = at_head
among_entry names x z (b ∷ bs) (further k) = further (among_entry names x z bs k)
among_entry names x z [] k = elim k [ ]

-- taken to its integer, each bound name is
binds_all : (h : Heap) (names : List tree.Name) (typed_of : tree.Name → Rooted) (cs : List Cond) (s : Meaning) → ((x : ℕ) (z : ℤ) → Among {A = ℕ × ℤ} (x, z) (bound_list h s cs) → typed_of (name_of names x) ≡ integer_part z) → Binds h names typed_of s cs
binds_all h names typed_of [] s g = tt
binds_all h names typed_of (Kind n args q ∷ cs) s g = binds_all h names typed_of cs s g
binds_all h names typed_of (Compare op l r q ∷ cs) s g = binds_all h names typed_of cs s g
binds_all h names typed_of (Differ l r q ∷ cs) s g = binds_all h names typed_of cs s g
binds_all h names typed_of (Equal l r q ∷ cs) s g = by (s.part_of l.name) (value (integer_named h s) r) g (λ s' g'. binds_all h names typed_of cs s' g')
  where
    by : (o : Option Port) (v : Option ℤ) → ((x : ℕ) (z : ℤ) → Among {A = ℕ × ℤ} (x, z) (bound_at s o l.name v (λ s'. bound_list h s' cs)) → typed_of (name_of names x) ≡ integer_part z) →
        ((s' : Meaning) → ((x : ℕ) (z : ℤ) → Among {A = ℕ × ℤ} (x, z) (bound_list h s' cs) → typed_of (name_of names x) ≡ integer_part z) → Binds h names typed_of s' cs) →
        BindsAt names typed_of s o l.name v (λ s'. Binds h names typed_of s' cs)
    by (Some p) v g k = k s g
    by None None g k = tt
    by None (Some z) g k = (subst (IsInteger z) (sym (g l.name z at_head)) an_integer, k (bind s l.name z) (λ x w j. g x w (further j)))

-- ---- bound names are new, each once

module _ (h : Heap) (names : List tree.Name) (heads : List tree.Name) where
  abbrev New : List tree.Name → List tree.Name → Type 0
  New done bs = EachOnce bs × ((p : tree.Name) → Among p bs → (¬ (Among p heads)) × (¬ (Among p done)))

  turn_rest : {c : tree.Condition} {done : List tree.Name} {cs : List tree.Condition} → InTurn heads done (c ∷ cs) → (InTurn heads done cs) ⊎ ((p : tree.Name) × (e : tree.Expression) × (c ≡ tree.equates p e) × (¬ (Among p heads)) × (¬ (Among p done)) × InTurn heads (p ∷ done) cs)
  turn_rest (kind_in_turn a i) = inl i
  turn_rest (comparison_in_turn a i) = inl i
  turn_rest (binding_in_turn {p = p} {e = e} a b c i) = inr (p, e, refl, a, b, i)
  turn_rest (equality_in_turn a b i) = inl i
  turn_rest (difference_in_turn a b i) = inl i

  turn_equates : {p : tree.Name} {e : tree.Expression} {done : List tree.Name} {cs : List tree.Condition} → InTurn heads done (tree.equates p e ∷ cs) →
      ((¬ (Among p heads)) × (¬ (Among p done)) × InTurn heads (p ∷ done) cs) ⊎ (Among p heads × InTurn heads done cs)
  turn_equates (binding_in_turn a b c i) = inl (a, b, i)
  turn_equates (equality_in_turn a b i) = inr (a, i)

  fewer : {p : tree.Name} {done bs : List tree.Name} → New (p ∷ done) bs → New done bs
  fewer n = (n.0, λ q k. ((n.1 q k).0, λ j. (n.1 q k).1 (further j)))

  one_more : {p : tree.Name} {done bs : List tree.Name} → ¬ (Among p heads) → ¬ (Among p done) → New (p ∷ done) bs → New done (p ∷ bs)
  one_more {p} {done} {bs} a b n = (((λ k. (n.1 p k).1 at_head), n.0), each)
    where
      each : (q : tree.Name) → Among q (p ∷ bs) → (¬ (Among q heads)) × (¬ (Among q done))
      each q at_head = (a, b)
      each q (further k) = ((n.1 q k).0, λ j. (n.1 q k).1 (further j))

  abbrev Next : Meaning → List Cond → List tree.Name → Type 0
  Next s cs done = New done (bound_names names (bound_list h s cs))

  skip : (s : Meaning) (cs : List Cond) (c : tree.Condition) (done : List tree.Name) → ((done : List tree.Name) → InTurn heads done (map (condition_of names) cs) → Next s cs done) → InTurn heads done (c ∷ map (condition_of names) cs) → Next s cs done
  skip s cs c done k i = elim (turn_rest i) [ inl j ↦ k done j | inr w ↦ fewer (k (w.0 ∷ done) w.5) ]

  -- the names that a guard binds are new, each once
  pub new_names : (cs : List Cond) (s : Meaning) (done : List tree.Name) → ((x : ℕ) → HasNames names (x ∷ []) → Among (name_of names x) heads → (p : Port) × (s.part_of x ≡ Some p)) → All (λ c. All (λ i. i < length names) (condition_names c)) cs →
      InTurn heads done (map (condition_of names) cs) → EachOnce (bound_names names (bound_list h s cs)) × ((p : tree.Name) → Among p (bound_names names (bound_list h s cs)) → (¬ (Among p heads)) × (¬ (Among p done)))
  new_names [] s done f k i = (tt, λ p j. elim j [ ])
  new_names (Kind n args q ∷ cs) s done f k i = skip s cs (condition_of names (Kind n args q)) done (λ done i. new_names cs s done f (all_of_right (λ c. All (λ i. i < length names) (condition_names c)) (Kind n args q ∷ []) cs k) i) i
  new_names (Compare op l r q ∷ cs) s done f k i = skip s cs (condition_of names (Compare op l r q)) done (λ done i. new_names cs s done f (all_of_right (λ c. All (λ i. i < length names) (condition_names c)) (Compare op l r q ∷ []) cs k) i) i
  new_names (Differ l r q ∷ cs) s done f k i = skip s cs (condition_of names (Differ l r q)) done (λ done i. new_names cs s done f (all_of_right (λ c. All (λ i. i < length names) (condition_names c)) (Differ l r q ∷ []) cs k) i) i
  new_names (Equal l r q ∷ cs) s done f k i =
      let k' = all_of_right (λ c. All (λ i. i < length names) (condition_names c)) (Equal l r q ∷ []) cs k in
      let kl = all_of_left (λ i. i < length names) (l.name ∷ []) (expression_names r) (k zero (Equal l r q) (omega arith)) in
      by (s.part_of l.name) (value (integer_named h s) r) refl (turn_equates i) kl (λ done i. new_names cs s done f k' i) (λ z done i. new_names cs (bind s l.name z) done f k' i)
    where
      by : (o : Option Port) (v : Option ℤ) → s.part_of l.name ≡ o →
          ((¬ (Among (name_of names l.name) heads)) × (¬ (Among (name_of names l.name) done)) × InTurn heads (name_of names l.name ∷ done) (map (condition_of names) cs)) ⊎ (Among (name_of names l.name) heads × InTurn heads done (map (condition_of names) cs)) →
          HasNames names (l.name ∷ []) → ((done : List tree.Name) → InTurn heads done (map (condition_of names) cs) → Next s cs done) → ((z : ℤ) (done : List tree.Name) → InTurn heads done (map (condition_of names) cs) → Next (bind s l.name z) cs done) →
          New done (bound_names names (bound_at s o l.name v (λ s'. bound_list h s' cs)))
      by (Some p) v e (inl w) kl k1 k2 = fewer (k1 (name_of names l.name ∷ done) w.2)
      by (Some p) v e (inr w) kl k1 k2 = k1 done w.1
      by None None e w kl k1 k2 = (tt, λ p j. elim j [ ])
      by None (Some z) e (inl w) kl k1 k2 = one_more w.0 w.1 (k2 z (name_of names l.name ∷ done) w.2)
      by None (Some z) e (inr w) kl k1 k2 = absurd (let y = f l.name kl w.0 in let n : None ≡ Some y.0 = sym e ∙ y.1 in cc)

each_once_both : (xs ys : List tree.Name) → EachOnce xs → EachOnce ys → ((p : tree.Name) → Among p ys → ¬ (Among p xs)) → EachOnce (xs ++ ys)
each_once_both [] ys a b d = b
each_once_both (x ∷ xs) ys a b d = ((λ k. elim (either xs k) [ inl j ↦ a.0 j | inr j ↦ d x j at_head ]), each_once_both xs ys a.1 b (λ p j l. d p j (further l)))
  where
    either : (xs : List tree.Name) → Among x (xs ++ ys) → Among x xs ⊎ Among x ys
    either [] k = inr k
    either (z ∷ zs) at_head = inl at_head
    either (z ∷ zs) (further k) = elim (either zs k) [ inl j ↦ inl (further j) | inr j ↦ inr j ]

-- ---- the law

-- the parts of an embedding's typed contexts, as graphs
module _ (h : Heap) (r : HeapReading) (read : IsRead h r) (items : List HeadItem) (guard : List Cond) (m : ℕ) (f : Images) (e : Embeds h items guard m f)
    (holds : (n : ℕ) (u : HeadTyped) → HasTyped items n u → (p : Port) × HasLink items u.link p) where
  part_of : (n : ℕ) (u : HeadTyped) → HasTyped items n u → (part : List ℕ) × (rest : List ℕ) × (g : Rooted) × Merged part rest (atoms_in h (f.membrane u.inside)) × HasPart h (f.part n) part × IsGroundPart h r (f.membrane u.inside) (f.part n) part g
  part_of n u k =
      let p = holds n u k in
      embedded_parts_are_ground h r items guard m f n u p.0 (atoms_in h (f.membrane u.inside)) read e k p.1 (read.valid.sound.listed.atoms_once (f.membrane u.inside))
      (λ a w. in_place h read.valid a (f.membrane u.inside) ((e.lies.parts n u k).whole.at_home a w))

  abbrev graph_by : (n : ℕ) (o : Option HeadTyped) → slice_get (typed_contexts_of items) n ≡ o → Rooted
  graph_by n None q = integer_part (pos 0)
  graph_by n (Some u) q = (part_of n u q).2

  abbrev graph_at : ℕ → Rooted
  graph_at n = graph_by n (slice_get (typed_contexts_of items) n) refl

  graph_free : (n : ℕ) → FreeRoot (graph_at n)
  graph_free n = by (slice_get (typed_contexts_of items) n) refl
    where
      by : (o : Option HeadTyped) (q : slice_get (typed_contexts_of items) n ≡ o) → FreeRoot (graph_by n o q)
      by None q = omega arith
      by (Some u) q = (part_of n u q).5.ground.root_is_free

  graph_is : (n : ℕ) (u : HeadTyped) → HasTyped items n u → (part : List ℕ) × IsGroundPart h r (f.membrane u.inside) (f.part n) part (graph_at n)
  graph_is n u k = by (slice_get (typed_contexts_of items) n) refl
    where
      by : (o : Option HeadTyped) (q : slice_get (typed_contexts_of items) n ≡ o) → (part : List ℕ) × IsGroundPart h r (f.membrane u.inside) (f.part n) part (graph_by n o q)
      by None q = absurd (let s : None ≡ Some u = sym q ∙ k in cc)
      by (Some w) q =
          let same : w ≡ u = same_Some w u (sym q ∙ k) in
          let g = part_of n w q in
          (g.0, subst (λ z. IsGroundPart h r (f.membrane z.inside) (f.part n) g.0 g.2) same g.5)

-- the link of each typed context of a rule stands at a port
held_links : (r : HeapReading) (kind : ℕ → TypeKind) (rule : RuleTree) → IsRule r rule → (n : ℕ) (u : HeadTyped) → HasTyped (items_of_head kind rule.head) n u → (p : Port) × HasLink (items_of_head kind rule.head) u.link p
held_links r kind rule is_rule =
    let is = is_tree r rule kind is_rule in
    let only = no_connector r kind rule is_rule in
    let held = subst (λ l. (x : ℕ) → Among x (typed_links l) → Among x (port_links l)) is is_rule.accepted.held in
    subst (λ xs. (n : ℕ) (u : HeadTyped) → HasTyped xs n u → (p : Port) × HasLink xs u.link p) (sym (items_flat kind rule.head)) (typed_held r.names r.rule kind (head_at rule.head) only held)

-- ---- the law

-- a rule embeds on the heap exactly where it embeds in the region up to order
embeds_loosely_alike : (h : Heap) (r : HeapReading) (m : ℕ) (inner : Forest) (kind : ℕ → TypeKind) (rule : RuleTree) → IsRead h r → HasForest h m inner → IsRule r rule → HasTypes kind rule → (ns : List ℕ) →
    ((f : Images) × Embeds h (items_of_head kind rule.head) rule.guard m f × (numbers_left h f 0 1 [] [] (items_of_head kind rule.head) ≡ ns)) ↔ EmbedsLoosely (rule_tree r.names r.rule rule) ns (region_at h r m inner)
embeds_loosely_alike h r m inner kind rule read forest is_rule types ns =
    let T = rule_tree r.names r.rule rule in
    let items = items_of_head kind rule.head in
    let same = heads_are r kind rule is_rule in
    let known = guard_known r kind rule is_rule in (
      (λ p.
          let f = p.0 in
          let e = p.1 in
          let s = meaning items f in
          let holds = held_links r kind rule is_rule in
          let graph : ℕ → Rooted = graph_at h r read items rule.guard m f e holds in
          let heads = typed_contexts (tree.head_of T) in
          let es = named_parts r.names graph 0 (typed_contexts_of items) in
          let bs = bound_list h s rule.guard in
          let all = es ++ bound_entries r.names bs in
          let d = integer_part (pos 0) in
          let typed_of : tree.Name → Rooted = look d all in
          let free = look_each FreeRoot d all (omega arith) (All-append (λ e. FreeRoot e.1) es (bound_entries r.names bs)
          (parts_free r.names graph (graph_free h r read items rule.guard m f e holds) 0 (typed_contexts_of items)) (entries_free r.names bs)) in
          let part_names = named_parts_names r.names graph 0 (typed_contexts_of items) ∙ same in
          let plain : Assignment = record { link_of = λ x. x; context_of = λ p. nothing; rules_of = λ p. []; typed_of = look d es } in
          let once_heads = is_rule.accepted.once.2 in
          let takes_by : (all : List (tree.Name × Rooted)) → EachOnce (map (λ e. e.0) all) → ((q : tree.Name × Rooted) → Among q es → Among q all) → TakesParts h r kind rule f (look d all) = λ all once sub n u k.
          let z : 0 + n ≡ n = omega arith in
          let among = sub (name_of r.names u.name, graph (0 + n)) (named_part r.names graph 0 (typed_contexts_of items) n u k) in
          let g = graph_is h r read items rule.guard m f e holds n u k in
          (g.0, subst (IsGroundPart h r (f.membrane u.inside) (f.part n) g.0) (sym (looked d all once among ∙ ap graph z)) g.1) in
          let first = ground_parts h r read kind rule is_rule f plain (takes_by es (subst EachOnce (sym part_names) once_heads) (λ q k. k)) in
          let new = new_names h r.names heads rule.guard s [] first.found known is_rule.accepted.in_turn in
          let names_all : map (λ e. e.0) all ≡ heads ++ bound_names r.names bs = map-append (λ e. e.0) es (bound_entries r.names bs) ∙ (λ j. part_names j ++ entries_names r.names bs j) in
          let once = subst EachOnce (sym names_all) (each_once_both heads (bound_names r.names bs) once_heads new.0 (λ p k. (new.1 p k).0)) in
          let takes = takes_by all once (λ q k. among_left (bound_entries r.names bs) k) in
          let into = (heads_alike h r m inner kind rule read forest is_rule ns typed_of free).0 (f, unguarded tt e, p.2, takes) in
          let t = into.1.0 in
          let L = into.1.2 in
          let takes' = subst (TakesParts h r kind rule f) (sym into.1.1) takes in
          let bound = binds_all h r.names typed_of rule.guard s (λ x z k. looked d all once (among_right es (among_entry r.names x z bs k))) in
          record {
            assignment = t;
            rest = L.rest;
            plain = L.plain;
            images = L.images;
            guard = (guards_alike h r kind rule f t read is_rule takes').0 e.holds (subst (λ g. Binds h r.names g s rule.guard) (sym into.1.1) bound);
          }),
      (λ p.
          let t = p.assignment in
          let back = (heads_alike h r m inner kind rule read forest is_rule ns t.typed_of p.plain.root_is_free).1 (kinds_are_asked r kind rule is_rule read.names types t p.guard, (t, refl, record { plain = p.plain; rest = p.rest; images = p.images })) in
          let f = back.0 in
          (f, unguarded ((guards_alike h r kind rule f t read is_rule back.3).1 p.guard) back.1, back.2)),
    )

-- a rule embeds on the heap exactly where it embeds in the region
pub embeds_alike : EmbedsAlike
embeds_alike h r m inner kind rule read forest is_rule types ns =
    let both = embeds_loosely_alike h r m inner kind rule read forest is_rule types ns in
    ((λ p. embeds_in_order is_rule.accepted (both.0 p)), (λ e. both.1 (embeds_loosely e)))

-- the least embedding is the same on both sides
pub least_alike : LeastAlike
least_alike h r m inner kind rule read F is types ns = (
  (λ p.
      let f = p.0 in
      let at : (g : Images) → List ℕ = λ g. numbers_left h g 0 1 [] [] (items_of_head kind rule.head) in
      let e = (embeds_alike h r m inner kind rule read F is types ns).0 (f, p.1.embeds, p.2) in (
        e,
        (λ ks k.
            let g = (embeds_alike h r m inner kind rule read F is types ks).1 k in
            let order = (numbers_ordered h kind rule.head rule.guard m f g.0 p.1.embeds g.1).0 (p.1.least g.0 g.1) in
            not_after_is ns ks (ap length (sym p.2) ∙ numbers_length h f g.0 0 1 [] [] [] [] (items_of_head kind rule.head) ∙ ap length g.2)
            (subst (ListNotAfter ns) g.2 (subst (λ xs. ListNotAfter xs (at g.0)) p.2 order))),
      )),
  (λ p.
      let f = (embeds_alike h r m inner kind rule read F is types ns).1 p.0 in
      let at : (g : Images) → List ℕ = λ g. numbers_left h g 0 1 [] [] (items_of_head kind rule.head) in (
        f.0,
        record {
          embeds = f.1;
          least = λ g e.
              let k = (embeds_alike h r m inner kind rule read F is types (at g)).0 (g, e, refl) in
              (numbers_ordered h kind rule.head rule.guard m f.0 g f.1 e).1 (subst (λ xs. ListNotAfter xs (at g)) (sym f.2) (is_not_after ns (at g) (p.1 (at g) k)));
        },
        f.2,
      )),
)

somewhere : (h : Heap) (r : HeapReading) (m : ℕ) (inner : Forest) (kind : ℕ → TypeKind) (rule : RuleTree) → IsRead h r → HasForest h m inner → IsRule r rule → HasTypes kind rule →
    ((f : Images) × Embeds h (items_of_head kind rule.head) rule.guard m f) ↔ ((ns : List ℕ) × EmbedsAt (rule_tree r.names r.rule rule) ns (region_at h r m inner))
somewhere h r m inner kind rule read F is types = (
  (λ p. let ns = numbers_left h p.0 0 1 [] [] (items_of_head kind rule.head) in (ns, (embeds_alike h r m inner kind rule read F is types ns).0 (p.0, p.1, refl))),
  (λ p. let u = (embeds_alike h r m inner kind rule read F is types p.0).1 p.1 in (u.0, u.1)),
)

-- a step is possible exactly where a rule embeds on the heap
pub steps_exactly : HeapStepsExactly
steps_exactly h r table kinds inner read tr has types = heap_steps h r table kinds inner read tr has (λ m i k rule F e is. somewhere h r m i (kinds k) rule read F is (types k rule e))

-- and none where none does
pub irreducible_exactly : HeapIrreducibleExactly
irreducible_exactly h r table kinds inner read tr has types = heap_irreducible h r table kinds inner read tr has (λ m i k rule F e is. somewhere h r m i (kinds k) rule read F is (types k rule e))
