-- Rules of all membranes of a heap, and steps of its process.
use Rattle.std.proofs.Common.{ℕ, suc, ◌≡◌, ◌≢◌, ◌+◌, ◌≤◌, ◌<◌, ◌⊎◌, ◌↔◌, List, [], ◌∷◌, ◌++◌, map, Option, Some, None, refl, sym, ap, subst, ◌∙◌, inl, inr, arith}
use Rattle.std.specs.Prelude.{slice_get, IsSome}
use Rattle.std.proofs.lemmas.Bool.{cases_eq}
use Rattle.lmn_base.specs.declared.rule.RuleTree.{RuleTree}
use Rattle.lmn_guards.specs.declared.plan.TypeKind.{TypeKind}
use Rattle.lmn_store_heap.specs.Heap.{Heap, HeapMem, IsAtom, IsMem, atoms_by, atoms_in, mems_in, rules_in, arity_of, link_of, home_of}
use Rattle.lmn_store_heap.specs.Lists.{Distinct}
use Rattle.lmn_store_heap.specs.Sound.{Forest, bare, mem, flat, Forms, IsTree, Valid}
use Rattle.lmn_store_heap.proofs.ListLemmas.{distinct_left, distinct_right, in_left, in_right}
use Rattle.lmn_solid_heads.specs.Embeddings.{Images, Embeds as OnHeap}
use Rattle.lmn_solid_heads.specs.Flattening.{items_of_head}
use Rattle.lmn_congruence.specs.Links.{places}
use Rattle.lmn_congruence.specs.Orders.{Put, here, there}
use Rattle.lmn_congruence.specs.Process.{Closed, occurrences}
use Rattle.lmn_congruence.specs.Regions.{Region, Regions, region, region_and}
use Rattle.lmn_congruence.specs.Rules.{Rule}
use Rattle.lmn_congruence.specs.Translation.{rule_tree}
use Rattle.lmn_adequacy.specs.Accepted.{Accepted}
use Rattle.lmn_adequacy.specs.Embedding.{AllRules, AllRulesIn, EachRule, HasEmbedding, EmbedsIn, EmbedsAt, embeds_here, embeds_below, TakenRegion, region_first, region_later}
use Rattle.lmn_adequacy.proofs.Orders.{put_taken, taken_put}
use Rattle.lmn_adequacy_heaps.specs.HeapRegions.{HeapReading, regions_at, region_at}
use Rattle.lmn_adequacy_heaps.specs.Laws.{heap_process}
use Rattle.lmn_adequacy_heaps.specs.Premises.{IsRead, HasForest, HasRules, IsRule}
use Rattle.lmn_adequacy_heaps.proofs.Pieces.{atom_at}
use Rattle.lmn_adequacy_heaps.proofs.Counting.{tree_atoms, times_at, in_region, ends_among}
use Rattle.lmn_adequacy_heaps.proofs.Forests.{tree_once, each_tree, some_of, forest_atom, in_place}
use Rattle.lmn_adequacy_heaps.proofs.Ports.{find_place, port_named}
use Rattle.lmn_adequacy_heaps.proofs.Read.{find_tree}
use Rattle.lmn_adequacy_heaps.proofs.Lying.{TakenTree, tree_first, tree_later}
use Rattle.lmn_base.proofs.Lists.{weigh, in_either}
use Rattle.lmn_adequacy.proofs.Existence.{in_a_membrane as below}
use Rattle.lmn_store_heap.proofs.Common.{linked_atom}
use Rattle.lmn_base.specs.Lists.{In}
use Rattle.std.specs.List.{AllByRecursion}

-- ---- the process of a heap is closed

heavy_one : (h : Heap) (r : HeapReading) (x : ℕ) (ys : List ℕ) → weigh (times_at h r x) ys ≢ 0 → (c : ℕ) × (In c ys) × (times_at h r x c ≢ 0)
heavy_one h r x [] z = absurd (z refl)
heavy_one h r x (y ∷ ys) z = elim (cases_eq (times_at h r x y) 0) [
  | inl w ↦ (let u = heavy_one h r x ys (λ q. z (omega (arith, w, q))) in (u.0, inr u.1, u.2))
  | inr w ↦ (y, inl refl, w)
]

home_is : (h : Heap) (a : ℕ) → IsSome (home_of h a) → (m : ℕ) × (home_of h a ≡ Some m)
home_is h a s = by (home_of h a) refl s
  where
    by : (o : Option ℕ) → home_of h a ≡ o → IsSome o → (m : ℕ) × (home_of h a ≡ Some m)
    by None e s = absurd (cc)
    by (Some m) e s = (m, e)

mem_is : (h : Heap) (m a : ℕ) → In a (atoms_in h m) → IsMem h m
mem_is h m a p = by (h.mems m) refl p
  where
    by : (o : Option HeapMem) → h.mems m ≡ o → In a (atoms_by o) → IsSome o
    by None e p = absurd p
    by (Some x) e p = refl

-- every atom stands in the tree
atom_there : (h : Heap) (v : Valid h) (inner : Forest) → IsTree h (mem h.root inner bare) → (a : ℕ) → IsAtom h a → In a (tree_atoms h h.root inner)
atom_there h v inner tr a s =
    let m = home_is h a (v.settled.atoms a s) in
    let p = in_place h v a m.0 m.1 in
    let q = tr.all m.0 (mem_is h m.0 a p) in
    elim (in_either a (tree_atoms h h.root inner) [] (forest_atom h v (mem h.root inner bare) m.0 a q p)) [ inl k ↦ k | inr k ↦ absurd k ]

-- the process of a heap is closed
pub closed_heap : (h : Heap) (r : HeapReading) (inner : Forest) → IsRead h r → IsTree h (mem h.root inner bare) → Closed (heap_process h r inner)
closed_heap h r inner read tr x = elim (cases_eq (weigh (times_at h r x) (tree_atoms h h.root inner)) 0) [
  | inl z ↦ inl (in_region h r read.valid x h.root inner ∙ z)
  | inr z ↦ (let u = heavy_one h r x (tree_atoms h h.root inner) z in
      let p = find_place x (atom_at h r u.0).links u.2 in
      let q = port_named h read.valid r u.0 p.0 x p.1 in
      at u.0 p.0 q.0 q.1 u.1 (link_of h u.0 p.0) refl (read.valid.full u.0 p.0 q.1))
]
  where
    at : (c i : ℕ) → r.name c i ≡ x → i < arity_of h c → In c (tree_atoms h h.root inner) → (o : Option (ℕ × ℕ)) → link_of h c i ≡ o → IsSome o → (occurrences x (heap_process h r inner) ≡ 0) ⊎ (occurrences x (heap_process h r inner) ≡ 2)
    at c i n l j None q s = absurd (cc)
    at c i n l j (Some d) q s =
        let w : occurrences (r.name c i) (heap_process h r inner) ≡ places c (tree_atoms h h.root inner) + places d.0 (tree_atoms h h.root inner) =
        in_region h r read.valid (r.name c i) h.root inner ∙ ends_among h r read.valid read.naming c i d.0 d.1 l q (tree_atoms h h.root inner) (each_tree h read.valid h.root inner) in
        let back = read.valid.sound.paired.back c i d.0 d.1 q in
        let k = atom_there h read.valid inner tr d.0 (linked_atom h d.0 d.1 back) in
        let once : (z : ℕ) → places z (tree_atoms h h.root inner) ≤ 1 = λ z. tree_once h read.valid h.root inner tr.once z in
        inr (subst (λ z. occurrences z (heap_process h r inner) ≡ 2) n (omega (arith, w, once c, once d.0, some_of c (tree_atoms h h.root inner) j, some_of d.0 (tree_atoms h h.root inner) k)))

-- ---- the rules of all membranes

module _ (h : Heap) (r : HeapReading) (table : List RuleTree) (has : HasRules h r table) where
  -- a rule of a membrane is one of the table
  pub rule_tree_is : (m k : ℕ) → In k (rules_in h m) → (rule : RuleTree) × (slice_get table k ≡ Some rule) × IsRule r rule × (r.rule k ≡ rule_tree r.names r.rule rule)
  rule_tree_is m k p = let u = has.known m k p in (u.0, u.1, u.2, has.read k u.0 u.1)

  each_accepted : (m : ℕ) (ks : List ℕ) → ((k : ℕ) → In k ks → In k (rules_in h m)) → EachRule Accepted (map r.rule ks)
  each_accepted m [] s = tt
  each_accepted m (k ∷ ks) s = let u = rule_tree_is m k (s k (inl refl)) in (subst Accepted (sym u.3) u.2.accepted, each_accepted m ks (λ j p. s j (inr p)))

  all_accepted_in : (f : Forest) → AllRulesIn Accepted (regions_at h r f)
  all_accepted_in bare = tt
  all_accepted_in (mem m i f) = ((each_accepted m (rules_in h m) (λ k p. p), all_accepted_in i), all_accepted_in f)

  -- all rules of a heap are accepted
  pub all_accepted : (m : ℕ) (i : Forest) → AllRules Accepted (region_at h r m i)
  all_accepted m i = (each_accepted m (rules_in h m) (λ k p. p), all_accepted_in i)

put_in : {A : Type 0} (g : ℕ → A) (k : ℕ) (ks : List ℕ) → In k ks → (rest : List A) × Put (g k) rest (map g ks)
put_in g k [] p = absurd p
put_in g k (j ∷ ks) (inl e) = (map g ks, subst (λ z. Put (g z) (map g ks) (g j ∷ map g ks)) e here)
put_in g k (j ∷ ks) (inr p) = let u = put_in g k ks p in (g j ∷ u.0, there u.1)

out_of_put : {A : Type 0} (g : ℕ → A) (ks : List ℕ) {x : A} {rest xs : List A} → Put x rest xs → xs ≡ map g ks → (k : ℕ) × In k ks × (g k ≡ x)
out_of_put g [] here e = absurd (cc)
out_of_put g [] (there p) e = absurd (cc)
out_of_put g (k ∷ ks) (here {y = y}) e = let q : y ≡ g k = cc in (k, inl refl, sym q)
out_of_put g (k ∷ ks) (there {z = z} {zs = zs} p) e = let q : zs ≡ map g ks = cc in let u = out_of_put g ks p q in (u.0, inr u.1, u.2)

-- the trees of a forest have their forests
pub taken_forest : (h : Heap) {n m : ℕ} {i f f' : Forest} (ms : List ℕ) → TakenTree n m i f f' → Forms h f ms → Distinct (flat f) → HasForest h m i
taken_forest h ms (tree_first {m = m} {i = i} {f = f}) F d = record { forms = F.2; once = (each_left (flat i) d.0, distinct_left (flat i) (flat f) d.1) }
  where
    each_left : (xs : List ℕ) → AllByRecursion (λ b. m ≢ b) (xs ++ flat f) → AllByRecursion (λ b. m ≢ b) xs
    each_left [] e = tt
    each_left (x ∷ xs) e = (e.0, each_left xs e.1)
taken_forest h ms (tree_later {j = j} {f = f} t) F d = taken_forest h F.0 t F.3 (distinct_right (flat j) (flat f) d.1)

module _ (h : Heap) (r : HeapReading) (table : List RuleTree) (kinds : ℕ → ℕ → TypeKind) (has : HasRules h r table)
    (alike : (m : ℕ) (i : Forest) (k : ℕ) (rule : RuleTree) → HasForest h m i → slice_get table k ≡ Some rule → IsRule r rule →
    ((f : Images) × OnHeap h (items_of_head (kinds k) rule.head) rule.guard m f) ↔ ((ns : List ℕ) × EmbedsAt (rule_tree r.names r.rule rule) ns (region_at h r m i))) where
  -- a rule of one of these membranes embeds
  pub record Found (ms : List ℕ) : Type 0 where
    pub membrane : ℕ
    pub among : In membrane ms
    pub number : ℕ
    pub stands : In number (rules_in h membrane)
    pub rule : RuleTree
    pub is : slice_get table number ≡ Some rule
    pub images : Images
    pub embeds : OnHeap h (items_of_head (kinds number) rule.head) rule.guard membrane images

  wider : (ms ks : List ℕ) → ((m : ℕ) → In m ms → In m ks) → Found ms → Found ks
  wider ms ks s f = record { membrane = f.membrane; among = s f.membrane f.among; number = f.number; stands = f.stands; rule = f.rule; is = f.is; images = f.images; embeds = f.embeds }

  embeds_there : (m : ℕ) (i : Forest) → HasForest h m i → (w : Found (m ∷ [])) → HasEmbedding (region_at h r m i)
  embeds_there m i F w =
      let e : w.membrane ≡ m = only w.among in
      let p = subst (λ z. In w.number (rules_in h z)) e w.stands in
      let u = has.known m w.number p in
      let same : u.0 ≡ w.rule = let q : Some u.0 ≡ Some w.rule = sym u.1 ∙ w.is in cc in
      let on = subst (λ z. OnHeap h (items_of_head (kinds w.number) w.rule.head) w.rule.guard z w.images) e w.embeds in
      let into = (alike m i w.number w.rule F w.is (subst (IsRule r) same u.2)).0 (w.images, on) in
      let put = put_in r.rule w.number (rules_in h m) p in
      let taken = put_taken put.1 in
      record { path = []; number = taken.0; positions = into.0; embeds = embeds_here taken.1 (subst (λ z. EmbedsAt z into.0 (region_at h r m i)) (sym (has.read w.number w.rule w.is)) into.1) }
    where
      only : {a m : ℕ} → In a (m ∷ []) → a ≡ m
      only (inl e) = sym e
      only (inr e) = absurd e

  -- a rule embeds in a membrane of a forest
  pub record Below (f : Forest) : Type 0 where
    pub place : ℕ
    pub region : Region
    pub others : Regions
    pub taken : TakenRegion place region (regions_at h r f) others
    pub embeds : HasEmbedding region

  embeds_below_from : (f : Forest) (ms : List ℕ) → Forms h f ms → Distinct (flat f) → (w : Found (flat f)) → In w.membrane (flat f) → Below f
  embeds_below_from bare ms F d w p = absurd p
  embeds_below_from (mem m i f) ms F d w (inl e) =
      let here = taken_forest h ms (tree_first {m = m} {i = i} {f = f}) F d in
      record { place = 0; region = region_at h r m i; others = regions_at h r f; taken = region_first; embeds = embeds_there m i here (record { membrane = w.membrane; among = inl e; number = w.number; stands = w.stands; rule = w.rule; is = w.is; images = w.images; embeds = w.embeds }) }
  embeds_below_from (mem m i f) ms F d w (inr p) = elim (in_either w.membrane (flat i) (flat f) p) [
    | inl q ↦ (let b = embeds_below_from i (mems_in h m) F.2 (distinct_left (flat i) (flat f) d.1) (record { membrane = w.membrane; among = q; number = w.number; stands = w.stands; rule = w.rule; is = w.is; images = w.images; embeds = w.embeds }) q in
        record { place = 0; region = region_at h r m i; others = regions_at h r f; taken = region_first; embeds = below b.taken b.embeds })
    | inr q ↦ (let b = embeds_below_from f F.0 F.3 (distinct_right (flat i) (flat f) d.1) (record { membrane = w.membrane; among = q; number = w.number; stands = w.stands; rule = w.rule; is = w.is; images = w.images; embeds = w.embeds }) q in
        record { place = suc b.place; region = b.region; others = region_and (region_at h r m i) b.others; taken = region_later b.taken; embeds = b.embeds })
  ]

  -- an embedding in some membrane is one in the region
  pub embeds_from : (m : ℕ) (i : Forest) → HasForest h m i → (w : Found (m ∷ flat i)) → In w.membrane (m ∷ flat i) → HasEmbedding (region_at h r m i)
  embeds_from m i F w (inl e) = embeds_there m i F (record { membrane = w.membrane; among = inl e; number = w.number; stands = w.stands; rule = w.rule; is = w.is; images = w.images; embeds = w.embeds })
  embeds_from m i F w (inr p) =
      let b = embeds_below_from i (mems_in h m) F.forms F.once.1 (record { membrane = w.membrane; among = p; number = w.number; stands = w.stands; rule = w.rule; is = w.is; images = w.images; embeds = w.embeds }) p in
      below b.taken b.embeds

  tree_flat : {n m : ℕ} {i f f' : Forest} → TakenTree n m i f f' → (b : ℕ) → In b (m ∷ flat i) → In b (flat f)
  tree_flat (tree_first {m = m} {i = i} {f = f}) b (inl e) = inl e
  tree_flat (tree_first {m = m} {i = i} {f = f}) b (inr p) = inr (in_left b (flat i) (flat f) p)
  tree_flat (tree_later {j = j} {f = f} t) b p = inr (in_right b (flat j) (flat f) (tree_flat t b p))

  abbrev rules_part : Region → List Rule
  rules_part (region xs ms rs) = rs

  abbrev membranes_part : Region → Regions
  membranes_part (region xs ms rs) = ms

  find_in : {path : List ℕ} {k : ℕ} {ns : List ℕ} {S : Region} → EmbedsIn path k ns S → (m : ℕ) (i : Forest) → HasForest h m i → S ≡ region_at h r m i → Found (m ∷ flat i)
  find_in (embeds_here {f = f} stands e) m i F q =
      let u = out_of_put r.rule (rules_in h m) (taken_put stands) (ap rules_part q) in
      let w = has.known m u.0 u.1 in
      let same = sym u.2 ∙ has.read u.0 w.0 w.1 in
      let at : EmbedsAt (rule_tree r.names r.rule w.0) f (region_at h r m i) = subst (λ z. EmbedsAt z f (region_at h r m i)) same (subst (EmbedsAt _ f) q e) in
      let on = (alike m i u.0 w.0 F w.1 w.2).1 (f, at) in
      record { membrane = m; among = inl refl; number = u.0; stands = u.1; rule = w.0; is = w.1; images = on.0; embeds = on.1 }
  find_in (embeds_below k d) m i F q =
      let u = find_tree h r i k (ap membranes_part q) in
      let w = find_in d u.number u.inner (taken_forest h (mems_in h m) u.taken F.forms F.once.1) u.is in
      wider (u.number ∷ flat u.inner) (m ∷ flat i) (λ b p. inr (tree_flat u.taken b p)) w

  pub find_embeds : {S : Region} → HasEmbedding S → (m : ℕ) (i : Forest) → HasForest h m i → S ≡ region_at h r m i → Found (m ∷ flat i)
  find_embeds e = find_in e.embeds
