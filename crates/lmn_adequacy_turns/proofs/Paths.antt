-- From the membrane in which a rule fires to the root.
use Rattle.std.proofs.Common.{ℕ, suc, ◌≡◌, ◌≢◌, ◌+◌, ◌≤◌, Some, List, [], ◌∷◌, ◌++◌, map, refl, sym, subst, ◌∙◌, inl, inr, arith}
use Rattle.std.specs.Prelude.{slice_get}
use Rattle.lmn_store_heap.specs.Heap.{Heap, atoms_in, mems_in, rules_in}
use Rattle.lmn_store_heap.specs.Lists.{Distinct}
use Rattle.lmn_store_heap.specs.Sound.{Forest, bare, mem, flat, Forms}
use Rattle.lmn_store_heap.proofs.Groves.{forms_one}
use Rattle.lmn_store_heap.proofs.ListLemmas.{in_left, in_right, each_in, distinct_left, distinct_right, apart}
use Rattle.lmn_congruence.specs.FreeLinks.{link_bound}
use Rattle.lmn_congruence.specs.Fused.{Joins}
use Rattle.lmn_congruence.specs.Plains.{fused_level, fused_levels, level_process, levels_processes}
use Rattle.lmn_congruence.specs.Process.{Closed, Process, pair, renamed, together}
use Rattle.lmn_congruence.specs.Regions.{Regions, no_region, region, region_and, region_process}
use Rattle.lmn_congruence.specs.Rules.{Level, level, rules_list}
use Rattle.lmn_congruence.specs.Translation.{levels, rules as listed_rules}
use Rattle.lmn_congruence.proofs.Reordered.{reordered_count}
use Rattle.lmn_adequacy.specs.Next.{RawAt, fires_below, kept_atoms, kept_membranes, replaced}
use Rattle.lmn_adequacy.proofs.Commits.{closed_as, region_out}
use Rattle.lmn_adequacy_heaps.specs.HeapRegions.{HeapReading, atoms_at, regions_at, region_at}
use Rattle.lmn_adequacy_heaps.proofs.Lying.{TakenTree, tree_first, tree_later, taken_region}
use Rattle.lmn_adequacy_turns.specs.Turning.{Leads, enters}
use Rattle.lmn_adequacy_turns.proofs.LinksBelow.{reordered_bound}
use Rattle.lmn_adequacy_turns.specs.Standing.{StandAs, none_stands, one_stands}
use Rattle.lmn_adequacy_turns.proofs.Kept.{Untouched, kept_one, kept_stand, kept_atoms_join, kept_level_joins, kept_membranes_join}
use Rattle.lmn_congruence_splice.specs.Splice.{of_solid}
use Rattle.lmn_adequacy.proofs.Existence.{below_order}
use Rattle.lmn_congruence.proofs.Common.{rules_join}
use Rattle.lmn_base.specs.Lists.{In}
use Rattle.lmn_base.proofs.Lists.{in_either}

-- links stay below a number
taken_out : (s m q o n : ℕ) → s ≡ m + q → s + o ≤ n → m + (q + o) ≤ n
taken_out s m q o n e b = omega (arith, e, b)

-- what a membrane of a forest has inside is inside the forest
inner_within : (h : Heap) (m : ℕ) (mi : Forest) → Forms h mi (mems_in h m) → (f : Forest) (ms : List ℕ) → Forms h f ms → In m (flat f) → (y : ℕ) → In y (m ∷ flat mi) → In y (flat f)
inner_within h m mi Fm bare ms F p y q = absurd p
inner_within h m mi Fm (mem k i f) ms F (inl e) y q =
    let same = forms_one h i mi (mems_in h m) (subst (λ z. Forms h i (mems_in h z)) e F.2) Fm in
    elim q [ inl w ↦ inl (e ∙ w) | inr w ↦ inr (in_left y (flat i) (flat f) (subst (λ z. In y (flat z)) (sym same) w)) ]
inner_within h m mi Fm (mem k i f) ms F (inr p) y q = elim (in_either m (flat i) (flat f) p) [
  | inl a ↦ inr (in_left y (flat i) (flat f) (inner_within h m mi Fm i (mems_in h k) F.2 a y q))
  | inr b ↦ inr (in_right y (flat i) (flat f) (inner_within h m mi Fm f F.0 F.3 b y q))
]

module _ (h h' : Heap) (r : HeapReading) (name : ℕ → ℕ → ℕ) (to : ℕ → ℕ) (rule_number : ℕ) (positions : List ℕ) (m : ℕ) where
  abbrev r' : HeapReading
  r' = record { name = name; names = r.names; rule = r.rule }

  -- The rule fires in membrane m, at or below membrane x, and what is left there stands as the raw level says; O is what stands outside.
  pub record RawFrom (x : ℕ) (i : Forest) (O : Process) : Type 0 where
    pub path : List ℕ
    pub leads : Leads h m path x
    pub raw : Level
    pub fires : RawAt path rule_number positions (region_at h r x i) raw
    pub closed : Closed (pair (level_process raw) (renamed of_solid O))
    pub stands : StandAs h' (record { name = name; names = r.names; rule = r.rule }) (x ∷ []) (region_and (fused_level to raw) no_region)
    pub joins : Joins to (level_process raw)

  -- so it is beside each process with which the links stay below a number
  abbrev pub Firing : ℕ → ℕ → Forest → Type 0
  Firing limit x i = (O : Process) → Closed (pair (region_process (region_at h r x i)) O) → link_bound (region_process (region_at h r x i)) + link_bound O ≤ limit → RawFrom x i O

  module _ (limit : ℕ) (mi : Forest) (formed : Forms h mi (mems_in h m)) (here : Firing limit m mi) where
    -- the tree of a forest in which the rule fires
    record FoundIn (f : Forest) (ms : List ℕ) : Type 0 where
      pub place : ℕ
      pub child : ℕ
      pub inner : Forest
      pub others : Forest
      pub taken : TakenTree place child inner f others
      pub at : slice_get ms place ≡ Some child
      pub fires : Firing limit child inner
      pub stands : (L : Level) → StandAs h' r' (child ∷ []) (region_and (fused_level to L) no_region) → StandAs h' r' ms (fused_levels to (levels (replaced place L (kept_membranes (regions_at h r f)))))
      pub joins : (L : Level) → Joins to (level_process L) → Joins to (together (levels_processes (levels (replaced place L (kept_membranes (regions_at h r f))))))

    abbrev Outer : Forest → Type 0
    Outer f = (y : ℕ) → In y (flat f) → (In y (m ∷ flat mi) → ⊥) → Untouched h h' r name to y

    -- one membrane more round it
    step : (x : ℕ) (i : Forest) → FoundIn i (mems_in h x) → Untouched h h' r name to x → Firing limit x i
    step x i w u O c below =
        let xs = atoms_at h r (atoms_in h x) in
        let rs = map r.rule (rules_in h x) in
        let ms' = regions_at h r w.others in
        let S = region_at h r x i in
        let Q = region_process (region xs ms' rs) in
        let k = taken_region h r w.taken in
        let out = region_out xs rs k in
        let m' = region_process (region_at h r w.child w.inner) in
        let a = w.fires (pair Q O) (closed_as (pair (region_process S) O) (pair m' (pair Q O)) (λ z. omega (arith, reordered_count out z)) c)
        (taken_out (link_bound (region_process S)) (link_bound m') (link_bound Q) (link_bound O) limit (reordered_bound out) below) in
        let order = below_order xs rs a.raw k in
        let inside = replaced w.place a.raw (kept_membranes (regions_at h r i)) in
        let raw = level (kept_atoms xs) (levels inside) [] [] (listed_rules rs) in
        record {
          path = w.place ∷ a.path;
          leads = enters {n = w.place} {x = x} {y = w.child} {path = a.path} w.at a.leads;
          raw = raw;
          fires = fires_below {path = a.path} {L = a.raw} k a.fires;
          closed = closed_as (pair (level_process a.raw) (renamed of_solid (pair Q O))) (pair (level_process raw) (renamed of_solid O)) (λ z. omega (arith, reordered_count order z)) a.closed;
          stands = kept_one h h' r name to x [] inside [] u (w.stands a.raw a.stands) none_stands;
          joins = (kept_atoms_join to xs, (w.joins a.raw a.joins, rules_join to (rules_list (listed_rules rs))));
        }

    behind_first : (x : ℕ) (ns : List ℕ) (L : Level) (others : List Level) → StandAs h' r' (x ∷ []) (region_and (fused_level to L) no_region) → StandAs h' r' ns (fused_levels to (levels others)) → StandAs h' r' (x ∷ ns) (fused_levels to (levels (L ∷ others)))
    behind_first x ns L others s t = by s refl
      where
        by : {R : Regions} → StandAs h' r' (x ∷ []) R → R ≡ region_and (fused_level to L) no_region → StandAs h' r' (x ∷ ns) (fused_levels to (levels (L ∷ others)))
        by (one_stands {is = is} a b) e =
            let same : region (atoms_at h' r' (atoms_in h' x)) is (map r.rule (rules_in h' x)) ≡ fused_level to L = cc in
            subst (λ z. StandAs h' r' (x ∷ ns) (region_and z (fused_levels to (levels others)))) same (one_stands a t)

    -- the first tree of a forest
    found_first : (k : ℕ) (i f : Forest) (ms : List ℕ) → Forms h (mem k i f) ms → ((y : ℕ) → In y (flat f) → Untouched h h' r name to y) → Firing limit k i → FoundIn (mem k i f) ms
    found_first k i f ms F u fires = record {
      place = 0;
      child = k;
      inner = i;
      others = f;
      taken = tree_first;
      at = subst (λ z. slice_get z 0 ≡ Some k) (sym F.1) refl;
      fires = fires;
      stands = λ L s. subst (λ xs. StandAs h' r' xs (fused_levels to (levels (L ∷ kept_membranes (regions_at h r f))))) (sym F.1) (behind_first k F.0 L (kept_membranes (regions_at h r f)) s (kept_stand h h' r name to f F.0 F.3 u));
      joins = λ L j. (j, kept_membranes_join to (regions_at h r f));
    }

    -- a later one
    found_later : (k : ℕ) (i f : Forest) (ms : List ℕ) (F : Forms h (mem k i f) ms) → ((y : ℕ) → In y (k ∷ flat i) → Untouched h h' r name to y) → FoundIn f F.0 → FoundIn (mem k i f) ms
    found_later k i f ms F u w = record {
      place = suc w.place;
      child = w.child;
      inner = w.inner;
      others = mem k i w.others;
      taken = tree_later w.taken;
      at = subst (λ z. slice_get z (suc w.place) ≡ Some w.child) (sym F.1) w.at;
      fires = w.fires;
      stands = λ L s. subst (λ xs. StandAs h' r' xs (fused_levels to (levels (replaced (suc w.place) L (kept_membranes (regions_at h r (mem k i f))))))) (sym F.1)
          (kept_one h h' r name to k F.0 (kept_membranes (regions_at h r i)) (replaced w.place L (kept_membranes (regions_at h r f))) (u k (inl refl))
          (kept_stand h h' r name to i (mems_in h k) F.2 (λ y p. u y (inr p))) (w.stands L s));
      joins = λ L j. (kept_level_joins to (region_at h r k i), w.joins L j);
    }

    find : (f : Forest) (ms : List ℕ) → Forms h f ms → Distinct (flat f) → Outer f → In m (flat f) → FoundIn f ms
    find bare ms F d u p = absurd p
    find (mem k i f) ms F d u (inl e) =
        let same = forms_one h mi i (mems_in h k) (subst (λ z. Forms h mi (mems_in h z)) (sym e) formed) F.2 in
        found_first k i f ms F
        (λ y q. u y (inr (in_right y (flat i) (flat f) q)) (λ w. elim w [
          | inl z ↦ each_in (λ v. k ≢ v) (flat i ++ flat f) y d.0 (in_right y (flat i) (flat f) q) (e ∙ z)
          | inr z ↦ apart (flat i) (flat f) y y d.1 (subst (λ v. In y (flat v)) same z) q refl
        ]))
        (subst (λ z. Firing limit z i) (sym e) (subst (Firing limit m) same here))
    find (mem k i f) ms F d u (inr p) = elim (in_either m (flat i) (flat f) p) [
      | inl a ↦ (let w = find i (mems_in h k) F.2 (distinct_left (flat i) (flat f) d.1) (λ y q o. u y (inr (in_left y (flat i) (flat f) q)) o) a in
          let within = inner_within h m mi formed i (mems_in h k) F.2 a in
          found_first k i f ms F
          (λ y q. u y (inr (in_right y (flat i) (flat f) q)) (λ z. apart (flat i) (flat f) y y d.1 (within y z) q refl))
          (step k i w (u k (inl refl) (λ z. each_in (λ v. k ≢ v) (flat i ++ flat f) k d.0 (in_left k (flat i) (flat f) (within k z)) refl))))
      | inr b ↦ (let w = find f F.0 F.3 (distinct_right (flat i) (flat f) d.1) (λ y q o. u y (inr (in_right y (flat i) (flat f) q)) o) b in
          let within = inner_within h m mi formed f F.0 F.3 b in
          found_later k i f ms F (λ y q. elim q [
            | inl e ↦ u y (inl e) (λ z. each_in (λ v. k ≢ v) (flat i ++ flat f) y d.0 (in_right y (flat i) (flat f) (within y z)) e)
            | inr j ↦ u y (inr (in_left y (flat i) (flat f) j)) (λ z. apart (flat i) (flat f) y y d.1 j (within y z) refl)
          ]) w)
    ]

    -- where the rule fires in one of the membranes of a tree, what is left of the whole tree stands as a raw level says
    pub from_root : (x : ℕ) (i : Forest) → Forms h i (mems_in h x) → Distinct (x ∷ flat i) → ((y : ℕ) → In y (x ∷ flat i) → (In y (m ∷ flat mi) → ⊥) → Untouched h h' r name to y) → In m (x ∷ flat i) → Firing limit x i
    from_root x i F d u (inl e) =
        let same = forms_one h mi i (mems_in h x) (subst (λ z. Forms h mi (mems_in h z)) (sym e) formed) F in
        subst (λ z. Firing limit z i) (sym e) (subst (Firing limit m) same here)
    from_root x i F d u (inr p) =
        step x i (find i (mems_in h x) F d.1 (λ y q o. u y (inr q) o) p)
        (u x (inl refl) (λ z. each_in (λ v. x ≢ v) (flat i) x d.0 (inner_within h m mi formed i (mems_in h x) F p x z) refl))
