-- What a firing makes is a raw level of the calculus.
use Rattle.std.proofs.Common.{ℕ, zero, suc, ◌≡◌, ◌≢◌, ◌+◌, ◌<◌, ◌≤◌, Bool, true, false, cond, List, [], ◌∷◌, ◌++◌, map, refl, sym, ap, subst, ◌∙◌, inl, inr, arith}
use Rattle.std.specs.Prelude.{◌==◌, Some, slice_get}
use Rattle.std.proofs.lemmas.List.{append_assoc}
use Rattle.lmn_base.proofs.Lists.{in_either, map_append, plus_nothing}
use Rattle.lmn_base.proofs.Numbers.{not_equal, same_or_not}
use Rattle.lmn_base.specs.Lists.{In}
use Rattle.lmn_base.specs.declared.solid.SolidAtom.{SolidAtom}
use Rattle.lmn_congruence.specs.LinkedRules.{level_occurrences}
use Rattle.lmn_congruence.specs.Plains.{fused_leaves, fused_level, level_process}
use Rattle.lmn_congruence.specs.Process.{Closed, Process, occurrences, pair, renamed}
use Rattle.lmn_congruence.specs.Regions.{Region, Regions, region, region_and, region_process}
use Rattle.lmn_congruence.specs.Rules as tree
use Rattle.lmn_congruence.specs.Rules.{Name, connector_leaf}
use Rattle.lmn_congruence.specs.Translation.{levels, rules as listed_rules}
use Rattle.lmn_adequacy.specs.Embedding.{TakenRegion, region_first, region_later}
use Rattle.lmn_adequacy.specs.Next.{RawAt, fires_below, kept_atoms, kept_membranes, raw_level, replaced, wire_leaves}
use Rattle.lmn_congruence.proofs.Reordered.{reordered_count}
use Rattle.lmn_adequacy.proofs.Commits.{closed_as, region_out}
use Rattle.lmn_adequacy.proofs.Existence.{below_order}
use Rattle.lmn_store_heap.specs.Heap.{atoms_in, mems_in, rules_in}
use Rattle.lmn_store_heap.specs.Lists.{Distinct}
use Rattle.lmn_store_heap.specs.Sound.{Forest, bare, mem, flat as members, Forms}
use Rattle.lmn_store_heap.proofs.Groves.{forms_one}
use Rattle.lmn_store_heap.proofs.ListLemmas.{apart, distinct_left, distinct_right, each_in, in_left, in_right}
use Rattle.lmn_adequacy_heaps.specs.HeapRegions.{HeapReading, atoms_at, region_at, regions_at}
use Rattle.lmn_adequacy_heaps.proofs.Forests.{forms_tops, tops}
use Rattle.lmn_adequacy_turns.specs.Turning.{Leads, enters}
use Rattle.lmn_solid_settle.specs.Raw.{RawRegion, RawRegions, raw, raw_and}
use Rattle.lmn_congruence_splice.specs.Splice.{of_rule, of_solid}
use Rattle.lmn_solid_tables.specs.Flats.{heap_of, link_at}
use Rattle.lmn_solid_tables.specs.declared.flat.Flat.{Flat}
use Rattle.lmn_solid_firing.specs.declared.writing.Writing.TheVariants.{Shifted}
use Rattle.lmn_solid_firing.specs.Making.{fired_region, fired_regions, raws_append, raws_at, written_atoms}
use Rattle.lmn_solid_firing.specs.Meant.{wire_pairs}
use Rattle.lmn_solid_firing.specs.Spelled.{leaf_connectors, level_connectors, levels_connectors, mapped_pair}
use Rattle.lmn_solid_firing.proofs.MadeLeaves.{connectors_both}
use Rattle.lmn_solid_firing.proofs.MadeLevels.{kept_leaves, kept_none, kept_one, levels_connectors_both}
use Rattle.lmn_solid_firing.proofs.NumberLemmas.{of_kept, of_own, raw_link}
use Rattle.lmn_solid_firing.proofs.Reading.{Spelt, atoms_read, forest_read, kept_fused, kept_spelt, leaves_fused, level_spelt, read_atom, read_region, read_regions, spelt_both}

-- a membrane with what is in it, of a forest
distinct_first : (k : ℕ) (i f : Forest) → Distinct (k ∷ (members i ++ members f)) → Distinct (k ∷ members i)
distinct_first k i f d = distinct_left (k ∷ members i) (members f) d

-- ---- wires

pub wires_fused : (f : ℕ → ℕ) (l : tree.Level) (n : ℕ) → fused_leaves (λ z. z) (wire_leaves f l n) ≡ []
wires_fused f l zero = refl
wires_fused f l (suc n) = by (level_occurrences n l == 1) (wires_fused f l n)
  where
    by : (b : Bool) → fused_leaves (λ z. z) (wire_leaves f l n) ≡ [] → fused_leaves (λ z. z) (cond b (connector_leaf (of_rule n) (of_solid (f n)) ∷ wire_leaves f l n) (wire_leaves f l n)) ≡ []
    by true e = e
    by false e = e

pub wires_read : (F R : ℕ) (f : ℕ → ℕ) (l : tree.Level) → ((x : ℕ) → level_occurrences x l ≡ 1 → f x < F) → (n : ℕ) → n ≤ R → leaf_connectors (wire_leaves f l n) ≡ map (mapped_pair (raw_link F R)) (wire_pairs F f l n)
wires_read F R f l low zero m = refl
wires_read F R f l low (suc n) m = by (level_occurrences n l == 1) (one (level_occurrences n l)) (wires_read F R f l low n (omega (arith, m)))
  where
    one : (k : ℕ) → (k == 1) ≡ true → k ≡ 1
    one k e = elim (same_or_not k 1) [ inl s ↦ s | inr d ↦ absurd (let z : true ≡ false = sym e ∙ not_equal k 1 d in cc) ]

    by : (b : Bool) → (b ≡ true → level_occurrences n l ≡ 1) → leaf_connectors (wire_leaves f l n) ≡ map (mapped_pair (raw_link F R)) (wire_pairs F f l n) →
        leaf_connectors (cond b (connector_leaf (of_rule n) (of_solid (f n)) ∷ wire_leaves f l n) (wire_leaves f l n)) ≡ map (mapped_pair (raw_link F R)) (cond b ((F + n, f n) ∷ wire_pairs F f l n) (wire_pairs F f l n))
    by true o e = λ i. (sym (of_own F R n (omega (arith, m))) i, sym (of_kept F R (f n) (low n (o refl))) i) ∷ e i
    by false o e = e

module _ (flat : Flat) (names : List Name) (rule : ℕ → tree.Rule) (F R : ℕ) (below : (a i : ℕ) → link_at flat a i < F) where
  abbrev reading : HeapReading
  reading = record { name = link_at flat; names = names; rule = rule }

  kept_link : (y : ℕ) → y < F → raw_link F R (0 + y) ≡ of_solid y
  kept_link y l = let z : 0 + y ≡ y = omega arith in ap (raw_link F R) z ∙ of_kept F R y l

  -- ---- the membrane in which the rule fires

  pub home_spelt : (as' : List ℕ) (f : Forest) (ks : List ℕ) (wires outs : List tree.Leaf) (made : List tree.Level) (rs : List tree.Rule) (xs : List SolidAtom) (ms : RawRegions) (ns : List ℕ) (ws ps : List (ℕ × ℕ)) →
      fused_leaves (λ z. z) wires ≡ [] → leaf_connectors wires ≡ map (mapped_pair (raw_link F R)) ws →
      fused_leaves (λ z. z) outs ≡ map (read_atom names (raw_link F R)) xs → Spelt names rule (raw_link F R) made ms → rs ≡ map rule ns →
      leaf_connectors outs ++ levels_connectors (levels made) ≡ map (mapped_pair (raw_link F R)) ps →
      let h = heap_of flat in
      let r : HeapReading = record { name = link_at flat; names = names; rule = rule } in
      let L = raw_level (region (atoms_at h r as') (regions_at h r f) (map rule ks)) wires outs made rs in
      (fused_level (λ z. z) L ≡ read_region names rule (raw_link F R) (raw (written_atoms flat (Shifted 0) as' ++ xs) (raws_append (raws_at flat (Shifted 0) f) ms) (ks ++ ns)))
      × (level_connectors L ≡ map (mapped_pair (raw_link F R)) (ws ++ ps))
  home_spelt as' f ks wires outs made rs xs ms ns ws ps none w a s e p =
      let v = raw_link F R in
      let S = regions_at (heap_of flat) reading f in
      let kept = atoms_at (heap_of flat) reading as' in (
        level_spelt names rule v (kept_atoms kept ++ (wires ++ outs)) (kept_membranes S ++ made) (map rule ks ++ rs) (written_atoms flat (Shifted 0) as' ++ xs) (raws_append (raws_at flat (Shifted 0) f) ms) (ks ++ ns)
            (leaves_fused (kept_atoms kept) (wires ++ outs)
            ∙ (λ i. (kept_fused kept ∙ sym (atoms_read flat names rule F below v of_solid (Shifted 0) kept_link as')) i ++ (leaves_fused wires outs ∙ (λ j. none j ++ a j)) i)
            ∙ sym (map_append (read_atom names v) (written_atoms flat (Shifted 0) as') xs))
            (spelt_both names rule v (kept_membranes S) made (raws_at flat (Shifted 0) f) ms (kept_spelt names rule v S (raws_at flat (Shifted 0) f) (forest_read flat names rule F below v of_solid (Shifted 0) kept_link f)) s)
            (ap (λ z. map rule ks ++ z) e ∙ sym (map_append rule ks ns)),
        (λ i. (connectors_both (kept_atoms kept) (wires ++ outs) ∙ (λ j. kept_leaves kept j ++ connectors_both wires outs j)) i ++ (levels_connectors_both (kept_membranes S) made ∙ (λ j. kept_none S j ++ levels_connectors (levels made))) i)
            ∙ append_assoc (leaf_connectors wires) (leaf_connectors outs) (levels_connectors (levels made))
            ∙ (λ i. w i ++ p i)
            ∙ sym (map_append (mapped_pair v) ws ps),
      )

  -- ---- the whole region

  module _ (accepted : Type 0) (index : ℕ) (ns : List ℕ) (home : ℕ) (mi : Forest) (formed : Forms (heap_of flat) mi (mems_in (heap_of flat) home)) (made : RawRegion) (ps : List (ℕ × ℕ)) where
    -- a raw level is closed beside each process beside which a region is, where both have links below a number
    abbrev pub Closes : Region → tree.Level → Type 0
    Closes S L = accepted → (O : Process) → Closed (pair (region_process S) O) → ((z : ℕ) → F ≤ z → occurrences z (pair (region_process S) O) ≡ 0) → Closed (pair (level_process L) (renamed of_solid O))

    -- the rule fires at or below a membrane, and what is made there is spelled
    pub record FiredAt (x : ℕ) (i : Forest) : Type 0 where
      pub path : List ℕ
      pub leads : Leads (heap_of flat) home path x
      pub level : tree.Level
      pub fires : RawAt path index ns (region_at (heap_of flat) (record { name = link_at flat; names = names; rule = rule }) x i) level
      pub is : fused_level (λ z. z) level ≡ read_region names rule (raw_link F R) (fired_region flat home made x i)
      pub pairs : level_connectors level ≡ map (mapped_pair (raw_link F R)) ps
      pub closes : Closes (region_at (heap_of flat) (record { name = link_at flat; names = names; rule = rule }) x i) level

    record FoundAt (f : Forest) : Type 0 where
      pub place : ℕ
      pub child : Region
      pub others : Regions
      pub taken : TakenRegion place child (regions_at (heap_of flat) (record { name = link_at flat; names = names; rule = rule }) f) others
      pub top : ℕ
      pub at : slice_get (tops f) place ≡ Some top
      pub path : List ℕ
      pub leads : Leads (heap_of flat) home path top
      pub level : tree.Level
      pub fires : RawAt path index ns child level
      pub spelt : Spelt names rule (raw_link F R) (replaced place level (kept_membranes (regions_at (heap_of flat) (record { name = link_at flat; names = names; rule = rule }) f))) (fired_regions flat home made f)
      pub pairs : levels_connectors (levels (replaced place level (kept_membranes (regions_at (heap_of flat) (record { name = link_at flat; names = names; rule = rule }) f)))) ≡ map (mapped_pair (raw_link F R)) ps
      pub closes : Closes child level

    as_other : (b : Bool) (o : RawRegion) → b ≡ false → cond b made o ≡ o
    as_other b o e = ap (λ c. cond c made o) e

    -- a forest in which it doesn't fire
    untouched : (f : Forest) → (In home (members f) → ⊥) → fired_regions flat home made f ≡ raws_at flat (Shifted 0) f
    untouched bare o = refl
    untouched (mem m i f) o =
        λ j. raw_and ((as_other (m == home) _ (not_equal m home (λ e. o (inl e))) ∙ ap (λ z. raw (written_atoms flat (Shifted 0) (atoms_in (heap_of flat) m)) z (rules_in (heap_of flat) m)) (untouched i (λ q. o (inr (in_left home (members i) (members f) q))))) j)
        (untouched f (λ q. o (inr (in_right home (members i) (members f) q))) j)

    forest_spelt : (f : Forest) → (In home (members f) → ⊥) → Spelt names rule (raw_link F R) (kept_membranes (regions_at (heap_of flat) reading f)) (fired_regions flat home made f)
    forest_spelt f o =
        kept_spelt names rule (raw_link F R) (regions_at (heap_of flat) reading f) (fired_regions flat home made f)
        (ap (read_regions names rule (raw_link F R)) (untouched f o) ∙ forest_read flat names rule F below (raw_link F R) of_solid (Shifted 0) kept_link f)

    module _ (here : FiredAt home mi) where
      -- one membrane round it
      fired_from : (x : ℕ) (i : Forest) → Forms (heap_of flat) i (mems_in (heap_of flat) x) → Distinct (x ∷ members i) → (In home (members i) → FoundAt i) → In home (x ∷ members i) → FiredAt x i
      fired_from x i f d g (inl e) =
          let same = forms_one (heap_of flat) mi i (mems_in (heap_of flat) home) formed (subst (λ z. Forms (heap_of flat) i (mems_in (heap_of flat) z)) e f) in
          subst (λ z. FiredAt z i) (sym e) (subst (FiredAt home) same here)
      fired_from x i f d g (inr p) =
          let u = g p in
          let rs = map rule (rules_in (heap_of flat) x) in
          let xs = atoms_at (heap_of flat) reading (atoms_in (heap_of flat) x) in
          let S = regions_at (heap_of flat) reading i in
          let other = as_other (x == home) (raw (written_atoms flat (Shifted 0) (atoms_in (heap_of flat) x)) (fired_regions flat home made i) (rules_in (heap_of flat) x)) (not_equal x home (λ e. each_in (λ v. x ≢ v) (members i) home d.0 p e)) in record {
            path = u.place ∷ u.path;
            leads = enters (subst (λ z. slice_get z u.place ≡ Some u.top) (forms_tops (heap_of flat) i (mems_in (heap_of flat) x) f) u.at) u.leads;
            level = tree.level (kept_atoms xs) (levels (replaced u.place u.level (kept_membranes S))) [] [] (listed_rules rs);
            fires = fires_below {path = u.path} {L = u.level} u.taken u.fires;
            is = level_spelt names rule (raw_link F R) (kept_atoms xs) (replaced u.place u.level (kept_membranes S)) rs (written_atoms flat (Shifted 0) (atoms_in (heap_of flat) x)) (fired_regions flat home made i) (rules_in (heap_of flat) x)
                (kept_fused xs ∙ sym (atoms_read flat names rule F below (raw_link F R) of_solid (Shifted 0) kept_link (atoms_in (heap_of flat) x))) u.spelt refl
                ∙ ap (read_region names rule (raw_link F R)) (sym other);
            pairs = (λ j. kept_leaves xs j ++ u.pairs j);
            closes = λ a O closed low.
                let Q = region_process (region xs u.others rs) in
                let P = region_process (region xs S rs) in
                let child = region_process u.child in
                let L' = tree.level (kept_atoms xs) (levels (replaced u.place u.level (kept_membranes S))) [] [] (listed_rules rs) in
                let out = region_out xs rs u.taken in
                let order = below_order xs rs u.level u.taken in
                let same : (z : ℕ) → occurrences z (pair P O) ≡ occurrences z (pair child (pair Q O)) = λ z. omega (arith, reordered_count out z) in
                closed_as (pair (level_process u.level) (renamed of_solid (pair Q O))) (pair (level_process L') (renamed of_solid O)) (λ z. omega (arith, reordered_count order z))
                (u.closes a (pair Q O) (closed_as (pair P O) (pair child (pair Q O)) same closed) (λ z m. sym (same z) ∙ low z m));
          }

      -- it fires in the first tree of a forest
      in_first : (k : ℕ) (i f : Forest) → (In home (members f) → ⊥) → FiredAt k i → FoundAt (mem k i f)
      in_first k i f o u = record {
        place = 0;
        child = region_at (heap_of flat) reading k i;
        others = regions_at (heap_of flat) reading f;
        taken = region_first;
        top = k;
        at = refl;
        path = u.path;
        leads = u.leads;
        level = u.level;
        fires = u.fires;
        spelt = (u.is, forest_spelt f o);
        pairs = (λ j. u.pairs j ++ kept_none (regions_at (heap_of flat) reading f) j) ∙ plus_nothing (map (mapped_pair (raw_link F R)) ps);
        closes = u.closes;
      }

      -- or in a later one
      in_later : (k : ℕ) (i f : Forest) → (In home (k ∷ members i) → ⊥) → FoundAt f → FoundAt (mem k i f)
      in_later k i f o u =
          let first = forest_spelt (mem k i bare) (λ q. elim q [ inl e ↦ o (inl e) | inr w ↦ elim (in_either home (members i) [] w) [ inl a ↦ o (inr a) | inr b ↦ elim b [ ] ] ]) in record {
            place = suc u.place;
            child = u.child;
            others = region_and (region_at (heap_of flat) reading k i) u.others;
            taken = region_later u.taken;
            top = u.top;
            at = u.at;
            path = u.path;
            leads = u.leads;
            level = u.level;
            fires = u.fires;
            spelt = (first.0, u.spelt);
            pairs = (λ j. kept_one (region_at (heap_of flat) reading k i) j ++ u.pairs j);
            closes = u.closes;
          }

      find : (f : Forest) (ms : List ℕ) → Forms (heap_of flat) f ms → Distinct (members f) → In home (members f) → FoundAt f
      find bare ms g d p = absurd p
      find (mem k i f) ms g d (inl e) =
          in_first k i f (λ q. each_in (λ v. k ≢ v) (members i ++ members f) home d.0 (in_right home (members i) (members f) q) e)
          (fired_from k i g.2 (distinct_first k i f d) (λ q. find i (mems_in (heap_of flat) k) g.2 (distinct_left (members i) (members f) d.1) q) (inl e))
      find (mem k i f) ms g d (inr p) = elim (in_either home (members i) (members f) p) [
        | inl a ↦ in_first k i f (λ q. apart (members i) (members f) home home d.1 a q refl)
            (fired_from k i g.2 (distinct_first k i f d) (λ q. find i (mems_in (heap_of flat) k) g.2 (distinct_left (members i) (members f) d.1) q) (inr a))
        | inr b ↦ in_later k i f (λ q. elim q [
          | inl e ↦ each_in (λ v. k ≢ v) (members i ++ members f) home d.0 (in_right home (members i) (members f) b) e
          | inr w ↦ apart (members i) (members f) home home d.1 w b refl
        ]) (find f g.0 g.3 (distinct_right (members i) (members f) d.1) b)
      ]

      -- the whole region
      pub root_fires : (x : ℕ) (i : Forest) → Forms (heap_of flat) i (mems_in (heap_of flat) x) → Distinct (x ∷ members i) → In home (x ∷ members i) → FiredAt x i
      root_fires x i f d p = fired_from x i f d (λ q. find i (mems_in (heap_of flat) x) f d.1 q) p
