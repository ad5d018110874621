-- What stays of a heap stands as before, links at their images.
use Rattle.std.proofs.Common.{ℕ, ◌≡◌, List, [], ◌∷◌, map, refl, sym, ap, subst, ◌∙◌, inl, inr}
use Rattle.lmn_store_heap.specs.Heap.{Heap, atoms_in, mems_in, rules_in}
use Rattle.lmn_store_heap.specs.Sound.{Forest, bare, mem, flat, Forms}
use Rattle.lmn_store_heap.proofs.ListLemmas.{in_left, in_right}
use Rattle.lmn_congruence.specs.Fused.{Joins}
use Rattle.lmn_congruence.specs.Plains.{fused_levels, leaf_process, level_process, levels_processes}
use Rattle.lmn_congruence.specs.Process.{together}
use Rattle.lmn_congruence.specs.Regions.{Region, Regions, SolidAtom, no_region, region, region_and}
use Rattle.lmn_congruence.specs.Rules.{Level, level, rules_list}
use Rattle.lmn_congruence.specs.Same.{renamed_atom, renamed_regions}
use Rattle.lmn_congruence.specs.Translation.{levels, rules as listed_rules}
use Rattle.lmn_adequacy.specs.Next.{kept_atoms, kept_level, kept_membranes}
use Rattle.lmn_adequacy_heaps.specs.HeapRegions.{HeapReading, atoms_at, regions_at}
use Rattle.lmn_adequacy_turns.specs.Standing.{StandAs, none_stands, one_stands}
use Rattle.lmn_adequacy_turns.proofs.Bodies.{fused_kept}
use Rattle.lmn_congruence_splice.specs.Splice.{of_solid}
use Rattle.lmn_congruence.proofs.Common.{rules_join, rules_listed}
use Rattle.lmn_base.specs.Lists.{In}

module _ (h h' : Heap) (r : HeapReading) (name : ℕ → ℕ → ℕ) (to : ℕ → ℕ) where
  abbrev r' : HeapReading
  r' = record { name = name; names = r.names; rule = r.rule }

  -- a membrane that is as before, but for the numbers of its links
  pub record Untouched (x : ℕ) : Type 0 where
    pub atoms : atoms_at h' (record { name = name; names = r.names; rule = r.rule }) (atoms_in h' x) ≡ map (renamed_atom (λ z. to (of_solid z))) (atoms_at h r (atoms_in h x))
    pub mems : mems_in h' x ≡ mems_in h x
    pub rules : rules_in h' x ≡ rules_in h x

  -- one such membrane, and what stands in it and beside it
  pub kept_one : (m : ℕ) (ns : List ℕ) (inner others : List Level) → Untouched m → StandAs h' (record { name = name; names = r.names; rule = r.rule }) (mems_in h m) (fused_levels to (levels inner)) →
      StandAs h' (record { name = name; names = r.names; rule = r.rule }) ns (fused_levels to (levels others)) →
      StandAs h' (record { name = name; names = r.names; rule = r.rule }) (m ∷ ns) (fused_levels to (levels (level (kept_atoms (atoms_at h r (atoms_in h m))) (levels inner) [] [] (listed_rules (map r.rule (rules_in h m))) ∷ others)))
  kept_one m ns inner others u s t =
      let atoms = u.atoms ∙ sym (fused_kept to (atoms_at h r (atoms_in h m))) in
      let rules : map r.rule (rules_in h' m) ≡ rules_list (listed_rules (map r.rule (rules_in h m))) = ap (map r.rule) u.rules ∙ sym (rules_listed (map r.rule (rules_in h m))) in
      let stands : StandAs h' r' (m ∷ ns) (region_and (region (atoms_at h' r' (atoms_in h' m)) (fused_levels to (levels inner)) (map r.rule (rules_in h' m))) (fused_levels to (levels others))) = one_stands {m = m} {ns = ns} (subst (λ xs. StandAs h' r' xs (fused_levels to (levels inner))) (sym u.mems) s) t in
      subst (λ z. StandAs h' r' (m ∷ ns) (region_and z (fused_levels to (levels others)))) (λ i. region (atoms i) (fused_levels to (levels inner)) (rules i)) stands

  -- the membranes of a forest
  pub kept_stand : (f : Forest) (ms : List ℕ) → Forms h f ms → ((x : ℕ) → In x (flat f) → Untouched x) → StandAs h' (record { name = name; names = r.names; rule = r.rule }) ms (fused_levels to (levels (kept_membranes (regions_at h r f))))
  kept_stand bare ms F u = subst (λ xs. StandAs h' r' xs no_region) (sym F) none_stands
  kept_stand (mem m i f) ms F u =
      let inner = kept_stand i (mems_in h m) F.2 (λ x p. u x (inr (in_left x (flat i) (flat f) p))) in
      let rest = kept_stand f F.0 F.3 (λ x p. u x (inr (in_right x (flat i) (flat f) p))) in
      subst (λ xs. StandAs h' r' xs (fused_levels to (levels (kept_membranes (regions_at h r (mem m i f)))))) (sym F.1)
      (kept_one m F.0 (kept_membranes (regions_at h r i)) (kept_membranes (regions_at h r f)) (u m (inl refl)) inner rest)

-- ---- copies

-- Copies of membranes of h, each link of the originals renamed by `own`.
module _ (h h' : Heap) (r : HeapReading) (name : ℕ → ℕ → ℕ) (to own copy : ℕ → ℕ) where
  -- the copy of a membrane has copies of its atoms and of its membranes, and its rules
  pub record CopiedAs (x : ℕ) : Type 0 where
    pub atoms : atoms_at h' (record { name = name; names = r.names; rule = r.rule }) (atoms_in h' (copy x)) ≡ map (renamed_atom (λ z. to (of_solid z))) (map (renamed_atom own) (atoms_at h r (atoms_in h x)))
    pub mems : mems_in h' (copy x) ≡ map copy (mems_in h x)
    pub rules : rules_in h' (copy x) ≡ rules_in h x

  copied_one : (m : ℕ) (ns : List ℕ) (inner others : List Level) → CopiedAs m → StandAs h' (record { name = name; names = r.names; rule = r.rule }) (map copy (mems_in h m)) (fused_levels to (levels inner)) →
      StandAs h' (record { name = name; names = r.names; rule = r.rule }) ns (fused_levels to (levels others)) →
      StandAs h' (record { name = name; names = r.names; rule = r.rule }) (copy m ∷ ns) (fused_levels to (levels (level (kept_atoms (map (renamed_atom own) (atoms_at h r (atoms_in h m)))) (levels inner) [] [] (listed_rules (map r.rule (rules_in h m))) ∷ others)))
  copied_one m ns inner others u s t =
      let r' : HeapReading = record { name = name; names = r.names; rule = r.rule } in
      let atoms = u.atoms ∙ sym (fused_kept to (map (renamed_atom own) (atoms_at h r (atoms_in h m)))) in
      let rules : map r.rule (rules_in h' (copy m)) ≡ rules_list (listed_rules (map r.rule (rules_in h m))) = ap (map r.rule) u.rules ∙ sym (rules_listed (map r.rule (rules_in h m))) in
      let stands : StandAs h' r' (copy m ∷ ns) (region_and (region (atoms_at h' r' (atoms_in h' (copy m))) (fused_levels to (levels inner)) (map r.rule (rules_in h' (copy m)))) (fused_levels to (levels others))) =
      one_stands {m = copy m} {ns = ns} (subst (λ xs. StandAs h' r' xs (fused_levels to (levels inner))) (sym u.mems) s) t in
      subst (λ z. StandAs h' r' (copy m ∷ ns) (region_and z (fused_levels to (levels others)))) (λ i. region (atoms i) (fused_levels to (levels inner)) (rules i)) stands

  -- the copies of the membranes of a forest
  pub copies_stand : (f : Forest) (ms : List ℕ) → Forms h f ms → ((x : ℕ) → In x (flat f) → CopiedAs x) →
      StandAs h' (record { name = name; names = r.names; rule = r.rule }) (map copy ms) (fused_levels to (levels (kept_membranes (renamed_regions own (regions_at h r f)))))
  copies_stand bare ms F u = subst (λ xs. StandAs h' (record { name = name; names = r.names; rule = r.rule }) (map copy xs) no_region) (sym F) none_stands
  copies_stand (mem m i f) ms F u =
      let inner = copies_stand i (mems_in h m) F.2 (λ x p. u x (inr (in_left x (flat i) (flat f) p))) in
      let rest = copies_stand f F.0 F.3 (λ x p. u x (inr (in_right x (flat i) (flat f) p))) in
      subst (λ xs. StandAs h' (record { name = name; names = r.names; rule = r.rule }) (map copy xs) (fused_levels to (levels (kept_membranes (renamed_regions own (regions_at h r (mem m i f))))))) (sym F.1)
      (copied_one m (map copy F.0) (kept_membranes (renamed_regions own (regions_at h r i))) (kept_membranes (renamed_regions own (regions_at h r f))) (u m (inl refl)) inner rest)

-- ---- no connector stands in what stays

-- atoms that are kept have no connector that a map would have to join
pub kept_atoms_join : (to : ℕ → ℕ) (xs : List SolidAtom) → Joins to (together (map leaf_process (kept_atoms xs)))
kept_atoms_join to [] = tt
kept_atoms_join to (x ∷ xs) = (tt, kept_atoms_join to xs)

mutual
  pub kept_level_joins : (to : ℕ → ℕ) (m : Region) → Joins to (level_process (kept_level m))
  kept_level_joins to (region xs ms rs) = (kept_atoms_join to xs, (kept_membranes_join to ms, rules_join to (rules_list (listed_rules rs))))

  pub kept_membranes_join : (to : ℕ → ℕ) (ms : Regions) → Joins to (together (levels_processes (levels (kept_membranes ms))))
  kept_membranes_join to no_region = tt
  kept_membranes_join to (region_and m ms) = (kept_level_joins to m, kept_membranes_join to ms)
