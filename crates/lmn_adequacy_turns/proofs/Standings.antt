-- What stands in membranes is what their forest says; and lists of membranes side by side.
use Rattle.std.proofs.Common.{ℕ, ◌≡◌, List, [], ◌∷◌, ◌++◌, map, refl, sym, subst}
use Rattle.lmn_store_heap.specs.Heap.{Heap, atoms_in, mems_in, rules_in}
use Rattle.lmn_store_heap.specs.Sound.{Forest, bare, mem, Forms}
use Rattle.lmn_congruence.specs.Plains.{fused_level, fused_levels}
use Rattle.lmn_congruence.specs.Regions.{Regions, no_region, region, region_and}
use Rattle.lmn_congruence.specs.Rules.{Level}
use Rattle.lmn_congruence.specs.Translation.{levels}
use Rattle.lmn_adequacy_heaps.specs.HeapRegions.{HeapReading, atoms_at, regions_at}
use Rattle.lmn_adequacy_turns.specs.Standing.{StandAs, none_stands, one_stands}

-- what stands in the membranes of a forest is one, and the forest says it
pub stands_one : (h : Heap) (r : HeapReading) (f : Forest) (ms : List ℕ) {rs : Regions} → Forms h f ms → StandAs h r ms rs → rs ≡ regions_at h r f
stands_one h r bare [] F none_stands = refl
stands_one h r bare (m ∷ ns) F (one_stands i t) = absurd (cc)
stands_one h r (mem k i f) [] F none_stands = absurd (let e : [] ≡ k ∷ F.0 = F.1 in cc)
stands_one h r (mem k i f) (m ∷ ns) F (one_stands {is = is} {rs = rs} s t) =
    let head : m ≡ k = cc (F.1) in
    let tail : ns ≡ F.0 = cc (F.1) in
    let inner = stands_one h r i (mems_in h m) (subst (λ z. Forms h i (mems_in h z)) (sym head) F.2) s in
    let rest = stands_one h r f ns (subst (Forms h f) (sym tail) F.3) t in
    subst (λ z. region_and (region (atoms_at h r (atoms_in h m)) is (map r.rule (rules_in h m))) rs ≡ region_and (region (atoms_at h r (atoms_in h z)) (regions_at h r i) (map r.rule (rules_in h z))) (regions_at h r f)) head
    (λ j. region_and (region (atoms_at h r (atoms_in h m)) (inner j) (map r.rule (rules_in h m))) (rest j))

-- levels side by side
pub stand_both : (h : Heap) (r : HeapReading) (to : ℕ → ℕ) (ns ks : List ℕ) (xs ys : List Level) → StandAs h r ns (fused_levels to (levels xs)) → StandAs h r ks (fused_levels to (levels ys)) → StandAs h r (ns ++ ks) (fused_levels to (levels (xs ++ ys)))
stand_both h r to ns ks xs ys s t = by ns xs s refl
  where
    by : (ns : List ℕ) (xs : List Level) {rs : Regions} → StandAs h r ns rs → rs ≡ fused_levels to (levels xs) → StandAs h r (ns ++ ks) (fused_levels to (levels (xs ++ ys)))
    by [] [] none_stands e = t
    by [] (x ∷ xs) none_stands e = absurd (let w : no_region ≡ region_and (fused_level to x) (fused_levels to (levels xs)) = e in cc)
    by (n ∷ ns) [] (one_stands a b) e = absurd (cc)
    by (n ∷ ns) (x ∷ xs) (one_stands {is = is} {rs = rs} a b) e =
        let first : region (atoms_at h r (atoms_in h n)) is (map r.rule (rules_in h n)) ≡ fused_level to x = cc in
        let others : rs ≡ fused_levels to (levels xs) = cc in
        subst (λ z. StandAs h r (n ∷ (ns ++ ks)) (region_and z (fused_levels to (levels (xs ++ ys))))) first (one_stands a (by ns xs b others))
