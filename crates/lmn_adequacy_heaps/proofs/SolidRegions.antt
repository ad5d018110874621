-- The region of a heap is that of its solid.
use Rattle.std.proofs.Common.{map, refl, ◌∙◌}
use Rattle.lmn_base.specs.declared.solid.Region.TheFolds.{fold-roll-Region}
use Rattle.lmn_store_heap.specs.Heap.{atoms_in, rules_in}
use Rattle.lmn_store_heap.specs.Solid.{solid_atoms_at, regions_of}
use Rattle.lmn_store_heap.specs.Sound.{bare, mem}
use Rattle.lmn_congruence.specs.Regions.{Region, region, region_and}
use Rattle.lmn_congruence.specs.Translation.{region_step}
use Rattle.lmn_adequacy_heaps.specs.HeapRegions.{atoms_at}
use Rattle.lmn_adequacy_heaps.specs.Laws.{SolidsAreRegions}

-- the region of a heap is that of its solid
pub solids_are_regions : SolidsAreRegions
solids_are_regions h r bare = refl
solids_are_regions h r (mem m i f) =
    let here = fold-roll-Region Region (region_step r.names r.rule) (record { atoms = solid_atoms_at h r.name (atoms_in h m); membranes = regions_of h r.name i; rules = rules_in h m }) in
    let inner = solids_are_regions h r i in
    let rest = solids_are_regions h r f in
    λ j. region_and ((here ∙ (λ k. region (atoms_at h r (atoms_in h m)) (inner k) (map r.rule (rules_in h m)))) j) (rest j)
