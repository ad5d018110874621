-- What stands in membranes of a heap, as regions, without their forest.
use Rattle.std.specs.Prelude.{ℕ, List, [], ◌∷◌, map}
use Rattle.lmn_store_heap.specs.Heap.{Heap, atoms_in, mems_in, rules_in}
use Rattle.lmn_congruence.specs.Regions.{Regions, no_region, region, region_and}
use Rattle.lmn_adequacy_heaps.specs.HeapRegions.{HeapReading, atoms_at}

-- in each of these membranes stands the region at its place
pub data StandAs (h : Heap) (r : HeapReading) : List ℕ → Regions → Type 0 where
  none_stands : StandAs h r [] no_region
  one_stands : {m : ℕ} {ns : List ℕ} {is rs : Regions} → StandAs h r (mems_in h m) is → StandAs h r ns rs →
      StandAs h r (m ∷ ns) (region_and (region (atoms_at h r (atoms_in h m)) is (map r.rule (rules_in h m))) rs)
