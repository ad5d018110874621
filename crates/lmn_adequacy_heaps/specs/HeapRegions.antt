-- The solid of a heap as a region of the calculus.
use Rattle.std.specs.Prelude.{ℕ, List, map}
use Rattle.lmn_store_heap.specs.Heap.{Heap, atoms_in, rules_in}
use Rattle.lmn_store_heap.specs.Sound.{Forest, bare, mem}
use Rattle.lmn_store_heap.specs.Solid.{solid_atoms_at}
use Rattle.lmn_congruence.specs.Rules.{Name, Rule}
use Rattle.lmn_congruence.specs.Regions.{SolidAtom, Region, Regions, region, no_region, region_and}
use Rattle.lmn_congruence.specs.Translation.{solid_atom_of}

-- How a heap is read.
--   name   the number of the link at a port
--   names  the bytes of each name, by its number
--   rule   the rule with a number
pub record HeapReading : Type 0 where
  pub name : ℕ → ℕ → ℕ
  pub names : List Name
  pub rule : ℕ → Rule

-- the atoms of a list, as they stand in a region
abbrev pub atoms_at : Heap → HeapReading → List ℕ → List SolidAtom
atoms_at h r xs = map (solid_atom_of r.names) (solid_atoms_at h r.name xs)

-- what stands in the membranes of a forest
abbrev pub regions_at : Heap → HeapReading → Forest → Regions
regions_at h r bare = no_region
regions_at h r (mem m inner rest) =
    region_and (region (atoms_at h r (atoms_in h m)) (regions_at h r inner) (map r.rule (rules_in h m))) (regions_at h r rest)

-- what stands in a membrane, whose membranes form a forest
abbrev pub region_at : Heap → HeapReading → ℕ → Forest → Region
region_at h r m inner = region (atoms_at h r (atoms_in h m)) (regions_at h r inner) (map r.rule (rules_in h m))
