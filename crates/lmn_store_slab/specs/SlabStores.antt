-- What a store over slabs keeps in its fields.
use Rattle.lmn_store_slab.specs.declared.slab_store.SlabStore.TheInside.{Inside}
use Rattle.lmn_store_slab.specs.Kept.{Kept, AlwaysHolds}

abbrev pub kept_by : Inside → Kept
kept_by s = record { atoms = s.atoms.slots; mems = s.mems.slots; atom_lists = s.atom_lists; mem_lists = s.mem_lists }

abbrev pub IsKept : Inside → Type 0
IsKept s = AlwaysHolds (kept_by s) s.atom_count s.mem_count s.spare_count
