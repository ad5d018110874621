use Rattle.std.proofs.Common.{◌↔◌, ◌⊎◌, ℕ, take}
use Rattle.lmn_base.specs.Lists.{In}
use Rattle.lmn_store_heap.specs.Heap.{atoms_in}
use Rattle.lmn_solid_tables.specs.Flats.{heap_of}
use Rattle.lmn_solid_search.proofs.closed.add_atoms.Given as goal

abbrev pub invariant-loop-membrane : goal.invariant-loop-membrane
invariant-loop-membrane l = (a : ℕ) → In a l.list ↔ (In a l.fn.list ⊎ ((m : ℕ) × In m (take l.membrane-index l.membranes) × In a (atoms_in (heap_of l.flat) m)))
