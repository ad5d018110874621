-- The atoms of a heap as a map of atoms, in which parts are read.
use Rattle.lmn_base.specs.Graphs.{AtomMap}
use Rattle.lmn_store_heap.specs.Heap.{Heap, functor_of, link_of, home_of}

-- functors, partners and homes as they stand
abbrev pub atom_map : Heap → AtomMap
atom_map s = record { functor = functor_of s; partner = λ p. link_of s p.0 p.1; home = home_of s }
