-- The graph of a heap. Laws of this crate alone cite this word.
use Rattle.lmn_store_heap.specs.Graphs.{atom_map}
use Rattle.lmn_store_heap.specs.Heap.{Heap, atoms_in, mems_in, parent_of, rules_in}
use Rattle.lmn_verify_solids.specs.Graphs.{Graph}

-- atoms and membranes with the numbers that they have in a heap
abbrev pub graph_of : Heap → Graph
graph_of h = record { root = h.root; map = atom_map h; atoms = λ m. atoms_in h m; membranes = λ m. mems_in h m; rules = λ m. rules_in h m; round = λ m. parent_of h m }
