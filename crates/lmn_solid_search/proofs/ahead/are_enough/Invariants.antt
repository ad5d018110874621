use Rattle.std.proofs.Common.{◌≡◌, ◌+◌, drop, length}
use Rattle.lmn_solid_tables.specs.Flats.{heap_of}
use Rattle.lmn_store_heap.specs.Functors.{with_functor}
use Rattle.lmn_solid_search.proofs.ahead.are_enough.Given as goal

abbrev pub invariant-loop-atom : goal.invariant-loop-atom
invariant-loop-atom l = l.missing + length (with_functor (heap_of l.flat) l.functor l.atoms) ≡ l.count + length (with_functor (heap_of l.flat) l.functor (drop l.atom-index l.atoms))
