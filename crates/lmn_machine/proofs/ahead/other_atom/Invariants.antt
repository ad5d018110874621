use Rattle.std.proofs.Common.{length, drop}
use Rattle.std.specs.Option.{option_map}
use Rattle.lmn_store_heap.specs.Lists.{from}
use Rattle.lmn_store_heap.specs.Heap.{atoms_in}
use Rattle.lmn_store_heap.specs.Functors.{with_functor}
use Rattle.lmn_machine.specs.Asking.{IsFitting}
use Rattle.lmn_machine.proofs.ahead.other_atom.Given as goal

abbrev pub invariant-loop-candidate : goal.invariant-loop-candidate
invariant-loop-candidate g l =
    IsFitting g.S.LinkStore.atom_id g.S.LinkStore.mem_id (g.S.LinkStore.heap l.fn.store) l.fn.set (drop l.fn.at l.fn.code) l.fn.functor (g.S.LinkStore.mem_id l.fn.place) l.fn.start l.candidate

abbrev pub decreases-loop-candidate : goal.decreases-loop-candidate
decreases-loop-candidate g l =
    length (from (option_map g.S.LinkStore.atom_id l.candidate) (with_functor (g.S.LinkStore.heap l.fn.store) l.fn.functor (atoms_in (g.S.LinkStore.heap l.fn.store) (g.S.LinkStore.mem_id l.fn.place))))
