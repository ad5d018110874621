use Rattle.std.proofs.Common.{◌≡◌, Some, length}
use Rattle.std.specs.Prelude.{IfSome}
use Rattle.std.specs.Option.{option_map}
use Rattle.lmn_store_heap.specs.Heap.{Distinct, atoms_in, from, home_of, taken_all}
use Rattle.lmn_ground.proofs.cells.take_atoms.Given as goal

abbrev pub invariant-loop-next : goal.invariant-loop-next
invariant-loop-next g l =
    let s = g.S.LinkStore.heap l.fn.store in
    let t = g.S.LinkStore.heap l.store in
    let m = g.S.LinkStore.mem_id l.fn.m in
    record {
      once : Distinct (atoms_in t m);
      list : from (option_map g.S.LinkStore.atom_id l.next) (atoms_in t m) ≡ atoms_in t m;
      left : taken_all t (atoms_in t m) ≡ taken_all s (atoms_in s m);
      home : IfSome l.next (λ a. home_of t (g.S.LinkStore.atom_id a) ≡ Some m);
    }

abbrev pub decreases-loop-next : goal.decreases-loop-next
decreases-loop-next g l = length (atoms_in (g.S.LinkStore.heap l.store) (g.S.LinkStore.mem_id l.fn.m))
