use Rattle.std.proofs.Common.{◌≡◌, ◌+◌, length, Some}
use Rattle.std.specs.Prelude.{IfSome}
use Rattle.std.specs.Option.{option_map}
use Rattle.lmn_store_heap.specs.Lists.{from}
use Rattle.lmn_store_heap.specs.Heap.{functor_of, home_of, atoms_in}
use Rattle.lmn_store_heap.specs.Functors.{with_functor}
use Rattle.lmn_machine.proofs.enough.holds_fewer_atoms.Given as goal

abbrev pub invariant-loop-step : goal.invariant-loop-step
invariant-loop-step g l = record {
  walked : (let all = with_functor (g.S.LinkStore.heap l.fn.store) l.fn.functor (atoms_in (g.S.LinkStore.heap l.fn.store) (g.S.LinkStore.mem_id l.fn.m)) in l.step + length (from (option_map g.S.LinkStore.atom_id l.candidate) all) ≡ length all);
  functor : IfSome l.candidate (λ a. functor_of (g.S.LinkStore.heap l.fn.store) (g.S.LinkStore.atom_id a) ≡ Some l.fn.functor);
  home : IfSome l.candidate (λ a. home_of (g.S.LinkStore.heap l.fn.store) (g.S.LinkStore.atom_id a) ≡ Some (g.S.LinkStore.mem_id l.fn.m));
}
