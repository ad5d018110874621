use Rattle.std.proofs.Common.{◌≡◌, ◌+◌, length, Some}
use Rattle.std.specs.Prelude.{IfSome}
use Rattle.std.specs.Option.{option_map}
use Rattle.lmn_store_heap.specs.Heap.{atoms_in, functor_of, home_of, from}
use Rattle.lmn_store_heap.specs.Functors.{with_functor}
use Rattle.lmn_debug_counting.proofs.counting.count_of_membrane.Given as goal

abbrev pub invariant-loop-counted : goal.invariant-loop-counted
invariant-loop-counted g l =
    let h = g.S.LinkStore.heap l.store in
    let all = with_functor h l.fn.functor (atoms_in h (g.S.LinkStore.mem_id l.fn.membrane)) in
    record {
      rest : l.counted + length (from (option_map g.S.LinkStore.atom_id l.at) all) ≡ length all;
      same : IfSome l.at (λ a. functor_of h (g.S.LinkStore.atom_id a) ≡ Some l.fn.functor);
      home : IfSome l.at (λ a. home_of h (g.S.LinkStore.atom_id a) ≡ Some (g.S.LinkStore.mem_id l.fn.membrane));
    }
