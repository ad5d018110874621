use Rattle.std.proofs.Common.{◌≡◌, ◌+◌, length, Some}
use Rattle.std.specs.Prelude.{IfSome}
use Rattle.std.specs.Option.{option_map}
use Rattle.lmn_store_heap.specs.Lists.{from}
use Rattle.lmn_store_heap.specs.Heap.{parent_of, mems_in}
use Rattle.lmn_machine.specs.Enough.{holding}
use Rattle.lmn_machine.proofs.enough.holds_fewer_membranes.Given as goal

abbrev pub invariant-loop-candidate : goal.invariant-loop-candidate
invariant-loop-candidate g l = record {
  counted : (let all = mems_in (g.S.LinkStore.heap l.fn.store) (g.S.LinkStore.mem_id l.fn.m) in
      l.found + length (holding (g.S.LinkStore.heap l.fn.store) l.fn.functor (from (option_map g.S.LinkStore.mem_id l.candidate) all)) ≡ length (holding (g.S.LinkStore.heap l.fn.store) l.fn.functor all));
  there : IfSome l.candidate (λ n. parent_of (g.S.LinkStore.heap l.fn.store) (g.S.LinkStore.mem_id n) ≡ Some (g.S.LinkStore.mem_id l.fn.m));
}

abbrev pub decreases-loop-candidate : goal.decreases-loop-candidate
decreases-loop-candidate g l = length (from (option_map g.S.LinkStore.mem_id l.candidate) (mems_in (g.S.LinkStore.heap l.fn.store) (g.S.LinkStore.mem_id l.fn.m)))
