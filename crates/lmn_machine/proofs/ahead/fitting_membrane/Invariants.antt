use Rattle.std.proofs.Common.{ℕ, ◌≡◌, ◌≤◌, Some, length}
use Rattle.std.specs.Prelude.{IfSome}
use Rattle.std.specs.Option.{option_map}
use Rattle.lmn_base.specs.Lists.{In}
use Rattle.lmn_store_heap.specs.Lists.{from}
use Rattle.lmn_store_heap.specs.Heap.{parent_of, mems_in}
use Rattle.lmn_machine.specs.Asking.{HoldsAsked}
use Rattle.lmn_machine.proofs.ahead.fitting_membrane.Given as goal

abbrev pub invariant-loop-candidate : goal.invariant-loop-candidate
invariant-loop-candidate g l = record {
  parent : IfSome l.candidate (λ m. parent_of (g.S.LinkStore.heap l.fn.store) (g.S.LinkStore.mem_id m) ≡ Some (g.S.LinkStore.mem_id l.fn.place));
  further : length (from (option_map g.S.LinkStore.mem_id l.candidate) (mems_in (g.S.LinkStore.heap l.fn.store) (g.S.LinkStore.mem_id l.fn.place))) ≤
      length (from (option_map g.S.LinkStore.mem_id l.fn.start) (mems_in (g.S.LinkStore.heap l.fn.store) (g.S.LinkStore.mem_id l.fn.place)));
  left : (n : ℕ) → HoldsAsked (g.S.LinkStore.heap l.fn.store) l.fn.asked n →
      In n (from (option_map g.S.LinkStore.mem_id l.fn.start) (mems_in (g.S.LinkStore.heap l.fn.store) (g.S.LinkStore.mem_id l.fn.place))) →
      In n (from (option_map g.S.LinkStore.mem_id l.candidate) (mems_in (g.S.LinkStore.heap l.fn.store) (g.S.LinkStore.mem_id l.fn.place)));
}

abbrev pub decreases-loop-candidate : goal.decreases-loop-candidate
decreases-loop-candidate g l = length (from (option_map g.S.LinkStore.mem_id l.candidate) (mems_in (g.S.LinkStore.heap l.fn.store) (g.S.LinkStore.mem_id l.fn.place)))
