use Rattle.std.proofs.Common.{◌≡◌, ◌+◌, Some}
use Rattle.lmn_store_heap.specs.Heap.{from}
use Rattle.lmn_store_heap.specs.Sound.{Forest, IsTree, flat}
use Rattle.lmn_store_trait.proofs.Numbers.{HasNumber}
use Rattle.lmn_debug_counting.specs.Counts.{count_in}
use Rattle.lmn_debug_counting.proofs.counting.count_atoms.Given as goal

abbrev pub invariant-loop : goal.invariant-loop
invariant-loop g l =
    let h = g.S.LinkStore.heap l.store in
    record {
      number : HasNumber h l.counter (g.S.LinkStore.mem_id l.at);
      rest : (f : Forest) → IsTree h f → l.total + count_in h l.functor (from (Some (g.S.LinkStore.mem_id l.at)) (flat f)) ≡ count_in h l.functor (flat f);
    }
