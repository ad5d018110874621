use Rattle.lmn_store_trait.specs.Awake.{NoneAwake}
use Rattle.lmn_store_heap.specs.Sound.{Forest, IsTree, flat}
use Rattle.lmn_store_trait.proofs.Numbers.{HasNumber}
use Rattle.lmn_store_trait.proofs.store.LinkStore.awake_from.Given as goal

abbrev pub invariant-loop-passed : goal.invariant-loop-passed
invariant-loop-passed g l = record { number : HasNumber (g.Self.LinkStore.heap l.self) l.passed (g.Self.LinkStore.mem_id l.at) }

abbrev pub invariant-loop-number : goal.invariant-loop-number
invariant-loop-number g l =
    let h = g.Self.LinkStore.heap l.self in
    record {
      number : HasNumber h l.number (g.Self.LinkStore.mem_id l.at);
      none : (f : Forest) → IsTree h f → NoneAwake h (flat f) l.start l.number;
    }
