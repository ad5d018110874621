use Rattle.lmn_store_trait.proofs.Climbs.{Walk}
use Rattle.lmn_store_trait.proofs.store.LinkStore.next_membrane.Given as goal

abbrev pub invariant-loop-step : goal.invariant-loop-step
invariant-loop-step g l = record { walk : Walk (g.Self.LinkStore.heap l.self) (g.Self.LinkStore.mem_id l.fn.m) l.step (g.Self.LinkStore.mem_id l.at) }
