use Rattle.std.proofs.Common.{[], ◌≤◌, take, drop, length}
use Rattle.lmn_store_heap.specs.Heap.{spare_of}
use Rattle.lmn_schedule_loading.specs.Adding.{AddsToMembrane}
use Rattle.lmn_schedule_loading.proofs.filling.add_rules.Given as goal

abbrev pub invariant-loop-rule : goal.invariant-loop-rule
invariant-loop-rule g l = record {
  adds : AddsToMembrane (g.S.LinkStore.heap l.fn.store) (g.S.LinkStore.heap l.store) (g.S.LinkStore.mem_id l.m) [] [] (take l.rule-index l.rules) [];
  room : length (drop l.rule-index l.rules) ≤ spare_of (g.S.LinkStore.heap l.store) (g.S.LinkStore.mem_id l.m);
}
