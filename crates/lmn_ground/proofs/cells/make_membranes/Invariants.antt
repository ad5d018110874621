use Rattle.std.proofs.Common.{map, take}
use Rattle.lmn_ground.proofs.GatherRestLaws.{Rooms}
use Rattle.lmn_ground.proofs.cells.make_membranes.Given as goal

abbrev pub invariant-loop-i : goal.invariant-loop-i
invariant-loop-i g l = record {
  made : Rooms (g.S.LinkStore.heap l.fn.store) (g.S.LinkStore.heap l.store) (map g.S.LinkStore.mem_id (take l.i l.membranes));
}
