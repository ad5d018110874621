use Rattle.std.proofs.Common.{[], take}
use Rattle.lmn_schedule_loading.specs.Adding.{Fills}
use Rattle.lmn_schedule_loading.proofs.filling.add_leaves.Given as goal

abbrev pub invariant-loop-leaf : goal.invariant-loop-leaf
invariant-loop-leaf g l = Fills g.S.LinkStore.atom_id (g.S.LinkStore.heap l.fn.store) (g.S.LinkStore.heap l.store) (g.S.LinkStore.mem_id l.m) (take l.leaf-index l.leaves) [] [] l.fn.ports l.ports
