use Rattle.std.proofs.Common.{[], take}
use Rattle.lmn_base.specs.declared.level.Level.{out-Level}
use Rattle.lmn_schedule_loading.specs.Adding.{Fills}
use Rattle.lmn_schedule_loading.proofs.filling.+fill.Given as goal
use Rattle.lmn_base.proofs.Common.{levels_in as number_of_levels}

abbrev pub decreases-fill : goal.decreases-fill
decreases-fill g l = number_of_levels l.level.now

abbrev pub invariant-loop-inner : goal.invariant-loop-inner
invariant-loop-inner g l = Fills g.S.LinkStore.atom_id (g.S.LinkStore.heap l.fn.store) (g.S.LinkStore.heap l.store) (g.S.LinkStore.mem_id l.m) (out-Level l.level).leaves (take l.inner-index l.inner-items) [] l.fn.ports l.ports
