use Rattle.lmn_schedule.proofs.Holding.{heaps_hold_solids}
use Rattle.lmn_schedule.proofs.laws.heaps_hold_solids.Goals as goal

pub returns : goal.returns
returns c = heaps_hold_solids c.heaps_are_named.ensures c.heaps_are_numbered.ensures c.plains_are_tables.ensures
