use Rattle.std.proofs.Common.{rules}
use Rattle.lmn_store_slab.specs.Cells.{mem_in_cell}
use Rattle.lmn_store_slab.proofs.cells.push_rule.Goals as goal

pub push-requires : goal.push-requires
push-requires c = c.requires (mem_in_cell c.in-Some.cell.now) (search rules)
