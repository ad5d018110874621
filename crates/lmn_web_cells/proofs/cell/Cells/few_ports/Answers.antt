use Rattle.std.proofs.Common.{List, subst}
use Rattle.lmn_web_cells.specs.Rows.{Row}
use Rattle.lmn_web_cells.specs.Cells.{cells_by, HaveFewPorts}
use Rattle.lmn_web_cells.proofs.CellRows.{have_few_ports}
use Rattle.lmn_web_cells.proofs.cell.Cells.few_ports.Goals as goal

pub returns : goal.returns
returns c = subst (λ (z : List Row). HaveFewPorts (cells_by z)) c.self.view_is (have_few_ports c.self.inside.rows.rows c.self.invariant)
