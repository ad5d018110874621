use Rattle.std.proofs.Common.{List, subst}
use Rattle.lmn_web_cells.specs.Rows.{Row}
use Rattle.lmn_web_cells.specs.Cells.{cells_by, HaveSmallClasses}
use Rattle.lmn_web_cells.proofs.CellRows.{have_small_classes}
use Rattle.lmn_web_cells.proofs.cell.Cells.small_classes.Goals as goal

pub returns : goal.returns
returns c = subst (λ (z : List Row). HaveSmallClasses (cells_by z)) c.self.view_is (have_small_classes c.self.inside.rows.rows c.self.invariant)
