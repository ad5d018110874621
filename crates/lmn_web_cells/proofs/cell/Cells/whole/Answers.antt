use Rattle.std.proofs.Common.{List, subst}
use Rattle.lmn_web_cells.specs.Rows.{Row}
use Rattle.lmn_web_cells.specs.Cells.{HaveLinks, cells_by}
use Rattle.lmn_web_cells.proofs.CellRows.{have_links}
use Rattle.lmn_web_cells.proofs.cell.Cells.whole.Goals as goal

pub returns : goal.returns
returns c = subst (λ (z : List Row). HaveLinks (cells_by z)) c.self.view_is (have_links c.self.inside.rows.rows c.self.invariant)
