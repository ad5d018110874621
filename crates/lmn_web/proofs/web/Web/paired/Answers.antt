use Rattle.std.proofs.Common.{List, subst}
use Rattle.lmn_web_cells.specs.Rows.{Row}
use Rattle.lmn_web_cells.specs.Cells.{cells_by}
use Rattle.lmn_web.specs.Webs.{web_by, list_in, IsPaired}
use Rattle.lmn_web.proofs.WebLemmas.{web_paired}
use Rattle.lmn_web.proofs.web.Web.paired.Goals as goal

pub returns : goal.returns
returns c = subst (λ (z : List Row). IsPaired (web_by z)) c.self.view_is (web_paired (cells_by c.self.inside.cells) (list_in (cells_by c.self.inside.cells)) c.self.invariant.web.reaches c.self.invariant.web.paired)
