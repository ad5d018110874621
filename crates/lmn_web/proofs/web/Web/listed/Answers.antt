use Rattle.std.proofs.Common.{List, subst}
use Rattle.lmn_web_cells.specs.Rows.{Row}
use Rattle.lmn_web_cells.specs.Cells.{cells_by}
use Rattle.lmn_web.specs.Webs.{web_by, list_in, StandOnce}
use Rattle.lmn_web.proofs.ListedLemmas.{web_listed}
use Rattle.lmn_web.proofs.web.Web.listed.Goals as goal

pub returns : goal.returns
returns c = subst (λ (z : List Row). StandOnce (web_by z)) c.self.view_is (web_listed (cells_by c.self.inside.cells) (list_in (cells_by c.self.inside.cells)) c.self.invariant.web.listed)
