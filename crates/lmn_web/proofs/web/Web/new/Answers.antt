use Rattle.std.proofs.Common.{ap}
use Rattle.lmn_web.specs.Webs.{web_of}
use Rattle.lmn_web.proofs.WebLemmas.{empty_web}
use Rattle.lmn_web.proofs.Filing.{empty_classed}
use Rattle.lmn_web.proofs.web.Web.new.Goals as goal

pub invariant_of-result : goal.invariant_of-result
invariant_of-result c = empty_classed _ _ c.new.ensures (empty_web _ _ c.new.ensures)

pub returns : goal.returns
returns c = ap web_of c.new.ensures
