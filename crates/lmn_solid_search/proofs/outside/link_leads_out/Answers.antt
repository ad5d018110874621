use Rattle.lmn_solid_search.proofs.OutsideLemmas.{once_leads}
use Rattle.lmn_solid_search.proofs.outside.link_leads_out.Goals as goal

pub returns : goal.returns
returns c = λ outer ms b. once_leads (c.stands_once.ensures.0 c.if-not-stands_once.false) (c.port_leads_out.ensures outer ms b)
