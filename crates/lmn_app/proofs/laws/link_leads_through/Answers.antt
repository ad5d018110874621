use Rattle.lmn_app.proofs.LinkedLines.{link_leads_through}
use Rattle.lmn_app.proofs.laws.link_leads_through.Goals as goal

pub returns : goal.returns
returns c = link_leads_through
