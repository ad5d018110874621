use Rattle.std.proofs.lemmas.Result.{on_ok_weaker}
use Rattle.lmn_base.specs.Lists.{In}
use Rattle.lmn_solid_search.proofs.ClosingLemmas.{other_added}
use Rattle.lmn_solid_search.proofs.PairingLemmas.{port_differs}
use Rattle.lmn_solid_search.proofs.closed.add_other.Goals as goal

pub returns : goal.returns
returns c = on_ok_weaker c.push.result (other_added (λ a. In a c.args.others.now) c.args.list.now c.push.new.self c.args.number (port_differs c.has.ensures.1 c.if-has.false)) c.push.ensures.ok
