use Rattle.std.proofs.lemmas.Result.{on_ok_weaker}
use Rattle.lmn_solid_search.specs.Walking.{IsMarked}
use Rattle.lmn_solid_search.proofs.ClosingLemmas.{other_added, other_kept}
use Rattle.lmn_solid_search.proofs.OutsideLemmas.{is_marked}
use Rattle.lmn_solid_search.proofs.PairingLemmas.{port_differs}
use Rattle.lmn_solid_search.proofs.closed.add_unmarked.Goals as goal

pub returns-then-has : goal.returns-then-has
returns-then-has c = other_kept (IsMarked c.args.seen.now) c.args.list.now c.args.number ((is_marked c.args.seen.now c.args.number c.has.result c.requires c.has.ensures).0 c.if-has.true)

pub returns : goal.returns
returns c = on_ok_weaker c.push.result (other_added (IsMarked c.args.seen.now) c.args.list.now c.push.new.self c.args.number (port_differs (is_marked c.args.seen.now c.args.number c.has.result c.requires c.has.ensures).1 c.if-has.false)) c.push.ensures.ok
