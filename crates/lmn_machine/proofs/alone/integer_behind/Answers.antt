use Rattle.std.proofs.Common.{sym}
use Rattle.lmn_machine.proofs.Standing.{led_to, led_nowhere}
use Rattle.lmn_machine.proofs.alone.integer_behind.Goals as goal

pub returns-in-Some : goal.returns-in-Some
returns-in-Some g c = λ q e. led_to (g.S.LinkStore.heap c.args.store.now) (g.S.LinkStore.atom_id c.args.a) c.args.port q _ c.integer_of.result c.in-Some.ensures.link (sym c.integer_of.ensures) e

pub returns-in-None : goal.returns-in-None
returns-in-None g c = λ q e. absurd (led_nowhere (g.S.LinkStore.heap c.args.store.now) (g.S.LinkStore.atom_id c.args.a) c.args.port q c.in-None.ensures.link e)
