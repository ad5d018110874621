use Rattle.std.proofs.Common.{subst, sym}
use Rattle.lmn_machine.specs.Costs.{Leaves}
use Rattle.lmn_machine.proofs.machine.Machine.cost.Goals as goal

pub returns-clause-left : goal.returns-clause-left
returns-clause-left g c = λ r n a e l. c.items_left.ensures.left r n a e (subst (λ xs. Leaves (g.S.LinkStore.heap c.args.self.now.store) r xs n) (sym c.body.ensures) l)
