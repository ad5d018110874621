use Rattle.lmn_machine.proofs.Fitting.{hold_behind}
use Rattle.lmn_machine.proofs.alone.may_stand.Goals as goal

pub returns-then-not-may_hold : goal.returns-then-not-may_hold
returns-then-not-may_hold g c = λ r n s e u. c.may_hold.ensures c.if-not-may_hold.true n s e u
    (hold_behind (g.S.LinkStore.heap c.args.store.now) n s c.args.code.now c.args.at c.loop-i.i c.at.result.now c.loop-i.auto.i c.at.ensures u)
