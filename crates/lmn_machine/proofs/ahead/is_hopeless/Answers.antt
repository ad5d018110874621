use Rattle.lmn_machine.proofs.Fitting.{hold_behind}
use Rattle.lmn_machine.proofs.ahead.is_hopeless.Goals as goal

pub returns-then-looks_in_vain : goal.returns-then-looks_in_vain
returns-then-looks_in_vain g c = λ r k s t w. c.looks_in_vain.ensures c.if-looks_in_vain.true k s t
    (hold_behind (g.S.LinkStore.heap c.args.store.now) k s c.args.code.now c.args.at c.loop-i.i c.at.result.now c.loop-i.auto.i c.at.ensures w)
