use Rattle.lmn_machine.proofs.Fitting.{hold_behind}
use Rattle.lmn_machine.proofs.ahead.is_refuted.Goals as goal

pub returns-then-at-len : goal.returns-then-at-len
returns-then-at-len g c = λ r b k s l t e w. c.refutes.ensures r b s t e
    (hold_behind (g.S.LinkStore.heap c.args.store.now) b s c.args.code.now k c.args.at c.at.result.now l c.at.ensures w)
