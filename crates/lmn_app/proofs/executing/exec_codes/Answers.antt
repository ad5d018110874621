use Rattle.std.proofs.Common.{ap}
use Rattle.lmn_app.specs.Runnings.{run_ended}
use Rattle.lmn_app.proofs.ExecLemmas.{ran_over}
use Rattle.lmn_app.proofs.executing.exec_codes.Goals as goal

pub returns-in-Ok : goal.returns-in-Ok
returns-in-Ok g c =
    let k = c.in-Ok.ensures.keeps in
    let turn = c.execute-end.ensures.again.turn in
    run_ended c.execute-end.result _ _ c.ending_of.ensures turn.valid (ran_over c.args.names.now c.args.accepted.now.plain c.args.codes _ _ _ _ (ap g.S.LinkStore.heap k.0) k.1 k.2 _ _ _ _ _ c.execute-end.ensures.executed)
    c.execute-end.ensures.faults.0 c.execute-end.ensures.faults.1
