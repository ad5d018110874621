use Rattle.lmn_app_single.proofs.running.drive_whole.Goals as goal

pub returns-clause-drove : goal.returns-clause-drove
returns-clause-drove g c = λ choices gives. (c.drive.new.engine.commits, g.S.LinkStore.heap c.drive.new.engine.machine.store, c.drive.ensures.drove choices gives)
