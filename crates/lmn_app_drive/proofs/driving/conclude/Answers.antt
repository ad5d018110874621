use Rattle.std.proofs.Common.{refl, sym, subst}
use Rattle.lmn_app_drive.specs.Driving.{Concludes, RunInput, given_by_engine, stop_end}
use Rattle.lmn_app_drive.specs.declared.driving.RunEnd.TheVariants.{Failed}
use Rattle.lmn_app_drive.proofs.Goings.{broken_off, concluded}
use Rattle.lmn_app_drive.proofs.driving.conclude.Goals as goal

pub returns-in-Ok-clause-drove : goal.returns-in-Ok-clause-drove
returns-in-Ok-clause-drove g c k solid told s =
    let r : RunInput = given_by_engine c.args.names.now c.args.plain.now.rules c.args.engine.now.size c.args.options.now k solid in
    let n = c.args.engine.now.commits in
    let h = g.S.LinkStore.heap c.args.engine.now.machine.store in
    let h' = g.S.LinkStore.heap c.write_rest.new.engine.machine.store in
    let new = g.O.Sink.told c.write_rest.new.out in
    subst (λ a. Concludes s h' a new) (sym c.from.ensures)
    (subst (λ k. Concludes s k (stop_end c.args.stop) new) (sym c.write_rest.ensures.kept)
    (record { drove = concluded r n h c.args.stop told (g.O.Sink.told c.args.out.now) new s (λ bytes is. c.in-Ok.ensures.writes.took bytes is); before = refl; last = refl }))

pub returns-in-Err-clause-drove : goal.returns-in-Err-clause-drove
returns-in-Err-clause-drove g c k solid told s =
    let r : RunInput = given_by_engine c.args.names.now c.args.plain.now.rules c.args.engine.now.size c.args.options.now k solid in
    let n = c.args.engine.now.commits in
    let h = g.S.LinkStore.heap c.args.engine.now.machine.store in
    let new = g.O.Sink.told c.write_rest.new.out in
    subst (λ k. Concludes s k Failed new) (sym c.write_rest.ensures.kept)
    (record { drove = broken_off r n h c.args.stop told (g.O.Sink.told c.args.out.now) new s (λ bytes is. c.in-Err.ensures.writes.prefix bytes is); before = refl; last = refl })
