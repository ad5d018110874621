use Rattle.std.proofs.lemmas.Result.{IfOk-at_ok}
use Rattle.lmn_congruence.specs.SolidsOfPlains.{IsSolidOf}
use Rattle.lmn_app_runs.proofs.Tables.{solid_has_rules}
use Rattle.lmn_solid_settle.proofs.PlainSolids.{solid_named}
use Rattle.lmn_test_alike.proofs.next_solids.first_solid.Goals as goal

pub returns : goal.returns
returns g c =
    let plain = c.args.accepted.now.plain in
    let s = c.expect.result in
    let is = IfOk-at_ok (IsSolidOf plain) c.expect.ensures c.solid_of.ensures in
    record { solid = is.is_solid; each_rule = solid_has_rules plain s c.requires.loaded.made is; named = solid_named c.args.names.now plain s c.requires.named is }
