use Rattle.std.proofs.Common.{ap, slice_get, ◌∙◌}
use Rattle.lmn_app_reading.proofs.Rules.{plan_found, rule_refused}
use Rattle.lmn_app_reading.proofs.reading.plan_of.Goals as goal

pub returns-in-Err : goal.returns-in-Err
returns-in-Err c = λ rule at.
    rule_refused c.args.plain.now.rules c.args.number rule c.check_rule.result c.in-Err.refusal c.in-Err.is rule
    (c.check_rule.ensures rule (ap (λ n. slice_get c.args.plain.now.rules n) c.in_ok-narrow.ensures ∙ at))

pub returns-in-Ok : goal.returns-in-Ok
returns-in-Ok c =
    plan_found c.args.plain.now.rules c.args.number c.at.result.now c.check_rule.result tt c.analyse.result c.in-Ok.is c.at.ensures
    (c.check_rule.ensures c.at.result.now (ap (λ n. slice_get c.args.plain.now.rules n) c.in_ok-narrow.ensures ∙ c.at.ensures)) c.analyse.ensures
