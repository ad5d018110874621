use Rattle.std.proofs.lemmas.Result.{on_ok_weaker}
use Rattle.lmn_flatten.specs.Scopes.{Under}
use Rattle.lmn_flatten.proofs.WalkSteps.{rule_context_grows}
use Rattle.lmn_flatten.proofs.walk.add_rule_context.Goals as goal

pub returns : goal.returns
returns c = on_ok_weaker c.push.result
    (λ grown r way keys table scope ready.
    rule_context_grows r (Under way) keys c.args.token c.in_ok-context.context c.args.part.now table scope c.push.new.self ready.scope (c.in_ok-context.ensures r ready.glossary) grown)
    c.push.ensures.ok
