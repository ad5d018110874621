use Rattle.std.proofs.Common.{ap}
use Rattle.std.proofs.lemmas.Result.{on_ok_weaker}
use Rattle.lmn_base.specs.declared.level.CtxUse.{CtxUse}
use Rattle.lmn_flatten.specs.Scopes.{Under}
use Rattle.lmn_flatten.proofs.WalkSteps.{context_grows}
use Rattle.lmn_flatten.proofs.walk.add_context.Goals as goal

pub returns : goal.returns
returns c = on_ok_weaker c.push.result
    (λ grown r way keys table scope ready.
    context_grows r c.args.closed (Under way) keys c.args.token _ c.args.part.now table scope c.push.new.self ready.scope
    (ap (λ (u : CtxUse). record { name = u.name; closed = c.args.closed; pos = u.pos }) (c.in_ok-context.ensures r ready.glossary)) grown)
    c.push.ensures.ok
