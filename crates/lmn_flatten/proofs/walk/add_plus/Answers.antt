use Rattle.std.proofs.Common.{codes}
use Rattle.std.proofs.lemmas.Result.{on_ok_weaker}
use Rattle.lmn_flatten.specs.Scopes.{Under}
use Rattle.lmn_flatten.proofs.WalkSteps.{plus_grows}
use Rattle.lmn_flatten.proofs.walk.add_plus.Goals as goal

pub returns : goal.returns
returns c = on_ok_weaker c.add_unary.result
    (λ adds r way keys table ready.
    plus_grows r (Under way) way keys c.args.token c.in_ok-following.field-0 c.in_ok-pos.pos c.in_ok-link.link c.args.part.now table c.args.scope.now c.written.new.self c.add_unary.new.part
    (c.in_ok-pos.ensures r ready.glossary) c.in_ok-following.ensures (c.in_ok-link.ensures r keys ready.glossary ready.scope)
    (λ ks u i. let g = ready.glossary in adds r ks (codes "+") u g g.plus i))
    c.add_unary.ensures
