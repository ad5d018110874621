use Rattle.std.proofs.Common.{◌++◌}
use Rattle.std.proofs.lemmas.Result.{on_ok_weaker}
use Rattle.lmn_flatten.specs.Scopes.{Under}
use Rattle.lmn_flatten.proofs.WalkSteps.{written_leaf}
use Rattle.lmn_flatten.proofs.walk.add_bracketed.Goals as goal

pub returns : goal.returns
returns c = on_ok_weaker c.add_typed.result
    (λ adds r way keys table ready.
    let first = c.in_ok-link.ensures r keys ready.glossary ready.scope in
    let m = first.0 in
    written_leaf r (Under way) keys _ c.args.part.now table c.args.scope.now c.written.new.self c.add_typed.new.part m (adds r (keys ++ m.more) _ ready.glossary first.1))
    c.add_typed.ensures
