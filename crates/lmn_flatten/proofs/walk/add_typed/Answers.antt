use Rattle.std.proofs.lemmas.Result.{on_ok_weaker}
use Rattle.lmn_flatten_plain.specs.Keys.{IsKey}
use Rattle.lmn_flatten.proofs.SmallParts.{adds_typed}
use Rattle.lmn_flatten.proofs.walk.add_typed.Goals as goal

pub returns : goal.returns
returns c = on_ok_weaker c.push.result
    (λ grown r keys u g a. adds_typed r (IsKey keys) u c.args.token c.in_ok-name.name c.in_ok-pos.pos c.args.link c.args.part.now c.push.new.self (c.in_ok-name.ensures r g)
    (c.in_ok-pos.ensures r g) a grown)
    c.push.ensures.ok
