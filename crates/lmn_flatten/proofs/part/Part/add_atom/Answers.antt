use Rattle.std.proofs.lemmas.Result.{on_ok_weaker}
use Rattle.std.proofs.Common.{◌∙◌}
use Rattle.lmn_flatten_plain.specs.Keys.{IsKey}
use Rattle.lmn_flatten.proofs.SmallParts.{adds_atom}
use Rattle.lmn_flatten.proofs.part.Part.add_atom.Goals as goal

pub returns : goal.returns
returns c = on_ok_weaker c.push.result
    (λ grown names keys l us same uses. adds_atom names (IsKey keys) l us c.args.pos c.args.label c.in_ok-arity.arity c.args.links c.args.self.now c.push.new.self
    same (c.in_ok-arity.ensures ∙ c.len.ensures) uses grown)
    c.push.ensures.ok
