use Rattle.std.proofs.Common.{ap, [], ◌∷◌}
use Rattle.std.proofs.lemmas.Result.{on_ok_weaker}
use Rattle.lmn_congruence.specs.Rules.{named}
use Rattle.lmn_base.specs.declared.functor.Label.TheVariants.{Name}
use Rattle.lmn_flatten_plain.specs.Keys.{IsKey}
use Rattle.lmn_flatten.proofs.GlossaryLemmas.{number_is}
use Rattle.lmn_flatten.proofs.SmallParts.{one_use}
use Rattle.lmn_flatten.proofs.walk.add_unary.Goals as goal

pub returns : goal.returns
returns c = on_ok_weaker c.add_atom.result
    (λ added r keys n u g at a. added r.names keys (named n) (u ∷ []) (ap Name (number_is r.names g.names c.args.name n at))
    (one_use r.names (IsKey keys) u c.args.link c.new-links.result c.push.new.self c.new-links.ensures c.in_ok-push.ensures.ok a))
    c.add_atom.ensures
