use Rattle.std.proofs.Common.{codes, ap, sym, [], ◌∷◌}
use Rattle.std.proofs.lemmas.Result.{on_ok_weaker}
use Rattle.lmn_congruence.specs.Rules.{named}
use Rattle.lmn_base.specs.declared.functor.Label.TheVariants.{Name}
use Rattle.lmn_flatten_plain.specs.Keys.{IsKey}
use Rattle.lmn_flatten_plain.proofs.HeldLabels.{connector_number}
use Rattle.lmn_flatten.proofs.SmallParts.{two_uses}
use Rattle.lmn_flatten.proofs.walk.add_connector.Goals as goal

pub returns : goal.returns
returns c = on_ok_weaker c.add_atom.result
    (λ added r keys u v g a b. added r.names keys (named (codes "=")) (u ∷ v ∷ []) (ap Name (sym (connector_number r.names g.names)))
    (two_uses r.names (IsKey keys) u v c.args.left c.args.right c.new-links.result c.push.new.self c.push-2.new.self c.new-links.ensures
    c.in_ok-push.ensures.ok c.in_ok-push-2.ensures.ok a b))
    c.add_atom.ensures
