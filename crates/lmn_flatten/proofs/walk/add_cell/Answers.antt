use Rattle.std.proofs.Common.{codes, ap, [], ◌∷◌}
use Rattle.std.proofs.lemmas.Result.{on_ok_weaker}
use Rattle.lmn_congruence.specs.Rules.{named}
use Rattle.lmn_base.specs.declared.functor.Label.TheVariants.{Name}
use Rattle.lmn_flatten_plain.specs.Keys.{IsKey}
use Rattle.lmn_flatten.proofs.GlossaryLemmas.{number_is}
use Rattle.lmn_flatten.proofs.SmallParts.{three_uses}
use Rattle.lmn_flatten.proofs.walk.add_cell.Goals as goal

pub returns : goal.returns
returns c = on_ok_weaker c.add_atom.result
    (λ added r keys u v w g a b d. added r.names keys (named (codes ".")) (u ∷ v ∷ w ∷ []) (ap Name (number_is r.names g.names c.args.glossary.now.cell (codes ".") g.cell))
    (three_uses r.names (IsKey keys) u v w c.args.element c.args.rest c.args.own c.in_ok-links.links c.push.new.self c.push-2.new.self c.push-3.new.self c.in_ok-links.ensures
    c.in_ok-push.ensures.ok c.in_ok-push-2.ensures.ok c.in_ok-push-3.ensures.ok a b d))
    c.add_atom.ensures
