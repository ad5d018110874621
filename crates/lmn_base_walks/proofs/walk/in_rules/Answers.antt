use Rattle.lmn_base.specs.declared.item.Item.TheVariants.{Rule}
use Rattle.lmn_base.proofs.FirstLemmas.{found_mapped}
use Rattle.lmn_base_walks.proofs.walk.in_rules.Goals as goal

pub returns : goal.returns
returns g c = found_mapped (g.Q.Question.places c.args.question.now) (λ x. Rule x) c.args.rules.now _ _ c.loop-rule-test.false c.loop-rule.invariant
