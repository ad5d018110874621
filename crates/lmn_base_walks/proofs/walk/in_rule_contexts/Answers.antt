use Rattle.lmn_base.specs.declared.item.Item.TheVariants.{RuleContext}
use Rattle.lmn_base.proofs.FirstLemmas.{found_mapped}
use Rattle.lmn_base_walks.proofs.walk.in_rule_contexts.Goals as goal

pub returns : goal.returns
returns g c = found_mapped (g.Q.Question.places c.args.question.now) (λ x. RuleContext x) c.args.contexts.now _ _ c.loop-context-test.false c.loop-context.invariant
