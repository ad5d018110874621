use Rattle.std.proofs.Common.{take}
use Rattle.std.specs.List.{flat_map}
use Rattle.lmn_base.specs.declared.item.Item.TheVariants.{RuleContext}
use Rattle.lmn_base.specs.Firsts.{IsFound}
use Rattle.lmn_base_walks.proofs.walk.in_rule_contexts.Given as goal

abbrev pub invariant-loop-context : goal.invariant-loop-context
invariant-loop-context g l = IsFound (flat_map (λ x. g.Q.Question.places l.question (RuleContext x)) (take l.context-index l.contexts)) l.found
