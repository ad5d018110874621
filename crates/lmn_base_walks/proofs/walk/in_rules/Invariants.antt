use Rattle.std.proofs.Common.{take}
use Rattle.std.specs.List.{flat_map}
use Rattle.lmn_base.specs.declared.item.Item.TheVariants.{Rule}
use Rattle.lmn_base.specs.Firsts.{IsFound}
use Rattle.lmn_base_walks.proofs.walk.in_rules.Given as goal

abbrev pub invariant-loop-rule : goal.invariant-loop-rule
invariant-loop-rule g l = IsFound (flat_map (λ x. g.Q.Question.places l.question (Rule x)) (take l.rule-index l.rules)) l.found
