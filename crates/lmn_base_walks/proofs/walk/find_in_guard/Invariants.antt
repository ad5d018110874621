use Rattle.std.proofs.Common.{take}
use Rattle.std.specs.List.{flat_map}
use Rattle.lmn_base.specs.Firsts.{IsFound}
use Rattle.lmn_base.specs.Items.{condition_items}
use Rattle.lmn_base_walks.proofs.walk.find_in_guard.Given as goal

abbrev pub invariant-loop-condition : goal.invariant-loop-condition
invariant-loop-condition g l = IsFound (flat_map (λ x. flat_map (g.Q.Question.places l.question) (condition_items x)) (take l.condition-index l.guard)) l.found
