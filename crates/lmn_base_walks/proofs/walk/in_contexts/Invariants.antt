use Rattle.std.proofs.Common.{take}
use Rattle.std.specs.List.{flat_map}
use Rattle.lmn_base.specs.Firsts.{IsFound}
use Rattle.lmn_base.specs.Items.{used}
use Rattle.lmn_base_walks.proofs.walk.in_contexts.Given as goal

abbrev pub invariant-loop-context : goal.invariant-loop-context
invariant-loop-context g l = IsFound (flat_map (λ x. g.Q.Question.places l.question ((used l.form) x)) (take l.context-index l.contexts)) l.found
