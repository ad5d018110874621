use Rattle.std.proofs.Common.{take}
use Rattle.std.specs.List.{flat_map}
use Rattle.lmn_base.specs.Firsts.{IsFound}
use Rattle.lmn_base.specs.Items.{leaf_item}
use Rattle.lmn_base_walks.proofs.walk.in_leaves.Given as goal

abbrev pub invariant-loop-leaf : goal.invariant-loop-leaf
invariant-loop-leaf g l = IsFound (flat_map (λ x. g.Q.Question.places l.question (leaf_item x)) (take l.leaf-index l.leaves)) l.found
