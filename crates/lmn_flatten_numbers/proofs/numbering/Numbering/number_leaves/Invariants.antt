use Rattle.lmn_base.specs.Levels.{occurrences_of_leaf, link_numbers}
use Rattle.lmn_flatten_numbers.specs.Renumbered.{renumbered_leaf}
use Rattle.lmn_flatten_numbers.proofs.LevelSteps.{Renumbers}
use Rattle.lmn_flatten_numbers.proofs.numbering.Numbering.number_leaves.Given as goal

abbrev pub invariant-loop-leaf : goal.invariant-loop-leaf
invariant-loop-leaf l = Renumbers renumbered_leaf (λ leaf. link_numbers (occurrences_of_leaf leaf)) l.initial.self l.self l.leaf-index l.initial.leaves l.leaves
