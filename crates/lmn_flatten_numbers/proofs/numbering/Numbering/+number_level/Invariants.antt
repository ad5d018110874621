use Rattle.lmn_base.specs.Levels.{links_of}
use Rattle.lmn_flatten_numbers.specs.Renumbered.{renumbered}
use Rattle.lmn_flatten_numbers.proofs.LevelSteps.{Renumbers}
use Rattle.lmn_flatten_numbers.proofs.numbering.Numbering.+number_level.Given as goal
use Rattle.lmn_base.proofs.Common.{levels_in as number_of_levels}

abbrev pub decreases-number_level : goal.decreases-number_level
decreases-number_level l = number_of_levels l.level.now

abbrev pub invariant-loop-i : goal.invariant-loop-i
invariant-loop-i l = Renumbers renumbered links_of l.initial.self l.self l.i l.initial.numbered.items l.numbered.items
