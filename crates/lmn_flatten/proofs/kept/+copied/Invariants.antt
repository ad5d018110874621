use Rattle.std.proofs.Common.{◌≡◌, take, map}
use Rattle.lmn_flatten_numbers.specs.Renumbered.{renumbered}
use Rattle.lmn_flatten.specs.Copies.{new_link}
use Rattle.lmn_flatten.proofs.kept.+copied.Given as goal

abbrev pub invariant-copied_levels-loop-level : goal.invariant-copied_levels-loop-level
invariant-copied_levels-loop-level l = l.new ≡ map (renumbered (new_link l.links)) (take l.level-index l.levels)
