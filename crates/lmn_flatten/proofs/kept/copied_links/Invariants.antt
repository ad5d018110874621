use Rattle.std.proofs.Common.{◌≡◌, take, map}
use Rattle.lmn_flatten_numbers.specs.Renumbered.{renumbered_occurrence}
use Rattle.lmn_flatten.specs.Copies.{new_link}
use Rattle.lmn_flatten.proofs.kept.copied_links.Given as goal

abbrev pub invariant-loop-occ : goal.invariant-loop-occ
invariant-loop-occ l = l.new ≡ map (renumbered_occurrence (new_link l.links)) (take l.occ-index l.old)
