use Rattle.std.proofs.Common.{[], ◌∷◌, take}
use Rattle.std.specs.List.{flat_map}
use Rattle.lmn_flatten_numbers.specs.Tallies.{CountsOccurrences}
use Rattle.lmn_flatten_numbers.proofs.tally.count_links.Given as goal

abbrev pub invariant-loop-link : goal.invariant-loop-link
invariant-loop-link l = CountsOccurrences (flat_map (λ o. o ∷ []) (take l.link-index l.links)) l.initial.tallies l.tallies
