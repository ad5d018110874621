use Rattle.std.proofs.Common.{[], ◌∷◌}
use Rattle.lmn_flatten_numbers.specs.Renumbered.{renumbered_occurrence}
use Rattle.lmn_flatten_numbers.proofs.LevelSteps.{Renumbers}
use Rattle.lmn_flatten_numbers.proofs.numbering.Numbering.number_links.Given as goal

abbrev pub invariant-loop-i : goal.invariant-loop-i
invariant-loop-i l = Renumbers renumbered_occurrence (λ o. o.link ∷ []) l.initial.self l.self l.i l.initial.links l.links
