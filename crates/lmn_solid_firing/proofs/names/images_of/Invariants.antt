use Rattle.std.proofs.Common.{◌≡◌, ◌++◌, drop}
use Rattle.lmn_solid_search.specs.Placing.{membrane_at}
use Rattle.lmn_solid_firing.specs.Pieces.{imaged}
use Rattle.lmn_solid_firing.proofs.names.images_of.Given as goal

abbrev pub invariant-loop-entry : goal.invariant-loop-entry
invariant-loop-entry l = l.images ++ imaged (membrane_at l.home l.membranes) l.names (drop l.entry-index l.names) ≡ imaged (membrane_at l.home l.membranes) l.names l.names
