use Rattle.std.proofs.Common.{◌≡◌, drop}
use Rattle.lmn_solid_bodies.specs.Flattening.{membrane_named}
use Rattle.lmn_solid_firing.proofs.names.number_of.Given as goal

abbrev pub invariant-loop-entry : goal.invariant-loop-entry
invariant-loop-entry l = membrane_named (drop l.entry-index l.names) l.name ≡ membrane_named l.names l.name
