use Rattle.std.proofs.Common.{◌≡◌, drop}
use Rattle.lmn_solid_bodies.specs.Flattening.{membrane_named}
use Rattle.lmn_solid_firing.proofs.wires.number_of.Given as goal

abbrev pub invariant-loop-end : goal.invariant-loop-end
invariant-loop-end l = membrane_named (drop l.end-index l.ends) l.link ≡ membrane_named l.ends l.link
