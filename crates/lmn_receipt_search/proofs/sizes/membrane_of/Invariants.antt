use Rattle.std.proofs.Common.{◌≡◌, drop}
use Rattle.lmn_solid_bodies.specs.Flattening.{membrane_named}
use Rattle.lmn_receipt_search.proofs.sizes.membrane_of.Given as goal

abbrev pub invariant-loop-other : goal.invariant-loop-other
invariant-loop-other l = membrane_named (drop l.other-index l.names) l.name ≡ membrane_named l.names l.name
