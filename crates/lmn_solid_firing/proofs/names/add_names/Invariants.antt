use Rattle.std.proofs.Common.{◌≡◌, ◌++◌, drop}
use Rattle.lmn_solid_bodies.specs.Flattening.{names_inside}
use Rattle.lmn_solid_firing.proofs.names.add_names.Given as goal

abbrev pub invariant-loop-context : goal.invariant-loop-context
invariant-loop-context l = l.names ++ names_inside l.inside (drop l.context-index l.uses) ≡ l.fn.names ++ names_inside l.inside l.uses
