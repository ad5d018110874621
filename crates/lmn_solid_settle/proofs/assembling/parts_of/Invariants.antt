use Rattle.std.proofs.Common.{◌≡◌, ◌++◌, map}
use Rattle.lmn_solid_settle.specs.Tables.{empty_part}
use Rattle.lmn_solid_settle.proofs.assembling.parts_of.Given as goal

abbrev pub invariant-loop-membrane : goal.invariant-loop-membrane
invariant-loop-membrane l = (l.parts.items ≡ map empty_part l.yielded) × (l.yielded ++ l.membrane-iterator.rest.items ≡ l.fn.membranes.items)
