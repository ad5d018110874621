use Rattle.lmn_solid_settle.specs.Tables.{numbered_membrane, membrane_keys}
use Rattle.lmn_solid_settle.proofs.NumberLoops.{Passed}
use Rattle.lmn_solid_settle.proofs.numbers.Numbers.number_all.Given as goal

abbrev pub invariant-loop-membrane : goal.invariant-loop-membrane
invariant-loop-membrane l = Passed numbered_membrane membrane_keys l.fn.self l.self l.membrane-index l.fn.membranes l.membranes
