use Rattle.std.proofs.Common.{◌≡◌, ◌≤◌, drop}
use Rattle.lmn_lexer.specs.Faults.{value_behind}
use Rattle.lmn_instr_reading.proofs.lines_reading.small_value.Given as goal

abbrev pub invariant-loop-digit : goal.invariant-loop-digit
invariant-loop-digit l = (l.value ≤ 1000000) × (value_behind 0 l.digits ≡ value_behind l.value (drop l.digit-index l.digits))
