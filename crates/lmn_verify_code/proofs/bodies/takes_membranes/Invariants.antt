use Rattle.std.proofs.Common.{◌≡◌, ◌-◌, ◌+◌, drop, map}
use Rattle.lmn_congruence_splice.specs.Classes.{rising}
use Rattle.lmn_instr_code.specs.declared.words.Operand.TheVariants as operand
use Rattle.lmn_verify_code.specs.Verified.{takes_out}
use Rattle.lmn_verify_code.proofs.bodies.takes_membranes.Given as goal

abbrev pub invariant-loop-at : goal.invariant-loop-at
invariant-loop-at l = takes_out (map operand.Membrane (rising (l.at + 1) (l.membranes - l.at))) (drop l.at l.code) ≡ takes_out (map operand.Membrane (rising 1 l.membranes)) l.code
