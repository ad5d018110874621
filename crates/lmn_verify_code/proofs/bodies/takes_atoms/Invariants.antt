use Rattle.std.proofs.Common.{◌≡◌, ◌-◌, ◌++◌, drop, map}
use Rattle.lmn_congruence_splice.specs.Classes.{rising}
use Rattle.lmn_instr_code.specs.declared.words.Operand.TheVariants as operand
use Rattle.lmn_verify_code.specs.Verified.{takes_out, registers_held}
use Rattle.lmn_verify_code.proofs.bodies.takes_atoms.Given as goal

abbrev pub invariant-loop-at : goal.invariant-loop-at
invariant-loop-at l =
    takes_out (map operand.Atom (rising l.at (l.atoms - l.at)) ++ (map operand.Part (rising 0 l.parts) ++ map operand.Membrane (rising 1 l.membranes))) (drop l.at l.code) ≡ takes_out (registers_held l.atoms l.parts l.membranes) l.code
