use Rattle.std.proofs.Common.{◌≡◌, ◌-◌, map}
use Rattle.lmn_congruence_splice.specs.Classes.{rising}
use Rattle.lmn_instr_code.specs.declared.instr.NewPort.TheVariants as new
use Rattle.lmn_verify_code.specs.Verified.{port_of_register, stand_once}
use Rattle.lmn_verify_code.proofs.ports.atom_stands_once.Given as goal

abbrev pub invariant-loop-port : goal.invariant-loop-port
invariant-loop-port l =
    stand_once l.stands (map (λ i. new.Atom (port_of_register l.atom i)) (rising l.port (l.arity - l.port))) ≡ stand_once l.stands (map (λ i. new.Atom (port_of_register l.atom i)) (rising 0 l.arity))
