use Rattle.std.proofs.Common.{◌≡◌, drop}
use Rattle.lmn_verify_code.specs.Verified.{ports_of_registers, stand_once}
use Rattle.lmn_verify_code.proofs.ports.atoms_stand_once.Given as goal

abbrev pub invariant-loop-atom : goal.invariant-loop-atom
invariant-loop-atom l = stand_once l.stands (ports_of_registers l.atom (drop l.atom l.arities)) ≡ stand_once l.stands (ports_of_registers 0 l.arities)
