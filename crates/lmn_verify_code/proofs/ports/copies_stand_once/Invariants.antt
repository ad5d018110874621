use Rattle.std.proofs.Common.{◌≡◌, ◌-◌, map}
use Rattle.lmn_congruence_splice.specs.Classes.{rising}
use Rattle.lmn_instr_code.specs.declared.instr.NewPort.TheVariants as new
use Rattle.lmn_verify_code.specs.Verified.{stand_once}
use Rattle.lmn_verify_code.proofs.ports.copies_stand_once.Given as goal

abbrev pub invariant-loop-copy : goal.invariant-loop-copy
invariant-loop-copy l = stand_once l.stands (map new.Copy (rising l.copy (l.copies - l.copy))) ≡ stand_once l.stands (map new.Copy (rising 0 l.copies))
