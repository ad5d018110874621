use Rattle.std.proofs.Common.{◌≡◌, drop, map}
use Rattle.std.specs.List.{list_all}
use Rattle.lmn_instr_code.specs.declared.words.Operand.TheVariants as operand
use Rattle.lmn_verify_code.specs.Verified.{is_set}
use Rattle.lmn_verify_code.proofs.registers.are_parts_set.Given as goal

abbrev pub invariant-loop-part : goal.invariant-loop-part
invariant-loop-part l = list_all (is_set l.counts) (map operand.Part (drop l.part-index l.parts)) ≡ list_all (is_set l.counts) (map operand.Part l.parts)
