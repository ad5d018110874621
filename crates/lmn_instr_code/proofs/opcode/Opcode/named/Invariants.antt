use Rattle.std.proofs.Common.{◌≡◌, take}
use Rattle.std.specs.List.{AllByRecursion}
use Rattle.lmn_instr_code.specs.Opcodes.{opcode_name}
use Rattle.lmn_instr_code.specs.declared.opcode.TheConstants.{OPCODES}
use Rattle.lmn_instr_code.proofs.opcode.Opcode.named.Given as goal

abbrev pub invariant-loop-opcode : goal.invariant-loop-opcode
invariant-loop-opcode l = AllByRecursion (λ op. opcode_name op ≡ l.name → ⊥) (take l.opcode-index OPCODES)
