use Rattle.std.proofs.Common.{ap, ◌∙◌, List}
use Rattle.lmn_instr_code.specs.declared.opcode.Opcode.{Opcode}
use Rattle.lmn_instr_code.specs.declared.words.Operand.{Operand}
use Rattle.lmn_instr_code.proofs.words.operands_of.Goals as goal

pub returns-clause-opcode : goal.returns-clause-opcode
returns-clause-opcode c = ap (λ (p : Opcode × List Operand). p.0) c.with_opcode.ensures ∙ c.opcode_of.ensures

pub returns-clause-operands : goal.returns-clause-operands
returns-clause-operands c = ap (λ (p : Opcode × List Operand). p.1) c.with_opcode.ensures
