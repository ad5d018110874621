-- Words that only contracts of private functions cite: the words of an instruction as the code keeps them.
use Rattle.std.specs.Prelude.{List}
use Rattle.lmn_instr_code.specs.declared.opcode.Opcode.{Opcode}
use Rattle.lmn_instr_code.specs.declared.words.Operand.{Operand}
use Rattle.lmn_instr_code.specs.declared.words.Operands.{Operands}
use Rattle.lmn_instr_code.specs.Words.{all_operands}

-- the opcode, and the operands as one list
abbrev pub words_kept : Operands → Opcode × List Operand
words_kept o = (o.opcode, all_operands o)
