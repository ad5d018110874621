-- The names in a listing.
use Rattle.std.specs.Prelude.{ℕ, List, [], ◌++◌}
use Rattle.std.specs.List.{flat_map}
use Rattle.lmn_base.specs.Names.{label_names}
use Rattle.lmn_instr_code.specs.declared.instr.Code.{Code}
use Rattle.lmn_instr_code.specs.declared.instr.Instr.{Instr}
use Rattle.lmn_instr_code.specs.declared.words.Operand.{Operand}
use Rattle.lmn_instr_code.specs.declared.words.Operand.TheVariants.{Functor as Of}
use Rattle.lmn_instr_code.specs.Words.{operands}

-- the numbers of the names of an operand, of an instruction and of code, in the order in which they stand in its listing
abbrev pub operand_names : Operand → List ℕ
operand_names (Of f) = label_names f.label
operand_names _ = []

abbrev pub instr_names : Instr → List ℕ
instr_names i = flat_map operand_names (operands i)

abbrev pub code_names : Code → List ℕ
code_names code = flat_map instr_names code.head ++ flat_map instr_names code.body
