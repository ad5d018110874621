-- The listing of a rule's code: a line `rule k`, and then a line for each instruction of its head and its body.
use Rattle.std.specs.Prelude.{ℕ, List, ◌++◌, codes}
use Rattle.std.specs.Fmt.{decimal, signed_decimal}
use Rattle.std.specs.List.{flat_map, AllByRecursion}
use Rattle.lmn_base.specs.declared.functor.Functor.{Functor}
use Rattle.lmn_instr_code.specs.declared.instr.AtomPort.{AtomPort}
use Rattle.lmn_instr_code.specs.declared.instr.Code.{Code}
use Rattle.lmn_instr_code.specs.declared.instr.Instr.{Instr}
use Rattle.lmn_instr_code.specs.declared.words.Operand.{Operand}
use Rattle.lmn_instr_code.specs.declared.words.Operand.TheVariants.{Atom, Membrane, Part, Integer, Copy, Port, Functor as Of, Number, Constant}
use Rattle.lmn_instr_code.specs.Labels.{listed_label_text, HasLabel}
use Rattle.lmn_instr_code.specs.Words.{mnemonic, operands}

-- as `A1.2`: port 2 of the atom in A1
abbrev pub port_text : AtomPort → List ℕ
port_text p = codes "A" ++ (decimal p.atom ++ (codes "." ++ decimal p.port))

-- as `append/3`
abbrev pub functor_text : List (List ℕ) → Functor → List ℕ
functor_text names f = listed_label_text names f.label ++ (codes "/" ++ decimal f.arity)

-- a register by its letter and its number, and a number in decimal
abbrev pub operand_text : List (List ℕ) → Operand → List ℕ
operand_text names (Atom a) = codes "A" ++ decimal a
operand_text names (Membrane m) = codes "M" ++ decimal m
operand_text names (Part g) = codes "G" ++ decimal g
operand_text names (Integer v) = codes "V" ++ decimal v
operand_text names (Copy c) = codes "C" ++ decimal c
operand_text names (Port p) = port_text p
operand_text names (Of f) = functor_text names f
operand_text names (Number n) = decimal n
operand_text names (Constant z) = signed_decimal z

-- operands, each behind a space
abbrev pub operands_text : List (List ℕ) → List Operand → List ℕ
operands_text names os = flat_map (λ o. codes " " ++ operand_text names o) os

-- two spaces, the name, the operands, and a line feed
abbrev pub line : List (List ℕ) → Instr → List ℕ
line names i = codes "  " ++ (mnemonic i ++ (operands_text names (operands i) ++ codes "\n"))

-- The listing of code as that of the rule with a number.
abbrev pub code_listing : List (List ℕ) → Code → ℕ → List ℕ
code_listing names code number =
    codes "rule " ++ (decimal number ++ (codes "\n" ++ (flat_map (line names) code.head ++ flat_map (line names) code.body)))

-- the list has the names of an operand, of each operand of an instruction, and of code
abbrev pub HasOperand : List (List ℕ) → Operand → Type 0
HasOperand names (Of f) = HasLabel names f.label
HasOperand names _ = Unit {0}

abbrev pub HasInstr : List (List ℕ) → Instr → Type 0
HasInstr names i = AllByRecursion (HasOperand names) (operands i)

abbrev pub HasCode : List (List ℕ) → Code → Type 0
HasCode names code = AllByRecursion (HasInstr names) code.head × AllByRecursion (HasInstr names) code.body
