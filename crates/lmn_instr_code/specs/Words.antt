-- The words of an instruction's line: its opcode, which tells the name, and its operands in their order.
use Rattle.std.specs.Prelude.{ℕ, List, [], ◌∷◌, ◌++◌, map, option_to_list}
use Rattle.lmn_instr_code.specs.declared.instr.Instr.{Instr}
use Rattle.lmn_instr_code.specs.declared.instr.Instr.TheVariants.{FindAtom, Deref, Func, InMem, NeqAtom, Joined, NotIn, AnyMem, NeqMem, IsInt, IsUnary, IsGround, NAtoms, NMems, NoRules, IsClosed, EqGround, NeqGround, GetInt, Const, Add, Sub, Mul, Div, Mod, Lt, Le, Gt, Ge, Eq, Ne, Commit, RemoveAtom, RemovePart, RemoveMem, NewAtom, NewInt, NewMem, CopyGround, MoveCells, CopyCells, LoadRule, CopyRules, DropCells, NewLink, Relink, Unify, Proceed}
use Rattle.lmn_instr_code.specs.declared.instr.NewPort.{NewPort}
use Rattle.lmn_instr_code.specs.declared.instr.NewPort.TheVariants as new
use Rattle.lmn_instr_code.specs.declared.opcode.Opcode.{Opcode}
use Rattle.lmn_instr_code.specs.declared.opcode.Opcode.TheVariants as opcode
use Rattle.lmn_instr_code.specs.declared.words.Operand.{Operand}
use Rattle.lmn_instr_code.specs.declared.words.Operand.TheVariants.{Atom, Membrane, Part, Integer, Copy, Port, Functor as Of, Number, Constant}
use Rattle.lmn_instr_code.specs.declared.words.Operands.{Operands}
use Rattle.lmn_instr_code.specs.Opcodes.{opcode_name}

-- a port that a body makes: that of an atom, or the root port of a copy
abbrev pub port_operand : NewPort → Operand
port_operand (new.Atom p) = Port p
port_operand (new.Copy c) = Copy c

-- The words of each instruction: its opcode, and its operands in their order.
abbrev pub line_words : Instr → Opcode × List Operand
line_words (FindAtom a m f) = (opcode.FindAtom, Atom a ∷ Membrane m ∷ Of f ∷ [])
line_words (Deref a p k) = (opcode.Deref, Atom a ∷ Port p ∷ Number k ∷ [])
line_words (Func a f) = (opcode.Func, Atom a ∷ Of f ∷ [])
line_words (InMem a m) = (opcode.InMem, Atom a ∷ Membrane m ∷ [])
line_words (NeqAtom a b) = (opcode.NeqAtom, Atom a ∷ Atom b ∷ [])
line_words (Joined p q) = (opcode.Joined, Port p ∷ Port q ∷ [])
line_words (NotIn p m) = (opcode.NotIn, Port p ∷ Membrane m ∷ [])
line_words (AnyMem m n) = (opcode.AnyMem, Membrane m ∷ Membrane n ∷ [])
line_words (NeqMem m n) = (opcode.NeqMem, Membrane m ∷ Membrane n ∷ [])
line_words (IsInt g p m) = (opcode.IsInt, Part g ∷ Port p ∷ Membrane m ∷ [])
line_words (IsUnary g p m) = (opcode.IsUnary, Part g ∷ Port p ∷ Membrane m ∷ [])
line_words (IsGround g p m) = (opcode.IsGround, Part g ∷ Port p ∷ Membrane m ∷ [])
line_words (NAtoms m n gs) = (opcode.NAtoms, Membrane m ∷ Number n ∷ map Part gs)
line_words (NMems m n) = (opcode.NMems, Membrane m ∷ Number n ∷ [])
line_words (NoRules m) = (opcode.NoRules, Membrane m ∷ [])
line_words (IsClosed m gs) = (opcode.IsClosed, Membrane m ∷ map Part gs)
line_words (EqGround g h) = (opcode.EqGround, Part g ∷ Part h ∷ [])
line_words (NeqGround g h) = (opcode.NeqGround, Part g ∷ Part h ∷ [])
line_words (GetInt v g) = (opcode.GetInt, Integer v ∷ Part g ∷ [])
line_words (Const v z) = (opcode.Const, Integer v ∷ Constant z ∷ [])
line_words (Add v w x) = (opcode.Add, Integer v ∷ Integer w ∷ Integer x ∷ [])
line_words (Sub v w x) = (opcode.Sub, Integer v ∷ Integer w ∷ Integer x ∷ [])
line_words (Mul v w x) = (opcode.Mul, Integer v ∷ Integer w ∷ Integer x ∷ [])
line_words (Div v w x) = (opcode.Div, Integer v ∷ Integer w ∷ Integer x ∷ [])
line_words (Mod v w x) = (opcode.Mod, Integer v ∷ Integer w ∷ Integer x ∷ [])
line_words (Lt v w) = (opcode.Lt, Integer v ∷ Integer w ∷ [])
line_words (Le v w) = (opcode.Le, Integer v ∷ Integer w ∷ [])
line_words (Gt v w) = (opcode.Gt, Integer v ∷ Integer w ∷ [])
line_words (Ge v w) = (opcode.Ge, Integer v ∷ Integer w ∷ [])
line_words (Eq v w) = (opcode.Eq, Integer v ∷ Integer w ∷ [])
line_words (Ne v w) = (opcode.Ne, Integer v ∷ Integer w ∷ [])
line_words Commit = (opcode.Commit, [])
line_words (RemoveAtom a) = (opcode.RemoveAtom, Atom a ∷ [])
line_words (RemovePart g) = (opcode.RemovePart, Part g ∷ [])
line_words (RemoveMem m) = (opcode.RemoveMem, Membrane m ∷ [])
line_words (NewAtom a m f) = (opcode.NewAtom, Atom a ∷ Membrane m ∷ Of f ∷ [])
line_words (NewInt a m v) = (opcode.NewInt, Atom a ∷ Membrane m ∷ Integer v ∷ [])
line_words (NewMem m n) = (opcode.NewMem, Membrane m ∷ Membrane n ∷ [])
line_words (CopyGround c m g) = (opcode.CopyGround, Copy c ∷ Membrane m ∷ Part g ∷ [])
line_words (MoveCells m n) = (opcode.MoveCells, Membrane m ∷ Membrane n ∷ [])
line_words (CopyCells m n) = (opcode.CopyCells, Membrane m ∷ Membrane n ∷ [])
line_words (LoadRule m k) = (opcode.LoadRule, Membrane m ∷ Number k ∷ [])
line_words (CopyRules m n) = (opcode.CopyRules, Membrane m ∷ Membrane n ∷ [])
line_words (DropCells m) = (opcode.DropCells, Membrane m ∷ [])
line_words (NewLink p q) = (opcode.NewLink, port_operand p ∷ port_operand q ∷ [])
line_words (Relink p q) = (opcode.Relink, port_operand p ∷ Port q ∷ [])
line_words (Unify p q) = (opcode.Unify, Port p ∷ Port q ∷ [])
line_words Proceed = (opcode.Proceed, [])

-- the opcode of an instruction, and its name
abbrev pub opcode_of : Instr → Opcode
opcode_of i = (line_words i).0

abbrev pub mnemonic : Instr → List ℕ
mnemonic i = opcode_name (opcode_of i)

-- its operands, in order
abbrev pub operands : Instr → List Operand
operands i = (line_words i).1

-- the operands as the code keeps them, as one list
abbrev pub all_operands : Operands → List Operand
all_operands o = option_to_list o.first ++ (option_to_list o.second ++ (option_to_list o.third ++ map Part o.parts.now))
