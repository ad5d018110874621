-- The table of instructions: the name of each, whether it stands in a head, the kinds of its operands, and whether it sets the first.
use Rattle.std.specs.Prelude.{ℕ, Bool, true, false, List, codes, Some, None}
use Rattle.lmn_instr_code.specs.declared.opcode.Opcode.{Opcode}
use Rattle.lmn_instr_code.specs.declared.opcode.Opcode.TheVariants as opcode
use Rattle.lmn_instr_code.specs.declared.opcode.Kind.{Kind}
use Rattle.lmn_instr_code.specs.declared.opcode.Kind.TheVariants.{Atom, Membrane, Part, Integer, Copy, Port, NewPort, Functor, Index, Count, Rule, Constant}
use Rattle.lmn_instr_code.specs.declared.opcode.Form.{Form}

-- forms of operands: so many, of these kinds
abbrev pub none : Form
none = record { first = None; second = None; third = None; parts = false; sets = false }

abbrev pub one : Kind → Form
one k = record { first = Some k; second = None; third = None; parts = false; sets = false }

abbrev pub two : Kind → Kind → Form
two k l = record { first = Some k; second = Some l; third = None; parts = false; sets = false }

abbrev pub three : Kind → Kind → Kind → Form
three k l m = record { first = Some k; second = Some l; third = Some m; parts = false; sets = false }

-- and then any number of typed contexts
abbrev pub with_parts : Form → Form
with_parts f = record { first = f.first; second = f.second; third = f.third; parts = true; sets = f.sets }

-- of which the first is a register that the instruction sets
abbrev pub setting : Form → Form
setting f = record { first = f.first; second = f.second; third = f.third; parts = f.parts; sets = true }

-- an instruction of a head, COMMIT among them, or of a body
abbrev pub of_head : List ℕ → Form → List ℕ × Bool × Form
of_head name f = (name, true, f)

abbrev pub of_body : List ℕ → Form → List ℕ × Bool × Form
of_body name f = (name, false, f)

-- the table
abbrev pub entry : Opcode → List ℕ × Bool × Form
entry opcode.FindAtom = of_head (codes "FINDATOM") (setting (three Atom Membrane Functor))
entry opcode.Deref = of_head (codes "DEREF") (setting (three Atom Port Index))
entry opcode.Func = of_head (codes "FUNC") (two Atom Functor)
entry opcode.InMem = of_head (codes "INMEM") (two Atom Membrane)
entry opcode.NeqAtom = of_head (codes "NEQATOM") (two Atom Atom)
entry opcode.Joined = of_head (codes "JOINED") (two Port Port)
entry opcode.NotIn = of_head (codes "NOTIN") (two Port Membrane)
entry opcode.AnyMem = of_head (codes "ANYMEM") (setting (two Membrane Membrane))
entry opcode.NeqMem = of_head (codes "NEQMEM") (two Membrane Membrane)
entry opcode.IsInt = of_head (codes "ISINT") (setting (three Part Port Membrane))
entry opcode.IsUnary = of_head (codes "ISUNARY") (setting (three Part Port Membrane))
entry opcode.IsGround = of_head (codes "ISGROUND") (setting (three Part Port Membrane))
entry opcode.NAtoms = of_head (codes "NATOMS") (with_parts (two Membrane Count))
entry opcode.NMems = of_head (codes "NMEMS") (two Membrane Count)
entry opcode.NoRules = of_head (codes "NORULES") (one Membrane)
entry opcode.IsClosed = of_head (codes "ISCLOSED") (with_parts (one Membrane))
entry opcode.EqGround = of_head (codes "EQGROUND") (two Part Part)
entry opcode.NeqGround = of_head (codes "NEQGROUND") (two Part Part)
entry opcode.GetInt = of_head (codes "GETINT") (setting (two Integer Part))
entry opcode.Const = of_head (codes "CONST") (setting (two Integer Constant))
entry opcode.Add = of_head (codes "ADD") (setting (three Integer Integer Integer))
entry opcode.Sub = of_head (codes "SUB") (setting (three Integer Integer Integer))
entry opcode.Mul = of_head (codes "MUL") (setting (three Integer Integer Integer))
entry opcode.Div = of_head (codes "DIV") (setting (three Integer Integer Integer))
entry opcode.Mod = of_head (codes "MOD") (setting (three Integer Integer Integer))
entry opcode.Lt = of_head (codes "LT") (two Integer Integer)
entry opcode.Le = of_head (codes "LE") (two Integer Integer)
entry opcode.Gt = of_head (codes "GT") (two Integer Integer)
entry opcode.Ge = of_head (codes "GE") (two Integer Integer)
entry opcode.Eq = of_head (codes "EQ") (two Integer Integer)
entry opcode.Ne = of_head (codes "NE") (two Integer Integer)
entry opcode.Commit = of_head (codes "COMMIT") none
entry opcode.RemoveAtom = of_body (codes "REMOVEATOM") (one Atom)
entry opcode.RemovePart = of_body (codes "REMOVEPART") (one Part)
entry opcode.RemoveMem = of_body (codes "REMOVEMEM") (one Membrane)
entry opcode.NewAtom = of_body (codes "NEWATOM") (setting (three Atom Membrane Functor))
entry opcode.NewInt = of_body (codes "NEWINT") (setting (three Atom Membrane Integer))
entry opcode.NewMem = of_body (codes "NEWMEM") (setting (two Membrane Membrane))
entry opcode.CopyGround = of_body (codes "COPYGROUND") (setting (three Copy Membrane Part))
entry opcode.MoveCells = of_body (codes "MOVECELLS") (two Membrane Membrane)
entry opcode.CopyCells = of_body (codes "COPYCELLS") (two Membrane Membrane)
entry opcode.LoadRule = of_body (codes "LOADRULE") (two Membrane Rule)
entry opcode.CopyRules = of_body (codes "COPYRULES") (two Membrane Membrane)
entry opcode.DropCells = of_body (codes "DROPCELLS") (one Membrane)
entry opcode.NewLink = of_body (codes "NEWLINK") (two NewPort NewPort)
entry opcode.Relink = of_body (codes "RELINK") (two NewPort Port)
entry opcode.Unify = of_body (codes "UNIFY") (two Port Port)
entry opcode.Proceed = of_body (codes "PROCEED") none

-- the name of an instruction
abbrev pub opcode_name : Opcode → List ℕ
opcode_name o = (entry o).0

-- whether it is one of a head
abbrev pub is_in_head : Opcode → Bool
is_in_head o = (entry o).1

-- what operands it has
abbrev pub form_of : Opcode → Form
form_of o = (entry o).2
