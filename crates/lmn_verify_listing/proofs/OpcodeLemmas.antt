-- What the tables of names and operands say, name by name.
use Rattle.std.proofs.Common.{◌≡◌, ◌==◌, Bool, true, false, not, List, [], ◌∷◌, refl, sym, ap, ◌∙◌, true≢false}
use Rattle.std.specs.Prelude.{Option, Some, None, bytes_eq}
use Rattle.std.specs.List.{list_all, find}
use Rattle.std.proofs.lemmas.Option.{same_Some}
use Rattle.lmn_instr_code.specs.declared.opcode.Opcode.{Opcode}
use Rattle.lmn_instr_code.specs.declared.opcode.Opcode.TheVariants as opcode
use Rattle.lmn_instr_code.specs.declared.opcode.Kind.{Kind}
use Rattle.lmn_instr_code.specs.declared.opcode.Kind.TheVariants as kind
use Rattle.lmn_instr_code.specs.declared.opcode.Form.{Form}
use Rattle.lmn_instr_code.specs.Opcodes.{opcode_name, form_of}

-- a name has no space
pub no_space : (op : Opcode) → list_all (λ b. not (b == 32)) (opcode_name op) ≡ true
no_space opcode.FindAtom = refl
no_space opcode.Deref = refl
no_space opcode.Func = refl
no_space opcode.InMem = refl
no_space opcode.NeqAtom = refl
no_space opcode.Joined = refl
no_space opcode.NotIn = refl
no_space opcode.AnyMem = refl
no_space opcode.NeqMem = refl
no_space opcode.IsInt = refl
no_space opcode.IsUnary = refl
no_space opcode.IsGround = refl
no_space opcode.NAtoms = refl
no_space opcode.NMems = refl
no_space opcode.NoRules = refl
no_space opcode.IsClosed = refl
no_space opcode.EqGround = refl
no_space opcode.NeqGround = refl
no_space opcode.GetInt = refl
no_space opcode.Const = refl
no_space opcode.Add = refl
no_space opcode.Sub = refl
no_space opcode.Mul = refl
no_space opcode.Div = refl
no_space opcode.Mod = refl
no_space opcode.Lt = refl
no_space opcode.Le = refl
no_space opcode.Gt = refl
no_space opcode.Ge = refl
no_space opcode.Eq = refl
no_space opcode.Ne = refl
no_space opcode.Commit = refl
no_space opcode.RemoveAtom = refl
no_space opcode.RemovePart = refl
no_space opcode.RemoveMem = refl
no_space opcode.NewAtom = refl
no_space opcode.NewInt = refl
no_space opcode.NewMem = refl
no_space opcode.CopyGround = refl
no_space opcode.MoveCells = refl
no_space opcode.CopyCells = refl
no_space opcode.LoadRule = refl
no_space opcode.CopyRules = refl
no_space opcode.DropCells = refl
no_space opcode.NewLink = refl
no_space opcode.Relink = refl
no_space opcode.Unify = refl
no_space opcode.Proceed = refl

abbrev pub is_functor : Option Kind → Bool
is_functor (Some kind.Functor) = true
is_functor _ = false

-- what can stand behind a functor
pub record EndsWithFunctor (f : Form) : Type 0 where
  pub first : is_functor f.first ≡ false
  pub second : is_functor f.second ≡ true → (f.third ≡ None) × (f.parts ≡ false)
  pub third : is_functor f.third ≡ true → f.parts ≡ false

pub functor_ends : (op : Opcode) → EndsWithFunctor (form_of op)
functor_ends opcode.FindAtom = record { first = refl; second = λ e. absurd (true≢false (sym e)); third = λ e. refl }
functor_ends opcode.Deref = record { first = refl; second = λ e. absurd (true≢false (sym e)); third = λ e. absurd (true≢false (sym e)) }
functor_ends opcode.Func = record { first = refl; second = λ e. (refl, refl); third = λ e. absurd (true≢false (sym e)) }
functor_ends opcode.InMem = record { first = refl; second = λ e. absurd (true≢false (sym e)); third = λ e. absurd (true≢false (sym e)) }
functor_ends opcode.NeqAtom = record { first = refl; second = λ e. absurd (true≢false (sym e)); third = λ e. absurd (true≢false (sym e)) }
functor_ends opcode.Joined = record { first = refl; second = λ e. absurd (true≢false (sym e)); third = λ e. absurd (true≢false (sym e)) }
functor_ends opcode.NotIn = record { first = refl; second = λ e. absurd (true≢false (sym e)); third = λ e. absurd (true≢false (sym e)) }
functor_ends opcode.AnyMem = record { first = refl; second = λ e. absurd (true≢false (sym e)); third = λ e. absurd (true≢false (sym e)) }
functor_ends opcode.NeqMem = record { first = refl; second = λ e. absurd (true≢false (sym e)); third = λ e. absurd (true≢false (sym e)) }
functor_ends opcode.IsInt = record { first = refl; second = λ e. absurd (true≢false (sym e)); third = λ e. absurd (true≢false (sym e)) }
functor_ends opcode.IsUnary = record { first = refl; second = λ e. absurd (true≢false (sym e)); third = λ e. absurd (true≢false (sym e)) }
functor_ends opcode.IsGround = record { first = refl; second = λ e. absurd (true≢false (sym e)); third = λ e. absurd (true≢false (sym e)) }
functor_ends opcode.NAtoms = record { first = refl; second = λ e. absurd (true≢false (sym e)); third = λ e. absurd (true≢false (sym e)) }
functor_ends opcode.NMems = record { first = refl; second = λ e. absurd (true≢false (sym e)); third = λ e. absurd (true≢false (sym e)) }
functor_ends opcode.NoRules = record { first = refl; second = λ e. absurd (true≢false (sym e)); third = λ e. absurd (true≢false (sym e)) }
functor_ends opcode.IsClosed = record { first = refl; second = λ e. absurd (true≢false (sym e)); third = λ e. absurd (true≢false (sym e)) }
functor_ends opcode.EqGround = record { first = refl; second = λ e. absurd (true≢false (sym e)); third = λ e. absurd (true≢false (sym e)) }
functor_ends opcode.NeqGround = record { first = refl; second = λ e. absurd (true≢false (sym e)); third = λ e. absurd (true≢false (sym e)) }
functor_ends opcode.GetInt = record { first = refl; second = λ e. absurd (true≢false (sym e)); third = λ e. absurd (true≢false (sym e)) }
functor_ends opcode.Const = record { first = refl; second = λ e. absurd (true≢false (sym e)); third = λ e. absurd (true≢false (sym e)) }
functor_ends opcode.Add = record { first = refl; second = λ e. absurd (true≢false (sym e)); third = λ e. absurd (true≢false (sym e)) }
functor_ends opcode.Sub = record { first = refl; second = λ e. absurd (true≢false (sym e)); third = λ e. absurd (true≢false (sym e)) }
functor_ends opcode.Mul = record { first = refl; second = λ e. absurd (true≢false (sym e)); third = λ e. absurd (true≢false (sym e)) }
functor_ends opcode.Div = record { first = refl; second = λ e. absurd (true≢false (sym e)); third = λ e. absurd (true≢false (sym e)) }
functor_ends opcode.Mod = record { first = refl; second = λ e. absurd (true≢false (sym e)); third = λ e. absurd (true≢false (sym e)) }
functor_ends opcode.Lt = record { first = refl; second = λ e. absurd (true≢false (sym e)); third = λ e. absurd (true≢false (sym e)) }
functor_ends opcode.Le = record { first = refl; second = λ e. absurd (true≢false (sym e)); third = λ e. absurd (true≢false (sym e)) }
functor_ends opcode.Gt = record { first = refl; second = λ e. absurd (true≢false (sym e)); third = λ e. absurd (true≢false (sym e)) }
functor_ends opcode.Ge = record { first = refl; second = λ e. absurd (true≢false (sym e)); third = λ e. absurd (true≢false (sym e)) }
functor_ends opcode.Eq = record { first = refl; second = λ e. absurd (true≢false (sym e)); third = λ e. absurd (true≢false (sym e)) }
functor_ends opcode.Ne = record { first = refl; second = λ e. absurd (true≢false (sym e)); third = λ e. absurd (true≢false (sym e)) }
functor_ends opcode.Commit = record { first = refl; second = λ e. absurd (true≢false (sym e)); third = λ e. absurd (true≢false (sym e)) }
functor_ends opcode.RemoveAtom = record { first = refl; second = λ e. absurd (true≢false (sym e)); third = λ e. absurd (true≢false (sym e)) }
functor_ends opcode.RemovePart = record { first = refl; second = λ e. absurd (true≢false (sym e)); third = λ e. absurd (true≢false (sym e)) }
functor_ends opcode.RemoveMem = record { first = refl; second = λ e. absurd (true≢false (sym e)); third = λ e. absurd (true≢false (sym e)) }
functor_ends opcode.NewAtom = record { first = refl; second = λ e. absurd (true≢false (sym e)); third = λ e. refl }
functor_ends opcode.NewInt = record { first = refl; second = λ e. absurd (true≢false (sym e)); third = λ e. absurd (true≢false (sym e)) }
functor_ends opcode.NewMem = record { first = refl; second = λ e. absurd (true≢false (sym e)); third = λ e. absurd (true≢false (sym e)) }
functor_ends opcode.CopyGround = record { first = refl; second = λ e. absurd (true≢false (sym e)); third = λ e. absurd (true≢false (sym e)) }
functor_ends opcode.MoveCells = record { first = refl; second = λ e. absurd (true≢false (sym e)); third = λ e. absurd (true≢false (sym e)) }
functor_ends opcode.CopyCells = record { first = refl; second = λ e. absurd (true≢false (sym e)); third = λ e. absurd (true≢false (sym e)) }
functor_ends opcode.LoadRule = record { first = refl; second = λ e. absurd (true≢false (sym e)); third = λ e. absurd (true≢false (sym e)) }
functor_ends opcode.CopyRules = record { first = refl; second = λ e. absurd (true≢false (sym e)); third = λ e. absurd (true≢false (sym e)) }
functor_ends opcode.DropCells = record { first = refl; second = λ e. absurd (true≢false (sym e)); third = λ e. absurd (true≢false (sym e)) }
functor_ends opcode.NewLink = record { first = refl; second = λ e. absurd (true≢false (sym e)); third = λ e. absurd (true≢false (sym e)) }
functor_ends opcode.Relink = record { first = refl; second = λ e. absurd (true≢false (sym e)); third = λ e. absurd (true≢false (sym e)) }
functor_ends opcode.Unify = record { first = refl; second = λ e. absurd (true≢false (sym e)); third = λ e. absurd (true≢false (sym e)) }
functor_ends opcode.Proceed = record { first = refl; second = λ e. absurd (true≢false (sym e)); third = λ e. absurd (true≢false (sym e)) }

-- all instructions
abbrev all_opcodes : List Opcode
all_opcodes =
    opcode.FindAtom ∷ opcode.Deref ∷ opcode.Func ∷ opcode.InMem ∷ opcode.NeqAtom ∷ opcode.Joined ∷ opcode.NotIn ∷ opcode.AnyMem ∷ opcode.NeqMem
    ∷ opcode.IsInt ∷ opcode.IsUnary ∷ opcode.IsGround ∷ opcode.NAtoms ∷ opcode.NMems ∷ opcode.NoRules ∷ opcode.IsClosed ∷ opcode.EqGround
    ∷ opcode.NeqGround ∷ opcode.GetInt ∷ opcode.Const ∷ opcode.Add ∷ opcode.Sub ∷ opcode.Mul ∷ opcode.Div ∷ opcode.Mod ∷ opcode.Lt ∷ opcode.Le
    ∷ opcode.Gt ∷ opcode.Ge ∷ opcode.Eq ∷ opcode.Ne ∷ opcode.Commit ∷ opcode.RemoveAtom ∷ opcode.RemovePart ∷ opcode.RemoveMem ∷ opcode.NewAtom
    ∷ opcode.NewInt ∷ opcode.NewMem ∷ opcode.CopyGround ∷ opcode.MoveCells ∷ opcode.CopyCells ∷ opcode.LoadRule ∷ opcode.CopyRules ∷ opcode.DropCells
    ∷ opcode.NewLink ∷ opcode.Relink ∷ opcode.Unify ∷ opcode.Proceed ∷ []

-- a name is that of one instruction alone
found : (op : Opcode) → find (λ p. bytes_eq (opcode_name p) (opcode_name op)) all_opcodes ≡ Some op
found opcode.FindAtom = refl
found opcode.Deref = refl
found opcode.Func = refl
found opcode.InMem = refl
found opcode.NeqAtom = refl
found opcode.Joined = refl
found opcode.NotIn = refl
found opcode.AnyMem = refl
found opcode.NeqMem = refl
found opcode.IsInt = refl
found opcode.IsUnary = refl
found opcode.IsGround = refl
found opcode.NAtoms = refl
found opcode.NMems = refl
found opcode.NoRules = refl
found opcode.IsClosed = refl
found opcode.EqGround = refl
found opcode.NeqGround = refl
found opcode.GetInt = refl
found opcode.Const = refl
found opcode.Add = refl
found opcode.Sub = refl
found opcode.Mul = refl
found opcode.Div = refl
found opcode.Mod = refl
found opcode.Lt = refl
found opcode.Le = refl
found opcode.Gt = refl
found opcode.Ge = refl
found opcode.Eq = refl
found opcode.Ne = refl
found opcode.Commit = refl
found opcode.RemoveAtom = refl
found opcode.RemovePart = refl
found opcode.RemoveMem = refl
found opcode.NewAtom = refl
found opcode.NewInt = refl
found opcode.NewMem = refl
found opcode.CopyGround = refl
found opcode.MoveCells = refl
found opcode.CopyCells = refl
found opcode.LoadRule = refl
found opcode.CopyRules = refl
found opcode.DropCells = refl
found opcode.NewLink = refl
found opcode.Relink = refl
found opcode.Unify = refl
found opcode.Proceed = refl

pub one_name : (a b : Opcode) → opcode_name a ≡ opcode_name b → a ≡ b
one_name a b e = same_Some a b (sym (found a) ∙ ap (λ n. find (λ p. bytes_eq (opcode_name p) n) all_opcodes) e ∙ found b)
