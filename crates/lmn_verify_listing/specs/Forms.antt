-- What the numbers of operands fit in.
use Rattle.std.specs.Prelude.{ℕ, ◌<◌, ◌≡◌, ◌^◌, false, List, [], ◌∷◌, ◌++◌, map, Option, Some, None}
use Rattle.std.specs.List.{AllByRecursion}
use Rattle.lmn_base.specs.declared.functor.Label.{Label}
use Rattle.lmn_base.specs.declared.functor.Label.TheVariants as label
use Rattle.lmn_instr_code.specs.declared.opcode.Kind.{Kind}
use Rattle.lmn_instr_code.specs.declared.opcode.Kind.TheVariants as kind
use Rattle.lmn_instr_code.specs.declared.opcode.Form.{Form}
use Rattle.lmn_instr_code.specs.declared.words.Operand.{Operand}
use Rattle.lmn_instr_code.specs.declared.words.Operand.TheVariants as operand
use Rattle.lmn_instr_reading.specs.Reading.{IsIn64Bits}

-- an integer as a label has 64 bits
abbrev pub FitsLabel : Label → Type 0
FitsLabel (label.Name n) = n < 2 ^ 32
FitsLabel (label.Int z) = IsIn64Bits z

-- An operand is of a kind, and its numbers have as many bits as an instruction keeps of them.
abbrev pub FitsKind : Kind → Operand → Type 0
FitsKind kind.Atom (operand.Atom a) = a < 2 ^ 16
FitsKind kind.Membrane (operand.Membrane m) = m < 2 ^ 16
FitsKind kind.Part (operand.Part g) = g < 2 ^ 16
FitsKind kind.Integer (operand.Integer v) = v < 2 ^ 16
FitsKind kind.Copy (operand.Copy c) = c < 2 ^ 16
FitsKind kind.Port (operand.Port p) = (p.atom < 2 ^ 16) × (p.port < 2 ^ 8)
FitsKind kind.NewPort (operand.Port p) = (p.atom < 2 ^ 16) × (p.port < 2 ^ 8)
FitsKind kind.NewPort (operand.Copy c) = c < 2 ^ 16
FitsKind kind.Functor (operand.Functor f) = FitsLabel f.label × (f.arity < 2 ^ 8)
FitsKind kind.Index (operand.Number n) = n < 2 ^ 8
FitsKind kind.Count (operand.Number n) = n < 2 ^ 64
FitsKind kind.Rule (operand.Number n) = n < 2 ^ 32
FitsKind kind.Constant (operand.Constant z) = IsIn64Bits z
FitsKind _ _ = ⊥

-- an operand of the kind, if there is one
abbrev pub FitsSome : Option Kind → Operand → Type 0
FitsSome None o = Unit {0}
FitsSome (Some k) o = FitsKind k o

-- Operands are of a form: those of which it has no kind aren't looked at.
pub record FitsForm (f : Form) (x y z : Operand) (gs : List ℕ) : Type 0 where
  pub first : FitsSome f.first x
  pub second : FitsSome f.second y
  pub third : FitsSome f.third z
  pub few : f.parts ≡ false → gs ≡ []
  pub parts : AllByRecursion (λ g. g < 2 ^ 16) gs

abbrev pub some_operand : Option Kind → Operand → List Operand
some_operand None o = []
some_operand (Some k) o = o ∷ []

-- the operands of a form, in order
abbrev pub in_form : Form → Operand → Operand → Operand → List ℕ → List Operand
in_form f x y z gs = some_operand f.first x ++ (some_operand f.second y ++ (some_operand f.third z ++ map operand.Part gs))
