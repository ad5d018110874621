-- An instruction is known by its name and its operands.
use Rattle.std.proofs.Common.{◌≡◌, ℕ, List, [], ◌∷◌, map, refl, sym, ap, ◌∙◌}
use Rattle.lmn_instr_code.specs.declared.instr.Instr.{Instr}
use Rattle.lmn_instr_code.specs.declared.instr.Instr.TheVariants as instr
use Rattle.lmn_instr_code.specs.declared.instr.NewPort.{NewPort}
use Rattle.lmn_instr_code.specs.declared.instr.NewPort.TheVariants as new
use Rattle.lmn_instr_code.specs.declared.words.Operand.{Operand}
use Rattle.lmn_instr_code.specs.declared.words.Operand.TheVariants as operand
use Rattle.lmn_instr_code.specs.Words.{operands, port_operand, opcode_of}
use Rattle.lmn_instr_code.specs.declared.opcode.Opcode.{Opcode}
use Rattle.lmn_instr_code.specs.declared.opcode.Opcode.TheVariants as opcode

-- ---- an instruction by its name and its operands

new_port : Operand → NewPort
new_port (operand.Port p) = new.Atom p
new_port (operand.Copy c) = new.Copy c
new_port _ = new.Copy 0

new_port_is : (p : NewPort) → new_port (port_operand p) ≡ p
unfolding new_port
new_port_is (new.Atom p) = refl
new_port_is (new.Copy c) = refl

part : Operand → ℕ
part (operand.Part g) = g
part _ = 0

parts_are : (gs : List ℕ) → map part (map operand.Part gs) ≡ gs
unfolding part
parts_are [] = refl
parts_are (g ∷ gs) = ap (λ rest. g ∷ rest) (parts_are gs)

made : Opcode → List Operand → Instr
made opcode.FindAtom (operand.Atom x0 ∷ (operand.Membrane x1 ∷ (operand.Functor x2 ∷ []))) = instr.FindAtom x0 x1 x2
made opcode.Deref (operand.Atom x0 ∷ (operand.Port x1 ∷ (operand.Number x2 ∷ []))) = instr.Deref x0 x1 x2
made opcode.Func (operand.Atom x0 ∷ (operand.Functor x1 ∷ [])) = instr.Func x0 x1
made opcode.InMem (operand.Atom x0 ∷ (operand.Membrane x1 ∷ [])) = instr.InMem x0 x1
made opcode.NeqAtom (operand.Atom x0 ∷ (operand.Atom x1 ∷ [])) = instr.NeqAtom x0 x1
made opcode.Joined (operand.Port x0 ∷ (operand.Port x1 ∷ [])) = instr.Joined x0 x1
made opcode.NotIn (operand.Port x0 ∷ (operand.Membrane x1 ∷ [])) = instr.NotIn x0 x1
made opcode.AnyMem (operand.Membrane x0 ∷ (operand.Membrane x1 ∷ [])) = instr.AnyMem x0 x1
made opcode.NeqMem (operand.Membrane x0 ∷ (operand.Membrane x1 ∷ [])) = instr.NeqMem x0 x1
made opcode.IsInt (operand.Part x0 ∷ (operand.Port x1 ∷ (operand.Membrane x2 ∷ []))) = instr.IsInt x0 x1 x2
made opcode.IsUnary (operand.Part x0 ∷ (operand.Port x1 ∷ (operand.Membrane x2 ∷ []))) = instr.IsUnary x0 x1 x2
made opcode.IsGround (operand.Part x0 ∷ (operand.Port x1 ∷ (operand.Membrane x2 ∷ []))) = instr.IsGround x0 x1 x2
made opcode.NAtoms (operand.Membrane x0 ∷ (operand.Number x1 ∷ x2)) = instr.NAtoms x0 x1 (map part x2)
made opcode.NMems (operand.Membrane x0 ∷ (operand.Number x1 ∷ [])) = instr.NMems x0 x1
made opcode.NoRules (operand.Membrane x0 ∷ []) = instr.NoRules x0
made opcode.IsClosed (operand.Membrane x0 ∷ x1) = instr.IsClosed x0 (map part x1)
made opcode.EqGround (operand.Part x0 ∷ (operand.Part x1 ∷ [])) = instr.EqGround x0 x1
made opcode.NeqGround (operand.Part x0 ∷ (operand.Part x1 ∷ [])) = instr.NeqGround x0 x1
made opcode.GetInt (operand.Integer x0 ∷ (operand.Part x1 ∷ [])) = instr.GetInt x0 x1
made opcode.Const (operand.Integer x0 ∷ (operand.Constant x1 ∷ [])) = instr.Const x0 x1
made opcode.Add (operand.Integer x0 ∷ (operand.Integer x1 ∷ (operand.Integer x2 ∷ []))) = instr.Add x0 x1 x2
made opcode.Sub (operand.Integer x0 ∷ (operand.Integer x1 ∷ (operand.Integer x2 ∷ []))) = instr.Sub x0 x1 x2
made opcode.Mul (operand.Integer x0 ∷ (operand.Integer x1 ∷ (operand.Integer x2 ∷ []))) = instr.Mul x0 x1 x2
made opcode.Div (operand.Integer x0 ∷ (operand.Integer x1 ∷ (operand.Integer x2 ∷ []))) = instr.Div x0 x1 x2
made opcode.Mod (operand.Integer x0 ∷ (operand.Integer x1 ∷ (operand.Integer x2 ∷ []))) = instr.Mod x0 x1 x2
made opcode.Lt (operand.Integer x0 ∷ (operand.Integer x1 ∷ [])) = instr.Lt x0 x1
made opcode.Le (operand.Integer x0 ∷ (operand.Integer x1 ∷ [])) = instr.Le x0 x1
made opcode.Gt (operand.Integer x0 ∷ (operand.Integer x1 ∷ [])) = instr.Gt x0 x1
made opcode.Ge (operand.Integer x0 ∷ (operand.Integer x1 ∷ [])) = instr.Ge x0 x1
made opcode.Eq (operand.Integer x0 ∷ (operand.Integer x1 ∷ [])) = instr.Eq x0 x1
made opcode.Ne (operand.Integer x0 ∷ (operand.Integer x1 ∷ [])) = instr.Ne x0 x1
made opcode.Commit [] = instr.Commit
made opcode.RemoveAtom (operand.Atom x0 ∷ []) = instr.RemoveAtom x0
made opcode.RemovePart (operand.Part x0 ∷ []) = instr.RemovePart x0
made opcode.RemoveMem (operand.Membrane x0 ∷ []) = instr.RemoveMem x0
made opcode.NewAtom (operand.Atom x0 ∷ (operand.Membrane x1 ∷ (operand.Functor x2 ∷ []))) = instr.NewAtom x0 x1 x2
made opcode.NewInt (operand.Atom x0 ∷ (operand.Membrane x1 ∷ (operand.Integer x2 ∷ []))) = instr.NewInt x0 x1 x2
made opcode.NewMem (operand.Membrane x0 ∷ (operand.Membrane x1 ∷ [])) = instr.NewMem x0 x1
made opcode.CopyGround (operand.Copy x0 ∷ (operand.Membrane x1 ∷ (operand.Part x2 ∷ []))) = instr.CopyGround x0 x1 x2
made opcode.MoveCells (operand.Membrane x0 ∷ (operand.Membrane x1 ∷ [])) = instr.MoveCells x0 x1
made opcode.CopyCells (operand.Membrane x0 ∷ (operand.Membrane x1 ∷ [])) = instr.CopyCells x0 x1
made opcode.LoadRule (operand.Membrane x0 ∷ (operand.Number x1 ∷ [])) = instr.LoadRule x0 x1
made opcode.CopyRules (operand.Membrane x0 ∷ (operand.Membrane x1 ∷ [])) = instr.CopyRules x0 x1
made opcode.DropCells (operand.Membrane x0 ∷ []) = instr.DropCells x0
made opcode.NewLink (x0 ∷ (x1 ∷ [])) = instr.NewLink (new_port x0) (new_port x1)
made opcode.Relink (x0 ∷ (operand.Port x1 ∷ [])) = instr.Relink (new_port x0) x1
made opcode.Unify (operand.Port x0 ∷ (operand.Port x1 ∷ [])) = instr.Unify x0 x1
made opcode.Proceed [] = instr.Proceed
made _ _ = instr.Commit

made_is : (i : Instr) → made (opcode_of i) (operands i) ≡ i
unfolding made
made_is (instr.FindAtom x0 x1 x2) = refl
made_is (instr.Deref x0 x1 x2) = refl
made_is (instr.Func x0 x1) = refl
made_is (instr.InMem x0 x1) = refl
made_is (instr.NeqAtom x0 x1) = refl
made_is (instr.Joined x0 x1) = refl
made_is (instr.NotIn x0 x1) = refl
made_is (instr.AnyMem x0 x1) = refl
made_is (instr.NeqMem x0 x1) = refl
made_is (instr.IsInt x0 x1 x2) = refl
made_is (instr.IsUnary x0 x1 x2) = refl
made_is (instr.IsGround x0 x1 x2) = refl
made_is (instr.NAtoms x0 x1 x2) = ap (instr.NAtoms x0 x1) (parts_are x2)
made_is (instr.NMems x0 x1) = refl
made_is (instr.NoRules x0) = refl
made_is (instr.IsClosed x0 x1) = ap (instr.IsClosed x0) (parts_are x1)
made_is (instr.EqGround x0 x1) = refl
made_is (instr.NeqGround x0 x1) = refl
made_is (instr.GetInt x0 x1) = refl
made_is (instr.Const x0 x1) = refl
made_is (instr.Add x0 x1 x2) = refl
made_is (instr.Sub x0 x1 x2) = refl
made_is (instr.Mul x0 x1 x2) = refl
made_is (instr.Div x0 x1 x2) = refl
made_is (instr.Mod x0 x1 x2) = refl
made_is (instr.Lt x0 x1) = refl
made_is (instr.Le x0 x1) = refl
made_is (instr.Gt x0 x1) = refl
made_is (instr.Ge x0 x1) = refl
made_is (instr.Eq x0 x1) = refl
made_is (instr.Ne x0 x1) = refl
made_is instr.Commit = refl
made_is (instr.RemoveAtom x0) = refl
made_is (instr.RemovePart x0) = refl
made_is (instr.RemoveMem x0) = refl
made_is (instr.NewAtom x0 x1 x2) = refl
made_is (instr.NewInt x0 x1 x2) = refl
made_is (instr.NewMem x0 x1) = refl
made_is (instr.CopyGround x0 x1 x2) = refl
made_is (instr.MoveCells x0 x1) = refl
made_is (instr.CopyCells x0 x1) = refl
made_is (instr.LoadRule x0 x1) = refl
made_is (instr.CopyRules x0 x1) = refl
made_is (instr.DropCells x0) = refl
made_is (instr.NewLink x0 x1) = (λ i. instr.NewLink (new_port_is x0 i) (new_port_is x1 i))
made_is (instr.Relink x0 x1) = ap (λ p. instr.Relink p x1) (new_port_is x0)
made_is (instr.Unify x0 x1) = refl
made_is instr.Proceed = refl

-- an instruction is known by its name and its operands
pub one_instr : (i j : Instr) → opcode_of i ≡ opcode_of j → operands i ≡ operands j → i ≡ j
one_instr i j e f = sym (made_is i) ∙ (λ k. made (e k) (f k)) ∙ made_is j
