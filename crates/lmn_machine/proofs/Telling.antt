-- The outcome of an instruction.
use Rattle.std.proofs.Common.{ℕ, ◌≡◌, length, refl, subst}
use Rattle.std.specs.Prelude.{Bool, ◌↔◌, IsTrue}
use Rattle.lmn_base.specs.declared.functor.Functor.{Functor}
use Rattle.lmn_store_heap.specs.Heap.{Heap}
use Rattle.lmn_instr_code.specs.declared.instr.Instr.{Instr}
use Rattle.lmn_instr_code.specs.declared.instr.Instr.TheVariants.{FindAtom, AnyMem}
use Rattle.lmn_instr_code.specs.Running.{HeadRegisters, HeadSize, InstructionHolds}
use Rattle.lmn_machine_registers.specs.Agreeing.{Agrees}
use Rattle.lmn_machine_registers.specs.declared.registers.SetRegisters.{SetRegisters}
use Rattle.lmn_machine.specs.Searching.{ChoosesNone, Stepped, TestsSetRegisters}
use Rattle.lmn_machine.specs.Outcomes.{CanStep, ChoosesAtoms, ChoosesMembranes, ComparesIntegers, HasOutcome, Tells}
use Rattle.lmn_machine.proofs.Stepping.{check_stepped}
use Rattle.lmn_machine.specs.declared.steps.Outcome.{Outcome}
use Rattle.lmn_machine.specs.declared.steps.Outcome.TheVariants.{Holds, Fails, ChoosesAtom, ChoosesMembrane}

-- an instruction without a choice that was run has the outcome that is told of it
pub told : {A M : Type 0} (atom : A → ℕ) (membrane : M → ℕ) (h : Heap) (g k : SetRegisters A M) (holds : Bool) (o : Outcome) (i : Instr) →
    ChoosesNone i → Tells o holds → Stepped atom membrane h g k holds i → HasOutcome atom membrane h g k o i
told atom membrane h g k holds Holds i none t s = (none, subst (λ b. Stepped atom membrane h g k b i) t s)
told atom membrane h g k holds Fails i none t s = subst (λ b. Stepped atom membrane h g k b i) t s
told atom membrane h g k holds ChoosesAtom i none t s = absurd t
told atom membrane h g k holds ChoosesMembrane i none t s = absurd t

-- a test of registers that are set was run
pub tested : {A M : Type 0} (atom : A → ℕ) (membrane : M → ℕ) (h : Heap) (g : SetRegisters A M) (holds : Bool) (o : Outcome) (i : Instr) → CanStep atom membrane h g i → ChoosesNone i →
    TestsSetRegisters (length g.atoms) (length g.membranes) (length g.integers) i → ((c : HeadSize) (s : HeadRegisters) → Agrees atom membrane g s → IsTrue holds ↔ InstructionHolds h c s i) → Tells o holds → HasOutcome atom membrane h g g o i
tested atom membrane h g holds o i ready none reads means t = told atom membrane h g g holds o i none t (check_stepped atom membrane h g holds i ready.held reads means)

-- a comparison makes no choice
pub comparison_chooses_none : (i : Instr) → ComparesIntegers i → ChoosesNone i
comparison_chooses_none (FindAtom x y f) a = absurd a
comparison_chooses_none (AnyMem x y) a = absurd a
comparison_chooses_none _ a = tt

-- what chooses atoms is FINDATOM
pub atoms_chosen : (i : Instr) → ((x y : ℕ) (f : Functor) → i ≡ FindAtom x y f → ⊥) → ChoosesAtoms i → ⊥
atoms_chosen (FindAtom x y f) none c = none x y f refl
atoms_chosen _ none c = c

-- what chooses membranes is ANYMEM
pub membranes_chosen : (i : Instr) → ((x y : ℕ) → i ≡ AnyMem x y → ⊥) → ChoosesMembranes i → ⊥
membranes_chosen (AnyMem x y) none c = none x y refl
membranes_chosen _ none c = c
