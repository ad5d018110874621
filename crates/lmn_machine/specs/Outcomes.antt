-- What became of an instruction, as the contracts of private functions say it.
use Rattle.std.specs.Prelude.{ℕ, Bool, true, false, ◌≡◌, [], ◌∷◌, Option, Some, IfSome, length}
use Rattle.std.specs.Option.{option_map}
use Rattle.lmn_store_heap.specs.Heap.{Heap, IsAtom, Unmarked, link_of, port_id}
use Rattle.lmn_store_heap.specs.Sound.{Valid}
use Rattle.lmn_instr_code.specs.declared.instr.Instr.{Instr}
use Rattle.lmn_instr_code.specs.declared.instr.Instr.TheVariants.{FindAtom, AnyMem, Lt, Le, Gt, Ge, Eq, Ne, Commit}
use Rattle.lmn_machine_registers.specs.declared.registers.SetRegisters.{SetRegisters}
use Rattle.lmn_machine.specs.Searching.{AreHeldWhole, ChoosesNone, HeadInOrder, Stepped}
use Rattle.lmn_machine.specs.declared.steps.Outcome.{Outcome}
use Rattle.lmn_machine.specs.declared.steps.Outcome.TheVariants.{Holds, Fails, ChoosesAtom, ChoosesMembrane}

-- the outcome of an instruction without a choice: whether it holds
abbrev pub Tells : Outcome → Bool → Type 0
Tells Holds holds = holds ≡ true
Tells Fails holds = holds ≡ false
Tells ChoosesAtom holds = ⊥
Tells ChoosesMembrane holds = ⊥

-- FINDATOM
abbrev pub ChoosesAtoms : Instr → Type 0
ChoosesAtoms (FindAtom x y f) = Unit {0}
ChoosesAtoms _ = ⊥

-- ANYMEM
abbrev pub ChoosesMembranes : Instr → Type 0
ChoosesMembranes (AnyMem x y) = Unit {0}
ChoosesMembranes _ = ⊥

-- a comparison of integers, or COMMIT
abbrev pub ComparesIntegers : Instr → Type 0
ComparesIntegers (Lt x y) = Unit {0}
ComparesIntegers (Le x y) = Unit {0}
ComparesIntegers (Gt x y) = Unit {0}
ComparesIntegers (Ge x y) = Unit {0}
ComparesIntegers (Eq x y) = Unit {0}
ComparesIntegers (Ne x y) = Unit {0}
ComparesIntegers Commit = Unit {0}
ComparesIntegers _ = ⊥

-- An instruction can be run: the heap is valid and has no marks, the registers hold what is in it, and the instruction reads
-- registers that are set and sets the next ones.
pub record CanStep {A M : Type 0} (atom : A → ℕ) (membrane : M → ℕ) (h : Heap) (g : SetRegisters A M) (i : Instr) : Type 0 where
  pub valid : Valid h
  pub unmarked : Unmarked h
  pub held : AreHeldWhole atom membrane h g
  pub order : HeadInOrder (length g.atoms) (length g.membranes) (length g.parts) (length g.integers) (i ∷ [])

-- An instruction without a choice was run, and one with a choice left the registers as they were.
abbrev pub HasOutcome : {A M : Type 0} → (A → ℕ) → (M → ℕ) → Heap → SetRegisters A M → SetRegisters A M → Outcome → Instr → Type 0
HasOutcome atom membrane h g k Holds i = ChoosesNone i × Stepped atom membrane h g k true i
HasOutcome atom membrane h g k Fails i = Stepped atom membrane h g k false i
HasOutcome atom membrane h g k ChoosesAtom i = (k ≡ g) × ChoosesAtoms i
HasOutcome atom membrane h g k ChoosesMembrane i = (k ≡ g) × ChoosesMembranes i

-- The other end of a port, if there is one and P holds of it.
pub record IsEndWith {A : Type 0} (atom : A → ℕ) (h : Heap) (P : ℕ × ℕ → Type 0) (a port : ℕ) (o : Option (A × ℕ)) : Type 0 where
  pub there : IfSome o (λ p. IsAtom h (atom p.0))
  pub ends : (q : ℕ × ℕ) → option_map (port_id atom) o ≡ Some q → link_of h a port ≡ Some q
  pub holds : (q : ℕ × ℕ) → option_map (port_id atom) o ≡ Some q → P q
  pub only : (q : ℕ × ℕ) → link_of h a port ≡ Some q → P q → option_map (port_id atom) o ≡ Some q
