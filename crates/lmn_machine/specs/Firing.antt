-- What the machine asks and answers when a rule fires.
use Rattle.std.specs.Prelude.{ℕ, ◌≡◌, List, [], length}
use Rattle.lmn_store_heap.specs.Heap.{Heap}
use Rattle.lmn_instr_code.specs.declared.instr.Instr.{Instr}
use Rattle.lmn_solid_bodies.specs.Running.{Registers}
use Rattle.lmn_machine_registers.specs.declared.registers.SetRegisters.{SetRegisters}
use Rattle.lmn_machine_commit.specs.Registers.{AgreesWithCopies, HasCopies, HasRests}
use Rattle.lmn_machine_commit.specs.Preparing.{BodyInOrder, CanCopyRests}
use Rattle.lmn_machine_commit.specs.Matched.{IsPrepared}
use Rattle.lmn_machine_commit.specs.Waking.{Commits}
use Rattle.lmn_machine.specs.Searching.{AreHeldWhole}

-- The registers hold a match, and a body can be run that goes on from them: it takes the registers in order, and the rests that it
-- copies can be copied.
pub record HoldsMatch {A M : Type 0} (atom : A → ℕ) (membrane : M → ℕ) (h : Heap) (g : SetRegisters A M) (body : List Instr) : Type 0 where
  pub held : AreHeldWhole atom membrane h g
  pub rests : CanCopyRests atom membrane h g body
  pub copies : g.copies ≡ []
  pub order : BodyInOrder (length g.atoms) (length g.membranes) (length g.parts) (length g.integers) 0 body

-- what a body does that was prepared, by any registers that agree with what the machine holds
abbrev pub FiresPrepared : {A M : Type 0} → (A → ℕ) → (M → ℕ) → Heap → SetRegisters A M → List Instr → Heap → Type 0
FiresPrepared atom membrane h g body k = (p : IsPrepared atom membrane h g body) (r : Registers) → AgreesWithCopies atom membrane g r → HasCopies r p.prepared.copied → HasRests atom membrane p.before p.matched_by r → Commits p.before r body k
