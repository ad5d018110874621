-- When code can be committed, be it that of the body of a rule or not.
use Rattle.std.specs.Prelude.{ℕ, ◌<◌, ◌≤◌, List, length}
use Rattle.lmn_store_heap.specs.Heap.{Heap, IsMemInPlace, discarded, rules_in, spare_of, Unmarked}
use Rattle.lmn_store_heap.specs.Sound.{Valid}
use Rattle.lmn_solid_heads.specs.declared.items.HeadItem.{HeadItem}
use Rattle.lmn_solid_heads.specs.Embeddings.{Lies}
use Rattle.lmn_instr_code.specs.declared.instr.Instr.{Instr}
use Rattle.lmn_solid_bodies.specs.declared.items.BodyItem.{BodyItem}
use Rattle.lmn_solid_bodies.specs.Code.{body_code}
use Rattle.lmn_solid_bodies.specs.Rules.{NestedRule}
use Rattle.lmn_solid_bodies.specs.Running.{Registers, Prepares, DoesAll}
use Rattle.lmn_solid_bodies.specs.Stopping.{SameButSpares}
use Rattle.lmn_solid_bodies.specs.Within.{HoldsRests}
use Rattle.lmn_machine_registers.specs.declared.registers.SetRegisters.{SetRegisters}
use Rattle.lmn_machine_commit.specs.Committing.{Runs}
use Rattle.lmn_machine_commit.specs.Registers.{AgreesWithCopies, HasRests}
use Rattle.lmn_machine_commit.specs.Preparing.{Prepared, needed}

-- Code can be committed with these registers from a heap: once all that it makes is made, detached, and there is room for its rules, its
-- instructions can be run one after the other, and what they leave is valid.
abbrev pub CanBeCommitted : Registers → List Instr → Heap → Type 0
CanBeCommitted r code h = (s : Heap) → Prepares r code h s → SameButSpares h (discarded s) → ((x : ℕ) → needed r (rules_in h) code x ≤ spare_of s x) →
    Runs r code s × ((t : Heap) → DoesAll r code s t → Valid t)

-- From a valid heap without marks the code can be committed with what the registers hold. The first of their membranes is the one in
-- which the head was matched.
pub record IsMatched {A M : Type 0} (atom : A → ℕ) (membrane : M → ℕ) (h : Heap) (g : SetRegisters A M) (code : List Instr) : Type 0 where
  pub valid : Valid h
  pub unmarked : Unmarked h
  pub own : 0 < length g.membranes
  pub commits : (r : Registers) → AgreesWithCopies atom membrane g r → HasRests atom membrane h g r → CanBeCommitted r code h

-- The code is prepared, after it was matched.
pub record IsPrepared {A M : Type 0} (atom : A → ℕ) (membrane : M → ℕ) (s : Heap) (k : SetRegisters A M) (code : List Instr) : Type 0 where
  pub before : Heap
  pub matched_by : SetRegisters A M
  pub matched : IsMatched atom membrane before matched_by code
  pub prepared : Prepared atom membrane before s matched_by k code

-- The code of the body of a rule can be committed wherever its head lies, be there a guard or not, with the rests that the
-- registers hold.
abbrev pub BodiesCanBeCommitted : Type 0
BodiesCanBeCommitted = (head : List HeadItem) (body : List BodyItem) (links : ℕ) → NestedRule head body links →
    (h : Heap) → Valid h → (m : ℕ) → IsMemInPlace h m → (r : Registers) → Lies h head m r.head.images → HoldsRests h r head → CanBeCommitted r (body_code head body links) h
