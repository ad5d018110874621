-- Examples of when a body can be prepared: in membrane 0, with handles that are their numbers.
use Rattle.std.specs.Prelude.{ℕ, ◌≡◌, List, [], ◌∷◌, None}
use Rattle.lmn_store_heap.specs.Heap.{Heap, IsMem}
use Rattle.lmn_ground.specs.declared.listing.PartList.{PartList}
use Rattle.lmn_machine_registers.specs.declared.registers.PartCopy.{PartCopy}
use Rattle.lmn_machine_registers.specs.declared.registers.SetRegisters.{SetRegisters}
use Rattle.lmn_instr_code.specs.declared.instr.Instr.TheVariants.{RemoveMem, Proceed}
use Rattle.lmn_machine_commit.specs.Committing.{IsRare}
use Rattle.lmn_machine_commit.specs.Preparing.{CanPrepare}

-- a handle is its number
abbrev pub number : ℕ → ℕ
number n = n

-- no part is listed
abbrev pub nothing_listed : PartList ℕ
nothing_listed = record { port = 0; atoms = [] }

-- the membrane of the rule alone is set
abbrev pub home_set : List (PartCopy ℕ) → PartList ℕ → SetRegisters ℕ ℕ
home_set copies listed = record { atoms = []; membranes = 0 ∷ []; parts = []; integers = []; copies = copies; listed = listed }

-- an empty body can be prepared
abbrev pub EmptyBodyIsReady : Type 0
EmptyBodyIsReady = (h : Heap) → IsMem h 0 → CanPrepare number number h (home_set [] nothing_listed) []

-- but not where a copy is set that no body has made
abbrev pub CopiesAreNotReady : Type 0
CopiesAreNotReady = (h : Heap) (c : PartCopy ℕ) → CanPrepare number number h (home_set (c ∷ []) nothing_listed) [] → ⊥

-- nor where an atom is listed that isn't there
abbrev pub LostAtomsAreNotReady : Type 0
LostAtomsAreNotReady = (h : Heap) (port : ℕ) → h.atoms 0 ≡ None → CanPrepare number number h (home_set [] (record { port = port; atoms = 0 ∷ [] })) [] → ⊥

-- taking a membrane is rare, and ending code isn't
abbrev pub TakingIsRare : Type 0
TakingIsRare = IsRare (RemoveMem 0) × (IsRare Proceed → ⊥)
