-- What verified code can do.
use Rattle.std.specs.Prelude.{ℕ, ◌≡◌, ◌<◌, ◌+◌, List, ◌++◌, Some, length, slice_get}
use Rattle.std.specs.List.{AllByRecursion}
use Rattle.lmn_store_heap.specs.Heap.{Heap, IsMemInPlace, Unmarked}
use Rattle.lmn_store_heap.specs.Sound.{Valid}
use Rattle.lmn_solid_heads.specs.Embeddings.{Lies}
use Rattle.lmn_instr_code.specs.declared.instr.Code.{Code}
use Rattle.lmn_instr_code.specs.declared.instr.Instr.{Instr}
use Rattle.lmn_instr_code.specs.declared.instr.Instr.TheVariants.{CopyCells}
use Rattle.lmn_instr_code.specs.Running.{HeadRegisters, IsFirstSuccess, Succeeds, membranes_set}
use Rattle.lmn_ground_parts.specs.Rests.{NoneLeaves}
use Rattle.lmn_solid_bodies.specs.declared.items.BodyItem.TheVariants.{Bound}
use Rattle.lmn_solid_bodies.specs.Fired.{images_of}
use Rattle.lmn_solid_bodies.specs.Rules.{NestedRule, PartAtoms}
use Rattle.lmn_solid_bodies.specs.Running.{Registers}
use Rattle.lmn_solid_bodies.specs.Within.{FiresFlat, HoldsRests}
use Rattle.lmn_machine_commit.specs.Waking.{Commits}
use Rattle.lmn_machine.specs.Searching.{HeadInOrder, integers_set, parts_set}
use Rattle.lmn_machine_laws.specs.AcceptedCode.{SetsItems}
use Rattle.lmn_schedule_sleep.specs.Quiet.{SameButMarks}
use Rattle.lmn_congruence_splice.specs.Splice.{IsOneOf}
use Rattle.lmn_verify_code.specs.Verified.{IsVerified}
use Rattle.lmn_schedule_strategy.specs.Quieting.{AreQuiet, IsQuietCode}
use Rattle.lmn_schedule_strategy.specs.Turns.{AreRunnable, HoldsRestsOf, IsReadyCode, IsRestOf, IsRunnable, Loads}
use Rattle.lmn_verify_solids.specs.Firing.{LeavesRests}
use Rattle.lmn_verify_solids.specs.Flats.{HasEachTie, IsFlatCode}
use Rattle.lmn_verify_solids.specs.Heaps.{graph_of}
use Rattle.lmn_verify_laws.specs.Flat.{flat_head, flat_body, link_count}

-- Verified code can be run by turns: whatever rule it is of, it leaves a valid heap where it finds one.
abbrev pub VerifiedIsRunnable : Type 0
VerifiedIsRunnable = (code : Code) (k : ℕ) → IsVerified code k → IsRunnable k code

-- So codes that are verified with their number are such as a turn is over.
abbrev pub VerifiedAreRunnable : Type 0
VerifiedAreRunnable = (codes : List Code) → ((n : ℕ) (code : Code) → slice_get codes n ≡ Some code → IsVerified code (length codes)) → AreRunnable codes

-- The first three conditions of that: what its instructions read is set before.
--   head    the machine can run its head
--   ready   after its head its body can be prepared, and what is read to tell its cost is set
--   loads   the rules that it loads are among k rules
pub record IsInOrder (k : ℕ) (code : Code) : Type 0 where
  pub head : HeadInOrder 0 1 0 0 code.head
  pub ready : IsReadyCode code
  pub loads : AllByRecursion (Loads (λ j. j < k)) code.body

abbrev pub VerifiedIsInOrder : Type 0
VerifiedIsInOrder = (code : Code) (k : ℕ) → IsVerified code k → IsInOrder k code

-- Where the head of verified code succeeds in a valid heap, its flat head lies, at the images that the registers hold.
abbrev pub VerifiedHeadsLie : Type 0
VerifiedHeadsLie = (code : Code) (k : ℕ) → IsVerified code k → (h : Heap) (m : ℕ) (r : HeadRegisters) → Valid h → IsMemInPlace h m → Succeeds h code.head m r → Lies h (flat_head code) m r.images

-- No link leaves a rest that it copies, where its head first succeeds.
abbrev pub VerifiedCopiesClosed : Type 0
VerifiedCopiesClosed = (code : Code) (k : ℕ) → IsVerified code k → (h : Heap) (m : ℕ) (s : HeadRegisters) → Valid h → IsMemInPlace h m → IsFirstSuccess h code.head m s → (at n to : ℕ) → slice_get code.body at ≡ Some (CopyCells n to) →
    (n < 1 + membranes_set code.head) × ((atoms membranes : List ℕ) → IsRestOf h code.head s n atoms membranes → NoneLeaves h atoms)

-- Registers that hold the rests of its membranes hold what its flat head leaves.
abbrev pub VerifiedHoldsRests : Type 0
VerifiedHoldsRests = (code : Code) (k : ℕ) → IsVerified code k → (h : Heap) (m : ℕ) (r : Registers) → Valid h → IsMemInPlace h m → IsFirstSuccess h code.head m r.head → HoldsRestsOf h code.head r → HoldsRests h r (flat_head code)

-- Its flat head and body are a rule.
abbrev pub VerifiedIsRule : Type 0
VerifiedIsRule = (code : Code) (k : ℕ) → IsVerified code k → NestedRule (flat_head code) (flat_body code) (link_count code)

-- It is the code of that rule, and ties each end of a link.
abbrev pub VerifiedIsFlat : Type 0
VerifiedIsFlat = (code : Code) (k : ℕ) → IsVerified code k → IsFlatCode (flat_head code) (flat_body code) code × HasEachTie (flat_head code) (flat_body code) code

-- Where its body is committed at the first success of its head, its flat rule fires, and what it leaves is valid. That is the heap
-- after but for marks of membranes, of which no rule speaks.
abbrev pub VerifiedFires : Type 0
VerifiedFires = (code : Code) (k : ℕ) → IsVerified code k → (h : Heap) (m : ℕ) (r : Registers) → Valid h → IsMemInPlace h m →
    IsFirstSuccess h code.head m r.head → HoldsRestsOf h code.head r → (z : Heap) → Commits h r code.body z →
    (t : Heap) × SameButMarks t z × Valid t × FiresFlat (flat_head code) (flat_body code) r h t

-- A membrane in which verified code has failed may sleep: the code fails there until something in the membrane or below it is touched, and
-- its own commit wakes what it touches.
abbrev pub VerifiedIsQuiet : Type 0
VerifiedIsQuiet = (code : Code) (k : ℕ) → IsVerified code k → IsQuietCode code

-- So it is with codes that are verified with their number.
abbrev pub VerifiedAreQuiet : Type 0
VerifiedAreQuiet = (codes : List Code) → ((n : ℕ) (code : Code) → slice_get codes n ≡ Some code → IsVerified code (length codes)) → AreQuiet codes

-- No mark of an atom comes where code is committed.
abbrev pub CommitsStayUnmarked : Type 0
CommitsStayUnmarked = (h : Heap) (r : Registers) (code : List Instr) (z : Heap) → Commits h r code z → Unmarked h → Unmarked z

-- The head of code sets a register for each item of its flat head, and each integer that its flat body names.
pub record SetsFlat (code : Code) : Type 0 where
  pub items : SetsItems code.head (flat_head code)
  pub integers : (v link inside : ℕ) → IsOneOf (Bound v link inside) (flat_body code) → v < integers_set code.head

-- So does that of verified code.
abbrev pub VerifiedSetsFlat : Type 0
VerifiedSetsFlat = (code : Code) (k : ℕ) → IsVerified code k → SetsFlat code

-- Where head code succeeds with registers that hold the same parts, they hold the same integers.
abbrev pub IntegersAreOne : Type 0
IntegersAreOne = (code : List Instr) → HeadInOrder 0 1 0 0 code → (h : Heap) (m : ℕ) (r s : HeadRegisters) → Succeeds h code m r → Succeeds h code m s →
    ((g : ℕ) → g < parts_set code → r.images.part g ≡ s.images.part g) → (v : ℕ) → v < integers_set code → r.integer v ≡ s.integer v

-- Registers that hold what a head leaves in a graph hold the rests of the heap.
abbrev pub RestsBack : Type 0
RestsBack = (h : Heap) → Valid h → (head : List Instr) (r : Registers) (taken : List ℕ) → LeavesRests (graph_of h) head r taken → HoldsRestsOf h head r

-- Registers that hold the rests of a heap hold what the head of verified code leaves in its graph, where it takes these atoms.
abbrev pub RestsThere : Type 0
RestsThere = (code : Code) (k : ℕ) → IsVerified code k → (h : Heap) → Valid h → (r : Registers) → HoldsRestsOf h code.head r →
    (parts : List ℕ) → PartAtoms h (flat_head code) r.head.images parts → LeavesRests (graph_of h) code.head r (images_of r (flat_head code) ++ parts)
