-- Examples of what the machine asks and answers: of a rule in membrane 0, with handles that are their numbers.
use Rattle.std.specs.Prelude.{ℕ, true, false, [], ◌∷◌}
use Rattle.lmn_instr_code.specs.declared.instr.Instr.TheVariants.{NeqAtom}
use Rattle.lmn_store_heap.specs.Heap.{Heap, IsMem}
use Rattle.lmn_machine_registers.specs.declared.registers.PartCopy.{PartCopy}
use Rattle.lmn_machine_commit.specs.Examples.{home_set, nothing_listed, number}
use Rattle.lmn_machine_commit.specs.Waking.{IsAwakeRound}
use Rattle.lmn_machine.specs.Asking.{HoldsUpTo, TellsApart}
use Rattle.lmn_machine.specs.Jumping.{with_atom}
use Rattle.lmn_machine.specs.Firing.{FiresPrepared, HoldsMatch}
use Rattle.lmn_machine.specs.Searching.{Looked}

-- an empty head is found
abbrev pub EmptyHeadIsFound : Type 0
EmptyHeadIsFound = (h : Heap) → IsMem h 0 → Looked number number h [] 0 (home_set [] nothing_listed) true

-- that there is none can't be told of it
abbrev pub EmptyHeadIsThere : Type 0
EmptyHeadIsThere = (h : Heap) → Looked number number h [] 0 (home_set [] nothing_listed) false → ⊥

-- an empty body can be run from there
abbrev pub EmptyBodyIsMatched : Type 0
EmptyBodyIsMatched = (h : Heap) → IsMem h 0 → HoldsMatch number number h (home_set [] nothing_listed) []

-- but not where a copy is set that no body has made
abbrev pub CopiesAreNotMatched : Type 0
CopiesAreNotMatched = (h : Heap) (c : PartCopy ℕ) → HoldsMatch number number h (home_set (c ∷ []) nothing_listed) [] → ⊥

-- an empty body that was prepared leaves the heap as it is, where its membrane is awake with all that is round it
abbrev pub EmptyBodyFires : Type 0
EmptyBodyFires = (h : Heap) → IsAwakeRound h 0 → FiresPrepared number number h (home_set [] nothing_listed) [] h

-- where code tells the next atom apart from the atom 4, which is set, it needn't be run with the atom 7
abbrev pub OtherAtomIsPassed : Type 0
OtherAtomIsPassed = TellsApart (with_atom (home_set [] nothing_listed) 4) (NeqAtom 1 0 ∷ []) 0 4 × HoldsUpTo number (4 ∷ 7 ∷ []) (NeqAtom 1 0 ∷ []) 0 1

-- it doesn't tell it apart from the atom 5, and with the atom 4 itself it has to be run
abbrev pub SameAtomIsNotPassed : Type 0
SameAtomIsNotPassed = (TellsApart (with_atom (home_set [] nothing_listed) 4) (NeqAtom 1 0 ∷ []) 0 5 → ⊥) × (HoldsUpTo number (4 ∷ 4 ∷ []) (NeqAtom 1 0 ∷ []) 0 1 → ⊥)
