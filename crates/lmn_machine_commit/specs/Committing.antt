-- When the code of a body can be committed.
use Rattle.std.specs.Prelude.{ℕ, List, [], ◌∷◌, None}
use Rattle.lmn_store_heap.specs.Heap.{Heap}
use Rattle.lmn_ground.specs.Spread.{IsWhole}
use Rattle.lmn_instr_code.specs.declared.instr.Instr.{Instr}
use Rattle.lmn_instr_code.specs.declared.instr.Instr.TheVariants.{RemovePart, NewAtom, NewInt, NewLink, Relink, Unify, Proceed}
use Rattle.lmn_solid_bodies.specs.Running.{Registers, Does, DoesAll}
use Rattle.lmn_solid_bodies.specs.Conditions.{Can, StandsAsPort}
use Rattle.lmn_machine_registers.specs.declared.registers.SetRegisters.{SetRegisters}
use Rattle.lmn_machine_commit.specs.Registers.{AgreesWithCopies}

-- a part that is taken is there, and each of its ports but the root is joined
abbrev pub Stands : Registers → Instr → Heap → Type 0
Stands r (RemovePart g) s = StandsAsPort s (r.head.images.part g) × IsWhole s (r.head.images.part g) None
Stands r _ s = Unit {0}

-- it neither places an atom nor joins ports nor ends code
abbrev pub IsRare : Instr → Type 0
IsRare (NewAtom x y f) = ⊥
IsRare (NewInt x y z) = ⊥
IsRare (NewLink p q) = ⊥
IsRare (Relink p h) = ⊥
IsRare (Unify p h) = ⊥
IsRare Proceed = ⊥
IsRare _ = Unit {0}

-- Code can be committed from a heap: its first instruction can be run, and the rest from each heap that this one leaves.
abbrev pub Runs : Registers → List Instr → Heap → Type 0
Runs r [] s = Unit {0}
Runs r (i ∷ is) s = Can r i s × Stands r i s × ((t : Heap) → Does r i s t → Runs r is t)

-- What is done of code, from the heap s to the heap t: what is left can be run, and makes of t what the whole makes of s.
abbrev pub IsDoneSoFar : {A M : Type 0} → (A → ℕ) → (M → ℕ) → SetRegisters A M → (whole rest : List Instr) → (s t : Heap) → Type 0
IsDoneSoFar atom membrane g whole rest s t =
    (r : Registers) → AgreesWithCopies atom membrane g r → Runs r whole s → Runs r rest t × ((u : Heap) → DoesAll r rest t u → DoesAll r whole s u)
