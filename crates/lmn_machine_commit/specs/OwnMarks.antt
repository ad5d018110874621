-- Own marks that are set for a while.
use Rattle.std.specs.Prelude.{ℕ, ◌≡◌, ◌<◌, ◌⊎◌, List, None, Some, length, map, slice_get}
use Rattle.lmn_base.specs.Graphs.{Reached}
use Rattle.lmn_base.specs.Lists.{In}
use Rattle.lmn_store_heap.specs.Heap.{Heap, HeapAtom, IsAtom, Unmarked, arity_of, home_of, port_id}
use Rattle.lmn_store_heap.specs.Graphs.{atom_map}
use Rattle.lmn_ground.specs.Marks.{painted_at}
use Rattle.lmn_ground.specs.Spread.{IsWhole}
use Rattle.lmn_machine_registers.specs.declared.registers.SetRegisters.{SetRegisters}

-- the place of the own mark
abbrev pub own_place : HeapAtom → ℕ
own_place x = length x.links

-- a heap with these own marks, where 0 stands for the one that an atom has
abbrev pub own_painted : Heap → (ℕ → ℕ) → Heap
own_painted h marks = painted_at own_place h marks

-- all marks are 0, but for own marks
abbrev pub HasOwnMarks : Heap → Type 0
HasOwnMarks s = (h : Heap) × (marks : ℕ → ℕ) × Unmarked h × (s ≡ own_painted h marks)

-- each of these is the root of a part with all of its ports joined
abbrev pub AreWholeParts : {A : Type 0} → (A → ℕ) → Heap → List (A × ℕ) → Type 0
AreWholeParts {A} atom h parts = (k : ℕ) (p : A × ℕ) → slice_get parts k ≡ Some p → IsAtom h (atom p.0) × (p.1 < arity_of h (atom p.0)) × IsWhole h (port_id atom p) None

-- an atom of these that stands in a membrane
abbrev pub IsOneInside : {A : Type 0} → (A → ℕ) → Heap → List A → ℕ → ℕ → Type 0
IsOneInside {A} atom h atoms m a = In a (map atom atoms) × (home_of h a ≡ Some m)

-- an atom of one of the parts whose roots stand in a membrane
abbrev pub IsInPartInside : {A : Type 0} → (A → ℕ) → Heap → List (A × ℕ) → ℕ → ℕ → Type 0
IsInPartInside {A} atom h parts m a = (k : ℕ) × (p : A × ℕ) × (slice_get parts k ≡ Some p) × (home_of h (atom p.0) ≡ Some m) × Reached (atom_map h) (port_id atom p) a

-- an atom that is in registers or in a part in registers, and stands in a membrane
abbrev pub IsTakenInside : {A M : Type 0} → (A → ℕ) → Heap → SetRegisters A M → ℕ → ℕ → Type 0
IsTakenInside atom h g m a = IsOneInside atom h g.atoms m a ⊎ IsInPartInside atom h g.parts m a
