-- The registers of a machine, by the numbers of what they hold.
use Rattle.std.specs.Prelude.{ℕ, ℤ, ◌≡◌, ◌↔◌, Bool, true, not, List, Some, length, map, slice_get}
use Rattle.lmn_base.specs.Graphs.{Reached}
use Rattle.lmn_base.specs.Lists.{In}
use Rattle.lmn_store_heap.specs.Heap.{Heap, IsAtom, IsMem, atoms_in, port_id}
use Rattle.lmn_store_heap.specs.Graphs.{atom_map}
use Rattle.lmn_ground_parts.specs.Rests.{IsRest}
use Rattle.lmn_ground.specs.Listed.{IsListed}
use Rattle.lmn_ground_parts.specs.Walks.{is_in}
use Rattle.lmn_solid_bodies.specs.Running.{Registers}
use Rattle.lmn_machine_registers.specs.declared.registers.PartCopy.{PartCopy}
use Rattle.lmn_machine_registers.specs.declared.registers.SetRegisters.{SetRegisters}

-- Registers of a body that have the values of those that are set, copies too, where `atom` and `membrane` number the
-- handles of a store.
pub record AgreesWithCopies {A M : Type 0} (atom : A → ℕ) (membrane : M → ℕ) (g : SetRegisters A M) (r : Registers) : Type 0 where
  pub atoms : (k : ℕ) (a : A) → slice_get g.atoms k ≡ Some a → r.head.images.atom k ≡ atom a
  pub membranes : (k : ℕ) (m : M) → slice_get g.membranes k ≡ Some m → r.head.images.membrane k ≡ membrane m
  pub parts : (k : ℕ) (p : A × ℕ) → slice_get g.parts k ≡ Some p → r.head.images.part k ≡ port_id atom p
  pub integers : (k : ℕ) (z : ℤ) → slice_get g.integers k ≡ Some z → r.head.integer k ≡ z
  pub copies : (k : ℕ) (p : PartCopy A) → slice_get g.copies k ≡ Some p → (r.copy k ≡ port_id atom p.root) × (length (r.copied k) ≡ p.atoms)

-- these handles are of atoms
abbrev pub AreAtomHandles : {A : Type 0} → (A → ℕ) → Heap → List A → Type 0
AreAtomHandles {A} atom h handles = (k : ℕ) (a : A) → slice_get handles k ≡ Some a → IsAtom h (atom a)

-- of membranes
abbrev pub AreMembraneHandles : {M : Type 0} → (M → ℕ) → Heap → List M → Type 0
AreMembraneHandles {M} membrane h handles = (k : ℕ) (m : M) → slice_get handles k ≡ Some m → IsMem h (membrane m)

-- the atoms of these roots of parts are there
abbrev pub AreRootHandles : {A : Type 0} → (A → ℕ) → Heap → List (A × ℕ) → Type 0
AreRootHandles {A} atom h handles = (k : ℕ) (p : A × ℕ) → slice_get handles k ≡ Some p → IsAtom h (atom p.0)

-- the handles in the registers are of atoms and of membranes, and the part that is listed is there
pub record AreHeld {A M : Type 0} (atom : A → ℕ) (membrane : M → ℕ) (h : Heap) (g : SetRegisters A M) : Type 0 where
  pub atoms : AreAtomHandles atom h g.atoms
  pub membranes : AreMembraneHandles membrane h g.membranes
  pub parts : AreRootHandles atom h g.parts
  pub listed : IsListed atom h g.listed

-- the copies in registers have as many atoms as these lists
pub record AreSized {A : Type 0} (copies : List (PartCopy A)) (copied : List (List ℕ)) : Type 0 where
  pub count : length copied ≡ length copies
  pub sizes : (k : ℕ) (p : PartCopy A) (atoms : List ℕ) → slice_get copies k ≡ Some p → slice_get copied k ≡ Some atoms → length atoms ≡ p.atoms

-- the copies have these atoms, each list in order
abbrev pub HasCopies : Registers → List (List ℕ) → Type 0
HasCopies r copied = (k : ℕ) (atoms : List ℕ) → slice_get copied k ≡ Some atoms → r.copied k ≡ atoms

-- more atoms, membranes and copies are set, and all that was set before is as it was
pub record Grows {A M : Type 0} (g k : SetRegisters A M) : Type 0 where
  pub atoms : (i : ℕ) (a : A) → slice_get g.atoms i ≡ Some a → slice_get k.atoms i ≡ Some a
  pub membranes : (i : ℕ) (m : M) → slice_get g.membranes i ≡ Some m → slice_get k.membranes i ≡ Some m
  pub parts : k.parts ≡ g.parts
  pub integers : k.integers ≡ g.integers
  pub copies : (i : ℕ) (p : PartCopy A) → slice_get g.copies i ≡ Some p → slice_get k.copies i ≡ Some p

-- an atom of a part in registers
abbrev pub IsInParts : {A : Type 0} → (A → ℕ) → Heap → List (A × ℕ) → ℕ → Type 0
IsInParts {A} atom h parts a = (k : ℕ) × (p : A × ℕ) × (slice_get parts k ≡ Some p) × Reached (atom_map h) (port_id atom p) a

-- an atom that is in no register, and in no part in registers
pub record IsBeside {A M : Type 0} (atom : A → ℕ) (h : Heap) (g : SetRegisters A M) (a : ℕ) : Type 0 where
  pub no_atom : In a (map atom g.atoms) → ⊥
  pub no_part : IsInParts atom h g.parts a → ⊥

-- The rest of a membrane besides the registers: its atoms that are in none and in no part in registers, and its membranes that
-- are in none, with all that is in these.
abbrev pub IsRestBeside : {A M : Type 0} → (A → ℕ) → (M → ℕ) → Heap → SetRegisters A M → ℕ → List ℕ → List ℕ → Type 0
IsRestBeside atom membrane h g m atoms membranes =
    (left : ℕ → Bool) × ((a : ℕ) → In a (atoms_in h m) → (left a ≡ true) ↔ IsBeside atom h g a)
    × IsRest h m left (λ x. not (is_in (map membrane g.membranes) x)) atoms membranes

-- the registers of a body hold the rest of each membrane in registers
abbrev pub HasRests : {A M : Type 0} → (A → ℕ) → (M → ℕ) → Heap → SetRegisters A M → Registers → Type 0
HasRests {A} {M} atom membrane h g r = (k : ℕ) (m : M) → slice_get g.membranes k ≡ Some m → IsRestBeside atom membrane h g (membrane m) (r.left_atoms k) (r.left_membranes k)
