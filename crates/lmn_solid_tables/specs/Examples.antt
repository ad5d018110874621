-- The tables of a small solid, and tables that aren't its own.
use Rattle.std.specs.Prelude.{ℕ, ◌≡◌, List, [], ◌∷◌}
use Rattle.lmn_store_heap.specs.Examples.{across_solid, functor_a, functor_b}
use Rattle.lmn_solid_tables.specs.declared.flat.Flat.{Flat}
use Rattle.lmn_solid_tables.specs.declared.tables.FlatAtom.{FlatAtom}
use Rattle.lmn_solid_tables.specs.declared.tables.FlatMembrane.{FlatMembrane}
use Rattle.lmn_solid_tables.specs.declared.tables.Port.{Port}
use Rattle.lmn_solid_tables.specs.Flats.{IsFlatOf, IsLeft, IsWithin, heap_of}

-- these are the tables
abbrev pub HasTables : Flat → List FlatAtom → List FlatMembrane → List Port → Type 0
HasTables flat atoms membranes ports = (flat.atoms.items ≡ atoms) × (flat.membranes.items ≡ membranes) × (flat.ports.items ≡ ports)

-- an atom with one link, the number 0
abbrev pub b_in : ℕ → FlatAtom
b_in m = record { functor = functor_b; links = 0 ∷ []; home = m }

abbrev pub a_in : ℕ → FlatAtom
a_in m = record { functor = functor_a; links = 0 ∷ []; home = m }

-- a membrane that is the root or stands in it
abbrev pub holds : List ℕ → List ℕ → FlatMembrane
holds atoms membranes = record { parent = 0; atoms = atoms; membranes = membranes; rules = [] }

-- the first port of an atom
abbrev pub port_of : ℕ → Port
port_of a = record { atom = a; index = 0 }

-- `{a(X)}, b(X)`: the atom outside comes first
abbrev pub AcrossHasItsTables : Type 0
AcrossHasItsTables = (flat : Flat) → HasTables flat (b_in 0 ∷ a_in 1 ∷ []) (holds (0 ∷ []) (1 ∷ []) ∷ holds (1 ∷ []) [] ∷ []) (port_of 0 ∷ port_of 1 ∷ []) → IsFlatOf across_solid flat

-- A link has two ports.
abbrev pub OnePortTwiceIsNoLink : Type 0
OnePortTwiceIsNoLink = (flat : Flat) → HasTables flat (b_in 0 ∷ a_in 1 ∷ []) (holds (0 ∷ []) (1 ∷ []) ∷ holds (1 ∷ []) [] ∷ []) (port_of 0 ∷ port_of 0 ∷ []) → IsFlatOf across_solid flat → ⊥

-- Each atom stands in its membrane.
abbrev pub BothOutsideIsNotAcross : Type 0
BothOutsideIsNotAcross = (flat : Flat) → HasTables flat (b_in 0 ∷ a_in 0 ∷ []) (holds (0 ∷ 1 ∷ []) (1 ∷ []) ∷ holds [] [] ∷ []) (port_of 0 ∷ port_of 1 ∷ []) → IsFlatOf across_solid flat → ⊥

-- The membrane 1 stands in the root, and the root doesn't stand in it.
abbrev pub InnerIsWithin : Type 0
InnerIsWithin = (flat : Flat) → HasTables flat (b_in 0 ∷ a_in 1 ∷ []) (holds (0 ∷ []) (1 ∷ []) ∷ holds (1 ∷ []) [] ∷ []) (port_of 0 ∷ port_of 1 ∷ []) → IsWithin (heap_of flat) 1 0 × (IsWithin (heap_of flat) 0 1 → ⊥)

-- It is left in the root where it is no image.
abbrev pub InnerIsLeft : Type 0
InnerIsLeft = (flat : Flat) → HasTables flat (b_in 0 ∷ a_in 1 ∷ []) (holds (0 ∷ []) (1 ∷ []) ∷ holds (1 ∷ []) [] ∷ []) (port_of 0 ∷ port_of 1 ∷ []) → IsLeft (heap_of flat) [] 0 1 × (IsLeft (heap_of flat) (1 ∷ []) 0 1 → ⊥)
