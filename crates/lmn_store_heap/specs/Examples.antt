-- A small heap, made by the calls of a store, and what holds of it and of those before it.
use Rattle.std.specs.Prelude.{List, [], ◌∷◌}
use Rattle.lmn_base.specs.declared.functor.Functor.{Functor}
use Rattle.lmn_base.specs.declared.functor.Label.TheVariants.{Name}
use Rattle.lmn_base.specs.declared.solid.Region.{Region}
use Rattle.lmn_base.specs.declared.solid.Region.TheViews.{roll-Region}
use Rattle.lmn_base.specs.declared.solid.Solid.{Solid}
use Rattle.lmn_base.specs.declared.solid.SolidAtom.{SolidAtom}
use Rattle.lmn_store_heap.specs.Heap.{Heap, lone_root, made_atom, made_mem, placed, placed_mem, taken, joined}
use Rattle.lmn_store_heap.specs.Sound.{Valid, AllInPlace}
use Rattle.lmn_store_heap.specs.Conditions.{IsOutside, Alone, Ready}
use Rattle.lmn_store_heap.specs.Solid.{HasSolid}

-- two names with one link
abbrev pub functor_a : Functor
functor_a = record { label = Name 8; arity = 1 }

abbrev pub functor_b : Functor
functor_b = record { label = Name 9; arity = 1 }

-- the root and, detached, the membrane 1, the atom 0 with the functor a and the atom 1 with b
abbrev pub made : Heap
made = made_atom (made_atom (made_mem lone_root 1) 0 functor_a) 1 functor_b

-- the atom 0 in the membrane 1, which is in the root as the atom 1 is, with no link
abbrev pub loose : Heap
loose = placed (placed (placed_mem made 0 1) 1 0) 0 1

-- `{a(X)}, b(X)`
abbrev pub across : Heap
across = joined loose 0 0 1 0

abbrev pub region : List SolidAtom → List Region → Region
region atoms membranes = roll-Region (record { atoms = atoms; membranes = membranes; rules = [] })

-- the solid of `{a(X)}, b(X)`
abbrev pub across_solid : Solid
across_solid = record {
  root = region (record { functor = functor_b; links = 0 ∷ [] } ∷ []) (region (record { functor = functor_a; links = 0 ∷ [] } ∷ []) [] ∷ []);
}

abbrev pub AcrossIsValid : Type 0
AcrossIsValid = Valid across

abbrev pub AcrossHasItsSolid : Type 0
AcrossHasItsSolid = HasSolid across across_solid

-- Ports without a partner are a fault between commits.
abbrev pub LooseIsNotValid : Type 0
LooseIsNotValid = Valid loose → ⊥

-- What is detached may be freed as long as nothing else is joined to it, and isn't settled.
abbrev pub MadeIsAlone : Type 0
MadeIsAlone = Alone made × (AllInPlace made → ⊥)

abbrev pub JoinedIsNotAlone : Type 0
JoinedIsNotAlone = Alone (joined (placed made 0 0) 0 0 1 0) → ⊥

-- An atom that something in place is joined to can't be freed.
abbrev pub PartnerIsNotReady : Type 0
PartnerIsNotReady = Ready across × (Ready (taken across 0) → ⊥)

-- The root is outside its membrane, which isn't outside the root.
abbrev pub RootIsOutside : Type 0
RootIsOutside = IsOutside across 0 1 × (IsOutside across 1 0 → ⊥)
