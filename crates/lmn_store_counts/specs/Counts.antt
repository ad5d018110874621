-- What a store counts, and what it removes.
use Rattle.std.specs.Prelude.{◌≡◌, ℕ, ◌+◌, ◌≤◌, ◌^◌, Option, Some, None, length}
use Rattle.lmn_store_heap.specs.Heap.{HeapAtom, HeapMem, Place}
use Rattle.lmn_store_counts.specs.Census.{Census}

-- the bound of each store
abbrev pub BOUND : ℕ
BOUND = 2 ^ 48

abbrev pub one : HeapAtom → ℕ
one x = 1

-- a membrane and its rules
abbrev pub with_rules : HeapMem → ℕ
with_rules x = 1 + length x.rules

-- The counts of atoms, of membranes with their rules, and of spares, which are at most the bound together.
pub record HasCounts (atoms : ℕ → Option HeapAtom) (mems : ℕ → Option HeapMem) (n m s : ℕ) : Type 0 where
  pub atom_census : Census one atoms n
  pub mem_census : Census with_rules mems m
  pub spare_census : Census (λ x. x.spare) mems s
  pub bound : n + m + s ≤ BOUND

-- u removes what is at a place, and nothing else
abbrev pub Removes : {X : Type 0} → (X → Place) → (X → Option X) → Place → Type 0
Removes {X} place u P = (x : X) → (place x ≡ P → u x ≡ None) × ((place x ≡ P → ⊥) → u x ≡ Some x)
