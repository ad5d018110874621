-- What the code of a small head means on a small heap.
use Rattle.std.specs.Prelude.{ℕ, zero, suc, pos, List, [], ◌∷◌}
use Rattle.lmn_store_heap.specs.Heap.{Heap, top}
use Rattle.lmn_solid_heads.specs.Examples.{a_of_arity, atom_in, heap_with, membrane_at}
use Rattle.lmn_instr_code.specs.declared.instr.Instr.{Instr}
use Rattle.lmn_instr_code.specs.declared.instr.Instr.TheVariants.{FindAtom, NeqAtom, Commit}
use Rattle.lmn_instr_code.specs.Running.{HeadRegisters, Succeeds, IsFirstSuccess}

-- the heap `a. a.`, with the atoms 0 and 1
abbrev pub two_atoms : Heap
two_atoms = heap_with (atom_in 0 (a_of_arity 0) [] ∷ atom_in 0 (a_of_arity 0) [] ∷ []) (membrane_at top (0 ∷ 1 ∷ []) [] [] ∷ [])

-- the code of the head `a, a`
abbrev pub two_different : List Instr
two_different = FindAtom 0 0 (a_of_arity 0) ∷ FindAtom 1 0 (a_of_arity 0) ∷ NeqAtom 1 0 ∷ Commit ∷ []

-- the first of two atoms, and the second for each later number
abbrev pub first_or_second : ℕ → ℕ → ℕ → ℕ
first_or_second x y zero = x
first_or_second x y (suc n) = y

-- registers that hold two atoms, and the root
abbrev pub holding : ℕ → ℕ → HeadRegisters
holding x y = record { images = record { atom = first_or_second x y; membrane = λ _. 0; part = λ _. (0, 0) }; integer = λ _. pos 0 }

-- The first candidate of the second FINDATOM is the atom that the first one took, and fails; so the code goes on to the second.
--   first   this is the first success
--   other   the atoms the other way round are a success too, and not the first
--   same    one atom twice is none
pub record HeadCodeIsMeant : Type 0 where
  pub first : IsFirstSuccess two_atoms two_different 0 (holding 0 1)
  pub other : Succeeds two_atoms two_different 0 (holding 1 0)
  pub not_first : IsFirstSuccess two_atoms two_different 0 (holding 1 0) → ⊥
  pub same : Succeeds two_atoms two_different 0 (holding 0 0) → ⊥
