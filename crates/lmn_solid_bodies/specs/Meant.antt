-- What the code of a small body means on a small heap.
use Rattle.std.specs.Prelude.{◌≡◌, pos, List, [], ◌∷◌, None, Some}
use Rattle.lmn_store_heap.specs.Heap.{Heap, atoms_in, functor_of, top}
use Rattle.lmn_solid_heads.specs.Examples.{a_of_arity, atom_in, b_of_arity, heap_with, membrane_at}
use Rattle.lmn_instr_code.specs.declared.instr.Instr.{Instr}
use Rattle.lmn_instr_code.specs.declared.instr.Instr.TheVariants.{RemoveAtom, NewAtom, Proceed}
use Rattle.lmn_solid_bodies.specs.Running.{Registers, RunsBody}

-- the heap `a. a.`, with the atoms 0 and 1
abbrev pub two_atoms : Heap
two_atoms = heap_with (atom_in 0 (a_of_arity 0) [] ∷ atom_in 0 (a_of_arity 0) [] ∷ []) (membrane_at top (0 ∷ 1 ∷ []) [] [] ∷ [])

-- the code of the body of `a, a :- b`
abbrev pub two_to_one : List Instr
two_to_one = RemoveAtom 0 ∷ RemoveAtom 1 ∷ NewAtom 2 0 (b_of_arity 0) ∷ Proceed ∷ []

-- each register holds the atom with its number, and the membrane register the root
abbrev pub by_number : Registers
by_number = record {
  head = record { images = record { atom = λ n. n; membrane = λ _. 0; part = λ _. (0, 0) }; integer = λ _. pos 0 };
  copy = λ _. (0, 0);
  copied = λ _. [];
  left_atoms = λ _. [];
  left_membranes = λ _. [];
}

-- A run of the code leaves the atom 2 alone, which is a `b`; and no run leaves the heap as it was.
pub record BodyCodeIsMeant : Type 0 where
  pub runs : (h : Heap) × RunsBody by_number two_to_one two_atoms h
  pub one : (h : Heap) → RunsBody by_number two_to_one two_atoms h → (atoms_in h 0 ≡ 2 ∷ []) × (functor_of h 2 ≡ Some (b_of_arity 0))
  pub freed : (h : Heap) → RunsBody by_number two_to_one two_atoms h → (h.atoms 0 ≡ None) × (h.atoms 1 ≡ None)
  pub not_idle : RunsBody by_number two_to_one two_atoms two_atoms → ⊥
