-- Looking for an atom with a functor.
use Rattle.std.proofs.Common.{◌≡◌, ℕ, List, Option, Some, None, IfSome, IsSome, refl, sym, ap, ◌∙◌}
use Rattle.std.specs.Option.{option_map}
use Rattle.std.specs.Prelude.{slice_index_or}
use Rattle.lmn_base.specs.declared.functor.Functor.{Functor}
use Rattle.lmn_store_heap.specs.Lists.{from, after}
use Rattle.lmn_store_heap.specs.Heap.{Heap, HeapAtom, functor_of, rules_by}
use Rattle.lmn_store_heap.specs.Functors.{with_functor}
use Rattle.lmn_store_heap.proofs.Trees.{next_in}
use Rattle.lmn_store_heap.proofs.WithFunctor.{with_past}
use Rattle.lmn_store_slab.specs.declared.cell.AtomCell.{AtomCell}
use Rattle.lmn_store_slab.specs.declared.cell.MemCell.{MemCell}
use Rattle.lmn_store_slab.specs.Cells.{atom_in_cell, atoms_in_cells, mem_in_cell, mems_in_cells}
use Rattle.lmn_base.specs.Lists.{In}

-- the functor of an atom is that of its cell
pub functor_at : (h : Heap) (slots : List (Option AtomCell)) (a : ℕ) (c : AtomCell) → h.atoms ≡ atoms_in_cells slots → slice_index_or slots a None ≡ Some c → functor_of h a ≡ Some c.functor
functor_at h slots a c e at = ap (λ (f : ℕ → Option HeapAtom). option_map (λ x. x.functor) (f a)) e ∙ ap (λ (o : Option AtomCell). option_map (λ x. x.functor) (option_map atom_in_cell o)) at

-- the next one, if any, stands in the list
pub if_next : (o : Option ℕ) (m : ℕ) (xs : List ℕ) → from o xs ≡ after m xs → IfSome o (λ b. In b xs)
if_next None m xs e = tt
if_next (Some n) m xs e = next_in m n xs e

-- an atom of another functor is passed
pub seek_on : (h : Heap) (f : Functor) (a : ℕ) (g : Functor) (xs : List ℕ) (next : Option ℕ) → functor_of h a ≡ Some g → (g ≡ f → ⊥) → from next xs ≡ after a xs
    → with_functor h f (from next xs) ≡ with_functor h f (from (Some a) xs)
seek_on h f a g xs next is d e = ap (with_functor h f) e ∙ sym (with_past h f a (after a xs) (λ w. d (let u : Some g ≡ Some f = sym is ∙ w in cc)))

-- a membrane has a cell
pub mem_cell_is : (slots : List (Option MemCell)) (m : ℕ) → IsSome (mems_in_cells slots m) → IsSome (slice_index_or slots m None)
mem_cell_is slots m i = by (slice_index_or slots m None) i
  where
    by : (o : Option MemCell) → IsSome (option_map mem_in_cell o) → IsSome o
    by None i = absurd (cc)
    by (Some x) i = refl

-- and its rules are those of the cell
pub rules_cell : (slots : List (Option MemCell)) (m : ℕ) (c : MemCell) → slice_index_or slots m None ≡ Some c → rules_by (mems_in_cells slots m) ≡ c.rules.numbers
rules_cell slots m c at = ap (λ (o : Option MemCell). rules_by (option_map mem_in_cell o)) at
