-- Cells of atoms and of membranes, and what they stand for.
use Rattle.std.specs.Prelude.{ℕ, ◌+◌, ◌-◌, ◌==◌, List, [], ◌∷◌, ◌++◌, Option, Some, None, slice_index_or, if◌then◌else◌}
use Rattle.std.specs.Option.{option_map}
use Rattle.lmn_store_heap.specs.Heap.{Heap, HeapAtom, HeapMem, Place, top, within, waiting, gone}
use Rattle.lmn_store_slab.specs.declared.cell.Port.{Port}
use Rattle.lmn_store_slab.specs.declared.cell.AtomCell.{AtomCell}
use Rattle.lmn_store_slab.specs.declared.cell.MemCell.{MemCell}

-- The list 0 is the line of what waits, the list 1 holds what is gone, and the list m + 2 what stands in the
-- membrane m.
abbrev pub place_by : ℕ → Place
place_by l = if l == 0 then waiting else if l == 1 then gone else within (l - 2)

abbrev pub mem_place_by : Option ℕ → Place
mem_place_by None = top
mem_place_by (Some l) = place_by l

-- the partners of ports, and their marks
abbrev pub port_partners : List Port → List (Option (ℕ × ℕ))
port_partners [] = []
port_partners (p ∷ ps) = p.partner ∷ port_partners ps

abbrev pub port_marks : List Port → List ℕ
port_marks [] = []
port_marks (p ∷ ps) = p.mark ∷ port_marks ps

abbrev pub atom_in_cell : AtomCell → HeapAtom
atom_in_cell c = record { functor = c.functor; links = port_partners c.ports; marks = port_marks c.ports ++ c.mark ∷ []; place = place_by c.list }

-- the atom of each number
abbrev pub atoms_in_cells : List (Option AtomCell) → ℕ → Option HeapAtom
atoms_in_cells slots a = option_map atom_in_cell (slice_index_or slots a None)

-- a membrane without what stands in it
abbrev pub mem_in_cell : MemCell → HeapMem
mem_in_cell c = record { atoms = []; mems = []; rules = c.rules.numbers; spare = c.rules.spare; mark = c.mark; place = mem_place_by c.list }

abbrev pub mems_in_cells : List (Option MemCell) → ℕ → Option HeapMem
mems_in_cells slots m = option_map mem_in_cell (slice_index_or slots m None)

-- Heaps of atoms and membranes with lists of what stands where

abbrev pub with_lists : List ℕ → List ℕ → HeapMem → HeapMem
with_lists xs ys x = record x { atoms = xs; mems = ys }

-- A heap of these atoms and these membranes: what is in a list of L is an atom, what is in one of M a membrane.
abbrev pub built : (ℕ → Option HeapAtom) → (ℕ → Option HeapMem) → (ℕ → List ℕ) → (ℕ → List ℕ) → Heap
built atoms mems L M = record {
  root = 0;
  atoms = atoms;
  mems = λ m. option_map (with_lists (L (m + 2)) (M (m + 2))) (mems m);
  new_atoms = L 0;
  new_mems = M 0;
}
