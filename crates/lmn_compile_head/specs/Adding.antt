-- Words of private functions: what is known while the code of the items of a head is added.
use Rattle.std.specs.Prelude.{ℕ, ◌≡◌, List, Option, map, take}
use Rattle.std.specs.Option.{option_map}
use Rattle.lmn_solid_heads.specs.declared.items.HeadItem.{HeadItem}
use Rattle.lmn_solid_heads.specs.Heads.{HeadAtom, at_atoms, atoms_of, membranes_of, outermost}
use Rattle.lmn_instr_code.specs.declared.instr.AtomPort.{AtomPort}
use Rattle.lmn_instr_code.specs.HeadCode.{entry, occurrences_before}
use Rattle.lmn_compile_head.specs.Entries.{found_by}
use Rattle.lmn_compile_head.specs.Tables.{FirstPorts}
use Rattle.lmn_compile_head.specs.declared.codes.FoundBy.{FoundBy}

-- the membranes in which those of a head stand
abbrev pub AreInsides : List HeadItem → List ℕ → Type 0
AreInsides items insides = map (λ b. b.inside) (membranes_of items) ≡ insides

-- the outermost membrane round another one
abbrev pub IsOutermost : List HeadItem → (inside outer : ℕ) → Type 0
IsOutermost items inside outer = outer ≡ outermost (membranes_of items) inside

-- by which earlier atom an atom is found, if by one
abbrev pub IsFoundBy : List HeadItem → ℕ → HeadAtom → Option FoundBy → Type 0
IsFoundBy items n a found = found ≡ option_map found_by (entry items n a)

-- a table of the ports at which links stand first, of all that stands before port i of an atom,
abbrev pub HasPortsBefore : List (Option AtomPort) → List HeadItem → ℕ → HeadAtom → ℕ → Type 0
HasPortsBefore table items n a i = FirstPorts table (occurrences_before items n a i)

-- and of the first n atoms
abbrev pub HasPortsOfAtoms : List (Option AtomPort) → List HeadItem → ℕ → Type 0
HasPortsOfAtoms table items n = FirstPorts table (at_atoms 0 (take n (atoms_of items)))
