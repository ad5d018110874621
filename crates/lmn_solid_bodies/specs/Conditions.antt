-- When the instructions of a body can run: each meets the conditions of the calls that it makes.
use Rattle.std.specs.Prelude.{ℕ, ◌≡◌, ◌≢◌, ◌≤◌, ◌<◌, List, [], ◌∷◌, Some, length}
use Rattle.lmn_base.specs.Graphs.{Reached, Port}
use Rattle.lmn_store_heap.specs.Heap.{Heap, IsAtom, IsMem, IsInPlace, IsPlacedMem, IsMemInPlace, mem_place_of, gone, rules_in, spare_of, arity_of}
use Rattle.lmn_store_heap.specs.Conditions.{IsOutside, Ready}
use Rattle.lmn_store_heap.specs.Graphs.{atom_map}
use Rattle.lmn_instr_code.specs.declared.instr.Instr.{Instr}
use Rattle.lmn_instr_code.specs.declared.instr.Instr.TheVariants.{RemoveAtom, RemovePart, RemoveMem, NewAtom, NewInt, NewMem, CopyGround, MoveCells, CopyCells, LoadRule, CopyRules, DropCells, NewLink, Relink, Unify, Proceed}
use Rattle.lmn_ground_parts.specs.Rests.{CopyWaits, IsContent}
use Rattle.lmn_solid_bodies.specs.Tied.{partners}
use Rattle.lmn_solid_bodies.specs.Running.{Registers, old_port, new_port, Does}
use Rattle.lmn_base.specs.Lists.{Begins}

abbrev pub StandsAsPort : Heap → Port → Type 0
StandsAsPort s p = IsAtom s p.0 × (p.1 < arity_of s p.0)

-- a number is the first of a list
abbrev pub IsFirstOf : ℕ → List ℕ → Type 0
IsFirstOf a xs = (rest : List ℕ) × (xs ≡ a ∷ rest)

abbrev pub Can : Registers → Instr → Heap → Type 0
Can r (RemoveAtom a) s = IsInPlace s (r.head.images.atom a)
Can r (RemovePart g) s = (b : ℕ) → Reached (atom_map s) (r.head.images.part g) b → IsInPlace s b
Can r (RemoveMem m) s = IsPlacedMem s (r.head.images.membrane m)
Can r (NewAtom a m f) s = IsMemInPlace s (r.head.images.membrane m) × IsFirstOf (r.head.images.atom a) s.new_atoms
Can r (NewInt a m v) s = IsMemInPlace s (r.head.images.membrane m) × IsFirstOf (r.head.images.atom a) s.new_atoms
Can r (NewMem m n) s = IsMemInPlace s (r.head.images.membrane n) × IsFirstOf (r.head.images.membrane m) s.new_mems
Can r (CopyGround c m g) s = IsMemInPlace s (r.head.images.membrane m) × Begins (r.copied c) s.new_atoms
Can r (MoveCells m n) s = (mem_place_of s (r.head.images.membrane m) ≡ Some gone) × IsMemInPlace s (r.head.images.membrane n) × IsOutside s (r.head.images.membrane n) (r.head.images.membrane m)
Can r (CopyCells m n) s =
    IsMem s (r.head.images.membrane m) × IsMemInPlace s (r.head.images.membrane n)
    × ((copies new_membranes : List ℕ) × CopyWaits s (r.head.images.membrane m) (r.head.images.membrane n) (r.left_atoms m) (r.left_membranes m) copies new_membranes)
Can r (LoadRule m k) s = IsMem s (r.head.images.membrane m) × (1 ≤ spare_of s (r.head.images.membrane m))
Can r (CopyRules m n) s =
    IsMem s (r.head.images.membrane m) × IsMem s (r.head.images.membrane n) × (r.head.images.membrane m ≢ r.head.images.membrane n)
    × (length (rules_in s (r.head.images.membrane m)) ≤ spare_of s (r.head.images.membrane n))
Can r (DropCells m) s = (mem_place_of s (r.head.images.membrane m) ≡ Some gone) × IsContent s (r.head.images.membrane m) (r.left_atoms m) (r.left_membranes m)
Can r (NewLink p q) s = StandsAsPort s (new_port r p) × StandsAsPort s (new_port r q) × (new_port r p ≢ new_port r q)
Can r (Relink p h) s =
    StandsAsPort s (new_port r p) × StandsAsPort s (old_port r h) × ((x : Port) → partners s (old_port r h) ≡ Some x → new_port r p ≢ x)
Can r (Unify g h) s = StandsAsPort s (old_port r g) × StandsAsPort s (old_port r h) × (old_port r g ≢ old_port r h)
Can r Proceed s = Ready s
Can r _ s = ⊥

-- Code can run from a heap: its first instruction can, and the rest from each heap that this one leaves.
abbrev pub CanRun : Registers → List Instr → Heap → Type 0
CanRun r [] s = Unit {0}
CanRun r (i ∷ is) s = Can r i s × ((t : Heap) → Does r i s t → CanRun r is t)
