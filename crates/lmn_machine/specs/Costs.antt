-- How many items the commit with the code of a body leaves.
use Rattle.std.specs.Prelude.{ℕ, ◌≡◌, ◌<◌, ◌+◌, List, [], ◌∷◌, length, map, sum}
use Rattle.lmn_store_heap.specs.Heap.{Heap, rules_in}
use Rattle.lmn_store_heap.specs.Sound.{Forest, IsTree, flat, item_count_in}
use Rattle.lmn_ground.specs.Spread.{AreAtoms}
use Rattle.lmn_instr_code.specs.declared.instr.Instr.{Instr}
use Rattle.lmn_instr_code.specs.declared.instr.Instr.TheVariants.{RemoveAtom, RemovePart, RemoveMem, NewAtom, NewInt, NewMem, CopyGround, CopyCells, LoadRule, CopyRules, DropCells}
use Rattle.lmn_solid_bodies.specs.Running.{Registers}

-- the number of atoms of the part that is entered at a port
abbrev pub IsSize : Heap → ℕ × ℕ → ℕ → Type 0
IsSize h root n = (xs : List ℕ) × AreAtoms h root xs × (n ≡ length xs)

-- the number of items that are left in the membrane of a register: atoms, membranes, and the rules in these
abbrev pub IsRestSize : Heap → Registers → ℕ → ℕ → Type 0
IsRestSize h r m n = n ≡ length (r.left_atoms m) + sum (map (λ k. 1 + length (rules_in h k)) (r.left_membranes m))

-- How many items an instruction of a body adds to those of a heap: atoms, membranes, and rules in membranes.
abbrev pub AddsItems : Heap → Registers → Instr → ℕ → Type 0
AddsItems h r (NewAtom a m f) n = n ≡ 1
AddsItems h r (NewInt a m v) n = n ≡ 1
AddsItems h r (NewMem m k) n = n ≡ 1
AddsItems h r (CopyGround c m g) n = IsSize h (r.head.images.part g) n
AddsItems h r (CopyCells m k) n = IsRestSize h r m n
AddsItems h r (LoadRule m k) n = n ≡ 1
AddsItems h r (CopyRules m k) n = n ≡ length (rules_in h (r.head.images.membrane m))
AddsItems h r _ n = n ≡ 0

-- How many it takes from them. A membrane goes with its rules; its atoms and membranes are moved, or are taken by
-- instructions of their own.
abbrev pub TakesItems : Heap → Registers → Instr → ℕ → Type 0
TakesItems h r (RemoveAtom a) n = n ≡ 1
TakesItems h r (RemovePart g) n = IsSize h (r.head.images.part g) n
TakesItems h r (RemoveMem m) n = n ≡ 1 + length (rules_in h (r.head.images.membrane m))
TakesItems h r (DropCells m) n = IsRestSize h r m n
TakesItems h r _ n = n ≡ 0

-- the sum over all instructions of some code
abbrev pub InAll : (Instr → ℕ → Type 0) → List Instr → ℕ → Type 0
InAll P [] n = n ≡ 0
InAll P (i ∷ is) n = (a b : ℕ) × (P i a × InAll P is b × (n ≡ a + b))

-- A commit with the code of a body leaves n items, the root not counted.
pub record Leaves (h : Heap) (r : Registers) (body : List Instr) (n : ℕ) : Type 0 where
  pub added : ℕ
  pub taken : ℕ
  pub adds : InAll (AddsItems h r) body added
  pub takes : InAll (TakesItems h r) body taken
  pub count : (f : Forest) → IsTree h f → n + taken + 1 ≡ item_count_in h (flat f) + added

-- What is read to tell this is set: m registers of membranes and g of typed contexts are.
abbrev pub IsTold : ℕ → ℕ → Instr → Type 0
IsTold m g (RemovePart x) = x < g
IsTold m g (RemoveMem x) = x < m
IsTold m g (CopyGround c x y) = y < g
IsTold m g (CopyCells x y) = x < m
IsTold m g (CopyRules x y) = x < m
IsTold m g (DropCells x) = x < m
IsTold m g _ = Unit {0}
