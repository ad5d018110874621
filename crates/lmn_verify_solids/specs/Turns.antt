-- Which code is committed on a solid, and what it leaves.
use Rattle.std.specs.Prelude.{ℕ, ◌≡◌, ◌≤◌, ◌+◌, ◌↔◌, List, [], ◌∷◌, Some, length, map, slice_get, sum}
use Rattle.lmn_base.specs.declared.solid.Solid.{Solid}
use Rattle.lmn_base.specs.Graphs.{Port, Reached}
use Rattle.lmn_base.specs.Lists.{In}
use Rattle.lmn_base.specs.Solids.{item_count}
use Rattle.lmn_store_heap.specs.Lists.{Distinct}
use Rattle.lmn_instr_code.specs.declared.instr.Code.{Code}
use Rattle.lmn_instr_code.specs.declared.instr.Instr.{Instr}
use Rattle.lmn_instr_code.specs.declared.instr.Instr.TheVariants.{RemoveAtom, RemovePart, RemoveMem, NewAtom, NewInt, NewMem, CopyGround, CopyCells, LoadRule, CopyRules, DropCells}
use Rattle.lmn_solid_bodies.specs.Running.{Registers}
use Rattle.lmn_instr_code.specs.Running.{HeadRegisters}
use Rattle.lmn_verify_solids.specs.Graphs.{Graph, IsGraphOf}
use Rattle.lmn_verify_solids.specs.Heads.{IsChosen, NoneIn, Succeeds}
use Rattle.lmn_verify_solids.specs.Firing.{Fires, LeavesRests}

-- ---- items

-- the number of atoms of the part that is entered at a port
abbrev pub IsSize : Graph → Port → ℕ → Type 0
IsSize g root n = (xs : List ℕ) × Distinct xs × ((a : ℕ) → In a xs ↔ Reached g.map root a) × (n ≡ length xs)

-- the number of items that are left in the membrane of a register: atoms, membranes, and the rules in these
abbrev pub rest_size : Graph → Registers → ℕ → ℕ
rest_size g r m = length (r.left_atoms m) + sum (map (λ k. 1 + length (g.rules k)) (r.left_membranes m))

-- How many items an instruction of a body adds to those of a solid: atoms, membranes, and rules in membranes;
abbrev pub AddsItems : Graph → Registers → Instr → ℕ → Type 0
AddsItems g r (NewAtom a m f) n = n ≡ 1
AddsItems g r (NewInt a m v) n = n ≡ 1
AddsItems g r (NewMem m k) n = n ≡ 1
AddsItems g r (CopyGround c m x) n = IsSize g (r.head.images.part x) n
AddsItems g r (CopyCells m k) n = n ≡ rest_size g r m
AddsItems g r (LoadRule m k) n = n ≡ 1
AddsItems g r (CopyRules m k) n = n ≡ length (g.rules (r.head.images.membrane m))
AddsItems g r _ n = n ≡ 0

-- and how many it takes from them. A membrane goes with its rules; its atoms and membranes are moved, or are taken by instructions of
-- their own.
abbrev pub TakesItems : Graph → Registers → Instr → ℕ → Type 0
TakesItems g r (RemoveAtom a) n = n ≡ 1
TakesItems g r (RemovePart x) n = IsSize g (r.head.images.part x) n
TakesItems g r (RemoveMem m) n = n ≡ 1 + length (g.rules (r.head.images.membrane m))
TakesItems g r (DropCells m) n = n ≡ rest_size g r m
TakesItems g r _ n = n ≡ 0

-- the sum over all instructions of some code
abbrev pub InAll : (Instr → ℕ → Type 0) → List Instr → ℕ → Type 0
InAll P [] n = n ≡ 0
InAll P (i ∷ is) n = (a b : ℕ) × (P i a × InAll P is b × (n ≡ a + b))

-- ---- turns

-- What the codes choose on a solid, where the root is asked first: a code that succeeds, with its first success.
--   graph, is_graph    atoms and membranes have some numbers
--   taken, rests       the atoms that the head takes, and what is left in its membranes
--   left, leaves       the commit would leave so many items
pub record Choice (codes : List Code) (S : Solid) : Type 0 where
  pub graph : Graph
  pub is_graph : IsGraphOf graph S
  pub code : Code
  pub membrane : ℕ
  pub registers : Registers
  pub chosen : IsChosen graph codes is_graph.all code membrane registers.head
  pub taken : List ℕ
  pub rests : LeavesRests graph code.head registers taken
  pub left : ℕ
  pub leaves : (added : ℕ) × (gone : ℕ) × InAll (AddsItems graph registers) code.body added × InAll (TakesItems graph registers) code.body gone × (left + gone ≡ item_count S + added)

-- S' is the solid after the commit that the codes choose on S, which leaves few enough items
abbrev pub CodeNext : List Code → ℕ → Solid → Solid → Type 0
CodeNext codes size S S' = (c : Choice codes S) × (c.left ≤ size) × (after : Graph) × IsGraphOf after S' × Fires c.code c.graph c.registers c.taken after

-- no code succeeds in any membrane of a solid
abbrev pub NoneSucceeds : List Code → Solid → Type 0
NoneSucceeds codes S = (g : Graph) × (is : IsGraphOf g S) × NoneIn g codes is.all

-- the code of a rule of some membrane succeeds there
pub record SomeSucceeds (codes : List Code) (S : Solid) : Type 0 where
  pub graph : Graph
  pub is_graph : IsGraphOf graph S
  pub membrane : ℕ
  pub among : In membrane is_graph.all
  pub rule : ℕ
  pub stands : In rule (graph.rules membrane)
  pub code : Code
  pub is : slice_get codes rule ≡ Some code
  pub registers : HeadRegisters
  pub succeeds : Succeeds graph code.head membrane registers
