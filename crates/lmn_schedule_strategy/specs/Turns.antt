-- What one turn does on a heap.
use Rattle.std.specs.Prelude.{ℕ, ◌≡◌, ◌<◌, ◌≤◌, ◌+◌, ◌↔◌, Bool, true, not, List, [], Some, length, map, slice_get, All}
use Rattle.std.specs.List.{AllByRecursion}
use Rattle.lmn_base.specs.Graphs.{Reached}
use Rattle.lmn_base.specs.Levels.{rules_of}
use Rattle.lmn_base.specs.Lists.{In}
use Rattle.lmn_base.specs.declared.rule.RuleTree.{RuleTree}
use Rattle.lmn_guards.specs.declared.plan.GuardPlan.{GuardPlan}
use Rattle.lmn_store_heap.specs.Graphs.{atom_map}
use Rattle.lmn_store_heap.specs.Heap.{Heap, IsMemInPlace, atoms_in}
use Rattle.lmn_store_heap.specs.Sound.{Forest, Valid, flat}
use Rattle.lmn_instr_code.specs.declared.instr.Code.{Code}
use Rattle.lmn_instr_code.specs.declared.instr.Instr.{Instr}
use Rattle.lmn_instr_code.specs.declared.instr.Instr.TheVariants.{CopyCells, LoadRule}
use Rattle.lmn_instr_code.specs.Running.{HeadRegisters, IsFirstSuccess, atoms_set, membranes_set}
use Rattle.lmn_compile_body.specs.Accepted.{IsCompilable}
use Rattle.lmn_solid_bodies.specs.Running.{Registers}
use Rattle.lmn_solid_bodies.specs.Stopping.{SameButSpares}
use Rattle.lmn_ground_parts.specs.Rests.{IsRest, NoneLeaves}
use Rattle.lmn_ground_parts.specs.Walks.{is_in}
use Rattle.lmn_congruence_splice.specs.Classes.{rising}
use Rattle.lmn_machine_registers.specs.Agreeing.{Agrees}
use Rattle.lmn_machine_registers.specs.declared.registers.SetRegisters.{SetRegisters}
use Rattle.lmn_machine_commit.specs.Matched.{IsMatched, CanBeCommitted}
use Rattle.lmn_machine_commit.specs.Preparing.{BodyInOrder, CanCopyRests}
use Rattle.lmn_machine_commit.specs.Registers.{HasRests}
use Rattle.lmn_machine_commit.specs.Waking.{Commits}
use Rattle.lmn_machine.specs.Costs.{IsTold, Leaves}
use Rattle.lmn_machine.specs.Searching.{AreHeldWhole, HeadInOrder, parts_set, integers_set}
use Rattle.lmn_schedule_strategy.specs.declared.turning.Turn.{Turn}
use Rattle.lmn_schedule_strategy.specs.declared.turning.Turn.TheVariants.{Committed, Irreducible, Full, NoMemory}
use Rattle.lmn_compile_rules.specs.Compiled.{AreWhole, IsCompiled, AreCompiled}
use Rattle.lmn_schedule_strategy.specs.Choosing.{NoneIn, IsFirstIn, Lulls, asked}

-- The code of a table of rules: each is whole with its plan, and the rules in its body are of the table.
pub record IsTableCode (codes : List Code) : Type 0 where
  pub table : List RuleTree
  pub plans : List GuardPlan
  pub whole : AreWhole table plans
  pub compiled : AreCompiled table plans codes
  pub inner : (k : ℕ) (rule : RuleTree) → slice_get table k ≡ Some rule → All (λ j. j < length table) (rules_of rule.body)

-- an atom is in none of the registers of atoms that head code sets, and in none of the parts
pub record IsBesideCode (h : Heap) (code : List Instr) (s : HeadRegisters) (a : ℕ) : Type 0 where
  pub no_atom : (k : ℕ) → k < atoms_set code → s.images.atom k ≡ a → ⊥
  pub no_part : (k : ℕ) → k < parts_set code → Reached (atom_map h) (s.images.part k) a → ⊥

-- The rest of the membrane in register m besides all that head code sets: its atoms that are in no register and in no part,
-- and its membranes that are in no register, with all that is in these.
abbrev pub IsRestOf : Heap → List Instr → HeadRegisters → ℕ → List ℕ → List ℕ → Type 0
IsRestOf h code s m atoms membranes =
    (left : ℕ → Bool) × ((a : ℕ) → In a (atoms_in h (s.images.membrane m)) → (left a ≡ true) ↔ IsBesideCode h code s a)
    × IsRest h (s.images.membrane m) left (λ x. not (is_in (map s.images.membrane (rising 0 (1 + membranes_set code))) x)) atoms membranes

-- the registers of a body hold the rest of each membrane that head code sets
abbrev pub HoldsRestsOf : Heap → List Instr → Registers → Type 0
HoldsRestsOf h code r = (m : ℕ) → m < 1 + membranes_set code → IsRestOf h code r.head m (r.left_atoms m) (r.left_membranes m)

-- The answer to a rule that is chosen, whose commit with these registers would leave n items, where there may be `size`:
-- the heap is h' then. Where the rule fires, what its code rouses is awake, and marks of membranes are no part of the rest.
abbrev pub IsAnswer : Heap → Registers → List Instr → ℕ → ℕ → Turn → Heap → Type 0
IsAnswer h s body n size Committed h' = (n ≤ size) × Commits h s body h'
IsAnswer h s body n size Irreducible h' = ⊥
IsAnswer h s body n size Full h' = (size < n) × (h' ≡ h)
IsAnswer h s body n size NoMemory h' = (n ≤ size) × SameButSpares h h'

-- Where membranes are asked in this order a rule is chosen, the first whose code succeeds. These registers are its first
-- success and hold the rests beside it, its commit with them leaves so many items, and this is the answer.
pub record Chooses (h : Heap) (codes : List Code) (ms : List ℕ) (size : ℕ) (answer : Turn) (h' : Heap) : Type 0 where
  pub membrane : ℕ
  pub place : ℕ
  pub rule : ℕ
  pub chosen : IsFirstIn h codes ms membrane place rule
  pub code : Code
  pub is : slice_get codes rule ≡ Some code
  pub registers : Registers
  pub first : IsFirstSuccess h code.head membrane registers.head
  pub rests : HoldsRestsOf h code.head registers
  pub left : ℕ
  pub leaves : Leaves h registers code.body left
  pub answered : IsAnswer h registers code.body left size answer h'

-- What one rule chosen does where the membranes that were asked before in vain fall asleep, if they may, which leaves the heap s.
abbrev pub ChoosesAwake : Bool → Heap → List Code → List ℕ → ℕ → Turn → Heap → Type 0
ChoosesAwake sleep h codes ms size answer h' = (s : Heap) × (t : Chooses s codes ms size answer h') × Lulls sleep h s t.chosen.earlier

-- What a turn does with the membranes that are awake.
abbrev pub IsAwakeTurn : Bool → Heap → List Code → Forest → ℕ → ℕ → Turn → Heap → Type 0
IsAwakeTurn sleep h codes f from size Committed h' = ChoosesAwake sleep h codes (asked from f) size Committed h'
IsAwakeTurn sleep h codes f from size Irreducible h' = NoneIn h codes (flat f) × Lulls sleep h h' (flat f)
IsAwakeTurn sleep h codes f from size Full h' = ChoosesAwake sleep h codes (asked from f) size Full h'
IsAwakeTurn sleep h codes f from size NoMemory h' = ChoosesAwake sleep h codes (asked from f) size NoMemory h'

-- What a turn does on the heap h with this tree, where the membrane with a number is asked first: the heap is h' then.
abbrev pub IsTurn : Heap → List Code → Forest → ℕ → ℕ → Turn → Heap → Type 0
IsTurn h codes f from size Committed h' = Chooses h codes (asked from f) size Committed h'
IsTurn h codes f from size Irreducible h' = NoneIn h codes (flat f) × (h' ≡ h)
IsTurn h codes f from size Full h' = Chooses h codes (asked from f) size Full h'
IsTurn h codes f from size NoMemory h' = Chooses h codes (asked from f) size NoMemory h'

-- After its head the body of a code can be prepared, and what is read to tell its cost is set.
pub record IsReadyCode (code : Code) : Type 0 where
  pub order : BodyInOrder (atoms_set code.head) (1 + membranes_set code.head) (parts_set code.head) (integers_set code.head) 0 code.body
  pub told : AllByRecursion (IsTold (1 + membranes_set code.head) (parts_set code.head)) code.body

-- So it is with the code of each accepted rule.
abbrev pub BodiesAreReady : Type 0
BodiesAreReady = (table : List RuleTree) (r : RuleTree) (plan : GuardPlan) → IsCompilable table r plan → (code : Code) → IsCompiled r plan code → IsReadyCode code

-- where an instruction loads a rule, it is one of these
abbrev pub Loads : (ℕ → Type 0) → Instr → Type 0
Loads P (LoadRule m k) = P k
Loads P _ = Unit {0}

-- Code can be run by turns, over a table of so many rules, be it that of a rule or not.
--   head     the machine can run its head
--   ready    after its head its body can be prepared, and what is read to tell its cost is set
--   loads    the rules that it loads are of the table
--   copies   where its head first succeeds in a membrane of a valid heap, no link leaves the rests that it copies,
--   leaves   with these rests its cost is told,
--   commits  and its body can be committed
pub record IsRunnable (rules : ℕ) (code : Code) : Type 0 where
  pub head : HeadInOrder 0 1 0 0 code.head
  pub ready : IsReadyCode code
  pub loads : AllByRecursion (Loads (λ j. j < rules)) code.body
  pub copies : (h : Heap) (m : ℕ) (s : HeadRegisters) → Valid h → IsMemInPlace h m → IsFirstSuccess h code.head m s → (at k n : ℕ) → slice_get code.body at ≡ Some (CopyCells k n) →
      (k < 1 + membranes_set code.head) × ((atoms membranes : List ℕ) → IsRestOf h code.head s k atoms membranes → NoneLeaves h atoms)
  pub leaves : (h : Heap) (m : ℕ) (r : Registers) → Valid h → IsMemInPlace h m → IsFirstSuccess h code.head m r.head → HoldsRestsOf h code.head r → (n : ℕ) × Leaves h r code.body n
  pub commits : (h : Heap) (m : ℕ) (r : Registers) → Valid h → IsMemInPlace h m → IsFirstSuccess h code.head m r.head → HoldsRestsOf h code.head r → CanBeCommitted r code.body h

-- each of these codes can be, and they are the table
abbrev pub AreRunnable : List Code → Type 0
AreRunnable codes = (n : ℕ) (code : Code) → slice_get codes n ≡ Some code → IsRunnable (length codes) code

-- So it is with the code of a table of accepted rules.
abbrev pub TablesAreRunnable : Type 0
TablesAreRunnable = (codes : List Code) → IsTableCode codes → AreRunnable codes

-- The registers hold a match of the head of a code, and its body can be prepared and committed.
pub record CanFire {A M : Type 0} (atom : A → ℕ) (membrane : M → ℕ) (h : Heap) (g : SetRegisters A M) (code : Code) : Type 0 where
  pub held : AreHeldWhole atom membrane h g
  pub copies : g.copies ≡ []
  pub order : BodyInOrder (length g.atoms) (length g.membranes) (length g.parts) (length g.integers) 0 code.body
  pub told : AllByRecursion (IsTold (length g.membranes) (length g.parts)) code.body
  pub rests : CanCopyRests atom membrane h g code.body
  pub matched : IsMatched atom membrane h g code.body
  pub some : (r : Registers) → Agrees atom membrane g r.head → HasRests atom membrane h g r → (n : ℕ) × Leaves h r code.body n

-- The answer to a match that the registers hold, for registers that have the values of those that are set, and the rests
-- beside these.
pub record AnswersMatch {A M : Type 0} (atom : A → ℕ) (membrane : M → ℕ) (h : Heap) (g : SetRegisters A M) (code : Code) (size : ℕ) (answer : Turn) (h' : Heap) : Type 0 where
  pub registers : Registers
  pub agrees : Agrees atom membrane g registers.head
  pub rests : HasRests atom membrane h g registers
  pub left : ℕ
  pub leaves : Leaves h registers code.body left
  pub answered : IsAnswer h registers code.body left size answer h'
