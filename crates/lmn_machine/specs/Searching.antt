-- What the machine knows while it looks for a match.
use Rattle.std.specs.Prelude.{ℕ, ℤ, Bool, true, false, ◌≡◌, ◌<◌, ◌+◌, List, [], ◌∷◌, ◌++◌, Option, Some, None, length, slice_get, take}
use Rattle.std.specs.List.{AllByRecursion}
use Rattle.lmn_base.specs.Graphs.{Reached, StandsWhole}
use Rattle.lmn_store_heap.specs.Heap.{Heap, IsAtom, port_id, home_of, link_of, arity_of}
use Rattle.lmn_store_heap.specs.Graphs.{atom_map}
use Rattle.lmn_instr_code.specs.declared.instr.Instr.{Instr}
use Rattle.lmn_instr_code.specs.declared.instr.Instr.TheVariants.{FindAtom, Deref, Func, InMem, NeqAtom, Joined, AnyMem, NeqMem, NMems, NoRules, NotIn, IsInt, IsUnary, IsGround, NAtoms, IsClosed, EqGround, NeqGround, GetInt, Const, Add, Sub, Mul, Div, Mod, Lt, Le, Gt, Ge, Eq, Ne, Commit}
use Rattle.lmn_instr_code.specs.Running.{HeadRegisters, HeadSize, InstructionHolds, AllHold, Succeeds, IsFirstSuccess, atoms_set, membranes_set, choices}
use Rattle.lmn_solid_heads.specs.Embeddings.{ListNotAfter}
use Rattle.lmn_solid_heads.specs.Guards.{IsUnaryPart}
use Rattle.lmn_ground.specs.Listed.{IsListed}
use Rattle.lmn_machine_registers.specs.Agreeing.{Agrees}
use Rattle.lmn_machine_registers.specs.declared.registers.SetRegisters.{SetRegisters}
use Rattle.lmn_machine_registers.specs.declared.stack.TheConstants.{ROOM}
use Rattle.lmn_machine_commit.specs.Preparing.{IsNext}
use Rattle.lmn_machine_commit.specs.Registers.{AreAtomHandles, AreMembraneHandles, AreRootHandles}

-- none of these handles is of an atom
pub record AreApart {A : Type 0} (atom : A → ℕ) (handles : List A) (n : ℕ) : Type 0 where
  pub differ : (k : ℕ) (b : A) → slice_get handles k ≡ Some b → atom b ≡ n → ⊥

-- A part that was found is entered from an atom in registers, stands whole in a membrane, and has no atom in registers.
pub record IsHeldPart {A : Type 0} (atom : A → ℕ) (h : Heap) (handles : List A) (p : A × ℕ) : Type 0 where
  pub port : p.1 < arity_of h (atom p.0)
  pub holder : (j i : ℕ) × ((a : A) × (slice_get handles j ≡ Some a) × (link_of h (atom a) i ≡ Some (port_id atom p)))
  pub whole : (m : ℕ) × StandsWhole (atom_map h) (port_id atom p) m
  pub apart : (b : ℕ) → Reached (atom_map h) (port_id atom p) b → AreApart atom handles b

-- The handles in the registers are of atoms, of membranes and of the roots of parts that stand whole, and the part that is listed is
-- there.
pub record AreHeldWhole {A M : Type 0} (atom : A → ℕ) (membrane : M → ℕ) (h : Heap) (g : SetRegisters A M) : Type 0 where
  pub atoms : AreAtomHandles atom h g.atoms
  pub membranes : AreMembraneHandles membrane h g.membranes
  pub parts : AreRootHandles atom h g.parts
  pub whole : (k : ℕ) (p : A × ℕ) → slice_get g.parts k ≡ Some p → IsHeldPart atom h g.atoms p
  pub listed : IsListed atom h g.listed

-- no part is listed
abbrev pub ListsNone : {A M : Type 0} → SetRegisters A M → Type 0
ListsNone g = g.listed ≡ record { port = 0; atoms = [] }

-- more registers are set, and the earlier ones are as they were
pub record Extends {A M : Type 0} (g k : SetRegisters A M) : Type 0 where
  pub atoms : take (length g.atoms) k.atoms ≡ g.atoms
  pub membranes : take (length g.membranes) k.membranes ≡ g.membranes
  pub parts : take (length g.parts) k.parts ≡ g.parts
  pub integers : take (length g.integers) k.integers ≡ g.integers
  pub copies : k.copies ≡ g.copies

-- how many registers of typed contexts code sets
abbrev pub parts_set : List Instr → ℕ
parts_set [] = 0
parts_set (IsInt g p m ∷ is) = 1 + parts_set is
parts_set (IsUnary g p m ∷ is) = 1 + parts_set is
parts_set (IsGround g p m ∷ is) = 1 + parts_set is
parts_set (_ ∷ is) = parts_set is

-- how many of integers
abbrev pub integers_set : List Instr → ℕ
integers_set [] = 0
integers_set (GetInt v g ∷ is) = 1 + integers_set is
integers_set (Const v z ∷ is) = 1 + integers_set is
integers_set (Add v w x ∷ is) = 1 + integers_set is
integers_set (Sub v w x ∷ is) = 1 + integers_set is
integers_set (Mul v w x ∷ is) = 1 + integers_set is
integers_set (Div v w x ∷ is) = 1 + integers_set is
integers_set (Mod v w x ∷ is) = 1 + integers_set is
integers_set (_ ∷ is) = integers_set is

-- As many more registers are set as code sets.
pub record SetsMore {A M : Type 0} (g k : SetRegisters A M) (code : List Instr) : Type 0 where
  pub atoms : length k.atoms ≡ length g.atoms + atoms_set code
  pub membranes : length k.membranes ≡ length g.membranes + membranes_set code
  pub parts : length k.parts ≡ length g.parts + parts_set code
  pub integers : length k.integers ≡ length g.integers + integers_set code

-- Exactly the registers are set that head code sets, and that of the membrane in which it is run.
pub record AreAllSet {A M : Type 0} (g : SetRegisters A M) (code : List Instr) : Type 0 where
  pub atoms : length g.atoms ≡ atoms_set code
  pub membranes : length g.membranes ≡ 1 + membranes_set code
  pub parts : length g.parts ≡ parts_set code
  pub integers : length g.integers ≡ integers_set code

-- The size of a head is that of the registers that are set when all of its code is run that begins with the registers g.
pub record SetsAll {A M : Type 0} (c : HeadSize) (g : SetRegisters A M) (code : List Instr) : Type 0 where
  pub atoms : c.atoms ≡ length g.atoms + atoms_set code
  pub membranes : c.membranes ≡ length g.membranes + membranes_set code

-- Code succeeds with the registers that are set at last, and with any that agree with them; and whatever else agrees with
-- those that were set at first chooses no earlier candidates.
pub record Found {A M : Type 0} (atom : A → ℕ) (membrane : M → ℕ) (h : Heap) (g k : SetRegisters A M) (code : List Instr) : Type 0 where
  pub holds : (c : HeadSize) (s : HeadRegisters) → SetsAll c g code → Agrees atom membrane k s → AllHold h c s code
  pub first : (c : HeadSize) (s t : HeadRegisters) → SetsAll c g code → Agrees atom membrane k s → Agrees atom membrane g t → AllHold h c t code → ListNotAfter (choices h s code) (choices h t code)

-- What a search answers, that began with the registers g and ends with k. Where it is false, the code succeeds with no
-- registers that agree with g.
pub record Searched {A M : Type 0} (atom : A → ℕ) (membrane : M → ℕ) (h : Heap) (g k : SetRegisters A M) (result : Bool) (code : List Instr) : Type 0 where
  pub held : AreHeldWhole atom membrane h k
  pub extends : Extends g k
  pub sets : result ≡ true → SetsMore g k code
  pub found : result ≡ true → Found atom membrane h g k code
  pub none : result ≡ false → (c : HeadSize) (s : HeadRegisters) → SetsAll c g code → Agrees atom membrane g s → AllHold h c s code → ⊥

-- What a look for the first success of head code in a membrane answers. Where it is true, the registers hold it, and exactly those
-- are set that the code sets; where it is false, there is none.
pub record Looked {A M : Type 0} (atom : A → ℕ) (membrane : M → ℕ) (h : Heap) (code : List Instr) (m : ℕ) (g : SetRegisters A M) (result : Bool) : Type 0 where
  pub held : AreHeldWhole atom membrane h g
  pub copies : g.copies ≡ []
  pub set : result ≡ true → AreAllSet g code
  pub found : result ≡ true → (r : HeadRegisters) → Agrees atom membrane g r → IsFirstSuccess h code m r
  pub none : result ≡ false → (r : HeadRegisters) → Succeeds h code m r → ⊥

-- two integers that are set are compared, or the match is found
abbrev pub Compares : ℕ → Instr → Type 0
Compares v (Lt x y) = (x < v) × (y < v)
Compares v (Le x y) = (x < v) × (y < v)
Compares v (Gt x y) = (x < v) × (y < v)
Compares v (Ge x y) = (x < v) × (y < v)
Compares v (Eq x y) = (x < v) × (y < v)
Compares v (Ne x y) = (x < v) × (y < v)
Compares v Commit = Unit {0}
Compares v _ = ⊥

-- Tests of registers that are set, where a atoms, m membranes and v integers are, but for those that look at typed contexts.
abbrev pub TestsSetRegisters : ℕ → ℕ → ℕ → Instr → Type 0
TestsSetRegisters a m v (Func x f) = x < a
TestsSetRegisters a m v (InMem x y) = (x < a) × (y < m)
TestsSetRegisters a m v (NeqAtom x y) = (x < a) × (y < a)
TestsSetRegisters a m v (Joined p q) = (p.atom < a) × (q.atom < a)
TestsSetRegisters a m v (NeqMem x y) = (x < m) × (y < m)
TestsSetRegisters a m v (NMems x n) = x < m
TestsSetRegisters a m v (NoRules x) = x < m
TestsSetRegisters a m v (NotIn p x) = (p.atom < a) × (x < m)
TestsSetRegisters a m v i = Compares v i

-- Head code that sets registers in the order of their numbers, reads none that isn't set, and has no more than there is
-- room for. So far a atoms, m membranes, g typed contexts and v integers are set. Where a typed context is looked for, all
-- atoms are set; where it is asked whether a link leaves a rest, all membranes are, too.
abbrev pub HeadInOrder : ℕ → ℕ → ℕ → ℕ → List Instr → Type 0
HeadInOrder a m g v [] = Unit {0}
HeadInOrder a m g v (FindAtom x y f ∷ is) = ((x ≡ a) × (y < m) × (a < ROOM) × (g ≡ 0)) × HeadInOrder (a + 1) m g v is
HeadInOrder a m g v (Deref x p k ∷ is) = ((x ≡ a) × (p.atom < a) × (a < ROOM) × (g ≡ 0)) × HeadInOrder (a + 1) m g v is
HeadInOrder a m g v (AnyMem x y ∷ is) = ((x ≡ m) × (y < m) × (m < ROOM)) × HeadInOrder a (m + 1) g v is
HeadInOrder a m g v (IsInt x p y ∷ is) = ((IsNext x g × (p.atom < a) × (y < m)) × (atoms_set is ≡ 0)) × HeadInOrder a m (g + 1) v is
HeadInOrder a m g v (IsUnary x p y ∷ is) = ((IsNext x g × (p.atom < a) × (y < m)) × (atoms_set is ≡ 0)) × HeadInOrder a m (g + 1) v is
HeadInOrder a m g v (IsGround x p y ∷ is) = ((IsNext x g × (p.atom < a) × (y < m)) × (atoms_set is ≡ 0)) × HeadInOrder a m (g + 1) v is
HeadInOrder a m g v (NAtoms x n gs ∷ is) = ((x < m) × AllByRecursion (λ k. k < g) gs) × HeadInOrder a m g v is
HeadInOrder a m g v (IsClosed x gs ∷ is) = ((x < m) × AllByRecursion (λ k. k < g) gs × (atoms_set is ≡ 0) × (membranes_set is ≡ 0)) × HeadInOrder a m g v is
HeadInOrder a m g v (EqGround x y ∷ is) = ((x < g) × (y < g)) × HeadInOrder a m g v is
HeadInOrder a m g v (NeqGround x y ∷ is) = ((x < g) × (y < g)) × HeadInOrder a m g v is
HeadInOrder a m g v (GetInt x y ∷ is) = (IsNext x v × (y < g)) × HeadInOrder a m g (v + 1) is
HeadInOrder a m g v (Const x z ∷ is) = IsNext x v × HeadInOrder a m g (v + 1) is
HeadInOrder a m g v (Add x y z ∷ is) = (IsNext x v × (y < v) × (z < v)) × HeadInOrder a m g (v + 1) is
HeadInOrder a m g v (Sub x y z ∷ is) = (IsNext x v × (y < v) × (z < v)) × HeadInOrder a m g (v + 1) is
HeadInOrder a m g v (Mul x y z ∷ is) = (IsNext x v × (y < v) × (z < v)) × HeadInOrder a m g (v + 1) is
HeadInOrder a m g v (Div x y z ∷ is) = (IsNext x v × (y < v) × (z < v)) × HeadInOrder a m g (v + 1) is
HeadInOrder a m g v (Mod x y z ∷ is) = (IsNext x v × (y < v) × (z < v)) × HeadInOrder a m g (v + 1) is
HeadInOrder a m g v (i ∷ is) = TestsSetRegisters a m v i × HeadInOrder a m g v is

-- neither FINDATOM nor ANYMEM
abbrev pub ChoosesNone : Instr → Type 0
ChoosesNone (FindAtom x y f) = ⊥
ChoosesNone (AnyMem x y) = ⊥
ChoosesNone _ = Unit {0}

-- Where an instruction speaks of all atom registers of a head, or of all of its membrane registers, they are the first a and
-- the first m, which are set.
abbrev pub AllSet : HeadSize → ℕ → ℕ → Instr → Type 0
AllSet c a m (IsInt x p y) = c.atoms ≡ a
AllSet c a m (IsUnary x p y) = c.atoms ≡ a
AllSet c a m (IsGround x p y) = c.atoms ≡ a
AllSet c a m (IsClosed x gs) = (c.atoms ≡ a) × (c.membranes ≡ m)
AllSet c a m _ = Unit {0}

-- an integer goes into the next register, if there is one
abbrev pub HasGiven : {A M : Type 0} → SetRegisters A M → SetRegisters A M → Bool → Option ℤ → Type 0
HasGiven g k result None = (result ≡ false) × (k ≡ g)
HasGiven g k result (Some z) = (result ≡ true) × (k ≡ record g { integers = g.integers ++ z ∷ [] })

-- likewise the root of a part
abbrev pub HasGivenPart : {A M : Type 0} → SetRegisters A M → SetRegisters A M → Bool → Option (A × ℕ) → Type 0
HasGivenPart g k result None = (result ≡ false) × (k ≡ g)
HasGivenPart g k result (Some p) = (result ≡ true) × (k ≡ record g { parts = g.parts ++ p ∷ [] })

-- the roots of parts are ports
abbrev pub AreRootPorts : {A : Type 0} → (A → ℕ) → Heap → List (A × ℕ) → Type 0
AreRootPorts {A} atom h parts = (k : ℕ) (p : A × ℕ) → slice_get parts k ≡ Some p → IsAtom h (atom p.0) × (p.1 < arity_of h (atom p.0))

-- An atom of arity 1 that stands in a membrane and is in none of the registers: alone it is a part.
pub record IsLone {A : Type 0} (atom : A → ℕ) (h : Heap) (handles : List A) (m n : ℕ) : Type 0 where
  pub unary : IsUnaryPart h (n, 0)
  pub home : home_of h n ≡ Some m
  pub apart : AreApart atom handles n

-- The part entered at a port stands whole in a membrane, and no atom of it is in the registers.
pub record IsWholeApart {A : Type 0} (atom : A → ℕ) (h : Heap) (handles : List A) (m : ℕ) (root : ℕ × ℕ) : Type 0 where
  pub whole : StandsWhole (atom_map h) root m
  pub apart : (b : ℕ) → Reached (atom_map h) root b → AreApart atom handles b

-- What one instruction without a choice does: it is true exactly where the instruction holds of registers that agree, and
-- then they agree with those that it has set.
pub record Stepped {A M : Type 0} (atom : A → ℕ) (membrane : M → ℕ) (h : Heap) (g k : SetRegisters A M) (result : Bool) (i : Instr) : Type 0 where
  pub held : AreHeldWhole atom membrane h k
  pub extends : Extends g k
  pub holds : result ≡ true → (c : HeadSize) (s : HeadRegisters) → AllSet c (length g.atoms) (length g.membranes) i → Agrees atom membrane k s → InstructionHolds h c s i
  pub only : (c : HeadSize) (s : HeadRegisters) → AllSet c (length g.atoms) (length g.membranes) i → Agrees atom membrane g s → InstructionHolds h c s i → (result ≡ true) × Agrees atom membrane k s
  pub sets : result ≡ true → SetsMore g k (i ∷ [])
  pub order : result ≡ true → (is : List Instr) → HeadInOrder (length g.atoms) (length g.membranes) (length g.parts) (length g.integers) (i ∷ is) →
      HeadInOrder (length k.atoms) (length k.membranes) (length k.parts) (length k.integers) is
