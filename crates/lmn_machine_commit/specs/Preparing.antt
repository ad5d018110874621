-- What it means that the code of a body is prepared.
use Rattle.std.specs.Prelude.{ℕ, ◌≡◌, ◌<◌, ◌≤◌, ◌+◌, ◌⊎◌, ◌==◌, if◌then◌else◌, List, [], ◌∷◌, ◌++◌, Option, None, Some, IsSome, length, slice_get}
use Rattle.lmn_base.specs.declared.functor.Functor.{Functor}
use Rattle.lmn_base.specs.Graphs.{Reached}
use Rattle.lmn_store_heap.specs.Graphs.{atom_map}
use Rattle.lmn_store_heap.specs.Heap.{Heap, IsAtom, IsMem, arity_of, home_of, made_atom, made_mem, reserved, discarded, rules_in, spare_of, port_id, Unmarked}
use Rattle.lmn_store_heap.specs.Conditions.{Alone}
use Rattle.lmn_ground.specs.Spread.{IsWhole}
use Rattle.lmn_ground_parts.specs.Copies.{Copied, LeadsOut}
use Rattle.lmn_ground_parts.specs.Rests.{NoneLeaves, RestCopied}
use Rattle.lmn_instr_code.specs.declared.instr.NewPort.{NewPort}
use Rattle.lmn_instr_code.specs.declared.instr.NewPort.TheVariants as new
use Rattle.lmn_instr_code.specs.declared.instr.Instr.{Instr}
use Rattle.lmn_instr_code.specs.declared.instr.Instr.TheVariants.{RemoveAtom, RemovePart, RemoveMem, NewAtom, NewInt, NewMem, CopyGround, MoveCells, CopyCells, LoadRule, CopyRules, DropCells, NewLink, Relink, Unify, Proceed}
use Rattle.lmn_solid_bodies.specs.Running.{Registers, Makes, Prepares}
use Rattle.lmn_solid_bodies.specs.Stopping.{SameButSpares}
use Rattle.lmn_machine_registers.specs.declared.registers.PartCopy.{PartCopy}
use Rattle.lmn_machine_registers.specs.declared.registers.SetRegisters.{SetRegisters}
use Rattle.lmn_machine_registers.specs.declared.stack.TheConstants.{ROOM}
use Rattle.lmn_machine_commit.specs.Registers.{AgreesWithCopies, AreHeld, AreSized, Grows, HasCopies, HasRests, IsRestBeside}

-- the register of a made port is set: a of atoms are, c of copies
abbrev pub UsesPort : ℕ → ℕ → NewPort → Type 0
UsesPort a c (new.Atom p) = p.atom < a
UsesPort a c (new.Copy x) = x < c

-- The registers of an instruction of a body are among the first a of atoms, m of membranes, g of typed contexts and c of
-- copies.
abbrev pub Uses : ℕ → ℕ → ℕ → ℕ → Instr → Type 0
Uses a m g c (RemoveAtom x) = x < a
Uses a m g c (RemovePart x) = x < g
Uses a m g c (RemoveMem x) = x < m
Uses a m g c (NewAtom x y f) = (x < a) × (y < m)
Uses a m g c (NewInt x y z) = (x < a) × (y < m)
Uses a m g c (NewMem x y) = (x < m) × (y < m)
Uses a m g c (CopyGround x y z) = (x < c) × (y < m) × (z < g)
Uses a m g c (MoveCells x y) = (x < m) × (y < m)
Uses a m g c (CopyCells x y) = (x < m) × (y < m)
Uses a m g c (LoadRule x k) = x < m
Uses a m g c (CopyRules x y) = (x < m) × (y < m)
Uses a m g c (DropCells x) = x < m
Uses a m g c (NewLink p q) = UsesPort a c p × UsesPort a c q
Uses a m g c (Relink p h) = UsesPort a c p × (h.atom < a)
Uses a m g c (Unify p h) = (p.atom < a) × (h.atom < a)
Uses a m g c Proceed = Unit {0}
Uses a m g c _ = ⊥

abbrev pub AllUse : ℕ → ℕ → ℕ → ℕ → List Instr → Type 0
AllUse a m g c [] = Unit {0}
AllUse a m g c (i ∷ is) = Uses a m g c i × AllUse a m g c is

-- x is the number of the next register, and there is room for it
abbrev pub IsNext : ℕ → ℕ → Type 0
IsNext x v = (x ≡ v) × (v < ROOM)

-- An instruction sets the next register or none, and reads only those that are set: a of atoms, m of membranes, g of
-- typed contexts, v of integers, c of copies.
abbrev pub UsesInOrder : ℕ → ℕ → ℕ → ℕ → ℕ → Instr → Type 0
UsesInOrder a m g v c (NewAtom x y f) = IsNext x a × (y < m)
UsesInOrder a m g v c (NewInt x y z) = IsNext x a × (y < m) × (z < v)
UsesInOrder a m g v c (NewMem x y) = IsNext x m × (y < m)
UsesInOrder a m g v c (CopyGround x y z) = IsNext x c × (y < m) × (z < g)
UsesInOrder a m g v c i = Uses a m g c i

-- how many atoms an instruction makes by themselves
abbrev pub atoms_made : Instr → ℕ
atoms_made (NewAtom x y f) = 1
atoms_made (NewInt x y z) = 1
atoms_made _ = 0

-- how many membranes
abbrev pub membranes_made : Instr → ℕ
membranes_made (NewMem x y) = 1
membranes_made _ = 0

-- how many copies
abbrev pub copies_made : Instr → ℕ
copies_made (CopyGround x y z) = 1
copies_made _ = 0

-- Body code that sets registers in the order of their numbers, reads none that isn't set, and has no more than there is
-- room for. So far a of atoms, m of membranes, g of typed contexts, v of integers and c of copies are set.
abbrev pub BodyInOrder : ℕ → ℕ → ℕ → ℕ → ℕ → List Instr → Type 0
BodyInOrder a m g v c [] = Unit {0}
BodyInOrder a m g v c (i ∷ is) = UsesInOrder a m g v c i × BodyInOrder (a + atoms_made i) (m + membranes_made i) g v (c + copies_made i) is

-- how many rules an instruction adds to the membrane x, where `rules` are those of each membrane
abbrev pub needed_by : Registers → (ℕ → List ℕ) → Instr → ℕ → ℕ
needed_by r rules (LoadRule m k) x = if r.head.images.membrane m == x then 1 else 0
needed_by r rules (CopyRules m n) x = if r.head.images.membrane n == x then length (rules (r.head.images.membrane m)) else 0
needed_by r rules _ x = 0

abbrev pub needed : Registers → (ℕ → List ℕ) → List Instr → ℕ → ℕ
needed r rules [] x = 0
needed r rules (i ∷ is) x = needed_by r rules i x + needed r rules is x

-- ---- cited by contracts of private functions alone

-- the register of the membrane to which an instruction adds rules, if it adds some
abbrev pub AddsSo : Instr → Option ℕ → Type 0
AddsSo (LoadRule m k) o = o ≡ Some m
AddsSo (CopyRules m n) o = o ≡ Some n
AddsSo _ o = o ≡ None

-- Code adds so many rules to the membrane in a register, if one is set.
abbrev pub IsCounted : {A M : Type 0} → (A → ℕ) → (M → ℕ) → Heap → SetRegisters A M → List Instr → (register count : ℕ) → Type 0
IsCounted {A} {M} atom membrane s g code register count =
    (r : Registers) (m : M) → AgreesWithCopies atom membrane g r → slice_get g.membranes register ≡ Some m → count ≡ needed r (rules_in s) code (membrane m)

-- An instruction makes no membrane and adds no rules: what is counted before it is counted behind it too.
abbrev pub KeepsCount : Instr → Type 0
KeepsCount (NewMem m n) = ⊥
KeepsCount (LoadRule m k) = ⊥
KeepsCount (CopyRules m n) = ⊥
KeepsCount _ = Unit {0}

-- ---- what a match must hold, and what is prepared

-- A part can be copied: it is entered at a port, each of its other ports is joined, and its root leads out of it.
pub record CanBeCopied (s : Heap) (root : ℕ × ℕ) : Type 0 where
  pub atom : IsAtom s root.0
  pub port : root.1 < arity_of s root.0
  pub whole : IsWhole s root None
  pub outside : LeadsOut s root

-- the parts in registers can be copied
abbrev pub CanCopy : {A M : Type 0} → (A → ℕ) → Heap → SetRegisters A M → Type 0
CanCopy {A} atom s g = (k : ℕ) (p : A × ℕ) → slice_get g.parts k ≡ Some p → CanBeCopied s (port_id atom p)

-- the rests that code copies can be copied: each is that of a membrane in registers, and no link leaves it
abbrev pub CanCopyRests : {A M : Type 0} → (A → ℕ) → (M → ℕ) → Heap → SetRegisters A M → List Instr → Type 0
CanCopyRests {A} {M} atom membrane h g code = (at m n : ℕ) → slice_get code at ≡ Some (CopyCells m n) →
    (x : M) × (slice_get g.membranes m ≡ Some x) × ((atoms membranes : List ℕ) → IsRestBeside atom membrane h g (membrane x) atoms membranes → NoneLeaves h atoms)

-- the rest of a membrane besides registers, which no link leaves
abbrev pub HasClosedRest : {A M : Type 0} → (A → ℕ) → (M → ℕ) → Heap → SetRegisters A M → ℕ → Type 0
HasClosedRest atom membrane s g m = (atoms membranes : List ℕ) × IsRestBeside atom membrane s g m atoms membranes × NoneLeaves s atoms

-- The rest that an instruction copies can be copied: it is that of a membrane in registers, and no link leaves it.
abbrev pub CanCopyRest : {A M : Type 0} → (A → ℕ) → (M → ℕ) → Heap → SetRegisters A M → Instr → Type 0
CanCopyRest {A} {M} atom membrane s g i = (m n : ℕ) → i ≡ CopyCells m n → (x : M) × (slice_get g.membranes m ≡ Some x) × HasClosedRest atom membrane s g (membrane x)

-- the registers of a body hold the rest that an instruction copies
abbrev pub HoldsCopied : {A M : Type 0} → (A → ℕ) → (M → ℕ) → Heap → SetRegisters A M → Registers → Instr → Type 0
HoldsCopied {A} {M} atom membrane s g r i = (m n : ℕ) (x : M) → i ≡ CopyCells m n → slice_get g.membranes m ≡ Some x → IsRestBeside atom membrane s g (membrane x) (r.left_atoms m) (r.left_membranes m)

-- each of these parts stands in one membrane
abbrev pub AreAtHome : {A : Type 0} → (A → ℕ) → Heap → List (A × ℕ) → Type 0
AreAtHome {A} atom s parts = (k : ℕ) (p : A × ℕ) → slice_get parts k ≡ Some p → (m : ℕ) × ((a : ℕ) → Reached (atom_map s) (port_id atom p) a → home_of s a ≡ Some m)

-- Code can be prepared with registers: they hold what is there and are set in order, parts in them can be copied and stand in one
-- membrane each, the rests that the code copies can be copied, and no copy is set.
pub record CanPrepare {A M : Type 0} (atom : A → ℕ) (membrane : M → ℕ) (h : Heap) (g : SetRegisters A M) (code : List Instr) : Type 0 where
  pub held : AreHeld atom membrane h g
  pub parts : CanCopy atom h g
  pub homes : AreAtHome atom h g.parts
  pub rests : CanCopyRests atom membrane h g code
  pub copies : g.copies ≡ []
  pub order : BodyInOrder (length g.atoms) (length g.membranes) (length g.parts) (length g.integers) 0 code

-- Of the heap t everything that isn't in the heap s waits, and is joined to none that doesn't; membranes may have other
-- spares. So what is made can be given up.
--   kept      the atoms of s are as they were
--   alone, rest, unmarked    what holds before holds after: what waits is alone; without it the heap is h but for
--                            spares; every mark of an atom is 0
pub record OnlyMakes (s t : Heap) : Type 0 where
  pub kept : (a : ℕ) → IsSome (s.atoms a) → t.atoms a ≡ s.atoms a
  pub alone : Alone s → Alone t
  pub rest : (h : Heap) → SameButSpares h (discarded s) → SameButSpares h (discarded t)
  pub unmarked : Unmarked s → Unmarked t

-- one more atom, whose handle is in the next register
abbrev pub AtomIsMade : {A M : Type 0} → (A → ℕ) → Heap → Heap → SetRegisters A M → SetRegisters A M → Functor → Type 0
AtomIsMade {A} atom s t g k f = (a : A) × (s.atoms (atom a) ≡ None) × (t ≡ made_atom s (atom a) f) × (k ≡ record g { atoms = g.atoms ++ a ∷ [] })

-- one more membrane
abbrev pub MembraneIsMade : {A M : Type 0} → (M → ℕ) → Heap → Heap → SetRegisters A M → SetRegisters A M → Type 0
MembraneIsMade {A} {M} membrane s t g k = (m : M) × (s.mems (membrane m) ≡ None) × (t ≡ made_mem s (membrane m)) × (k ≡ record g { membranes = g.membranes ++ m ∷ [] })

-- one more copy, with the number of its atoms; another part may be listed
abbrev pub CopyIsMade : {A M : Type 0} → (A → ℕ) → Heap → Heap → SetRegisters A M → SetRegisters A M → ℕ × ℕ → Type 0
CopyIsMade {A} atom s t g k root =
    (p : PartCopy A) × (w : Copied s t root (port_id atom p.root)) × (length w.copies ≡ p.atoms) × (k ≡ record g { copies = g.copies ++ p ∷ []; listed = k.listed })

-- A copy more of the rest of a membrane besides registers. Each membrane is there, with its rules, and has as much room as it had.
pub record RestIsMade {A M : Type 0} (atom : A → ℕ) (membrane : M → ℕ) (s t : Heap) (g : SetRegisters A M) (m : ℕ) : Type 0 where
  pub copied : (atoms membranes : List ℕ) → IsRestBeside atom membrane s g m atoms membranes → (copies : List ℕ) × (rooms : List (ℕ × ℕ)) × RestCopied s t atoms membranes copies rooms
  pub there : (n : ℕ) → IsMem s n → IsMem t n
  pub rules : (n : ℕ) → rules_in t n ≡ rules_in s n
  pub room : (n k : ℕ) → k ≤ spare_of s n → k ≤ spare_of t n

-- there is room in the membrane x for all rules that code adds to it
abbrev pub RoomIsMade : {A M : Type 0} → (A → ℕ) → (M → ℕ) → Heap → Heap → SetRegisters A M → List Instr → ℕ → Type 0
RoomIsMade atom membrane s t g code x =
    (t ≡ reserved s x (spare_of t x)) × ((r : Registers) → AgreesWithCopies atom membrane g r → needed r (rules_in s) code x ≤ spare_of t x)

-- What an instruction makes is made, after the code before it. `copied` has the atoms of the copy that it makes. The atoms and
-- the membranes of further registers are new.
pub record IsMade {A M : Type 0} (atom : A → ℕ) (membrane : M → ℕ) (s t : Heap) (g k : SetRegisters A M) (before : List Instr) (i : Instr) : Type 0 where
  pub grows : Grows g k
  pub held : AreHeld atom membrane t k
  pub atoms : length k.atoms ≡ length g.atoms + atoms_made i
  pub membranes : length k.membranes ≡ length g.membranes + membranes_made i
  pub copies : length k.copies ≡ length g.copies + copies_made i
  pub copied : List (List ℕ)
  pub sizes : (earlier : List (List ℕ)) → AreSized g.copies earlier → AreSized k.copies (earlier ++ copied)
  pub makes : (r : Registers) (earlier : List (List ℕ)) → AgreesWithCopies atom membrane k r → AreSized g.copies earlier → HasCopies r (earlier ++ copied) → HoldsCopied atom membrane s g r i → Makes r i s t
  pub new_atoms : (j : ℕ) (a : A) → slice_get k.atoms j ≡ Some a → (slice_get g.atoms j ≡ Some a) ⊎ (s.atoms (atom a) ≡ None)
  pub new_membranes : (j : ℕ) (m : M) → slice_get k.membranes j ≡ Some m → (slice_get g.membranes j ≡ Some m) ⊎ (s.mems (membrane m) ≡ None)
  pub rules : (x : ℕ) → rules_in t x ≡ rules_in s x
  pub spares : (r : Registers) → AgreesWithCopies atom membrane k r → ((x : ℕ) → needed r (rules_in s) before x ≤ spare_of s x) →
      (x : ℕ) → needed r (rules_in s) before x + needed_by r (rules_in s) i x ≤ spare_of t x

-- Code is prepared: all that it makes is made, from the heap h to the heap s, and is in the registers; and each membrane
-- has room for the rules that it gets. `copied` has the atoms of each copy. What is left of a membrane is what is left besides
-- the registers of the head.
pub record Prepared {A M : Type 0} (atom : A → ℕ) (membrane : M → ℕ) (h s : Heap) (g k : SetRegisters A M) (code : List Instr) : Type 0 where
  pub grows : Grows g k
  pub held : AreHeld atom membrane s k
  pub uses : AllUse (length k.atoms) (length k.membranes) (length k.parts) (length k.copies) code
  pub copied : List (List ℕ)
  pub sizes : AreSized k.copies copied
  pub prepares : (r : Registers) → AgreesWithCopies atom membrane k r → HasCopies r copied → HasRests atom membrane h g r → Prepares r code h s
  pub makes : OnlyMakes h s
  pub rules : (x : ℕ) → rules_in s x ≡ rules_in h x
  pub spares : (r : Registers) → AgreesWithCopies atom membrane k r → (x : ℕ) → needed r (rules_in h) code x ≤ spare_of s x
