-- What the search that jumps back knows: on which choices registers rest, and failures that name choices. Contracts of
-- private functions alone cite it.
use Rattle.std.specs.Prelude.{ℕ, ℤ, Bool, ◌≡◌, ◌≤◌, ◌<◌, ◌+◌, List, [], ◌∷◌, ◌++◌, Option, Some, None, Result, Ok, Err, true, slice_get}
use Rattle.std.specs.Int.Bits.{bit_or}
use Rattle.lmn_store_heap.specs.Heap.{Heap, port_id}
use Rattle.lmn_instr_code.specs.declared.instr.AtomPort.{AtomPort}
use Rattle.lmn_instr_code.specs.declared.instr.Instr.{Instr}
use Rattle.lmn_instr_code.specs.declared.instr.Instr.TheVariants.{Deref, Func, InMem, NeqAtom, Joined, NotIn, NeqMem, NMems, NoRules, NAtoms, IsInt, IsUnary, IsGround, EqGround, NeqGround, GetInt, Add, Sub, Mul, Div, Mod, Lt, Le, Gt, Ge, Eq, Ne}
use Rattle.lmn_instr_code.specs.Running.{HeadRegisters, HeadSize, AllHold}
use Rattle.lmn_machine_registers.specs.declared.registers.SetRegisters.{SetRegisters}
use Rattle.lmn_machine.specs.Searching.{AreHeldWhole, Extends, Searched, SetsAll}
use Rattle.lmn_machine.specs.declared.choices.Choices.{Choices}
use Rattle.lmn_machine.specs.declared.choices.Choices.TheVariants.{All, These}
use Rattle.lmn_machine.specs.declared.reasons.Reasons.{Reasons}

-- these choices are among those
abbrev pub Within : Choices → Choices → Type 0
Within d All = Unit {0}
Within All (These e) = ⊥
Within (These d) (These e) = bit_or d e ≡ e

-- those of a register, and all where nothing is said of it
abbrev pub named : Option Choices → Choices
named None = All
named (Some e) = e

abbrev pub on_atom : Reasons → ℕ → Choices
on_atom r k = named (slice_get r.atoms k)

abbrev pub on_membrane : Reasons → ℕ → Choices
on_membrane r k = named (slice_get r.membranes k)

abbrev pub on_part : Reasons → ℕ → Choices
on_part r k = named (slice_get r.parts k)

abbrev pub on_integer : Reasons → ℕ → Choices
on_integer r k = named (slice_get r.integers k)

-- what an instruction sets by registers rests on all on which these rest
abbrev pub RestsWell : Reasons → Instr → Type 0
RestsWell r (Deref x p k) = Within (on_atom r p.atom) (on_atom r x)
RestsWell r (IsInt g p m) = Within (on_atom r p.atom) (on_part r g)
RestsWell r (IsUnary g p m) = Within (on_atom r p.atom) (on_part r g)
RestsWell r (IsGround g p m) = Within (on_atom r p.atom) (on_part r g)
RestsWell r (GetInt v g) = Within (on_part r g) (on_integer r v)
RestsWell r (Add v w x) = Within (on_integer r w) (on_integer r v) × Within (on_integer r x) (on_integer r v)
RestsWell r (Sub v w x) = Within (on_integer r w) (on_integer r v) × Within (on_integer r x) (on_integer r v)
RestsWell r (Mul v w x) = Within (on_integer r w) (on_integer r v) × Within (on_integer r x) (on_integer r v)
RestsWell r (Div v w x) = Within (on_integer r w) (on_integer r v) × Within (on_integer r x) (on_integer r v)
RestsWell r (Mod v w x) = Within (on_integer r w) (on_integer r v) × Within (on_integer r x) (on_integer r v)
RestsWell r _ = Unit {0}

-- likewise each of code
abbrev pub AllRestWell : Reasons → List Instr → Type 0
AllRestWell r code = (k : ℕ) (i : Instr) → slice_get code k ≡ Some i → RestsWell r i

-- What an instruction reads rests on these choices; of one that reads more registers than it names they are all.
abbrev pub ReadsWithin : Reasons → Choices → Instr → Type 0
ReadsWithin r e (Deref x p k) = Within (on_atom r p.atom) e
ReadsWithin r e (Func x f) = Within (on_atom r x) e
ReadsWithin r e (InMem x y) = Within (on_atom r x) e × Within (on_membrane r y) e
ReadsWithin r e (NeqAtom x y) = Within (on_atom r x) e × Within (on_atom r y) e
ReadsWithin r e (Joined p q) = Within (on_atom r p.atom) e × Within (on_atom r q.atom) e
ReadsWithin r e (NotIn p y) = Within (on_atom r p.atom) e × Within (on_membrane r y) e
ReadsWithin r e (NeqMem x y) = Within (on_membrane r x) e × Within (on_membrane r y) e
ReadsWithin r e (NMems x n) = Within (on_membrane r x) e
ReadsWithin r e (NoRules x) = Within (on_membrane r x) e
ReadsWithin r e (NAtoms x n []) = Within (on_membrane r x) e
ReadsWithin r e (EqGround x y) = Within (on_part r x) e × Within (on_part r y) e
ReadsWithin r e (NeqGround x y) = Within (on_part r x) e × Within (on_part r y) e
ReadsWithin r e (GetInt v x) = Within (on_part r x) e
ReadsWithin r e (Add v x y) = Within (on_integer r x) e × Within (on_integer r y) e
ReadsWithin r e (Sub v x y) = Within (on_integer r x) e × Within (on_integer r y) e
ReadsWithin r e (Mul v x y) = Within (on_integer r x) e × Within (on_integer r y) e
ReadsWithin r e (Div v x y) = Within (on_integer r x) e × Within (on_integer r y) e
ReadsWithin r e (Mod v x y) = Within (on_integer r x) e × Within (on_integer r y) e
ReadsWithin r e (Lt x y) = Within (on_integer r x) e × Within (on_integer r y) e
ReadsWithin r e (Le x y) = Within (on_integer r x) e × Within (on_integer r y) e
ReadsWithin r e (Gt x y) = Within (on_integer r x) e × Within (on_integer r y) e
ReadsWithin r e (Ge x y) = Within (on_integer r x) e × Within (on_integer r y) e
ReadsWithin r e (Eq x y) = Within (on_integer r x) e × Within (on_integer r y) e
ReadsWithin r e (Ne x y) = Within (on_integer r x) e × Within (on_integer r y) e
ReadsWithin r e _ = e ≡ All

-- one atom more is set
abbrev pub with_atom : {A M : Type 0} → SetRegisters A M → A → SetRegisters A M
with_atom g a = record g { atoms = g.atoms ++ a ∷ [] }

-- and one membrane
abbrev pub with_membrane : {A M : Type 0} → SetRegisters A M → M → SetRegisters A M
with_membrane g m = record g { membranes = g.membranes ++ m ∷ [] }

-- one membrane register
abbrev pub only_membrane : {A M : Type 0} → M → SetRegisters A M
only_membrane m = record { atoms = []; membranes = m ∷ []; parts = []; integers = []; copies = []; listed = record { port = 0; atoms = [] } }

-- Registers that have the values of those that are set and rest on these choices alone.
pub record AgreesOn {A M : Type 0} (atom : A → ℕ) (membrane : M → ℕ) (r : Reasons) (e : Choices) (g : SetRegisters A M) (s : HeadRegisters) : Type 0 where
  pub atoms : (k : ℕ) (a : A) → slice_get g.atoms k ≡ Some a → Within (on_atom r k) e → s.images.atom k ≡ atom a
  pub membranes : (k : ℕ) (m : M) → slice_get g.membranes k ≡ Some m → Within (on_membrane r k) e → s.images.membrane k ≡ membrane m
  pub parts : (k : ℕ) (p : A × ℕ) → slice_get g.parts k ≡ Some p → Within (on_part r k) e → s.images.part k ≡ port_id atom p
  pub integers : (k : ℕ) (z : ℤ) → slice_get g.integers k ≡ Some z → Within (on_integer r k) e → s.integer k ≡ z

-- Code fails, and names choices: it succeeds with no registers that agree, where they rest on these choices alone, with those
-- that are set.
abbrev pub Refuted : {A M : Type 0} → (A → ℕ) → (M → ℕ) → Heap → Reasons → Choices → SetRegisters A M → List Instr → Type 0
Refuted atom membrane h r e g code = (c : HeadSize) (s : HeadRegisters) → SetsAll c g code → AgreesOn atom membrane r e g s → AllHold h c s code → ⊥

-- What the search that jumps back answers, that began with the registers g and ends with k.
abbrev pub Ended : {A M : Type 0} → (A → ℕ) → (M → ℕ) → Heap → Reasons → SetRegisters A M → SetRegisters A M → Result (Unit {0}) Choices → List Instr → Type 0
Ended atom membrane h r g k (Ok u) code = Searched atom membrane h g k true code
Ended atom membrane h r g k (Err e) code = AreHeldWhole atom membrane h k × Extends g k × Refuted atom membrane h r e g code

-- What became of a candidate of a choice, with which the registers are `more`: where it failed, they are as they were.
abbrev pub Tried : {A M : Type 0} → (A → ℕ) → (M → ℕ) → Heap → Reasons → SetRegisters A M → SetRegisters A M → SetRegisters A M → Result (Unit {0}) Choices → List Instr → Type 0
Tried atom membrane h r g more k (Ok u) code = Searched atom membrane h more k true code
Tried atom membrane h r g more k (Err e) code = (k ≡ g) × Refuted atom membrane h r e more code

-- Code goes from a port to an atom, at a place or behind it, and asks whether this stands in the membrane of a register.
abbrev pub HangsBy : List Instr → ℕ → ℕ → AtomPort → Type 0
HangsBy code at register p = (k x i : ℕ) × (at ≤ k) × (slice_get code k ≡ Some (Deref x p i)) × (slice_get code (k + 2) ≡ Some (InMem x register))

-- What the search with patience answers: where some is left, or a success was found, what `Searched` says.
pub record Lasted {A M : Type 0} (left : ℕ) (atom : A → ℕ) (membrane : M → ℕ) (h : Heap) (g k : SetRegisters A M) (result : Bool) (code : List Instr) : Type 0 where
  pub held : AreHeldWhole atom membrane h k
  pub extends : Extends g k
  pub found : result ≡ true → Searched atom membrane h g k result code
  pub searched : 0 < left → Searched atom membrane h g k result code
