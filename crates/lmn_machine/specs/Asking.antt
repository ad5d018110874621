-- What the code ahead asks of a candidate. Contracts of private functions alone cite it.
use Rattle.std.specs.Prelude.{ℕ, ◌≡◌, ◌≢◌, ◌≤◌, ◌+◌, ◌⊎◌, List, Option, Some, None, IfSome, length, slice_get}
use Rattle.std.specs.Option.{option_map}
use Rattle.lmn_base.specs.declared.functor.Functor.{Functor}
use Rattle.lmn_base.specs.Lists.{In}
use Rattle.lmn_store_heap.specs.Lists.{from}
use Rattle.lmn_store_heap.specs.Heap.{Heap, functor_of, home_of, atoms_in}
use Rattle.lmn_store_heap.specs.Functors.{with_functor}
use Rattle.lmn_instr_code.specs.declared.instr.Instr.{Instr}
use Rattle.lmn_instr_code.specs.declared.instr.Instr.TheVariants.{FindAtom, NeqAtom}
use Rattle.lmn_instr_code.specs.Running.{HeadRegisters, HeadSize, AllHold}
use Rattle.lmn_machine_registers.specs.declared.registers.SetRegisters.{SetRegisters}
use Rattle.lmn_machine_registers.specs.Agreeing.{Agrees}

-- a membrane holds an atom with the functor that is asked, if one is
abbrev pub HoldsAsked : Heap → Option Functor → ℕ → Type 0
HoldsAsked h None m = Unit {0}
HoldsAsked h (Some f) m = (a : ℕ) × (In a (atoms_in h m)) × (functor_of h a ≡ Some f)

-- code asks, at a place or behind it, for an atom with a functor in the membrane of a register
abbrev pub AsksFor : List Instr → ℕ → ℕ → Functor → Type 0
AsksFor code at register f = (k x : ℕ) × (at ≤ k) × (slice_get code k ≡ Some (FindAtom x register f))

-- code tells, at a place, the next atom register apart from one that is set and holds this atom
abbrev pub TellsApart : {A M : Type 0} → SetRegisters A M → List Instr → ℕ → A → Type 0
TellsApart g code at b = (y : ℕ) × (slice_get code at ≡ Some (NeqAtom (length g.atoms) y)) × (slice_get g.atoms y ≡ Some b)

-- Code needn't be run up to a place, which is the first or the next one: there it only tells two atoms apart that differ.
abbrev pub HoldsUpTo : {A : Type 0} → (A → ℕ) → List A → List Instr → ℕ → ℕ → Type 0
HoldsUpTo {A} atom atoms code at start = (start ≡ at) ⊎ ((start ≡ at + 1) × ((x y : ℕ) × ((a b : A) × (slice_get code at ≡ Some (NeqAtom x y)) × (slice_get atoms x ≡ Some a) × (slice_get atoms y ≡ Some b) × (atom a ≢ atom b))))

-- An atom stands in the membrane of a register, whenever the code from a place on succeeds with registers that agree with
-- those that are set.
abbrev pub IsGuest : {A M : Type 0} → (A → ℕ) → (M → ℕ) → Heap → SetRegisters A M → List Instr → ℕ → ℕ → Type 0
IsGuest atom membrane h g code register a = (c : HeadSize) (s : HeadRegisters) → Agrees atom membrane g s → AllHold h c s code → In a (atoms_in h (s.images.membrane register))

-- Whenever the code ahead succeeds with one of the atoms from a candidate on, it is one of those from another on.
abbrev pub AtomsFit : {A M : Type 0} → (A → ℕ) → (M → ℕ) → Heap → SetRegisters A M → List Instr → Functor → ℕ → Option A → Option A → Type 0
AtomsFit atom membrane h g code f m start r = (c : HeadSize) (s : HeadRegisters) → Agrees atom membrane g s → AllHold h c s code →
    In (s.images.atom (length g.atoms)) (from (option_map atom start) (with_functor h f (atoms_in h m))) → In (s.images.atom (length g.atoms)) (from (option_map atom r) (with_functor h f (atoms_in h m)))

-- Of the atoms of a membrane with a functor one is the candidate for the next register in place of an earlier one, or none is: those that
-- are passed can't succeed.
pub record IsFitting {A M : Type 0} (atom : A → ℕ) (membrane : M → ℕ) (h : Heap) (g : SetRegisters A M) (code : List Instr) (f : Functor) (m : ℕ) (start r : Option A) : Type 0 where
  pub functor : IfSome r (λ a. functor_of h (atom a) ≡ Some f)
  pub home : IfSome r (λ a. home_of h (atom a) ≡ Some m)
  pub further : length (from (option_map atom r) (with_functor h f (atoms_in h m))) ≤ length (from (option_map atom start) (with_functor h f (atoms_in h m)))
  pub left : AtomsFit atom membrane h g code f m start r
