-- How many different atoms and membranes code takes from one membrane. Contracts of private functions alone cite it.
use Rattle.std.specs.Prelude.{ℕ, zero, suc, Bool, true, false, ◌≡◌, ◌≤◌, ◌<◌, List, [], ◌∷◌, Some, length, drop, slice_get, if◌then◌else◌}
use Rattle.lmn_base.specs.declared.functor.Functor.{Functor}
use Rattle.lmn_base.specs.Lists.{In}
use Rattle.lmn_store_heap.specs.Heap.{Heap, Distinct, atoms_in, mems_in}
use Rattle.lmn_store_heap.specs.Functors.{with_functor}
use Rattle.lmn_instr_code.specs.declared.instr.Instr.{Instr}
use Rattle.lmn_instr_code.specs.declared.instr.Instr.TheVariants.{FindAtom, NeqAtom, AnyMem, NeqMem}
use Rattle.lmn_instr_code.specs.Running.{HeadRegisters, HeadSize, AllHold}
use Rattle.lmn_machine.specs.Asking.{AsksFor}
use Rattle.lmn_machine.specs.declared.enough.Kind.{Kind}
use Rattle.lmn_machine.specs.declared.enough.Kind.TheVariants.{Atoms, Membranes}
use Rattle.lmn_machine.specs.declared.enough.Want.{Want}

-- an instruction takes an item of this kind for a register: an atom with a functor, or a membrane
abbrev pub Takes : Kind → List Instr → ℕ → ℕ → Functor → ℕ → Type 0
Takes Atoms code k m f x = slice_get code k ≡ Some (FindAtom x m f)
Takes Membranes code k m f x = slice_get code k ≡ Some (AnyMem x m)

-- what is taken is wanted: of a membrane code asks, behind it, for an atom with the functor
abbrev pub IsWanted : Kind → List Instr → ℕ → Functor → ℕ → Type 0
IsWanted Atoms code k f x = Unit {0}
IsWanted Membranes code k f x = AsksFor code k x f

-- an instruction tells two registers of this kind apart
abbrev pub TellsApart : Kind → List Instr → ℕ → ℕ → ℕ → Type 0
TellsApart Atoms code k x y = slice_get code k ≡ Some (NeqAtom x y)
TellsApart Membranes code k x y = slice_get code k ≡ Some (NeqMem x y)

-- what a register of this kind holds
abbrev pub image : Kind → HeadRegisters → ℕ → ℕ
image Atoms s x = s.images.atom x
image Membranes s x = s.images.membrane x

-- behind a place code tells a register apart from each for which it takes an item likewise before this place, from another on
abbrev pub IsApartFrom : List Instr → ℕ → ℕ → Want → ℕ → Type 0
IsApartFrom code at place w x = (k y : ℕ) → at ≤ k → k < place → Takes w.kind code k w.membrane w.functor y → (j : ℕ) × (place ≤ j) × TellsApart w.kind code j x y

-- at a place it takes so many more that are wanted, which it tells apart from these: one or none
abbrev pub TakesMore : List Instr → ℕ → ℕ → Want → ℕ → Type 0
TakesMore code at place w zero = Unit {0}
TakesMore code at place w (suc n) = (n ≡ 0) × ((x : ℕ) × Takes w.kind code place w.membrane w.functor x × IsWanted w.kind code place w.functor x × IsApartFrom code at place w x)

-- Whenever code from a place on succeeds, its instructions from there to another place take so many different ones.
abbrev pub TakesApart : List Instr → ℕ → ℕ → Want → ℕ → Type 0
TakesApart code at place w n = (h : Heap) (c : HeadSize) (s : HeadRegisters) → AllHold h c s (drop at code) →
    (found : List ℕ) × Distinct found × (length found ≡ n)
    × ((a : ℕ) → In a found → (k x : ℕ) × (at ≤ k) × (k < place) × Takes w.kind code k w.membrane w.functor x × IsWanted w.kind code k w.functor x × (a ≡ image w.kind s x))

-- nothing stands in a list
abbrev pub is_empty : List ℕ → Bool
is_empty [] = true
is_empty (x ∷ xs) = false

-- those of these membranes that hold an atom with a functor
abbrev pub holding : Heap → Functor → List ℕ → List ℕ
holding h f [] = []
holding h f (m ∷ ms) = if is_empty (with_functor h f (atoms_in h m)) then holding h f ms else m ∷ holding h f ms

-- what there is of a kind in a membrane
abbrev pub there_are : Heap → Kind → Functor → ℕ → List ℕ
there_are h Atoms f m = with_functor h f (atoms_in h m)
there_are h Membranes f m = holding h f (mems_in h m)
