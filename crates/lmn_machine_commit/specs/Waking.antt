-- Membranes that wake, and those round them.
use Rattle.std.specs.Prelude.{ℕ, ◌≡◌, ◌<◌, ◌-◌, ◌^◌, ◌⊎◌, List, [], ◌∷◌, Some, None}
use Rattle.lmn_base.specs.Graphs.{Port}
use Rattle.lmn_store_heap.specs.Heap.{Heap, IsMem, discarded, home_of, link_of, parent_of, mem_mark_of}
use Rattle.lmn_store_heap.specs.Conditions.{Above}
use Rattle.lmn_store_trait.specs.Awake.{awake_mark}
use Rattle.lmn_instr_code.specs.declared.instr.Instr.{Instr}
use Rattle.lmn_instr_code.specs.declared.instr.Instr.TheVariants.{RemoveAtom, RemoveMem}
use Rattle.lmn_solid_bodies.specs.Running.{Registers, Prepares, DoesAll}
use Rattle.lmn_solid_bodies.specs.Stopping.{SameButSpares}
use Rattle.lmn_schedule_sleep.specs.Quiet.{SameButMarks}

-- the way up from a membrane ends
pub record HasTop (h : Heap) (m : ℕ) : Type 0 where
  pub depth : ℕ
  pub few : depth < 2 ^ 64 - 1
  pub top : ℕ
  pub above : Above h depth top m
  pub last : parent_of h top ≡ None

abbrev pub AllDeep : Heap → Type 0
AllDeep h = (m : ℕ) → IsMem h m → HasTop h m

-- From h to k the membranes of a kind wake, and those round them. All else is as it was.
pub record WakesAbove (P : ℕ → Type 0) (h k : Heap) : Type 0 where
  pub alike : SameButMarks h k
  pub woken : (x y j : ℕ) → P y → Above h j x y → mem_mark_of k x ≡ awake_mark
  pub others : (x : ℕ) → (mem_mark_of k x ≡ mem_mark_of h x) ⊎ ((mem_mark_of k x ≡ awake_mark) × ((y : ℕ) × (j : ℕ) × P y × Above h j x y))

-- a membrane is awake, and those round it are
abbrev pub IsAwakeRound : Heap → ℕ → Type 0
IsAwakeRound h m = (x j : ℕ) → Above h j x m → mem_mark_of h x ≡ awake_mark

-- the membrane is this one
abbrev pub Is : ℕ → ℕ → Type 0
Is m y = y ≡ m

-- the home of an atom
abbrev pub IsHome : Heap → ℕ → ℕ → Type 0
IsHome h a y = home_of h a ≡ Some y

-- the home of the atom that is joined to a port
abbrev pub IsPartnerHome : Heap → ℕ → ℕ → ℕ → Type 0
IsPartnerHome h a i y = (c : Port) × (link_of h a i ≡ Some c) × IsHome h c.0 y

-- the home of an atom, or of one that is joined to one of its first n ports
abbrev pub IsHomeBeside : Heap → ℕ → ℕ → ℕ → Type 0
IsHomeBeside h a n y = IsHome h a y ⊎ ((i : ℕ) × (i < n) × IsPartnerHome h a i y)

-- what wakes where an instruction takes something away
abbrev pub Rouses : Heap → Registers → Instr → ℕ → Type 0
Rouses h r (RemoveAtom a) y = IsHome h (r.head.images.atom a) y ⊎ ((i : ℕ) × IsPartnerHome h (r.head.images.atom a) i y)
Rouses h r (RemoveMem m) y = y ≡ r.head.images.membrane m
Rouses h r _ y = ⊥

-- and where the instructions of code do
abbrev pub SomeRouses : Heap → Registers → List Instr → ℕ → Type 0
SomeRouses h r [] y = ⊥
SomeRouses h r (i ∷ is) y = Rouses h r i y ⊎ SomeRouses h r is y

-- the membrane of the rule, or what its code rouses
abbrev pub IsRoused : Heap → Registers → List Instr → ℕ → Type 0
IsRoused h r code y = (y ≡ r.head.images.membrane 0) ⊎ SomeRouses h r code y

-- Code is committed from the prepared heap s to t. Each membrane of t stood in s. It is awake if the code rouses it or one in it, at
-- any depth, and keeps its mark else.
pub record WakesRoused (s : Heap) (r : Registers) (code : List Instr) (t : Heap) : Type 0 where
  pub stood : (x : ℕ) → IsMem t x → IsMem s x
  pub woken : (x y j : ℕ) → IsRoused s r code y → Above s j x y → mem_mark_of t x ≡ awake_mark
  pub others : (x : ℕ) → IsMem t x → (mem_mark_of t x ≡ mem_mark_of s x) ⊎ ((mem_mark_of t x ≡ awake_mark) × ((y : ℕ) × (j : ℕ) × IsRoused s r code y × Above s j x y))

-- Code is run from h to z with these registers: what it makes is made, which leaves the heap `prepared`, and then it does the rest,
-- which leaves the heap `after`. z is that but for marks of membranes: what the code rouses is awake.
pub record Commits (h : Heap) (r : Registers) (code : List Instr) (z : Heap) : Type 0 where
  pub prepared : Heap
  pub prepares : Prepares r code h prepared
  pub makes : SameButSpares h (discarded prepared)
  pub after : Heap
  pub does : DoesAll r code prepared after
  pub alike : SameButMarks after z
  pub wakes : WakesRoused prepared r code z
