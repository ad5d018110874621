-- Codes of which nothing new succeeds where nothing was touched.
use Rattle.std.specs.Prelude.{ℕ, ◌≡◌, ◌≤◌, Bool, IsFalse, List, Some, length, slice_get}
use Rattle.lmn_store_heap.specs.Heap.{Heap, IsMemInPlace, mem_mark_of, rules_in}
use Rattle.lmn_store_heap.specs.Sound.{Valid}
use Rattle.lmn_store_trait.specs.Awake.{awake_mark, asleep_mark}
use Rattle.lmn_instr_code.specs.declared.instr.Code.{Code}
use Rattle.lmn_instr_code.specs.Running.{HeadRegisters, IsFirstSuccess, Succeeds}
use Rattle.lmn_solid_bodies.specs.Running.{Registers}
use Rattle.lmn_machine_commit.specs.Waking.{Commits}
use Rattle.lmn_schedule_sleep.specs.Quiet.{IsQuiet, Wakes}
use Rattle.lmn_schedule_strategy.specs.Choosing.{CanTurn, NoneOf}
use Rattle.lmn_schedule_strategy.specs.Turns.{HoldsRestsOf, IsTableCode}

-- A membrane may sleep in which this code has failed, until it is touched, be the code that of a rule or not.
--   stays    where it fails in h, at a membrane that is quiet from h to t, it fails in t
--   wakes    where its head first succeeds in a membrane of a valid heap, its commit wakes what it touches
pub record IsQuietCode (code : Code) : Type 0 where
  pub stays : (h t : Heap) → Valid h → Valid t → (m : ℕ) → IsQuiet h t m → ((s : HeadRegisters) → Succeeds h code.head m s → ⊥) → (s : HeadRegisters) → Succeeds t code.head m s → ⊥
  pub wakes : (h : Heap) (m : ℕ) (r : Registers) → Valid h → IsMemInPlace h m → IsFirstSuccess h code.head m r.head → HoldsRestsOf h code.head r → (t : Heap) → Commits h r code.body t → Wakes h t m

-- so is each of these codes
abbrev pub AreQuiet : List Code → Type 0
AreQuiet codes = (n : ℕ) (code : Code) → slice_get codes n ≡ Some code → IsQuietCode code

-- So it is with the code of a table of accepted rules.
abbrev pub TablesAreQuiet : Type 0
TablesAreQuiet = (codes : List Code) → IsTableCode codes → AreQuiet codes

-- Each membrane is awake or asleep. No rule of one that is asleep has a code that succeeds.
pub record SleepsRightly (h : Heap) (codes : List Code) : Type 0 where
  pub low : (m : ℕ) → mem_mark_of h m ≤ asleep_mark
  pub none : (m : ℕ) → mem_mark_of h m ≡ asleep_mark → NoneOf h codes m (rules_in h m)

-- each membrane is awake
abbrev pub AllAwake : Heap → Type 0
AllAwake h = (m : ℕ) → mem_mark_of h m ≡ awake_mark

-- Membranes can be asked in a turn, and those that sleep would be asked in vain.
pub record CanAsk (h : Heap) (codes : List Code) : Type 0 where
  pub turn : CanTurn h (length codes)
  pub sleeps : SleepsRightly h codes

-- What holds again after a turn from h to k, in which membranes may fall asleep or not.
pub record TurnsAgain (sleep : Bool) (h k : Heap) (codes : List Code) : Type 0 where
  pub turn : CanTurn k (length codes)
  -- codes that are quiet leave asleep what would be asked in vain
  pub sleeps : AreQuiet codes → SleepsRightly k codes
  pub awake : IsFalse sleep → AllAwake h → AllAwake k

-- So it is again after a commit of a rule of the membrane x.
abbrev pub CommitsSleepRightly : Type 0
CommitsSleepRightly = (codes : List Code) → AreQuiet codes → (h t : Heap) → Valid h → Valid t → (x : ℕ) → Wakes h t x → SleepsRightly h codes → SleepsRightly t codes
