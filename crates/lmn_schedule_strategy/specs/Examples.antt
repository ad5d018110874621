-- Sleeping, by the mark of one membrane.
use Rattle.std.specs.Prelude.{ℕ, ◌≡◌, Bool, true, false, List, [], ◌∷◌, length}
use Rattle.lmn_store_heap.specs.Heap.{Heap, IsMem, mem_marked}
use Rattle.lmn_store_heap.specs.Sound.{Forest}
use Rattle.lmn_store_trait.specs.Awake.{awake_mark, asleep_mark}
use Rattle.lmn_instr_code.specs.declared.instr.Code.{Code}
use Rattle.lmn_schedule_strategy.specs.Choosing.{AreAskedInVain, AreAskedUpTo, CanTurn, FallAsleep, IsFirstIn}
use Rattle.lmn_schedule_strategy.specs.Counting.{awake_of}
use Rattle.lmn_schedule_strategy.specs.Quieting.{AllAwake, AreQuiet, CanAsk, SleepsRightly, TurnsAgain}
use Rattle.lmn_schedule_strategy.specs.Turns.{IsAwakeTurn}
use Rattle.lmn_schedule_strategy.specs.declared.turning.Turn.TheVariants.{Committed, Irreducible}

-- A membrane with the mark of one that is awake is awake, one with the mark of one that sleeps isn't.
abbrev pub SleepersArePassed : Type 0
SleepersArePassed = (h : Heap) (m : ℕ) → IsMem h m → (awake_of (mem_marked h m awake_mark) (m ∷ []) ≡ m ∷ []) × (awake_of (mem_marked h m asleep_mark) (m ∷ []) ≡ [])

-- One falls asleep where it gets the mark of one that sleeps, and not where it gets 2.
abbrev pub AsleepByMark : Type 0
AsleepByMark = (h : Heap) (m : ℕ) → IsMem h m → FallAsleep h (mem_marked h m asleep_mark) (m ∷ []) × (FallAsleep h (mem_marked h m 2) (m ∷ []) → ⊥)

-- Where all are awake they sleep rightly, and where one has the mark 2 they don't.
abbrev pub MarksAreLow : Type 0
MarksAreLow = (h : Heap) (codes : List Code) → (AllAwake h → SleepsRightly h codes) × ((m : ℕ) → IsMem h m → SleepsRightly (mem_marked h m 2) codes → ⊥)

-- Without codes a turn that may put no membrane to sleep leaves all as it was, and none commits.
abbrev pub NothingIsTurned : Type 0
NothingIsTurned = (h : Heap) (f : Forest) (from size : ℕ) → IsAwakeTurn false h [] f from size Irreducible h × ((k : Heap) → IsAwakeTurn true h [] f from size Committed k → ⊥)

-- Where all are awake in a turn they can be asked, and where one has the mark 2 they can't.
abbrev pub AwakeAreAsked : Type 0
AwakeAreAsked = (h : Heap) (codes : List Code) → CanTurn h (length codes) → (AllAwake h → CanAsk h codes) × ((m : ℕ) → IsMem h m → CanAsk (mem_marked h m 2) codes → ⊥)

-- What can be asked can be asked again where nothing was done, and not where one got the mark 2.
abbrev pub TurnsAgainByMarks : Type 0
TurnsAgainByMarks = (sleep : Bool) (h : Heap) (codes : List Code) → AreQuiet codes → (CanAsk h codes → TurnsAgain sleep h h codes)
    × ((m : ℕ) → IsMem h m → TurnsAgain sleep h (mem_marked h m 2) codes → ⊥)

-- Without codes all are asked in vain, and none gets the mark 2 by it. A membrane that is chosen is asked where nothing else is done, and
-- without codes none is.
abbrev pub AskedByMarks : Type 0
AskedByMarks = (h : Heap) (codes : List Code) (ms : List ℕ) (m place n : ℕ) → AreAskedInVain false h h [] ms
    × (IsMem h m → AreAskedInVain true h (mem_marked h m 2) codes (m ∷ []) → ⊥)
    × (IsFirstIn h codes ms m place n → AreAskedUpTo false h h codes ms m place n) × (AreAskedUpTo false h h [] ms m place n → ⊥)
