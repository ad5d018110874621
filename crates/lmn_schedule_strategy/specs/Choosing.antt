-- Which rule the strategy chooses on a heap, by the code of the rules.
use Rattle.std.specs.Prelude.{ℕ, ◌≡◌, ◌<◌, Bool, true, false, List, ◌∷◌, ◌++◌, [], Some, slice_get, take, drop}
use Rattle.lmn_store_heap.specs.Heap.{Heap, rules_in, mem_mark_of, mem_marked, Unmarked}
use Rattle.lmn_schedule_sleep.specs.Quiet.{SameButMarks}
use Rattle.lmn_store_heap.specs.Sound.{Forest, Valid, flat}
use Rattle.lmn_store_trait.specs.Awake.{asleep_mark}
use Rattle.lmn_instr_code.specs.declared.instr.Code.{Code}
use Rattle.lmn_instr_code.specs.Running.{HeadRegisters, Succeeds, IsFirstSuccess}
use Rattle.lmn_machine_registers.specs.declared.registers.SetRegisters.{SetRegisters}
use Rattle.lmn_machine_registers.specs.Agreeing.{Agrees}
use Rattle.lmn_machine.specs.Searching.{AreAllSet, AreHeldWhole, HeadInOrder}
use Rattle.lmn_base.specs.Lists.{In}

-- What a turn asks of a heap, for a table of so many rules.
pub record CanTurn (h : Heap) (rules : ℕ) : Type 0 where
  pub valid : Valid h
  pub unmarked : Unmarked h
  pub of_table : (m n : ℕ) → In n (rules_in h m) → n < rules

-- the machine can run the head of each code
abbrev pub AllInOrder : List Code → Type 0
AllInOrder codes = (n : ℕ) (code : Code) → slice_get codes n ≡ Some code → HeadInOrder 0 1 0 0 code.head

-- The code of the head of rule n succeeds in membrane m.
pub record CodeSucceeds (h : Heap) (codes : List Code) (m n : ℕ) : Type 0 where
  pub code : Code
  pub is : slice_get codes n ≡ Some code
  pub registers : HeadRegisters
  pub succeeds : Succeeds h code.head m registers

-- none of these rules succeeds in membrane m,
abbrev pub NoneOf : Heap → List Code → ℕ → List ℕ → Type 0
NoneOf h codes m rules = (n : ℕ) → In n rules → CodeSucceeds h codes m n → ⊥

-- and no rule of these membranes does.
abbrev pub NoneIn : Heap → List Code → List ℕ → Type 0
NoneIn h codes ms = (m : ℕ) → In m ms → NoneOf h codes m (rules_in h m)

-- Of the rules of membrane m, the one at a place in their list is the first that succeeds. It has the number n.
pub record IsFirstRule (h : Heap) (codes : List Code) (m place n : ℕ) : Type 0 where
  pub stands : slice_get (rules_in h m) place ≡ Some n
  pub succeeds : CodeSucceeds h codes m n
  pub earlier : NoneOf h codes m (take place (rules_in h m))

-- Where membranes are asked in this order, m is the first of which a rule succeeds, and this is its first.
pub record IsFirstIn (h : Heap) (codes : List Code) (ms : List ℕ) (m place n : ℕ) : Type 0 where
  pub earlier : List ℕ
  pub later : List ℕ
  pub order : ms ≡ earlier ++ m ∷ later
  pub none : NoneIn h codes earlier
  pub rule : IsFirstRule h codes m place n

-- the membranes as they are asked, from the one with a number in preorder on, wrapping round
abbrev pub asked : ℕ → Forest → List ℕ
asked from f = drop from (flat f) ++ take from (flat f)

-- The registers hold the first success of the code of the head of rule n in membrane m.
pub record HasFound {A M : Type 0} (atom : A → ℕ) (membrane : M → ℕ) (h : Heap) (codes : List Code) (m n : ℕ) (g : SetRegisters A M) : Type 0 where
  pub code : Code
  pub is : slice_get codes n ≡ Some code
  pub held : AreHeldWhole atom membrane h g
  pub set : AreAllSet g code.head
  pub copies : g.copies ≡ []
  pub first : (r : HeadRegisters) → Agrees atom membrane g r → IsFirstSuccess h code.head m r

-- From h to k these membranes fall asleep, or sleep on. All else is as it was.
pub record FallAsleep (h k : Heap) (ms : List ℕ) : Type 0 where
  pub alike : SameButMarks h k
  pub asleep : (m : ℕ) → In m ms → mem_mark_of k m ≡ asleep_mark
  pub others : (m : ℕ) → (In m ms → ⊥) → mem_mark_of k m ≡ mem_mark_of h m

-- they do so if they may
abbrev pub Lulls : Bool → Heap → Heap → List ℕ → Type 0
Lulls true h k ms = FallAsleep h k ms
Lulls false h k ms = k ≡ h

-- Of these membranes, asked one after the other, none has a rule that succeeds: they all fall asleep, if they may.
abbrev pub AreAskedInVain : Bool → Heap → Heap → List Code → List ℕ → Type 0
AreAskedInVain sleep h k codes ms = NoneIn h codes ms × Lulls sleep h k ms

-- The first rule of them that succeeds is that of m at a place, and has the number n: those before m fall asleep, if they may.
abbrev pub AreAskedUpTo : Bool → Heap → Heap → List Code → List ℕ → (m place n : ℕ) → Type 0
AreAskedUpTo sleep h k codes ms m place n = (i : IsFirstIn h codes ms m place n) × Lulls sleep h k i.earlier

-- one membrane falls asleep if it may
abbrev pub Lulled : Bool → Heap → Heap → ℕ → Type 0
Lulled true h k m = k ≡ mem_marked h m asleep_mark
Lulled false h k m = k ≡ h
