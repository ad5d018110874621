-- What turns of verified codes do on heaps, told by solids; and that it is one.
use Rattle.std.specs.Prelude.{ℕ, ◌≡◌, ◌≤◌, ◌<◌, List, Some, length, slice_get}
use Rattle.lmn_base.specs.declared.solid.Solid.{Solid}
use Rattle.lmn_base.specs.Lists.{In}
use Rattle.lmn_store_heap.specs.Heap.{Heap, rules_in}
use Rattle.lmn_store_heap.specs.Solid.{HasSolid}
use Rattle.lmn_store_heap.specs.Sound.{Forest, IsTree, Valid, flat}
use Rattle.lmn_instr_code.specs.declared.instr.Code.{Code}
use Rattle.lmn_verify_code.specs.Verified.{IsVerified}
use Rattle.lmn_schedule_strategy.specs.Choosing.{CodeSucceeds}
use Rattle.lmn_schedule_strategy.specs.Turns.{IsTurn}
use Rattle.lmn_schedule_strategy.specs.declared.turning.Turn.{Turn}
use Rattle.lmn_schedule_strategy.specs.declared.turning.Turn.TheVariants.{Committed, Irreducible, Full, NoMemory}
use Rattle.lmn_verify_solids.specs.Turns.{Choice, CodeNext, NoneSucceeds, SomeSucceeds}

-- each of these codes is verified, of as many rules as they are
abbrev pub AreVerified : List Code → Type 0
AreVerified codes = (n : ℕ) (code : Code) → slice_get codes n ≡ Some code → IsVerified code (length codes)

-- What is so at a solid of a heap where a turn gives this answer, and leaves the heap h'.
abbrev pub IsAnswerOn : List Code → ℕ → Solid → Turn → Heap → Type 0
IsAnswerOn codes size S Committed h' = (S' : Solid) × HasSolid h' S' × CodeNext codes size S S'
IsAnswerOn codes size S Irreducible h' = NoneSucceeds codes S
IsAnswerOn codes size S Full h' = (c : Choice codes S) × (size < c.left)
IsAnswerOn codes size S NoMemory h' = (c : Choice codes S) × (c.left ≤ size)

-- What verified codes choose and commit on a heap, the root asked first, they do on its solid.
abbrev pub TurnsAreChoices : Type 0
TurnsAreChoices = (codes : List Code) → AreVerified codes → (size : ℕ) (h : Heap) (S : Solid) (f : Forest) → Valid h → HasSolid h S → IsTree h f →
    (a : Turn) (h' : Heap) → IsTurn h codes f 0 size a h' → IsAnswerOn codes size S a h'

-- Where the code of a rule succeeds in a membrane of a heap, some code succeeds on its solid.
abbrev pub SuccessesAreSome : Type 0
SuccessesAreSome = (codes : List Code) (h : Heap) (S : Solid) (f : Forest) → Valid h → HasSolid h S → IsTree h f →
    (m n : ℕ) → In m (flat f) → In n (rules_in h m) → CodeSucceeds h codes m n → SomeSucceeds codes S

-- The next solid is one.
abbrev pub OneNext : Type 0
OneNext = (codes : List Code) → AreVerified codes → (size other : ℕ) (S S' S'' : Solid) → CodeNext codes size S S' → CodeNext codes other S S'' → S' ≡ S''

-- What codes choose on a solid would leave one number of items, and where none succeeds nothing is chosen and none succeeds.
pub record IsDetermined (codes : List Code) (S : Solid) : Type 0 where
  pub one_left : (c d : Choice codes S) → c.left ≡ d.left
  pub no_choice : NoneSucceeds codes S → Choice codes S → ⊥
  pub no_success : NoneSucceeds codes S → SomeSucceeds codes S → ⊥

-- So it is with verified codes.
abbrev pub ChoicesAreOne : Type 0
ChoicesAreOne = (codes : List Code) → AreVerified codes → (S : Solid) → IsDetermined codes S
