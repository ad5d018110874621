-- What a turn of codes asks, and when some code succeeds.
use Rattle.std.specs.Prelude.{ℕ, ◌<◌, ◌-◌, ◌^◌, List, length}
use Rattle.lmn_base.specs.Lists.{In}
use Rattle.lmn_store_heap.specs.Heap.{Heap, rules_in}
use Rattle.lmn_instr_code.specs.declared.instr.Code.{Code}
use Rattle.lmn_schedule_strategy.specs.Choosing.{CanTurn, CodeSucceeds}
use Rattle.lmn_schedule_strategy.specs.Quieting.{AreQuiet, SleepsRightly}
use Rattle.lmn_schedule_strategy.specs.Turns.{AreRunnable}

-- What a turn of codes asks: of the heap, each of whose rules has a code; that no membrane sleeps in which the code of a rule succeeds; that
-- each code can be run; that a membrane in which it has failed may sleep until it is touched; and that no number of items is beyond the
-- size for want of bits.
pub record CodedCanTurn (h : Heap) (codes : List Code) (size : ℕ) : Type 0 where
  pub turn : CanTurn h (length codes)
  pub sleeps : SleepsRightly h codes
  pub runnable : AreRunnable codes
  pub quiet : AreQuiet codes
  pub small : size < 2 ^ 64 - 1

-- some rule of one of these membranes has a code that succeeds there
pub record SomeIn (h : Heap) (codes : List Code) (ms : List ℕ) : Type 0 where
  pub membrane : ℕ
  pub among : In membrane ms
  pub rule : ℕ
  pub stands : In rule (rules_in h membrane)
  pub succeeds : CodeSucceeds h codes membrane rule
