-- What a turn and a count are where membranes that sleep aren't asked, and those that are asked in vain fall asleep.
use Rattle.std.proofs.Common.{ℕ, List, true, refl, arith}
use Rattle.lmn_store_heap.specs.Heap.{Heap}
use Rattle.lmn_store_heap.specs.Sound.{Forest, IsTree, flat}
use Rattle.lmn_instr_code.specs.declared.instr.Code.{Code}
use Rattle.lmn_schedule_sleep.proofs.Marks.{alike_back, read_alike}
use Rattle.lmn_schedule_strategy.specs.Choosing.{asked}
use Rattle.lmn_schedule_strategy.specs.Counting.{AsksRules, CountsAsked, RisesWithin}
use Rattle.lmn_schedule_strategy.specs.Quieting.{SleepsRightly}
use Rattle.lmn_schedule_strategy.specs.Turns.{IsAwakeTurn}
use Rattle.lmn_schedule_strategy.specs.declared.turning.Turn.{Turn}
use Rattle.lmn_schedule_strategy.specs.declared.turning.Turn.TheVariants.{Committed, Irreducible, Full, NoMemory}
use Rattle.lmn_schedule_strategy.proofs.Lulling.{none_in_back}
use Rattle.lmn_schedule.proofs.Counted.{asks_sleepers}
use Rattle.lmn_verify_coded.specs.Runs.{CodedTurn}

-- a turn by which those that are asked in vain fall asleep is a turn of codes
pub coded_turn : (h : Heap) (codes : List Code) (f : Forest) → IsTree h f → (size : ℕ) (a : Turn) (h' : Heap) → IsAwakeTurn true h codes f 0 size a h' → CodedTurn codes size h a h'
coded_turn h codes f tree size Committed h' t = record { tree = f; is_tree = tree; lulled = t.0; alike = t.2.alike; turn = t.1 }
coded_turn h codes f tree size Irreducible h' t = record {
  tree = f;
  is_tree = tree;
  lulled = h';
  alike = t.1.alike;
  turn = (none_in_back h' h codes (alike_back h h' (read_alike h h' t.1.alike)) (flat f) t.0, refl);
}
coded_turn h codes f tree size Full h' t = record { tree = f; is_tree = tree; lulled = t.0; alike = t.2.alike; turn = t.1 }
coded_turn h codes f tree size NoMemory h' t = record { tree = f; is_tree = tree; lulled = t.0; alike = t.2.alike; turn = t.1 }

-- ---- what is counted

-- How many rules of all membranes would be asked, and how a count rises by them at most.
pub record CountsWhole (h : Heap) (codes : List Code) (f : Forest) (a b : ℕ) : Type 0 where
  pub rules : ℕ
  pub asks : AsksRules h codes (asked 0 f) rules
  pub rises : RisesWithin rules a b

-- so it rises where those that are awake are asked
pub counts_whole : (h : Heap) (codes : List Code) → SleepsRightly h codes → (a b : ℕ) → CountsAsked h codes 0 a b → (f : Forest) → IsTree h f → CountsWhole h codes f a b
counts_whole h codes sleeps a b c f tree =
    let more = c f tree in
    let whole = asks_sleepers h codes sleeps (asked 0 f) more.rules more.asks in
    let least = whole.1 in
    let within = more.counts.within in
    record { rules = whole.0; asks = whole.2; rises = record { rises = more.counts.rises; within = omega (arith, least, within) } }
