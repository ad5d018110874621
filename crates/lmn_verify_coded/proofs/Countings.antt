-- How the steps of a run rise.
use Rattle.std.proofs.Common.{ℕ, ◌+◌, List}
use Rattle.lmn_store_heap.specs.Heap.{Heap}
use Rattle.lmn_store_heap.specs.Sound.{Valid}
use Rattle.lmn_instr_code.specs.declared.instr.Code.{Code}
use Rattle.lmn_schedule_strategy.specs.Counting.{CountsAsked}
use Rattle.lmn_schedule_strategy.specs.Quieting.{SleepsRightly}
use Rattle.lmn_schedule_strategy.proofs.Counts.{rises_both, rises_none}
use Rattle.lmn_schedule_strategy.specs.declared.turning.Turn.TheVariants.{Committed}
use Rattle.lmn_verify_coded.specs.Runs.{CodedTurn}
use Rattle.lmn_verify_coded.specs.Counting.{CountsRun, CountsTurns, more_asked, none_asked}
use Rattle.lmn_verify_coded.proofs.Awake.{counts_whole}

module _ (codes : List Code) (size : ℕ) (first : Heap) where
  -- before the first turn,
  pub counts_none : (s : ℕ) → CountsTurns codes size first 0 first s s
  counts_none s = record { rules = 0; asks = none_asked; rises = rises_none 0 s }

  -- by one turn more,
  pub counts_more : (n : ℕ) (h h' : Heap) (s t u : ℕ) → SleepsRightly h codes → CountsTurns codes size first n h s t → CodedTurn codes size h Committed h' → CountsAsked h codes 0 t u → CountsTurns codes size first (n + 1) h' s u
  counts_more n h h' s t u sleeps c turn asked =
      let more = counts_whole h codes sleeps t u asked turn.tree turn.is_tree in
      record { rules = c.rules + more.rules; asks = more_asked c.asks turn more.asks; rises = rises_both c.rules more.rules s t u c.rises more.rises }

  -- and where the last heap is asked
  pub counts_last : (n : ℕ) (h : Heap) (s t u : ℕ) → Valid h → SleepsRightly h codes → CountsTurns codes size first n h s t → CountsAsked h codes 0 t u → CountsRun codes size first n s u
  counts_last n h s t u v sleeps c asked =
      let more = counts_whole h codes sleeps t u asked v.tree.0 v.tree.1 in
      record {
        last = h;
        before = c.rules;
        asks = c.asks;
        tree = v.tree.0;
        is_tree = v.tree.1;
        at_last = more.rules;
        asks_last = more.asks;
        rises = rises_both c.rules more.rules s t u c.rises more.rises;
      }
