-- Traces beside a small text.
use Rattle.std.specs.Prelude.{ℕ, List, []}
use Rattle.std.specs.declared.alloc.Global.{Global}
use Rattle.lmn_adequacy.specs.Runs.{irreducible}
use Rattle.lmn_receipt_chain.specs.Chains.{at_line}
use Rattle.lmn_app_runs.specs.Runs.{at_end}
use Rattle.lmn_app.specs.Checks.{IsChecked, IsWrongTraceOf}
use Rattle.lmn_app.specs.TextExamples.{small_lines, small_text}
use Rattle.lmn_app_single.specs.Writing.{run_text}

-- the lines of `a. a :- b.` and of what comes of it, and the end line
abbrev pub small_trace : List ℕ
small_trace = run_text small_lines (at_end irreducible) 1

-- It is a trace of one commit, and of no more. A box in a condition belongs to an allocator, so one is given.
abbrev pub SmallTextIsChecked : Type 0
SmallTextIsChecked = Global → IsChecked small_text small_trace 1

abbrev pub SmallTextIsNotTwice : Type 0
SmallTextIsNotTwice = Global → ¬ (IsChecked small_text small_trace 2)

-- nothing at all is no trace of it
abbrev pub NothingIsWrong : Type 0
NothingIsWrong = IsWrongTraceOf small_text [] (at_line 61 1)
