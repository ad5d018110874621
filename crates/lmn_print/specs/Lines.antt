-- The line that is written of a heap, in the form that is asked.
use Rattle.std.specs.Prelude.{ℕ, List, Bool}
use Rattle.lmn_base.specs.declared.rule.RuleTree.{RuleTree}
use Rattle.lmn_base.specs.declared.solid.Solid.{Solid}
use Rattle.lmn_congruence.specs.Rules.{Name}
use Rattle.lmn_congruence.specs.Translation.{region_of}
use Rattle.lmn_print_folded.specs.Lines.{IsLine}
use Rattle.lmn_store_heap.specs.Heap.{Heap}
use Rattle.lmn_store_heap.specs.Solid.{HasSolid}

-- the line of a solid of the heap
abbrev pub IsHeapLine : Bool → List Name → List RuleTree → Heap → List ℕ → Type 0
IsHeapLine folded names table s text = (x : Solid) × HasSolid s x × IsLine folded (region_of names table x) text
