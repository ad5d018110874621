-- Laws of the line of a heap.
use Rattle.std.specs.Prelude.{ℕ, ◌≡◌, List, Bool}
use Rattle.lmn_base.specs.declared.rule.RuleTree.{RuleTree}
use Rattle.lmn_congruence.specs.Rules.{Name}
use Rattle.lmn_store_heap.specs.Heap.{Heap}
use Rattle.lmn_store_heap.specs.Sound.{Valid}
use Rattle.lmn_print.specs.Lines.{IsHeapLine}

-- Each valid heap has a line in either form.
abbrev pub SomeHeapLine : Type 0
SomeHeapLine = (folded : Bool) (names : List Name) (table : List RuleTree) (s : Heap) → Valid s → (text : List ℕ) × IsHeapLine folded names table s text

-- It has no other.
abbrev pub OneHeapLine : Type 0
OneHeapLine = (folded : Bool) (names : List Name) (table : List RuleTree) (s : Heap) (text other : List ℕ) → Valid s →
    IsHeapLine folded names table s text → IsHeapLine folded names table s other → text ≡ other
