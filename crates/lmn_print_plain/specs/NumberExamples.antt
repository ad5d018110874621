-- Marks that tell the numbers of links, and marks that don't.
use Rattle.std.specs.Prelude.{ℕ}
use Rattle.lmn_store_heap.specs.Examples.{across}
use Rattle.lmn_store_heap.specs.Heap.{Heap, marked}
use Rattle.lmn_print_plain.specs.Stored.{TellsNumbers}

-- `{a(X)}, b(X)` with a mark at one port of its link
abbrev pub half_told : Heap
half_told = marked across 0 0 1

-- and with the same mark at the other
abbrev pub wholly_told : Heap
wholly_told = marked half_told 1 0 1

-- Two marks of 1 tell that the number of the link is 0.
abbrev pub BothPortsTell : Type 0
BothPortsTell = TellsNumbers wholly_told (λ a i. 0)

-- One mark alone tells no numbers at all.
abbrev pub OnePortTellsNothing : Type 0
OnePortTellsNothing = (name : ℕ → ℕ → ℕ) → TellsNumbers half_told name → ⊥
