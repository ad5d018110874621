-- What the walk over an item meets.
use Rattle.std.specs.Prelude.{ℕ, ◌≡◌, true, List, ◌++◌}
use Rattle.lmn_congruence.specs.Rules.{Name}
use Rattle.lmn_print_folded.specs.Terms.{FoldedItem}
use Rattle.lmn_print_folded.specs.Words.{item_pieces}
use Rattle.lmn_store_heap.specs.Heap.{Heap}
use Rattle.lmn_store_heap.specs.Sound.{Valid}
use Rattle.lmn_flatten_plain.specs.Words.{text_of}
use Rattle.lmn_print_folding.specs.Events.{opening, events_text}
use Rattle.lmn_print_folding.specs.Marks.{Event, WalkMeets, is_item}
use Rattle.lmn_print_folding.specs.Printed.{PrintsItem}

-- From the first port of an item on a walk meets events whose text is that of the item's words.
abbrev pub ItemsAreWalked : Type 0
ItemsAreWalked = (names : List Name) (s : Heap) (name : ℕ → ℕ → ℕ) (a : ℕ) (i : FoldedItem) → Valid s → is_item s a ≡ true → PrintsItem names s name a i
    → (es : List Event) × WalkMeets s a 0 es × (opening names s a ++ events_text names s name es ≡ text_of (item_pieces i))
