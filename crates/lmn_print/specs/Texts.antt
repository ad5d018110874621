-- The texts of what is printed of a heap by its own marks. Contracts of this crate's own functions alone cite these words.
use Rattle.std.specs.Prelude.{ℕ, ◌≡◌, List, map}
use Rattle.lmn_congruence.specs.Rules.{Name}
use Rattle.lmn_print_folded.specs.Terms.{FoldedItem}
use Rattle.lmn_print_folded.specs.Words.{item_pieces}
use Rattle.lmn_store_heap.specs.Heap.{Heap}
use Rattle.lmn_store_heap.specs.Sound.{Valid}
use Rattle.lmn_print_folding.specs.Chosen.{PrintsItems, items_in}
use Rattle.lmn_flatten_plain.specs.Words.{text_of}
use Rattle.lmn_print_plain.specs.Stored.{number_by_mark}

abbrev pub item_text : FoldedItem → List ℕ
item_text i = text_of (item_pieces i)

-- the texts of the items of a membrane, links by the marks of ports
abbrev pub AreItemTexts : List Name → Heap → ℕ → List (List ℕ) → Type 0
AreItemTexts names s m texts =
    Valid s × (shown : List FoldedItem) × PrintsItems names s (number_by_mark s) (items_in s m) shown × (texts ≡ map item_text shown)
