-- The walks over the items of a heap. Contracts of this crate's own functions alone cite the first two words.
use Rattle.std.specs.Prelude.{ℕ, List, [], ◌∷◌, ◌++◌}
use Rattle.lmn_base.specs.declared.rule.RuleTree.{RuleTree}
use Rattle.lmn_congruence.specs.Rules.{Name}
use Rattle.lmn_print_folded.specs.Terms.{FoldedMembranes}
use Rattle.lmn_print_folding.specs.Marks.{Event, leaves, WalkMeets}
use Rattle.lmn_store_heap.specs.Heap.{Heap}
use Rattle.lmn_store_heap.specs.Solid.{IsNaming}
use Rattle.lmn_store_heap.specs.Sound.{Forest, IsTree}
use Rattle.lmn_print_folding.specs.Chosen.{items_in}
use Rattle.lmn_print.specs.Printed.{PrintsForest}

-- the items of membranes, one membrane after the other
abbrev pub printed_items : Heap → List ℕ → List ℕ
printed_items s [] = []
printed_items s (m ∷ ms) = items_in s m ++ printed_items s ms

-- What the walks over these items meet, one walk after the other. Each ends where it leaves its item.
pub data ItemsWalked (s : Heap) : List ℕ → List Event → Type 0 where
  none : ItemsWalked s [] []
  more : {a : ℕ} {others : List ℕ} {fs : List Event} (es : List Event) → WalkMeets s a 0 (es ++ leaves a ∷ []) → ItemsWalked s others fs →
      ItemsWalked s (a ∷ others) ((es ++ leaves a ∷ []) ++ fs)

-- Something is printed of the tree of the heap, whatever names there are, and whatever numbers for links.
abbrev pub IsPrinted : Heap → Type 0
IsPrinted s =
    (names : List Name) (table : List RuleTree) (name : ℕ → ℕ → ℕ) → IsNaming s name → (f : Forest) → IsTree s f
    → (given : FoldedMembranes) × PrintsForest names table s name f given
