-- What own marks tell of two atoms that are joined by their last ports.
use Rattle.std.specs.Prelude.{ℕ, List}
use Rattle.lmn_base.specs.declared.functor.Label.TheVariants.{Name}
use Rattle.lmn_congruence.specs.Rules as tree
use Rattle.lmn_congruence.specs.Translation.{label_of}
use Rattle.lmn_print_folded.specs.Terms.{FoldedTerm, link, labelled, FoldedTerms, no_term, term_and, FoldedItem}
use Rattle.lmn_store_heap.specs.Examples.{across}
use Rattle.lmn_store_heap.specs.Heap.{Heap, marked}
use Rattle.lmn_print_folding.specs.Printed.{PrintsItem}

-- `{a(X)}, b(X)`, where the atom `a` alone is marked as an item
abbrev pub one_item : Heap
one_item = marked across 0 1 1

-- and where both are
abbrev pub two_items : Heap
two_items = marked one_item 1 1 2

-- the item of this label with the one argument
abbrev pub item_with : List tree.Name → FoldedTerm → FoldedItem
item_with names t = record { label = label_of names (Name 8); arguments = term_and t no_term }

-- Where `a` alone is an item, `b` is the term in it: `a(b)`.
abbrev pub TermIsPrinted : Type 0
TermIsPrinted = (names : List tree.Name) (name : ℕ → ℕ → ℕ) → PrintsItem names one_item name 0 (item_with names (labelled (label_of names (Name 9)) no_term))

-- Where both are, its argument is a link,
abbrev pub LinkIsPrinted : Type 0
LinkIsPrinted = (names : List tree.Name) (name : ℕ → ℕ → ℕ) → PrintsItem names two_items name 0 (item_with names (link (name 0 0)))

-- and no term.
abbrev pub NoTermIsPrinted : Type 0
NoTermIsPrinted = (names : List tree.Name) (name : ℕ → ℕ → ℕ) (l : tree.Label) (ts : FoldedTerms) → PrintsItem names two_items name 0 (item_with names (labelled l ts)) → ⊥
