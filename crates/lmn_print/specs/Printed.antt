-- What is printed of a heap whose own marks tell the items, with numbers for its links.
use Rattle.std.specs.Prelude.{ℕ, ◌≡◌, List, map}
use Rattle.lmn_base.specs.declared.rule.RuleTree.{RuleTree}
use Rattle.lmn_base.specs.Links.{NumbersLinks}
use Rattle.lmn_congruence.specs.Orders.{Among}
use Rattle.lmn_congruence.specs.Rules.{Name}
use Rattle.lmn_congruence.specs.Translation.{numbered_rule}
use Rattle.lmn_print_folded.specs.Terms.{FoldedItem, folded, FoldedMembranes, no_membrane, membrane_and, membranes_links, renamed_membranes}
use Rattle.lmn_store_heap.specs.Heap.{Heap, rules_in}
use Rattle.lmn_store_heap.specs.Sound.{Forest, bare, mem}
use Rattle.lmn_print_folding.specs.Chosen.{PrintsItems, items_in}
use Rattle.lmn_print_plain.specs.Stored.{number_by_mark}

-- The membranes of a forest: the items of each, the membranes in it, and its rules.
pub data PrintsForest (names : List Name) (table : List RuleTree) (s : Heap) (name : ℕ → ℕ → ℕ) : Forest → FoldedMembranes → Type 0 where
  none : PrintsForest names table s name bare no_membrane
  more : {m : ℕ} {inner rest : Forest} {items : List FoldedItem} {inside others : FoldedMembranes} → PrintsItems names s name (items_in s m) items →
      PrintsForest names table s name inner inside → PrintsForest names table s name rest others →
      PrintsForest names table s name (mem m inner rest) (membrane_and (folded items inside (map (numbered_rule names table) (rules_in s m))) others)

-- The marks of ports tell numbers for the printed links of a forest by first occurrence: what is printed of the heap t by its marks
-- is what is printed of s, where its links have the numbers of a naming, with other numbers for its links.
pub record IsNumberedBy (names : List Name) (table : List RuleTree) (t : Heap) (f : Forest) (given : FoldedMembranes) : Type 0 where
  pub to : ℕ → ℕ
  pub one_to_one : (x y : ℕ) → Among x (membranes_links given) → Among y (membranes_links given) → to x ≡ to y → x ≡ y
  pub count : ℕ
  pub by_first_occurrence : NumbersLinks (membranes_links (renamed_membranes to given)) count
  pub prints : PrintsForest names table t (number_by_mark t) f (renamed_membranes to given)
