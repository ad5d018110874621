-- The line that is written of a heap.
use Rattle.std.specs.Prelude.{ℕ, ◌≡◌, Bool, false, List, ◌++◌, codes}
use Rattle.lmn_base.specs.declared.rule.RuleTree.{RuleTree}
use Rattle.lmn_base.specs.declared.solid.Solid.{Solid}
use Rattle.lmn_congruence.specs.Rules.{Name}
use Rattle.lmn_store_heap.specs.Heap.{Heap, mems_in, rules_in}
use Rattle.lmn_store_heap.specs.Solid.{HasSolid}
use Rattle.lmn_store_heap.specs.Sound.{Forest, IsTree}
use Rattle.lmn_flatten_plain.specs.SolidLines.{solid_line}
use Rattle.lmn_print_plain.specs.Rows.{any_behind, between_if}
use Rattle.lmn_print_plain.specs.Stored.{TellsNumbers}
use Rattle.lmn_print_plain.specs.Walks.{Texts, AreTexts, texts_with, tree_text}

-- the line of a solid of the heap, in the plain form
abbrev pub IsPlainHeapLine : List Name → List RuleTree → Heap → List ℕ → Type 0
IsPlainHeapLine names table s text = (x : Solid) × HasSolid s x × (text ≡ solid_line names table x)

-- the line of a solid of the heap where the marks of ports tell the numbers of its links
abbrev pub IsMarkedLineOf : List Name → List RuleTree → Heap → List ℕ → Type 0
IsMarkedLineOf names table s text = (x : Solid) × (of : HasSolid s x) × TellsNumbers s of.name × (text ≡ solid_line names table x)

-- whether anything stands at the root of a heap, by the texts of the atoms there
abbrev pub has_items : List (List ℕ) → Heap → Bool
has_items texts s = any_behind (any_behind (any_behind false texts) (mems_in s s.root)) (rules_in s s.root)

-- the items of the root, a full stop behind the last, and a line feed
abbrev pub line_with : Texts → Heap → Forest → List ℕ
line_with t s f = tree_text t f ++ (between_if (codes ".") (has_items (t.atoms s.root) s) ++ codes "\n")

-- such a line, where `Are` tells the texts of the atoms in each membrane
abbrev pub IsLineWith : (ℕ → List (List ℕ) → Type 0) → List Name → List RuleTree → Heap → List ℕ → Type 0
IsLineWith Are names table s text =
    (f : Forest) × IsTree s f × (atoms : ℕ → List (List ℕ)) × AreTexts s Are atoms × (text ≡ line_with (texts_with atoms names table s) s f)
