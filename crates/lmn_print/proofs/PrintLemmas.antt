-- The line of a heap whose marks were set, and are 0 again.
use Rattle.std.proofs.Common.{◌≡◌, ℕ, ◌<◌, true, List, refl, ◌∙◌, subst}
use Rattle.lmn_base.specs.declared.rule.RuleTree.{RuleTree}
use Rattle.lmn_congruence.specs.Rules.{Name}
use Rattle.lmn_print_folded.specs.Terms.{FoldedMembranes}
use Rattle.lmn_print_folded.specs.Words.{line_of_folded}
use Rattle.lmn_store_heap.specs.Heap.{Heap, Unmarked, PortsUnmarked}
use Rattle.lmn_store_heap.specs.Solid.{IsNaming}
use Rattle.lmn_store_heap.specs.Sound.{Forest, IsTree, Sound, Valid}
use Rattle.lmn_store_heap.proofs.Trees.{is_mem}
use Rattle.lmn_print_folding.specs.Chosen.{AreChosen, ChangesOwnMarks}
use Rattle.lmn_print_plain.specs.Numbers.{Remarks}
use Rattle.lmn_print_plain.proofs.HeapSolids.{heaps_have_solids}
use Rattle.lmn_print_plain.proofs.MarkLemmas.{tree_same}
use Rattle.lmn_print.specs.Lines.{IsHeapLine}
use Rattle.lmn_print.specs.Printed.{PrintsForest, IsNumberedBy}
use Rattle.lmn_print.proofs.ChosenForms.{chosen_line, given_of, line_is}
use Rattle.lmn_print.proofs.FoldedText.{IsLineByMarks}
use Rattle.lmn_print.proofs.ClearedMarks.{OtherMarks, others_more, arity_same}
use Rattle.lmn_print.proofs.MarkedSolids.{heap_same, solid_same}

-- something is printed of each tree
pub some_given : (s : Heap) → Valid s → AreChosen s → (names : List Name) (table : List RuleTree) (name : ℕ → ℕ → ℕ) → IsNaming s name → (f : Forest) → IsTree s f
    → (given : FoldedMembranes) × PrintsForest names table s name f given
some_given s valid chosen names table name naming f tree = let g = given_of names table s chosen name naming f (is_mem s valid.sound f tree) in (g.0, g.1)

-- other own marks are other marks
pub other_own_marks : (s t : Heap) → ChangesOwnMarks s t → OtherMarks s t
other_own_marks s t r = (r.marks, r.is)

-- other own marks leave ports unmarked
pub ports_unmarked : (s t : Heap) → ChangesOwnMarks s t → Unmarked s → PortsUnmarked t
ports_unmarked s t r none a i l = r.ports a i (subst (λ n. i < n) (arity_same s t (other_own_marks s t r) a) l) ∙ none a i

module _ (names : List Name) (table : List RuleTree) (s t u : Heap) (valid : Valid s) (valid' : Valid t) (others : OtherMarks s t) (chosen : AreChosen t) (r : Remarks t u)
    (numbers : (name : ℕ → ℕ → ℕ) → IsNaming t name → (f : Forest) → IsTree t f → (given : FoldedMembranes) → PrintsForest names table t name f given → IsNumberedBy names table u f given) where
  -- a line of the heap is what is printed by its marks
  pub printed_line : (text : List ℕ) → IsHeapLine true names table s text → IsLineByMarks names table u text
  printed_line text is =
      let of = solid_same s t others is.0 is.1 in
      let line = chosen_line names table t u is.0 of valid' chosen (λ given p. numbers of.name of.naming of.forest of.tree given p) in
      (of.forest, tree_same t u r of.forest of.tree, line.0, line.1, line_is names table s is.0 is.1 valid text (line_of_folded line.0) is.2 line.2)

  -- and something is printed
  pub some_line : (text : List ℕ) × IsLineByMarks names table u text
  some_line =
      let x = heaps_have_solids t valid' in
      let of = x.1 in
      let line = chosen_line names table t u x.0 of valid' chosen (λ given p. numbers of.name of.naming of.forest of.tree given p) in
      (line_of_folded line.0, (of.forest, tree_same t u r of.forest of.tree, line.0, line.1, refl))

-- where all marks are 0 again it is the heap of the beginning
pub back_again : (s t u v : Heap) → Valid s → Sound v → Unmarked s → Unmarked v → ChangesOwnMarks s t → Remarks t u → OtherMarks u v → v ≡ s
back_again s t u v valid sound before behind p q r =
    heap_same s v (others_more s u v (others_more s t u (other_own_marks s t p) (q.marks, q.is)) r) valid.sound.shaped sound.shaped before behind
