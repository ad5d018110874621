-- The text that the walk writes is the line of what is printed.
use Rattle.std.proofs.Common.{◌≡◌, ℕ, ◌⊎◌, false, List, [], ◌∷◌, ◌++◌, map, inl, inr, refl, sym, ap, ◌∙◌, subst}
use Rattle.std.specs.Prelude.{codes}
use Rattle.std.proofs.lemmas.List.{map-append, append_assoc}
use Rattle.lmn_base.specs.declared.rule.RuleTree.{RuleTree}
use Rattle.lmn_congruence.specs.Rules.{Name}
use Rattle.lmn_congruence.specs.Translation.{numbered_rule, rules}
use Rattle.lmn_print_folded.specs.Terms.{FoldedItem, Folded, folded, FoldedMembranes, no_membrane, membrane_and}
use Rattle.lmn_print_folded.specs.Words.{item_pieces, folded_pieces, membranes_pieces, line_of_folded}
use Rattle.lmn_store_heap.specs.Heap.{Heap, IsMem, mems_in, rules_in}
use Rattle.lmn_store_heap.specs.Sound.{Forest, mem, flat, Forms, IsTree, Valid}
use Rattle.lmn_store_heap.proofs.ListLemmas.{in_left, in_right}
use Rattle.lmn_store_heap.proofs.Trees.{is_mem}
use Rattle.lmn_print_folding.specs.Chosen.{PrintsItems, items_in}
use Rattle.lmn_flatten_plain.specs.Words.{text_of, with_commas, rule_pieces, rules_pieces}
use Rattle.lmn_print_plain.specs.Rows.{in_row, any_behind, between_if}
use Rattle.lmn_print_plain.specs.Stored.{number_by_mark}
use Rattle.lmn_print_plain.specs.Walks.{Texts, AreTexts, texts_with, items_text, members, tree_text}
use Rattle.lmn_print_plain.specs.Writing.{IsLineWith, has_items, line_with}
use Rattle.lmn_print_plain.proofs.LineLemmas.{stops_row, rules_texts, row_is}
use Rattle.lmn_print_plain.proofs.RowLemmas.{any_map, comma_row}
use Rattle.lmn_print_plain.proofs.ToldLemmas.{any_append, any_members}
use Rattle.lmn_print.specs.Printed.{PrintsForest, none, more}
use Rattle.lmn_print.specs.Texts.{AreItemTexts, item_text}
use Rattle.lmn_print.proofs.OneText.{one_row}
use Rattle.lmn_flatten_plain.proofs.LaidLines.{text_append}
use Rattle.lmn_store_heap.proofs.Common.{decide_in as in_or_not}
use Rattle.lmn_base.specs.Lists.{In}
use Rattle.lmn_base.proofs.Lists.{in_either}

-- the line of what is printed of the tree of a heap by its marks
abbrev pub IsLineByMarks : List Name → List RuleTree → Heap → List ℕ → Type 0
IsLineByMarks names table s text =
    (f : Forest) × IsTree s f × (root : Folded) × PrintsForest names table s (number_by_mark s) f (membrane_and root no_membrane)
    × (text ≡ line_of_folded root)

module _ (names : List Name) (table : List RuleTree) (s : Heap) where
  abbrev pub Shown : Forest → FoldedMembranes → Type 0
  Shown = PrintsForest names table s (number_by_mark s)

  -- something is printed of each membrane of the forest
  found : (k : ℕ) (f : Forest) (ms : FoldedMembranes) → Shown f ms → In k (flat f) → (shown : List FoldedItem) × PrintsItems names s (number_by_mark s) (items_in s k) shown
  found k _ _ none i = absurd i
  found k _ _ (more {m = m} {inner = inner} {rest = rest} {items = is} {inside = inside} {others = others} ps p q) (inl e) =
      (is, subst (λ z. PrintsItems names s (number_by_mark s) (items_in s z) is) e ps)
  found k _ _ (more {m = m} {inner = inner} {rest = rest} {items = is} {inside = inside} {others = others} ps p q) (inr h) = elim (in_either k (flat inner) (flat rest) h) [
    | inl i ↦ found k inner inside p i
    | inr i ↦ found k rest others q i
  ]

  -- so there are texts for each membrane of the heap
  pub some_texts : Valid s → (f : Forest) → IsTree s f → (ms : FoldedMembranes) → Shown f ms → (atoms : ℕ → List (List ℕ)) × AreTexts s (AreItemTexts names s) atoms
  some_texts valid f tree ms p = ((λ k. (at k (in_or_not k (flat f))).0), λ k is. (at k (in_or_not k (flat f))).1 is)
    where
      at : (k : ℕ) → In k (flat f) ⊎ (In k (flat f) → ⊥) → (texts : List (List ℕ)) × (IsMem s k → AreItemTexts names s k texts)
      at k (inl i) = let it = found k f ms p i in (map item_text it.0, λ is. (valid, it.0, it.1, refl))
      at k (inr n) = ([], λ is. absurd (n (tree.all k is)))

  module _ (atoms : ℕ → List (List ℕ)) (are : AreTexts s (AreItemTexts names s) atoms) where
    abbrev t : Texts
    t = texts_with atoms names table s

    items_texts : (is : List FoldedItem) → map text_of (map item_pieces is) ≡ map item_text is
    items_texts [] = refl
    items_texts (i ∷ is) = ap (λ z. item_text i ∷ z) (items_texts is)

    -- the texts of a membrane are those of what is printed there
    texts_here : (m : ℕ) (is : List FoldedItem) → IsMem s m → PrintsItems names s (number_by_mark s) (items_in s m) is → map text_of (map item_pieces is) ≡ atoms m
    texts_here m is there p =
        let here = are m there in
        items_texts is ∙ ap (map item_text) (one_row names s (number_by_mark s) p here.2) ∙ sym here.3

    -- what stands in a membrane, list by list
    level_texts : (m : ℕ) (is : List FoldedItem) (inside : FoldedMembranes) (ms : List (List ℕ)) → IsMem s m → PrintsItems names s (number_by_mark s) (items_in s m) is → map text_of (membranes_pieces inside) ≡ ms
        → map text_of (folded_pieces (folded is inside (map (numbered_rule names table) (rules_in s m)))) ≡ atoms m ++ (ms ++ t.rules m)
    level_texts m is inside ms there p e =
        let xs = map item_pieces is in
        let ys = membranes_pieces inside in
        let zs = rules_pieces (rules (map (numbered_rule names table) (rules_in s m))) in
        map-append text_of xs (ys ++ zs)
        ∙ ap (λ z. z ++ map text_of (ys ++ zs)) (texts_here m is there p)
        ∙ ap (λ z. atoms m ++ z) (map-append text_of ys zs ∙ ap (λ z. z ++ map text_of zs) e ∙ ap (λ z. ms ++ z) (rules_texts names table (rules_in s m)))

    -- the membranes of a forest
    forest_texts : (f : Forest) (ms : FoldedMembranes) → Shown f ms → ((k : ℕ) → In k (flat f) → IsMem s k) → map text_of (membranes_pieces ms) ≡ members t f
    forest_texts _ _ none there = refl
    forest_texts _ _ (more {m = m} {inner = inner} {rest = rest} {items = is} {inside = inside} {others = others} ps p q) there =
        let here = folded is inside (map (numbered_rule names table) (rules_in s m)) in
        let xs = folded_pieces here in
        let is_inside = forest_texts inner inside p (λ k i. there k (inr (in_left k (flat inner) (flat rest) i))) in
        let one : text_of (with_commas xs) ≡ items_text t (codes ", ") m (members t inner) =
        comma_row xs ∙ ap (in_row (codes ", ") false) (level_texts m is inside (members t inner) (there m (inl refl)) ps is_inside) ∙ row_is t (codes ", ") m (members t inner) in
        ap (λ z. (123 ∷ z) ∷ map text_of (membranes_pieces others)) (text_append (with_commas xs) _ ∙ ap (λ z. z ++ (125 ∷ [])) one)
        ∙ ap (λ z. (codes "{" ++ (items_text t (codes ", ") m (members t inner) ++ codes "}")) ∷ z) (forest_texts rest others q (λ k i. there k (inr (in_right k (flat inner) (flat rest) i))))

    -- the line of the root, where its tree is known
    root_text : (f : Forest) (ms : FoldedMembranes) (root : Folded) → Shown f ms → ms ≡ membrane_and root no_membrane → Forms s f (s.root ∷ []) → ((k : ℕ) → In k (flat f) → IsMem s k)
        → line_of_folded root ≡ line_with t s f
    root_text _ _ root none e F there = absurd (cc e)
    root_text _ _ root (more {m = m} {inner = inner} {rest = rest} {items = is} {inside = inside} {others = others} ps p q) e F there =
        let here = folded is inside (map (numbered_rule names table) (rules_in s m)) in
        let whole : s.root ∷ [] ≡ m ∷ F.0 = F.1 in
        let same : m ≡ s.root = cc whole in
        let of_root : here ≡ root = cc e in
        let xs = folded_pieces here in
        let ts = level_texts m is inside (members t inner) (there m (inl refl)) ps (forest_texts inner inside p (λ k i. there k (inr (in_left k (flat inner) (flat rest) i)))) in
        let any : any_behind false (atoms m ++ (members t inner ++ t.rules m)) ≡ has_items (atoms m) (record s { root = m }) =
        any_append false (atoms m) (members t inner ++ t.rules m)
        ∙ any_append (any_behind false (atoms m)) (members t inner) (t.rules m)
        ∙ ap (λ z. any_behind z (t.rules m)) (any_members t s (any_behind false (atoms m)) inner (mems_in s m) F.2)
        ∙ any_map (λ (n : ℕ). text_of (rule_pieces (numbered_rule names table n))) (any_behind (any_behind false (atoms m)) (mems_in s m)) (rules_in s m) in
        let line : line_of_folded here ≡ tree_text t (mem m inner rest) ++ (between_if (codes ".") (any_behind false (atoms m ++ (members t inner ++ t.rules m))) ++ codes "\n") =
        ap (λ z. z ++ codes "\n")
        (stops_row xs
        ∙ ap (λ z. in_row (codes ". ") false (map text_of xs) ++ between_if (codes ".") z) (sym (any_map text_of false xs))
        ∙ ap (λ us. in_row (codes ". ") false us ++ between_if (codes ".") (any_behind false us)) ts
        ∙ ap (λ z. z ++ between_if (codes ".") (any_behind false (atoms m ++ (members t inner ++ t.rules m)))) (row_is t (codes ". ") m (members t inner)))
        ∙ append_assoc (items_text t (codes ". ") m (members t inner)) (between_if (codes ".") (any_behind false (atoms m ++ (members t inner ++ t.rules m)))) (codes "\n") in
        ap line_of_folded (sym of_root) ∙ line
        ∙ ap (λ z. tree_text t (mem m inner rest) ++ (between_if (codes ".") z ++ codes "\n")) (any ∙ ap (λ k. has_items (atoms k) (record s { root = k })) same)

-- so it is one that is written by these texts
pub line_by_marks : (names : List Name) (table : List RuleTree) (s : Heap) → Valid s → (text : List ℕ) → IsLineByMarks names table s text → IsLineWith (AreItemTexts names s) names table s text
line_by_marks names table s valid text is =
    let f = is.0 in
    let some = some_texts names table s valid f is.1 (membrane_and is.2 no_membrane) is.3 in
    (f, is.1, some.0, some.1, is.4 ∙ root_text names table s some.0 some.1 f (membrane_and is.2 no_membrane) is.2 is.3 refl is.1.forms (is_mem s valid.sound f is.1))
