-- The folded form of a region that a text can spell, with numbers for its links, can be spelled.
use Rattle.std.proofs.Common.{ℕ, ◌≡◌, List, [], ◌∷◌, map, subst, sym}
use Rattle.std.specs.List.{AllByRecursion}
use Rattle.lmn_congruence.specs.Process.{Closed}
use Rattle.lmn_congruence.specs.Regions.{SolidAtom, Region, region, Regions, no_region, region_and, region_process}
use Rattle.lmn_congruence.specs.Rules as tree
use Rattle.lmn_congruence.specs.Same.{renamed_atom}
use Rattle.lmn_flatten_plain.specs.SolidLines.{atom_as_leaf, as_level, as_levels}
use Rattle.lmn_flatten_plain.specs.Spelled.{LabelSpelled, LeafSpelled, LevelSpelled, LevelsSpelled, RuleSpelled, RulesSpelled}
use Rattle.lmn_print_folded.specs.Terms.{FoldedTerm, link, labelled, FoldedTerms, no_term, term_and, FoldedItem, Folded, folded, FoldedMembranes, no_membrane, membrane_and, renamed_term, renamed_terms, renamed_item, renamed_folded, renamed_membranes}
use Rattle.lmn_print_folded.specs.Lines.{IsFoldedLine}
use Rattle.lmn_print_folded.proofs.FoldedLines.{numbers_of}
use Rattle.lmn_print_folded_laws.specs.Spelled.{TermSpelled, TermsSpelled, ItemSpelled, FoldedSpelled, MembranesSpelled}
use Rattle.lmn_print_folded_laws.specs.Whole.{TermWhole, link_whole, atom_whole, TermsWhole, none_whole, more_whole, ItemsWhole, no_items, items_whole, FoldedWhole, folded_whole, MembranesWhole, no_membranes, membranes_whole}
use Rattle.lmn_print_folded_laws.proofs.Reordering.{as_same}
use Rattle.lmn_print_folded_laws.proofs.WholeForms.{folded_forms_are_whole}
use Rattle.lmn_print_folded_laws.proofs.Kept.{Everywhere, EverywhereIn, kept}
use Rattle.lmn_congruence.specs.Translation.{rules}
use Rattle.lmn_base.proofs.Lists.{all_left as all_front, all_right as all_back}

-- The atoms and rules of such a region.

abbrev AtomSpelled : SolidAtom → Type 0
AtomSpelled a = LabelSpelled a.label

atoms_spelled : (xs : List SolidAtom) → AllByRecursion LeafSpelled (map atom_as_leaf xs) → AllByRecursion AtomSpelled xs
atoms_spelled [] h = tt
atoms_spelled (a ∷ xs) h = (h.0.0, atoms_spelled xs h.1)

rules_spelled : (rs : List tree.Rule) → RulesSpelled (rules rs) → AllByRecursion RuleSpelled rs
rules_spelled [] h = tt
rules_spelled (r ∷ rs) h = (h.0, rules_spelled rs h.1)

mutual
  region_spelled : (S : Region) → LevelSpelled (as_level S) → Everywhere AtomSpelled RuleSpelled S
  region_spelled (region xs ms rs) h = (atoms_spelled xs h.0, regions_spelled ms h.1, rules_spelled rs h.4)

  regions_spelled : (ms : Regions) → LevelsSpelled (as_levels ms) → EverywhereIn AtomSpelled RuleSpelled ms
  regions_spelled no_region h = tt
  regions_spelled (region_and m ms) h = (region_spelled m h.0, regions_spelled ms h.1)

in_order : (a b : SolidAtom) → renamed_atom (λ x. x) a ≡ b → AtomSpelled a → AtomSpelled b
in_order a b e h = subst AtomSpelled e h

-- Its folded form, with the region's links.

mutual
  term_spelled : {t : FoldedTerm} {x : ℕ} {xs : List SolidAtom} → TermWhole t x xs → AllByRecursion AtomSpelled xs → TermSpelled t
  term_spelled link_whole h = tt
  term_spelled (atom_whole w) h = (h.0, terms_spelled w h.1)

  terms_spelled : {ts : FoldedTerms} {links : List ℕ} {xs : List SolidAtom} → TermsWhole ts links xs → AllByRecursion AtomSpelled xs → TermsSpelled ts
  terms_spelled none_whole h = tt
  terms_spelled (more_whole {atoms = xs} {others = ys} w ws) h =
      (term_spelled w (all_front AtomSpelled xs ys h), terms_spelled ws (all_back AtomSpelled xs ys h))

items_spelled : {is : List FoldedItem} {xs : List SolidAtom} → ItemsWhole is xs → AllByRecursion AtomSpelled xs → AllByRecursion ItemSpelled is
items_spelled no_items h = tt
items_spelled (items_whole {atoms = xs} {others = ys} w ws) h =
    ((h.0, terms_spelled w (all_front AtomSpelled xs ys h.1)), items_spelled ws (all_back AtomSpelled xs ys h.1))

rules_spelled_back : (rs : List tree.Rule) → AllByRecursion RuleSpelled rs → RulesSpelled (rules rs)
rules_spelled_back [] h = tt
rules_spelled_back (r ∷ rs) h = (h.0, rules_spelled_back rs h.1)

mutual
  form_spelled : {f : Folded} {T : Region} → FoldedWhole f T → Everywhere AtomSpelled RuleSpelled T → FoldedSpelled f
  form_spelled (folded_whole {rs = rs} w ws) h = (items_spelled w h.0, forms_spelled ws h.1, rules_spelled_back rs h.2)

  forms_spelled : {fs : FoldedMembranes} {ms : Regions} → MembranesWhole fs ms → EverywhereIn AtomSpelled RuleSpelled ms → MembranesSpelled fs
  forms_spelled no_membranes h = tt
  forms_spelled (membranes_whole w ws) h = (form_spelled w h.0, forms_spelled ws h.1)

-- With other numbers for its links.

module _ (to : ℕ → ℕ) where
  mutual
    term_renamed : (t : FoldedTerm) → TermSpelled t → TermSpelled (renamed_term to t)
    term_renamed (link x) h = tt
    term_renamed (labelled l ts) h = (h.0, terms_renamed ts h.1)

    terms_renamed : (ts : FoldedTerms) → TermsSpelled ts → TermsSpelled (renamed_terms to ts)
    terms_renamed no_term h = tt
    terms_renamed (term_and t ts) h = (term_renamed t h.0, terms_renamed ts h.1)

  items_renamed : (is : List FoldedItem) → AllByRecursion ItemSpelled is → AllByRecursion ItemSpelled (map (renamed_item to) is)
  items_renamed [] h = tt
  items_renamed (i ∷ is) h = ((h.0.0, terms_renamed i.arguments h.0.1), items_renamed is h.1)

  mutual
    form_renamed : (f : Folded) → FoldedSpelled f → FoldedSpelled (renamed_folded to f)
    form_renamed (folded is fs rs) h = (items_renamed is h.0, forms_renamed fs h.1, h.2)

    forms_renamed : (fs : FoldedMembranes) → MembranesSpelled fs → MembranesSpelled (renamed_membranes to fs)
    forms_renamed no_membrane h = tt
    forms_renamed (membrane_and f fs) h = (form_renamed f h.0, forms_renamed fs h.1)

-- the folded form of what a text can spell can be spelled
pub numbered_form_spelled : (S : Region) (line : List ℕ) (h : IsFoldedLine S line) → Closed (region_process S) → LevelSpelled (as_level S) → FoldedSpelled h.form
numbered_form_spelled S line h closed spelled =
    let n = numbers_of h in
    let whole = folded_forms_are_whole S n.0 closed n.1 in
    let given = form_spelled whole.1 (kept AtomSpelled RuleSpelled (λ x. x) in_order (as_same (λ x. x) whole.2) (region_spelled S spelled)) in
    subst FoldedSpelled (sym n.2.is) (form_renamed n.2.to n.0 given)
