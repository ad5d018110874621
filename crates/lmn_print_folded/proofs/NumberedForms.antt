-- The folded form of a region with other links is its folded form, with other links.
use Rattle.std.proofs.Common.{ℕ, suc, ◌≡◌, ◌+◌, ◌<◌, List, [], ◌∷◌, map, refl, sym, ap, ◌∙◌, inl, inr, arith}
use Rattle.std.specs.List.{AllByRecursion}
use Rattle.lmn_congruence.specs.Orders.{Among, at_head, further}
use Rattle.lmn_congruence.specs.Regions.{SolidAtom, Region, Regions}
use Rattle.lmn_print_folded.specs.Terms.{FoldedTerm, link, labelled, FoldedTerms, no_term, term_and, FoldedItem, Folded, folded, FoldedMembranes, no_membrane, membrane_and, renamed_term, renamed_terms, renamed_item, renamed_folded, renamed_membranes}
use Rattle.lmn_print_folded.specs.Folding as folding
use Rattle.lmn_print_folded.specs.Folding.{Shows, as_link, as_term, ShowsAll, ShowsItems, Folds, folds, FoldsAll}
use Rattle.lmn_print_folded.proofs.Choosing.{among}
use Rattle.lmn_base.proofs.Truth.{Decided}

-- ---- with other links

module _ (to : ℕ → ℕ) where
  module _ {atoms : List SolidAtom} {items : List ℕ} where
    mutual
      term_with : {p k x : ℕ} {t : FoldedTerm} → Shows (λ x. x) atoms items p k x t → Shows to atoms items p k x (renamed_term to t)
      term_with (as_link h) = as_link h
      term_with (as_term c n s) = as_term c n (terms_with s)

      terms_with : {p k : ℕ} {xs : List ℕ} {ts : FoldedTerms} → ShowsAll (λ x. x) atoms items p k xs ts → ShowsAll to atoms items p k xs (renamed_terms to ts)
      terms_with folding.none = folding.none
      terms_with (folding.more s r) = folding.more (term_with s) (terms_with r)

    items_with : {ps : List ℕ} {is : List FoldedItem} → ShowsItems (λ x. x) atoms items ps is → ShowsItems to atoms items ps (map (renamed_item to) is)
    items_with folding.none = folding.none
    items_with (folding.more a g s r) = folding.more a g (terms_with s) (items_with r)

    mutual
      term_without : {p k x : ℕ} {t : FoldedTerm} → Shows to atoms items p k x t → (u : FoldedTerm) × Shows (λ x. x) atoms items p k x u × (t ≡ renamed_term to u)
      term_without (as_link {x = x} h) = (link x, as_link h, refl)
      term_without (as_term c n s) = let u = terms_without s in (labelled c.child.label u.0, as_term c n u.1, ap (labelled c.child.label) u.2)

      terms_without : {p k : ℕ} {xs : List ℕ} {ts : FoldedTerms} → ShowsAll to atoms items p k xs ts → (us : FoldedTerms) × ShowsAll (λ x. x) atoms items p k xs us × (ts ≡ renamed_terms to us)
      terms_without folding.none = (no_term, folding.none, refl)
      terms_without (folding.more s r) =
          let u = term_without s in
          let us = terms_without r in
          (term_and u.0 us.0, folding.more u.1 us.1, λ i. term_and (u.2 i) (us.2 i))

    items_without : {ps : List ℕ} {is : List FoldedItem} → ShowsItems to atoms items ps is → (js : List FoldedItem) × ShowsItems (λ x. x) atoms items ps js × (is ≡ map (renamed_item to) js)
    items_without folding.none = ([], folding.none, refl)
    items_without (folding.more a g s r) =
        let us = terms_without s in
        let js = items_without r in
        (record { label = a.label; arguments = us.0 } ∷ js.0, folding.more a g us.1 js.1, λ i. record { label = a.label; arguments = us.2 i } ∷ js.2 i)

  -- a folded form with other links
  mutual
    pub form_with : {S : Region} {f : Folded} → Folds (λ x. x) S f → Folds to S (renamed_folded to f)
    form_with (folds items are shows inside) = folds items are (items_with shows) (forms_with inside)

    forms_with : {ms : Regions} {fs : FoldedMembranes} → FoldsAll (λ x. x) ms fs → FoldsAll to ms (renamed_membranes to fs)
    forms_with folding.none = folding.none
    forms_with (folding.more f fs) = folding.more (form_with f) (forms_with fs)

  -- and the one of which it is made
  mutual
    pub form_without : {S : Region} {f : Folded} → Folds to S f → (g : Folded) × Folds (λ x. x) S g × (f ≡ renamed_folded to g)
    form_without (folds {rules = rules} items are shows inside) =
        let is = items_without shows in
        let fs = forms_without inside in
        (folded is.0 fs.0 rules, folds items are is.1 fs.1, λ i. folded (is.2 i) (fs.2 i) rules)

    forms_without : {ms : Regions} {fs : FoldedMembranes} → FoldsAll to ms fs → (gs : FoldedMembranes) × FoldsAll (λ x. x) ms gs × (fs ≡ renamed_membranes to gs)
    forms_without folding.none = (no_membrane, folding.none, refl)
    forms_without (folding.more f fs) =
        let g = form_without f in
        let gs = forms_without fs in
        (membrane_and g.0 gs.0, folding.more g.1 gs.1, λ i. membrane_and (g.2 i) (gs.2 i))

-- ---- numbers for the links that aren't printed

-- a number above those of some links
abbrev above : (ℕ → ℕ) → List ℕ → ℕ
above to [] = 0
above to (x ∷ xs) = suc (to x + above to xs)

below_above : (to : ℕ → ℕ) (x : ℕ) (xs : List ℕ) → Among x xs → to x < above to xs
below_above to x [] a = elim a [ ]
below_above to x (y ∷ xs) at_head = omega arith
below_above to x (y ∷ xs) (further a) = let l = below_above to x xs a in omega (arith, l)

abbrev picked : (ℕ → ℕ) → (xs : List ℕ) (x : ℕ) → Decided (Among x xs) → ℕ
picked to xs x (inl a) = to x
picked to xs x (inr n) = above to xs + x

-- the links of a list go where they did, and the others above them
abbrev pub extended : (ℕ → ℕ) → List ℕ → ℕ → ℕ
extended to xs x = picked to xs x (among x xs)

-- it is one to one where the links of the list were
pub extended_one : (to : ℕ → ℕ) (xs : List ℕ) → ((x y : ℕ) → Among x xs → Among y xs → to x ≡ to y → x ≡ y) → (x y : ℕ) → extended to xs x ≡ extended to xs y → x ≡ y
extended_one to xs one x y = go (among x xs) (among y xs)
  where
    go : (d : Decided (Among x xs)) (f : Decided (Among y xs)) → picked to xs x d ≡ picked to xs y f → x ≡ y
    go (inl a) (inl b) e = one x y a b e
    go (inl a) (inr n) e = let l = below_above to x xs a in absurd (omega (arith, e, l))
    go (inr n) (inl b) e = let l = below_above to y xs b in absurd (omega (arith, e, l))
    go (inr n) (inr m) e = omega (arith, e)

-- and it agrees on these links
pub extended_agrees : (to : ℕ → ℕ) (xs : List ℕ) → AllByRecursion (λ x. extended to xs x ≡ to x) xs
extended_agrees to xs = all xs (λ x a. a)
  where
    same : (x : ℕ) → Among x xs → (d : Decided (Among x xs)) → picked to xs x d ≡ to x
    same x a (inl b) = refl
    same x a (inr n) = absurd (n a)

    all : (ys : List ℕ) → ((x : ℕ) → Among x ys → Among x xs) → AllByRecursion (λ x. extended to xs x ≡ to x) ys
    all [] f = tt
    all (y ∷ ys) f = (same y (f y at_head) (among y xs), all ys (λ x a. f x (further a)))
