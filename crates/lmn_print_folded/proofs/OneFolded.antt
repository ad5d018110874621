-- A region has one folded form.
use Rattle.std.proofs.Common.{ℕ, ◌≡◌, ◌≤◌, List, ◌∷◌, refl, sym, ap, ◌∙◌, subst, arith}
use Rattle.std.proofs.lemmas.Option.{same_Some}
use Rattle.lmn_congruence.specs.Process.{Process, occurrences, together}
use Rattle.lmn_congruence.specs.Regions.{SolidAtom, Region, Regions, region_process, regions_processes}
use Rattle.lmn_congruence.specs.Rules.{Label}
use Rattle.lmn_print_folded.specs.Terms.{FoldedTerm, labelled, FoldedTerms, term_and, FoldedItem, Folded, folded, FoldedMembranes, membrane_and}
use Rattle.lmn_print_folded.specs.Folding as folding
use Rattle.lmn_print_folded.specs.Folding.{IsChild, NoChildren, kept, left, Further, printed, item, AreItems, atom_positions, Shows, as_link, as_term, ShowsAll, ShowsItems, Folds, folds, FoldsAll}
use Rattle.lmn_print_folded.proofs.Places.{AtMostTwice, one_child, one_atom, one_ending}

one_more : (p : ℕ) (xs ys : List ℕ) → xs ≡ ys → p ∷ xs ≡ p ∷ ys
one_more p xs ys e = cc

no_children_same : {atoms : List SolidAtom} {qs is js : List ℕ} → NoChildren atoms qs is → NoChildren atoms qs js → is ≡ js
no_children_same folding.none folding.none = refl
no_children_same (kept n h) (kept m k) = one_more _ _ _ (no_children_same h k)
no_children_same (kept n h) (left p k c i) = absurd (n p k c)
no_children_same (left p k c h) (kept n i) = absurd (n p k c)
no_children_same (left p k c h) (left p' k' c' i) = no_children_same h i

further_same : {atoms : List SolidAtom} {items qs is js : List ℕ} → Further atoms items qs is → Further atoms items qs js → is ≡ js
further_same folding.none folding.none = refl
further_same (printed i a d h) (printed j b e k) = further_same h k
further_same (printed i a d h) (item n k) = absurd (n i a d)
further_same (item n h) (printed i a d k) = absurd (n i a d)
further_same (item n h) (item m k) = further_same h k

-- some atoms have one list of items at most
pub items_same : (atoms : List SolidAtom) (is js : List ℕ) → AreItems atoms is → AreItems atoms js → is ≡ js
items_same atoms is js h k =
    let P : List ℕ → Type 0 = λ fs. Further atoms fs (atom_positions atoms) is in
    further_same (subst P (no_children_same h.no_children k.no_children) h.further) k.further

same_labelled : (l m : Label) (ts us : FoldedTerms) → l ≡ m → ts ≡ us → labelled l ts ≡ labelled m us
same_labelled l m ts us e f = cc

-- terms with the same first and the same others are the same
pub same_terms : {t u : FoldedTerm} {ts us : FoldedTerms} → t ≡ u → ts ≡ us → term_and t ts ≡ term_and u us
same_terms e f = cc

-- The children q and r at one port are one atom.
same_child : {atoms : List SolidAtom} {q p k : ℕ} (r : ℕ) → q ≡ r → (c : IsChild atoms q p k) (d : IsChild atoms r p k)
    → (c.child ≡ d.child) × (c.first_links ≡ d.first_links)
same_child {atoms} {q} {p} {k} r e c =
    let P : ℕ → Type 0 = λ r. (d : IsChild atoms r p k) → (c.child ≡ d.child) × (c.first_links ≡ d.first_links) in
    subst P e (λ d. (one_atom c d, (one_ending c d).0))

module _ (atoms : List SolidAtom) (items : List ℕ) (few : AtMostTwice atoms) where
  moved : {q r : ℕ} {xs ys : List ℕ} {us : FoldedTerms} → q ≡ r → xs ≡ ys → ShowsAll (λ x. x) atoms items r 0 ys us → ShowsAll (λ x. x) atoms items q 0 xs us
  moved {q} {r} {xs} {ys} {us} e f s =
      let P : ℕ → Type 0 = λ q. ShowsAll (λ x. x) atoms items q 0 xs us in
      let Q : List ℕ → Type 0 = λ xs. ShowsAll (λ x. x) atoms items r 0 xs us in
      subst P (sym e) (subst Q (sym f) s)

  mutual
    shows_same : {p k x : ℕ} {t u : FoldedTerm} → Shows (λ x. x) atoms items p k x t → Shows (λ x. x) atoms items p k x u → t ≡ u
    shows_same (as_link h) (as_link g) = refl
    shows_same (as_link h) (as_term {q = q} c n s) = absurd (n (h q c))
    shows_same (as_term {q = q} c n s) (as_link h) = absurd (n (h q c))
    shows_same {p} {k} (as_term {q = q} {ts = ts} c n s) (as_term {q = r} {ts = us} d m s') =
        let e = one_child atoms q r p k few c d in
        let same = same_child r e c d in
        same_labelled _ _ ts us (ap (λ (a : SolidAtom). a.label) same.0) (shows_all_same s (moved e same.1 s'))

    shows_all_same : {p k : ℕ} {xs : List ℕ} {ts us : FoldedTerms} → ShowsAll (λ x. x) atoms items p k xs ts → ShowsAll (λ x. x) atoms items p k xs us → ts ≡ us
    shows_all_same folding.none folding.none = refl
    shows_all_same (folding.more h hs) (folding.more g gs) = same_terms (shows_same h g) (shows_all_same hs gs)

  abbrev item_of : SolidAtom → FoldedTerms → FoldedItem
  item_of a ts = record { label = a.label; arguments = ts }

  same_item : (a b : SolidAtom) (ts us : FoldedTerms) (is js : List FoldedItem) → a ≡ b → ts ≡ us → is ≡ js → item_of a ts ∷ is ≡ item_of b us ∷ js
  same_item a b ts us is js e f g = cc

  pub shown_same : {ps : List ℕ} {is js : List FoldedItem} → ShowsItems (λ x. x) atoms items ps is → ShowsItems (λ x. x) atoms items ps js → is ≡ js
  shown_same folding.none folding.none = refl
  shown_same (folding.more {p = p} {ts = ts} {is = is} a at h hs) (folding.more {ts = us} {is = js} b bt g gs) =
      let e = same_Some a b (sym at ∙ bt) in
      let P : SolidAtom → Type 0 = λ c. ShowsAll (λ x. x) atoms items p 0 c.links us in
      same_item a b ts us is js e (shows_all_same h (subst P (sym e) g)) (shown_same hs gs)

-- Each link stands at most twice in each membrane.

-- no link stands in more than two places of a process
abbrev pub FewIn : Process → Type 0
FewIn P = (x : ℕ) → occurrences x P ≤ 2

same_folded : (is js : List FoldedItem) (fs gs : FoldedMembranes) (rs : _) → is ≡ js → fs ≡ gs → folded is fs rs ≡ folded js gs rs
same_folded is js fs gs rs e f = cc

-- membranes with the same first and the same others are the same
pub same_membranes : {f g : Folded} {fs gs : FoldedMembranes} → f ≡ g → fs ≡ gs → membrane_and f fs ≡ membrane_and g gs
same_membranes d e = cc

mutual
  pub one_folded : {S : Region} {f g : Folded} → FewIn (region_process S) → Folds (λ x. x) S f → Folds (λ x. x) S g → f ≡ g
  one_folded few (folds {atoms = atoms} {membranes = ms} {shown = is} {inside = fs} items h s m) (folds {shown = js} {inside = gs} items' h' s' m') =
      let few_here : AtMostTwice atoms = λ x. let n = few x in omega (arith, n) in
      let few_inside : FewIn (together (regions_processes ms)) = λ x. let n = few x in omega (arith, n) in
      let e = items_same atoms items items' h h' in
      let P : List ℕ → Type 0 = λ ps. ShowsItems (λ x. x) atoms ps ps js in
      same_folded is js fs gs _ (shown_same atoms items few_here s (subst P (sym e) s')) (all_one_folded few_inside m m')

  all_one_folded : {ms : Regions} {fs gs : FoldedMembranes} → FewIn (together (regions_processes ms)) → FoldsAll (λ x. x) ms fs → FoldsAll (λ x. x) ms gs → fs ≡ gs
  all_one_folded few folding.none folding.none = refl
  all_one_folded few (folding.more {r = r} {rs = rs} {f = f} {fs = fs} h hs) (folding.more {f = g} {fs = gs} k ks) =
      let first : FewIn (region_process r) = λ x. let n = few x in omega (arith, n) in
      let others : FewIn (together (regions_processes rs)) = λ x. let n = few x in omega (arith, n) in
      same_membranes (one_folded first h k) (all_one_folded others hs ks)
