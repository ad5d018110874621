-- What is computed is the folded form.
use Rattle.std.proofs.Common.{ℕ, zero, suc, ◌≡◌, ◌⊎◌, Bool, true, false, if◌then◌else◌, List, [], ◌∷◌, ◌++◌, length, slice_get, Option, Some, None, refl, sym, ap, ◌∙◌, subst, inl, inr, arith}
use Rattle.std.proofs.lemmas.Option.{same_Some}
use Rattle.lmn_congruence.specs.Orders.{Among, at_head, further}
use Rattle.lmn_congruence.specs.Process.{together}
use Rattle.lmn_congruence.specs.Regions.{SolidAtom, Region, region, Regions, no_region, region_and, region_process, regions_processes}
use Rattle.lmn_congruence.specs.Rules.{Label, Rule}
use Rattle.lmn_print_folded.specs.Terms.{FoldedTerm, link, labelled, FoldedTerms, no_term, term_and, FoldedItem, Folded, folded, FoldedMembranes, no_membrane, membrane_and}
use Rattle.lmn_print_folded.specs.Folding as folding
use Rattle.lmn_print_folded.specs.Folding.{IsChild, itself, NoChildren, Further, AreItems, atom_positions, Shows, as_link, as_term, ShowsAll, ShowsItems, Folds, folds, FoldsAll}
use Rattle.lmn_print_folded.proofs.Places.{AtMostTwice, one_child, one_parent}
use Rattle.lmn_print_folded.proofs.OneFolded.{FewIn}
use Rattle.lmn_print_folded.proofs.Choosing.{FromItem, Closed, seen_again, no_parent, by_parent}
use Rattle.lmn_print_folded.proofs.Computing.{one_of, one_true, true_one, parent_of, child_of, parent_some, parent_none, child_some, child_none}

-- What may be wanting.

abbrev bind : {A B : Type 0} → Option A → (A → Option B) → Option B
bind None f = None
bind (Some a) f = f a

bind_some : {A B : Type 0} (o : Option A) (f : A → Option B) (b : B) → bind o f ≡ Some b → (a : A) × (o ≡ Some a) × (f a ≡ Some b)
bind_some None f b e = absurd (cc)
bind_some (Some a) f b e = (a, refl, e)

abbrev all_but_last : List ℕ → List ℕ
all_but_last [] = []
all_but_last (x ∷ []) = []
all_but_last (x ∷ y ∷ ys) = x ∷ all_but_last (y ∷ ys)

but_last : (xs : List ℕ) (x : ℕ) → all_but_last (xs ++ x ∷ []) ≡ xs
but_last [] x = refl
but_last (y ∷ []) x = refl
but_last (y ∷ z ∷ zs) x = ap (λ ws. y ∷ ws) (but_last (z ∷ zs) x)

module _ (atoms : List SolidAtom) (items : List ℕ) where
  -- Terms.

  abbrev labelled_by : Option FoldedTerms → Label → Option FoldedTerm
  labelled_by None l = None
  labelled_by (Some ts) l = Some (labelled l ts)

  abbrev term_of : (ℕ → List ℕ → Option FoldedTerms) → ℕ → ℕ → Option FoldedTerm
  term_of inside q x = if one_of q items then Some (link x) else bind (slice_get atoms q) (λ a. labelled_by (inside q (all_but_last a.links)) a.label)

  abbrev term_at : (ℕ → List ℕ → Option FoldedTerms) → Option ℕ → ℕ → Option FoldedTerm
  term_at inside None x = Some (link x)
  term_at inside (Some q) x = term_of inside q x

  abbrev and_terms : Option FoldedTerm → Option FoldedTerms → Option FoldedTerms
  and_terms None us = None
  and_terms (Some t) None = None
  and_terms (Some t) (Some ts) = Some (term_and t ts)

  abbrev ports : (ℕ → List ℕ → Option FoldedTerms) → ℕ → ℕ → List ℕ → Option FoldedTerms
  ports inside p k [] = Some no_term
  ports inside p k (x ∷ xs) = and_terms (term_at inside (child_of atoms p k) x) (ports inside p (suc k) xs)

  abbrev arguments : ℕ → ℕ → List ℕ → Option FoldedTerms
  arguments zero p xs = None
  arguments (suc n) p xs = ports (arguments n) p 0 xs

  module _ (few : AtMostTwice atoms) (inside : ℕ → List ℕ → Option FoldedTerms) (right : (q : ℕ) (xs : List ℕ) (ts : FoldedTerms) → inside q xs ≡ Some ts → ShowsAll (λ x. x) atoms items q 0 xs ts) where
    labelled_some : (o : Option FoldedTerms) (l : Label) (t : FoldedTerm) → labelled_by o l ≡ Some t → (ts : FoldedTerms) × (o ≡ Some ts) × (labelled l ts ≡ t)
    labelled_some None l t e = absurd (cc)
    labelled_some (Some ts) l t e = (ts, refl, same_Some _ _ e)

    shown_at : (p k x : ℕ) (o : Option ℕ) (t : FoldedTerm) → child_of atoms p k ≡ o → term_at inside o x ≡ Some t → Shows (λ x. x) atoms items p k x t
    shown_at p k x None t e f =
        let P : FoldedTerm → Type 0 = λ t. Shows (λ x. x) atoms items p k x t in
        subst P (same_Some _ _ f) (as_link (λ q c. absurd (child_none atoms p k e q c)))
    shown_at p k x (Some q) t e f = go (one_of q items) refl f
      where
        c : IsChild atoms q p k
        c = child_some atoms p k q e

        go : (b : Bool) → one_of q items ≡ b → (if b then Some (link x) else bind (slice_get atoms q) (λ a. labelled_by (inside q (all_but_last a.links)) a.label)) ≡ Some t → Shows (λ x. x) atoms items p k x t
        go true g f =
            let P : FoldedTerm → Type 0 = λ t. Shows (λ x. x) atoms items p k x t in
            let Q : ℕ → Type 0 = λ z. Among z items in
            subst P (same_Some _ _ f) (as_link (λ r d. subst Q (one_child atoms q r p k few c d) (one_true q items g)))
        go false g f =
            let h = bind_some (slice_get atoms q) (λ (a : SolidAtom). labelled_by (inside q (all_but_last a.links)) a.label) t f in
            let a = h.0 in
            let same = same_Some c.child a (sym c.child_at ∙ h.1) in
            let l = labelled_some (inside q (all_but_last a.links)) a.label t h.2 in
            let links : all_but_last a.links ≡ c.first_links = ap (λ (b : SolidAtom). all_but_last b.links) (sym same) ∙ ap all_but_last c.links ∙ but_last c.first_links c.last_link in
            let P : FoldedTerm → Type 0 = λ t. Shows (λ x. x) atoms items p k x t in
            subst P (ap (λ (b : SolidAtom). labelled b.label l.0) same ∙ l.2)
            (as_term c (true_one q items g) (right q c.first_links l.0 (ap (inside q) (sym links) ∙ l.1)))

    and_some : (o : Option FoldedTerm) (u : Option FoldedTerms) (ts : FoldedTerms) → and_terms o u ≡ Some ts → (t : FoldedTerm) × (us : FoldedTerms) × (o ≡ Some t) × (u ≡ Some us) × (term_and t us ≡ ts)
    and_some None u ts e = absurd (cc)
    and_some (Some t) None ts e = absurd (cc)
    and_some (Some t) (Some us) ts e = (t, us, refl, refl, same_Some _ _ e)

    ports_right : (p k : ℕ) (xs : List ℕ) (ts : FoldedTerms) → ports inside p k xs ≡ Some ts → ShowsAll (λ x. x) atoms items p k xs ts
    ports_right p k [] ts e = let P : FoldedTerms → Type 0 = λ ts. ShowsAll (λ x. x) atoms items p k [] ts in subst P (same_Some _ _ e) folding.none
    ports_right p k (x ∷ xs) ts e =
        let h = and_some (term_at inside (child_of atoms p k) x) (ports inside p (suc k) xs) ts e in
        let P : FoldedTerms → Type 0 = λ ts. ShowsAll (λ x. x) atoms items p k (x ∷ xs) ts in
        subst P h.4 (folding.more (shown_at p k x (child_of atoms p k) h.0 refl h.2) (ports_right p (suc k) xs h.1 h.3))

  arguments_right : AtMostTwice atoms → (n : ℕ) (q : ℕ) (xs : List ℕ) (ts : FoldedTerms) → arguments n q xs ≡ Some ts → ShowsAll (λ x. x) atoms items q 0 xs ts
  arguments_right few zero q xs ts e = absurd (cc)
  arguments_right few (suc n) q xs ts e = ports_right few (arguments n) (λ r ys us f. arguments_right few n r ys us f) q 0 xs ts e

  abbrev and_items : Option FoldedItem → Option (List FoldedItem) → Option (List FoldedItem)
  and_items None us = None
  and_items (Some i) None = None
  and_items (Some i) (Some is) = Some (i ∷ is)

  abbrev item_of : Option FoldedTerms → Label → Option FoldedItem
  item_of None l = None
  item_of (Some ts) l = Some (record { label = l; arguments = ts })

  abbrev items_of : List ℕ → Option (List FoldedItem)
  items_of [] = Some []
  items_of (p ∷ ps) = and_items (bind (slice_get atoms p) (λ a. item_of (arguments (suc (length atoms)) p a.links) a.label)) (items_of ps)

  and_items_some : (o : Option FoldedItem) (u : Option (List FoldedItem)) (is : List FoldedItem) → and_items o u ≡ Some is → (i : FoldedItem) × (js : List FoldedItem) × (o ≡ Some i) × (u ≡ Some js) × (i ∷ js ≡ is)
  and_items_some None u is e = absurd (cc)
  and_items_some (Some i) None is e = absurd (cc)
  and_items_some (Some i) (Some js) is e = (i, js, refl, refl, same_Some _ _ e)

  item_some : (o : Option FoldedTerms) (l : Label) (i : FoldedItem) → item_of o l ≡ Some i → (ts : FoldedTerms) × (o ≡ Some ts) × (record { label = l; arguments = ts } ≡ i)
  item_some None l i e = absurd (cc)
  item_some (Some ts) l i e = (ts, refl, same_Some _ _ e)

  same_list : (i j : FoldedItem) (is js : List FoldedItem) → i ≡ j → j ∷ is ≡ js → i ∷ is ≡ js
  same_list i j is js e f = cc

  items_right : AtMostTwice atoms → (ps : List ℕ) (is : List FoldedItem) → items_of ps ≡ Some is → ShowsItems (λ x. x) atoms items ps is
  items_right few [] is e = let P : List FoldedItem → Type 0 = λ is. ShowsItems (λ x. x) atoms items [] is in subst P (same_Some _ _ e) folding.none
  items_right few (p ∷ ps) is e =
      let f = λ (a : SolidAtom). item_of (arguments (suc (length atoms)) p a.links) a.label in
      let h = and_items_some (bind (slice_get atoms p) f) (items_of ps) is e in
      let a = bind_some (slice_get atoms p) f h.0 h.2 in
      let l = item_some (arguments (suc (length atoms)) p a.0.links) a.0.label h.0 a.2 in
      let P : List FoldedItem → Type 0 = λ is. ShowsItems (λ x. x) atoms items (p ∷ ps) is in
      subst P (same_list (record { label = a.0.label; arguments = l.0 }) h.0 h.1 is l.2 h.4)
      (folding.more a.0 a.1 (arguments_right few (suc (length atoms)) p a.0.links l.0 l.1) (items_right few ps h.1 h.3))

-- Items.

abbrev with_first : Option ℕ → ℕ → List ℕ → List ℕ
with_first None q is = q ∷ is
with_first (Some p) q is = is

abbrev pick : Option Bool → List ℕ → ℕ → (List ℕ → Option (List ℕ)) → Option (List ℕ)
pick None items q f = None
pick (Some true) items q f = f items
pick (Some false) items q f = f (items ++ q ∷ [])

module _ (atoms : List SolidAtom) where
  abbrev next : (ℕ → Option Bool) → Option ℕ → Option Bool
  next again None = Some false
  next again (Some p) = again p

  abbrev climbs : ℕ → List ℕ → List ℕ → ℕ → Option Bool
  climbs zero items seen q = None
  climbs (suc n) items seen q =
      if one_of q items then Some true else (if one_of q seen then Some false else next (climbs n items (q ∷ seen)) (parent_of atoms q))

  abbrev firsts : List ℕ → List ℕ
  firsts [] = []
  firsts (q ∷ qs) = with_first (parent_of atoms q) q (firsts qs)

  abbrev furthers : List ℕ → List ℕ → Option (List ℕ)
  furthers items [] = Some items
  furthers items (q ∷ qs) = pick (climbs (suc (length atoms)) items [] q) items q (λ is. furthers is qs)

  firsts_right : (qs : List ℕ) → NoChildren atoms qs (firsts qs)
  firsts_right [] = folding.none
  firsts_right (q ∷ qs) = go (parent_of atoms q) refl (firsts_right qs)
    where
      go : (o : Option ℕ) → parent_of atoms q ≡ o → NoChildren atoms qs (firsts qs) → NoChildren atoms (q ∷ qs) (with_first o q (firsts qs))
      go None e more = folding.kept (parent_none atoms q e) more
      go (Some p) e more = let h = parent_some atoms q p e in folding.left p h.0 h.1 more

  module _ (few : AtMostTwice atoms) where
    abbrev Says : List ℕ → Bool → ℕ → Type 0
    Says items true q = FromItem atoms items few q
    Says items false q = ¬ (FromItem atoms items few q)

    says_as : (items : List ℕ) (b c : Bool) (q : ℕ) → b ≡ c → Says items b q → Says items c q
    says_as items b c q e h = let P : Bool → Type 0 = λ b. Says items b q in subst P e h

    climbs_right : (n : ℕ) (items seen : List ℕ) (q : ℕ) (b : Bool) → climbs n items seen q ≡ Some b → Closed atoms items few seen q → Says items b q
    climbs_right zero items seen q b e closed = absurd (cc)
    climbs_right (suc n) items seen q b e closed = at_item (one_of q items) refl e (λ p c f k. climbs_right n items (q ∷ seen) p c f k)
      where
        Again : Type 0
        Again = (p : ℕ) (c : Bool) → climbs n items (q ∷ seen) p ≡ Some c → Closed atoms items few (q ∷ seen) p → Says items c p

        next_closed : (p k : ℕ) → IsChild atoms q p k → ¬ (Among q items) → Closed atoms items few (q ∷ seen) p
        next_closed p k c m v at_head = (m, λ r j d. inr (one_parent atoms q r j p k few d c).0)
        next_closed p k c m v (further a) = ((closed v a).0, λ r j d. up r ((closed v a).1 r j d))
          where
            up : (r : ℕ) → Among r seen ⊎ (r ≡ q) → Among r (q ∷ seen) ⊎ (r ≡ p)
            up r (inl h) = inl (further h)
            up r (inr e) = let P : ℕ → Type 0 = λ z. Among z (q ∷ seen) in inl (subst P (sym e) at_head)

        lifted : (p k : ℕ) (c : Bool) → IsChild atoms q p k → ¬ (Among q items) → Says items c p → Says items c q
        lifted p k true c m h = (h.0, (h.1.0, folding.child h.1.1 c))
        lifted p k false c m n = λ h. by_parent atoms items few q p k m c n h.1.0 h.1.1

        at_parent : (o : Option ℕ) → parent_of atoms q ≡ o → ¬ (Among q items) → next (climbs n items (q ∷ seen)) o ≡ Some b → Again → Says items b q
        at_parent None f m e again =
            says_as items false b q (same_Some _ _ e) (λ h. no_parent atoms items few q m (λ g. parent_none atoms q f g.0 g.1.0 g.1.1) h.1.0 h.1.1)
        at_parent (Some p) f m e again = let c = parent_some atoms q p f in lifted p c.0 b c.1 m (again p b e (next_closed p c.0 c.1 m))

        at_seen : (t : Bool) → one_of q seen ≡ t → ¬ (Among q items) → (if t then Some false else next (climbs n items (q ∷ seen)) (parent_of atoms q)) ≡ Some b → Again → Says items b q
        at_seen true f m e again =
            let a = one_true q seen f in
            says_as items false b q (same_Some _ _ e) (λ h. (closed h.0 (seen_again atoms items few seen q closed a h.1.1 a)).0 h.1.0)
        at_seen false f m e again = at_parent (parent_of atoms q) refl m e again

        at_item : (t : Bool) → one_of q items ≡ t → (if t then Some true else (if one_of q seen then Some false else next (climbs n items (q ∷ seen)) (parent_of atoms q))) ≡ Some b → Again → Says items b q
        at_item true f e again = says_as items true b q (same_Some _ _ e) (q, (one_true q items f, itself))
        at_item false f e again = at_seen (one_of q seen) refl (true_one q items f) e again

    none_seen : {A : Type 0} (v : ℕ) → Among v [] → A
    none_seen v h = elim h [ ]

    furthers_right : (items qs all : List ℕ) → furthers items qs ≡ Some all → Further atoms items qs all
    furthers_right items [] all e = let P : List ℕ → Type 0 = λ all. Further atoms items [] all in subst P (same_Some _ _ e) folding.none
    furthers_right items (q ∷ qs) all e = go (climbs (suc (length atoms)) items [] q) refl e (λ is f. furthers_right is qs all f)
      where
        go : (o : Option Bool) → climbs (suc (length atoms)) items [] q ≡ o → pick o items q (λ is. furthers is qs) ≡ Some all
            → ((is : List ℕ) → furthers is qs ≡ Some all → Further atoms is qs all) → Further atoms items (q ∷ qs) all
        go None f e more = absurd (cc)
        go (Some true) f e more =
            let h = climbs_right (suc (length atoms)) items [] q true f (λ v a. none_seen v a) in folding.printed h.0 h.1.0 h.1.1 (more items e)
        go (Some false) f e more =
            let h = climbs_right (suc (length atoms)) items [] q false f (λ v a. none_seen v a) in folding.item (λ i a d. h (i, (a, d))) (more (items ++ q ∷ []) e)

-- Regions.

abbrev in_folded : Option (List FoldedItem) → Option FoldedMembranes → List Rule → Option Folded
in_folded None fs rs = None
in_folded (Some is) None rs = None
in_folded (Some is) (Some fs) rs = Some (folded is fs rs)

abbrev and_membrane : Option Folded → Option FoldedMembranes → Option FoldedMembranes
and_membrane None fs = None
and_membrane (Some f) None = None
and_membrane (Some f) (Some fs) = Some (membrane_and f fs)

abbrev mutual
  pub folded_of : Region → Option Folded
  folded_of (region atoms ms rs) =
      bind (furthers atoms (firsts atoms (atom_positions atoms)) (atom_positions atoms)) (λ items. in_folded (items_of atoms items items) (all_folded ms) rs)

  pub all_folded : Regions → Option FoldedMembranes
  all_folded no_region = Some no_membrane
  all_folded (region_and r rs) = and_membrane (folded_of r) (all_folded rs)

in_some : (o : Option (List FoldedItem)) (u : Option FoldedMembranes) (rs : List Rule) (f : Folded) → in_folded o u rs ≡ Some f
    → (is : List FoldedItem) × (fs : FoldedMembranes) × (o ≡ Some is) × (u ≡ Some fs) × (folded is fs rs ≡ f)
in_some None u rs f e = absurd (cc)
in_some (Some is) None rs f e = absurd (cc)
in_some (Some is) (Some fs) rs f e = (is, fs, refl, refl, same_Some _ _ e)

membrane_some : (o : Option Folded) (u : Option FoldedMembranes) (fs : FoldedMembranes) → and_membrane o u ≡ Some fs
    → (f : Folded) × (gs : FoldedMembranes) × (o ≡ Some f) × (u ≡ Some gs) × (membrane_and f gs ≡ fs)
membrane_some None u fs e = absurd (cc)
membrane_some (Some f) None fs e = absurd (cc)
membrane_some (Some f) (Some gs) fs e = (f, gs, refl, refl, same_Some _ _ e)

mutual
  pub computed : (S : Region) (f : Folded) → FewIn (region_process S) → folded_of S ≡ Some f → Folds (λ x. x) S f
  computed (region atoms ms rs) f few e =
      let few_here : AtMostTwice atoms = λ x. let n = few x in omega (arith, n) in
      let few_inside : FewIn (together (regions_processes ms)) = λ x. let n = few x in omega (arith, n) in
      let found = furthers atoms (firsts atoms (atom_positions atoms)) (atom_positions atoms) in
      let h = bind_some found (λ items. in_folded (items_of atoms items items) (all_folded ms) rs) f e in
      let i = in_some (items_of atoms h.0 h.0) (all_folded ms) rs f h.2 in
      let items : AreItems atoms h.0 = record {
        firsts = firsts atoms (atom_positions atoms);
        no_children = firsts_right atoms (atom_positions atoms);
        further = furthers_right atoms few_here (firsts atoms (atom_positions atoms)) (atom_positions atoms) h.0 h.1;
      } in
      let P : Folded → Type 0 = λ f. Folds (λ x. x) (region atoms ms rs) f in
      subst P i.4 (folds h.0 items (items_right atoms h.0 few_here h.0 i.0 i.2) (all_computed ms i.1 few_inside i.3))

  all_computed : (ms : Regions) (fs : FoldedMembranes) → FewIn (together (regions_processes ms)) → all_folded ms ≡ Some fs → FoldsAll (λ x. x) ms fs
  all_computed no_region fs few e = let P : FoldedMembranes → Type 0 = λ fs. FoldsAll (λ x. x) no_region fs in subst P (same_Some _ _ e) folding.none
  all_computed (region_and r rs) fs few e =
      let first : FewIn (region_process r) = λ x. let n = few x in omega (arith, n) in
      let others : FewIn (together (regions_processes rs)) = λ x. let n = few x in omega (arith, n) in
      let h = membrane_some (folded_of r) (all_folded rs) fs e in
      let P : FoldedMembranes → Type 0 = λ fs. FoldsAll (λ x. x) (region_and r rs) fs in
      subst P h.4 (folding.more (computed r h.0 first h.2) (all_computed rs h.1 others h.3))
