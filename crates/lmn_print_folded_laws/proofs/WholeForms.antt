-- A folded form, taken apart, is the region with its atoms in another order.
use Rattle.std.proofs.Common.{◌≡◌, ℕ, suc, zero, ◌+◌, List, [], ◌∷◌, ◌++◌, length, slice_get, Some, refl, sym, ap, ◌∙◌, subst, arith}
use Rattle.std.proofs.lemmas.Option.{same_Some}
use Rattle.lmn_congruence.specs.Orders.{Among, Shuffle}
use Rattle.lmn_congruence.specs.Process.{together}
use Rattle.lmn_congruence.specs.Regions.{SolidAtom, Region, region, Regions, no_region, region_and, region_process, regions_processes, solid_atom_with}
use Rattle.lmn_congruence.specs.Same.{renamed_atom}
use Rattle.lmn_print_folded.specs.Terms.{FoldedTerm, FoldedTerms, FoldedItem, Folded, FoldedMembranes}
use Rattle.lmn_print_folded.specs.Folding as folding
use Rattle.lmn_print_folded.specs.Folding.{IsChild, AreItems, atom_positions, Shows, as_link, as_term, ShowsAll, ShowsItems, Folds, folds, FoldsAll}
use Rattle.lmn_print_folded.proofs.Places.{AtMostTwice}
use Rattle.lmn_print_folded.proofs.OneFolded.{FewIn}
use Rattle.lmn_print_folded.proofs.FoldedLines.{few_in}
use Rattle.lmn_print_folded.proofs.SomeFolded.{items_below}
use Rattle.lmn_print_folded.proofs.Choosing.{positions_all}
use Rattle.lmn_print_folded_laws.specs.Reordered.{AtomsReordered, atoms_reordered, EachReordered, none_reordered, more_reordered}
use Rattle.lmn_print_folded_laws.specs.Whole.{TermWhole, link_whole, atom_whole, TermsWhole, none_whole, more_whole, ItemsWhole, no_items, items_whole, FoldedWhole, folded_whole, MembranesWhole, no_membranes, membranes_whole, FoldedFormsAreWhole}
use Rattle.lmn_print_folded_laws.proofs.Once.{AtomsAt, atoms_append, positions_at, same_atoms, same_elements, range_once}
use Rattle.lmn_print_folded_laws.proofs.Printing.{shown_order, all_order, items_order, once_items, all_printed, printed_below, items_once, each_from_item}

module _ (atoms : List SolidAtom) (few : AtMostTwice atoms) (items : List ℕ) where
  -- these are the links of ports of the atom p from k on
  abbrev PortsAre : ℕ → ℕ → List ℕ → Type 0
  PortsAre p k xs = (a : SolidAtom) → slice_get atoms p ≡ Some a → (j x : ℕ) → slice_get xs j ≡ Some x → slice_get a.links (k + j) ≡ Some x

  record TermFound (t : FoldedTerm) (x : ℕ) (order : List ℕ) : Type 0 where
    found : List SolidAtom
    whole : TermWhole t x found
    at_order : AtomsAt atoms order found

  record TermsFound (ts : FoldedTerms) (xs : List ℕ) (order : List ℕ) : Type 0 where
    found : List SolidAtom
    whole : TermsWhole ts xs found
    at_order : AtomsAt atoms order found

  in_front : (xs : List ℕ) (y : ℕ) (j x : ℕ) → slice_get xs j ≡ Some x → slice_get (xs ++ y ∷ []) j ≡ Some x
  in_front [] y j x e = absurd (cc)
  in_front (z ∷ xs) y zero x e = e
  in_front (z ∷ xs) y (suc j) x e = in_front xs y j x e

  first_ports : {q p k : ℕ} (c : IsChild atoms q p k) → PortsAre q 0 c.first_links
  first_ports c a e j x f =
      let same = same_Some c.child a (sym c.child_at ∙ e) in
      let e : 0 + j ≡ j = omega arith in
      ap (slice_get a.links) e ∙ ap (λ (b : SolidAtom). slice_get b.links j) (sym same) ∙ ap (λ ls. slice_get ls j) c.links ∙ in_front c.first_links c.last_link j x f

  mutual
    found_one : {p k x : ℕ} {t : FoldedTerm} (s : Shows (λ x. x) atoms items p k x t) → ((a : SolidAtom) → slice_get atoms p ≡ Some a → slice_get a.links k ≡ Some x) → TermFound t x (shown_order atoms few items s)
    found_one (as_link h) port = record { found = []; whole = link_whole; at_order = tt }
    found_one {p} {k} {x} (as_term {q = q} {ts = ts} c n s) port =
        let inside = found_all s (first_ports c) in
        let own : c.last_link ≡ x = same_Some _ _ (sym c.joined ∙ port c.parent c.parent_at) in
        let it = solid_atom_with c.child.label (c.first_links ++ x ∷ []) in
        let same : c.child ≡ it = ap (λ ls. solid_atom_with c.child.label ls) (c.links ∙ ap (λ y. c.first_links ++ y ∷ []) own) in
        record { found = it ∷ inside.found; whole = atom_whole inside.whole; at_order = (c.child_at ∙ ap Some same, inside.at_order) }

    found_all : {p k : ℕ} {xs : List ℕ} {ts : FoldedTerms} (s : ShowsAll (λ x. x) atoms items p k xs ts) → PortsAre p k xs → TermsFound ts xs (all_order atoms few items s)
    found_all folding.none ports = record { found = []; whole = none_whole; at_order = tt }
    found_all {p} {k} (folding.more {x = x} {xs = xs} h hs) ports =
        let one = found_one h here_port in
        let others = found_all hs later_ports in
        record {
          found = one.found ++ others.found;
          whole = more_whole one.whole others.whole;
          at_order = atoms_append atoms (shown_order atoms few items h) (all_order atoms few items hs) one.found others.found one.at_order others.at_order;
        }
      where
        here_port : (a : SolidAtom) → slice_get atoms p ≡ Some a → slice_get a.links k ≡ Some x
        here_port a e = let P : ℕ → Type 0 = λ z. slice_get a.links z ≡ Some x in subst P (omega arith) (ports a e 0 x refl)

        later_ports : PortsAre p (suc k) xs
        later_ports a e j y f = let P : ℕ → Type 0 = λ z. slice_get a.links z ≡ Some y in subst P (omega arith) (ports a e (suc j) y f)

  record ItemsFound (is : List FoldedItem) (order : List ℕ) : Type 0 where
    found : List SolidAtom
    whole : ItemsWhole is found
    at_order : AtomsAt atoms order found

  found_items : {ps : List ℕ} {is : List FoldedItem} (s : ShowsItems (λ x. x) atoms items ps is) → ItemsFound is (items_order atoms few items s)
  found_items folding.none = record { found = []; whole = no_items; at_order = tt }
  found_items (folding.more {p = p} a e s rest) =
      let inside = found_all s ports in
      let others = found_items rest in
      record {
        found = a ∷ (inside.found ++ others.found);
        whole = items_whole inside.whole others.whole;
        at_order = (e, atoms_append atoms (all_order atoms few items s) (items_order atoms few items rest) inside.found others.found inside.at_order others.at_order);
      }
    where
      ports : PortsAre p 0 a.links
      ports b f j x g =
          let z : 0 + j ≡ j = omega arith in ap (slice_get b.links) z ∙ ap (λ (c : SolidAtom). slice_get c.links j) (same_Some b a (sym f ∙ e)) ∙ g

-- the atoms of one membrane
one_membrane : (atoms : List SolidAtom) (items : List ℕ) {shown : List FoldedItem} → AtMostTwice atoms → AreItems atoms items → (s : ShowsItems (λ x. x) atoms items items shown)
    → (found : List SolidAtom) × ItemsWhole shown found × Shuffle (λ a b. renamed_atom (λ x. x) a ≡ b) atoms found
one_membrane atoms items few are s =
    let it = found_items atoms few items s in
    let order = items_order atoms few items s in
    let once = once_items atoms few items s (items_once atoms items are) (λ v a. a) in
    let into : (v : ℕ) → Among v (atom_positions atoms) → Among v order = λ v a. let h = each_from_item atoms items are v a in all_printed atoms few items s h.1.0 h.1.1 in
    let back : (v : ℕ) → Among v order → Among v (atom_positions atoms) =
    λ v a. let l = printed_below atoms few items s (λ w b. b) (items_below atoms few items are) v a in positions_all atoms items few 0 (length atoms) v (omega arith) (omega (arith, l)) in
    (it.found, it.whole, same_atoms atoms atoms it.found (same_elements (atom_positions atoms) order (range_once 0 (length atoms)) once into back) (positions_at atoms) it.at_order)

mutual
  whole_region : {S : Region} {f : Folded} → FewIn (region_process S) → Folds (λ x. x) S f → (T : Region) × FoldedWhole f T × AtomsReordered (λ x. x) S T
  whole_region few (folds {atoms = atoms} {membranes = ms} {rules = rs} items are s inside) =
      let few_here : AtMostTwice atoms = λ x. let n = few x in omega (arith, n) in
      let few_inside : FewIn (together (regions_processes ms)) = λ x. let n = few x in omega (arith, n) in
      let it = one_membrane atoms items few_here are s in
      let below = whole_regions few_inside inside in
      (region it.0 below.0 rs, folded_whole it.1 below.1, atoms_reordered it.2 below.2)

  whole_regions : {ms : Regions} {fs : FoldedMembranes} → FewIn (together (regions_processes ms)) → FoldsAll (λ x. x) ms fs → (ns : Regions) × MembranesWhole fs ns × EachReordered (λ x. x) ms ns
  whole_regions few folding.none = (no_region, no_membranes, none_reordered)
  whole_regions few (folding.more {r = r} {rs = rs} h hs) =
      let first_few : FewIn (region_process r) = λ x. let n = few x in omega (arith, n) in
      let others_few : FewIn (together (regions_processes rs)) = λ x. let n = few x in omega (arith, n) in
      let one = whole_region first_few h in
      let others = whole_regions others_few hs in
      (region_and one.0 others.0, membranes_whole one.1 others.1, more_reordered one.2 others.2)

-- the folded form of a region, taken apart, is that region up to the order of atoms
pub folded_forms_are_whole : FoldedFormsAreWhole
folded_forms_are_whole S f closed h = whole_region (few_in (region_process S) closed) h
