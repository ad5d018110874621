-- Marks that tell the items tell what is printed.
use Rattle.std.proofs.Common.{◌≡◌, ◌≢◌, ℕ, zero, suc, ◌+◌, ◌-◌, ◌⊎◌, ◌==◌, ◌&&◌, ◌||◌, not, if◌then◌else◌, Bool, true, false, List, [], ◌∷◌, map, slice_get, Option, Some, None, refl, sym, ap, ◌∙◌, subst, inl, inr, arith}
use Rattle.std.proofs.lemmas.Bool.{eq-eqb, eqb-true}
use Rattle.std.proofs.lemmas.Option.{same_Some}
use Rattle.lmn_congruence.specs.Orders.{Among}
use Rattle.lmn_congruence.specs.Regions.{SolidAtom, Region, region, no_region, region_process}
use Rattle.lmn_congruence.specs.Rules.{Name}
use Rattle.lmn_print_folded.specs.Folding.{IsChild, AreItems, Shows, as_link, as_term, ShowsAll, ShowsItems, Folds, folds}
use Rattle.lmn_print_folded.specs.Folding as folding
use Rattle.lmn_print_folded.specs.Terms.{FoldedTerm, link, labelled, FoldedTerms, FoldedItem, Folded}
use Rattle.lmn_print_folded.proofs.Places.{AtMostTwice}
use Rattle.lmn_print_folded.proofs.OneFolded.{FewIn, items_same}
use Rattle.lmn_print_folded.proofs.SomeFolded.{some_folded}
use Rattle.lmn_print_folding.specs.Marks.{is_item, is_end_of_term, term_by, term_at}
use Rattle.lmn_print_folding.specs.Printed.{PrintsArgument, PrintsAll}
use Rattle.lmn_print_folding.specs.Printed as printed
use Rattle.lmn_store_heap.specs.Heap.{Heap, Place, top, within, waiting, gone, IsMem, arity_of, atoms_in, home_of, link_of, own_mark}
use Rattle.lmn_store_heap.specs.Solid.{IsNaming, links_from}
use Rattle.lmn_store_heap.specs.Sound.{Valid}
use Rattle.lmn_store_heap.proofs.Replacing.{port_within}
use Rattle.lmn_print_plain.proofs.OrderLemmas.{at_home}
use Rattle.lmn_print_folding.specs.Chosen.{PrintsItems, TellsItems, atoms_with, items_in}
use Rattle.lmn_print_folding.specs.Chosen as chosen
use Rattle.lmn_print_folding.specs.Children.{IsChildAt, IsMarkedIn, MarkedAreTold}
use Rattle.lmn_print_folding.proofs.AtomsOfPositions.{atom_with, functor_is, atoms_are, atom_at, atom_behind, few_places}
use Rattle.lmn_print_folding.proofs.ChildPositions.{child_is, to_heap, from_heap}
use Rattle.lmn_print_folding.proofs.ItemsByMarks.{StandAt, has_parent, items, are_items, item_has, item_is, items_stand}
use Rattle.lmn_print_folding.proofs.ItemsByMarks as by_marks
use Rattle.lmn_base.proofs.Lists.{some_is as some_of}
use Rattle.lmn_base.proofs.Numbers.{equal_when as equal_numbers}
use Rattle.lmn_base.proofs.Truth.{and_true as and_both, not_true}
use Rattle.lmn_store_heap.proofs.Common.{in_at, is_atom_at as port_there, same_port, position}
use Rattle.lmn_print_plain.proofs.ToldLemmas.{all_atoms}
use Rattle.lmn_base.specs.Lists.{In}

-- A region of atoms alone is folded to items.

abbrev FoldedAtoms : Region → Type 0
FoldedAtoms (region atoms ms rs) = (ps : List ℕ) × (shown : List FoldedItem) × AreItems atoms ps × ShowsItems (λ x. x) atoms ps ps shown

folded_atoms : (S : Region) (f : Folded) → Folds (λ x. x) S f → FoldedAtoms S
folded_atoms _ _ (folds {shown = shown} ps are shows inside) = (ps, shown, are, shows)

some_shown : (atoms : List SolidAtom) (ps : List ℕ) → AtMostTwice atoms → AreItems atoms ps → (shown : List FoldedItem) × ShowsItems (λ x. x) atoms ps ps shown
some_shown atoms ps few are =
    let S : Region = region atoms no_region [] in
    let few_in : FewIn (region_process S) = λ x. let n = few x in omega (arith, n) in
    let f = some_folded S few_in in
    let there = folded_atoms S f.0 f.1 in
    (there.1, subst (λ qs. ShowsItems (λ x. x) atoms qs qs there.1) (items_same atoms there.0 ps there.2 are) there.3)

-- marks of items

-- an atom with the own mark 1 or 2 is an item
pub item_mark : (s : Heap) (a : ℕ) → (own_mark s a ≡ 1) ⊎ (own_mark s a ≡ 2) → is_item s a ≡ true
item_mark s a (inl e) = ap (λ t. t || (own_mark s a == 2)) (eq-eqb (own_mark s a) 1 e)
item_mark s a (inr e) = by (own_mark s a == 1) (own_mark s a == 2) (eq-eqb (own_mark s a) 2 e)
  where
    by : (t u : Bool) → u ≡ true → (t || u) ≡ true
    by true u e = refl
    by false u e = e

-- and an item has one of these
pub mark_item : (s : Heap) (a : ℕ) → is_item s a ≡ true → (own_mark s a ≡ 1) ⊎ (own_mark s a ≡ 2)
mark_item s a e = by (own_mark s a == 1) refl (own_mark s a == 2) refl e
  where
    by : (t : Bool) → (own_mark s a == 1) ≡ t → (u : Bool) → (own_mark s a == 2) ≡ u → (t || u) ≡ true → (own_mark s a ≡ 1) ⊎ (own_mark s a ≡ 2)
    by true f u g e = inl (eqb-true (own_mark s a) 1 f)
    by false f true g e = inr (eqb-true (own_mark s a) 2 g)
    by false f false g e = absurd (cc e)

same_home : (m n : ℕ) → Some (within m) ≡ Some (within n) → m ≡ n
same_home m n e = ap home_or (same_Some (within m) (within n) e)
  where
    home_or : Place → ℕ
    home_or top = 0
    home_or (within k) = k
    home_or waiting = 0
    home_or gone = 0

first_is : (x : ℕ) (xs : List ℕ) (y : ℕ) (ys : List ℕ) → x ∷ xs ≡ y ∷ ys → x ≡ y
first_is x xs y ys e = cc

rest_is : (x : ℕ) (xs : List ℕ) (y : ℕ) (ys : List ℕ) → x ∷ xs ≡ y ∷ ys → xs ≡ ys
rest_is x xs y ys e = cc

module _ (names : List Name) (s : Heap) (valid : Valid s) (name : ℕ → ℕ → ℕ) (naming : IsNaming s name) (all : (m : ℕ) → IsMem s m → IsMarkedIn s m) (m : ℕ) (is_mem : IsMem s m) where
  marks : IsMarkedIn s m
  marks = all m is_mem

  abbrev atoms : List SolidAtom
  atoms = map (atom_with names s name) (atoms_in s m)

  abbrev here : List ℕ
  here = items names s valid name naming m (all m is_mem)

  -- The last port of an atom that is no item is joined to a port of the atom of which it is a child there.
  below : (a i c j : ℕ) → In a (atoms_in s m) → link_of s c j ≡ Some (a, i) → j + 1 ≡ arity_of s c → is_item s c ≡ false → IsChildAt s m c a i
  below a i c j in_a l last other =
      let low = port_within s c j (a, i) l in
      let home = some_of (home_of s c) (valid.settled.atoms c (port_there s c j low)) in
      let at = at_home s valid.sound c home.0 home.1 in
      let not_first : own_mark s c ≢ 1 = λ e. absurd (cc (sym other ∙ item_mark s c (inl e))) in
      let parent = has_parent names s valid name naming home.0 (all home.0 at.1) c at.0 not_first in
      there home.0 parent.0 parent.1 parent.2
    where
      one_home : (n : ℕ) → In a (atoms_in s n) → n ≡ m
      one_home n h = same_home n m (sym ((valid.sound.listed.atoms n a).0 h) ∙ (valid.sound.listed.atoms m a).0 in_a)

      there : (n p k : ℕ) → IsChildAt s n c p k → IsChildAt s m c a i
      there n p k h =
          let port : arity_of s c - 1 ≡ j = omega (arith, last) in
          let same = same_port (sym h.joined ∙ ap (link_of s c) port ∙ l) in
          let home : n ≡ m = one_home n (subst (λ q. In q (atoms_in s n)) same.0 h.parent) in
          subst (λ o. IsChildAt s o c a i) home (subst (λ q. IsChildAt s n c q i) same.0 (subst (λ o. IsChildAt s n c p o) same.1 h))

  -- where no child is but items, no term is printed
  no_term : (p k a : ℕ) → slice_get (atoms_in s m) p ≡ Some a → ((q : ℕ) → IsChild atoms q p k → Among q here) → term_at s a k ≡ None
  no_term p k a at h = by (link_of s a k) refl
    where
      one : (r : ℕ × ℕ) → link_of s a k ≡ Some r → (t : Bool) → is_end_of_term s r ≡ t → (if t then Some r.0 else None) ≡ None
      one r l false e = refl
      one r l true e =
          let both = and_both (r.1 + 1 == arity_of s r.0) (not (is_item s r.0)) e in
          let other = not_true (is_item s r.0) both.1 in
          let back = valid.sound.paired.back a k r.0 r.1 l in
          let c = below a k r.0 r.1 (in_at (atoms_in s m) p a at) back (equal_numbers (r.1 + 1) (arity_of s r.0) both.0) other in
          let q = position (atoms_in s m) r.0 c.child in
          let mark = item_is names s valid name naming m marks q.0 r.0 q.1 (h q.0 (from_heap names s valid name naming m q.0 p k r.0 a q.1 at c)) in
          absurd (cc (sym other ∙ item_mark s r.0 mark))

      by : (o : Option (ℕ × ℕ)) → link_of s a k ≡ o → term_at s a k ≡ None
      by None l = ap (term_by s) l
      by (Some r) l = ap (term_by s) l ∙ one r l (is_end_of_term s r) refl

  -- a child that is no item is the term there
  is_term : (q p k c a : ℕ) → slice_get (atoms_in s m) q ≡ Some c → slice_get (atoms_in s m) p ≡ Some a → IsChild atoms q p k → ¬ (Among q here) → term_at s a k ≡ Some c
  is_term q p k c a e at child out =
      let h = to_heap names s valid name naming m q p k c a e at child in
      let ports = h.ports in
      let back = valid.sound.paired.back c (arity_of s c - 1) a k h.joined in
      let last : (arity_of s c - 1 + 1 == arity_of s c) ≡ true = eq-eqb (arity_of s c - 1 + 1) (arity_of s c) (omega (arith, ports)) in
      let other : is_item s c ≡ false = no_item (is_item s c) refl in
      let end : is_end_of_term s (c, arity_of s c - 1) ≡ true = ap (λ t. t && not (is_item s c)) last ∙ ap not other in
      ap (term_by s) back ∙ ap (λ t. if t then Some c else None) end
    where
      no_item : (t : Bool) → is_item s c ≡ t → t ≡ false
      no_item false f = refl
      no_item true f = absurd (out (item_has names s valid name naming m marks q c e (mark_item s c f)))

  mutual
    one_printed : (p k x : ℕ) (t : FoldedTerm) → Shows (λ x. x) atoms here p k x t → (a : ℕ) → slice_get (atoms_in s m) p ≡ Some a → x ≡ name a k → PrintsArgument names s name a k t
    one_printed p k x _ (as_link h) a at e = subst (λ y. PrintsArgument names s name a k (link y)) (sym e) (printed.as_link (no_term p k a at h))
    one_printed p k x _ (as_term {q = q} {ts = ts} c out inside) a at e =
        let b = atom_behind names s name (atoms_in s m) q c.child c.child_at in
        let f = functor_is names s name b.0 (all_atoms s valid.sound m b.0 (in_at (atoms_in s m) q b.0 b.1)) in
        let label = ap (λ (y : SolidAtom). y.label) b.2 ∙ f.2 in
        let links = (child_is names s valid name naming m q p k b.0 b.1 c).2 in
        subst (λ l. PrintsArgument names s name a k (labelled l ts)) (sym label)
        (printed.as_term b.0 f.0 (is_term q p k b.0 a b.1 at c out) f.1 (all_printed q 0 c.first_links ts inside b.0 b.1 (arity_of s b.0 - 1) links))

    all_printed : (p k : ℕ) (ls : List ℕ) (ts : FoldedTerms) → ShowsAll (λ x. x) atoms here p k ls ts → (a : ℕ) → slice_get (atoms_in s m) p ≡ Some a → (n : ℕ) → ls ≡ links_from name a k n
        → PrintsAll names s name a k n ts
    all_printed p k _ _ folding.none a at zero e = printed.none
    all_printed p k _ _ folding.none a at (suc n) e = absurd (cc e)
    all_printed p k _ _ (folding.more h hs) a at zero e = absurd (cc e)
    all_printed p k _ _ (folding.more {x = x} {xs = xs} {t = t} {ts = ts} h hs) a at (suc n) e =
        let next : suc k ≡ k + 1 = omega arith in
        let others = all_printed p (suc k) xs ts hs a at n (rest_is x xs (name a k) (links_from name a (k + 1) n) e ∙ ap (λ i. links_from name a i n) (sym next)) in
        printed.more (one_printed p k x t h a at (first_is x xs (name a k) (links_from name a (k + 1) n) e)) (subst (λ i. PrintsAll names s name a i n ts) next others)

  items_printed : (ps zs : List ℕ) (shown : List FoldedItem) → StandAt (atoms_in s m) ps zs → ShowsItems (λ x. x) atoms here ps shown → PrintsItems names s name zs shown
  items_printed _ _ _ by_marks.none folding.none = chosen.none
  items_printed _ _ _ (by_marks.more {p = p} {a = a} {ps = ps} {ys = zs} at st) (folding.more {ts = ts} {is = is} x e h hs) =
      let same : x ≡ atom_with names s name a = same_Some x (atom_with names s name a) (sym e ∙ atom_at names s name (atoms_in s m) p a at) in
      let f = functor_is names s name a (all_atoms s valid.sound m a (in_at (atoms_in s m) p a at)) in
      chosen.more (record {
        functor = f.0;
        is = f.1;
        label = ap (λ (y : SolidAtom). y.label) same ∙ f.2;
        arguments = all_printed p 0 x.links ts h a at (arity_of s a) (ap (λ (y : SolidAtom). y.links) same);
      }) (items_printed ps zs is st hs)

  told : TellsItems names s name m
  told =
      let few = few_places names s name naming (atoms_in s m) (valid.sound.listed.atoms_once m) in
      let are = are_items names s valid name naming m marks in
      let some = some_shown atoms here few are in
      let same : atoms ≡ atoms_with names s name m = sym (atoms_are names s valid.sound name (atoms_in s m) (all_atoms s valid.sound m)) in
      record {
        shown = some.0;
        prints = items_printed here (items_in s m) some.0 (items_stand names s valid name naming m marks) some.1;
        items = here;
        are = subst (λ xs. AreItems xs here) same are;
        shows = subst (λ xs. ShowsItems (λ x. x) xs here here some.0) same some.1;
      }

-- where the marks of each membrane are so they tell its folded form
pub marked_are_told : MarkedAreTold
marked_are_told s valid all names name naming m is_mem = told names s valid name naming all m is_mem
