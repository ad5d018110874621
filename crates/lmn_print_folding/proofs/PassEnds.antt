-- What the marks tell before and behind each pass, and between two atoms.
use Rattle.std.proofs.Common.{◌≡◌, ◌≢◌, ℕ, ◌^◌, inl, inr, List, [], Option, Some, None, IfSome, refl, sym, ap, ◌∙◌, subst}
use Rattle.std.specs.Option.{option_map}
use Rattle.lmn_store_heap.specs.Heap.{Heap, IsAtom, IsInPlace, atoms_in, home_of, own_mark}
use Rattle.lmn_store_heap.specs.Lists.{from, after}
use Rattle.lmn_store_heap.specs.Sound.{Forest, flat, IsTree, AtMost, Valid}
use Rattle.lmn_store_heap.specs.Trees.{tree_of}
use Rattle.lmn_print_plain.specs.Numbers.{printed_atoms}
use Rattle.lmn_print_plain.proofs.OrderLemmas.{at_home, tree_there}
use Rattle.lmn_print_folding.specs.Chosen.{ChangesOwnMarks}
use Rattle.lmn_print_folding.specs.Children.{IsChildAt, DescendsAt, itself, child, IsItemBefore, IsMarkedIn}
use Rattle.lmn_print_folding.specs.Marking.{AreFirsts, AreShown, MarksLater, MarksTermsIfFirst}
use Rattle.lmn_print_folding.proofs.Orders.{IsOrder, is_order, not_behind, one_home}
use Rattle.lmn_print_folding.proofs.OwnMarks.{atom_before, child_same, descends_same, list_same, no_child_same, some_child_same, paired_same, printed_same, tree_same, changes_none, changes_more, changes_back}
use Rattle.lmn_print_folding.proofs.PassLemmas.{IsBefore, Marked, open_more, rest_less, terms_marked, item_marked_later, item_by, item_stays}
use Rattle.lmn_base.proofs.Lists.{some_is as some_of}
use Rattle.lmn_store_heap.proofs.Common.{in_place_atom as place_atom}
use Rattle.lmn_print_plain.proofs.ToldLemmas.{all_atoms as atom_in}
use Rattle.lmn_base.specs.Lists.{In}

-- all atoms, in printed order
abbrev pub all_atoms : Heap → List ℕ
all_atoms s = printed_atoms s (flat (tree_of s))

-- all atoms in printed order are in an order of items
pub all_in_order : (s : Heap) → Valid s → AtMost (2 ^ 48) s → IsOrder s (all_atoms s)
all_in_order s valid few = is_order s valid (tree_of s) (tree_there s valid.sound few valid.tree.0 valid.tree.1)

-- the first atom, and the next one, where own marks were changed
pub first_list : (s : Heap) → Valid s → AtMost (2 ^ 48) s → (next : Option ℕ) → ((f : Forest) → IsTree s f → from next (printed_atoms s (flat f)) ≡ printed_atoms s (flat f)) → from next (all_atoms s) ≡ all_atoms s
first_list s valid few next h = h (tree_of s) (tree_there s valid.sound few valid.tree.0 valid.tree.1)

-- the atoms from the next one on are those behind this one, in printed order
pub next_list : (s u : Heap) → Valid s → AtMost (2 ^ 48) s → ChangesOwnMarks s u → (b : ℕ) (next : Option ℕ) → ((f : Forest) → IsTree u f → from next (printed_atoms u (flat f)) ≡ after b (printed_atoms u (flat f)))
    → from next (all_atoms s) ≡ after b (all_atoms s)
next_list s u valid few r b next h =
    let tree = tree_there s valid.sound few valid.tree.0 valid.tree.1 in
    subst (λ xs. from next xs ≡ after b xs) (printed_same s u r (flat (tree_of s))) (h (tree_of s) (tree_same s u r (tree_of s) tree))

-- and the next one, if any, is an atom
pub next_there : {A : Type 0} (id : A → ℕ) (s u : Heap) → ChangesOwnMarks s u → (next : Option A) → IfSome next (λ a. IsInPlace u (id a)) → IfSome next (λ a. IsAtom s (id a))
next_there id s u r None h = tt
next_there id s u r (Some a) h = atom_before s u r (id a) (place_atom u (id a) h)

-- where no next one is named none is left
pub none_left : {A : Type 0} (id : A → ℕ) (next : Option A) → ((a : A) → next ≡ Some a → ⊥) → option_map id next ≡ None
none_left id None h = refl
none_left id (Some a) h = absurd (h a refl)

-- own marks alone are changed between two atoms
pub below_first_marks : (t u : Heap) (b : ℕ) → MarksTermsIfFirst t u b → ChangesOwnMarks t u
below_first_marks t u b (inl h) = h.1.marks
below_first_marks t u b (inr h) = subst (ChangesOwnMarks t) (sym h.1) (changes_none t)

-- a pass for one atom changes own marks alone
pub later_marks : (t u : Heap) (b : ℕ) → MarksLater t u b → ChangesOwnMarks t u
later_marks t u b (inl h) = changes_more t h.1 u h.2.marks h.3.marks
later_marks t u b (inr h) = subst (ChangesOwnMarks t) (sym h.1) (changes_none t)

-- Terms below the atoms that are no child: those behind the next atom are to come.
abbrev pub Showing : Heap → Heap → Option ℕ → Type 0
Showing s t next = Marked s t [] (λ a. Unit {0}) (λ p. (own_mark t p ≡ 1) × In p (from next (all_atoms s)))

-- at first no term is shown
pub showing_first : (s : Heap) → Valid s → AtMost (2 ^ 48) s → AreFirsts s → (next : Option ℕ) → from next (all_atoms s) ≡ all_atoms s → Showing s s next
showing_first s valid few firsts next e = record {
  marks = changes_none s;
  each = λ a i. elim (firsts a i) [ inl h ↦ inr (inl h.0) | inr h ↦ inl h.0 ];
  first = λ a i o. elim (firsts a i) [ inl h ↦ h.1 | inr h ↦ absurd (let z = h.0 in cc) ];
  others = λ a i n. elim (firsts a i) [ inl h ↦ absurd (n h.0) | inr h ↦ h.1 ];
  rest = λ a i o. tt;
  past = λ a i o. elim (firsts a i) [ inl h ↦ absurd (let z = h.0 in cc) | inr h ↦ absurd (let z = h.0 in cc) ];
  later = λ a m k i o. elim (firsts a i) [ inl h ↦ absurd (let z = h.0 in cc) | inr h ↦ absurd (let z = h.0 in cc) ];
  term = λ a i o. elim (firsts a i) [ inl h ↦ absurd (let z = h.0 in cc) | inr h ↦ absurd (let z = h.0 in cc) ];
  below = λ m p c k h n.
      let there = atom_in s valid.sound m p h.parent in
      elim (firsts p there) [
        | inl f ↦ inl (f.0, subst (In p) (sym e) ((all_in_order s valid few).all p there))
        | inr f ↦ absurd (n f.0)
      ];
}

-- then those of one atom more
pub showing_next : (s t u : Heap) → Valid s → Valid t → (b : ℕ) → IsAtom s b → Showing s t (Some b) → (next : Option ℕ) → from next (all_atoms s) ≡ after b (all_atoms s) → MarksTermsIfFirst t u b → Showing s u next
showing_next s t u valid valid' b there mk next e (inl h) =
    let m = some_of (home_of s b) (valid.settled.atoms b there) in
    let home = (at_home s valid.sound b m.0 m.1).0 in
    let paired = valid'.sound.paired in
    let is = item_by t b 1 h.0 refl in
    let R : ℕ → Type 0 = λ a. Unit {0} in
    let O : ℕ → Type 0 = λ p. (own_mark t p ≡ 1) × In p (from (Some b) (all_atoms s)) in
    let step = terms_marked s t u valid.sound paired [] R O b m.0 home mk is h.1 (λ a z r. inl h.0) in
    open_more s u [] R (λ p. O p × (p ≢ b)) (λ p. (own_mark u p ≡ 1) × In p (from next (all_atoms s))) step
    (λ p n o. (
      item_stays s t u valid.sound paired [] R O b m.0 home mk is h.1 (λ a z r. inl h.0) p (item_by t p 1 o.0.0 refl) ∙ o.0.0,
      elim o.0.1 [ inl f ↦ absurd (o.1 (sym f)) | inr j ↦ subst (In p) (sym e) j ],
    ))
showing_next s t u valid valid' b there mk next e (inr h) =
    let R : ℕ → Type 0 = λ a. Unit {0} in
    subst (λ k. Showing s k next) (sym h.1)
    (open_more s t [] R (λ p. (own_mark t p ≡ 1) × In p (from (Some b) (all_atoms s))) (λ p. (own_mark t p ≡ 1) × In p (from next (all_atoms s))) mk
    (λ p n o. (o.0, elim o.1 [ inl f ↦ absurd (h.0 (ap (own_mark t) f ∙ o.0)) | inr j ↦ subst (In p) (sym e) j ])))

-- at the end all are
pub showing_last : (s t : Heap) → Showing s t None → AreShown t
showing_last s t mk = record {
  each = λ a i. let there = before a i in elim (mk.each a there) [
    | inl o ↦ inl o
    | inr q ↦ elim q [
      | inl o ↦ inr (inl o)
      | inr q ↦ elim q [ inl o ↦ absurd (mk.past a there o tt) | inr o ↦ inr (inr o) ]
    ]
  ];
  first = λ a i o. no_child_same s t back a (mk.first a (before a i) o);
  others = λ a i n. some_child_same s t mk.marks a (mk.others a (before a i) n);
  term = λ a i o.
      let h = mk.term a (before a i) o in
      (h.0, h.1, subst (In h.1) (sym (list_same s t mk.marks h.0)) h.2, elim h.3 [ inl f ↦ f | inr f ↦ absurd f.1 ], descends_same s t mk.marks h.4);
  below = λ m p c k h n. elim (mk.below m p c k (child_same t s back h) n) [ inl o ↦ absurd o.1 | inr g ↦ g ];
}
  where
    back : ChangesOwnMarks t s
    back = changes_back s t mk.marks

    before : (a : ℕ) → IsAtom t a → IsAtom s a
    before = atom_before s t mk.marks

-- Then the later items: all atoms before the next one are marked.
abbrev pub Choosing : Heap → Heap → Option ℕ → Type 0
Choosing s t next = Marked s t (all_atoms s) (λ a. In a (from next (all_atoms s))) (λ p. ⊥)

-- at first no later item is chosen
pub choosing_first : (s : Heap) → Valid s → AtMost (2 ^ 48) s → AreShown s → (next : Option ℕ) → from next (all_atoms s) ≡ all_atoms s → Choosing s s next
choosing_first s valid few shown next e = record {
  marks = changes_none s;
  each = λ a i. elim (shown.each a i) [
    | inl o ↦ inl o
    | inr q ↦ elim q [ inl o ↦ inr (inl o) | inr o ↦ inr (inr (inr o)) ]
  ];
  first = shown.first;
  others = shown.others;
  rest = λ a i o. subst (In a) (sym e) ((all_in_order s valid few).all a i);
  past = λ a i o. absurd (no_two a i o);
  later = λ a m k i o. absurd (no_two a i o);
  term = λ a i o. let h = shown.term a i o in (h.0, h.1, h.2, inl h.3, h.4);
  below = λ m p c k h n. inr (shown.below m p c k h n);
}
  where
    no_two : (a : ℕ) → IsAtom s a → own_mark s a ≡ 2 → ⊥
    no_two a i o = elim (shown.each a i) [
      | inl z ↦ cc
      | inr q ↦ elim q [ inl z ↦ cc | inr z ↦ cc ]
    ]

-- then one atom more is asked
pub choosing_next : (s t u : Heap) → Valid s → AtMost (2 ^ 48) s → (b : ℕ) → IsAtom s b → Choosing s t (Some b) → (next : Option ℕ) → from next (all_atoms s) ≡ after b (all_atoms s) → MarksLater t u b → Choosing s u next
choosing_next s t u valid few b there mk next e (inl h) =
    let xs = all_atoms s in
    let m = some_of (home_of s b) (valid.settled.atoms b there) in
    let home = (at_home s valid.sound b m.0 m.1).0 in
    let R : ℕ → Type 0 = λ a. In a (from (Some b) xs) in
    let Q : ℕ → Type 0 = λ a. In a (from next xs) in
    let alone = not_behind b xs (all_in_order s valid few).once in
    let v = h.1 in
    let one = item_marked_later s t v xs R Q b there mk h.0 h.2 (λ a d r. elim r [ inl f ↦ absurd (d (sym f)) | inr j ↦ subst (In a) (sym e) j ]) (λ a q. inr (subst (In a) e q))
    (λ q. alone (subst (In b) e q)) (λ a n i. n (inr i)) alone in
    let paired = paired_same s v one.marks valid.sound.paired in
    let two = terms_marked s v u valid.sound paired xs Q (λ p. p ≡ b) b m.0 home one (item_by v b 2 h.2.mark refl) h.3 (λ a z q. inr (h.2.mark, subst (In a) e q)) in
    open_more s u xs Q (λ p. (p ≡ b) × (p ≢ b)) (λ p. ⊥) two (λ p n o. o.1 o.0)
choosing_next s t u valid few b there mk next e (inr h) =
    let xs = all_atoms s in
    subst (λ k. Choosing s k next) (sym h.1)
    (rest_less s t xs (λ a. In a (from (Some b) xs)) (λ a. In a (from next xs)) (λ p. ⊥) mk
    (λ a o r. elim r [ inl f ↦ absurd (h.0 (ap (own_mark t) f ∙ o)) | inr j ↦ subst (In a) (sym e) j ]) (λ a q. inr (subst (In a) e q)))

-- All atoms are marked as they should be.
module _ (s t : Heap) (valid : Valid s) (few : AtMost (2 ^ 48) s) (mk : Choosing s t None) (m : ℕ) where
  back : ChangesOwnMarks t s
  back = changes_back s t mk.marks

  here : (a : ℕ) → In a (atoms_in t m) → In a (atoms_in s m)
  here a i = subst (In a) (list_same s t mk.marks m) i

  there : (a : ℕ) → In a (atoms_in t m) → IsAtom s a
  there a i = atom_in s valid.sound m a (here a i)

  item_before : (a i : ℕ) → IsItemBefore t m a i → IsBefore t (all_atoms s) a i
  item_before a i h = elim h.1 [
    | inl o ↦ inl o
    | inr o ↦ inr (o.0, (all_in_order s valid few).out m i a (here i h.0) (subst (λ xs. In a (after i xs)) (list_same s t mk.marks m) o.1))
  ]

  -- where an atom descends from another, that stands in its membrane
  source : (n i a : ℕ) → In a (atoms_in s m) → i ≢ a → DescendsAt s n i a → n ≡ m
  source n i a h d itself = absurd (d refl)
  source n i a h d (child g c) = one_home s valid.sound n m a c.child h

  before_not_term : (a i : ℕ) → own_mark t a ≡ 3 → IsBefore t (all_atoms s) a i → i ≢ a
  before_not_term a i o (inl f) e = let g : own_mark t i ≡ 3 = ap (own_mark t) e ∙ o in cc
  before_not_term a i o (inr f) e = let g : own_mark t i ≡ 3 = ap (own_mark t) e ∙ o in let h = f.0 in cc

  item_before_back : (a i : ℕ) → In a (atoms_in s m) → In i (atoms_in s m) → IsBefore t (all_atoms s) a i → IsItemBefore t m a i
  item_before_back a i j k h = (
    subst (In i) (sym (list_same s t mk.marks m)) k,
    elim h [
      | inl o ↦ inl o
      | inr o ↦ inr (o.0, subst (λ xs. In a (after i xs)) (sym (list_same s t mk.marks m)) ((all_in_order s valid few).into m i a k j o.1))
    ],
  )

  pub choosing_last : IsMarkedIn t m
  choosing_last = record {
    each = λ a i. elim (mk.each a (there a i)) [
      | inl o ↦ absurd (mk.rest a (there a i) o)
      | inr q ↦ q
    ];
    first = λ a p k o c. mk.first a (there a c.child) o m p k (child_same t s back c);
    later_child = λ a i o.
        let h = mk.others a (there a i) (λ e. cc) in
        let same = one_home s valid.sound h.0 m a h.3.child (here a i) in
        (h.1, h.2, child_same s t mk.marks (subst (λ n. IsChildAt s n a h.1 h.2) same h.3));
    later = λ a i h o q d. mk.later a m i (there a h) o (item_before a i q) (descends_same t s back d);
    term = λ a i o.
        let h = mk.term a (there a i) o in
        let same = source h.0 h.1 a (here a i) (before_not_term a h.1 o h.3) h.4 in
        (h.1, item_before_back a h.1 (here a i) (subst (λ n. In h.1 (atoms_in s n)) same h.2) h.3, descends_same s t mk.marks (subst (λ n. DescendsAt s n h.1 a) same h.4));
  }
