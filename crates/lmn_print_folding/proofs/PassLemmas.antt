-- Items and terms are marked, one item after the other.
use Rattle.std.proofs.Common.{◌≡◌, ◌≢◌, ℕ, ◌+◌, ◌-◌, ◌<◌, ◌==◌, ◌&&◌, ◌||◌, ◌⊎◌, inl, inr, Bool, not, true, false, if◌then◌else◌, List, Some, None, refl, sym, ap, ◌∙◌, subst, arith}
use Rattle.std.proofs.lemmas.Bool.{eq-eqb}
use Rattle.lmn_store_heap.specs.Heap.{Heap, IsAtom, arity_of, atoms_in, link_of, own_mark}
use Rattle.lmn_store_heap.specs.Lists.{after}
use Rattle.lmn_store_heap.specs.Sound.{Paired, Sound}
use Rattle.lmn_print_folding.specs.Marks.{is_item, term_by, term_at, argument_count}
use Rattle.lmn_print_folding.proofs.FewTurns.{end_there}
use Rattle.lmn_print_folding.proofs.PrintedWalks.{term_is}
use Rattle.lmn_print_folding.proofs.WalkLemmas.{arguments_of_term}
use Rattle.lmn_print_folding.specs.Chosen.{ChangesOwnMarks}
use Rattle.lmn_print_folding.specs.Children.{IsChildAt, DescendsAt, itself, child}
use Rattle.lmn_print_folding.specs.Marking.{IsChildNowhere, IsChildSomewhere, IsTermAt, IsTermIn, outer, inner, MarksTerms, SetsOwnMark}
use Rattle.lmn_print_folding.proofs.BelowLemmas.{marked_term}
use Rattle.lmn_print_folding.proofs.ItemWalks.{Holds, term_back, held, holder, term_no_item}
use Rattle.lmn_print_folding.proofs.Orders.{one_home}
use Rattle.lmn_print_folding.proofs.OwnMarks.{arity_same, link_same, last_same, atom_before, changes_more}
use Rattle.lmn_store_heap.proofs.Replacing.{port_within as link_low}
use Rattle.lmn_base.proofs.Numbers.{same_or_not as number_cases}
use Rattle.lmn_store_heap.proofs.Common.{same_port}
use Rattle.lmn_base.specs.Lists.{In}

-- an item that is chosen before a is asked, where the atoms stand in this order
abbrev pub IsBefore : Heap → List ℕ → ℕ → ℕ → Type 0
IsBefore t xs a i = (own_mark t i ≡ 1) ⊎ ((own_mark t i ≡ 2) × In a (after i xs))

-- What the own marks of t tell of the atoms of s on the way: those with the mark 0 are in R, and of those in O the children needn't
-- be marked yet.
pub record Marked (s t : Heap) (xs : List ℕ) (R O : ℕ → Type 0) : Type 0 where
  pub marks : ChangesOwnMarks s t
  pub each : (a : ℕ) → IsAtom s a → (own_mark t a ≡ 0) ⊎ (own_mark t a ≡ 1) ⊎ (own_mark t a ≡ 2) ⊎ (own_mark t a ≡ 3)
  pub first : (a : ℕ) → IsAtom s a → own_mark t a ≡ 1 → IsChildNowhere s a
  pub others : (a : ℕ) → IsAtom s a → own_mark t a ≢ 1 → IsChildSomewhere s a
  pub rest : (a : ℕ) → IsAtom s a → own_mark t a ≡ 0 → R a
  pub past : (a : ℕ) → IsAtom s a → own_mark t a ≡ 2 → ¬ (R a)
  pub later : (a m i : ℕ) → IsAtom s a → own_mark t a ≡ 2 → IsBefore t xs a i → ¬ (DescendsAt s m i a)
  pub term : (a : ℕ) → IsAtom s a → own_mark t a ≡ 3 → (m : ℕ) × (i : ℕ) × In i (atoms_in s m) × IsBefore t xs a i × DescendsAt s m i a
  pub below : (m p c k : ℕ) → IsChildAt s m c p k → own_mark t p ≢ 0 → O p ⊎ (own_mark t c ≢ 0)

-- items by their marks
pub item_by : (t : Heap) (a n : ℕ) → own_mark t a ≡ n → ((n == 1) || (n == 2)) ≡ true → is_item t a ≡ true
item_by t a n e h = ap (λ k. (k == 1) || (k == 2)) e ∙ h

plain_by : (t : Heap) (a n : ℕ) → own_mark t a ≡ n → ((n == 1) || (n == 2)) ≡ false → is_item t a ≡ false
plain_by t a n e h = ap (λ k. (k == 1) || (k == 2)) e ∙ h

both_ways : {A : Type 0} (b : Bool) → b ≡ true → b ≡ false → A
both_ways true e f = absurd (cc f)
both_ways false e f = absurd (cc e)

-- a port is printed as a term where its partner is the last port of an atom that is no item
term_made : (t : Heap) (p k c j : ℕ) → link_of t p k ≡ Some (c, j) → j + 1 ≡ arity_of t c → is_item t c ≡ false → term_at t p k ≡ Some c
term_made t p k c j l last plain =
    ap (term_by t) l
    ∙ ap (λ b. if b && not (is_item t c) then Some c else None) (eq-eqb (j + 1) (arity_of t c) last)
    ∙ ap (λ b. if true && not b then Some c else None) plain

-- more may be left open, and less be still to come
pub open_more : (s t : Heap) (xs : List ℕ) (R O Q : ℕ → Type 0) → Marked s t xs R O → ((p : ℕ) → own_mark t p ≢ 0 → O p → Q p) → Marked s t xs R Q
open_more s t xs R O Q mk f = record {
  marks = mk.marks;
  each = mk.each;
  first = mk.first;
  others = mk.others;
  rest = mk.rest;
  past = mk.past;
  later = mk.later;
  term = mk.term;
  below = λ m p c k h n. elim (mk.below m p c k h n) [ inl o ↦ inl (f p n o) | inr d ↦ inr d ];
}

-- what is said of the rest by one word is said by another
pub rest_less : (s t : Heap) (xs : List ℕ) (R Q O : ℕ → Type 0) → Marked s t xs R O → ((a : ℕ) → own_mark t a ≡ 0 → R a → Q a) → ((a : ℕ) → Q a → R a) → Marked s t xs Q O
rest_less s t xs R Q O mk f g = record {
  marks = mk.marks;
  each = mk.each;
  first = mk.first;
  others = mk.others;
  rest = λ a i o. f a o (mk.rest a i o);
  past = λ a i o q. mk.past a i o (g a q);
  later = mk.later;
  term = mk.term;
  below = mk.below;
}

-- what descends from an atom that is marked is marked, where nothing is left open
pub descends_marked : (s t : Heap) (xs : List ℕ) (R : ℕ → Type 0) → Marked s t xs R (λ p. ⊥) → (m i a : ℕ) → DescendsAt s m i a → own_mark t i ≢ 0 → own_mark t a ≢ 0
descends_marked s t xs R mk m i _ itself n = n
descends_marked s t xs R mk m i _ (child {q = q} {r = r} {k = k} d c) n = elim (mk.below m q r k c (descends_marked s t xs R mk m i q d n)) [ inl o ↦ absurd o | inr h ↦ h ]

-- An item b gets its terms marked.
module _ (s t u : Heap) (sound : Sound s) (paired : Paired t) (xs : List ℕ) (R O : ℕ → Type 0) (b m0 : ℕ) (home : In b (atoms_in s m0)) (mk : Marked s t xs R O) (is : is_item t b ≡ true) (w : MarksTerms t u b)
    (before : (a : ℕ) → own_mark t a ≡ 0 → R a → IsBefore t xs a b) where
  pub item_stays : (a : ℕ) → is_item t a ≡ true → own_mark u a ≡ own_mark t a
  item_stays a e = elim (w.others a) [ inl f ↦ f | inr h ↦ both_ways (is_item t a) e (term_no_item t paired b a h) ]

  item_back : (a : ℕ) → is_item u a ≡ true → own_mark u a ≡ own_mark t a
  item_back a e = elim (w.others a) [ inl f ↦ f | inr h ↦ both_ways (is_item u a) e (marked_term u a (w.terms a h)) ]

  before_on : (a i : ℕ) → IsBefore t xs a i → IsBefore u xs a i
  before_on a i (inl o) = inl (item_stays i (item_by t i 1 o refl) ∙ o)
  before_on a i (inr o) = inr (item_stays i (item_by t i 2 o.0 refl) ∙ o.0, o.1)

  before_back : (a i : ℕ) → IsBefore u xs a i → IsBefore t xs a i
  before_back a i (inl o) = inl (sym (item_back i (item_by u i 1 o refl)) ∙ o)
  before_back a i (inr o) = inr (sym (item_back i (item_by u i 2 o.0 refl)) ∙ o.0, o.1)

  -- a term is a child of the atom in which it stands
  term_child : (p k c : ℕ) → IsTermAt t p k c → (m : ℕ) × IsChildAt s m c p k
  term_child p k c h =
      let l = term_is t p k c h.term in
      let back = term_back t paired p k c h.term in
      let there : IsAtom s c = atom_before s t mk.marks c (end_there t paired p k c l.0 l.1) in
      let some = mk.others c there (λ o. both_ways (is_item t c) (item_by t c 1 o refl) back.2) in
      let same = same_port (sym some.3.joined ∙ last_same s t mk.marks c (p, k) back.0) in
      (some.0, subst (λ z. IsChildAt s some.0 c z k) same.0 (subst (λ z. IsChildAt s some.0 c some.1 z) same.1 some.3))

  -- so each term in the item descends from it
  descends : (c : ℕ) → IsTermIn t b c → In c (atoms_in s m0) × DescendsAt s m0 b c
  descends c (outer {k = k} h) =
      let d = term_child b k c h in
      let e = one_home s sound d.0 m0 b d.1.parent home in
      let at : IsChildAt s m0 c b k = subst (λ z. IsChildAt s z c b k) e d.1 in
      (at.child, child itself at)
  descends c (inner {p = p} {k = k} g h) =
      let up = descends p g in
      let d = term_child p k c h in
      let e = one_home s sound d.0 m0 p d.1.parent up.0 in
      let at : IsChildAt s m0 c p k = subst (λ z. IsChildAt s z c p k) e d.1 in
      (at.child, child up.1 at)

  zero_or_three : {A : Type 0} (a : ℕ) → IsAtom s a → is_item t a ≡ false → (own_mark t a ≡ 0 → A) → (own_mark t a ≡ 3 → A) → A
  zero_or_three a i plain f g = elim (mk.each a i) [
    | inl o ↦ f o
    | inr q ↦ elim q [
      | inl o ↦ both_ways (is_item t a) (item_by t a 1 o refl) plain
      | inr q ↦ elim q [
        | inl o ↦ both_ways (is_item t a) (item_by t a 2 o refl) plain
        | inr o ↦ g o
      ]
    ]
  ]

  marked_stays : (c : ℕ) → own_mark t c ≢ 0 → own_mark u c ≢ 0
  marked_stays c n z = elim (w.others c) [ inl e ↦ n (sym e ∙ z) | inr h ↦ (let o = w.terms c h in cc) ]

  term_marked : (c : ℕ) → IsTermIn t b c → own_mark u c ≢ 0
  term_marked c h z = let o = w.terms c h in cc

  item_marked : (c : ℕ) → is_item t c ≡ true → own_mark u c ≢ 0
  item_marked c e = marked_stays c (λ z. both_ways (is_item t c) e (plain_by t c 0 z refl))

  -- the children of the item, and of each term in it, are marked
  child_marked : (m p c k : ℕ) → IsChildAt s m c p k → Holds t paired b p → own_mark u c ≢ 0
  child_marked m p c k h holds = by (is_item t c) refl (number_cases (k + 1) (arity_of t p)) holds
    where
      back : link_of t p k ≡ Some (c, arity_of t c - 1)
      back = link_same s t mk.marks p k ∙ sound.paired.back c (arity_of s c - 1) p k h.joined ∙ ap (λ n. Some (c, n - 1)) (sym (arity_same s t mk.marks c))

      low : k < arity_of t p
      low = link_low t p k (c, arity_of t c - 1) back

      ended : arity_of t c - 1 + 1 ≡ arity_of t c
      ended = let some = h.ports in let same = arity_same s t mk.marks c in omega (arith, some, same)

      argument : is_item t c ≡ false → Holds t paired b p → k < argument_count t p → own_mark u c ≢ 0
      argument plain g l = term_marked c (held t paired b p k c g (record { low = l; term = term_made t p k c (arity_of t c - 1) back ended plain }))

      above : Holds t paired b c → own_mark u c ≢ 0
      above (inl e) = item_marked c (subst (λ z. is_item t z ≡ true) (sym e) is)
      above (inr g) = term_marked c g

      by : (v : Bool) → is_item t c ≡ v → (k + 1 ≡ arity_of t p) ⊎ (k + 1 ≢ arity_of t p) → Holds t paired b p → own_mark u c ≢ 0
      by true e d g = item_marked c e
      by false e d (inl g) =
          argument e (inl g) (let whole : argument_count t p ≡ arity_of t p = ap (λ v. if v then arity_of t p else arity_of t p - 1) (subst (λ z. is_item t z ≡ true) (sym g) is) in omega (arith, whole, low))
      by false e (inr n) (inr g) = argument e (inr g) (let few = arguments_of_term t p (term_no_item t paired b p g) in omega (arith, few, low, n))
      by false e (inl f) (inr g) = above (holder t paired b p c (arity_of t c - 1) g (ap (link_of t p) (let h : arity_of t p - 1 ≡ k = omega (arith, f) in h) ∙ back))

  pub terms_marked : Marked s u xs R (λ p. O p × (p ≢ b))
  terms_marked = record {
    marks = changes_more s t u mk.marks w.marks;
    each = λ a i. elim (w.others a) [
      | inl e ↦ subst (λ k. (k ≡ 0) ⊎ (k ≡ 1) ⊎ (k ≡ 2) ⊎ (k ≡ 3)) (sym e) (mk.each a i)
      | inr h ↦ inr (inr (inr (w.terms a h)))
    ];
    first = λ a i o. mk.first a i (sym (item_back a (item_by u a 1 o refl)) ∙ o);
    others = λ a i n. elim (w.others a) [
      | inl e ↦ mk.others a i (λ o. n (e ∙ o))
      | inr h ↦ mk.others a i (λ o. both_ways (is_item t a) (item_by t a 1 o refl) (term_no_item t paired b a h))
    ];
    rest = λ a i o. elim (w.others a) [
      | inl e ↦ mk.rest a i (sym e ∙ o)
      | inr h ↦ absurd (term_marked a h o)
    ];
    past = λ a i o. mk.past a i (sym (item_back a (item_by u a 2 o refl)) ∙ o);
    later = λ a m i there o q. mk.later a m i there (sym (item_back a (item_by u a 2 o refl)) ∙ o) (before_back a i q);
    term = λ a i o. elim (w.others a) [
      | inl e ↦ old a i (sym e ∙ o)
      | inr h ↦ zero_or_three a i (term_no_item t paired b a h) (λ z. (m0, b, home, before_on a b (before a z (mk.rest a i z)), (descends a h).1)) (λ z. old a i z)
    ];
    below = λ m p c k h n. elim (number_cases p b) [
      | inl e ↦ inr (child_marked m p c k h (inl e))
      | inr d ↦ elim (w.others p) [
        | inl e ↦ elim (mk.below m p c k h (λ z. n (e ∙ z))) [
          | inl o ↦ inl (o, d)
          | inr q ↦ inr (marked_stays c q)
        ]
        | inr g ↦ inr (child_marked m p c k h (inr g))
      ]
    ];
  }
    where
      old : (a : ℕ) → IsAtom s a → own_mark t a ≡ 3 → (m : ℕ) × (i : ℕ) × In i (atoms_in s m) × IsBefore u xs a i × DescendsAt s m i a
      old a i o = let h = mk.term a i o in (h.0, h.1, h.2, before_on a h.1 h.3, h.4)

-- An atom b that isn't marked becomes an item.
module _ (s t u : Heap) (xs : List ℕ) (R Q : ℕ → Type 0) (b : ℕ) (there : IsAtom s b) (mk : Marked s t xs R (λ p. ⊥)) (z : own_mark t b ≡ 0) (set : SetsOwnMark t u b 2)
    (less : (a : ℕ) → a ≢ b → R a → Q a) (more : (a : ℕ) → Q a → R a) (here : ¬ (Q b)) (passed : (a : ℕ) → ¬ (R a) → ¬ (In a (after b xs))) (alone : ¬ (In b (after b xs))) where
  other : (a n : ℕ) → own_mark u a ≡ n → n ≢ 2 → a ≢ b
  other a n o d e = d (sym o ∙ ap (own_mark u) e ∙ set.mark)

  -- an item in t is another atom
  before_other : (a i : ℕ) → IsBefore t xs a i → i ≢ b
  before_other a i (inl o) e = absurd (let h : own_mark t i ≡ 0 = ap (own_mark t) e ∙ z in cc)
  before_other a i (inr o) e = absurd (let h : own_mark t i ≡ 0 = ap (own_mark t) e ∙ z in let g = o.0 in cc)

  on : (a i : ℕ) → IsBefore t xs a i → IsBefore u xs a i
  on a i h = by h (before_other a i h)
    where
      by : IsBefore t xs a i → i ≢ b → IsBefore u xs a i
      by (inl o) d = inl (set.others i d ∙ o)
      by (inr o) d = inr (set.others i d ∙ o.0, o.1)

  back : (a i : ℕ) → ¬ (In a (after b xs)) → IsBefore u xs a i → IsBefore t xs a i
  back a i n (inl o) = inl (sym (set.others i (other i 1 o (λ e. cc))) ∙ o)
  back a i n (inr o) = elim (number_cases i b) [
    | inl e ↦ absurd (n (subst (λ j. In a (after j xs)) e o.1))
    | inr d ↦ inr (sym (set.others i d) ∙ o.0, o.1)
  ]

  before_marked : (a i : ℕ) → IsBefore t xs a i → own_mark t i ≢ 0
  before_marked a i (inl o) e = cc
  before_marked a i (inr o) e = let g = o.0 in cc

  pub item_marked_later : Marked s u xs Q (λ p. p ≡ b)
  item_marked_later = record {
    marks = changes_more s t u mk.marks set.marks;
    each = λ a i. elim (number_cases a b) [
      | inl e ↦ inr (inr (inl (ap (own_mark u) e ∙ set.mark)))
      | inr d ↦ subst (λ k. (k ≡ 0) ⊎ (k ≡ 1) ⊎ (k ≡ 2) ⊎ (k ≡ 3)) (sym (set.others a d)) (mk.each a i)
    ];
    first = λ a i o. mk.first a i (sym (set.others a (other a 1 o (λ e. cc))) ∙ o);
    others = λ a i n. elim (number_cases a b) [
      | inl e ↦ mk.others a i (λ o. let h : own_mark t a ≡ 0 = ap (own_mark t) e ∙ z in cc)
      | inr d ↦ mk.others a i (λ o. n (set.others a d ∙ o))
    ];
    rest = λ a i o. let d = other a 0 o (λ e. cc) in less a d (mk.rest a i (sym (set.others a d) ∙ o));
    past = λ a i o q. elim (number_cases a b) [
      | inl e ↦ here (subst Q e q)
      | inr d ↦ mk.past a i (sym (set.others a d) ∙ o) (more a q)
    ];
    later = λ a m i at o q down. elim (number_cases a b) [
      | inl e ↦ (let q' = subst (λ x. IsBefore u xs x i) e q in
          let h = back b i alone q' in
          descends_marked s t xs R mk m i b (subst (DescendsAt s m i) e down) (before_marked b i h) z)
      | inr d ↦ (let p = sym (set.others a d) ∙ o in mk.later a m i at p (back a i (passed a (mk.past a at p)) q) down)
    ];
    term = λ a i o.
        let d = other a 3 o (λ e. cc) in
        let h = mk.term a i (sym (set.others a d) ∙ o) in
        (h.0, h.1, h.2, on a h.1 h.3, h.4);
    below = λ m p c k h n. elim (number_cases p b) [
      | inl e ↦ inl e
      | inr d ↦ elim (mk.below m p c k h (λ e. n (set.others p d ∙ e))) [
        | inl o ↦ absurd o
        | inr g ↦ inr (elim (number_cases c b) [
          | inl e ↦ absurd (g (ap (own_mark t) e ∙ z))
          | inr f ↦ (λ e. g (sym (set.others c f) ∙ e))
        ])
      ]
    ];
  }
