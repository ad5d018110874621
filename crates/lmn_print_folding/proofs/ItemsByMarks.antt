-- The items by own marks are the items by positions.
use Rattle.std.proofs.Common.{◌≡◌, ◌≢◌, ℕ, zero, suc, ◌+◌, ◌<◌, ◌⊎◌, ◌==◌, if◌then◌else◌, Bool, true, false, List, [], ◌∷◌, ◌++◌, map, filter, length, slice_get, Some, refl, sym, ap, ◌∙◌, subst, inl, inr, arith}
use Rattle.std.specs.List.{range_with_len}
use Rattle.std.proofs.lemmas.Bool.{eq-eqb, eqb-true}
use Rattle.std.proofs.lemmas.List.{append_assoc, append-nil, length-map}
use Rattle.std.proofs.lemmas.Option.{none-some, same_Some}
use Rattle.lmn_congruence.specs.Orders.{Among, at_head, further}
use Rattle.lmn_congruence.specs.Regions.{SolidAtom}
use Rattle.lmn_congruence.specs.Rules.{Name}
use Rattle.lmn_print_folded.specs.Folding.{Descends, itself, NoChildren, Further, AreItems}
use Rattle.lmn_print_folded.specs.Folding as folding
use Rattle.lmn_store_heap.specs.Heap.{Heap, atoms_in, own_mark}
use Rattle.lmn_store_heap.specs.Lists.{after}
use Rattle.lmn_store_heap.specs.Solid.{IsNaming}
use Rattle.lmn_store_heap.specs.Sound.{Valid}
use Rattle.lmn_print_folding.specs.Children.{IsChildAt, DescendsAt, IsMarkedIn}
use Rattle.lmn_print_folding.specs.Children as marked
use Rattle.lmn_print_folding.proofs.Positions.{behind, further_back}
use Rattle.lmn_print_folding.proofs.AtomsOfPositions.{atom_with, atom_behind}
use Rattle.lmn_print_folding.proofs.ChildPositions.{to_heap, from_heap, down, up}
use Rattle.lmn_base.proofs.Numbers.{below_next2 as below_next, not_equal as apart_test}
use Rattle.lmn_store_heap.proofs.Common.{in_at, position}
use Rattle.lmn_congruence.proofs.Common.{among_left, among_right, among_apart}
use Rattle.lmn_base.specs.Lists.{In}

-- The list `ys` is what stands in `xs` from j on.
abbrev From : List ℕ → ℕ → List ℕ → Type 0
From xs j ys = (k a : ℕ) → slice_get ys k ≡ Some a → slice_get xs (j + k) ≡ Some a

first_of_list : (xs : List ℕ) (j y : ℕ) (ys : List ℕ) → From xs j (y ∷ ys) → slice_get xs j ≡ Some y
first_of_list xs j y ys h = ap (slice_get xs) (let e : j ≡ j + 0 = omega arith in e) ∙ h zero y refl

rest_of_list : (xs : List ℕ) (j y : ℕ) (ys : List ℕ) → From xs j (y ∷ ys) → From xs (j + 1) ys
rest_of_list xs j y ys h k a e = ap (slice_get xs) (let f : (j + 1) + k ≡ j + suc k = omega arith in f) ∙ h (suc k) a e

-- the positions, from j on, of the atoms of a list that have this own mark
abbrev marked_from : Heap → ℕ → ℕ → List ℕ → List ℕ
marked_from s v j [] = []
marked_from s v j (a ∷ ys) = if own_mark s a == v then j ∷ marked_from s v (j + 1) ys else marked_from s v (j + 1) ys

-- these atoms stand at these positions
pub data StandAt (xs : List ℕ) : List ℕ → List ℕ → Type 0 where
  none : StandAt xs [] []
  more : {p a : ℕ} {ps ys : List ℕ} → slice_get xs p ≡ Some a → StandAt xs ps ys → StandAt xs (p ∷ ps) (a ∷ ys)

both_stand : (xs ps ys qs zs : List ℕ) → StandAt xs ps ys → StandAt xs qs zs → StandAt xs (ps ++ qs) (ys ++ zs)
both_stand xs _ _ qs zs none h = h
both_stand xs _ _ qs zs (more {p = p} {a = a} {ps = ps} {ys = ys} e g) h = more e (both_stand xs ps ys qs zs g h)

one_stands : (xs : List ℕ) (t : Bool) (j y : ℕ) (ps zs : List ℕ) → slice_get xs j ≡ Some y → StandAt xs ps zs
    → StandAt xs (if t then j ∷ ps else ps) (if t then y ∷ zs else zs)
one_stands xs true j y ps zs e h = more e h
one_stands xs false j y ps zs e h = h

marked_stand : (s : Heap) (v : ℕ) (xs : List ℕ) (j : ℕ) (ys : List ℕ) → From xs j ys → StandAt xs (marked_from s v j ys) (filter (λ a. own_mark s a == v) ys)
marked_stand s v xs j [] h = none
marked_stand s v xs j (y ∷ ys) h = one_stands xs (own_mark s y == v) j y _ _ (first_of_list xs j y ys h) (marked_stand s v xs (j + 1) ys (rest_of_list xs j y ys h))

from_start : (xs : List ℕ) → From xs 0 xs
from_start xs k a e = ap (slice_get xs) (let f : 0 + k ≡ k = omega arith in f) ∙ e

among_cons : (p q : ℕ) (ps : List ℕ) → Among p (q ∷ ps) → (p ≡ q) ⊎ Among p ps
among_cons p _ ps at_head = inl refl
among_cons p q ps (further i) = inr i

-- what is among them has the mark
among_marked : (s : Heap) (v : ℕ) (xs : List ℕ) (j : ℕ) (ys : List ℕ) (p : ℕ) → From xs j ys → Among p (marked_from s v j ys)
    → (a : ℕ) × (slice_get xs p ≡ Some a) × (own_mark s a ≡ v)
among_marked s v xs j [] p h i = elim i [ ]
among_marked s v xs j (y ∷ ys) p h i = by (own_mark s y == v) refl (among_marked s v xs (j + 1) ys p (rest_of_list xs j y ys h)) i
  where
    by : (t : Bool) → (own_mark s y == v) ≡ t → (Among p (marked_from s v (j + 1) ys) → (a : ℕ) × (slice_get xs p ≡ Some a) × (own_mark s a ≡ v))
        → Among p (if t then j ∷ marked_from s v (j + 1) ys else marked_from s v (j + 1) ys) → (a : ℕ) × (slice_get xs p ≡ Some a) × (own_mark s a ≡ v)
    by true e others i = elim (among_cons p j (marked_from s v (j + 1) ys) i) [
      | inl f ↦ (y, ap (slice_get xs) f ∙ first_of_list xs j y ys h, eqb-true (own_mark s y) v e)
      | inr k ↦ others k
    ]
    by false e others i = others i

-- and what has it is
marked_among : (s : Heap) (v j : ℕ) (ys : List ℕ) (k a : ℕ) → slice_get ys k ≡ Some a → own_mark s a ≡ v → Among (j + k) (marked_from s v j ys)
marked_among s v j [] k a e f = absurd (none-some a e)
marked_among s v j (y ∷ ys) zero a e f =
    let here : (own_mark s y == v) ≡ true = eq-eqb (own_mark s y) v (ap (own_mark s) (same_Some y a e) ∙ f) in
    let others = marked_from s v (j + 1) ys in
    let start : j ≡ j + 0 = omega arith in
    subst (λ p. Among p (marked_from s v j (y ∷ ys))) start (subst (λ t. Among j (if t then j ∷ others else others)) (sym here) at_head)
marked_among s v j (y ∷ ys) (suc k) a e f =
    let next : (j + 1) + k ≡ j + suc k = omega arith in
    let there = subst (λ p. Among p (marked_from s v (j + 1) ys)) next (marked_among s v (j + 1) ys k a e f) in
    by (own_mark s y == v) (marked_from s v (j + 1) ys) there
  where
    by : (t : Bool) (ps : List ℕ) → Among (j + suc k) ps → Among (j + suc k) (if t then j ∷ ps else ps)
    by true ps i = further i
    by false ps i = i

module _ (names : List Name) (s : Heap) (valid : Valid s) (name : ℕ → ℕ → ℕ) (naming : IsNaming s name) (m : ℕ) (marks : IsMarkedIn s m) where
  abbrev atoms : List SolidAtom
  atoms = map (atom_with names s name) (atoms_in s m)

  abbrev HasParent : ℕ → Type 0
  HasParent a = (p : ℕ) × (k : ℕ) × IsChildAt s m a p k

  parent_of : (i a : ℕ) → DescendsAt s m i a → i ≢ a → HasParent a
  parent_of i _ marked.itself d = absurd (d refl)
  parent_of i _ (marked.child {q = q} {k = k} h c) d = (q, k, c)

  -- an atom that isn't marked as the first items are is a child
  pub has_parent : (a : ℕ) → In a (atoms_in s m) → own_mark s a ≢ 1 → HasParent a
  has_parent a i d = elim (marks.each a i) [
    | inl e ↦ absurd (d e)
    | inr w ↦ elim w [
      | inl e ↦ marks.later_child a i e
      | inr e ↦ (let t = marks.term a i e in parent_of t.0 a t.2 (other t.0 e t.1.1))
    ]
  ]
    where
      other : (k : ℕ) → own_mark s a ≡ 3 → (own_mark s k ≡ 1) ⊎ ((own_mark s k ≡ 2) × In a (after k (atoms_in s m))) → k ≢ a
      other k e (inl f) g = let h : ◌≡◌ {A = ℕ} 1 3 = sym f ∙ ap (own_mark s) g ∙ e in absurd (omega (arith, h))
      other k e (inr f) g = let h : ◌≡◌ {A = ℕ} 2 3 = sym f.0 ∙ ap (own_mark s) g ∙ e in absurd (omega (arith, h))

  no_child : (j y : ℕ) → slice_get (atoms_in s m) j ≡ Some y → own_mark s y ≡ 1 → folding.IsNoChild atoms j
  no_child j y at e p k c =
      let b = atom_behind names s name (atoms_in s m) p c.parent c.parent_at in
      marks.first y b.0 k e (to_heap names s valid name naming m j p k y b.0 at b.1 c)

  first_items : (j : ℕ) (ys : List ℕ) → From (atoms_in s m) j ys → NoChildren atoms (range_with_len j (length ys)) (marked_from s 1 j ys)
  first_items j [] h = folding.none
  first_items j (y ∷ ys) h = by (own_mark s y == 1) refl (first_items (j + 1) ys (rest_of_list (atoms_in s m) j y ys h))
    where
      at : slice_get (atoms_in s m) j ≡ Some y
      at = first_of_list (atoms_in s m) j y ys h

      no_one : (own_mark s y == 1) ≡ false → own_mark s y ≢ 1
      no_one e f = absurd (cc (sym e ∙ eq-eqb (own_mark s y) 1 f))

      by : (t : Bool) → (own_mark s y == 1) ≡ t → {qs ps : List ℕ} → NoChildren atoms qs ps → NoChildren atoms (j ∷ qs) (if t then j ∷ ps else ps)
      by true e others = folding.kept (no_child j y at (eqb-true (own_mark s y) 1 e)) others
      by false e others =
          let c = has_parent y (in_at (atoms_in s m) j y at) (no_one e) in
          let p = position (atoms_in s m) c.0 c.2.parent in
          folding.left p.0 c.1 (from_heap names s valid name naming m j p.0 c.1 y c.0 at p.1 c.2) others

  -- an atom that is chosen before position j is asked
  abbrev IsBefore : ℕ → ℕ → ℕ → Type 0
  IsBefore j p a = (own_mark s a ≡ 1) ⊎ ((own_mark s a ≡ 2) × (p < j))

  record Chosen (j : ℕ) (items : List ℕ) : Type 0 where
    pub has : (p a : ℕ) → slice_get (atoms_in s m) p ≡ Some a → IsBefore j p a → Among p items
    pub is : (p : ℕ) → Among p items → (a : ℕ) × (slice_get (atoms_in s m) p ≡ Some a) × IsBefore j p a

  later_on : (j p a : ℕ) → IsBefore j p a → IsBefore (j + 1) p a
  later_on j p a (inl e) = inl e
  later_on j p a (inr h) = let l = h.1 in inr (h.0, omega (arith, l))

  same_at : (j p y a : ℕ) → slice_get (atoms_in s m) j ≡ Some y → slice_get (atoms_in s m) p ≡ Some a → p ≡ j → a ≡ y
  same_at j p y a at e f = same_Some a y (sym e ∙ ap (slice_get (atoms_in s m)) f ∙ at)

  -- an atom with another mark is none of them
  passed : (j y : ℕ) (items : List ℕ) → slice_get (atoms_in s m) j ≡ Some y → own_mark s y ≢ 2 → Chosen j items → Chosen (j + 1) items
  passed j y items at d c = record {
    has = λ p a e w. c.has p a e (earlier p a e w);
    is = λ p i. let a = c.is p i in (a.0, a.1, later_on j p a.0 a.2);
  }
    where
      earlier : (p a : ℕ) → slice_get (atoms_in s m) p ≡ Some a → IsBefore (j + 1) p a → IsBefore j p a
      earlier p a e (inl f) = inl f
      earlier p a e (inr w) = elim (below_next p j w.1) [
        | inl l ↦ inr (w.0, l)
        | inr f ↦ absurd (d (sym (ap (own_mark s) (same_at j p y a at e f)) ∙ w.0))
      ]

  -- one more
  chosen : (j y : ℕ) (items : List ℕ) → slice_get (atoms_in s m) j ≡ Some y → own_mark s y ≡ 2 → Chosen j items → Chosen (j + 1) (items ++ j ∷ [])
  chosen j y items at mark c = record { has = has; is = λ p i. is p (among_apart items (j ∷ []) i) }
    where
      one_of : (p : ℕ) → Among p (j ∷ []) → p ≡ j
      one_of p i = elim (among_cons p j [] i) [ inl e ↦ e | inr k ↦ elim k [ ] ]

      last : (p : ℕ) → p ≡ j → Among p (items ++ j ∷ [])
      last p e = subst (λ q. Among q (items ++ j ∷ [])) (sym e) (among_right items at_head)

      has : (p a : ℕ) → slice_get (atoms_in s m) p ≡ Some a → IsBefore (j + 1) p a → Among p (items ++ j ∷ [])
      has p a e (inl f) = among_left (j ∷ []) (c.has p a e (inl f))
      has p a e (inr w) = elim (below_next p j w.1) [
        | inl l ↦ among_left (j ∷ []) (c.has p a e (inr (w.0, l)))
        | inr f ↦ last p f
      ]

      is : (p : ℕ) → Among p items ⊎ Among p (j ∷ []) → (a : ℕ) × (slice_get (atoms_in s m) p ≡ Some a) × IsBefore (j + 1) p a
      is p (inl i) = let a = c.is p i in (a.0, a.1, later_on j p a.0 a.2)
      is p (inr i) =
          let e = one_of p i in
          (y, ap (slice_get (atoms_in s m)) e ∙ at, inr (mark, omega (arith, e)))

  before_heap : (j y p a : ℕ) → slice_get (atoms_in s m) j ≡ Some y → slice_get (atoms_in s m) p ≡ Some a → IsBefore j p a → marked.IsItemBefore s m y a
  before_heap j y p a at e (inl f) = (in_at (atoms_in s m) p a e, inl f)
  before_heap j y p a at e (inr w) = (in_at (atoms_in s m) p a e, inr (w.0, behind (atoms_in s m) p j a y (valid.sound.listed.atoms_once m) e at w.1))

  before_list : (j y p a : ℕ) → slice_get (atoms_in s m) j ≡ Some y → slice_get (atoms_in s m) p ≡ Some a → marked.IsItemBefore s m y a → IsBefore j p a
  before_list j y p a at e (i, inl f) = inl f
  before_list j y p a at e (i, inr w) = inr (w.0, further_back (atoms_in s m) p j a y (valid.sound.listed.atoms_once m) e at w.1)

  -- behind the items so far come those with the mark 2
  abbrev Goes : ℕ → List ℕ → List ℕ → Type 0
  Goes j ys items = Further atoms items (range_with_len j (length ys)) (items ++ marked_from s 2 j ys)

  abbrev GoesOn : ℕ → List ℕ → Type 0
  GoesOn j ys = (items : List ℕ) → Chosen j items → Goes j ys items

  later_items : (j : ℕ) (ys items : List ℕ) → From (atoms_in s m) j ys → Chosen j items → Further atoms items (range_with_len j (length ys)) (items ++ marked_from s 2 j ys)
  later_items j [] items h c = subst (Further atoms items []) (sym (append-nil items)) folding.none
  later_items j (y ∷ ys) items h c = by (marks.each y (in_at (atoms_in s m) j y at)) (λ is d. later_items (j + 1) ys is (rest_of_list (atoms_in s m) j y ys h) d)
    where
      at : slice_get (atoms_in s m) j ≡ Some y
      at = first_of_list (atoms_in s m) j y ys h

      left_out : (own_mark s y == 2) ≡ false → (i : ℕ) → Among i items → Descends atoms i j → GoesOn (j + 1) ys → own_mark s y ≢ 2 → Goes j (y ∷ ys) items
      left_out e i a d others differs =
          let rest = marked_from s 2 (j + 1) ys in
          subst (λ t. Further atoms items (j ∷ range_with_len (j + 1) (length ys)) (items ++ (if t then j ∷ rest else rest))) (sym e)
          (folding.printed i a d (others items (passed j y items at differs c)))

      taken : own_mark s y ≡ 2 → GoesOn (j + 1) ys → Goes j (y ∷ ys) items
      taken e others =
          let rest = marked_from s 2 (j + 1) ys in
          let test : (own_mark s y == 2) ≡ true = eq-eqb (own_mark s y) 2 e in
          subst (λ t. Further atoms items (j ∷ range_with_len (j + 1) (length ys)) (items ++ (if t then j ∷ rest else rest))) (sym test)
          (folding.item (λ i a d. none_above e i a d)
          (subst (Further atoms (items ++ j ∷ []) (range_with_len (j + 1) (length ys))) (append_assoc items (j ∷ []) rest) (others (items ++ j ∷ []) (chosen j y items at e c))))
        where
          none_above : own_mark s y ≡ 2 → (i : ℕ) → Among i items → ¬ (Descends atoms i j)
          none_above e i a d =
              let b = c.is i a in
              marks.later y b.0 (in_at (atoms_in s m) j y at) e (before_heap j y i b.0 at b.1 b.2) (up names s valid name naming m i j d b.0 y b.1 at)

      no_two : (n : ℕ) → own_mark s y ≡ n → n ≢ 2 → own_mark s y ≢ 2
      no_two n e d f = d (sym e ∙ f)

      by : (own_mark s y ≡ 1) ⊎ (own_mark s y ≡ 2) ⊎ (own_mark s y ≡ 3) → GoesOn (j + 1) ys → Goes j (y ∷ ys) items
      by (inl e) others =
          let differs = no_two 1 e (λ f. absurd (omega (arith, f))) in
          left_out (apart_test (own_mark s y) 2 differs) j (c.has j y at (inl e)) itself others differs
      by (inr (inl e)) others = taken e others
      by (inr (inr e)) others =
          let differs = no_two 3 e (λ f. absurd (omega (arith, f))) in
          let t = marks.term y (in_at (atoms_in s m) j y at) e in
          let p = position (atoms_in s m) t.0 t.1.0 in
          left_out (apart_test (own_mark s y) 2 differs) p.0 (c.has p.0 t.0 p.1 (before_list j y p.0 t.0 at p.1 t.1)) (down names s valid name naming m t.0 y t.2 p.0 j p.1 at) others differs

  -- the positions of the items
  abbrev pub items : List ℕ
  items = marked_from s 1 0 (atoms_in s m) ++ marked_from s 2 0 (atoms_in s m)

  pub are_items : AreItems atoms items
  are_items =
      let start = from_start (atoms_in s m) in
      let same : length (atoms_in s m) ≡ length atoms = sym (length-map (atoms_in s m) (atom_with names s name)) in
      let firsts : Chosen 0 (marked_from s 1 0 (atoms_in s m)) = record { has = first_has; is = λ p i. let a = among_marked s 1 (atoms_in s m) 0 (atoms_in s m) p start i in (a.0, a.1, inl a.2) } in
      record {
        firsts = marked_from s 1 0 (atoms_in s m);
        no_children = subst (λ n. NoChildren atoms (range_with_len 0 n) (marked_from s 1 0 (atoms_in s m))) same (first_items 0 (atoms_in s m) start);
        further = subst (λ n. Further atoms (marked_from s 1 0 (atoms_in s m)) (range_with_len 0 n) items) same (later_items 0 (atoms_in s m) (marked_from s 1 0 (atoms_in s m)) start firsts);
      }
    where
      first_has : (p a : ℕ) → slice_get (atoms_in s m) p ≡ Some a → IsBefore 0 p a → Among p (marked_from s 1 0 (atoms_in s m))
      first_has p a e (inl f) = subst (λ q. Among q (marked_from s 1 0 (atoms_in s m))) (let g : 0 + p ≡ p = omega arith in g) (marked_among s 1 0 (atoms_in s m) p a e f)
      first_has p a e (inr w) = let l = w.1 in absurd (omega (arith, l))

  -- an atom is one of them by its mark
  pub item_has : (p a : ℕ) → slice_get (atoms_in s m) p ≡ Some a → (own_mark s a ≡ 1) ⊎ (own_mark s a ≡ 2) → Among p items
  item_has p a e w = subst (λ q. Among q items) (let g : 0 + p ≡ p = omega arith in g) (by w)
    where
      by : (own_mark s a ≡ 1) ⊎ (own_mark s a ≡ 2) → Among (0 + p) items
      by (inl f) = among_left (marked_from s 2 0 (atoms_in s m)) (marked_among s 1 0 (atoms_in s m) p a e f)
      by (inr f) = among_right (marked_from s 1 0 (atoms_in s m)) (marked_among s 2 0 (atoms_in s m) p a e f)

  pub item_is : (p a : ℕ) → slice_get (atoms_in s m) p ≡ Some a → Among p items → (own_mark s a ≡ 1) ⊎ (own_mark s a ≡ 2)
  item_is p a e i = elim (among_apart (marked_from s 1 0 (atoms_in s m)) (marked_from s 2 0 (atoms_in s m)) i) [
    | inl h ↦ inl (mark 1 (among_marked s 1 (atoms_in s m) 0 (atoms_in s m) p (from_start (atoms_in s m)) h))
    | inr h ↦ inr (mark 2 (among_marked s 2 (atoms_in s m) 0 (atoms_in s m) p (from_start (atoms_in s m)) h))
  ]
    where
      mark : (v : ℕ) → (b : ℕ) × (slice_get (atoms_in s m) p ≡ Some b) × (own_mark s b ≡ v) → own_mark s a ≡ v
      mark v (b, f, g) = ap (own_mark s) (same_Some a b (sym e ∙ f)) ∙ g

  -- they stand where the marks say
  pub items_stand : StandAt (atoms_in s m) items (filter (λ a. own_mark s a == 1) (atoms_in s m) ++ filter (λ a. own_mark s a == 2) (atoms_in s m))
  items_stand =
      both_stand (atoms_in s m) (marked_from s 1 0 (atoms_in s m)) (filter (λ a. own_mark s a == 1) (atoms_in s m)) (marked_from s 2 0 (atoms_in s m)) (filter (λ a. own_mark s a == 2) (atoms_in s m))
      (marked_stand s 1 (atoms_in s m) 0 (atoms_in s m) (from_start (atoms_in s m))) (marked_stand s 2 (atoms_in s m) 0 (atoms_in s m) (from_start (atoms_in s m)))
