-- Items that are filed in the list of their place.
use Rattle.std.proofs.Common.{◌≡◌, ◌≢◌, ◌⊎◌, ℕ, ◌+◌, ◌-◌, ◌↔◌, List, [], ◌∷◌, ◌++◌, Option, Some, None, refl, sym, ap, subst, ◌∙◌, inl, inr, arith}
use Rattle.std.proofs.lemmas.Bool.{cases_eq}
use Rattle.lmn_store_heap.specs.Lists.{Distinct, without}
use Rattle.lmn_store_heap.specs.Heap.{Place, top, within, waiting, gone, alter}
use Rattle.lmn_store_heap.proofs.ListLemmas.{in_left, in_without}
use Rattle.lmn_store_heap.proofs.Trees.{in_here}
use Rattle.lmn_store_heap.proofs.Listing.{alter_at, alter_away, in_without_of, distinct_without, distinct_snoc}
use Rattle.lmn_store_slab.specs.Cells.{place_by}
use Rattle.lmn_store_slab.specs.Kept.{Filed}
use Rattle.lmn_base.proofs.Numbers.{not_equal as apart_test}
use Rattle.lmn_base.specs.Lists.{In}
use Rattle.lmn_base.proofs.Lists.{in_either}

-- Numbers of lists

-- the list with the number m + 2 is that of the membrane m
pub place_mem : (m : ℕ) → place_by (m + 2) ≡ within m
place_mem m =
    let a : m + 2 ≢ 0 = λ e. omega arith in
    let b : m + 2 ≢ 1 = λ e. omega arith in
    let c : m + 2 - 2 ≡ m = omega arith in
    rw (apart_test (m + 2) 0 a, apart_test (m + 2) 1 b, c) refl

-- a list is that of what waits, of what is gone, or of a membrane
abbrev pub Number : ℕ → Type 0
Number l = (l ≡ 0) ⊎ ((l ≡ 1) ⊎ ((m : ℕ) × (l ≡ m + 2)))

-- so each list is one of these
pub number : (l : ℕ) → Number l
number l = elim (cases_eq l 0) [
  | inl e ↦ inl e
  | inr a ↦ elim (cases_eq l 1) [
    | inl e ↦ inr (inl e)
    | inr b ↦ inr (inr (l - 2, let e : l ≡ l - 2 + 2 = omega arith in e))
  ]
]

-- a list whose place is in a membrane has the number of that and two
pub place_within : (l m : ℕ) → place_by l ≡ within m → l ≡ m + 2
place_within l m e = elim (number l) [
  | inl z ↦ (let w : waiting ≡ within m = ap place_by (sym z) ∙ e in absurd (cc))
  | inr n ↦ elim n [
    | inl z ↦ (let w : gone ≡ within m = ap place_by (sym z) ∙ e in absurd (cc))
    | inr k ↦ (let w : within k.0 ≡ within m = sym (place_mem k.0) ∙ ap place_by (sym k.1) ∙ e in let v : k.0 ≡ m = (cc) in k.1 ∙ ap (λ z. z + 2) v)
  ]
]

-- one of what waits has the number 0
pub place_waiting : (l : ℕ) → place_by l ≡ waiting → l ≡ 0
place_waiting l e = elim (number l) [
  | inl z ↦ z
  | inr n ↦ elim n [
    | inl z ↦ (let w : gone ≡ waiting = ap place_by (sym z) ∙ e in absurd (cc))
    | inr k ↦ (let w : within k.0 ≡ waiting = sym (place_mem k.0) ∙ ap place_by (sym k.1) ∙ e in absurd (cc))
  ]
]

-- and one of what is gone the number 1
pub place_gone : (l : ℕ) → place_by l ≡ gone → l ≡ 1
place_gone l e = elim (number l) [
  | inl z ↦ (let w : waiting ≡ gone = ap place_by (sym z) ∙ e in absurd (cc))
  | inr n ↦ elim n [
    | inl z ↦ z
    | inr k ↦ (let w : within k.0 ≡ gone = sym (place_mem k.0) ∙ ap place_by (sym k.1) ∙ e in absurd (cc))
  ]
]

-- different lists have different places
pub place_one : (l k : ℕ) → place_by l ≡ place_by k → l ≡ k
place_one l k e = elim (number k) [
  | inl z ↦ place_waiting l (e ∙ ap place_by z) ∙ sym z
  | inr n ↦ elim n [
    | inl z ↦ place_gone l (e ∙ ap place_by z) ∙ sym z
    | inr m ↦ place_within l m.0 (e ∙ ap place_by m.1 ∙ place_mem m.0) ∙ sym m.1
  ]
]

-- no list has the place of the root
pub never_top : (l : ℕ) → place_by l ≡ top → ⊥
never_top l e = elim (number l) [
  | inl z ↦ (let w : waiting ≡ top = ap place_by (sym z) ∙ e in absurd (cc))
  | inr n ↦ elim n [
    | inl z ↦ (let w : gone ≡ top = ap place_by (sym z) ∙ e in absurd (cc))
    | inr k ↦ (let w : within k.0 ≡ top = sym (place_mem k.0) ∙ ap place_by (sym k.1) ∙ e in absurd (cc))
  ]
]

-- An item leaves its list and is nowhere, or comes to a list.

module _ (L : ℕ → List ℕ) (P Q : ℕ → Option Place) (f : Filed L P) (x : ℕ) (off : (y : ℕ) → y ≢ x → Q y ≡ P y) where
  some_apart : (R S : Place) → Some R ≡ Some S → R ≡ S
  some_apart R S e = (cc)

  pub drop_filed : (l : ℕ) → P x ≡ Some (place_by l) → Q x ≡ None → Filed (alter L l (without x)) Q
  drop_filed l was now = record {
    filed = λ k y. elim (cases_eq k l) [
      | inl e ↦ subst (λ z. In y (alter L l (without x) z) ↔ (Q y ≡ Some (place_by z))) (sym e) (rw (alter_at L l (without x)) (
        λ i. let w = in_without_of x y (L l) (f.once l) i in off y w.1 ∙ (f.filed l y).0 w.0,
        λ q. in_without x y (L l) ((f.filed l y).1 (sym (off y (not_x l y q)) ∙ q)) (not_x l y q),
      ))
      | inr d ↦ rw (alter_away L l (without x) k d) (
        λ i. let w = (f.filed k y).0 i in
            off y (λ same. d (place_one k l (some_apart (place_by k) (place_by l) (sym w ∙ ap P same ∙ was)))) ∙ w,
        λ q. (f.filed k y).1 (sym (off y (not_x k y q)) ∙ q),
      )
    ];
    once = λ k. elim (cases_eq k l) [
      | inl e ↦ subst (λ z. Distinct (alter L l (without x) z)) (sym e) (rw (alter_at L l (without x)) (distinct_without x (L l) (f.once l)))
      | inr d ↦ rw (alter_away L l (without x) k d) (f.once k)
    ];
  }
    where
      not_x : (k y : ℕ) → Q y ≡ Some (place_by k) → y ≢ x
      not_x k y q same = let w : None ≡ Some (place_by k) = sym now ∙ ap Q (sym same) ∙ q in absurd (cc)

  pub add_filed : (l : ℕ) → P x ≡ None → Q x ≡ Some (place_by l) → Filed (alter L l (λ xs. xs ++ x ∷ [])) Q
  add_filed l was now = record {
    filed = λ k y. elim (cases_eq k l) [
      | inl e ↦ subst (λ z. In y (alter L l more z) ↔ (Q y ≡ Some (place_by z))) (sym e) (rw (alter_at L l more) (
        λ i. elim (in_either y (L l) (x ∷ []) i) [
          | inl j ↦ off y (not_x l y ((f.filed l y).0 j)) ∙ (f.filed l y).0 j
          | inr j ↦ elim j [ inl same ↦ ap Q (sym same) ∙ now | inr none ↦ absurd none ]
        ],
        λ q. elim (cases_eq y x) [
          | inl same ↦ subst (λ z. In z (L l ++ x ∷ [])) (sym same) (in_here x (L l) [])
          | inr other ↦ in_left y (L l) (x ∷ []) ((f.filed l y).1 (sym (off y other) ∙ q))
        ],
      ))
      | inr d ↦ rw (alter_away L l more k d) (
        λ i. let w = (f.filed k y).0 i in off y (not_x k y w) ∙ w,
        λ q. elim (cases_eq y x) [
          | inl same ↦ absurd (d (place_one k l (some_apart (place_by k) (place_by l) (sym q ∙ ap Q same ∙ now))))
          | inr other ↦ (f.filed k y).1 (sym (off y other) ∙ q)
        ],
      )
    ];
    once = λ k. elim (cases_eq k l) [
      | inl e ↦ subst (λ z. Distinct (alter L l more z)) (sym e) (rw (alter_at L l more)
          (distinct_snoc x (L l) (f.once l) (λ i. not_x l x ((f.filed l x).0 i) refl)))
      | inr d ↦ rw (alter_away L l more k d) (f.once k)
    ];
  }
    where
      more : List ℕ → List ℕ
      more xs = xs ++ x ∷ []

      not_x : (k y : ℕ) → P y ≡ Some (place_by k) → y ≢ x
      not_x k y q same = let w : None ≡ Some (place_by k) = sym was ∙ ap P (sym same) ∙ q in absurd (cc)

-- an item goes from its list to the end of another
pub move_filed : (L : ℕ → List ℕ) (P Q : ℕ → Option Place) → Filed L P → (x l k : ℕ) → P x ≡ Some (place_by l) → Q x ≡ Some (place_by k) → ((y : ℕ) → y ≢ x → Q y ≡ P y)
    → Filed (alter (alter L l (without x)) k (λ xs. xs ++ x ∷ [])) Q
move_filed L P Q f x l k was now off =
    let none : ℕ → Option Place = alter P x (λ _. None) in
    add_filed (alter L l (without x)) none Q (drop_filed L P none f x (λ y d. alter_away P x (λ _. None) y d) l was (alter_at P x (λ _. None)))
    x (λ y d. off y d ∙ sym (alter_away P x (λ _. None) y d)) k (alter_at P x (λ _. None)) now

-- the list of an item is the only one that it is in
pub only_list : (L : ℕ → List ℕ) (P : ℕ → Option Place) → Filed L P → (x l : ℕ) → P x ≡ Some (place_by l) → (k : ℕ) → In x (L k) → k ≡ l
only_list L P f x l was k i = let w : Some (place_by k) ≡ Some (place_by l) = sym ((f.filed k x).0 i) ∙ was in place_one k l (cc)

-- where no place changes
pub same_filed : (L : ℕ → List ℕ) (P Q : ℕ → Option Place) → ((y : ℕ) → Q y ≡ P y) → Filed L P → Filed L Q
same_filed L P Q e f = record { filed = λ k y. rw (e y) (f.filed k y); once = f.once }
