-- Lists whose elements stand in pairs have an even number of them.
use Rattle.std.proofs.Common.{ℕ, zero, suc, ◌+◌, ◌-◌, ◌≤◌, ◌≡◌, ◌≢◌, ◌⊎◌, List, [], ◌∷◌, ◌++◌, length, map, Some, refl, sym, ap, subst, ◌∙◌, inl, inr, arith}
use Rattle.std.proofs.lemmas.Bool.{cases_eq}
use Rattle.std.proofs.lemmas.List.{length-append}
use Rattle.lmn_base.specs.Graphs.{Port}
use Rattle.lmn_base.proofs.Lists.{map_append}
use Rattle.lmn_congruence.specs.Links.{one_if_same, places}
use Rattle.lmn_congruence.proofs.Counts.{none_if_apart as one_other, one_if_equal as one_same}
use Rattle.lmn_congruence.proofs.TranslatedLinks.{places_append as often_append}
use Rattle.lmn_congruence_splice.specs.Classes.{ends_of_class}
use Rattle.lmn_congruence_splice.specs.Ports.{Partners}
use Rattle.lmn_congruence_splice.specs.Splice.{IsOneOf, NoneTwice, TwiceOrNever, both_links, links}
use Rattle.lmn_congruence_splice.proofs.ClassLemmas.{ends_length}
use Rattle.lmn_congruence_splice.proofs.Common.{in_append, in_back, in_front}
use Rattle.lmn_congruence_splice.proofs.Joining.{same_some}
use Rattle.lmn_solid_bodies.proofs.Firing.{often_in}

-- twice some number
abbrev pub Even : ℕ → Type 0
Even n = (k : ℕ) × (n ≡ k + k)

-- where two sums that share a part are even, so is that of the other parts
pub even_others : (a b c : ℕ) → Even (a + b) → Even (b + c) → Even (a + c)
even_others a b c (i, e) (j, f) = (i + j - b, omega (arith, e, f))

-- an element of a list has a place in it
pub one_split : {A : Type 0} (x : A) (xs : List A) → IsOneOf x xs → (ys : List A) × (zs : List A) × (xs ≡ ys ++ (x ∷ zs))
one_split x [] i = absurd i
one_split x (y ∷ xs) (inl e) = ([], xs, λ t. e t ∷ xs)
one_split x (y ∷ xs) (inr i) = let w = one_split x xs i in (y ∷ w.0, w.1, λ t. y ∷ w.2 t)

-- ---- numbers that stand twice

-- how often a number stands in what is left, where the first element is one more
rest_twice : (o r total : ℕ) → (o ≡ 0) ⊎ (o ≡ 1) → total ≡ o + (o + r) → (total ≡ 0) ⊎ (total ≡ 2) → (r ≡ 0) ⊎ (r ≡ 2)
rest_twice o r total (inl a) e (inl f) = inl (omega (arith, a, e, f))
rest_twice o r total (inl a) e (inr f) = inr (omega (arith, a, e, f))
rest_twice o r total (inr a) e (inl f) = absurd (omega (arith, a, e, f))
rest_twice o r total (inr a) e (inr f) = inl (omega (arith, a, e, f))

one_or_none : (z x : ℕ) → (one_if_same z x ≡ 0) ⊎ (one_if_same z x ≡ 1)
one_or_none z x = elim (cases_eq z x) [ inl e ↦ inr (one_same z x e) | inr d ↦ inl (one_other z x d) ]

-- the first of such numbers stands once more
first_again : (x : ℕ) (xs : List ℕ) → TwiceOrNever (x ∷ xs) → IsOneOf x xs
first_again x xs h = often_in x xs (by (one_if_same x x) (places x xs) (one_same x x refl) (h x))
  where
    by : (o n : ℕ) → o ≡ 1 → (o + n ≡ 0) ⊎ (o + n ≡ 2) → 1 ≤ n
    by o n e (inl f) = absurd (omega (arith, e, f))
    by o n e (inr f) = omega (arith, e, f)

-- without its first element and the other one that is like it such a list is such a list
without_both : (x : ℕ) (ys zs : List ℕ) → TwiceOrNever (x ∷ (ys ++ (x ∷ zs))) → TwiceOrNever (ys ++ zs)
without_both x ys zs h z =
    rest_twice (one_if_same z x) (places z (ys ++ zs)) (one_if_same z x + places z (ys ++ (x ∷ zs))) (one_or_none z x)
    (sum (one_if_same z x) (places z (ys ++ (x ∷ zs))) (places z (ys ++ zs)) (places z ys) (places z zs) (often_append z ys (x ∷ zs)) (often_append z ys zs)) (h z)
  where
    sum : (o all some y n : ℕ) → all ≡ y + (o + n) → some ≡ y + n → o + all ≡ o + (o + some)
    sum o all some y n e f = omega (arith, e, f)

-- in a list in which each number stands twice or never any image stands evenly often
even_images : (m : ℕ → ℕ) (z n : ℕ) (xs : List ℕ) → length xs ≤ n → TwiceOrNever xs → Even (places z (map m xs))
even_images m z n [] l h = (0, refl)
even_images m z zero (x ∷ xs) l h = absurd (omega (arith, l))
even_images m z (suc n) (x ∷ xs) l h =
    let s = one_split x xs (first_again x xs h) in
    let long : length xs ≡ length s.0 + suc (length s.1) = ap length s.2 ∙ length-append s.0 (x ∷ s.1) in
    let short : length (s.0 ++ s.1) ≡ length s.0 + length s.1 = length-append s.0 s.1 in
    let r = even_images m z n (s.0 ++ s.1) (omega (arith, long, short, l)) (without_both x s.0 s.1 (subst (λ ys. TwiceOrNever (x ∷ ys)) s.2 h)) in
    let all : places z (map m xs) ≡ places z (map m s.0) + (one_if_same z (m x) + places z (map m s.1)) =
    ap (λ ys. places z (map m ys)) s.2 ∙ ap (places z) (map_append m s.0 (x ∷ s.1)) ∙ often_append z (map m s.0) (map m (x ∷ s.1)) in
    let some : places z (map m (s.0 ++ s.1)) ≡ places z (map m s.0) + places z (map m s.1) =
    ap (places z) (map_append m s.0 s.1) ∙ often_append z (map m s.0) (map m s.1) in
    (one_if_same z (m x) + r.0, omega (arith, all, some, r.1))

-- a map that takes the two links of each connector to one has each image evenly often at them
even_connectors : (m : ℕ → ℕ) (z : ℕ) (es : List (ℕ × ℕ)) → ((e : ℕ × ℕ) → IsOneOf e es → m e.0 ≡ m e.1) → Even (places z (map m (both_links es)))
even_connectors m z [] h = (0, refl)
even_connectors m z (e ∷ es) h =
    let r = even_connectors m z es (λ g i. h g (inr i)) in
    let same : one_if_same z (m e.0) ≡ one_if_same z (m e.1) = ap (one_if_same z) (h e (inl refl)) in
    (one_if_same z (m e.1) + r.0, omega (arith, same, r.1))

-- So an image has an even number of ends, new ones and old ones.
pub even_ends : (m : ℕ → ℕ) (z : ℕ) (news olds : List (Port × ℕ)) (es : List (ℕ × ℕ)) → TwiceOrNever (both_links es ++ (links news ++ links olds)) → ((e : ℕ × ℕ) → IsOneOf e es → m e.0 ≡ m e.1)
    → Even (length (ends_of_class m z news) + length (ends_of_class m z olds))
even_ends m z news olds es h g =
    let all = even_images m z (length (both_links es ++ (links news ++ links olds))) (both_links es ++ (links news ++ links olds)) (omega arith) h in
    let wires = even_connectors m z es g in
    let parts : places z (map m (both_links es ++ (links news ++ links olds))) ≡ places z (map m (both_links es)) + (places z (map m (links news)) + places z (map m (links olds))) =
    ap (places z) (map_append m (both_links es) (links news ++ links olds) ∙ ap (λ ys. map m (both_links es) ++ ys) (map_append m (links news) (links olds)))
    ∙ often_append z (map m (both_links es)) (map m (links news) ++ map m (links olds))
    ∙ ap (λ k. places z (map m (both_links es)) + k) (often_append z (map m (links news)) (map m (links olds))) in
    (all.0 - wires.0, omega (arith, all.1, wires.1, parts, ends_length m z news, ends_length m z olds))

-- ---- ports that are partners

-- a list has the partner of each of its ports
abbrev pub HasPartners : Partners → List Port → Type 0
HasPartners k xs = (p : Port) → IsOneOf p xs → (q : Port) × IsOneOf q xs × (k p ≡ Some q)

none_middle : {A : Type 0} (ys : List A) (y : A) (zs : List A) → NoneTwice (ys ++ (y ∷ zs)) → NoneTwice (ys ++ zs) × (IsOneOf y (ys ++ zs) → ⊥)
none_middle [] y zs d = (d.1, d.0)
none_middle (x ∷ ys) y zs d =
    let w = none_middle ys y zs d.1 in (
      ((λ i. d.0 (elim (in_append x ys zs i) [ inl j ↦ in_front x ys (y ∷ zs) j | inr j ↦ in_back x ys (y ∷ zs) (inr j) ])), w.0),
      λ i. elim i [ inl e ↦ d.0 (in_back x ys (y ∷ zs) (inl (sym e))) | inr j ↦ w.1 j ],
    )

-- what is one of a list with one more in its midst is that one or one of the list
middle_cases : {A : Type 0} (x : A) (ys : List A) (y : A) (zs : List A) → IsOneOf x (ys ++ (y ∷ zs)) → (y ≡ x) ⊎ IsOneOf x (ys ++ zs)
middle_cases x ys y zs i = elim (in_append x ys (y ∷ zs) i) [
  | inl j ↦ inr (in_front x ys zs j)
  | inr j ↦ elim j [ inl e ↦ inl e | inr v ↦ inr (in_back x ys zs v) ]
]

middle_in : {A : Type 0} (x : A) (ys : List A) (y : A) (zs : List A) → IsOneOf x (ys ++ zs) → IsOneOf x (ys ++ (y ∷ zs))
middle_in x ys y zs i = elim (in_append x ys zs i) [ inl j ↦ in_front x ys (y ∷ zs) j | inr j ↦ in_back x ys (y ∷ zs) (inr j) ]

module _ (k : Partners) (back : (p q : Port) → k p ≡ Some q → k q ≡ Some p) (apart : (p : Port) → k p ≡ Some p → ⊥) where
  -- without its first port and the partner of this such a list is such a list
  partners_rest : (x : Port) (ys : List Port) (y : Port) (zs : List Port) → k x ≡ Some y → NoneTwice (x ∷ (ys ++ (y ∷ zs))) → HasPartners k (x ∷ (ys ++ (y ∷ zs))) → HasPartners k (ys ++ zs)
  partners_rest x ys y zs e d h p i =
      let w = h p (inr (middle_in p ys y zs i)) in
      elim w.1 [
        | inl f ↦ absurd ((none_middle ys y zs d.1).1 (subst (λ z. IsOneOf z (ys ++ zs)) (same_some p y (sym (back p x (w.2 ∙ ap Some (sym f))) ∙ e)) i))
        | inr j ↦ elim (middle_cases w.0 ys y zs j) [
          | inl f ↦ absurd (d.0 (middle_in x ys y zs (subst (λ z. IsOneOf z (ys ++ zs)) (same_some p x (sym (back p y (w.2 ∙ ap Some (sym f))) ∙ back x y e)) i)))
          | inr v ↦ (w.0, v, w.2)
        ]
      ]

  pub even_partners : (n : ℕ) (xs : List Port) → length xs ≤ n → NoneTwice xs → HasPartners k xs → Even (length xs)
  even_partners n [] l d h = (0, refl)
  even_partners zero (x ∷ xs) l d h = absurd (omega (arith, l))
  even_partners (suc n) (x ∷ xs) l d h =
      let w = h x (inl refl) in
      elim w.1 [
        | inl e ↦ absurd (apart x (w.2 ∙ ap Some (sym e)))
        | inr i ↦ (let s = one_split w.0 xs i in
            let long : length xs ≡ length s.0 + suc (length s.1) = ap length s.2 ∙ length-append s.0 (w.0 ∷ s.1) in
            let short : length (s.0 ++ s.1) ≡ length s.0 + length s.1 = length-append s.0 s.1 in
            let once : NoneTwice (x ∷ (s.0 ++ (w.0 ∷ s.1))) = subst (λ z. NoneTwice (x ∷ z)) s.2 d in
            let r = even_partners n (s.0 ++ s.1) (omega (arith, long, short, l)) (none_middle s.0 w.0 s.1 once.1).0
            (partners_rest x s.0 w.0 s.1 w.2 once (subst (λ z. HasPartners k (x ∷ z)) s.2 h)) in
            (suc r.0, omega (arith, long, short, r.1)))
      ]

-- ---- two ports at most

-- a list of one or two ports, evenly many, that has the one, has the other
pub has_other : (x y : Port) (xs : List Port) → NoneTwice xs → ((p : Port) → IsOneOf p xs → (p ≡ x) ⊎ (p ≡ y)) → IsOneOf x xs → Even (length xs) → IsOneOf y xs
has_other x y [] d h i e = absurd i
has_other x y (p ∷ []) d h i (n, e) = absurd (odd n e)
  where
    odd : (n : ℕ) → suc zero ≡ n + n → ⊥
    odd n e = omega (arith, e)
has_other x y (p ∷ q ∷ xs) d h i e = elim (h p (inl refl)) [
  | inr f ↦ inl f
  | inl f ↦ elim (h q (inr (inl refl))) [ inr g ↦ inr (inl g) | inl g ↦ absurd (d.0 (inl (g ∙ sym f))) ]
]

-- those of two ports of which something holds
pub record Chosen (D : Port → Type 0) (x y : Port) : Type 0 where
  pub list : List Port
  pub once : NoneTwice list
  pub holds : (p : Port) → IsOneOf p list → D p × ((p ≡ x) ⊎ (p ≡ y))
  pub all : (p : Port) → D p → (p ≡ x) ⊎ (p ≡ y) → IsOneOf p list

pub chosen : (D : Port → Type 0) (x y : Port) → x ≢ y → D x ⊎ (D x → ⊥) → D y ⊎ (D y → ⊥) → Chosen D x y
chosen D x y apart (inl a) (inl b) = record {
  list = x ∷ y ∷ [];
  once = ((λ i. elim i [ inl e ↦ apart (sym e) | inr v ↦ v ]), ((λ v. v), tt));
  holds = λ p i. elim i [ inl e ↦ (subst D e a, inl (sym e)) | inr j ↦ elim j [ inl e ↦ (subst D e b, inr (sym e)) | inr v ↦ absurd v ] ];
  all = λ p d i. elim i [ inl e ↦ inl (sym e) | inr e ↦ inr (inl (sym e)) ];
}
chosen D x y apart (inl a) (inr b) = record {
  list = x ∷ [];
  once = ((λ v. v), tt);
  holds = λ p i. elim i [ inl e ↦ (subst D e a, inl (sym e)) | inr v ↦ absurd v ];
  all = λ p d i. elim i [ inl e ↦ inl (sym e) | inr e ↦ absurd (b (subst D e d)) ];
}
chosen D x y apart (inr a) (inl b) = record {
  list = y ∷ [];
  once = ((λ v. v), tt);
  holds = λ p i. elim i [ inl e ↦ (subst D e b, inr (sym e)) | inr v ↦ absurd v ];
  all = λ p d i. elim i [ inl e ↦ absurd (a (subst D e d)) | inr e ↦ inl (sym e) ];
}
chosen D x y apart (inr a) (inr b) = record {
  list = [];
  once = tt;
  holds = λ p i. absurd i;
  all = λ p d i. elim i [ inl e ↦ absurd (a (subst D e d)) | inr e ↦ absurd (b (subst D e d)) ];
}
