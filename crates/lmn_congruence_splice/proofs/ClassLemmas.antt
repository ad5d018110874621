-- Classes of links: they join the two links of each connector, and each has two ends or none.
use Rattle.std.proofs.Common.{ℕ, ◌+◌, ◌≤◌, ◌<◌, ◌≡◌, ◌≢◌, ◌⊎◌, ◌==◌, Bool, true, false, List, [], ◌∷◌, ◌++◌, map, length, refl, sym, ap, subst, ◌∙◌, inl, inr, arith}
use Rattle.std.specs.Prelude.{min, max}
use Rattle.std.proofs.lemmas.Bool.{cases_eq, cases_lt, eq-eqb, eqb-true}
use Rattle.std.proofs.Math.Nat.{min-eq_left, max-eq_right, min_comm, max_comm}
use Rattle.lmn_congruence_splice.specs.Classes.{with_joined, classes, ends_of_class}
use Rattle.lmn_congruence_splice.specs.Splice.{IsOneOf, TwiceOrNever, both_links}
use Rattle.lmn_congruence_splice.proofs.Joining.{merge_first}
use Rattle.lmn_congruence.specs.Links.{one_if_same, places}
use Rattle.lmn_congruence.specs.Process.{replace}
use Rattle.lmn_congruence.proofs.Counts.{none_if_apart as one_other, one_if_equal as one_same, replaced_here as merge_second, replaced_other as merge_other, places_old, places_new}

-- Counts where two numbers become one

merged_other : (a b z : ℕ) → z ≢ a → z ≢ b → (xs : List ℕ) → places z (map (replace a b) xs) ≡ places z xs
merged_other a b z da db [] = refl
merged_other a b z da db (x ∷ xs) = elim (cases_eq x b) [
  | inl f ↦ omega (arith, one_other z (replace a b x) (λ e. da (e ∙ ap (replace a b) f ∙ merge_second a b)), one_other z x (λ e. db (e ∙ f)), merged_other a b z da db xs)
  | inr g ↦ (let e : one_if_same z (replace a b x) ≡ one_if_same z x = ap (one_if_same z) (merge_other a b x g) in omega (arith, e, merged_other a b z da db xs))
]

merged_same : (a b z : ℕ) → a ≡ b → (xs : List ℕ) → places z (map (replace a b) xs) ≡ places z xs
merged_same a b z e [] = refl
merged_same a b z e (x ∷ xs) =
    let same : replace a b x ≡ x = elim (cases_eq x b) [ inl f ↦ ap (replace a b) f ∙ merge_second a b ∙ e ∙ sym f | inr g ↦ merge_other a b x g ] in
    let one : one_if_same z (replace a b x) ≡ one_if_same z x = ap (one_if_same z) same in
    omega (arith, one, merged_same a b z e xs)

-- two places of one connector are gone
twice_step : (a b : ℕ) (xs : List ℕ) → TwiceOrNever (a ∷ b ∷ xs) → TwiceOrNever (map (replace a b) xs)
twice_step a b xs h z = elim (cases_eq a b) [
  | inl e ↦ elim (cases_eq z a) [
    | inl f ↦ inl (merged_same a b z e xs ∙ none (places z xs) (one_if_same z a) (one_if_same z b) (one_same z a f) (one_same z b (f ∙ e)) (h z))
    | inr g ↦ rest (places z xs) _ (one_if_same z a) (one_if_same z b) (one_other z a g) (one_other z b (λ f. g (f ∙ sym e))) (merged_same a b z e xs) (h z)
  ]
  | inr d ↦ elim (cases_eq z b) [
    | inl f ↦ inl (ap (λ y. places y (map (replace a b) xs)) f ∙ places_old a b xs d)
    | inr gb ↦ elim (cases_eq z a) [
      | inl f ↦ inr (ap (λ y. places y (map (replace a b) xs)) f ∙ places_new a b xs d
          ∙ both (places a xs) (places b xs) (one_if_same a a) (one_if_same a b) (one_if_same b a) (one_if_same b b) (one_same a a refl) (one_other a b d) (one_other b a (λ e. d (sym e))) (one_same b b refl) (h a) (h b))
      | inr ga ↦ rest (places z xs) _ (one_if_same z a) (one_if_same z b) (one_other z a ga) (one_other z b gb) (merged_other a b z ga gb xs) (h z)
    ]
  ]
]
  where
    none : (n p q : ℕ) → p ≡ 1 → q ≡ 1 → (p + (q + n) ≡ 0) ⊎ (p + (q + n) ≡ 2) → n ≡ 0
    none n p q ep eq w = grind arith

    rest : (n m p q : ℕ) → p ≡ 0 → q ≡ 0 → m ≡ n → (p + (q + n) ≡ 0) ⊎ (p + (q + n) ≡ 2) → (m ≡ 0) ⊎ (m ≡ 2)
    rest n m p q ep eq e (inl w) = inl (omega arith)
    rest n m p q ep eq e (inr w) = inr (omega arith)

    both : (m n p q r s : ℕ) → p ≡ 1 → q ≡ 0 → r ≡ 0 → s ≡ 1 → (p + (q + m) ≡ 0) ⊎ (p + (q + m) ≡ 2) → (r + (s + n) ≡ 0) ⊎ (r + (s + n) ≡ 2) → m + n ≡ 2
    both m n p q r s ep eq er es v w = grind arith

swap_twice : (a b : ℕ) (xs : List ℕ) → TwiceOrNever (a ∷ b ∷ xs) → TwiceOrNever (b ∷ a ∷ xs)
swap_twice a b xs h z = by (h z)
  where
    by : (one_if_same z a + (one_if_same z b + places z xs) ≡ 0) ⊎ (one_if_same z a + (one_if_same z b + places z xs) ≡ 2)
        → (one_if_same z b + (one_if_same z a + places z xs) ≡ 0) ⊎ (one_if_same z b + (one_if_same z a + places z xs) ≡ 2)
    by (inl e) = inl (omega arith)
    by (inr e) = inr (omega arith)

-- Classes

-- the lesser and the greater are the two, in one order or the other
pub in_order : (x y : ℕ) → ((min x y ≡ x) × (max x y ≡ y)) ⊎ ((min x y ≡ y) × (max x y ≡ x))
in_order x y = elim (cases_lt x y) [
  | inl h ↦ inl (min-eq_left (below x y h), max-eq_right (below x y h))
  | inr h ↦ inr (min_comm x y ∙ min-eq_left h, max_comm x y ∙ max-eq_right h)
]
  where
    below : (x y : ℕ) → x < y → x ≤ y
    below x y h = omega arith

map_joined : (m : ℕ → ℕ) (x y : ℕ) (xs : List ℕ) → map (with_joined m x y) xs ≡ map (replace (min (m x) (m y)) (max (m x) (m y))) (map m xs)
map_joined m x y [] = refl
map_joined m x y (z ∷ zs) = ap (λ ws. with_joined m x y z ∷ ws) (map_joined m x y zs)

-- when all connectors are gone, each class has two ends or none
pub classes_twice : (m : ℕ → ℕ) (es : List (ℕ × ℕ)) (xs : List ℕ) → TwiceOrNever (map m (both_links es ++ xs)) → TwiceOrNever (map (classes m es) xs)
classes_twice m [] xs h = h
classes_twice m (e ∷ es) xs h = classes_twice (with_joined m e.0 e.1) es xs (subst TwiceOrNever (sym (map_joined m e.0 e.1 (both_links es ++ xs))) step)
  where
    step : TwiceOrNever (map (replace (min (m e.0) (m e.1)) (max (m e.0) (m e.1))) (map m (both_links es ++ xs)))
    step = elim (in_order (m e.0) (m e.1)) [
      | inl w ↦ rw (w.0, w.1) (twice_step (m e.0) (m e.1) (map m (both_links es ++ xs)) h)
      | inr w ↦ rw (w.0, w.1) (twice_step (m e.1) (m e.0) (map m (both_links es ++ xs)) (swap_twice (m e.0) (m e.1) (map m (both_links es ++ xs)) h))
    ]

classes_keep : (m : ℕ → ℕ) (es : List (ℕ × ℕ)) (x y : ℕ) → m x ≡ m y → classes m es x ≡ classes m es y
classes_keep m [] x y h = h
classes_keep m (e ∷ es) x y h = classes_keep (with_joined m e.0 e.1) es x y (ap (replace (min (m e.0) (m e.1)) (max (m e.0) (m e.1))) h)

joined_pair : (a b : ℕ) → replace (min a b) (max a b) a ≡ replace (min a b) (max a b) b
joined_pair a b = elim (in_order a b) [
  | inl w ↦ rw (w.0, w.1) (merge_first a b ∙ sym (merge_second a b))
  | inr w ↦ rw (w.0, w.1) (merge_second b a ∙ sym (merge_first b a))
]

-- the two links of a connector are of one class
pub connected : (m : ℕ → ℕ) (es : List (ℕ × ℕ)) (e : ℕ × ℕ) → IsOneOf e es → classes m es e.0 ≡ classes m es e.1
connected m [] e i = absurd i
connected m (f ∷ es) e (inl h) = subst (λ (w : ℕ × ℕ). classes (with_joined m f.0 f.1) es w.0 ≡ classes (with_joined m f.0 f.1) es w.1) h
    (classes_keep (with_joined m f.0 f.1) es f.0 f.1 (joined_pair (m f.0) (m f.1)))
connected m (f ∷ es) e (inr i) = connected (with_joined m f.0 f.1) es e i

-- a class is no greater than its links
pub class_least : (m : ℕ → ℕ) (es : List (ℕ × ℕ)) (x : ℕ) → classes m es x ≤ m x
class_least m [] x = omega arith
class_least m (e ∷ es) x = step (classes (with_joined m e.0 e.1) es x) (with_joined m e.0 e.1 x) (class_least (with_joined m e.0 e.1) es x) less
  where
    step : (a b : ℕ) → a ≤ b → b ≤ m x → a ≤ m x
    step a b h g = omega arith

    between : (a b : ℕ) → min a b ≤ max a b
    between a b = elim (in_order a b) [ inl w ↦ by_order a b | inr w ↦ by_order a b ]
      where
        by_order : (a b : ℕ) → min a b ≤ max a b
        by_order a b = elim (cases_lt a b) [ inl h ↦ rw (min-eq_left (weak a b h), max-eq_right (weak a b h)) (weak a b h) | inr h ↦ rw (min_comm a b, min-eq_left h, max_comm a b, max-eq_right h) h ]
          where
            weak : (a b : ℕ) → a < b → a ≤ b
            weak a b h = omega arith

    less : with_joined m e.0 e.1 x ≤ m x
    less = elim (cases_eq (m x) (max (m e.0) (m e.1))) [
      | inl f ↦ subst (λ z. replace (min (m e.0) (m e.1)) (max (m e.0) (m e.1)) z ≤ z) (sym f) (rw (merge_second (min (m e.0) (m e.1)) (max (m e.0) (m e.1))) (between (m e.0) (m e.1)))
      | inr g ↦ rw (merge_other (min (m e.0) (m e.1)) (max (m e.0) (m e.1)) (m x) g) (omega arith)
    ]

-- the number of ends of a class
pub ends_length : {P : Type 0} (m : ℕ → ℕ) (z : ℕ) (es : List (P × ℕ)) → length (ends_of_class m z es) ≡ places z (map m (map (λ (e : P × ℕ). e.1) es))
ends_length m z [] = refl
ends_length m z (e ∷ es) = elim (cases_eq (m e.1) z) [
  | inl h ↦ rw (eq-eqb (m e.1) z h, eq-eqb z (m e.1) (sym h)) (omega (arith, ends_length m z es))
  | inr d ↦ rw (not_eq (m e.1) z d, not_eq z (m e.1) (λ h. d (sym h))) (omega (arith, ends_length m z es))
]
  where
    not_eq : (x y : ℕ) → x ≢ y → (x == y) ≡ false
    not_eq x y d = by (x == y) refl
      where
        by : (t : Bool) → (x == y) ≡ t → t ≡ false
        by true e = absurd (d (eqb-true x y e))
        by false e = refl
