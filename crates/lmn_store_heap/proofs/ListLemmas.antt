-- What is in a list of numbers, and where.
use Rattle.std.proofs.Common.{◌≡◌, ◌≢◌, ℕ, ◌<◌, ◌≤◌, ◌==◌, List, [], ◌∷◌, ◌++◌, length, cond, true, false, Bool, refl, sym, ap, subst, ◌∙◌, inl, inr}
use Rattle.std.proofs.lemmas.Bool.{cases_eq, eq-eqb, eqb-true}
use Rattle.std.proofs.lemmas.Map.Steps.{length-le_from_distinct_below}
use Rattle.std.specs.Prelude.{nat_eq}
use Rattle.std.specs.List.{IsDistinct, AllByRecursion, list_any}
use Rattle.lmn_store_heap.specs.Lists.{Distinct, without, without_all}
use Rattle.lmn_base.proofs.Numbers.{not_equal as apart_test}
use Rattle.lmn_base.specs.Lists.{In}

-- what holds of each element holds of one
pub each_in : (P : ℕ → Type 0) (xs : List ℕ) (a : ℕ) → AllByRecursion P xs → In a xs → P a
each_in P [] a e i = absurd i
each_in P (x ∷ xs) a e (inl same) = subst P same e.0
each_in P (x ∷ xs) a e (inr i) = each_in P xs a e.1 i

-- and the other way
pub each_of : (P : ℕ → Type 0) (xs : List ℕ) → ((a : ℕ) → In a xs → P a) → AllByRecursion P xs
each_of P [] h = tt
each_of P (x ∷ xs) h = (h x (inl refl), each_of P xs (λ a i. h a (inr i)))

-- what is in a list is in a longer one
pub in_left : (a : ℕ) (xs ys : List ℕ) → In a xs → In a (xs ++ ys)
in_left a [] ys i = absurd i
in_left a (x ∷ xs) ys (inl e) = inl e
in_left a (x ∷ xs) ys (inr i) = inr (in_left a xs ys i)

-- what stands in the second of two lists stands in both joined
pub in_right : (a : ℕ) (xs ys : List ℕ) → In a ys → In a (xs ++ ys)
in_right a [] ys i = i
in_right a (x ∷ xs) ys i = inr (in_right a xs ys i)

-- of a list without repeats, an element of the first part isn't one of the second
pub apart : (xs ys : List ℕ) (a b : ℕ) → Distinct (xs ++ ys) → In a xs → In b ys → a ≢ b
apart [] ys a b d i j = absurd i
apart (x ∷ xs) ys a b d (inl e) j = subst (λ z. z ≢ b) e (each_in (λ z. x ≢ z) (xs ++ ys) b d.0 (in_right b xs ys j))
apart (x ∷ xs) ys a b d (inr i) j = apart xs ys a b d.1 i j

-- parts of a list without repeats have none
pub distinct_left : (xs ys : List ℕ) → Distinct (xs ++ ys) → Distinct xs
distinct_left [] ys d = tt
distinct_left (x ∷ xs) ys d = (each_of _ xs (λ a i. each_in (λ z. x ≢ z) (xs ++ ys) a d.0 (in_left a xs ys i)), distinct_left xs ys d.1)

-- where no number stands twice in two lists joined none does in the second
pub distinct_right : (xs ys : List ℕ) → Distinct (xs ++ ys) → Distinct ys
distinct_right [] ys d = d
distinct_right (x ∷ xs) ys d = distinct_right xs ys d.1

all_apart : (x : ℕ) (xs : List ℕ) → AllByRecursion (λ y. x ≢ y) xs → AllByRecursion (λ y. (x == y) ≡ false) xs
all_apart x [] e = tt
all_apart x (y ∷ ys) e = (apart_test x y e.0, all_apart x ys e.1)

is_distinct : (xs : List ℕ) → Distinct xs → IsDistinct nat_eq xs
unfolding IsDistinct
is_distinct [] d = tt
is_distinct (x ∷ xs) d = (all_apart x xs d.0, is_distinct xs d.1)

below_any : (n q : ℕ) (xs : List ℕ) → AllByRecursion (λ x. x < n) xs → list_any (nat_eq q) xs ≡ true → q < n
below_any n q [] e h = absurd (cc)
below_any n q (x ∷ xs) e h =
    elim (cases_eq q x) [
      | inl same ↦ rw same e.0
      | inr differs ↦ below_any n q xs e.1 (let f : (q == x) ≡ false = apart_test q x differs in rw f at h)
    ]

-- a list of numbers below n without repeats has at most n
pub short : (n : ℕ) (xs : List ℕ) → Distinct xs → AllByRecursion (λ x. x < n) xs → length xs ≤ n
short n xs d e = length-le_from_distinct_below xs n (is_distinct xs d) (λ q h. below_any n q xs e h)

-- a list is split at an element
pub in_split : (x : ℕ) (xs : List ℕ) → In x xs → (ys : List ℕ) × (zs : List ℕ) × (xs ≡ ys ++ (x ∷ zs))
in_split x [] i = absurd i
in_split x (y ∷ ys) (inl e) = ([], ys, ap (λ u. u ∷ ys) e)
in_split x (y ∷ ys) (inr i) = let s = in_split x ys i in (y ∷ s.0, s.1, ap (λ u. y ∷ u) s.2)

-- an element is taken out where it stands
pub without_at : (ys : List ℕ) (x : ℕ) (zs : List ℕ) → Distinct (ys ++ (x ∷ zs)) → without x (ys ++ (x ∷ zs)) ≡ ys ++ zs
without_at [] x zs d = rw (eq-eqb x x refl) refl
without_at (y ∷ ys) x zs d = rw (apart_test y x (apart (y ∷ ys) (x ∷ zs) y x d (inl refl) (inl refl))) (ap (λ u. y ∷ u) (without_at ys x zs d.1))

-- the others stay
pub in_without : (x z : ℕ) (xs : List ℕ) → In z xs → z ≢ x → In z (without x xs)
in_without x z [] i d = i
in_without x z (y ∷ ys) i d = by (y == x) refl (λ j. in_without x z ys j d) i
  where
    by : (b : Bool) → (y == x) ≡ b → (In z ys → In z (without x ys)) → In z (y ∷ ys) → In z (cond b ys (y ∷ without x ys))
    by true e rest (inl same) = absurd (d (sym same ∙ eqb-true y x e))
    by true e rest (inr j) = j
    by false e rest (inl same) = inl same
    by false e rest (inr j) = inr (rest j)

-- what stands in a list and is not among those taken out is left
pub in_withouts : (ns xs : List ℕ) (x : ℕ) → In x xs → (In x ns → ⊥) → In x (without_all ns xs)
in_withouts [] xs x i d = i
in_withouts (a ∷ ns) xs x i d = in_withouts ns (without a xs) x (in_without a x xs i (λ e. d (inl (sym e)))) (λ j. d (inr j))

-- taken from an empty list nothing is left
pub withouts_nothing : (ns : List ℕ) → without_all ns [] ≡ []
withouts_nothing [] = refl
withouts_nothing (a ∷ ns) = withouts_nothing ns
