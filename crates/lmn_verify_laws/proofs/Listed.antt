-- Lists and tests on them.
use Rattle.std.proofs.Common.{◌≡◌, ◌≢◌, ◌<◌, ◌+◌, ◌||◌, inl, inr, ◌∙◌, ℕ, zero, suc, Bool, true, false, cond, List, [], ◌∷◌, map, Some, refl, sym, ap, subst, arith, true≢false}
use Rattle.std.specs.Prelude.{slice_get, count_by}
use Rattle.std.specs.Option.{option_map}
use Rattle.std.specs.List.{list_all, list_any}
use Rattle.std.proofs.lemmas.Option.{slice_get-map}
use Rattle.std.proofs.lemmas.List.Recursion.{is_count_by}
use Rattle.lmn_base.proofs.Truth.{and_true, either_true}
use Rattle.lmn_congruence_splice.specs.Splice.{IsOneOf}
use Rattle.lmn_verify_code.specs.Verified.{each_two}

-- an item of a mapped list is the image of one
pub get_mapped : {A B : Type 0} (f : A → B) (xs : List A) (n : ℕ) (y : B) → slice_get (map f xs) n ≡ Some y → (x : A) × (slice_get xs n ≡ Some x) × (f x ≡ y)
get_mapped f [] n y e = absurd (cc)
get_mapped f (x ∷ xs) zero y e = (x, refl, (let s : Some (f x) ≡ Some y = e in cc))
get_mapped f (x ∷ xs) (suc n) y e = get_mapped f xs n y e

-- and the image of an item is one of it
pub get_image : {A B : Type 0} (f : A → B) (xs : List A) (n : ℕ) (x : A) → slice_get xs n ≡ Some x → slice_get (map f xs) n ≡ Some (f x)
get_image f xs n x e = slice_get-map f xs n ∙ ap (option_map f) e

-- what has a number stands in the list
pub get_one : {A : Type 0} (xs : List A) (n : ℕ) (x : A) → slice_get xs n ≡ Some x → IsOneOf x xs
get_one [] n x e = absurd (cc)
get_one (y ∷ ys) zero x e = inl (let s : Some y ≡ Some x = e in cc)
get_one (y ∷ ys) (suc n) x e = inr (get_one ys n x e)

-- where a test passes of some item, it passes of one
pub any_is : {A : Type 0} (test : A → Bool) (xs : List A) → list_any test xs ≡ true → (x : A) × IsOneOf x xs × (test x ≡ true)
any_is test [] e = absurd (true≢false (sym e))
any_is test (x ∷ xs) e = elim (either_true (test x) (list_any test xs) e) [
  | inl f ↦ (x, inl refl, f)
  | inr f ↦ (let w = any_is test xs f in (w.0, inr w.1, w.2))
]

-- where it passes of all, it passes of each
pub all_is : {A : Type 0} (test : A → Bool) (xs : List A) (x : A) → list_all test xs ≡ true → IsOneOf x xs → test x ≡ true
all_is test [] x e i = absurd i
all_is test (y ∷ ys) x e (inl s) = subst (λ z. test z ≡ true) s (and_true (test y) (list_all test ys) e).0
all_is test (y ∷ ys) x e (inr i) = all_is test ys x (and_true (test y) (list_all test ys) e).1 i

-- and where it passes of one, it passes of some
pub any_passes : {A : Type 0} (test : A → Bool) (xs : List A) (x : A) → IsOneOf x xs → test x ≡ true → list_any test xs ≡ true
any_passes test [] x i t = absurd i
any_passes test (y ∷ ys) x (inl s) t = ap (λ b. b || list_any test ys) (ap test s ∙ t)
any_passes test (y ∷ ys) x (inr i) t = ap (λ b. test y || b) (any_passes test ys x i t) ∙ or_true (test y)
  where
    or_true : (b : Bool) → (b || true) ≡ true
    or_true true = refl
    or_true false = refl

-- a test of each two passes of an earlier and a later one
pub two_are : {A : Type 0} (test : A → A → Bool) (xs : List A) → each_two test xs ≡ true → (j k : ℕ) (x y : A) → j < k → slice_get xs j ≡ Some x → slice_get xs k ≡ Some y → test x y ≡ true
two_are test [] e j k x y l s t = absurd (cc)
two_are test (z ∷ zs) e zero zero x y l s t = absurd (omega (arith, l))
two_are test (z ∷ zs) e zero (suc k) x y l s t =
    let same : z ≡ x = (let w : Some z ≡ Some x = s in cc) in
    subst (λ u. test u y ≡ true) same (all_is (test z) zs y (and_true (list_all (test z) zs) (each_two test zs) e).0 (get_one zs k y t))
two_are test (z ∷ zs) e (suc j) zero x y l s t = absurd (omega (arith, l))
two_are test (z ∷ zs) e (suc j) (suc k) x y l s t = two_are test zs (and_true (list_all (test z) zs) (each_two test zs) e).1 j k x y (omega (arith, l)) s t

-- ---- counts

-- how many items pass
abbrev pub passing : {A : Type 0} → (A → Bool) → List A → ℕ
passing test [] = 0
passing test (x ∷ xs) = cond (test x) (1 + passing test xs) (passing test xs)

-- it is the count of the standard library
pub passing_counted : {A : Type 0} (test : A → Bool) (xs : List A) → passing test xs ≡ count_by test xs
passing_counted test xs = is_count_by (passing test) test refl (λ x ys. refl) xs

-- where it isn't 0 one passes
pub passing_some : {A : Type 0} (test : A → Bool) (xs : List A) → passing test xs ≢ 0 → (x : A) × IsOneOf x xs × (test x ≡ true)
passing_some test [] n = absurd (n refl)
passing_some {A} test (x ∷ xs) n = by (test x) refl n (passing_some test xs)
  where
    by : (b : Bool) → test x ≡ b → cond b (1 + passing test xs) (passing test xs) ≢ 0 → (passing test xs ≢ 0 → (y : A) × IsOneOf y xs × (test y ≡ true)) → (z : A) × IsOneOf z (x ∷ xs) × (test z ≡ true)
    by true e m more = (x, inl refl, e)
    by false e m more = let w = more m in (w.0, inr w.1, w.2)

-- where items are counted there is one that passes
pub counted_some : {A : Type 0} (test : A → Bool) (xs : List A) (n : ℕ) → count_by test xs ≡ suc n → (x : A) × IsOneOf x xs × (test x ≡ true)
counted_some test xs n e = passing_some test xs (λ z. let t : count_by test xs ≡ 0 = sym (passing_counted test xs) ∙ z in omega (arith, e, t))

-- and where one passes it isn't 0
pub passing_one : {A : Type 0} (test : A → Bool) (xs : List A) (x : A) → IsOneOf x xs → test x ≡ true → passing test xs ≢ 0
passing_one test [] x i t = absurd i
passing_one test (y ∷ ys) x i t = by (test y) refl i (λ j. passing_one test ys x j t)
  where
    by : (b : Bool) → test y ≡ b → IsOneOf x (y ∷ ys) → (IsOneOf x ys → passing test ys ≢ 0) → cond b (1 + passing test ys) (passing test ys) ≢ 0
    by true e j more z = omega (arith, z)
    by false e (inl s) more z = true≢false (sym t ∙ ap test (sym s) ∙ e)
    by false e (inr j) more z = more j z

-- and where one passes the count isn't 0
pub counted_one : {A : Type 0} (test : A → Bool) (xs : List A) (x : A) → IsOneOf x xs → test x ≡ true → count_by test xs ≢ 0
counted_one test xs x i t z = passing_one test xs x i t (passing_counted test xs ∙ z)
