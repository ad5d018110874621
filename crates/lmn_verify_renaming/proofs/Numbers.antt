-- Tests and lists of other numbers, and functions on them that are changed at one.
use Rattle.std.proofs.Common.{◌≡◌, ◌≢◌, ◌∙◌, ◌==◌, ℕ, Bool, true, false, if◌then◌else◌, List, [], ◌∷◌, Option, Some, None, map, refl, sym, ap, inl, inr}
use Rattle.std.specs.List.{AllByRecursion}
use Rattle.std.specs.Option.{option_map}
use Rattle.std.proofs.lemmas.Bool.{cases_eq, eq-eqb}
use Rattle.lmn_base.proofs.Numbers.{not_equal}
use Rattle.lmn_base.specs.Lists.{In}
use Rattle.lmn_store_heap.specs.Heap.{Distinct, after, alter, without}
use Rattle.lmn_verify_renaming.specs.Renamed.{Numbering}

-- a change of one that is chosen, seen through a function
chosen : {X Y : Type 0} (F : X → Y) (u : X → X) (v : Y → Y) → ((x : X) → F (u x) ≡ v (F x)) → (t : Bool) (x : X) → F (if t then u x else x) ≡ (if t then v (F x) else F x)
chosen F u v same true x = same x
chosen F u v same false x = refl

-- a change of what there is, seen through a function
pub through : {X Y : Type 0} (F : X → Y) (u : X → X) (v : Y → Y) → ((x : X) → F (u x) ≡ v (F x)) → (o : Option X) → option_map F (option_map u o) ≡ option_map v (option_map F o)
through F u v same None = refl
through F u v same (Some x) = ap (λ y. Some y) (same x)

module _ (n : Numbering) where
  -- a number that comes by the way back is asked as the other number
  pub same_test : (j a : ℕ) → (n.back j == a) ≡ (j == n.to a)
  same_test j a = elim (cases_eq j (n.to a)) [
    | inl e ↦ eq-eqb (n.back j) a (ap n.back e ∙ n.there a) ∙ sym (eq-eqb j (n.to a) e)
    | inr d ↦ not_equal (n.back j) a (λ e. d (sym (n.again j) ∙ ap n.to e)) ∙ sym (not_equal j (n.to a) d)
  ]

  -- two numbers are the same where the others are
  pub kept_test : (x a : ℕ) → (x == a) ≡ (n.to x == n.to a)
  kept_test x a = ap (λ z. z == a) (sym (n.there x)) ∙ same_test (n.to x) a

  pub one_to_one : (x y : ℕ) → n.to x ≡ n.to y → x ≡ y
  one_to_one x y e = sym (n.there x) ∙ ap n.back e ∙ n.there y

  -- a function that is changed at one number
  pub altered : {X Y : Type 0} (F : X → Y) (s : ℕ → X) (a : ℕ) (u : X → X) (v : Y → Y) → ((x : X) → F (u x) ≡ v (F x))
      → ◌≡◌ {A = ℕ → Y} (alter (λ j. F (s (n.back j))) (n.to a) v) (λ j. F (alter s a u (n.back j)))
  altered F s a u v same = λ i j. at j i
    where
      at : (j : ℕ) → alter (λ k. F (s (n.back k))) (n.to a) v j ≡ F (alter s a u (n.back j))
      at j = sym (chosen F u v same (n.back j == a) (s (n.back j)) ∙ ap (λ t. if t then v (F (s (n.back j))) else F (s (n.back j))) (same_test j a))

  -- a list without a number, and what stands behind it
  pub without_renamed : (a : ℕ) (xs : List ℕ) → map n.to (without a xs) ≡ without (n.to a) (map n.to xs)
  without_renamed a [] = refl
  without_renamed a (x ∷ xs) = by (x == a) ∙ (λ i. if kept_test x a i then map n.to xs else n.to x ∷ without_renamed a xs i)
    where
      by : (t : Bool) → map n.to (if t then xs else x ∷ without a xs) ≡ (if t then map n.to xs else n.to x ∷ map n.to (without a xs))
      by true = refl
      by false = refl

  pub after_renamed : (a : ℕ) (xs : List ℕ) → map n.to (after a xs) ≡ after (n.to a) (map n.to xs)
  after_renamed a [] = refl
  after_renamed a (x ∷ xs) = by (x == a) ∙ (λ i. if kept_test x a i then map n.to xs else after_renamed a xs i)
    where
      by : (t : Bool) → map n.to (if t then xs else after a xs) ≡ (if t then map n.to xs else map n.to (after a xs))
      by true = refl
      by false = refl

  -- what is in a list, and that nothing stands twice in it
  pub in_there : (x : ℕ) (xs : List ℕ) → In x xs → In (n.to x) (map n.to xs)
  in_there x [] h = absurd h
  in_there x (y ∷ ys) (inl e) = inl (ap n.to e)
  in_there x (y ∷ ys) (inr h) = inr (in_there x ys h)

  pub in_back : (y : ℕ) (xs : List ℕ) → In y (map n.to xs) → In (n.back y) xs
  in_back y [] h = absurd h
  in_back y (x ∷ xs) (inl e) = inl (sym (n.there x) ∙ ap n.back e)
  in_back y (x ∷ xs) (inr h) = inr (in_back y xs h)

  apart_there : (x : ℕ) (xs : List ℕ) → AllByRecursion (λ y. x ≢ y) xs → AllByRecursion (λ y. n.to x ≢ y) (map n.to xs)
  apart_there x [] h = tt
  apart_there x (y ∷ ys) h = ((λ e. h.0 (one_to_one x y e)), apart_there x ys h.1)

  pub distinct_there : (xs : List ℕ) → Distinct xs → Distinct (map n.to xs)
  distinct_there [] h = tt
  distinct_there (x ∷ xs) h = (apart_there x xs h.0, distinct_there xs h.1)
