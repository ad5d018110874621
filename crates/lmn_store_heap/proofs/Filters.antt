-- Those of a list that pass a test.
use Rattle.std.proofs.Common.{◌≡◌, ℕ, Bool, true, cond, List, [], ◌∷◌, ap, ◌==◌, false, Some, refl, sym, ◌∙◌, inl, inr, ◌≢◌}
use Rattle.std.specs.List.{filter}
use Rattle.std.proofs.lemmas.Bool.{eqb-true}
use Rattle.lmn_store_heap.specs.Lists.{from, after, Distinct}
use Rattle.lmn_base.specs.Lists.{In}
use Rattle.lmn_store_heap.proofs.ListLemmas.{each_in, each_of}

-- the first of a list passes
pub filter_yes : (test : ℕ → Bool) (x : ℕ) (xs : List ℕ) → test x ≡ true → filter test (x ∷ xs) ≡ x ∷ filter test xs
filter_yes test x xs e = ap (λ b. cond b (x ∷ filter test xs) (filter test xs)) e

-- what stands behind an element that passes the test, of those that pass
pub filter_after : (test : ℕ → Bool) (a : ℕ) (xs : List ℕ) → test a ≡ true → after a (filter test xs) ≡ filter test (after a xs)
filter_after test a [] e = refl
filter_after test a (x ∷ xs) e = by (test x) (x == a) refl refl (filter_after test a xs e)
  where
    by : (b t : Bool) → test x ≡ b → (x == a) ≡ t → after a (filter test xs) ≡ filter test (after a xs)
        → after a (cond b (x ∷ filter test xs) (filter test xs)) ≡ filter test (cond t xs (after a xs))
    by true true eb et rest = rw et refl
    by true false eb et rest = rw et rest
    by false true eb et rest = let v : false ≡ true = sym eb ∙ ap test (eqb-true x a et) ∙ e in absurd cc
    by false false eb et rest = rest

-- from such an element on
pub filter_from : (test : ℕ → Bool) (a : ℕ) (xs : List ℕ) → test a ≡ true → from (Some a) (filter test xs) ≡ filter test (from (Some a) xs)
filter_from test a xs e = ap (λ ys. a ∷ ys) (filter_after test a xs e) ∙ sym (ap (λ b. cond b (a ∷ filter test (after a xs)) (filter test (after a xs))) e)

-- one of those that pass stands in the list, and passes
pub in_filter : (test : ℕ → Bool) (z : ℕ) (xs : List ℕ) → In z (filter test xs) → In z xs × (test z ≡ true)
in_filter test z [] i = absurd i
in_filter test z (x ∷ xs) i = by (test x) refl (in_filter test z xs) i
  where
    by : (b : Bool) → test x ≡ b → (In z (filter test xs) → In z xs × (test z ≡ true)) → In z (cond b (x ∷ filter test xs) (filter test xs)) → In z (x ∷ xs) × (test z ≡ true)
    by true e rest (inl s) = (inl s, ap test (sym s) ∙ e)
    by true e rest (inr j) = let r = rest j in (inr r.0, r.1)
    by false e rest j = let r = rest j in (inr r.0, r.1)

-- and what stands in the list and passes is one of those that pass
pub filter_in : (test : ℕ → Bool) (z : ℕ) (xs : List ℕ) → In z xs → test z ≡ true → In z (filter test xs)
filter_in test z [] i e = absurd i
filter_in test z (x ∷ xs) i e = by (test x) refl (λ j. filter_in test z xs j e) i
  where
    by : (b : Bool) → test x ≡ b → (In z xs → In z (filter test xs)) → In z (x ∷ xs) → In z (cond b (x ∷ filter test xs) (filter test xs))
    by true w rest (inl s) = inl s
    by true w rest (inr j) = inr (rest j)
    by false w rest (inl s) = absurd (let v : true ≡ false = sym e ∙ ap test (sym s) ∙ w in cc)
    by false w rest (inr j) = rest j

-- a list by a test has no repeat where the list has none
pub distinct_filter : (test : ℕ → Bool) (xs : List ℕ) → Distinct xs → Distinct (filter test xs)
distinct_filter test [] d = tt
distinct_filter test (x ∷ xs) d = by (test x) (distinct_filter test xs d.1)
  where
    by : (b : Bool) → Distinct (filter test xs) → Distinct (cond b (x ∷ filter test xs) (filter test xs))
    by true r = (each_of _ (filter test xs) (λ z i. each_in (λ w. x ≢ w) xs z d.0 (in_filter test z xs i).0), r)
    by false r = r
