-- The atoms of a list that have one label.
use Rattle.std.proofs.Common.{◌≡◌, ◌==◌, ◌&&◌, ◌<◌, ◌%◌, ◌^◌, ℕ, length, subst, arith, Bool, true, false, cond, List, [], ◌∷◌, Option, Some, None, IfSome, IsSome, refl, sym, ap, ◌∙◌, inl, inr}
use Rattle.std.proofs.lemmas.Bool.{eq-eqb, eqb-true}
use Rattle.std.specs.Option.{option_map}
use Rattle.std.specs.List.{filter}
use Rattle.std.specs.Prelude.{unwrap_or}
use Rattle.lmn_base.specs.Lists.{In}
use Rattle.std.specs.Prelude.{slice_index_or}
use Rattle.std.proofs.lemmas.Option.{same_Some}
use Rattle.lmn_base.proofs.Truth.{and_true, bool_cases, test_same}
use Rattle.lmn_store_heap.specs.Lists.{from, after}
use Rattle.lmn_store_heap.proofs.Trees.{next_in}
use Rattle.lmn_web_cells.specs.Cells.{HeldCell, numbers_of}
use Rattle.lmn_web.specs.Webs.{WebCell, home_at, home_of, web_label, arity_at, is_labelled, label_by, list_in, number_in, with_label, label_class, is_classed, with_class, web_cell, web_of}
use Rattle.lmn_web_cells.specs.Numbers.{HIGH, LOW}
use Rattle.lmn_store_heap.proofs.Filters.{filter_from}

-- one that doesn't pass is passed over
pub filter_on : (test : ℕ → Bool) (a : ℕ) (xs : List ℕ) (next : Option ℕ) → test a ≡ false → from next xs ≡ after a xs → filter test (from next xs) ≡ filter test (from (Some a) xs)
filter_on test a xs next e n = ap (filter test) n ∙ sym (ap (λ b. cond b (a ∷ filter test (after a xs)) (filter test (after a xs))) e)

-- a cell passes the test for its own label and number of ports
pub label_here : (w : ℕ → Option WebCell) (a label n : ℕ) → web_label w a ≡ Some label → n ≡ arity_at w a → is_labelled w label n a ≡ true
label_here w a label n l e = (λ t. unwrap_or (option_map (λ z. z == label) (l t)) false && (sym e t == n)) ∙ rw (eq-eqb label label refl) (eq-eqb n n refl)

-- one that is of a class
pub class_here : (w : ℕ → Option WebCell) (a class n : ℕ) → is_classed w class n a ≡ true → (l : ℕ) × (web_label w a ≡ Some l) × (label_class l ≡ class) × (arity_at w a ≡ n)
class_here w a class n e = let both = and_true (unwrap_or (option_map (λ k. label_class k == class) (web_label w a)) false) (arity_at w a == n) e in by (web_label w a) both.0 (eqb-true (arity_at w a) n both.1)
  where
    by : (o : Option ℕ) → unwrap_or (option_map (λ k. label_class k == class) o) false ≡ true → arity_at w a ≡ n → (l : ℕ) × (o ≡ Some l) × (label_class l ≡ class) × (arity_at w a ≡ n)
    by None t s = absurd cc
    by (Some l) t s = (l, refl, eqb-true (label_class l) class t, s)

-- of labels of one class the lower halves tell one from another
half_tells : (high low label : ℕ) → low < 2 ^ 64 → label_class (label_by high low) ≡ label_class label → (low == label % 2 ^ 64) ≡ (label_by high low == label)
half_tells high low label small same =
    test_same (low == label % 2 ^ 64) (label_by high low == label)
    (λ e. let d = eqb-true low (label % 2 ^ 64) e in eq-eqb (label_by high low) label (omega (arith, small, same, d)))
    (λ e. let d = eqb-true (label_by high low) label e in eq-eqb low (label % 2 ^ 64) (omega (arith, small, same, d)))

-- so a cell of the class of a label has it where its lower half is that of the label
pub label_by_half : (f : ℕ → Option HeldCell) (a l label n low : ℕ) → number_in f a LOW ≡ low → low < 2 ^ 64 → web_label (web_of f) a ≡ Some l → label_class l ≡ label_class label
    → arity_at (web_of f) a ≡ n → (low == label % 2 ^ 64) ≡ is_labelled (web_of f) label n a
label_by_half f a l label n low e small here same ports =
    by (f a) e here ∙ (λ t. unwrap_or (option_map (λ k. k == label) (web_label (web_of f) a)) false && sym (eq-eqb (arity_at (web_of f) a) n ports) t)
  where
    right : (b : Bool) → b ≡ (b && true)
    right true = refl
    right false = refl

    by : (o : Option HeldCell) → slice_index_or (numbers_of o) LOW 0 ≡ low → option_map (λ c. c.label) (option_map (web_cell (list_in f a)) o) ≡ Some l
        → (low == label % 2 ^ 64) ≡ (unwrap_or (option_map (λ k. k == label) (option_map (λ c. c.label) (option_map (web_cell (list_in f a)) o))) false && true)
    by None d h = absurd cc
    by (Some x) d h =
        let high = slice_index_or x.numbers HIGH 0 in
        let is : label_by high (slice_index_or x.numbers LOW 0) ≡ l = same_Some _ _ h in
        let at : label_by high low ≡ l = ap (label_by high) (sym d) ∙ is in
        half_tells high low label small (ap label_class at ∙ same) ∙ ap (λ k. label_by high k == label) (sym d) ∙ right (label_by high (slice_index_or x.numbers LOW 0) == label)

-- a label is of its class
label_in_class : (w : ℕ → Option WebCell) (a label n : ℕ) → is_labelled w label n a ≡ true → is_classed w (label_class label) n a ≡ true
label_in_class w a label n e = let both = and_true (unwrap_or (option_map (λ k. k == label) (web_label w a)) false) (arity_at w a == n) e in by (web_label w a) both.0 both.1
  where
    by : (o : Option ℕ) → unwrap_or (option_map (λ k. k == label) o) false ≡ true → (arity_at w a == n) ≡ true → (unwrap_or (option_map (λ k. label_class k == label_class label) o) false && (arity_at w a == n)) ≡ true
    by None t s = absurd cc
    by (Some l) t s = rw (eq-eqb (label_class l) (label_class label) (ap label_class (eqb-true l label t))) s

-- of those that pass a wider test the same pass the narrower one
filter_within : (s t : ℕ → Bool) (xs : List ℕ) → ((x : ℕ) → s x ≡ true → t x ≡ true) → filter s (filter t xs) ≡ filter s xs
filter_within s t [] h = refl
filter_within s t (x ∷ xs) h = by (t x) refl (filter_within s t xs h)
  where
    by : (b : Bool) → t x ≡ b → filter s (filter t xs) ≡ filter s xs → filter s (cond b (x ∷ filter t xs) (filter t xs)) ≡ filter s (x ∷ xs)
    by true e rest = λ u. cond (s x) (x ∷ rest u) (rest u)
    by false e rest = elim (bool_cases (s x)) [
      | inl y ↦ absurd (let z : true ≡ false = sym (h x y) ∙ e in cc)
      | inr n ↦ rest ∙ sym (ap (λ b. cond b (x ∷ filter s xs) (filter s xs)) n)
    ]

-- so the atoms with a label are those of its class with it
pub label_within : (w : ℕ → Option WebCell) (label n : ℕ) (xs : List ℕ) → with_label w label n (with_class w (label_class label) n xs) ≡ with_label w label n xs
label_within w label n xs = filter_within (is_labelled w label n) (is_classed w (label_class label) n) xs (λ a. label_in_class w a label n)

-- what follows an element, if anything, is in the list
pub next_some : {X : Type 0} (id : X → ℕ) (r : Option X) (a : ℕ) (xs : List ℕ) → from (option_map id r) xs ≡ after a xs → IfSome r (λ x. In (id x) xs)
next_some id None a xs e = tt
next_some id (Some x) a xs e = next_in a (id x) xs e

-- what has a home is there
pub homed : (w : ℕ → Option WebCell) (a m : ℕ) → home_at w a ≡ Some m → IsSome (w a)
homed w a m e = by (w a) e
  where
    by : (o : Option WebCell) → home_of o ≡ Some m → IsSome o
    by None h = absurd cc
    by (Some c) h = refl

-- What is left of a search for those of a list that pass a test: from here on it finds what it finds from the start.
pub record Seeks (test : ℕ → Bool) (all : List ℕ) (start at : Option ℕ) : Type 0 where
  pub there : (d : ℕ) → at ≡ Some d → In d all
  pub rest : filter test (from at all) ≡ filter test (from start all)

-- at the start
pub seeks_first : (test : ℕ → Bool) (all : List ℕ) (a : ℕ) → In a all → Seeks test all (Some a) (Some a)
seeks_first test all a i = record { there = λ d e. (let z : a ≡ d = cc in subst (λ u. In u all) z i); rest = refl }

-- also where there may be none
pub seeks_start : {X : Type 0} (id : X → ℕ) (test : ℕ → Bool) (all : List ℕ) (o : Option X) → IfSome o (λ x. In (id x) all) → Seeks test all (option_map id o) (option_map id o)
seeks_start id test all None i = record { there = λ d e. absurd cc; rest = refl }
seeks_start id test all (Some x) i = seeks_first test all (id x) i

-- one that is passed over
pub seeks_next : (test : ℕ → Bool) (all : List ℕ) (start next : Option ℕ) (a : ℕ) → Seeks test all start (Some a) → test a ≡ false → from next all ≡ after a all → Seeks test all start next × (length (from next all) < length (from (Some a) all))
seeks_next test all start next a s out on = (
  record { there = λ d e. next_in a d all (ap (λ o. from o all) (sym e) ∙ on); rest = filter_on test a all next out on ∙ s.rest },
  subst (λ us. length us < length (a ∷ after a all)) (sym on) (omega arith),
)

-- and one that is found
pub seeks_found : (test : ℕ → Bool) (all : List ℕ) (start : Option ℕ) (a : ℕ) → Seeks test all start (Some a) → test a ≡ true → from (Some a) (filter test all) ≡ filter test (from start all)
seeks_found test all start a s here = filter_from test a all here ∙ s.rest
