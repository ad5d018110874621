-- The atoms of a list that have one functor.
use Rattle.std.proofs.Common.{◌≡◌, ◌≢◌, ℕ, ◌==◌, Bool, true, false, cond, List, [], ◌∷◌, Option, Some, None, inl, inr, refl, sym, ap, ◌∙◌}
use Rattle.std.specs.Prelude.{if◌then◌else◌}
use Rattle.std.proofs.lemmas.Bool.{eq-eqb, eqb-true}
use Rattle.std.proofs.lemmas.Bool.Decides.{Decides-int_eq}
use Rattle.lmn_base.specs.declared.functor.Functor.{Functor}
use Rattle.lmn_base.specs.declared.functor.Label.{Label}
use Rattle.lmn_base.specs.declared.functor.Label.TheVariants.{Name, Int}
use Rattle.lmn_store_heap.specs.Lists.{from, after}
use Rattle.lmn_store_heap.specs.Heap.{Heap, functor_of}
use Rattle.lmn_store_heap.specs.Functors.{same_label, same_functor, is_of, with_functor}
use Rattle.lmn_base.specs.Lists.{In}
use Rattle.lmn_base.proofs.Truth.{and_true as both_true}

label_is : (k l : Label) → same_label k l ≡ true → k ≡ l
label_is (Name m) (Name n) e = ap Name (eqb-true m n e)
label_is (Name n) (Int z) e = absurd (cc)
label_is (Int z) (Name n) e = absurd (cc)
label_is (Int y) (Int z) e = ap Int ((Decides-int_eq y z).0 e)

-- a label passes the test against itself
pub label_same : (k : Label) → same_label k k ≡ true
label_same (Name m) = eq-eqb m m refl
label_same (Int y) = (Decides-int_eq y y).1 refl

-- the test of functors tells them
pub functor_is : (f g : Functor) → same_functor f g ≡ true → f ≡ g
functor_is f g e =
    let w = both_true (same_label f.label g.label) (f.arity == g.arity) e in
    λ i. record { label = label_is f.label g.label w.0 i; arity = eqb-true f.arity g.arity w.1 i }

-- a functor passes the test against itself
pub functor_same : (f : Functor) → same_functor f f ≡ true
functor_same f = rw (label_same f.label) (eq-eqb f.arity f.arity refl)

functor_not : (f g : Functor) → f ≢ g → same_functor f g ≡ false
functor_not f g d = by (same_functor f g) refl
  where
    by : (b : Bool) → same_functor f g ≡ b → b ≡ false
    by true e = absurd (d (functor_is f g e))
    by false e = refl

-- the test at an atom with the functor
pub is_of_here : (o : Option Functor) (f : Functor) → o ≡ Some f → is_of o f ≡ true
is_of_here o f e = rw e (functor_same f)

is_of_past : (o : Option Functor) (f : Functor) → (o ≡ Some f → ⊥) → is_of o f ≡ false
is_of_past None f d = refl
is_of_past (Some g) f d = functor_not g f (λ e. d (ap Some e))

-- an atom with the functor stays
pub with_here : (h : Heap) (f : Functor) (a : ℕ) (xs : List ℕ) → functor_of h a ≡ Some f → with_functor h f (a ∷ xs) ≡ a ∷ with_functor h f xs
with_here h f a xs e = ap (λ b. cond b (a ∷ with_functor h f xs) (with_functor h f xs)) (is_of_here (functor_of h a) f e)

-- another one is left out
pub with_past : (h : Heap) (f : Functor) (a : ℕ) (xs : List ℕ) → (functor_of h a ≡ Some f → ⊥) → with_functor h f (a ∷ xs) ≡ with_functor h f xs
with_past h f a xs d = ap (λ b. cond b (a ∷ with_functor h f xs) (with_functor h f xs)) (is_of_past (functor_of h a) f d)

-- What stands behind an atom with the functor, of those with the functor.
pub with_after : (h : Heap) (f : Functor) (a : ℕ) (xs : List ℕ) → functor_of h a ≡ Some f → after a (with_functor h f xs) ≡ with_functor h f (after a xs)
with_after h f a [] e = refl
with_after h f a (x ∷ xs) e = by (is_of (functor_of h x) f) (x == a) refl refl (with_after h f a xs e)
  where
    by : (b t : Bool) → is_of (functor_of h x) f ≡ b → (x == a) ≡ t → after a (with_functor h f xs) ≡ with_functor h f (after a xs)
        → after a (cond b (x ∷ with_functor h f xs) (with_functor h f xs)) ≡ with_functor h f (cond t xs (after a xs))
    by true true eb et rest = rw et refl
    by true false eb et rest = rw et rest
    by false true eb et rest =
        let same : x ≡ a = eqb-true x a et in
        let w : is_of (functor_of h x) f ≡ true = is_of_here (functor_of h x) f (ap (functor_of h) same ∙ e) in
        let v : false ≡ true = sym eb ∙ w in absurd (cc)
    by false false eb et rest = rest

-- from an atom with the functor on
pub with_from : (h : Heap) (f : Functor) (a : ℕ) (xs : List ℕ) → functor_of h a ≡ Some f → a ∷ after a (with_functor h f xs) ≡ with_functor h f (from (Some a) xs)
with_from h f a xs e = ap (λ ys. a ∷ ys) (with_after h f a xs e) ∙ sym (with_here h f a (after a xs) e)

-- those of a list with the functor are in what is kept of it
pub with_functor_in : (h : Heap) (f : Functor) (a : ℕ) (xs : List ℕ) → functor_of h a ≡ Some f → In a xs → In a (with_functor h f xs)
with_functor_in h f a [] e i = i
with_functor_in h f a (x ∷ xs) e i = by (is_of (functor_of h x) f) refl (with_functor_in h f a xs e) i
  where
    by : (b : Bool) → is_of (functor_of h x) f ≡ b → (In a xs → In a (with_functor h f xs)) → In a (x ∷ xs) → In a (if b then x ∷ with_functor h f xs else with_functor h f xs)
    by true t later (inl s) = inl s
    by true t later (inr s) = inr (later s)
    by false t later (inl s) = absurd (let here = is_of_here (functor_of h x) f (ap (functor_of h) s ∙ e) in cc)
    by false t later (inr s) = later s
