-- Ends of classes, where connectors join each even number with the odd one behind it.
use Rattle.std.proofs.Common.{◌≡◌, ◌≢◌, ◌≤◌, ◌+◌, ◌==◌, ◌⊎◌, ◌∙◌, inl, inr, ℕ, min, max, Bool, true, false, cond, List, [], ◌∷◌, length, refl, sym, ap, subst, arith, true≢false}
use Rattle.std.specs.Prelude.{if◌then◌else◌}
use Rattle.std.proofs.lemmas.Bool.{cases_eq, eqb-true, eq-eqb}
use Rattle.std.proofs.Math.Nat.{min-eq_left, max-eq_right}
use Rattle.lmn_congruence.specs.Process.{replace}
use Rattle.lmn_congruence_splice.specs.Classes.{classes, class_of, ends_of_class, with_joined}
use Rattle.lmn_congruence_splice.specs.Splice.{IsOneOf}
use Rattle.lmn_congruence_splice.proofs.ClassLemmas.{connected as one_class}

-- ---- ends

-- what is an end of a class is one of the ports, at a link of the class
pub of_ends : {P : Type 0} (m : ℕ → ℕ) (z : ℕ) (es : List (P × ℕ)) (p : P) → IsOneOf p (ends_of_class m z es) → (x : ℕ) × IsOneOf {A = P × ℕ} (p, x) es × (m x ≡ z)
of_ends m z [] p i = absurd i
of_ends {P} m z (e ∷ es) p i = by (m e.1 == z) refl i (of_ends m z es p)
  where
    by : (b : Bool) → (m e.1 == z) ≡ b → IsOneOf p (if b then e.0 ∷ ends_of_class m z es else ends_of_class m z es) → (IsOneOf p (ends_of_class m z es) → (x : ℕ) × IsOneOf {A = P × ℕ} (p, x) es × (m x ≡ z)) → (x : ℕ) × IsOneOf {A = P × ℕ} (p, x) (e ∷ es) × (m x ≡ z)
    by true t (inl s) more = (e.1, inl (λ j. (s j, e.1)), eqb-true (m e.1) z t)
    by true t (inr j) more = let w = more j in (w.0, inr w.1, w.2)
    by false t j more = let w = more j in (w.0, inr w.1, w.2)

-- and the other way
pub to_ends : {P : Type 0} (m : ℕ → ℕ) (z : ℕ) (es : List (P × ℕ)) (p : P) (x : ℕ) → IsOneOf {A = P × ℕ} (p, x) es → m x ≡ z → IsOneOf p (ends_of_class m z es)
to_ends m z [] p x i s = i
to_ends {P} m z (e ∷ es) p x i s = by (m e.1 == z) refl i (λ j. to_ends m z es p x j s)
  where
    by : (b : Bool) → (m e.1 == z) ≡ b → IsOneOf {A = P × ℕ} (p, x) (e ∷ es) → (IsOneOf {A = P × ℕ} (p, x) es → IsOneOf p (ends_of_class m z es)) → IsOneOf p (if b then e.0 ∷ ends_of_class m z es else ends_of_class m z es)
    by true t (inl u) more = inl (λ j. (u j).0)
    by true t (inr j) more = inr (more j)
    by false t (inl u) more = absurd (true≢false (sym (eq-eqb (m e.1) z (ap m (λ j. (u j).1) ∙ s)) ∙ t))
    by false t (inr j) more = more j

-- where nothing is an end there is none
pub no_ends : {P : Type 0} (xs : List P) → ((p : P) → IsOneOf p xs → ⊥) → xs ≡ []
no_ends [] f = refl
no_ends (x ∷ xs) f = absurd (f x (inl refl))

-- a list of one that has p is p alone
pub one_end : {P : Type 0} (xs : List P) (p : P) → length xs ≡ 1 → IsOneOf p xs → xs ≡ p ∷ []
one_end [] p l i = absurd i
one_end (x ∷ []) p l (inl e) = λ j. e j ∷ []
one_end (x ∷ []) p l (inr i) = absurd i
one_end (x ∷ (y ∷ xs)) p l i = absurd (omega (arith, l))

-- a list of two that has p and another q is of these
pub two_ends : {P : Type 0} (xs : List P) (p q : P) → length xs ≡ 2 → IsOneOf p xs → IsOneOf q xs → p ≢ q → (xs ≡ p ∷ (q ∷ [])) ⊎ (xs ≡ q ∷ (p ∷ []))
two_ends [] p q l i j d = absurd i
two_ends (x ∷ []) p q l i j d = absurd (omega (arith, l))
two_ends (x ∷ (y ∷ [])) p q l (inl e) (inl f) d = absurd (d (sym e ∙ f))
two_ends (x ∷ (y ∷ [])) p q l (inl e) (inr (inl f)) d = inl (λ j. e j ∷ (f j ∷ []))
two_ends (x ∷ (y ∷ [])) p q l (inl e) (inr (inr f)) d = absurd f
two_ends (x ∷ (y ∷ [])) p q l (inr (inl e)) (inl f) d = inr (λ j. f j ∷ (e j ∷ []))
two_ends (x ∷ (y ∷ [])) p q l (inr (inl e)) (inr (inl f)) d = absurd (d (sym e ∙ f))
two_ends (x ∷ (y ∷ [])) p q l (inr (inl e)) (inr (inr f)) d = absurd f
two_ends (x ∷ (y ∷ [])) p q l (inr (inr e)) j d = absurd e
two_ends (x ∷ (y ∷ (z ∷ xs))) p q l i j d = absurd (omega (arith, l))

-- a list with two different items has two at least, and one with an item has one
pub at_least_two : {P : Type 0} (xs : List P) (p q : P) → IsOneOf p xs → IsOneOf q xs → p ≢ q → 2 ≤ length xs
at_least_two [] p q i j d = absurd i
at_least_two (x ∷ []) p q (inl e) (inl f) d = absurd (d (sym e ∙ f))
at_least_two (x ∷ []) p q (inl e) (inr f) d = absurd f
at_least_two (x ∷ []) p q (inr e) j d = absurd e
at_least_two (x ∷ (y ∷ xs)) p q i j d = omega arith

-- a list with an item has one at least
pub at_least_one : {P : Type 0} (xs : List P) (p : P) → IsOneOf p xs → 1 ≤ length xs
at_least_one [] p i = absurd i
at_least_one (x ∷ xs) p i = omega arith

-- a list of no length is empty
pub none_long : {P : Type 0} (xs : List P) → length xs ≡ 0 → xs ≡ []
none_long [] l = refl
none_long (x ∷ xs) l = absurd (omega (arith, l))

-- ---- classes

-- each of these joins an even number with the next one
abbrev pub JoinsNext : List (ℕ × ℕ) → Type 0
JoinsNext es = (e : ℕ × ℕ) → IsOneOf e es → (t : ℕ) × (◌≡◌ {A = ℕ × ℕ} e (t + t, (t + t) + 1))

-- even numbers stay, and odd ones do or become the one before
record Paired (m : ℕ → ℕ) : Type 0 where
  even : (t : ℕ) → m (t + t) ≡ t + t
  odd : (t : ℕ) → (m ((t + t) + 1) ≡ (t + t) + 1) ⊎ (m ((t + t) + 1) ≡ t + t)

replace_by : (a b x : ℕ) → (x ≡ b → ⊥) → replace a b x ≡ x
replace_by a b x d = by (x == b) refl
  where
    by : (c : Bool) → (x == b) ≡ c → cond c a x ≡ x
    by true t = absurd (d (eqb-true x b t))
    by false t = refl

replace_at : (a b x : ℕ) → x ≡ b → replace a b x ≡ a
replace_at a b x e = ap (λ (c : Bool). cond c a x) (eq-eqb x b e)

replace_same : (a x : ℕ) → replace a a x ≡ x
replace_same a x = elim (cases_eq x a) [ inl e ↦ replace_at a a x e ∙ sym e | inr d ↦ replace_by a a x d ]

module _ (m : ℕ → ℕ) (t : ℕ) (p : Paired m) where
  joined_at : (b z : ℕ) → m ((t + t) + 1) ≡ b → t + t ≤ b → with_joined m (t + t) ((t + t) + 1) z ≡ replace (t + t) b (m z)
  joined_at b z e l = (λ i. replace (min (p.even t i) (e i)) (max (p.even t i) (e i)) (m z)) ∙ (λ i. replace (min-eq_left l i) (max-eq_right l i) (m z))

  by_next : m ((t + t) + 1) ≡ (t + t) + 1 → Paired (with_joined m (t + t) ((t + t) + 1))
  by_next e = record {
    even = λ u. joined_at ((t + t) + 1) (u + u) e (omega arith) ∙ replace_by (t + t) ((t + t) + 1) (m (u + u)) (λ f. let g = p.even u in omega (arith, f, g)) ∙ p.even u;
    odd = λ u. elim (cases_eq u t) [
      | inl f ↦ inr (joined_at ((t + t) + 1) ((u + u) + 1) e (omega arith) ∙ replace_at (t + t) ((t + t) + 1) (m ((u + u) + 1)) (ap (λ w. m ((w + w) + 1)) f ∙ e) ∙ ap (λ w. w + w) (sym f))
      | inr d ↦ elim (p.odd u) [
        | inl o ↦ inl (joined_at ((t + t) + 1) ((u + u) + 1) e (omega arith) ∙ replace_by (t + t) ((t + t) + 1) (m ((u + u) + 1)) (λ f. d (let g = sym o ∙ f in omega (arith, g))) ∙ o)
        | inr o ↦ inr (joined_at ((t + t) + 1) ((u + u) + 1) e (omega arith) ∙ replace_by (t + t) ((t + t) + 1) (m ((u + u) + 1)) (λ f. let g = sym o ∙ f in omega (arith, g)) ∙ o)
      ]
    ];
  }

  by_same : m ((t + t) + 1) ≡ t + t → Paired (with_joined m (t + t) ((t + t) + 1))
  by_same e = record {
    even = λ u. joined_at (t + t) (u + u) e (omega arith) ∙ replace_same (t + t) (m (u + u)) ∙ p.even u;
    odd = λ u. elim (p.odd u) [
      | inl o ↦ inl (joined_at (t + t) ((u + u) + 1) e (omega arith) ∙ replace_same (t + t) (m ((u + u) + 1)) ∙ o)
      | inr o ↦ inr (joined_at (t + t) ((u + u) + 1) e (omega arith) ∙ replace_same (t + t) (m ((u + u) + 1)) ∙ o)
    ];
  }

  joined_next : Paired (with_joined m (t + t) ((t + t) + 1))
  joined_next = elim (p.odd t) [ inl e ↦ by_next e | inr e ↦ by_same e ]

all_joined : (m : ℕ → ℕ) (es : List (ℕ × ℕ)) → JoinsNext es → Paired m → Paired (classes m es)
all_joined m [] f p = p
all_joined m (e ∷ es) f p =
    let w = f e (inl refl) in
    all_joined (with_joined m e.0 e.1) es (λ d i. f d (inr i)) (subst (λ (d : ℕ × ℕ). Paired (with_joined m d.0 d.1)) (sym w.1) (joined_next m w.0 p))

itself : Paired (λ z. z)
itself = record { even = λ t. refl; odd = λ t. inl refl }

-- Even numbers are the classes, and an odd one that is joined is of the class before it.
pub class_even : (es : List (ℕ × ℕ)) → JoinsNext es → (t : ℕ) → class_of es (t + t) ≡ t + t
class_even es f t = (all_joined (λ z. z) es f itself).even t

-- An odd number that is joined is of the class before it.
pub class_odd : (es : List (ℕ × ℕ)) → JoinsNext es → (t : ℕ) → IsOneOf {A = ℕ × ℕ} (t + t, (t + t) + 1) es → class_of es ((t + t) + 1) ≡ t + t
class_odd es f t i = sym (one_class (λ z. z) es (t + t, (t + t) + 1) i) ∙ class_even es f t
