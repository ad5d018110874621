-- Lemmas that several crates above cite.
use Rattle.lmn_base.specs.Graphs.{Port}
use Rattle.lmn_congruence_splice.specs.Splice.{links, ports, IsOneOf, NoneTwice}
use Rattle.std.proofs.Common.{List, ℕ, ◌≡◌, ◌++◌, inl, inr, [], ◌∷◌, ◌⊎◌, refl, subst}
use Rattle.std.proofs.lemmas.List.{map-append}
use Rattle.std.specs.List.{AllByRecursion}

-- the links of two lists of pairs joined are those of both
pub links_append : (ps qs : List (Port × ℕ)) → links (ps ++ qs) ≡ links ps ++ links qs
links_append ps qs = map-append (λ (e : Port × ℕ). e.1) ps qs

-- and so are the ports
pub ports_append : (ps qs : List (Port × ℕ)) → ports (ps ++ qs) ≡ ports ps ++ ports qs
ports_append ps qs = map-append (λ (e : Port × ℕ). e.0) ps qs

-- what is one of two lists joined is one of either
pub in_append : {A : Type 0} (x : A) (xs ys : List A) → IsOneOf x (xs ++ ys) → IsOneOf x xs ⊎ IsOneOf x ys
in_append x [] ys i = inr i
in_append x (y ∷ xs) ys (inl e) = inl (inl e)
in_append x (y ∷ xs) ys (inr i) = elim (in_append x xs ys i) [ inl j ↦ inl (inr j) | inr j ↦ inr j ]

-- what is one of the first list is one of both joined
pub in_front : {A : Type 0} (x : A) (xs ys : List A) → IsOneOf x xs → IsOneOf x (xs ++ ys)
in_front {A} x [] ys i = absurd i
in_front {A} x (y ∷ xs) ys (inl e) = inl e
in_front {A} x (y ∷ xs) ys (inr i) = inr (in_front x xs ys i)

-- and what is one of the second
pub in_back : {A : Type 0} (x : A) (xs ys : List A) → IsOneOf x ys → IsOneOf x (xs ++ ys)
in_back x [] ys i = i
in_back x (y ∷ xs) ys i = inr (in_back x xs ys i)

-- two lists that share nothing and have nothing twice, joined, have nothing twice
pub distinct_append : {A : Type 0} (xs ys : List A) → NoneTwice xs → NoneTwice ys → ((x : A) → IsOneOf x xs → IsOneOf x ys → ⊥) → NoneTwice (xs ++ ys)
distinct_append [] ys d e apart = e
distinct_append (x ∷ xs) ys d e apart = ((λ i. elim (in_append x xs ys i) [ inl j ↦ d.0 j | inr j ↦ apart x (inl refl) j ]), distinct_append xs ys d.1 e (λ z i j. apart z (inr i) j))

-- what holds of all holds of each
pub each_is : {A : Type 0} (P : A → Type 0) (xs : List A) (x : A) → AllByRecursion P xs → IsOneOf x xs → P x
each_is P [] x a i = absurd i
each_is P (y ∷ ys) x a (inl s) = subst P s a.0
each_is P (y ∷ ys) x a (inr i) = each_is P ys x a.1 i
