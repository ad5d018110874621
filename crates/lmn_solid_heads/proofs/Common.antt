-- Lemmas that several crates above cite.
use Rattle.lmn_base.proofs.Numbers.{not_equal as apart_test}
use Rattle.lmn_base.specs.Lists.{In}
use Rattle.lmn_congruence.proofs.Counts.{none_if_apart as apart_none, one_if_equal as same_one}
use Rattle.lmn_congruence.specs.Links.{places}
use Rattle.lmn_solid_heads.specs.Embeddings.{index_of}
use Rattle.lmn_solid_heads.specs.Guards.{typed_number}
use Rattle.lmn_solid_heads.specs.Heads.{times, at_ports, HeadTyped}
use Rattle.lmn_store_heap.proofs.Groves.{without_absent as absent}
use Rattle.lmn_store_heap.specs.Lists.{without_all}
use Rattle.std.proofs.Common.{List, [], arith, ℕ, ◌++◌, ◌+◌, ◌∷◌, ◌≡◌, ap, map, refl, inl, inr, sym, suc, Some, cond, ◌∙◌}
use Rattle.std.proofs.lemmas.Bool.{cases_eq, eq-eqb}
use Rattle.std.proofs.lemmas.Bool.Decides.{Decides-eqb}
use Rattle.std.proofs.lemmas.Option.{same_Some}
use Rattle.std.specs.Prelude.{Bool, true, false, ◌==◌, if◌then◌else◌, slice_get}

-- a number stands in two lists joined as often as in both
pub times_append : (x : ℕ) (xs ys : List ℕ) → times x (xs ++ ys) ≡ times x xs + times x ys
times_append x [] ys = omega arith
times_append x (y ∷ xs) ys = let e = times_append x xs ys in omega arith

-- the links at the ports of an atom are its links
pub port_links : (n i : ℕ) (xs : List ℕ) → map (λ o. o.link) (at_ports n i xs) ≡ xs
port_links n i [] = refl
port_links n i (x ∷ xs) = ap (λ ys. x ∷ ys) (port_links n (i + 1) xs)

-- how often a number stands in a list is the number of its places
pub times_places : (x : ℕ) (ys : List ℕ) → times x ys ≡ places x ys
times_places x [] = refl
times_places x (y ∷ ys) = elim (cases_eq x y) [
  | inl e ↦ rw (eq-eqb y x (sym e)) (omega (arith, same_one x y e, times_places x ys))
  | inr d ↦ rw (apart_test y x (λ q. d (sym q))) (omega (arith, apart_none x y d, times_places x ys))
]

index_if : (a b x : ℕ) (xs : List ℕ) (s t : Bool) → (x == a) ≡ s → (x == b) ≡ t → (index_of a xs ≡ index_of b xs → In a xs → In b xs → a ≡ b) →
    (if s then 0 else suc (index_of a xs)) ≡ (if t then 0 else suc (index_of b xs)) → In a (x ∷ xs) → In b (x ∷ xs) → a ≡ b
index_if a b x xs true true u v later e k l = let p : x ≡ a = (Decides-eqb x a).0 u in let q : x ≡ b = (Decides-eqb x b).0 v in cc
index_if a b x xs true false u v later e k l = absurd (omega (arith, e))
index_if a b x xs false true u v later e k l = absurd (omega (arith, e))
index_if a b x xs false false u v later e (inl k) l = let p = (Decides-eqb x a).1 k in absurd (cc)
index_if a b x xs false false u v later e (inr k) (inl l) = let p = (Decides-eqb x b).1 l in absurd (cc)
index_if a b x xs false false u v later e (inr k) (inr l) = later (omega (arith, e)) k l

-- two numbers of a list that have the same index
pub same_index : (a b : ℕ) (xs : List ℕ) → index_of a xs ≡ index_of b xs → In a xs → In b xs → a ≡ b
same_index a b [] e k l = absurd k
same_index a b (x ∷ xs) e k l = index_if a b x xs (x == a) (x == b) refl refl (same_index a b xs) e k l

pub typed_there : (ts : List HeadTyped) (k x n : ℕ) → typed_number ts k x ≡ Some n → (i : ℕ) × (t : HeadTyped) × (n ≡ k + i) × (slice_get ts i ≡ Some t)
typed_there [] k x n e = absurd (cc)
typed_there (t ∷ ts) k x n e = by (t.name == x) e (typed_there ts (k + 1) x n)
  where
    by : (b : Bool) → cond b (Some k) (typed_number ts (k + 1) x) ≡ Some n → (typed_number ts (k + 1) x ≡ Some n → (i : ℕ) × (u : HeadTyped) × (n ≡ (k + 1) + i) × (slice_get ts i ≡ Some u)) →
        (i : ℕ) × (u : HeadTyped) × (n ≡ k + i) × (slice_get (t ∷ ts) i ≡ Some u)
    by true q later = (0, t, (let z = same_Some k n q in omega (arith, z)), refl)
    by false q later = let r = later q in (suc r.0, r.1, (let z = r.2 in omega (arith, z)), r.3)

-- nothing is taken from a list that has none of it
pub without_none : (ns xs : List ℕ) → ((a : ℕ) → In a ns → In a xs → ⊥) → without_all ns xs ≡ xs
without_none [] xs d = refl
without_none (n ∷ ns) xs d = ap (without_all ns) (absent n xs (d n (inl refl))) ∙ without_none ns xs (λ a i. d a (inr i))
