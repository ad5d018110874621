-- The membranes that a body makes.
use Rattle.std.proofs.Common.{ℕ, true, false, ◌≡◌, ◌+◌, ◌<◌, ◌≤◌, List, [], ◌∷◌, sym, ap, ◌∙◌, inl, inr, arith}
use Rattle.std.proofs.lemmas.Bool.{cases_eq}
use Rattle.std.specs.Prelude.{◌≢◌}
use Rattle.lmn_store_heap.specs.Lists.{Distinct}
use Rattle.lmn_store_heap.proofs.ListLemmas.{each_in, in_right, distinct_right}
use Rattle.lmn_solid_bodies.specs.declared.items.BodyItem.{BodyItem}
use Rattle.lmn_solid_bodies.specs.declared.items.BodyItem.TheVariants.{Atom, Connector, Copy, Bound, Membrane, Rest, Rule, Rules}
use Rattle.lmn_solid_bodies.specs.Added.{made_mems}
use Rattle.lmn_solid_bodies.specs.RestCopies.{RestCopies, later}
use Rattle.lmn_solid_bodies.specs.Running.{Registers}
use Rattle.lmn_adequacy_turns.proofs.Adders.{at, many}
use Rattle.lmn_base.specs.Lists.{In}

-- a membrane that a body makes is listed
pub in_made : (s : Registers) (q : RestCopies) (n : ℕ) (xs : List BodyItem) (j : ℕ) → n ≤ j → j < n + many xs → In (at s j) (made_mems s q n xs)
in_made s q n [] j a b = absurd (omega (arith, a, b))
in_made s q n (Atom functor links inside ∷ xs) j a b = in_made s q n xs j a b
in_made s q n (Connector left right ∷ xs) j a b = in_made s q n xs j a b
in_made s q n (Copy part link inside ∷ xs) j a b = in_made s q n xs j a b
in_made s q n (Bound integer link inside ∷ xs) j a b = in_made s q n xs j a b
in_made s q n (Membrane inside ∷ xs) j a b = elim (cases_eq j n) [
  | inl e ↦ inl (ap (at s) (sym e))
  | inr d ↦ inr (in_made s q (n + 1) xs j (omega (arith, a, d)) (omega (arith, b)))
]
in_made s q n (Rest of false inside ∷ xs) j a b = in_made s q n xs j a b
in_made s q n (Rest of true inside ∷ xs) j a b = in_right (at s j) (q 0).membranes (made_mems s (later q) n xs) (in_made s (later q) n xs j a b)
in_made s q n (Rule rule inside ∷ xs) j a b = in_made s q n xs j a b
in_made s q n (Rules of inside ∷ xs) j a b = in_made s q n xs j a b

-- and different ones are different
pub made_apart : (s : Registers) (q : RestCopies) (n : ℕ) (xs : List BodyItem) → Distinct (made_mems s q n xs) → (j k : ℕ) → n ≤ j → j < n + many xs → n ≤ k → k < n + many xs → at s j ≡ at s k → j ≡ k
made_apart s q n [] d j k a b a' b' e = absurd (omega (arith, a, b))
made_apart s q n (Atom functor links inside ∷ xs) d j k a b a' b' e = made_apart s q n xs d j k a b a' b' e
made_apart s q n (Connector left right ∷ xs) d j k a b a' b' e = made_apart s q n xs d j k a b a' b' e
made_apart s q n (Copy part link inside ∷ xs) d j k a b a' b' e = made_apart s q n xs d j k a b a' b' e
made_apart s q n (Bound integer link inside ∷ xs) d j k a b a' b' e = made_apart s q n xs d j k a b a' b' e
made_apart s q n (Membrane inside ∷ xs) d j k a b a' b' e = elim (cases_eq j n) [
  | inl p ↦ elim (cases_eq k n) [
    | inl g ↦ p ∙ sym g
    | inr g ↦ absurd (each_in (λ y. at s n ≢ y) (made_mems s q (n + 1) xs) (at s k) d.0 (in_made s q (n + 1) xs k (omega (arith, a', g)) (omega (arith, b'))) (ap (at s) (sym p) ∙ e))
  ]
  | inr p ↦ elim (cases_eq k n) [
    | inl g ↦ absurd (each_in (λ y. at s n ≢ y) (made_mems s q (n + 1) xs) (at s j) d.0 (in_made s q (n + 1) xs j (omega (arith, a, p)) (omega (arith, b))) (ap (at s) (sym g) ∙ sym e))
    | inr g ↦ made_apart s q (n + 1) xs d.1 j k (omega (arith, a, p)) (omega (arith, b)) (omega (arith, a', g)) (omega (arith, b')) e
  ]
]
made_apart s q n (Rest of false inside ∷ xs) d j k a b a' b' e = made_apart s q n xs d j k a b a' b' e
made_apart s q n (Rest of true inside ∷ xs) d j k a b a' b' e = made_apart s (later q) n xs (distinct_right (q 0).membranes (made_mems s (later q) n xs) d) j k a b a' b' e
made_apart s q n (Rule rule inside ∷ xs) d j k a b a' b' e = made_apart s q n xs d j k a b a' b' e
made_apart s q n (Rules of inside ∷ xs) d j k a b a' b' e = made_apart s q n xs d j k a b a' b' e
