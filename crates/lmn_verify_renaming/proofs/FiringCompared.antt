-- Matches of a head of one atom, and a rule that fires.
use Rattle.std.proofs.Common.{ℕ, zero, suc, ◌≡◌, ◌∙◌, ◌<◌, Bool, if◌then◌else◌, [], ◌∷◌, ◌++◌, Some, None, IsSome, refl, sym, ap, subst, inl, inr, arith, List}
use Rattle.std.specs.Prelude.{ℤ, slice_get}
use Rattle.std.proofs.lemmas.Option.{slice_get_past}
use Rattle.lmn_base.specs.Lists.{In}
use Rattle.lmn_base.proofs.Lists.{head_is, none_is_not}
use Rattle.lmn_base.proofs.Numbers.{not_equal}
use Rattle.lmn_store_heap.specs.Heap.{IsInPlace, arity_of, atoms_in, functor_of, mems_in, rules_in}
use Rattle.lmn_store_heap.specs.Lists.{without_all}
use Rattle.lmn_store_heap.proofs.ListLemmas.{withouts_nothing}
use Rattle.lmn_solid_bodies.specs.Added.{added_atoms}
use Rattle.lmn_solid_bodies.specs.Names.{Names}
use Rattle.lmn_solid_bodies.specs.RestCopies.{RestCopies}
use Rattle.lmn_solid_bodies.specs.Rules.{PartAtoms}
use Rattle.lmn_solid_bodies.specs.Within.{FiresFlat, FiresWithin}
use Rattle.lmn_verify_renaming.specs.Examples.{first}
use Rattle.lmn_verify_renaming.specs.FiringExamples.{FlatRuleFires, MatchesCompare, by_number, fired, replaced, replacing}
use Rattle.lmn_solid_heads.specs.Heads.{HeadTyped}

pub matches_compare : MatchesCompare
matches_compare = record {
  renamed = λ q integer a m. record {
    atoms = λ k l. refl;
    membranes = λ k l. refl;
    parts = λ g t w. refl;
    integers = λ v link inside i. refl;
  };
  elsewhere = λ q integer a b m differ same. differ (same.atoms 0 (omega arith));
}

-- ---- a rule that replaces one atom

-- neither heap has a port
first_bare : (a i : ℕ) → i < arity_of first a → ⊥
first_bare zero i l = absurd (omega (arith, l))
first_bare (suc a) i l = absurd (omega (arith, l))

fired_bare : (a i : ℕ) → i < arity_of fired a → ⊥
fired_bare zero i l = absurd (omega (arith, l))
fired_bare (suc zero) i l = absurd (omega (arith, l))
fired_bare (suc (suc a)) i l = absurd (omega (arith, l))

first_named : Names first (λ p. 0)
first_named = record { partner = λ p l. absurd (first_bare p.0 p.1 l.1); only = λ p q l k e. absurd (first_bare p.0 p.1 l.1) }

fired_named : Names fired (λ p. 0)
fired_named = record { partner = λ p l. absurd (fired_bare p.0 p.1 l.1); only = λ p q l k e. absurd (fired_bare p.0 p.1 l.1) }

-- there is one atom before
other_atom : (a : ℕ) → IsInPlace first a → (In a (0 ∷ []) → ⊥) → functor_of fired a ≡ functor_of first a
other_atom zero i o = absurd (o (inl refl))
other_atom (suc a) i o = absurd (cc i)

no_rests : RestCopies
no_rests k = record { atoms = []; membranes = [] }

module _ (integer : ℕ → ℤ) where
  atoms_after : (x : ℕ) → atoms_in fired x ≡ without_all (0 ∷ []) (atoms_in first x) ++ added_atoms (by_number integer) no_rests (λ k. without_all (0 ∷ []) (atoms_in first k)) 1 0 replacing x
  atoms_after zero = refl
  atoms_after (suc x) = sym (ap (λ (t : Bool). (if t then 1 ∷ [] else []) ++ []) (not_equal 0 (suc x) (λ e. absurd (omega (arith, e)))))

  mems_after : (x : ℕ) → mems_in fired x ≡ mems_in first x ++ []
  mems_after zero = refl
  mems_after (suc x) = refl

  rules_after : (x : ℕ) → rules_in fired x ≡ rules_in first x ++ []
  rules_after zero = refl
  rules_after (suc x) = refl

  no_parts : PartAtoms first replaced (by_number integer).head.images []
  no_parts = record { once = tt; are = λ a i. absurd i; all = λ g t a w reached. absurd (none_is_not {A = HeadTyped} (slice_get {X = HeadTyped} [] g) (slice_get_past {X = HeadTyped} [] g (omega arith)) (subst (λ o. IsSome o) (sym w) refl)) }

  within_first : FiresWithin first (λ p. 0) (by_number integer) replaced replacing (0 ∷ []) fired
  within_first = record {
    to = λ x. 0;
    connectors_fused = λ e i. absurd i;
    heads_fused = λ e i. absurd i;
    number = λ p. 0;
    named = fired_named;
    kept_links = λ p i. refl;
    made_links = λ e i. absurd i;
    kept_functors = λ a i t d. other_atom a i t;
    made_functors = λ e i. elim i [ inl same ↦ subst (λ z. functor_of fired z.0 ≡ Some z.1) same refl | inr j ↦ absurd j ];
    rests = no_rests;
    rests_long = tt;
    rests_copied = tt;
    new_once = (tt, tt);
    new_fresh = λ y i. elim i [ inl same ↦ subst (λ z. first.atoms z ≡ None) same refl | inr j ↦ absurd j ];
    new_placed = λ y i. elim i [ inl same ↦ subst (IsInPlace fired) same refl | inr j ↦ absurd j ];
    made_once = tt;
    made_fresh = λ x i. absurd i;
    copies = λ e i. absurd i;
    atoms = λ x o. atoms_after x;
    mems = λ x o. mems_after x;
    rules = λ x o. rules_after x;
  }

-- the rule fires so
pub flat_rule_fires : FlatRuleFires
flat_rule_fires = record {
  fires = λ integer. record { name = λ p. 0; named = first_named; parts = []; are = no_parts integer; fires = within_first integer; root = refl };
  unchanged = λ integer w. (let same : ◌≡◌ {A = List ℕ} (0 ∷ []) (1 ∷ []) = still integer w in let e : ◌≡◌ {A = ℕ} 0 1 = head_is same in absurd (omega (arith, e)));
}
  where
    still : (integer : ℕ → ℤ) → FiresFlat replaced replacing (by_number integer) first first → ◌≡◌ {A = List ℕ} (0 ∷ []) (1 ∷ [])
    still integer w = w.fires.atoms 0 (λ i. i) ∙ ap (λ ys. ys ++ 1 ∷ []) (withouts_nothing w.parts)
