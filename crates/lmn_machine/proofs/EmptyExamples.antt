-- The examples of what the machine asks and answers.
use Rattle.std.proofs.Common.{ℕ, zero, suc, ◌≡◌, ◌<◌, inl, inr, [], ◌∷◌, Some, pos, refl, arith, sym, subst, ◌∙◌}
use Rattle.std.specs.Prelude.{slice_get}
use Rattle.lmn_store_heap.specs.Heap.{Heap, mem_mark_of}
use Rattle.lmn_store_heap.specs.Conditions.{Above}
use Rattle.lmn_store_trait.specs.Awake.{awake_mark}
use Rattle.lmn_instr_code.specs.declared.instr.Instr.TheVariants.{NeqAtom}
use Rattle.lmn_instr_code.specs.Running.{HeadRegisters}
use Rattle.lmn_solid_bodies.specs.Running.{Registers}
use Rattle.lmn_machine_commit.specs.Examples.{number}
use Rattle.lmn_machine_commit.specs.Waking.{Commits, IsAwakeRound, IsRoused}
use Rattle.lmn_machine_commit.proofs.Rules.{itself}
use Rattle.lmn_machine_commit.proofs.Rousing.{no_marks}
use Rattle.lmn_machine.specs.Asking.{HoldsUpTo}
use Rattle.lmn_machine.specs.Examples.{EmptyHeadIsFound, EmptyHeadIsThere, EmptyBodyIsMatched, EmptyBodyFires, CopiesAreNotMatched, OtherAtomIsPassed, SameAtomIsNotPassed}
use Rattle.lmn_machine.proofs.FromOne.{held_one}

-- an empty head is found
pub empty_head_is_found : EmptyHeadIsFound
empty_head_is_found h there = record {
  held = held_one number number h 0 there;
  copies = refl;
  set = λ u. record { atoms = refl; membranes = refl; parts = refl; integers = refl };
  found = λ u r a. record { succeeds = record { here = a.membranes 0 0 refl; all = tt }; first = λ s t. tt };
  none = λ u. absurd (cc);
}

-- each register is 0
abbrev zeros : HeadRegisters
zeros = record { images = record { atom = λ k. 0; membrane = λ k. 0; part = λ k. (0, 0) }; integer = λ k. pos 0 }

-- and it can't be told that there is none
pub empty_head_is_there : EmptyHeadIsThere
empty_head_is_there h t = t.none refl zeros (record { here = refl; all = tt })

-- an empty body can be run
pub empty_body_is_matched : EmptyBodyIsMatched
empty_body_is_matched h there = record { held = held_one number number h 0 there; rests = λ at m n e. absurd (cc); copies = refl; order = tt }

-- but not where a copy is set
pub copies_are_not_matched : CopiesAreNotMatched
copies_are_not_matched h c t = let e = t.copies in cc

-- an empty body rouses its membrane alone
only_own : (h : Heap) (r : Registers) (x y j : ℕ) → IsAwakeRound h 0 → r.head.images.membrane 0 ≡ 0 → IsRoused h r [] y → Above h j x y → mem_mark_of h x ≡ awake_mark
only_own h r x y j awake own (inl e) above = awake x j (subst (λ m. Above h j x m) (e ∙ own) above)
only_own h r x y j awake own (inr e) above = absurd e

-- nothing is made, and nothing wakes
pub empty_body_fires : EmptyBodyFires
empty_body_fires h awake p r agrees copies rests =
    let same : h ≡ p.before = p.prepared.prepares r agrees copies rests in
    let round : IsAwakeRound p.before 0 = subst (λ k. IsAwakeRound k 0) same awake in
    subst (λ k. Commits p.before r [] k) (sym same) (record {
      prepared = p.before;
      prepares = refl;
      makes = (itself p.before p.matched.valid).1;
      after = p.before;
      does = refl;
      alike = no_marks p.before;
      wakes = record {
        stood = λ x m. m;
        woken = λ x y j roused above. only_own p.before r x y j round (agrees.membranes 0 0 refl) roused above;
        others = λ x m. inl refl;
      };
    })

-- another atom is passed
pub other_atom_is_passed : OtherAtomIsPassed
other_atom_is_passed = ((0, refl, refl), inr (refl, (1, 0, (7, 4, refl, refl, refl, λ e. absurd (omega (arith, e))))))

four_alone : (y : ℕ) → slice_get {X = ℕ} (4 ∷ []) y ≡ Some 5 → ⊥
four_alone zero e = clash 4 5 e (omega arith)
  where
    clash : (m n : ℕ) → Some m ≡ Some n → m < n → ⊥
    clash m n t l = let f : m ≡ n = cc in omega (arith, f, l)
four_alone (suc y) e = absurd (cc)

fours_alone : (x a : ℕ) → slice_get {X = ℕ} (4 ∷ 4 ∷ []) x ≡ Some a → a ≡ 4
fours_alone zero a e = cc
fours_alone (suc zero) a e = cc
fours_alone (suc (suc x)) a e = absurd (cc)

-- the same one isn't
pub same_atom_is_not_passed : SameAtomIsNotPassed
same_atom_is_not_passed = (λ t. four_alone t.0 t.2, passed)
  where
    passed : HoldsUpTo number (4 ∷ 4 ∷ []) (NeqAtom 1 0 ∷ []) 0 1 → ⊥
    passed (inl e) = absurd (omega (arith, e))
    passed (inr (e, (x, y, (a, b, t, u, v, d)))) = d (fours_alone x a u ∙ sym (fours_alone y b v))
