-- When an empty body can be prepared, and which instructions are rare.
use Rattle.std.proofs.Common.{ℕ, zero, suc, ◌≡◌, [], ◌∷◌, Some, IsSome, refl, subst}
use Rattle.std.specs.Prelude.{slice_get}
use Rattle.lmn_store_heap.specs.Heap.{Heap, IsMem}
use Rattle.lmn_machine_commit.specs.Examples.{EmptyBodyIsReady, CopiesAreNotReady, LostAtomsAreNotReady, TakingIsRare}
use Rattle.lmn_machine_commit.proofs.Waiting.{none_there}

-- the one membrane is there
one_there : (h : Heap) (k m : ℕ) → IsMem h 0 → slice_get (0 ∷ []) k ≡ Some m → IsMem h m
one_there h zero m there e = let t : 0 ≡ m = cc in subst (λ n. IsMem h n) t there
one_there h (suc k) m there e = absurd (cc)

-- an empty body is ready
pub empty_body_is_ready : EmptyBodyIsReady
empty_body_is_ready h there = record {
  held = record { atoms = λ k a e. absurd (cc); membranes = λ k m e. one_there h k m there e; parts = λ k p e. absurd (cc); listed = λ a e. absurd (cc) };
  parts = λ k p e. absurd (cc);
  homes = λ k p e. absurd (cc);
  rests = λ at m n e. absurd (cc);
  copies = refl;
  order = tt;
}

-- but not with a copy
pub copies_are_not_ready : CopiesAreNotReady
copies_are_not_ready h c t = let e = t.copies in cc

-- nor with an atom that isn't there
pub lost_atoms_are_not_ready : LostAtomsAreNotReady
lost_atoms_are_not_ready h port none t =
    let there : IsSome (h.atoms 0) = (t.held.listed 0 refl).port.0 in
    none_there (h.atoms 0) there none

-- taking a membrane is rare, and ending code isn't
pub taking_is_rare : TakingIsRare
taking_is_rare = (tt, λ e. e)
