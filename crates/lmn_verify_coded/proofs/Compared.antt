-- The examples of heaps, codes and ends are met.
use Rattle.std.proofs.Common.{zero, suc, ◌≡◌, [], ◌∷◌, refl, sym, subst, inl, inr}
use Rattle.std.proofs.lemmas.Bool.{cases_eq}
use Rattle.std.proofs.lemmas.Option.{same_Some}
use Rattle.lmn_base.proofs.Numbers.{not_equal, zeros_at}
use Rattle.lmn_store_heap.specs.Heap.{Unmarked, mark_of}
use Rattle.lmn_store_heap.specs.Examples.{across}
use Rattle.lmn_store_heap.proofs.ExampleProofs.{across_has_its_solid, across_is_valid, loose_is_not_valid}
use Rattle.lmn_instr_code.specs.declared.instr.Code.{Code}
use Rattle.lmn_verify_code.specs.Verified.{IsVerified}
use Rattle.lmn_verify_code.specs.VerifiedExamples.{VerifiedExamples}
use Rattle.lmn_verify_coded.specs.Examples.{RunExamples}
use Rattle.lmn_verify_turns.specs.Laws.{AreVerified}

across_unmarked : Unmarked across
across_unmarked a i = elim (cases_eq a 0) [
  | inl e ↦ subst (λ z. mark_of across z i ≡ 0) (sym e) (zeros_at 2 i)
  | inr d ↦ elim (cases_eq a 1) [ inl e ↦ subst (λ z. mark_of across z i ≡ 0) (sym e) (zeros_at 2 i) | inr f ↦ rw (not_equal a 0 d, not_equal a 1 f) (zeros_at 0 i) ]
]

-- one code that is verified
one_verified : (c : Code) → IsVerified c 1 → AreVerified (c ∷ [])
one_verified c v zero code e = subst (λ z. IsVerified z 1) (same_Some c code e) v
one_verified c v (suc zero) code e = absurd (cc)
one_verified c v (suc (suc n)) code e = absurd (cc)

-- The examples are met, where those of verified codes are.
pub run_examples : VerifiedExamples → RunExamples
run_examples examples = record {
  ended = tt;
  no_memory = λ e. e;
  heap = record { valid = across_is_valid; unmarked = across_unmarked; solid = across_has_its_solid };
  loose_ports = λ x is. loose_is_not_valid is.valid;
  verified = one_verified _ examples.row_of_two_atoms;
  not_set = λ are. examples.unset (are 0 _ refl);
}
