-- The examples of listings.
use Rattle.std.proofs.Common.{[], length, refl, sym, ap, subst, arith}
use Rattle.std.specs.List.{AllByRecursion}
use Rattle.std.specs.Prelude.{codes}
use Rattle.lmn_compile_listing.specs.Listings.{rule_codes}
use Rattle.lmn_verify_compiled.specs.Kept.{IsKeptCode}
use Rattle.lmn_verify_listing.proofs.Places.{has_no_by_test}
use Rattle.lmn_verify_compiled.specs.ListingExamples.{ListingExamples}

pub listing_examples : ListingExamples
listing_examples = record {
  kept = ((((tt, (tt, ((omega arith, omega arith), tt))), (tt, tt))), ((tt, tt), (tt, tt)));
  wide = λ h. (let l = h.0.0.1.1.0.1 in omega (arith, l));
  counted = ((((tt, (omega arith, tt))), (tt, tt)), (tt, tt));
  many = λ h. (let l = h.0.0.1.0 in omega (arith, l));
  plain = ((omega arith, has_no_by_test 10 (codes "a") refl), ((omega arith, has_no_by_test 10 (codes "It's") refl), ((omega arith, tt), tt)));
  broken = λ h. h.1.0.1.1.0 refl;
  listed = λ names p made none named short. record {
    made = made;
    whole = record { many = sym (ap length none); whole = λ k r plan e f. absurd (cc) };
    named = named;
    short = short;
    few = (let e = ap length none in omega (arith, e));
    kept = subst (λ rs. AllByRecursion IsKeptCode (rule_codes rs [])) (sym none) tt;
  };
  not_listed = λ p plans can. can.short.0.1.1.0 refl;
}
