-- The listings of the heads of some rules, computed.
use Rattle.std.proofs.Common.{refl}
use Rattle.std.specs.Fmt.{digits}
use Rattle.lmn_instr_code.specs.Worked.{WorkedListings}

-- the listings of the examples
pub worked_listings : WorkedListings
unfolding digits
worked_listings = record {
  two_atoms = refl;
  in_membrane = refl;
  sum_of_two = λ box. refl;
  by_link = refl;
  lowest_argument = refl;
  later_argument = refl;
  own_link = refl;
  linked_alike = refl;
  ring = refl;
  other_functors = refl;
  other_level = refl;
  with_contexts = refl;
  rules_alone = refl;
  outermost = refl;
  into_membrane = refl;
  between_membranes = refl;
  four_membranes = refl;
  empty_inside = refl;
  typed_inside = refl;
  typed_in_two = refl;
  closed_rest = refl;
  closed_beside_typed = refl;
  constant = refl;
  each_occurrence = λ box. refl;
  bound_contexts = λ box. refl;
  two_comparisons = λ box. refl;
  negative = refl;
  equal_parts = refl;
  different_parts = refl;
  integer_atom = refl;
  whole_rule = refl;
  of_bodies = refl;
  of_closed_rests = refl;
}
