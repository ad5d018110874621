-- The listings of the bodies of some rules, computed.
use Rattle.std.proofs.Common.{refl}
use Rattle.std.specs.Fmt.{digits}
use Rattle.lmn_solid_bodies.specs.Worked.{WorkedBodies}

-- the bodies of the examples have this code
pub worked_bodies : WorkedBodies
unfolding digits
worked_bodies = record {
  two_make_one = refl;
  membrane_opens = refl;
  sum_is_made = refl;
  lists_append = refl;
  nothing = refl;
  joined = refl;
  joined_backwards = refl;
  loop = refl;
  circle = refl;
  chain = refl;
  chain_to_new = refl;
  chain_of_new = refl;
  rising_classes = refl;
  least_link_decides = refl;
  across_membranes = refl;
  two_contexts = refl;
  nested_membranes = refl;
  rules_in_order = refl;
  copied_twice = refl;
  copy_to_head = refl;
  copy_in_membrane = refl;
  integer_made = refl;
  two_heads_joined = refl;
  copied_rests = refl;
  beside_an_open_rest = refl;
}
