-- Codes that are verified and others that aren't, computed.
use Rattle.std.proofs.Common.{refl, sym, arith, true≢false}
use Rattle.lmn_verify_code.specs.VerifiedExamples.{VerifiedExamples}

pub verified_examples : VerifiedExamples
verified_examples = record {
  row_of_two_atoms = record { order = refl; looked_at = refl; first = refl; integers = refl; few = omega arith; ports = refl; head = refl; apart = refl; apart_membranes = refl; taken = refl; rest = refl; emptied = refl; once = refl };
  row_of_membrane = record { order = refl; looked_at = refl; first = refl; integers = refl; few = omega arith; ports = refl; head = refl; apart = refl; apart_membranes = refl; taken = refl; rest = refl; emptied = refl; once = refl };
  moved = record { order = refl; looked_at = refl; first = refl; integers = refl; few = omega arith; ports = refl; head = refl; apart = refl; apart_membranes = refl; taken = refl; rest = refl; emptied = refl; once = refl };
  row_of_integers = record { order = refl; looked_at = refl; first = refl; integers = refl; few = omega arith; ports = refl; head = refl; apart = refl; apart_membranes = refl; taken = refl; rest = refl; emptied = refl; once = refl };
  row_of_link = record { order = refl; looked_at = refl; first = refl; integers = refl; few = omega arith; ports = refl; head = refl; apart = refl; apart_membranes = refl; taken = refl; rest = refl; emptied = refl; once = refl };
  rest_copied = record { order = refl; looked_at = refl; first = refl; integers = refl; few = omega arith; ports = refl; head = refl; apart = refl; apart_membranes = refl; taken = refl; rest = refl; emptied = refl; once = refl };
  rest_dropped = record { order = refl; looked_at = refl; first = refl; integers = refl; few = omega arith; ports = refl; head = refl; apart = refl; apart_membranes = refl; taken = refl; rest = refl; emptied = refl; once = refl };
  unset = λ v. true≢false (sym v.order);
  not_looked_at = λ v. true≢false (sym v.looked_at);
  found_late = λ v. true≢false (sym v.first);
  no_integer = λ v. true≢false (sym v.integers);
  too_many = λ v. (let few = v.few in omega arith);
  no_port = λ v. true≢false (sym v.ports);
  connector_made = λ v. true≢false (sym v.rest);
  no_commit = λ v. true≢false (sym v.head);
  not_apart = λ v. true≢false (sym v.apart);
  membranes_not_apart = λ v. true≢false (sym v.apart_membranes);
  entry_twice = λ v. true≢false (sym v.once);
  left_in_place = λ v. true≢false (sym v.taken);
  not_emptied = λ v. true≢false (sym v.emptied);
  counted_and_moved = λ v. true≢false (sym v.emptied);
  copied_alone = λ v. true≢false (sym v.emptied);
  dropped_first = λ v. true≢false (sym v.rest);
  dropped_twice = λ v. true≢false (sym v.emptied);
  moved_and_dropped = λ v. true≢false (sym v.emptied);
  copied_unasked = λ v. true≢false (sym v.emptied);
  other_context = λ v. true≢false (sym v.emptied);
  copied_and_moved = λ v. true≢false (sym v.emptied);
  asked_and_moved = λ v. true≢false (sym v.emptied);
  counted_and_dropped = λ v. true≢false (sym v.emptied);
  counted_in_part = λ v. true≢false (sym v.emptied);
  found_behind_closed = λ v. true≢false (sym v.first);
  no_rule = λ v. true≢false (sym v.rest);
  into_removed = λ v. true≢false (sym v.rest);
  left_open = λ v. true≢false (sym v.once);
  tied_to_itself = λ v. true≢false (sym v.once);
  no_end = λ v. true≢false (sym v.rest);
}
