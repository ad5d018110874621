-- What is written of small runs.
use Rattle.std.proofs.Common.{[], ◌∷◌, codes, refl}
use Rattle.std.specs.Fmt.{digits}
use Rattle.lmn_flatten_plain.specs.Numerals.{numeral}
use Rattle.lmn_print_folded.proofs.ExampleLines as folded
use Rattle.lmn_app_drive.specs.Examples.{FoldedRunIsWritten, FullRunIsWritten}

-- what is written of the example that is full
pub full_run_is_written : FullRunIsWritten
unfolding digits
full_run_is_written = (
  (record { first_lines = codes "a. (a :- a, a).\n" ∷ []; last_line = codes "a. a. (a :- a, a).\n"; are_lines = (refl, tt); is_line = refl }, refl),
  (record { first_lines = codes "a. (a :- a, a).\n" ∷ []; last_line = codes "a. a. (a :- a, a).\n"; are_lines = (refl, tt); is_line = refl }, refl),
)

-- and in the folded form
pub folded_run_is_written : FoldedRunIsWritten
unfolding digits numeral
folded_run_is_written = (
  (record { first_lines = []; last_line = codes "a(b).\n"; are_lines = tt; is_line = folded.last_ports }, refl),
  (record { first_lines = []; last_line = codes "a(L0). b(L0).\n"; are_lines = tt; is_line = refl }, refl),
)
