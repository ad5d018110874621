use Rattle.std.proofs.Common.{◌≡◌, ◌==◌, ℕ, [], ◌∷◌, List, None, refl, sym, arith}
use Rattle.lmn_base.proofs.Numbers.{not_equal}
use Rattle.lmn_base.proofs.Truth.{if_no}
use Rattle.lmn_web_rows.specs.Rows.{Item, blank, numbered}
use Rattle.lmn_web_rows.specs.Seen.{HasNumber}
use Rattle.lmn_web_rows.specs.Examples.{with_number}
use Rattle.lmn_web_rows.proofs.examples.a_row_is_made.Goals as goal

has_words : (is : List Item) → blank ∷ is ≡ [] → ⊥
has_words is e = absurd cc

none_written : (m : ℕ) → HasNumber [] m 3 → ⊥
none_written m h = absurd (let e : blank ≡ numbered 3 h.0 = h.1 in cc)

pub returns-clause-made : goal.returns-clause-made
returns-clause-made c = record { number = 3; beside = None; small = omega arith; fresh = none_written; none = refl; made = refl; others = λ m d. if_no (8 == m) (with_number 3) [] (not_equal 8 m (λ e. d (sym e))) }

pub returns-clause-there : goal.returns-clause-there
returns-clause-there c = λ m. has_words _ m.none
