use Rattle.std.proofs.Common.{◌≡◌, ◌≤◌, ◌+◌, ◌*◌, ◌-◌, ◌<◌, ℕ, List, ◌∙◌, arith, drop, length, get_or}
use Rattle.lmn_lexer.specs.Faults.{value_behind}
use Rattle.lmn_lexer.proofs.FaultLemmas.{value_more, value_grows}
use Rattle.lmn_lexer.proofs.value.value.Goals as goal

-- the value with the next digit isn't above that of all digits
next_value : (digits : List ℕ) (value i : ℕ) → i < length digits → value_behind 0 digits ≡ value_behind value (drop i digits) → value * 10 + (get_or digits i 0 - 48) ≤ value_behind 0 digits
next_value digits value i l h =
    let more = value_grows (value * 10 + (get_or digits i 0 - 48)) (drop (i + 1) digits) in
    let all = h ∙ value_more value digits i l in
    omega arith

pub overflow_mul-value : goal.overflow_mul-value
overflow_mul-value c = let next = next_value c.args.digits.now c.loop-digit.value c.loop-digit.digit-index c.loop-digit-test.true c.loop-digit.invariant in omega arith

pub overflow_add-value : goal.overflow_add-value
overflow_add-value c = let next = next_value c.args.digits.now c.loop-digit.value c.loop-digit.digit-index c.loop-digit-test.true c.loop-digit.invariant in omega arith
