use Rattle.std.proofs.Common.{◌+◌, ◌*◌, ap, ◌∙◌, sym, drop}
use Rattle.lmn_lexer.specs.Faults.{value_behind}
use Rattle.lmn_lexer.proofs.FaultLemmas.{value_more}
use Rattle.lmn_instr_reading.proofs.NumberLemmas.{large_value}
use Rattle.lmn_instr_reading.proofs.lines_reading.small_value.Goals as goal

pub returns-then-value-gt-MOST : goal.returns-then-value-gt-MOST
returns-then-value-gt-MOST c =
    let digits = c.args.digits.now in
    let i = c.loop-digit.digit-index in
    large_value digits (c.loop-digit.value * 10 + c.from.result) (drop (i + 1) digits)
    (c.loop-digit.invariant.1 ∙ value_more c.loop-digit.value digits i c.loop-digit-test.true
    ∙ ap (λ d. value_behind (c.loop-digit.value * 10 + d) (drop (i + 1) digits)) (sym (c.from.ensures ∙ c.saturating_sub.ensures))) c.if-value-gt-MOST.true
