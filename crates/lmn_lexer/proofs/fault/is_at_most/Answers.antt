use Rattle.std.proofs.Common.{◌+◌, ◌*◌, ap, ◌∙◌, sym, drop, arith, refl}
use Rattle.lmn_lexer.specs.Faults.{value_behind}
use Rattle.lmn_lexer.proofs.FaultLemmas.{value_more, value_all, value_passed}
use Rattle.lmn_lexer.proofs.fault.is_at_most.Goals as goal

pub loop-digit-preserved : goal.loop-digit-preserved
loop-digit-preserved c =
    let digits = c.args.digits.now in
    let i = c.loop-digit.digit-index in (
      c.if-value-most.false,
      c.loop-digit.invariant.1 ∙ value_more c.loop-digit.value digits i c.loop-digit-test.true
          ∙ ap (λ d. value_behind (c.loop-digit.value * 10 + d) (drop (i + 1) digits)) (sym (c.from.ensures ∙ c.saturating_sub.ensures)),
    )

pub returns-then-value-most : goal.returns-then-value-most
returns-then-value-most c =
    let digits = c.args.digits.now in
    let i = c.loop-digit.digit-index in
    let so_far = c.loop-digit.invariant.1 ∙ value_more c.loop-digit.value digits i c.loop-digit-test.true
    ∙ ap (λ d. value_behind (c.loop-digit.value * 10 + d) (drop (i + 1) digits)) (sym (c.from.ensures ∙ c.saturating_sub.ensures)) in
    (λ h. cc, λ h. absurd (value_passed (c.loop-digit.value * 10 + c.from.result) (i + 1) c.args.most digits so_far c.if-value-most.true h))

pub returns : goal.returns
returns c =
    let whole = c.loop-digit.invariant.1 ∙ value_all c.loop-digit.value c.args.digits.now c.loop-digit.digit-index c.loop-digit-test.false in
    (λ h. omega (arith, whole, c.loop-digit.invariant.0), λ h. refl)
