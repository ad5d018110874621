use Rattle.std.proofs.Common.{◌∙◌, arith, refl, sym}
use Rattle.std.proofs.lemmas.Option.{slice_get-get_or}
use Rattle.lmn_receipt_chain.proofs.AlikeLemmas.{at_byte, at_digit, at_end}
use Rattle.lmn_receipt_chain.proofs.alike.next_byte.Goals as goal

pub loop-at-init : goal.loop-at-init
loop-at-init c = record { low = omega arith; same = refl }

pub loop-at-preserved : goal.loop-at-preserved
loop-at-preserved c =
    let low = c.loop-at.invariant.low in
    record {
      low = omega (arith, low);
      same = at_digit c.args.text.now c.loop-at.at _ (slice_get-get_or c.args.text.now c.loop-at.at 0 c.loop-at-test.true) (sym c.is_ascii_digit.ensures.value ∙ c.if-not-is_ascii_digit.false) ∙ c.loop-at.invariant.same;
    }

pub returns-then-not-is_ascii_digit-clause-some : goal.returns-then-not-is_ascii_digit-clause-some
returns-then-not-is_ascii_digit-clause-some c =
    let low = c.loop-at.invariant.low in
    let inside = c.loop-at-test.true in (
      omega (arith, low),
      omega (arith, inside),
      sym c.loop-at.invariant.same ∙ at_byte c.args.text.now c.loop-at.at _ (slice_get-get_or c.args.text.now c.loop-at.at 0 c.loop-at-test.true) (sym c.is_ascii_digit.ensures.value ∙ c.if-not-is_ascii_digit.true),
    )

pub returns-clause-none : goal.returns-clause-none
returns-clause-none c e = let past = c.loop-at-test.false in sym c.loop-at.invariant.same ∙ at_end c.args.text.now c.loop-at.at (omega (arith, past))
