use Rattle.std.proofs.Common.{◌+◌, ◌∙◌, sym, ap}
use Rattle.std.proofs.lemmas.List.{take_rest}
use Rattle.lmn_lexer.specs.Scanning.{follows}
use Rattle.lmn_lexer.proofs.ScanLemmas.{quoted_quote, quoted_byte}
use Rattle.lmn_lexer.proofs.piece.quoted.Goals as goal

pub loop-at-preserved-then-byte-eq39 : goal.loop-at-preserved-then-byte-eq39
loop-at-preserved-then-byte-eq39 c =
    let twice = sym (ap (follows 39) (take_rest c.args.rest.now (c.loop-at.at + 1))) ∙ sym c.follows.ensures.value ∙ c.if-not-follows.false in
    c.loop-at.invariant ∙ quoted_quote c.args.rest.now c.loop-at.at c.loop-at-test.true c.if-byte-eq39.true twice

pub loop-at-preserved : goal.loop-at-preserved
loop-at-preserved c =
    c.loop-at.invariant ∙ quoted_byte (c.loop-at.at + 1) c.args.rest.now c.loop-at.at c.loop-at-test.true c.if-byte-eq39.false c.if-byte-eq10.false (sym c.is_quotable.ensures ∙ c.if-is_quotable.true)
