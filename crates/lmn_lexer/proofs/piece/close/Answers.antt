use Rattle.std.proofs.Common.{◌+◌, ◌∙◌, sym, ap}
use Rattle.std.proofs.lemmas.List.{take_rest}
use Rattle.lmn_lexer.specs.Scanning.{follows}
use Rattle.lmn_lexer.proofs.ScanLemmas.{close_begun, close_found, close_elsewhere, close_unfollowed, close_nowhere}
use Rattle.lmn_lexer.proofs.piece.close.Goals as goal
use Rattle.lmn_lexer.proofs.piece.close.Goals.{else-byte-eq42-via-then-byte-eq42+else-follows, else-byte-eq42-via-else-byte-eq42}

pub loop-i-init : goal.loop-i-init
loop-i-init c = close_begun c.args.text.now

pub returns-then-follows-clause-close : goal.returns-then-follows-clause-close
returns-then-follows-clause-close c =
    let here = sym (ap (follows 47) (take_rest c.args.text.now (c.loop-i.i + 1))) ∙ sym c.follows.ensures.value ∙ c.if-follows.true in
    sym (c.loop-i.invariant ∙ close_found c.args.text.now c.loop-i.i c.loop-i-test.true c.if-byte-eq42.true here)

pub loop-i-preserved : goal.loop-i-preserved
loop-i-preserved c = elim c.else-byte-eq42.branch [
  | else-byte-eq42-via-then-byte-eq42+else-follows w ↦
      c.loop-i.invariant ∙ close_unfollowed c.args.text.now c.loop-i.i c.loop-i-test.true
      (sym (ap (follows 47) (take_rest c.args.text.now (c.loop-i.i + 1))) ∙ sym w.follows.ensures.value ∙ w.if-follows.false)
  | else-byte-eq42-via-else-byte-eq42 w ↦
      c.loop-i.invariant ∙ close_elsewhere c.args.text.now c.loop-i.i c.loop-i-test.true w.if-byte-eq42.false
]

pub returns-clause-close : goal.returns-clause-close
returns-clause-close c = sym (c.loop-i.invariant ∙ close_nowhere c.args.text.now c.loop-i.i c.loop-i-test.false)
