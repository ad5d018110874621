use Rattle.std.proofs.Common.{◌≡◌, ◌≢◌, ◌<◌, ◌+◌, length, get_or, arith}
use Rattle.lmn_instr_reading.proofs.QuotedLemmas.{no_lone_quote}
use Rattle.lmn_instr_reading.proofs.reading.width_at.Goals.{else-at-inside-via-then-at-inside+else-inside-at-eq39, else-at-inside-via-else-at-inside}
use Rattle.lmn_instr_reading.proofs.reading.width_at.Goals as goal

pub returns-clause-none : goal.returns-clause-none
returns-clause-none c = λ name e.
    let q : get_or c.args.inside.now c.args.at 0 ≡ 39 = omega arith in
    let n : c.args.at + 1 < length c.args.inside.now → get_or c.args.inside.now (c.args.at + 1) 0 ≢ 39 =
    elim c.else-at-inside.branch [
      | else-at-inside-via-then-at-inside+else-inside-at-eq39 w ↦ (λ l r. w.if-inside-at-eq39.false r)
      | else-at-inside-via-else-at-inside w ↦ (λ l r. absurd (omega (arith, w.if-at-inside.false)))
    ] in
    no_lone_quote c.args.inside.now name c.args.at c.requires q n e
