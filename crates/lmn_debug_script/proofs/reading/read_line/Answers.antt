use Rattle.std.proofs.Common.{◌+◌, ◌∙◌, ap, drop, sym, take}
use Rattle.std.proofs.lemmas.List.{take_rest}
use Rattle.lmn_instr_reading.proofs.LineLemmas.{split_at}
use Rattle.lmn_instr_reading.specs.Lines.{number_written}
use Rattle.lmn_debug_script.proofs.LineLemmas.{line_unnumbered}
use Rattle.lmn_debug_script.proofs.reading.read_line.Goals as goal

pub returns-in-None-number_written-clause-order : goal.returns-in-None-number_written-clause-order
returns-in-None-number_written-clause-order c =
    let line = c.args.line.now in
    let at = c.in-Some.at in
    let some = c.in-Some.ensures.some in
    line_unnumbered line (take at line) (drop (at + 1) line) (split_at line at some.0 some.1) some.2
    (ap number_written (sym (take_rest line (at + 1))) ∙ sym c.in-None-number_written.ensures) (c.is_text.ensures.no c.if-is_text.false)
