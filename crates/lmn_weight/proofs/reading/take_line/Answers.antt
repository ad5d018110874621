use Rattle.std.proofs.Common.{ap, sym, refl, ◌∙◌, ◌+◌}
use Rattle.std.proofs.lemmas.List.{take_rest}
use Rattle.lmn_instr_reading.specs.Lines.{number_written}
use Rattle.lmn_weight.proofs.LineLemmas.{line_taken, line_untaken, line_unsplit}
use Rattle.lmn_weight.proofs.reading.take_line.Goals as goal

pub returns-in-Some-number_written-clause-told : goal.returns-in-Some-number_written-clause-told
returns-in-Some-number_written-clause-told c =
    let some = c.in-Some.ensures.some in
    line_taken _ c.args.line.now c.in-Some.at c.in-Some-number_written.weight _ _ c.take_item.result some.0 some.1 some.2
    (ap number_written (sym (take_rest c.args.line.now (c.in-Some.at + 1))) ∙ sym c.in-Some-number_written.ensures) c.take_item.ensures.told

pub returns-in-None-number_written-clause-told : goal.returns-in-None-number_written-clause-told
returns-in-None-number_written-clause-told c =
    let some = c.in-Some.ensures.some in
    (refl, line_untaken c.args.names.now c.args.told.now c.args.line.now c.in-Some.at some.0 some.1 some.2 (ap number_written (sym (take_rest c.args.line.now (c.in-Some.at + 1))) ∙ sym c.in-None-number_written.ensures))

pub returns-in-None-clause-told : goal.returns-in-None-clause-told
returns-in-None-clause-told c = (refl, line_unsplit c.args.names.now c.args.told.now c.args.line.now c.in-None.ensures.none)
