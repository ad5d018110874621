use Rattle.std.proofs.Common.{true}
use Rattle.lmn_io.proofs.WritingLemmas.{writes_as}
use Rattle.lmn_print_folded.specs.Terms.{no_membrane, membrane_and}
use Rattle.lmn_print_folding.proofs.OwnMarks as own
use Rattle.lmn_print_plain.proofs.KeptLemmas.{valid_same}
use Rattle.lmn_print.specs.Lines.{IsHeapLine}
use Rattle.lmn_print_plain.specs.Writing.{IsLineWith}
use Rattle.lmn_print.specs.Texts.{AreItemTexts}
use Rattle.lmn_print.proofs.FoldedText.{line_by_marks, some_texts}
use Rattle.lmn_print.proofs.PrintLemmas.{back_again, other_own_marks, ports_unmarked, printed_line, some_given, some_line}
use Rattle.lmn_print.proofs.printing.print_folded.Goals as goal

pub number_printed-requires-clause-valid : goal.number_printed-requires-clause-valid
number_printed-requires-clause-valid g c = own.valid_same (g.S.LinkStore.heap c.args.store.now) (g.S.LinkStore.heap c.choose_items.new.store) c.choose_items.ensures.marks c.root-chosen.ensures.sound c.requires.valid

pub number_printed-requires-clause-unmarked : goal.number_printed-requires-clause-unmarked
number_printed-requires-clause-unmarked g c = ports_unmarked (g.S.LinkStore.heap c.args.store.now) (g.S.LinkStore.heap c.choose_items.new.store) c.choose_items.ensures.marks c.requires.unmarked

pub number_printed-requires-clause-printed : goal.number_printed-requires-clause-printed
number_printed-requires-clause-printed g c =
    let s = g.S.LinkStore.heap c.args.store.now in
    let t = g.S.LinkStore.heap c.choose_items.new.store in
    some_given t (own.valid_same s t c.choose_items.ensures.marks c.root-chosen.ensures.sound c.requires.valid) c.choose_items.ensures.chosen

pub write_line_with-answer-requires-clause-valid : goal.write_line_with-answer-requires-clause-valid
write_line_with-answer-requires-clause-valid g c =
    let s = g.S.LinkStore.heap c.args.store.now in
    let t = g.S.LinkStore.heap c.choose_items.new.store in
    valid_same t (g.S.LinkStore.heap c.number_printed.new.store) c.number_printed.ensures.marks c.root-numbered.ensures.sound
    (own.valid_same s t c.choose_items.ensures.marks c.root-chosen.ensures.sound c.requires.valid)

pub write_line_with-answer-requires-clause-texts : goal.write_line_with-answer-requires-clause-texts
write_line_with-answer-requires-clause-texts g c =
    let s = g.S.LinkStore.heap c.args.store.now in
    let t = g.S.LinkStore.heap c.choose_items.new.store in
    let u = g.S.LinkStore.heap c.number_printed.new.store in
    let names = c.args.names.now in
    let table = c.args.plain.now.rules in
    let valid = own.valid_same s t c.choose_items.ensures.marks c.root-chosen.ensures.sound c.requires.valid in
    let is = (some_line names table s t u c.requires.valid valid (other_own_marks s t c.choose_items.ensures.marks) c.choose_items.ensures.chosen c.number_printed.ensures.marks (c.number_printed.ensures.numbers names table)).1 in
    some_texts names table u (valid_same t u c.number_printed.ensures.marks c.root-numbered.ensures.sound valid) is.0 is.1 (membrane_and is.2 no_membrane) is.3

pub clear_all-requires : goal.clear_all-requires
clear_all-requires g c =
    let s = g.S.LinkStore.heap c.args.store.now in
    let t = g.S.LinkStore.heap c.choose_items.new.store in
    valid_same t (g.S.LinkStore.heap c.number_printed.new.store) c.number_printed.ensures.marks c.root-numbered.ensures.sound
    (own.valid_same s t c.choose_items.ensures.marks c.root-chosen.ensures.sound c.requires.valid)

pub returns-clause-writes : goal.returns-clause-writes
returns-clause-writes g c =
    let s = g.S.LinkStore.heap c.args.store.now in
    let t = g.S.LinkStore.heap c.choose_items.new.store in
    let u = g.S.LinkStore.heap c.number_printed.new.store in
    let names = c.args.names.now in
    let table = c.args.plain.now.rules in
    let valid = own.valid_same s t c.choose_items.ensures.marks c.root-chosen.ensures.sound c.requires.valid in
    writes_as (IsLineWith (AreItemTexts names u) names table u) (IsHeapLine true names table s) _ _ _ _ _
    (λ text is.
    line_by_marks names table u (valid_same t u c.number_printed.ensures.marks c.root-numbered.ensures.sound valid) text
    (printed_line names table s t u c.requires.valid valid (other_own_marks s t c.choose_items.ensures.marks) c.choose_items.ensures.chosen c.number_printed.ensures.marks (c.number_printed.ensures.numbers names table) text is))
    c.write_line_with-answer.ensures

pub returns-clause-kept : goal.returns-clause-kept
returns-clause-kept g c =
    back_again (g.S.LinkStore.heap c.args.store.now) (g.S.LinkStore.heap c.choose_items.new.store) (g.S.LinkStore.heap c.number_printed.new.store) (g.S.LinkStore.heap c.clear_all.new.store) c.requires.valid c.root-cleared.ensures.sound
    c.requires.unmarked c.clear_all.ensures.none c.choose_items.ensures.marks c.number_printed.ensures.marks c.clear_all.ensures.marks
