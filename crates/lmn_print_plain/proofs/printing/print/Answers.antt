use Rattle.lmn_io.proofs.WritingLemmas.{writes_as}
use Rattle.lmn_print_plain.specs.Writing.{IsPlainHeapLine, IsMarkedLineOf}
use Rattle.lmn_print_plain.proofs.KeptLemmas.{valid_same, line_same, kept_heap}
use Rattle.lmn_print_plain.proofs.MarkLemmas.{remarks_more}
use Rattle.lmn_print_plain.proofs.printing.print.Goals as goal

pub write_line-answer-requires : goal.write_line-answer-requires
write_line-answer-requires g c =
    valid_same (g.S.LinkStore.heap c.args.store.now) (g.S.LinkStore.heap c.number_links.new.store) c.number_links.ensures.marks c.root-numbered.ensures.sound c.requires.valid

pub clear_numbers-requires : goal.clear_numbers-requires
clear_numbers-requires g c =
    valid_same (g.S.LinkStore.heap c.args.store.now) (g.S.LinkStore.heap c.number_links.new.store) c.number_links.ensures.marks c.root-numbered.ensures.sound c.requires.valid

pub returns-clause-writes : goal.returns-clause-writes
returns-clause-writes g c =
    let s = g.S.LinkStore.heap c.args.store.now in
    let t = g.S.LinkStore.heap c.number_links.new.store in
    writes_as (IsMarkedLineOf c.args.names.now c.args.plain.now.rules t) (IsPlainHeapLine c.args.names.now c.args.plain.now.rules s) _ _ _ _ _
    (line_same c.args.names.now c.args.plain.now.rules s t c.number_links.ensures.marks (c.number_links.ensures.numbers c.requires.unmarked)) c.write_line-answer.ensures

pub returns-clause-kept : goal.returns-clause-kept
returns-clause-kept g c =
    let s = g.S.LinkStore.heap c.args.store.now in
    let t = g.S.LinkStore.heap c.number_links.new.store in
    let u = g.S.LinkStore.heap c.clear_numbers.new.store in
    kept_heap s u (remarks_more s t u c.number_links.ensures.marks c.clear_numbers.ensures.marks) c.requires.valid.sound.shaped c.root-cleared.ensures.sound.shaped c.requires.unmarked c.clear_numbers.ensures.none
