use Rattle.std.proofs.Common.{◌∙◌}
use Rattle.lmn_app_accepted.proofs.Loadable.{loadable}
use Rattle.lmn_receipt_reading.specs.Readings.{IsRest}
use Rattle.lmn_receipt_reading.specs.Seen.{seen}
use Rattle.lmn_receipt_reading.proofs.ReadingLemmas.{same_twice}
use Rattle.lmn_app.proofs.CheckLemmas.{printable_of, rules_fit}
use Rattle.lmn_app.proofs.ReadTraces.{chain_read, read_failed, read_same, wrong_read}
use Rattle.lmn_app.proofs.checking.count_lines.Goals as goal

pub check_lines-requires-clause-searched : goal.check_lines-requires-clause-searched
check_lines-requires-clause-searched g c =
    let read = c.args.accepted.now in
    (read.plans, rules_fit c.accepted_texts.ensures c.requires.accepted.0 c.args.names.now read.plain read.plans c.requires.accepted.1)

pub check_lines-requires-clause-named : goal.check_lines-requires-clause-named
check_lines-requires-clause-named g c =
    let read = c.args.accepted.now in
    let printable = printable_of c.accepted_texts.ensures c.plains_are_printable.ensures c.requires.accepted.0 c.args.names.now read.plain read.plans c.requires.accepted.1 in
    printable.named

pub check_lines-requires-clause-closed : goal.check_lines-requires-clause-closed
check_lines-requires-clause-closed g c =
    let read = c.args.accepted.now in
    let a = c.requires.accepted.1 in
    let can = loadable c.accepted_texts.ensures c.requires.accepted.0 c.args.names.now read.plain read.plans a.named a.accepted in
    can.closed

pub check_lines-requires-clause-lines : goal.check_lines-requires-clause-lines
check_lines-requires-clause-lines g c =
    let read = c.args.accepted.now in
    (c.in-Ok.ensures.ready, λ cuts. printable_of c.accepted_texts.ensures c.plains_are_printable.ensures c.requires.accepted.0 c.args.names.now read.plain read.plans c.requires.accepted.1)

pub returns-in-Ok-clause-same_reference : goal.returns-in-Ok-clause-same_reference
returns-in-Ok-clause-same_reference g c =
    let reads = c.check_lines.ensures.reads in
    (read_same g.F.Shelf.told g.F.Shelf.asked g.F.Shelf.faults c.fill.new.self c.check_lines.new.lines reads.0 reads.1).0 ∙ c.fill.ensures.same_reference

pub returns-in-Ok-clause-same : goal.returns-in-Ok-clause-same
returns-in-Ok-clause-same g c =
    let reads = c.check_lines.ensures.reads in
    let lines = seen g.F.Shelf.told g.F.Shelf.asked g.F.Shelf.faults in
    same_twice (lines c.args.lines.now) (lines c.fill.new.self) (lines c.check_lines.new.lines) c.fill.ensures.same
    (read_same g.F.Shelf.told g.F.Shelf.asked g.F.Shelf.faults c.fill.new.self c.check_lines.new.lines reads.0 reads.1).1

pub returns-in-Ok-clause-failed : goal.returns-in-Ok-clause-failed
returns-in-Ok-clause-failed g c = λ failed.
    let h = c.check_lines.ensures.failed failed in
    read_failed g.F.Shelf.told g.F.Shelf.asked g.F.Shelf.faults c.args.lines.now c.fill.new.self h.1 c.check_lines.new.lines h.0 c.fill.ensures.same h.2 h.3

pub returns-in-Ok-clause-chain : goal.returns-in-Ok-clause-chain
returns-in-Ok-clause-chain g c =
    let lines = seen g.F.Shelf.told g.F.Shelf.asked g.F.Shelf.faults in
    chain_read c.args.names.now c.args.accepted.now.plain (IsRest (lines c.fill.new.self)) (IsRest (lines c.args.lines.now)) c.in-Ok.ensures.on.rest c.check_lines.result c.check_lines.ensures.chain

pub returns-in-Ok-clause-wrong : goal.returns-in-Ok-clause-wrong
returns-in-Ok-clause-wrong g c =
    let lines = seen g.F.Shelf.told g.F.Shelf.asked g.F.Shelf.faults in
    wrong_read c.args.names.now c.args.accepted.now.plain (IsRest (lines c.fill.new.self)) (IsRest (lines c.args.lines.now)) c.in-Ok.ensures.on.rest c.check_lines.result c.check_lines.ensures.wrong
