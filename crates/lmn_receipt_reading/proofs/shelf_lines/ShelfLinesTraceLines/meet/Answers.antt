use Rattle.std.proofs.Common.{ap}
use Rattle.lmn_receipt_reading.specs.Readings.{ReadsOn}
use Rattle.lmn_receipt_reading.specs.Seen.{seen}
use Rattle.lmn_receipt_reading.proofs.ReadingLemmas.{passed_rest, where_ok}
use Rattle.lmn_receipt_reading.proofs.shelf_lines.ShelfLinesTraceLines.meet.Goals as goal

pub returns-clause-rest : goal.returns-clause-rest
returns-clause-rest g c =
    let before = seen g.F.Shelf.told g.F.Shelf.asked g.F.Shelf.faults c.args.self.now in
    let after = seen g.F.Shelf.told g.F.Shelf.asked g.F.Shelf.faults c.fill.new.self in
    where_ok c.fill.result (ReadsOn (record before { at_hand = c.pass.new.self }) after) _
    (λ on. λ rest h. passed_rest before c.pass.new.self c.args.len (ap (λ w. w.ahead) c.pass.ensures) rest (on.rest rest h)) c.fill.ensures.on
