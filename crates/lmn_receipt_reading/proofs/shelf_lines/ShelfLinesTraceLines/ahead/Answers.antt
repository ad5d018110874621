use Rattle.lmn_receipt_reading.specs.Seen.{seen}
use Rattle.lmn_receipt_reading.proofs.ReadingLemmas.{some_rest}
use Rattle.lmn_receipt_reading.proofs.shelf_lines.ShelfLinesTraceLines.ahead.Goals as goal

pub returns-clause-some : goal.returns-clause-some
returns-clause-some g c = some_rest (seen g.F.Shelf.told g.F.Shelf.asked g.F.Shelf.faults c.args.self.now) c.requires.right
