use Rattle.std.proofs.Common.{◌-◌, ◌≡◌}
use Rattle.lmn_receipt_reading.specs.Readings.{IsOfSame, ReadsOn}
use Rattle.lmn_receipt_reading.specs.Seen.{seen}
use Rattle.lmn_receipt_reading.proofs.shelf_lines.ShelfLines.fill.Given as goal

abbrev pub invariant-loop-self : goal.invariant-loop-self
invariant-loop-self g l =
    (l.self.shelf.ghost_name ≡ l.fn.self.shelf.ghost_name)
    × IsOfSame (seen g.F.Shelf.told g.F.Shelf.asked g.F.Shelf.faults l.fn.self) (seen g.F.Shelf.told g.F.Shelf.asked g.F.Shelf.faults l.self)
    × ReadsOn (seen g.F.Shelf.told g.F.Shelf.asked g.F.Shelf.faults l.fn.self) (seen g.F.Shelf.told g.F.Shelf.asked g.F.Shelf.faults l.self)

abbrev pub decreases-loop-self : goal.decreases-loop-self
decreases-loop-self g l = l.self.length - l.self.read
