-- What is seen of the lines of a text of a shelf.
use Rattle.std.specs.Prelude.{ℕ, List, Option}
use Rattle.lmn_io.specs.Texts.{Fetch}
use Rattle.lmn_receipt_reading.specs.declared.shelf_lines.ShelfLines.{ShelfLines}
use Rattle.lmn_receipt_reading.specs.Readings.{Reading}

-- of a shelf, by what is told of it, what it was asked for and what it counts
abbrev pub seen : {F : Type 0} → (F → Option (List ℕ → Option (List ℕ))) → (F → Option (List Fetch)) → (F → List ℕ → ℕ) → ShelfLines F → Reading
seen told asked faults s = record {
  told = told s.shelf.now;
  asked = asked s.shelf.now;
  faults = faults s.shelf.now;
  name = s.name.now;
  read = s.read;
  length = s.length;
  at_hand = s.window.now;
}
